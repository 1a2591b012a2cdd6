-- What the reader knows of the lines that it has read, as far as the rule of a line asks.
use Rattle.std.specs.Prelude.{ℕ, List, ◌==◌, get_or, false, map, option_map}
use Rattle.std.specs.List.{list_any}
use Rattle.lw_calls.specs.declared.pair.Pair.{Pair}
use Rattle.lw_grammar.specs.Told.{Told, NamedPair as PairMeaning, pair_among, nothing_told}
use Rattle.lw_grammar.specs.Script.{Setting, reading_with}
use Rattle.lw_reader.specs.declared.state.NamedPair.{NamedPair}
use Rattle.lw_reader.specs.declared.state.Reader.{Reader}
use Rattle.lw_words.specs.Cuts.{targets}
use Rattle.lw_statements.specs.GroupMeaning.{group_meaning}
use Rattle.lw_statements.specs.SectionMeaning.{section_meaning}

-- a window of two layers by its names' bytes
abbrev pub pair_meaning : NamedPair → PairMeaning
pair_meaning p = record { outer = p.outer.now; inner = p.inner.now }

-- the same by its slots, where layers have these names
abbrev pub placed : List (List ℕ) → NamedPair → Pair
placed names p = pair_among names (pair_meaning p)

abbrev pub known : Reader → Told
known r =
    record nothing_told {
      version = r.version;
      section = section_meaning r.section;
      width = r.width;
      height = r.height;
      has_glyph = λ code. get_or r.assets.has_glyph code false;
      bitmap_names = targets r.assets.names.keys;
      row_width = r.assets.width;
      rows_due = r.assets.due;
      pattern_names = targets r.assets.pattern_names.keys;
      patterns = r.assets.patterns.items;
      tasks = targets r.tasks.task_names.keys;
      names = targets r.tasks.layer_names.keys;
      names_without_slot = targets r.tasks.names_without_slot.keys;
      pairs = map pair_meaning r.tasks.pairs.items;
      supers = r.tasks.supers;
      names_hook = λ n. list_any (λ m. n == m) r.tasks.hooks_named.keys;
      group = option_map group_meaning r.tasks.group;
      calls_before_group = r.tasks.calls_before_group;
      calls_in_task = r.tasks.calls_in_task;
    }

-- what it reads a script with
abbrev pub setting_of : Reader → Setting
setting_of r = reading_with r.hooks r.form
