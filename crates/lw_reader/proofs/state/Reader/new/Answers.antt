use Rattle.std.proofs.Common.{refl, ap, arith, replicate}
use Rattle.std.proofs.lemmas.List.{get_or-replicate}
use Rattle.lw_words.specs.Cuts.{targets}
use Rattle.lw_reader.proofs.Begun.{none_given}
use Rattle.lw_reader.proofs.state.Reader.new.Goals as goal

pub returns : goal.returns
returns c =
    record {
      hooks = refl;
      form = refl;
      version = refl;
      section = refl;
      width = refl;
      height = refl;
      depth = refl;
      assets = record {
        has_glyph = λ code. none_given 256 code;
        glyphs = λ i below. get_or-replicate 95 i (replicate 8 0) _ below;
        names = ap targets c.new.ensures.empty;
        width = refl;
        narrow = omega arith;
        due = refl;
        begun = λ h. absurd (omega arith);
        bitmaps = λ rows none. rw c.new-2.ensures.items refl;
        pattern_names = ap targets c.new-4.ensures.empty;
        patterns = c.new-5.ensures.items;
      };
      tasks = record {
        tasks = ap targets c.new-6.ensures.empty;
        names = ap targets c.new-7.ensures.empty;
        names_without_slot = ap targets c.new-8.ensures.empty;
        pairs = rw c.new-9.ensures.items refl;
        supers = refl;
        names_hook = λ n. rw c.new-10.ensures.empty refl;
        group = refl;
        calls_before_group = refl;
        calls_in_task = refl;
        calls = rw c.new-11.ensures.items refl;
        groups = rw c.new-12.ensures.items refl;
      };
      order = c.new-13.ensures.items;
    }
