use Rattle.std.proofs.Common.{◌≡◌, ◌+◌, cond, Option, ℤ, sym, ap, subst, ◌∙◌}
use Rattle.lw_grammar.specs.Statements.{CallLine, is_hook_number}
use Rattle.lw_grammar.specs.Told.{and_names, makes_super, and_hook, left_open_by, told}
use Rattle.std.specs.Bool.{IsTrue}
use Rattle.lw_statements.specs.StatementMeaning.{act_meaning, layers_meaning}
use Rattle.lw_reader.specs.CallParts.{first_place, second_place, AreNoted}
use Rattle.lw_reader.proofs.CallLines.{hook_fits, groups_kept, calls_kept}
use Rattle.lw_reader.proofs.state.TasksRead.add_call.Goals as goal

pub note_hook-requires : goal.note_hook-requires
note_hook-requires c =
    let ls = layers_meaning c.args.layers in
    let P : Option ℤ → Type 0 = λ o. IsTrue (is_hook_number o) in
    subst P (sym (c.hook.ensures ls)) (hook_fits ls (act_meaning c.args.act.now) c.requires.range)

pub returns : goal.returns
returns c = λ above h s.
    let ls = layers_meaning c.args.layers in
    let act = act_meaning c.args.act.now in
    let first : c.in_ok-slot.slot ≡ first_place (told above).names ls = c.in_ok-slot.ensures.first ∙ ap (λ ns. first_place ns ls) s.names in
    let second : c.in_ok-slot.other ≡ second_place (told above).names ls = c.in_ok-slot.ensures.second ∙ ap (λ ns. second_place ns ls) s.names in
    let P : Option ℤ → Type 0 = λ o. AreNoted c.note_hook.new.hooks_named.keys (and_hook o (told above).names_hook) in
    record {
      tasks = s.tasks;
      names = c.in_ok-slot.ensures.names ∙ ap (λ ns. and_names ns ls) s.names;
      names_without_slot = s.names_without_slot;
      pairs = s.pairs;
      supers = c.supers_with-self.ensures ls ∙ ap (λ n. cond (makes_super (CallLine ls act)) 1 0 + n) s.supers;
      names_hook = subst P (c.hook.ensures ls) (c.in_ok-note_hook.ensures (told above).names_hook s.names_hook);
      group = c.group_below-self.ensures ∙ ap (left_open_by ls act) s.group;
      calls_before_group = c.began_below-self.ensures above s.calls_before_group s.calls_in_task ls;
      calls_in_task = ap (λ n. n + 1) s.calls_in_task;
      calls = calls_kept above ls act _ _ _ _ _ c.requires.made s.calls first second (c.in_ok-call.ensures (told above).bitmap_names h) c.in_ok-put_last.ensures;
      groups = groups_kept above ls act _ _ _ _ _ c.requires.made s.groups s.calls_before_group s.calls_in_task first c.in_ok-end_update.ensures;
    }
