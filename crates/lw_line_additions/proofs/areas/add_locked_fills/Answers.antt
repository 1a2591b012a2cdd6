use Rattle.std.proofs.Common.{List, [], ◌∷◌, ◌++◌, sym, subst}
use Rattle.lw_grammar.specs.Statements.{Statement, LockLine, UnlockLine}
use Rattle.lw_grammar.specs.Told.{fill_lines}
use Rattle.lw_grammar.specs.Script.{added}
use Rattle.lw_grammar.specs.GoodLines.{AreGoodLines}
use Rattle.lw_grammar.proofs.AreaLines.{added_parts, front_good}
use Rattle.lw_reader.specs.Represents.{Represents}
use Rattle.lw_line_additions.proofs.AreasAdded.{first_addable}
use Rattle.lw_line_additions.proofs.Passing.{on_done}
use Rattle.lw_line_additions.proofs.areas.add_locked_fills.Goals as goal

pub add_lock-requires : goal.add_lock-requires
add_lock-requires c =
    let l = c.args.layer.now in
    first_addable c.args.reader.now (LockLine l) (fill_lines l c.args.rects.now ++ UnlockLine l ∷ []) c.requires

pub add_fills-requires : goal.add_fills-requires
add_fills-requires c =
    let l = c.args.layer.now in
    let h = c.requires in
    let locked = LockLine l ∷ h.1 in
    (h.0, locked, c.in_ok-add_lock.ensures h.0 h.1 h.2, front_good h.0 (fill_lines l c.args.rects.now) (UnlockLine l ∷ []) locked h.3)

pub add_unlock-requires : goal.add_unlock-requires
add_unlock-requires c =
    let l = c.args.layer.now in
    let h = c.requires in
    let fills = fill_lines l c.args.rects.now in
    let locked = LockLine l ∷ h.1 in
    let filled = c.in_ok-add_fills.ensures h.0 locked (c.in_ok-add_lock.ensures h.0 h.1 h.2) in
    (h.0, added fills locked, filled, subst (AreGoodLines h.0) (added_parts fills (UnlockLine l ∷ []) locked) h.3)

pub returns : goal.returns
returns c = λ s above k.
    let l = c.args.layer.now in
    let fills = fill_lines l c.args.rects.now in
    let locked = LockLine l ∷ above in
    let filled = c.in_ok-add_fills.ensures s locked (c.in_ok-add_lock.ensures s above k) in
    let P : List Statement → Type 0 = λ all. Represents s c.add_unlock.new.reader all in
    on_done c.add_unlock.result _ _ (subst P (sym (added_parts fills (UnlockLine l ∷ []) locked))) (c.add_unlock.ensures s (added fills locked) filled)
