use Rattle.std.proofs.Common.{List, refl, sym, subst, ◌∙◌, OnOk}
use Rattle.lw_grammar.specs.Statements.{Statement}
use Rattle.lw_grammar.specs.Told.{told}
use Rattle.lw_grammar.specs.Script.{added}
use Rattle.lw_reader.specs.ReaderKnows.{known}
use Rattle.lw_reader.specs.Represents.{Represents, CanAddAll}
use Rattle.lw_line_additions.proofs.AreasAdded.{lines_without, lines_in_group, lines_in_none}
use Rattle.lw_line_additions.proofs.areas.add_area.Goals as goal

pub returns-then-is_empty : goal.returns-then-is_empty
returns-then-is_empty c = λ s above k.
    let P : List Statement → Type 0 = λ fs. OnOk c.add_name_without_slot.result (Represents s c.add_name_without_slot.new.reader (added fs above)) in
    subst P (sym (lines_without (told above).group c.args.layer.now c.args.rects.now (sym c.is_empty.ensures ∙ c.if-is_empty.true))) (c.add_name_without_slot.ensures s above k)

pub add_fills-requires : goal.add_fills-requires
add_fills-requires c =
    let r = c.args.reader.now in
    let grouped = sym c.is_some.ensures ∙ c.if-is_some.true in
    let some = sym c.is_empty.ensures ∙ c.if-is_empty.false in
    subst (CanAddAll r) (lines_in_group r.tasks.group (known r).group c.args.layer.now c.args.rects.now refl grouped some) c.requires

pub returns-then-is_some : goal.returns-then-is_some
returns-then-is_some c = λ s above k.
    let group = c.args.reader.now.tasks.group in
    let grouped = sym c.is_some.ensures ∙ c.if-is_some.true in
    let some = sym c.is_empty.ensures ∙ c.if-is_empty.false in
    let P : List Statement → Type 0 = λ fs. OnOk c.add_fills.result (Represents s c.add_fills.new.reader (added fs above)) in
    subst P (sym (lines_in_group group (told above).group c.args.layer.now c.args.rects.now k.tasks.group grouped some)) (c.add_fills.ensures s above k)

pub add_locked_fills-requires : goal.add_locked_fills-requires
add_locked_fills-requires c =
    let r = c.args.reader.now in
    let closed = sym c.is_some.ensures ∙ c.if-is_some.false in
    let some = sym c.is_empty.ensures ∙ c.if-is_empty.false in
    subst (CanAddAll r) (lines_in_none r.tasks.group (known r).group c.args.layer.now c.args.rects.now refl closed some) c.requires

pub returns : goal.returns
returns c = λ s above k.
    let group = c.args.reader.now.tasks.group in
    let closed = sym c.is_some.ensures ∙ c.if-is_some.false in
    let some = sym c.is_empty.ensures ∙ c.if-is_empty.false in
    let P : List Statement → Type 0 = λ fs. OnOk c.add_locked_fills.result (Represents s c.add_locked_fills.new.reader (added fs above)) in
    subst P (sym (lines_in_none group (told above).group c.args.layer.now c.args.rects.now k.tasks.group closed some)) (c.add_locked_fills.ensures s above k)
