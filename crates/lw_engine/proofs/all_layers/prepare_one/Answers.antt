use Rattle.std.proofs.Common.{◌≡◌, ◌<◌, sym, ap, subst, ◌∙◌, arith}
use Rattle.std.proofs.lemmas.List.{get_or_default}
use Rattle.std.proofs.lemmas.Result.{IfOk-weaker}
use Rattle.lw_layer.specs.View.{CellView}
use Rattle.lw_engine.specs.Desks.{no_cell, cell_at}
use Rattle.lw_engine.specs.Slots.{ReadyView, IsReadyFor, MayBeReady}
use Rattle.lw_engine.proofs.all_layers.prepare_one.Goals as goal

pub prepare-requires-clause-slot : goal.prepare-requires-clause-slot
prepare-requires-clause-slot g c =
    let k = c.args.slot in
    let one = c.index-slots-slot.result in
    let here = ap (λ (v : CellView). v.number) (c.index-slots-slot.is ∙ get_or_default c.args.slots.now k one no_cell c.requires.low) in
    let low : k < c.args.arrangement.now.stack.sizes.slots = omega (arith, c.requires.low, c.requires.cells.many) in
    let number = c.requires.cells.numbers k low in
    omega (arith, here, number, low)

pub prepare-requires-clause-may : goal.prepare-requires-clause-may
prepare-requires-clause-may g c =
    let k = c.args.slot in
    let here = c.index-slots-slot.is ∙ get_or_default c.args.slots.now k c.index-slots-slot.result no_cell c.requires.low in
    let P : CellView → Type 0 = λ v. MayBeReady c.args.arrangement.now v in
    subst P (sym here) (c.requires.may k c.requires.low)

pub returns : goal.returns
returns g c =
    let a = c.args.arrangement.now in
    let shelf = c.args.shelf.now in
    let slots = c.args.slots.now in
    let k = c.args.slot in
    let one : CellView = c.index-slots-slot.result in
    let low : k < a.stack.sizes.slots = omega (arith, c.requires.low, c.requires.cells.many) in
    let here : one ≡ cell_at slots k = c.index-slots-slot.is ∙ get_or_default slots k one no_cell c.requires.low in
    let P : ReadyView → Type 0 = λ r. IsReadyFor a shelf one r in
    let R : ReadyView → Type 0 = λ r. (r.slot ≡ k) × IsReadyFor a shelf (cell_at slots k) r in
    IfOk-weaker c.prepare.result P R
    (λ r made.
    let C : CellView → Type 0 = λ v. IsReadyFor a shelf v r in
    (made.slot ∙ (ap (λ (v : CellView). v.number) here ∙ c.requires.cells.numbers k low), subst C here made))
    c.prepare.ensures
