use Rattle.std.proofs.Common.{◌≡◌, get_or, set, sym, ap, subst, ◌∙◌}
use Rattle.std.proofs.lemmas.List.{get_or_default}
use Rattle.lw_layer.specs.View.{CellView}
use Rattle.lw_engine.specs.Desks.{no_cell, cell_at}
use Rattle.lw_engine.specs.Slots.{IsSettled}
use Rattle.lw_engine.proofs.all_layers.settle_one.Goals as goal

pub settle-requires-clause-settled : goal.settle-requires-clause-settled
settle-requires-clause-settled g c =
    let slots = c.args.slots.now in
    let q = c.args.ready.now.slot in
    let d = c.index-slots-place.result in
    let glyphs = c.args.assets.now.glyphs in
    let here : get_or slots c.slot-place.result d ≡ cell_at slots q =
    ap (λ n. get_or slots n d) c.slot-place.ensures ∙ get_or_default slots q d no_cell c.requires.low
    in
    let P : CellView → Type 0 = λ v. IsSettled glyphs v c.requires.settled.0 c.args.ready.now in
    (c.requires.settled.0, subst P (sym here) c.requires.settled.1)

pub returns-clause-settled : goal.returns-clause-settled
returns-clause-settled g c =
    λ to is.
    let slots = c.args.slots.now in
    let q = c.args.ready.now.slot in
    let d = c.index-slots-place.result in
    let glyphs = c.args.assets.now.glyphs in
    let here : get_or slots c.slot-place.result d ≡ cell_at slots q =
    ap (λ n. get_or slots n d) c.slot-place.ensures ∙ get_or_default slots q d no_cell c.requires.low
    in
    let P : CellView → Type 0 = λ v. IsSettled glyphs v to c.args.ready.now in
    ap (λ n. set slots n c.settle.new.self) c.slot-place.ensures ∙ ap (set slots q) (c.settle.ensures.settled to (subst P (sym here) is))
