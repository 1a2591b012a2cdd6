use Rattle.std.proofs.Common.{◌≡◌, length, sym, ap, subst, ◌∙◌, arith}
use Rattle.lw_stack.specs.declared.sets.SlotSet.{SlotSet}
use Rattle.lw_stack.specs.Sets.{AreOfOthers}
use Rattle.lw_stack.proofs.SetsLaws.{none_of, set_at, take_whole}
use Rattle.lw_stack.proofs.sets.region_of.Goals as goal

pub returns-then-place-parts : goal.returns-then-place-parts
returns-then-place-parts c =
    let parts = c.args.parts.now in
    let place = c.place_of-place in
    let part = c.index-parts-place in
    let own = ap (λ (p : SlotSet). p.slot) part.is ∙ place.ensures.own part.result c.if-place-parts.true in
    ap (λ (p : SlotSet). p.set) (sym part.is)
    ∙ sym (set_at c.args.slot parts place.result part.result c.if-place-parts.true part.is place.ensures.others own)

pub returns : goal.returns
returns c =
    let parts = c.args.parts.now in
    let place = c.place_of-place in
    let end : place.result ≡ length parts = omega (arith, c.if-place-parts.false, place.ensures.within) in
    c.requires
    ∙ sym (none_of c.args.slot parts (subst (AreOfOthers c.args.slot) (take_whole parts place.result end) place.ensures.others))
