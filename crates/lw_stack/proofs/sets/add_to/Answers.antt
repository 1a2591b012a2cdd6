use Rattle.std.proofs.Common.{◌≡◌, ◌<◌, [], ◌||◌, length, refl, sym, ap, subst, ◌∙◌, arith}
use Rattle.std.proofs.lemmas.Bool.{eqb-true}
use Rattle.std.proofs.lemmas.Result.{on_ok_weaker}
use Rattle.lw_region.specs.Bands.{covers}
use Rattle.lw_region.proofs.Canonical.{covers_nil}
use Rattle.lw_stack.specs.declared.sets.SlotSet.{SlotSet}
use Rattle.lw_stack.specs.Sets.{set_of, AreOfOthers, AreOfSlots, IsPlaceOf}
use Rattle.lw_stack.proofs.SetsLaws.{none_of, set_at, set_changed, slots_changed, slots_more, set_more, pixels_added, take_whole}
use Rattle.lw_stack.proofs.sets.add_to.Goals as goal

pub returns-then-place-len-clause-slots : goal.returns-then-place-len-clause-slots
returns-then-place-len-clause-slots c =
    let parts = c.args.parts.now.items in
    let place = c.place_of-place.result in
    let here = subst (λ ps. IsPlaceOf c.args.slot ps place) c.as_slice.ensures.value c.place_of-place.ensures in
    let listed : place < length c.as_slice.result.now = omega (arith, c.if-place-len.true, c.len.ensures, c.as_slice.ensures.len) in
    let below : place < length parts = subst (λ ps. place < length ps) c.as_slice.ensures.value listed in
    let was = c.index_mut.result.now in
    let new = c.add_at.new.part in
    let own : new.slot ≡ c.args.slot =
    c.add_at.ensures.slot ∙ (ap (λ (p : SlotSet). p.slot) c.index_mut.ensures.value ∙ here.own was below) in
    λ n _ h. slots_changed n parts place new h (own ∙ sym (here.own new below))

pub returns-then-place-len-clause-sets : goal.returns-then-place-len-clause-sets
returns-then-place-len-clause-sets c =
    let parts = c.args.parts.now.items in
    let slot = c.args.slot in
    let place = c.place_of-place.result in
    let here = subst (λ ps. IsPlaceOf slot ps place) c.as_slice.ensures.value c.place_of-place.ensures in
    let listed : place < length c.as_slice.result.now = omega (arith, c.if-place-len.true, c.len.ensures, c.as_slice.ensures.len) in
    let below : place < length parts = subst (λ ps. place < length ps) c.as_slice.ensures.value listed in
    let was = c.index_mut.result.now in
    let new = c.add_at.new.part in
    let own_was : was.slot ≡ slot = ap (λ (p : SlotSet). p.slot) c.index_mut.ensures.value ∙ here.own was below in
    let own : new.slot ≡ slot = c.add_at.ensures.slot ∙ own_was in
    on_ok_weaker c.add_at.result
    (λ added s x y.
    ap (λ l. covers l x y) (set_changed slot parts place new s below here.others (here.own new below) own)
    ∙ pixels_added slot s (set_of parts s) was.set new.set c.args.region
    (λ same. sym (ap (λ k. set_of parts k) (sym (eqb-true slot s same))
    ∙ set_at slot parts place was below c.index_mut.ensures.value here.others own_was)) added x y)
    c.add_at.ensures.set

pub returns-clause-slots : goal.returns-clause-slots
returns-clause-slots c =
    let parts = c.args.parts.now.items in
    let slot = c.args.slot in
    let place = c.place_of-place.result in
    let here = subst (λ ps. IsPlaceOf slot ps place) c.as_slice.ensures.value c.place_of-place.ensures in
    let listed : place ≡ length c.as_slice.result.now =
    omega (arith, c.if-place-len.false, c.len.ensures, c.as_slice.ensures.len, c.place_of-place.ensures.within) in
    let end : place ≡ length parts = listed ∙ ap length c.as_slice.ensures.value in
    let others : AreOfOthers slot parts = subst (AreOfOthers slot) (take_whole parts place end) here.others in
    λ n below h.
    subst (AreOfSlots n) (sym c.in_ok-push.ensures.items)
    (slots_more n parts (record { slot = slot; set = c.args.region }) h below others)

pub returns-clause-sets : goal.returns-clause-sets
returns-clause-sets c =
    let parts = c.args.parts.now.items in
    let slot = c.args.slot in
    let region = c.args.region in
    let place = c.place_of-place.result in
    let here = subst (λ ps. IsPlaceOf slot ps place) c.as_slice.ensures.value c.place_of-place.ensures in
    let listed : place ≡ length c.as_slice.result.now =
    omega (arith, c.if-place-len.false, c.len.ensures, c.as_slice.ensures.len, c.place_of-place.ensures.within) in
    let end : place ≡ length parts = listed ∙ ap length c.as_slice.ensures.value in
    let others : AreOfOthers slot parts = subst (AreOfOthers slot) (take_whole parts place end) here.others in
    λ s x y.
    ap (λ ps. covers (set_of ps s) x y) c.in_ok-push.ensures.items
    ∙ (ap (λ l. covers l x y) (set_more slot parts (record { slot = slot; set = region }) s others refl)
    ∙ pixels_added slot s (set_of parts s) [] region region
    (λ same. sym (ap (λ k. set_of parts k) (sym (eqb-true slot s same)) ∙ none_of slot parts others))
    (λ i j. sym (ap (λ b. b || covers region i j) (covers_nil i j))) x y)
