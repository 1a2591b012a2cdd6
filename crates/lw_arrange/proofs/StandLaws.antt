-- A slot after a planned arrangement, in the machine's words, stands for its part of the desk after it.
use Rattle.std.proofs.Common.{◌≡◌, ℕ, ◌==◌, Bool, true, false, List, [], ◌∷◌, Option, Some, None, refl, sym, ap, subst, ◌∙◌, ⊎_elim, ℤ, IsTrue}
use Rattle.std.specs.Prelude.{if◌then◌else◌}
use Rattle.std.specs.List.{find}
use Rattle.std.proofs.lemmas.Bool.{eqb-true}
use Rattle.lw_region.specs.Rectangle.{Rectangle, has_pixel}
use Rattle.lw_region.specs.Bands.{covers}
use Rattle.lw_region.proofs.Canonical.{covers_nil}
use Rattle.lw_calls.specs.declared.sizes.Sizes.{Sizes}
use Rattle.lw_calls.specs.declared.call.Call.{Call}
use Rattle.lw_calls.specs.declared.call.Call.TheVariants.{InFrontOf}
use Rattle.lw_calls.specs.Limits.{call_fits}
use Rattle.lw_calls.specs.Touches.{is_arrangement}
use Rattle.lw_machine.specs.Hook.{Hook}
use Rattle.lw_machine.specs.Layer.{Layer, Slot, Unopened, Live, Closed, is_live, layer_is, is_window}
use Rattle.lw_machine.specs.Desk.{Desk, is_the}
use Rattle.lw_machine.specs.Screen.{bounds_have, screen_bounds, top, is_shown}
use Rattle.lw_machine.specs.Arrangement.{bounds_of, without, put_before, reordered, hook_from, new_layer, arranged}
use Rattle.lw_machine.specs.Reveal.{has_bounds, across, settled_layer, settled}
use Rattle.lw_machine.specs.Parts.{SlotPart, slot_part}
use Rattle.lw_machine.specs.Step.{refusal}
use Rattle.lw_machine.specs.Sound.{IsDesk, active_is_window}
use Rattle.lw_layer.specs.View.{State, CellView}
use Rattle.lw_layer.specs.View as view
use Rattle.lw_layer.specs.Drafts.{no_layer}
use Rattle.lw_layer.specs.StandsFor.{IsPartOf, StandsFor}
use Rattle.lw_layer.proofs.SoundLaws.{live_part}
use Rattle.lw_stack.specs.Stack.{bounds_at}
use Rattle.lw_stack.proofs.ListLaws.{shown_is_top}
use Rattle.lw_stack.proofs.ListedLaws.{shown_places}
use Rattle.lw_arrange.specs.Arrangements.{ArrangementView, IsArrangement}
use Rattle.lw_arrange.specs.Arranged.{IsArrangementOf}
use Rattle.lw_arrange.specs.Prepared.{Created, created_by, without_layer, shown_at}
use Rattle.lw_arrange.specs.Filled.{hook_asked}
use Rattle.lw_arrange.specs.Settled.{across_arrangement, settled_live, settled_new, new_of, settled_with, settled_by, slot_settled}
use Rattle.lw_arrange.proofs.SettledLaws.{each_settled, across_is}
use Rattle.lw_arrange.proofs.CellLaws.{Stays, Opens, Closes, slot_becomes}

-- A planned arrangement of a sound desk, as it is done.
pub record IsDone (d : Desk) (caller : ℕ) (made : Call) (a : ArrangementView) : Type 0 where
  pub sound : IsDesk d
  pub settled : IsDesk (settled d (arranged d caller made))
  pub fits : IsTrue (call_fits d.sizes made)
  pub all : is_arrangement made ≡ true
  pub unrefused : refusal d caller made ≡ None
  pub planned : IsArrangement a
  pub plan : IsArrangementOf d caller made a
  pub sizes : a.stack.sizes ≡ d.sizes

-- bounds that are there
pub there : (o : Option Rectangle) → has_bounds o ≡ true → (r : Rectangle) × (o ≡ Some r)
there None has = absurd (cc has)
there (Some r) has = (r, refl)

pub gone : (o : Option Rectangle) → has_bounds o ≡ false → o ≡ None
gone None has = refl
gone (Some r) has = absurd (cc has)

-- an arrangement leaves the sizes
arranged_sizes : (d : Desk) (task : ℕ) (call : Call) → (arranged d task call).sizes ≡ d.sizes
arranged_sizes d task (InFrontOf slot other) = by_test (slot == other)
  where
    by_test : (b : Bool) → (if b then d else reordered d (put_before (λ t. t == other) slot (without slot d.front_to_back))).sizes ≡ d.sizes
    by_test true = refl
    by_test false = refl
arranged_sizes d task call = refl

-- the settled desk shows what the arranged one does
shown_settled : (d a : Desk) (s : ℕ) (x y : ℤ) → is_shown (settled d a) s x y ≡ is_shown a s x y
unfolding top
shown_settled d a s x y = refl

-- what is shown of a slot afterwards
pub shown_after : (d : Desk) (caller : ℕ) (made : Call) (a : ArrangementView) (s : ℕ) (x y : ℤ) → IsDone d caller made a → has_bounds (bounds_at a.stack.bounds s) ≡ true → is_shown (arranged d caller made) s x y ≡ covers (shown_at a s) x y
shown_after d caller made a s x y done has =
    shown_is_top a.stack (arranged d caller made) (arranged_sizes d caller made ∙ sym done.sizes) done.plan.info s x y
    ∙ sym (shown_places a.stack s x y)

-- what a cell stands for says whether it is live
pub not_dead : (c : CellView) (p : SlotPart) → StandsFor c p → is_live p.slot ≡ true → c.state ≡ view.Live
not_dead c p stands live = go c.state stands
  where
    go : (q : State) → IsPartOf q c.live p → q ≡ view.Live
    go view.Unopened part = absurd (cc (part.0, live))
    go view.Live part = refl
    go view.Closed part = absurd (cc (part.0, live))

pub not_live : (c : CellView) (p : SlotPart) → StandsFor c p → is_live p.slot ≡ false → (c.state ≡ view.Live → ⊥) × (p.bounds ≡ None)
not_live c p stands free = go c.state stands
  where
    go : (q : State) → IsPartOf q c.live p → (q ≡ view.Live → ⊥) × (p.bounds ≡ None)
    go view.Unopened part = (λ live. cc live, part.1)
    go view.Live part = absurd (cc (part.slot, free))
    go view.Closed part = (λ live. cc live, part.1)

-- no slot without a layer is the active window
pub idle_slot : (d : Desk) (s : ℕ) → IsDesk d → is_live (d.slot s) ≡ false → is_the d.active s ≡ false
idle_slot d s ok dead = go d.active ok.active
  where
    window_live : (x : Slot) → layer_is (λ l. is_window l.window) x ≡ true → is_live x ≡ true
    window_live Unopened h = absurd (cc h)
    window_live (Live l) h = refl
    window_live Closed h = absurd (cc h)

    step : (n : ℕ) (b : Bool) → (n == s) ≡ b → is_live (d.slot n) ≡ true → b ≡ false
    step n true e live = absurd (cc (ap (λ k. is_live (d.slot k)) (eqb-true n s e), live, dead))
    step n false e live = refl

    go : (o : Option ℕ) → active_is_window d o ≡ true → is_the o s ≡ false
    go None h = refl
    go (Some n) h = step n (n == s) refl (window_live (d.slot n) h)

-- what is found passes the test
find_passes : (test : ℕ → Bool) (ns : List ℕ) (n : ℕ) → find test ns ≡ Some n → test n ≡ true
find_passes test [] n is = absurd (cc is)
find_passes test (m ∷ ms) n is = step (test m) refl (λ h. find_passes test ms n h) is
  where
    option_or : Option ℕ → ℕ → ℕ
    option_or None k = k
    option_or (Some k) j = k

    step : (b : Bool) → test m ≡ b → (find test ms ≡ Some n → test n ≡ true) → (if b then Some m else find test ms) ≡ Some n → test n ≡ true
    step true e rest h = ap test (sym (ap (λ o. option_or o m) h)) ∙ e
    step false e rest h = rest h

-- what is shown of a slot without bounds
pub shown_nowhere : (d : Desk) (s : ℕ) (x y : ℤ) → d.bounds s ≡ None → is_shown d s x y ≡ false
unfolding top
shown_nowhere d s x y none = by_screen (has_pixel (screen_bounds d.sizes) x y)
  where
    step : (n : ℕ) (b : Bool) → (n == s) ≡ b → bounds_have (d.bounds n) x y ≡ true → b ≡ false
    step n true e has = absurd (cc (ap (λ k. bounds_have (d.bounds k) x y) (eqb-true n s e), ap (λ o. bounds_have o x y) none, has))
    step n false e has = refl

    go : (o : Option ℕ) → find (λ t. bounds_have (d.bounds t) x y) d.front_to_back ≡ o → is_the o s ≡ false
    go None is = refl
    go (Some n) is = step n (n == s) refl (find_passes (λ t. bounds_have (d.bounds t) x y) d.front_to_back n is)

    by_screen : (b : Bool) → is_the (if b then find (λ t. bounds_have (d.bounds t) x y) d.front_to_back else None) s ≡ false
    by_screen true = go (find (λ t. bounds_have (d.bounds t) x y) d.front_to_back) refl
    by_screen false = refl

-- what the plan leaves active is the desk's
active_after : (d : Desk) (caller : ℕ) (made : Call) (a : ArrangementView) (s : ℕ) → IsDone d caller made a
    → is_the (arranged d caller made).active s ≡ is_the a.stack.active s
active_after d caller made a s done = ap (λ o. is_the o s) done.plan.info.active

-- The slot of a layer that stays live.
stays_live : (d : Desk) (caller : ℕ) (made : Call) (a : ArrangementView) (c : CellView) (h : Option Hook) → IsDone d caller made a
    → c.state ≡ view.Live → StandsFor c (slot_part d c.number) → Stays d (arranged d caller made) c.number
    → StandsFor (slot_settled d.assets.glyphs a h c) (slot_part (settled d (arranged d caller made)) c.number)
stays_live d caller made a c h done live stands stays =
    let s = c.number in
    let e = arranged d caller made in
    let glyphs = d.assets.glyphs in
    let part = live_part c (slot_part d s) live stands in
    let place = there (e.bounds s) (stays.bounds ∙ ap has_bounds part.bounds) in
    let r = place.0 in
    let planned : bounds_at a.stack.bounds s ≡ Some r = sym (done.plan.info.bounds s) ∙ place.1 in
    let q = across_arrangement a s (Some c.live.bounds) c.live r in
    let shown : (x y : ℤ) → is_shown e s x y ≡ covers (shown_at a s) x y =
    λ x y. shown_after d caller made a s x y done (ap has_bounds planned) in
    let same : across d e s ≡ q =
    across_is d e s q part.bounds place.1 part.shown shown part.active (active_after d caller made a s done) in
    let to : CellView = record { number = s; state = view.Live; live = settled_live glyphs a s c.live r } in
    let after : slot_settled glyphs a h c ≡ to =
    ap (settled_by glyphs a h c) planned ∙ ap (settled_with glyphs a h c r) live in
    let P : CellView → Type 0 = λ v. StandsFor v (slot_part (settled d e) s) in
    subst P (sym after)
    (record {
      slot =
          each_settled d e s (Live c.live.layer) done.settled (stays.slot ∙ part.slot)
          ∙ ap (λ k. Live (settled_layer glyphs k c.live.layer)) same;
      bounds = place.1;
      shown = λ x y. shown_settled d e s x y ∙ shown x y;
      active = active_after d caller made a s done;
    })

-- The slot that stays without a layer.
stays_dead : (d : Desk) (caller : ℕ) (made : Call) (a : ArrangementView) (c : CellView) (h : Option Hook) → IsDone d caller made a
    → (c.state ≡ view.Live → ⊥) → StandsFor c (slot_part d c.number) → Stays d (arranged d caller made) c.number
    → StandsFor (slot_settled d.assets.glyphs a h c) (slot_part (settled d (arranged d caller made)) c.number)
stays_dead d caller made a c h done dead stands stays = go c.state refl
  where
    e : Desk
    e = arranged d caller made

    s : ℕ
    s = c.number

    part : (q : State) → c.state ≡ q → IsPartOf q c.live (slot_part d s)
    part q is = let P : State → Type 0 = λ t. IsPartOf t c.live (slot_part d s) in subst P is stands

    -- it has no bounds afterwards, so it stays
    none_after : d.bounds s ≡ None → e.bounds s ≡ None
    none_after none = gone (e.bounds s) (stays.bounds ∙ ap has_bounds none)

    same : d.bounds s ≡ None → slot_settled d.assets.glyphs a h c ≡ without_layer c c.state
    same none = ap (settled_by d.assets.glyphs a h c) (sym (done.plan.info.bounds s) ∙ none_after none)

    left : (q : State) → c.state ≡ q → slot_settled d.assets.glyphs a h c ≡ c → IsPartOf q c.live (slot_part (settled d e) s)
        → StandsFor (slot_settled d.assets.glyphs a h c) (slot_part (settled d e) s)
    left q is here holds =
        let P : CellView → Type 0 = λ v. StandsFor v (slot_part (settled d e) s) in
        let Q : State → Type 0 = λ t. IsPartOf t c.live (slot_part (settled d e) s) in
        subst P (sym here) (subst Q (sym is) holds)

    go : (q : State) → c.state ≡ q → StandsFor (slot_settled d.assets.glyphs a h c) (slot_part (settled d e) s)
    go view.Unopened is =
        let was = part view.Unopened is in
        left view.Unopened is (same was.1 ∙ ap (without_layer c) is)
        (each_settled d e s Unopened done.settled (stays.slot ∙ was.0), none_after was.1)
    go view.Live is = absurd (dead is)
    go view.Closed is =
        let was = part view.Closed is in
        left view.Closed is (same was.1 ∙ ap (without_layer c) is)
        (each_settled d e s Closed done.settled (stays.slot ∙ was.0), none_after was.1)

-- The slot of a layer that is deleted.
closes_slot : (d : Desk) (caller : ℕ) (made : Call) (a : ArrangementView) (c : CellView) (h : Option Hook) → IsDone d caller made a
    → StandsFor c (slot_part d c.number) → Closes d (arranged d caller made) c.number
    → StandsFor (slot_settled d.assets.glyphs a h c) (slot_part (settled d (arranged d caller made)) c.number)
closes_slot d caller made a c h done stands closes =
    let s = c.number in
    let e = arranged d caller made in
    let live : c.state ≡ view.Live = not_dead c (slot_part d s) stands closes.was in
    let after : slot_settled d.assets.glyphs a h c ≡ record { number = s; state = view.Closed; live = no_layer } =
    ap (settled_by d.assets.glyphs a h c) (sym (done.plan.info.bounds s) ∙ closes.bounds) ∙ ap (without_layer c) live in
    let P : CellView → Type 0 = λ v. StandsFor v (slot_part (settled d e) s) in
    subst P (sym after) (each_settled d e s Closed done.settled closes.slot, closes.bounds)

-- the layer that the plan creates is the call's
pub created_is : (d : Desk) (caller : ℕ) (made : Call) (a : ArrangementView) (n : Created) → IsDone d caller made a
    → created_by caller made ≡ Some n → created_by a.task a.call ≡ Some n
created_is d caller made a n done asked =
    ap (λ t. created_by t a.call) done.plan.task ∙ (ap (created_by caller) done.plan.call ∙ asked)

-- a slot that isn't live has a new layer
settled_opened : (glyphs : List (List ℕ)) (a : ArrangementView) (h : Option Hook) (c : CellView) (r : Rectangle) (q : State) → (q ≡ view.Live → ⊥)
    → settled_with glyphs a h c r q ≡ record { number = c.number; state = view.Live; live = settled_new glyphs a c.number r (new_of (created_by a.task a.call) a.stack.sizes.depth h) }
settled_opened glyphs a h c r view.Unopened dead = refl
settled_opened glyphs a h c r view.Live dead = absurd (dead refl)
settled_opened glyphs a h c r view.Closed dead = refl

-- The slot of a layer that is created.
opens_slot : (d : Desk) (caller : ℕ) (made : Call) (a : ArrangementView) (c : CellView) (h : Option Hook) → IsDone d caller made a
    → StandsFor c (slot_part d c.number) → is_the d.active c.number ≡ false → (opens : Opens d (arranged d caller made) caller made c.number)
    → h ≡ hook_asked d.shelf (created_by a.task a.call)
    → StandsFor (slot_settled d.assets.glyphs a h c) (slot_part (settled d (arranged d caller made)) c.number)
opens_slot d caller made a c h done stands idle opens asked =
    let s = c.number in
    let e = arranged d caller made in
    let glyphs = d.assets.glyphs in
    let n = opens.created in
    let given = hook_from d.shelf n.make.hook in
    let new : Layer = new_layer d.sizes.depth n.make given n.window in
    let r = bounds_of n.make in
    let was = not_live c (slot_part d s) stands opens.free in
    let planned : bounds_at a.stack.bounds s ≡ Some r = sym (done.plan.info.bounds s) ∙ opens.bounds in
    let q = across_arrangement a s None no_layer r in
    let shown : (x y : ℤ) → is_shown e s x y ≡ covers (shown_at a s) x y =
    λ x y. shown_after d caller made a s x y done (ap has_bounds planned) in
    let same : across d e s ≡ q =
    across_is d e s q was.1 opens.bounds (λ x y. shown_nowhere d s x y was.1 ∙ sym (covers_nil x y)) shown idle
    (active_after d caller made a s done) in
    let created : created_by a.task a.call ≡ Some n = created_is d caller made a n done opens.asked in
    let layer : new_of (created_by a.task a.call) a.stack.sizes.depth h ≡ new =
    ap (λ o. new_of o a.stack.sizes.depth h) created
    ∙ (ap (λ (z : Sizes). new_layer z.depth n.make h n.window) done.sizes
    ∙ ap (λ k. new_layer d.sizes.depth n.make k n.window) (asked ∙ ap (hook_asked d.shelf) created)) in
    let to : CellView = record { number = s; state = view.Live; live = settled_new glyphs a s r new } in
    let after : slot_settled glyphs a h c ≡ to =
    ap (settled_by glyphs a h c) planned
    ∙ (settled_opened glyphs a h c r c.state was.0
    ∙ ap (λ l. record { number = s; state = view.Live; live = settled_new glyphs a s r l }) layer) in
    let P : CellView → Type 0 = λ v. StandsFor v (slot_part (settled d e) s) in
    subst P (sym after)
    (record {
      slot = each_settled d e s (Live new) done.settled opens.slot ∙ ap (λ k. Live (settled_layer glyphs k new)) same;
      bounds = opens.bounds;
      shown = λ x y. shown_settled d e s x y ∙ shown x y;
      active = active_after d caller made a s done;
    })

-- the hook of a new layer is the one that its call asks for, where the slot is opened
abbrev pub IsHookAsked : Desk → ArrangementView → CellView → Option Hook → Type 0
IsHookAsked d a c h =
    (c.state ≡ view.Live → ⊥) → has_bounds (bounds_at a.stack.bounds c.number) ≡ true → h ≡ hook_asked d.shelf (created_by a.task a.call)

-- The slot of a cell, which has the hook of its layer, stands after a planned arrangement for its part of the desk that is settled.
pub slot_stands : (d : Desk) (caller : ℕ) (made : Call) (a : ArrangementView) (c : CellView) (h : Option Hook) → IsDone d caller made a
    → StandsFor c (slot_part d c.number) → IsHookAsked d a c h
    → StandsFor (slot_settled d.assets.glyphs a h c) (slot_part (settled d (arranged d caller made)) c.number)
slot_stands d caller made a c h done stands asked =
    ⊎_elim (λ stays. by_state c.state refl stays)
    (λ rest. ⊎_elim
    (λ opens.
    opens_slot d caller made a c h done stands (idle_slot d c.number done.sound opens.free) opens
    (asked (not_live c (slot_part d c.number) stands opens.free).0
    (ap has_bounds (sym (done.plan.info.bounds c.number) ∙ opens.bounds))))
    (λ closes. closes_slot d caller made a c h done stands closes) rest)
    (slot_becomes d caller made c.number done.all done.unrefused)
  where
    by_state : (q : State) → c.state ≡ q → Stays d (arranged d caller made) c.number
        → StandsFor (slot_settled d.assets.glyphs a h c) (slot_part (settled d (arranged d caller made)) c.number)
    by_state view.Unopened is stays = stays_dead d caller made a c h done (λ live. cc (is, live)) stands stays
    by_state view.Live is stays = stays_live d caller made a c h done is stands stays
    by_state view.Closed is stays = stays_dead d caller made a c h done (λ live. cc (is, live)) stands stays
