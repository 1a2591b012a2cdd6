-- What is filled of a slot's layer are the pixels that it gains, where they haven't the pens already that they are to have.
use Rattle.std.proofs.Common.{◌≡◌, ℕ, ◌==◌, Bool, true, false, ◌&&◌, ◌||◌, List, [], length, Option, Some, None, is_some, ◌∙◌, refl, sym, ap, subst}
use Rattle.std.specs.Prelude.{if◌then◌else◌}
use Rattle.std.proofs.lemmas.Bool.{eqb-true, and_parts, not-false}
use Rattle.lw_region.specs.Rectangle.{Rectangle}
use Rattle.lw_region.specs.Banded.{IsCanonical}
use Rattle.lw_planes.specs.Bitmap.{IsBitmap}
use Rattle.lw_machine.specs.Hook.{Hook}
use Rattle.lw_machine.specs.Layer.{Layer, is_framed}
use Rattle.lw_machine.specs.Reveal.{width_in, height_in}
use Rattle.lw_machine.proofs.CreatedSound.{blank_bitmap}
use Rattle.lw_layer.specs.View.{State, LiveView, CellView, with_live, hooked}
use Rattle.lw_layer.specs.View as view
use Rattle.lw_layer.specs.Drafts.{no_layer}
use Rattle.lw_layer.specs.StandsFor.{IsSound}
use Rattle.lw_stack.specs.Stack.{bounds_at}
use Rattle.lw_arrange.specs.Arrangements.{ArrangementView}
use Rattle.lw_arrange.specs.Prepared.{Created, created_by, created_live, shown_at, cell_after, MayOpen}
use Rattle.lw_arrange.specs.Filled.{gains, gains_some, filled_layer, AreGained}
use Rattle.lw_arrange.proofs.BareLaws.{KeepsFrame, carried_bitmap, carried_bare, live_unfilled, new_unfilled}
use Rattle.lw_arrange.proofs.GainedRegions.{filled_region}
use Rattle.lw_arrange.proofs.GainsLaws.{stayed}
use Rattle.lw_engine.specs.Slots.{hook_in, bare, asked_hook, due_hook, filled_from, filled_as, is_sized, MayBeReady}
use Rattle.lw_engine.proofs.SettlingLaws.{none_filled, cell_is, cell_opened, state_of_cell, may_become}

-- a cell whose layer without a hook is as it is filled, where nothing is filled
left_as : (b e : CellView) (rects : List Rectangle) → IsBitmap e.live.layer.bits → e.live.layer.hook ≡ None → rects ≡ []
    → filled_layer None (λ x y. gains b e x y) (gains_some b e) e.live.layer ≡ e.live.layer → filled_from b None e ≡ with_live (filled_as None rects) e
left_as b e rects ok none empty unfilled =
    ap (λ (l : Layer). record e { live = record e.live { layer = l } }) unfilled
    ∙ (ap (λ o. hooked o e) none ∙ ap (λ (k : LiveView). record e { live = k }) (none_filled e.live None rects ok (ap (λ l. length l == 0) empty)))

-- the hook of a slot, where the code reads that there is none
no_hook_of : (o p : Option Hook) → false ≡ (is_some o || is_some p) → (o ≡ None) × (p ≡ None)
no_hook_of None None is = (refl, refl)
no_hook_of None (Some h) is = absurd (cc is)
no_hook_of (Some h) p is = absurd (cc is)

none_due : (a : ArrangementView) (shelf : List (Option Hook)) (c : CellView) (s : State) → false ≡ (is_some (hook_in c) || is_some (asked_hook shelf a.call c.number))
    → due_hook a shelf c s ≡ None
none_due a shelf c view.Unopened is = (no_hook_of (hook_in c) (asked_hook shelf a.call c.number) is).1
none_due a shelf c view.Live is = (no_hook_of (hook_in c) (asked_hook shelf a.call c.number) is).0
none_due a shelf c view.Closed is = (no_hook_of (hook_in c) (asked_hook shelf a.call c.number) is).1

abbrev no_rectangle : List Rectangle
no_rectangle = []

-- a size that stays
same_size : (r s : Rectangle) → is_sized r s ≡ false → (width_in (Some s) ≡ width_in (Some r)) × (height_in (Some s) ≡ height_in (Some r))
same_size r s stays =
    let both : ((width_in (Some r) == width_in (Some s)) && (height_in (Some r) == height_in (Some s))) ≡ true = not-false _ stays in
    let parts = and_parts (width_in (Some r) == width_in (Some s)) (height_in (Some r) == height_in (Some s)) both in
    (sym (eqb-true _ _ parts.0), sym (eqb-true _ _ parts.1))

pub filled_right : (a : ArrangementView) (shelf : List (Option Hook)) (c : CellView) (gained final : List Rectangle) (held sized : Bool) → MayBeReady a c
    → (c.state ≡ view.Live → IsSound (bare c).live) → ((c.state ≡ view.Live → ⊥) → (bare c).live ≡ no_layer) → IsCanonical final
    → final ≡ (if held || sized then gained else []) → held ≡ (is_some (hook_in c) || is_some (asked_hook shelf a.call c.number))
    → (held ≡ true → AreGained (bare c) (cell_after a (bare c)) gained)
    → (c.state ≡ view.Live → is_framed c.live.layer.window ≡ true → AreGained (bare c) (cell_after a (bare c)) gained)
    → (held ≡ false → is_framed c.live.layer.window ≡ false → gained ≡ [])
    → (c.state ≡ view.Live → (r : Rectangle) → bounds_at a.stack.bounds c.number ≡ Some r → sized ≡ is_sized c.live.bounds r)
    → (cell_after a (bare c)).state ≡ view.Live
    → filled_from (bare c) (due_hook a shelf c c.state) (cell_after a (bare c)) ≡ with_live (filled_as (due_hook a shelf c c.state) final) (cell_after a (bare c))
filled_right a shelf c gained final held sized may sound idle canonical final_is held_is with_hook with_frame without size_is live = by_held held refl
  where
    n : ℕ
    n = c.number

    b : CellView
    b = bare c

    e : CellView
    e = cell_after a b

    right : AreGained b e final → filled_from b (due_hook a shelf c c.state) e ≡ with_live (filled_as (due_hook a shelf c c.state) final) e
    right are = sym (filled_region (due_hook a shelf c c.state) b e final live canonical are)

    -- no hook is held, and nothing is filled
    bare_right : held ≡ false → filled_from b None e ≡ with_live (filled_as None final) e
        → filled_from b (due_hook a shelf c c.state) e ≡ with_live (filled_as (due_hook a shelf c c.state) final) e
    bare_right off is =
        let P : Option Hook → Type 0 = λ h. filled_from b h e ≡ with_live (filled_as h final) e in
        subst P (sym (none_due a shelf c c.state (sym off ∙ held_is))) is

    no_list : (u : Bool) → (if u then no_rectangle else no_rectangle) ≡ no_rectangle
    no_list true = refl
    no_list false = refl

    final_none : gained ≡ [] → final ≡ []
    final_none empty = final_is ∙ (ap (λ l. if held || sized then l else []) empty ∙ no_list (held || sized))

    -- a new layer without a hook
    opened_right : (r : Rectangle) (o : Option Created) → held ≡ false → bounds_at a.stack.bounds n ≡ Some r → (c.state ≡ view.Live → ⊥)
        → created_by a.task a.call ≡ o → MayOpen o a.stack.sizes.depth r → filled_from b None e ≡ with_live (filled_as None final) e
    opened_right r None off bounds dead new may_open = absurd may_open
    opened_right r (Some k) off bounds dead new may_open =
        let depth = a.stack.sizes.depth in
        let made : CellView = record { number = n; state = view.Live; live = created_live (Some k) depth r (shown_at a n) } in
        let is : e ≡ made =
        cell_opened a c r bounds dead ∙ ap (λ o. record { number = n; state = view.Live; live = created_live o depth r (shown_at a n) }) new
        in
        let plain : is_framed c.live.layer.window ≡ false = ap (λ v. is_framed v.layer.window) (idle dead) in
        let P : CellView → Type 0 = λ v. filled_from b None v ≡ with_live (filled_as None final) v in
        subst P (sym is)
        (left_as b made final (blank_bitmap k.make.kind depth k.make) refl (final_none (without off plain))
        (new_unfilled k.make depth k.window (λ x y. gains b made x y) (gains_some b made)))

    -- a layer that stays live, without a hook
    stays_right : (r : Rectangle) → held ≡ false → bounds_at a.stack.bounds n ≡ Some r → c.state ≡ view.Live → final ≡ [] → KeepsFrame b.live r
        → filled_from b None e ≡ with_live (filled_as None final) e
    stays_right r off bounds was empty keeps =
        let to = stayed r (shown_at a n) b in
        let P : CellView → Type 0 = λ v. filled_from b None v ≡ with_live (filled_as None final) v in
        subst P (sym (cell_is a c (Some r) view.Live bounds was))
        (left_as b to final (carried_bitmap b.live r (shown_at a n) (sound was)) (carried_bare b.live r (shown_at a n) (sound was)) empty
        (live_unfilled b r (shown_at a n) (gains_some b to) was (sound was) keeps))

    by_frame : (r : Rectangle) (f t : Bool) → held ≡ false → bounds_at a.stack.bounds n ≡ Some r → c.state ≡ view.Live → is_framed c.live.layer.window ≡ f → sized ≡ t
        → filled_from b (due_hook a shelf c c.state) e ≡ with_live (filled_as (due_hook a shelf c c.state) final) e
    by_frame r true true off bounds was framed same =
        let P : List Rectangle → Type 0 = λ l. AreGained b e l in
        let chosen : final ≡ gained = final_is ∙ (ap (λ u. if u || sized then gained else []) off ∙ ap (λ u. if u then gained else []) same) in
        right (subst P (sym chosen) (with_frame was framed))
    by_frame r true false off bounds was framed same =
        let chosen : final ≡ [] = final_is ∙ (ap (λ u. if u || sized then gained else []) off ∙ ap (λ u. if u then gained else []) same) in
        bare_right off (stays_right r off bounds was chosen (λ _. same_size c.live.bounds r (sym (size_is was r bounds) ∙ same)))
    by_frame r false t off bounds was plain same =
        bare_right off (stays_right r off bounds was (final_none (without off plain)) (λ has. absurd (cc (plain, has))))

    by_cases : (o : Option Rectangle) → bounds_at a.stack.bounds n ≡ o → (s : State) → c.state ≡ s → held ≡ false
        → filled_from b (due_hook a shelf c c.state) e ≡ with_live (filled_as (due_hook a shelf c c.state) final) e
    by_cases None bounds view.Unopened state off = absurd (cc (state_of_cell e b (cell_is a c None view.Unopened bounds state), state, live))
    by_cases None bounds view.Live state off = absurd (cc (state_of_cell _ _ (cell_is a c None view.Live bounds state), live))
    by_cases None bounds view.Closed state off = absurd (cc (state_of_cell e b (cell_is a c None view.Closed bounds state), state, live))
    by_cases (Some r) bounds view.Unopened state off =
        bare_right off (opened_right r (created_by a.task a.call) off bounds (λ l. cc (state, l)) refl (may_become a c may r view.Unopened bounds state))
    by_cases (Some r) bounds view.Live state off = by_frame r (is_framed c.live.layer.window) sized off bounds state refl refl
    by_cases (Some r) bounds view.Closed state off =
        bare_right off (opened_right r (created_by a.task a.call) off bounds (λ l. cc (state, l)) refl (may_become a c may r view.Closed bounds state))

    by_held : (t : Bool) → held ≡ t → filled_from b (due_hook a shelf c c.state) e ≡ with_live (filled_as (due_hook a shelf c c.state) final) e
    by_held true on =
        let P : List Rectangle → Type 0 = λ l. AreGained b e l in
        let chosen : final ≡ gained = final_is ∙ ap (λ u. if u || sized then gained else []) on in
        right (subst P (sym chosen) (with_hook on))
    by_held false off = by_cases (bounds_at a.stack.bounds n) refl c.state refl off
