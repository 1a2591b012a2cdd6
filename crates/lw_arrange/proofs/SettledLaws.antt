-- What settling a desk makes of one slot.
use Rattle.std.proofs.Common.{◌≡◌, ℕ, Bool, true, Option, ap, ◌∙◌, ◌⊎◌, inl, inr, ⊎_elim, arith, ℤ}
use Rattle.std.specs.Prelude.{if◌then◌else◌}
use Rattle.std.proofs.Math.Path.{fun_ext}
use Rattle.lw_region.specs.Rectangle.{Rectangle}
use Rattle.lw_calls.specs.Orders.{occurrences}
use Rattle.lw_machine.specs.Layer.{Slot, Unopened, Live, Closed, is_live, change_layer}
use Rattle.lw_machine.specs.Desk.{Desk, is_the}
use Rattle.lw_machine.specs.Screen.{is_shown}
use Rattle.lw_machine.specs.Reveal.{Across, across, settled_layer, settled}
use Rattle.lw_machine.specs.Sound.{IsDesk}
use Rattle.lw_machine.proofs.Settling.{changed_or_not}
use Rattle.lw_machine.proofs.SettledSound.{changed_in}

-- how a slot's layer is settled
abbrev pub settling : Desk → Desk → ℕ → Slot → Slot
settling d a s x = change_layer (settled_layer d.assets.glyphs (across d a s)) x

-- a slot that is settled or not is live as before
live_still : (d a : Desk) (s : ℕ) (x y : Slot) → (y ≡ settling d a s x) ⊎ (y ≡ x) → is_live y ≡ is_live x
live_still d a s Unopened y (inl is) = ap is_live is
live_still d a s (Live l) y (inl is) = ap is_live is
live_still d a s Closed y (inl is) = ap is_live is
live_still d a s x y (inr is) = ap is_live is

-- where the settled desk is sound, each slot is settled
pub each_settled : (d a : Desk) (s : ℕ) (x : Slot) → IsDesk (settled d a) → a.slot s ≡ x → (settled d a).slot s ≡ settling d a s x
each_settled d a s x ok is = go x is
  where
    either : ((settled d a).slot s ≡ settling d a s (a.slot s)) ⊎ ((settled d a).slot s ≡ a.slot s)
    either = changed_or_not a.front_to_back (λ t layer. change_layer (settled_layer d.assets.glyphs (across d a t)) layer) a.slot s

    go : (x : Slot) → a.slot s ≡ x → (settled d a).slot s ≡ settling d a s x
    go Unopened is = ⊎_elim (λ h. h ∙ ap (settling d a s) is) (λ h. h ∙ is) either
    go (Live l) is =
        let live : is_live ((settled d a).slot s) ≡ true = live_still d a s (a.slot s) ((settled d a).slot s) either ∙ ap is_live is in
        let once : occurrences s a.front_to_back ≡ 1 = ok.listed s ∙ ap (λ b. if b then 1 else 0) live in
        changed_in a.front_to_back (λ t layer. change_layer (settled_layer d.assets.glyphs (across d a t)) layer) a.slot s (omega (arith, once)) ∙ ap (settling d a s) is
    go Closed is = ⊎_elim (λ h. h ∙ ap (settling d a s) is) (λ h. h ∙ is) either

-- An across by its parts: equal parts make equal ones.
abbrev across_by : Option Rectangle → Option Rectangle → (ℤ → ℤ → Bool) → (ℤ → ℤ → Bool) → Bool → Bool → Across
across_by bounds new_bounds shown new_shown active new_active =
    record { bounds = bounds; new_bounds = new_bounds; shown = shown; new_shown = new_shown; active = active; new_active = new_active }

-- A slot across an arrangement, as other words have its parts.
pub across_is : (d a : Desk) (s : ℕ) (q : Across) → d.bounds s ≡ q.bounds → a.bounds s ≡ q.new_bounds
    → ((x y : ℤ) → is_shown d s x y ≡ q.shown x y) → ((x y : ℤ) → is_shown a s x y ≡ q.new_shown x y)
    → is_the d.active s ≡ q.active → is_the a.active s ≡ q.new_active → across d a s ≡ q
across_is d a s q bounds new_bounds shown new_shown active new_active =
    ap (λ b. across_by b (a.bounds s) (is_shown d s) (is_shown a s) (is_the d.active s) (is_the a.active s)) bounds
    ∙ (ap (λ b. across_by q.bounds b (is_shown d s) (is_shown a s) (is_the d.active s) (is_the a.active s)) new_bounds
    ∙ (ap (λ f. across_by q.bounds q.new_bounds f (is_shown a s) (is_the d.active s) (is_the a.active s))
    (fun_ext (λ x. fun_ext (λ y. shown x y)))
    ∙ (ap (λ f. across_by q.bounds q.new_bounds q.shown f (is_the d.active s) (is_the a.active s))
    (fun_ext (λ x. fun_ext (λ y. new_shown x y)))
    ∙ (ap (λ b. across_by q.bounds q.new_bounds q.shown q.new_shown b (is_the a.active s)) active
    ∙ ap (λ b. across_by q.bounds q.new_bounds q.shown q.new_shown q.active b) new_active))))
