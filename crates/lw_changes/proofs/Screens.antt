-- Where two desks show the same pen.
use Rattle.std.proofs.Common.{◌≡◌, ℕ, ◌<◌, ◌≤◌, ◌==◌, Bool, true, false, ℤ, pos, Option, Some, None, refl, sym, ap, ◌∙◌, ⊎_elim}
use Rattle.std.proofs.Common.{eqb-true}
use Rattle.std.specs.Prelude.{if◌then◌else◌}
use Rattle.std.proofs.lemmas.Bool.{cases_lt, both_ways, eq-eqb}
use Rattle.lw_region.specs.Rectangle.{Rectangle}
use Rattle.lw_planes.specs.Bitmap.{bitmap, pen_at}
use Rattle.lw_planes.proofs.GridLaws.{grid_at, grid_past_column, grid_past_row}
use Rattle.lw_calls.specs.declared.sizes.Sizes.{Sizes}
use Rattle.lw_machine.specs.Layer.{Layer, Slot, Unopened, Live, Closed, change_layer}
use Rattle.lw_machine.specs.Desk.{Desk, with_value}
use Rattle.lw_machine.specs.Screen.{bounds_have, top, pen_on, pen_of_top, screen}
use Rattle.lw_machine.specs.Step.{on_layer}
use Rattle.lw_machine.proofs.CreatedSound.{other_value}
use Rattle.lw_changes.proofs.Beside.{on_top}

-- bitmaps of one size have the same pen where the same one was tabulated
same_at : (w h depth : ℕ) (f g : ℕ → ℕ → ℕ) (x y : ℕ) → f x y ≡ g x y
    → pen_at (bitmap w h depth f) x y ≡ pen_at (bitmap w h depth g) x y
same_at w h depth f g x y same =
    ⊎_elim
    (λ (low : y < h). ⊎_elim
    (λ (left : x < w). grid_at w h f 0 x y left low ∙ (same ∙ sym (grid_at w h g 0 x y left low)))
    (λ (past : w ≤ x). grid_past_column w h f 0 x y past low ∙ sym (grid_past_column w h g 0 x y past low))
    (cases_lt x w))
    (λ (past : h ≤ y). grid_past_row w h f 0 x y past ∙ sym (grid_past_row w h g 0 x y past))
    (cases_lt y h)

-- the pen of the layer on top of a place
abbrev pub top_pen : Desk → ℤ → ℤ → ℕ
top_pen d x y = pen_of_top d (top d x y) x y

-- screens of one size show the same pen where those of the top layers are the same
pub same_on_screen : (d e : Desk) (x y : ℕ) → e.sizes ≡ d.sizes → top_pen e (pos x) (pos y) ≡ top_pen d (pos x) (pos y)
    → pen_at (screen e) x y ≡ pen_at (screen d) x y
unfolding screen
same_on_screen d e x y sizes same =
    ap (λ (s : Sizes). pen_at (bitmap s.width s.height s.depth (λ a b. top_pen e (pos a) (pos b))) x y) sizes
    ∙ same_at d.sizes.width d.sizes.height d.sizes.depth (λ a b. top_pen e (pos a) (pos b))
    (λ a b. top_pen d (pos a) (pos b)) x y same

-- a change of a layer that leaves its bits and its scroll
pub record IsQuiet (f : Layer → Layer) : Type 0 where
  pub bits : (l : Layer) → (f l).bits ≡ l.bits
  pub scroll_x : (l : Layer) → (f l).scroll_x ≡ l.scroll_x
  pub scroll_y : (l : Layer) → (f l).scroll_y ≡ l.scroll_y

quiet_pen : (f : Layer → Layer) (o : Option Rectangle) (t : Slot) (x y : ℤ) → IsQuiet f
    → pen_on o (change_layer f t) x y ≡ pen_on o t x y
quiet_pen f None t x y quiet = refl
quiet_pen f (Some r) Unopened x y quiet = refl
quiet_pen f (Some r) Closed x y quiet = refl
quiet_pen f (Some r) (Live l) x y quiet = rw (quiet.bits l, quiet.scroll_x l, quiet.scroll_y l) refl

-- the desk with another slot shows the same pen where the slot shows the same
with_slot : (d : Desk) (slot : ℕ) (t : Slot) (x y : ℤ)
    → (top d x y ≡ Some slot → pen_on (d.bounds slot) t x y ≡ pen_on (d.bounds slot) (d.slot slot) x y)
    → top_pen (record d { slot = with_value slot t d.slot }) x y ≡ top_pen d x y
unfolding top
with_slot d slot t x y same = go (top d x y) refl
  where
    this_value : pen_on (d.bounds slot) (with_value slot t d.slot slot) x y ≡ pen_on (d.bounds slot) t x y
    this_value = ap (λ b. pen_on (d.bounds slot) (if b then t else d.slot slot) x y) (eq-eqb slot slot refl)

    go : (o : Option ℕ) → top d x y ≡ o → pen_of_top (record d { slot = with_value slot t d.slot }) o x y ≡ pen_of_top d o x y
    go None is = refl
    go (Some s) is = by (s == slot) refl
      where
        by : (b : Bool) → (s == slot) ≡ b
            → pen_on (d.bounds s) (with_value slot t d.slot s) x y ≡ pen_on (d.bounds s) (d.slot s) x y
        by true here =
            let one : s ≡ slot = eqb-true s slot here in
            ap (λ k. pen_on (d.bounds k) (with_value slot t d.slot k) x y) one
            ∙ (this_value ∙ (same (is ∙ ap (λ k. Some k) one) ∙ sym (ap (λ k. pen_on (d.bounds k) (d.slot k) x y) one)))
        by false other = ap (λ q. pen_on (d.bounds s) q x y) (other_value slot s t d.slot other)

-- A call that changes a layer in what isn't seen leaves the screen.
pub quiet_top : (d : Desk) (slot : ℕ) (f : Layer → Layer) (x y : ℤ) → IsQuiet f → top_pen (on_layer d slot f) x y ≡ top_pen d x y
quiet_top d slot f x y quiet =
    with_slot d slot (change_layer f (d.slot slot)) x y (λ is. quiet_pen f (d.bounds slot) (d.slot slot) x y quiet)

-- One that draws on it leaves the places where it doesn't lie.
pub drawn_top : (d : Desk) (slot : ℕ) (f : Layer → Layer) (x y : ℤ) → bounds_have (d.bounds slot) x y ≡ false
    → top_pen (on_layer d slot f) x y ≡ top_pen d x y
drawn_top d slot f x y off =
    with_slot d slot (change_layer f (d.slot slot)) x y
    (λ is. absurd (both_ways (bounds_have (d.bounds slot) x y) off (on_top d x y slot is).has))
