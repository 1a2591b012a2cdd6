-- Creating a layer and closing one arrange a sound desk as it should be.
use Rattle.std.proofs.Common.{◌≡◌, ℕ, ◌+◌, ◌<◌, ◌==◌, Bool, true, false, List, unsigned_abs, Option, Some, None, refl, sym, ap}
use Rattle.std.proofs.Common.{◌∙◌, arith}
use Rattle.std.specs.Prelude.{if◌then◌else◌}
use Rattle.std.proofs.lemmas.Bool.{eqb-true, eq-eqb, ne_eqb, false≢true, true≢false}
use Rattle.lw_region.specs.Rectangle.{Rectangle}
use Rattle.lw_planes.specs.Grid.{grid, at}
use Rattle.lw_planes.specs.Bitmap.{IsBitmap, pen_at}
use Rattle.lw_planes.proofs.BitmapLaws.{IsBitmap_bitmap}
use Rattle.lw_calls.specs.declared.sizes.Sizes.{Sizes}
use Rattle.lw_calls.specs.declared.make.Kind.{Kind}
use Rattle.lw_calls.specs.declared.make.Kind.TheVariants.{Simple, Smart, SuperBitmap}
use Rattle.lw_calls.specs.declared.make.Place.{Place}
use Rattle.lw_calls.specs.declared.make.Make.{Make}
use Rattle.lw_machine.specs.Hook.{Hook}
use Rattle.lw_machine.specs.Layer.{Layer, Window, Slot, Unopened, Live, Closed, is_live, layer_is, is_window, is_framed}
use Rattle.lw_calls.specs.Kinds.{is_super}
use Rattle.lw_machine.specs.Desk.{Desk, with_value}
use Rattle.lw_machine.specs.Arrangement.{bounds_of, blank, new_layer, hook_from, without, placed, has_backdrop}
use Rattle.lw_machine.specs.Arrangement.{layer_may_have_bounds, create_layer, active_without, delete_layer}
use Rattle.lw_calls.specs.Orders.{occurrences}
use Rattle.lw_machine.specs.Sound.{backdrops_last, active_is_window}
use Rattle.lw_machine.proofs.PaintSound.{grid_at_default, grid_at_true, pen_within_lt}
use Rattle.lw_machine.proofs.ListSound.{occurrences_placed, occurrences_without_same, occurrences_without_other, last_without}
use Rattle.lw_machine.proofs.ListSound.{last_same, place_same, last_placed}
use Rattle.lw_machine.proofs.RevealSound.{IsReady}
use Rattle.lw_machine.proofs.SettledSound.{IsReadySlot, IsArranged}
use Rattle.lw_machine.proofs.Untouched.{differ_back}

-- a blank bitmap of any size is one
all_zero : (w h depth : ℕ) → IsBitmap (record { width = w; height = h; depth = depth; rows = grid w h (λ x y. 0) })
all_zero w h depth = IsBitmap_bitmap w h depth (λ x y. 0) (λ x y left low. omega (arith, pen_within_lt depth 0))

-- the bitmap of a new layer is one, of the screen's depth, and has pen 0 everywhere
pub blank_bitmap : (k : Kind) (depth : ℕ) (m : Make) → IsBitmap (blank k depth m)
blank_bitmap Simple depth m = all_zero (unsigned_abs m.w) (unsigned_abs m.h) depth
blank_bitmap Smart depth m = all_zero (unsigned_abs m.w) (unsigned_abs m.h) depth
blank_bitmap SuperBitmap depth m = all_zero m.bits_w m.bits_h depth

pub blank_planes : (k : Kind) (depth : ℕ) (m : Make) → (blank k depth m).depth ≡ depth
blank_planes Simple depth m = refl
blank_planes Smart depth m = refl
blank_planes SuperBitmap depth m = refl

blank_pen : (k : Kind) (depth : ℕ) (m : Make) (x y : ℕ) → pen_at (blank k depth m) x y ≡ 0
blank_pen Simple depth m x y = grid_at_default (unsigned_abs m.w) (unsigned_abs m.h) (λ i j. 0) 0 x y refl
blank_pen Smart depth m x y = grid_at_default (unsigned_abs m.w) (unsigned_abs m.h) (λ i j. 0) 0 x y refl
blank_pen SuperBitmap depth m x y = grid_at_default m.bits_w m.bits_h (λ i j. 0) 0 x y refl

-- a new layer has no damage
undamaged : (w h x y : ℕ) → at false (grid w h (λ i j. false)) x y ≡ true → ⊥
undamaged w h x y has = false≢true (grid_at_true w h (λ i j. false) x y has)

-- a new layer that may have its bounds is ready for an arrangement
pub new_ready : (sizes : Sizes) (make : Make) (hook : Option Hook) (window : Option Window)
    → layer_may_have_bounds sizes (new_layer sizes.depth make hook window) (bounds_of make) ≡ true
    → (is_super make.kind ≡ true → is_framed window ≡ false)
    → IsReady sizes (Some (bounds_of make)) (new_layer sizes.depth make hook window)
new_ready sizes make hook window may frameless =
    record {
      may = may;
      bitmap = blank_bitmap make.kind sizes.depth make;
      planes = blank_planes make.kind sizes.depth make;
      frameless = frameless;
      left = λ _. refl;
      upper = λ _. refl;
      own = λ own visible. record {
        bitmap = blank_bitmap make.kind sizes.depth make;
        planes = blank_planes make.kind sizes.depth make;
        frameless = frameless;
        off_kept = λ x y off. blank_pen make.kind sizes.depth make x y;
        damage_kept = λ x y has. absurd (undamaged _ _ x y has);
        damage_inner = λ x y has. absurd (undamaged _ _ x y has);
      };
    }

-- a slot that isn't live doesn't stand in the list
unlisted : (d : Desk) (s : ℕ) → IsArranged d → is_live (d.slot s) ≡ false → occurrences s d.front_to_back ≡ 0
unlisted d s ok dead = ok.listed s ∙ ap (λ b. if b then 1 else 0) dead

-- so one that stands in a list is another than one that doesn't
another : (s t : ℕ) (us : List ℕ) → occurrences s us ≡ 0 → 0 < occurrences t us → (t == s) ≡ false
another s t us none has =
    ne_eqb t s (λ same. let one : 0 < occurrences s us = rw same at has in omega (arith, none, one))

-- what one slot gets that no other has
pick : (sizes : Sizes) (b : Bool) (new old : Option Rectangle) (x y : Slot) → IsReadySlot sizes new x → IsReadySlot sizes old y
    → IsReadySlot sizes (if b then new else old) (if b then x else y)
pick sizes true new old x y h k = h
pick sizes false new old x y h k = k

-- any other slot stays as it is
pub other_value : {A : Type 0} (s t : ℕ) (v : A) (f : ℕ → A) → (t == s) ≡ false → with_value s v f t ≡ f t
other_value s t v f e = rw e refl

same_value : {A : Type 0} (s : ℕ) (v : A) (f : ℕ → A) → with_value s v f s ≡ v
same_value s v f = let e : (s == s) ≡ true = eq-eqb s s refl in rw e refl

-- a slot that has no layer stands in the list once, as soon as it has one
listed_new : (d : Desk) (s t : ℕ) (l : Layer) (flag : Bool) (place : Place) → IsArranged d → is_live (d.slot s) ≡ false
    → occurrences t (placed (has_backdrop d) flag place s d.front_to_back)
    ≡ (if is_live (with_value s (Live l) d.slot t) then 1 else 0)
listed_new d s t l flag place ok free =
    occurrences_placed (has_backdrop d) flag place s t d.front_to_back ∙ go (t == s) refl
  where
    go : (b : Bool) → (t == s) ≡ b
        → (if s == t then 1 else 0) + occurrences t d.front_to_back ≡ (if is_live (if b then Live l else d.slot t) then 1 else 0)
    go true e =
        let same : t ≡ s = eqb-true t s e in
        let turned : (s == t) ≡ true = eq-eqb s t (sym same) in
        let none : occurrences t d.front_to_back ≡ 0 = unlisted d t ok (ap (λ k. is_live (d.slot k)) same ∙ free) in
        rw turned (omega (arith, none))
    go false e = rw (differ_back t s e) (omega (arith, ok.listed t))

-- each slot in the list has a backdrop layer if it had one
same_backdrop : (d : Desk) (s t : ℕ) (x : Slot) → occurrences s d.front_to_back ≡ 0 → 0 < occurrences t d.front_to_back
    → has_backdrop d t ≡ layer_is (λ l. l.backdrop) (with_value s x d.slot t)
same_backdrop d s t x none has =
    sym (ap (layer_is (λ l. l.backdrop)) (other_value s t x d.slot (another s t d.front_to_back none has)))

-- with a new layer's slot in its place, backdrops are still last
backdrops_new : (d e : Desk) (s : ℕ) (flag : Bool) (place : Place) → IsArranged d
    → ((t : ℕ) → 0 < occurrences t d.front_to_back → has_backdrop d t ≡ has_backdrop e t) → has_backdrop e s ≡ flag
    → backdrops_last (has_backdrop e) (placed (has_backdrop d) flag place s d.front_to_back) ≡ true
backdrops_new d e s flag place ok same is =
    ap (backdrops_last (has_backdrop e)) (place_same (has_backdrop d) (has_backdrop e) flag place s d.front_to_back same) ∙
    last_placed (has_backdrop e) flag place s d.front_to_back is
    (sym (last_same (has_backdrop d) (has_backdrop e) d.front_to_back same) ∙ ok.backdrops)

-- the active window is a live window where each live window is one afterwards
active_still : (d e : Desk) (o : Option ℕ)
    → ((t : ℕ) → layer_is (λ l. is_window l.window) (d.slot t) ≡ true → layer_is (λ l. is_window l.window) (e.slot t) ≡ true)
    → active_is_window d o ≡ true → active_is_window e o ≡ true
active_still d e None still h = refl
active_still d e (Some t) still h = still t h

-- a slot without a layer has none of which a test holds
idle_not : (test : Layer → Bool) (x : Slot) → is_live x ≡ false → layer_is test x ≡ false
idle_not test Unopened idle = refl
idle_not test (Live l) idle = absurd (true≢false idle)
idle_not test Closed idle = refl

-- A new layer in a slot that has none.
pub created_arranged : (d : Desk) (s : ℕ) (make : Make) (window : Option Window) → IsArranged d → s < d.sizes.slots
    → is_live (d.slot s) ≡ false → IsReady d.sizes (Some (bounds_of make))
    (new_layer d.sizes.depth make (hook_from d.shelf make.hook) window) → IsArranged (create_layer d s make window)
created_arranged d s make window ok low free ready =
    record {
      limits = ok.limits;
      beyond = λ t past. other_value s t (Live new) d.slot (ne_eqb t s (λ same. absurd (omega (arith, same, past, low)))) ∙
          ok.beyond t past;
      listed = λ t. listed_new d s t new make.backdrop make.place ok free;
      backdrops = backdrops_new d (create_layer d s make window) s make.backdrop make.place ok
          (λ t has. same_backdrop d s t (Live new) (unlisted d s ok free) has)
          (ap (layer_is (λ l. l.backdrop)) (same_value s (Live new) d.slot));
      slots = λ t. pick d.sizes (t == s) (Some (bounds_of make)) (d.bounds t) (Live new) (d.slot t) ready (ok.slots t);
      active = active_still d (create_layer d s make window) d.active (λ t h. still t (t == s) refl h) ok.active;
    }
  where
    new : Layer
    new = new_layer d.sizes.depth make (hook_from d.shelf make.hook) window

    still : (t : ℕ) (b : Bool) → (t == s) ≡ b → layer_is (λ l. is_window l.window) (d.slot t) ≡ true
        → layer_is (λ l. is_window l.window) (if b then Live new else d.slot t) ≡ true
    still t true e h =
        let idle : is_live (d.slot t) ≡ false = ap (λ k. is_live (d.slot k)) (eqb-true t s e) ∙ free in
        absurd (false≢true (sym (idle_not (λ l. is_window l.window) (d.slot t) idle) ∙ h))
    still t false e h = h

-- a slot whose layer was closed doesn't stand in the list
listed_closed : (d : Desk) (s t : ℕ) → IsArranged d
    → occurrences t (without s d.front_to_back) ≡ (if is_live (with_value s Closed d.slot t) then 1 else 0)
listed_closed d s t ok = go (t == s) refl
  where
    go : (b : Bool) → (t == s) ≡ b
        → occurrences t (without s d.front_to_back) ≡ (if is_live (if b then Closed else d.slot t) then 1 else 0)
    go true e = ap (λ k. occurrences k (without s d.front_to_back)) (eqb-true t s e) ∙ occurrences_without_same s d.front_to_back
    go false e = occurrences_without_other s t d.front_to_back (differ_back t s e) ∙ ok.listed t

-- the active window is another one, or none is active
active_closed : (d : Desk) (s : ℕ) (o : Option ℕ) → active_is_window d o ≡ true
    → active_is_window (delete_layer d s) (active_without s o) ≡ true
active_closed d s None h = refl
active_closed d s (Some m) h = go (m == s) refl
  where
    go : (b : Bool) → (m == s) ≡ b → active_is_window (delete_layer d s) (if b then None else Some m) ≡ true
    go true e = refl
    go false e = ap (layer_is (λ l. is_window l.window)) (other_value s m Closed d.slot e) ∙ h

-- A live layer closed.
pub closed_arranged : (d : Desk) (s : ℕ) → IsArranged d → s < d.sizes.slots → IsArranged (delete_layer d s)
closed_arranged d s ok low =
    record {
      limits = ok.limits;
      beyond = λ t past. other_value s t Closed d.slot (ne_eqb t s (λ same. absurd (omega (arith, same, past, low)))) ∙
          ok.beyond t past;
      listed = λ t. listed_closed d s t ok;
      backdrops =
          sym (last_same (has_backdrop d) (has_backdrop (delete_layer d s)) (without s d.front_to_back) same) ∙
          last_without (has_backdrop d) s d.front_to_back ok.backdrops;
      slots = λ t. pick d.sizes (t == s) None (d.bounds t) Closed (d.slot t) refl (ok.slots t);
      active = active_closed d s d.active ok.active;
    }
  where
    same : (t : ℕ) → 0 < occurrences t (without s d.front_to_back) → has_backdrop d t ≡ has_backdrop (delete_layer d s) t
    same t has =
        sym (ap (layer_is (λ l. l.backdrop))
        (other_value s t Closed d.slot
        (another s t (without s d.front_to_back) (occurrences_without_same s d.front_to_back) has)))
