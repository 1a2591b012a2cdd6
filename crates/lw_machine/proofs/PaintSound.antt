-- Painting leaves a layer keeping what it should.
use Rattle.std.proofs.Common.{◌≡◌, ℕ, ◌^◌, ◌<◌, ◌≤◌, Bool, true, false, ◌&&◌, List, refl, ◌∙◌, ⊎_elim, Option, Some, None}
use Rattle.std.specs.Prelude.{if◌then◌else◌}
use Rattle.std.specs.Int.{bit_at}
use Rattle.std.proofs.lemmas.Bool.{cases_lt, and_parts}
use Rattle.std.proofs.lemmas.Nat.Bits.{bit_at-lt}
use Rattle.lw_planes.specs.Grid.{grid, at}
use Rattle.lw_planes.specs.Bitmap.{pen_at}
use Rattle.lw_planes.proofs.GridLaws.{grid_at, grid_past_column, grid_past_row}
use Rattle.lw_planes.proofs.BitmapLaws.{IsBitmap_bitmap}
use Rattle.lw_planes.proofs.PenLaws.{pen_of_lt}
use Rattle.lw_planes.proofs.ChosenLaws.{chosen_small}
use Rattle.lw_machine.specs.Layer.{Layer, Window}
use Rattle.lw_machine.specs.Kept.{is_kept}
use Rattle.lw_machine.specs.Paint.{with_pens, pen_within}
use Rattle.lw_machine.specs.Reveal.{with_frame, framed_by, framing_pen, in_frame}
use Rattle.lw_machine.specs.Sound.{IsKeeping}

-- what a table has at a place is its default, where the value that was tabulated there is
pub grid_at_default : {A : Type 0} (w h : ℕ) (f : ℕ → ℕ → A) (d : A) (x y : ℕ) → f x y ≡ d → at d (grid w h f) x y ≡ d
grid_at_default w h f d x y is =
    ⊎_elim
    (λ (low : y < h). ⊎_elim
    (λ (left : x < w). grid_at w h f d x y left low ∙ is)
    (λ (past : w ≤ x). grid_past_column w h f d x y past low)
    (cases_lt x w))
    (λ (past : h ≤ y). grid_past_row w h f d x y past)
    (cases_lt y h)

-- where a table of truth values has true, it was tabulated
pub grid_at_true : (w h : ℕ) (f : ℕ → ℕ → Bool) (x y : ℕ) → at false (grid w h f) x y ≡ true → f x y ≡ true
grid_at_true w h f x y has =
    go (f x y) refl
  where
    go : (b : Bool) → f x y ≡ b → f x y ≡ true
    go true e = e
    go false e = let no : at false (grid w h f) x y ≡ false = grid_at_default w h f false x y e in absurd (cc)

-- a test whose truth entails another's is false where that one is
pub false_below : (p q : Bool) → (p ≡ true → q ≡ true) → q ≡ false → p ≡ false
false_below false q h e = refl
false_below true q h e = let t : q ≡ true = h refl in absurd (cc)

-- a choice whose test is false
choice_false : (b : Bool) (p q n : ℕ) → b ≡ false → q ≡ n → (if b then p else q) ≡ n
choice_false false p q n e h = h
choice_false true p q n e h = absurd (cc)

-- a layer that paints kept pixels alone, with pens in its planes, goes on keeping what it should
pub painted_keeping : (depth : ℕ) (visible : ℕ → ℕ → Bool) (on : ℕ → ℕ → Bool) (pen : ℕ → ℕ → ℕ) (l : Layer)
    → IsKeeping depth visible l → ((x y : ℕ) → on x y ≡ true → is_kept visible l x y ≡ true)
    → ((x y : ℕ) → pen x y < 2 ^ l.bits.depth) → IsKeeping depth visible (with_pens on pen l)
unfolding with_pens is_kept
painted_keeping depth visible on pen l k kept small =
    record {
      bitmap = IsBitmap_bitmap l.bits.width l.bits.height l.bits.depth (λ x y. if on x y then pen x y else pen_at l.bits x y)
          (λ x y left low. chosen_small (on x y) (pen x y) (pen_at l.bits x y) (2 ^ l.bits.depth) (small x y)
          (k.bitmap.pens x y left low));
      planes = k.planes;
      frameless = k.frameless;
      off_kept =
          λ x y off. grid_at_default l.bits.width l.bits.height (λ a b. if on a b then pen a b else pen_at l.bits a b) 0 x y
          (choice_false (on x y) (pen x y) (pen_at l.bits x y) 0 (false_below (on x y) (is_kept visible l x y) (kept x y) off)
          (k.off_kept x y off));
      damage_kept = k.damage_kept;
      damage_inner = k.damage_inner;
    }

-- What painting leaves of a layer, and that it goes on keeping what it should.
pub record IsPainted (planes : ℕ) (visible : ℕ → ℕ → Bool) (l m : Layer) : Type 0 where
  pub keeping : IsKeeping planes visible m
  pub kind : m.kind ≡ l.kind
  pub backdrop : m.backdrop ≡ l.backdrop
  pub scroll_x : m.scroll_x ≡ l.scroll_x
  pub scroll_y : m.scroll_y ≡ l.scroll_y
  pub width : m.bits.width ≡ l.bits.width
  pub height : m.bits.height ≡ l.bits.height
  pub depth : m.bits.depth ≡ l.bits.depth
  pub damage : m.damage ≡ l.damage
  pub clip : m.clip ≡ l.clip
  pub raster : m.raster ≡ l.raster
  pub updating : m.updating ≡ l.updating
  pub hook : m.hook ≡ l.hook
  pub window : m.window ≡ l.window

-- a layer as it is
pub unpainted : (depth : ℕ) (visible : ℕ → ℕ → Bool) (l : Layer) → IsKeeping depth visible l → IsPainted depth visible l l
unpainted depth visible l k =
    record {
      keeping = k;
      kind = refl;
      backdrop = refl;
      scroll_x = refl;
      scroll_y = refl;
      width = refl;
      height = refl;
      depth = refl;
      damage = refl;
      clip = refl;
      raster = refl;
      updating = refl;
      hook = refl;
      window = refl;
    }

-- painting kept pixels alone, with pens in the layer's planes
pub is_painted : (depth : ℕ) (visible : ℕ → ℕ → Bool) (on : ℕ → ℕ → Bool) (pen : ℕ → ℕ → ℕ) (l : Layer)
    → IsKeeping depth visible l → ((x y : ℕ) → on x y ≡ true → is_kept visible l x y ≡ true)
    → ((x y : ℕ) → pen x y < 2 ^ l.bits.depth) → IsPainted depth visible l (with_pens on pen l)
unfolding with_pens
is_painted depth visible on pen l k kept small =
    record {
      keeping = painted_keeping depth visible on pen l k kept small;
      kind = refl;
      backdrop = refl;
      scroll_x = refl;
      scroll_y = refl;
      width = refl;
      height = refl;
      depth = refl;
      damage = refl;
      clip = refl;
      raster = refl;
      updating = refl;
      hook = refl;
      window = refl;
    }

-- a pen taken modulo 2 ^ depth has bits in the planes alone
pub pen_within_lt : (depth pen : ℕ) → pen_within depth pen < 2 ^ depth
pen_within_lt depth pen = pen_of_lt depth (λ k. bit_at pen k) (λ k h. bit_at-lt pen k)

-- the frame of a window is painted on kept pixels alone, with pens in the layer's planes
pub frame_painted : (depth : ℕ) (visible : ℕ → ℕ → Bool) (kept : ℕ → ℕ → Bool) (glyphs : List (List ℕ)) (active : Bool)
    (l : Layer) → IsKeeping depth visible l → ((x y : ℕ) → kept x y ≡ true → is_kept visible l x y ≡ true)
    → IsPainted depth visible l (with_frame glyphs kept active l)
frame_painted depth visible kept glyphs active l k is =
    go l.window
  where
    due : (title : List ℕ) (b : Bool)
        → IsPainted depth visible l
        (if b then with_pens (λ x y. kept x y && in_frame l.bits.width l.bits.height x y)
        (λ x y. pen_within l.bits.depth (framing_pen glyphs title active l.bits.width x y)) l else l)
    due title true =
        is_painted depth visible _ _ l k (λ x y on. is x y ((and_parts (kept x y) _ on).0))
        (λ x y. pen_within_lt l.bits.depth (framing_pen glyphs title active l.bits.width x y))
    due title false = unpainted depth visible l k

    go : (o : Option Window) → IsPainted depth visible l (framed_by glyphs kept active o l)
    go None = unpainted depth visible l k
    go (Some w) = due w.title w.framed
