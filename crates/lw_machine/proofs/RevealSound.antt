-- An arrangement leaves each layer keeping what it should.
use Rattle.std.proofs.Common.{◌≡◌, ℕ, ◌^◌, ◌<◌, Bool, true, false, not, ◌&&◌, nat_lt, List, pos, Option, Some, None, refl, sym}
use Rattle.std.proofs.Common.{ap, ◌∙◌, arith}
use Rattle.std.specs.Prelude.{if◌then◌else◌}
use Rattle.std.proofs.lemmas.Bool.{ltb-true, and_parts, and_from, both_ways, false≢true}
use Rattle.lw_region.specs.Rectangle.{Rectangle}
use Rattle.lw_planes.specs.Grid.{at}
use Rattle.lw_planes.specs.Bitmap.{IsBitmap, pen_at}
use Rattle.lw_planes.proofs.BitmapLaws.{IsBitmap_bitmap}
use Rattle.lw_calls.specs.declared.sizes.Sizes.{Sizes}
use Rattle.lw_machine.specs.Hook.{Hook}
use Rattle.lw_machine.specs.Layer.{Layer, Window, is_window, is_framed, changed_window}
use Rattle.lw_calls.specs.Kinds.{is_super}
use Rattle.lw_machine.specs.Kept.{visible_within, is_kept, in_inner}
use Rattle.lw_machine.specs.Arrangement.{portion_fits, layer_may_have_bounds}
use Rattle.lw_machine.specs.Reveal.{Across, width_in, height_in, is_inner, counts_as_kept, at_new_size, keeps, fill_pen, revealed}
use Rattle.lw_machine.specs.Reveal.{with_frame, framed_by, frame_is_due, window_with_messages, with_messages, with_due_frame}
use Rattle.lw_machine.specs.Reveal.{settled_layer}
use Rattle.lw_machine.specs.Sound.{IsKeeping, IsPlaced}
use Rattle.lw_machine.proofs.Settling.{revealed_in, told_framed}
use Rattle.lw_machine.proofs.PaintSound.{grid_at_default, grid_at_true, pen_within_lt, IsPainted, frame_painted}

-- there are bounds, and the layer may have them
abbrev pub may_at : Sizes → Layer → Option Rectangle → Bool
may_at sizes l None = false
may_at sizes l (Some r) = layer_may_have_bounds sizes l r

-- What an arrangement needs of a layer that it settles, at its new bounds.
pub record IsReady (sizes : Sizes) (bounds : Option Rectangle) (l : Layer) : Type 0 where
  pub may : may_at sizes l bounds ≡ true
  pub bitmap : IsBitmap l.bits
  pub planes : l.bits.depth ≡ sizes.depth
  pub frameless : is_super l.kind ≡ true → is_framed l.window ≡ false
  pub left : is_super l.kind ≡ false → l.scroll_x ≡ 0
  pub upper : is_super l.kind ≡ false → l.scroll_y ≡ 0
  pub own : is_super l.kind ≡ true → (visible : ℕ → ℕ → Bool) → IsKeeping sizes.depth visible l

-- the pixels that a layer shows after the arrangement
abbrev pub shows : Across → Layer → ℕ → ℕ → Bool
shows c l x y = visible_within c.new_shown c.new_bounds l.scroll_x l.scroll_y x y

-- What an arrangement makes of the layer l.
pub record IsSettled (sizes : Sizes) (c : Across) (l m : Layer) : Type 0 where
  pub keeping : IsKeeping sizes.depth (shows c l) m
  pub kind : m.kind ≡ l.kind
  pub backdrop : m.backdrop ≡ l.backdrop
  pub scroll_x : m.scroll_x ≡ l.scroll_x
  pub scroll_y : m.scroll_y ≡ l.scroll_y
  pub window : is_window m.window ≡ is_window l.window
  pub framed : is_framed m.window ≡ is_framed l.window
  pub columns : is_super l.kind ≡ false → m.bits.width ≡ width_in c.new_bounds
  pub rows : is_super l.kind ≡ false → m.bits.height ≡ height_in c.new_bounds
  pub own_columns : is_super l.kind ≡ true → m.bits.width ≡ l.bits.width
  pub own_rows : is_super l.kind ≡ true → m.bits.height ≡ l.bits.height

-- a pixel that counts as kept before lies in the bits
counts_within : (c : Across) (l : Layer) (x y : ℕ) → counts_as_kept c l x y ≡ true → (x < l.bits.width) × (y < l.bits.height)
unfolding counts_as_kept is_kept
counts_within c l x y is =
    let live = and_parts _ _ is in
    let kept = and_parts _ _ live.0 in
    let bits = and_parts _ _ kept.1 in
    let sides = and_parts (nat_lt x l.bits.width) (nat_lt y l.bits.height) bits.0 in
    (ltb-true x l.bits.width sides.0, ltb-true y l.bits.height sides.1)

-- the pen that fills has bits in the planes alone
fill_pen_lt : (depth : ℕ) (h : Option Hook) (x y : ℕ) → fill_pen depth h x y < 2 ^ depth
fill_pen_lt depth None x y = omega (arith, pen_within_lt depth 0)
fill_pen_lt depth (Some h) x y = pen_within_lt depth _

-- so has the pen of a pixel that is kept, with its former pen or filled, and of any other
revealed_lt : (k c : Bool) (p f n : ℕ) → (c ≡ true → p < n) → f < n → (if k then (if c then p else f) else 0) < n
revealed_lt true true p f n h small = h refl
revealed_lt true false p f n h small = small
revealed_lt false c p f n h small = omega arith

-- a pixel that isn't kept has pen 0
unkept : (k : Bool) (p : ℕ) → k ≡ false → (if k then p else 0) ≡ 0
unkept true p e = absurd (cc)
unkept false p e = refl

-- a revealed layer keeps what it should
revealed_keeping : (depth : ℕ) (c : Across) (l : Layer) → IsBitmap l.bits → l.bits.depth ≡ depth → is_super l.kind ≡ false
    → IsKeeping depth (shows c l) (revealed_in c l)
unfolding is_kept
revealed_keeping depth c l bitmap planes other =
    record {
      bitmap = IsBitmap_bitmap (width_in c.new_bounds) (height_in c.new_bounds) l.bits.depth _
          (λ x y left low. revealed_lt (keeps c (at_new_size c l) x y) (counts_as_kept c l x y) (pen_at l.bits x y)
          (fill_pen l.bits.depth l.hook x y) (2 ^ l.bits.depth)
          (λ e. let bits = counts_within c l x y e in bitmap.pens x y bits.0 bits.1)
          (fill_pen_lt l.bits.depth l.hook x y));
      planes = planes;
      frameless = λ own. absurd (both_ways (is_super l.kind) other own);
      off_kept =
          λ x y off. grid_at_default (width_in c.new_bounds) (height_in c.new_bounds) _ 0 x y
          (unkept (keeps c (at_new_size c l) x y) _ off);
      damage_kept = λ x y has. (damaged x y has).0;
      damage_inner = λ x y has. and_from (not (is_super l.kind)) (is_inner c l x y) (ap not other) (damaged x y has).1;
    }
  where
    damaged : (x y : ℕ) → at false (revealed_in c l).damage x y ≡ true
        → (keeps c (at_new_size c l) x y ≡ true) × (is_inner c l x y ≡ true)
    damaged x y has =
        let both = grid_at_true (width_in c.new_bounds) (height_in c.new_bounds) _ x y has in
        let front = and_parts (keeps c (at_new_size c l) x y && is_inner c l x y) _ both in
        and_parts (keeps c (at_new_size c l) x y) (is_inner c l x y) front.0

-- a layer that isn't a super-bitmap layer is revealed
revealed_settled : (sizes : Sizes) (c : Across) (l : Layer) → IsReady sizes c.new_bounds l → is_super l.kind ≡ false
    → IsSettled sizes c l (revealed_in c l)
revealed_settled sizes c l ready other =
    record {
      keeping = revealed_keeping sizes.depth c l ready.bitmap ready.planes other;
      kind = refl;
      backdrop = refl;
      scroll_x = refl;
      scroll_y = refl;
      window = refl;
      framed = refl;
      columns = λ _. refl;
      rows = λ _. refl;
      own_columns = λ own. absurd (both_ways (is_super l.kind) other own);
      own_rows = λ own. absurd (both_ways (is_super l.kind) other own);
    }

-- a super-bitmap layer stays as it is
own_settled : (sizes : Sizes) (c : Across) (l : Layer) → IsReady sizes c.new_bounds l → is_super l.kind ≡ true
    → IsSettled sizes c l l
own_settled sizes c l ready own =
    record {
      keeping = ready.own own (shows c l);
      kind = refl;
      backdrop = refl;
      scroll_x = refl;
      scroll_y = refl;
      window = refl;
      framed = refl;
      columns = λ other. absurd (both_ways (is_super l.kind) other own);
      rows = λ other. absurd (both_ways (is_super l.kind) other own);
      own_columns = λ _. refl;
      own_rows = λ _. refl;
    }

-- what painting leaves of a settled layer is settled
painted_settled : (sizes : Sizes) (c : Across) (l m n : Layer) → IsSettled sizes c l m → IsPainted sizes.depth (shows c l) m n
    → IsSettled sizes c l n
painted_settled sizes c l m n s p =
    record {
      keeping = p.keeping;
      kind = p.kind ∙ s.kind;
      backdrop = p.backdrop ∙ s.backdrop;
      scroll_x = p.scroll_x ∙ s.scroll_x;
      scroll_y = p.scroll_y ∙ s.scroll_y;
      window = ap is_window p.window ∙ s.window;
      framed = ap is_framed p.window ∙ s.framed;
      columns = λ e. p.width ∙ s.columns e;
      rows = λ e. p.height ∙ s.rows e;
      own_columns = λ e. p.width ∙ s.own_columns e;
      own_rows = λ e. p.height ∙ s.own_rows e;
    }

-- a layer that is no framed window has no frame to paint
pub frameless_by : (glyphs : List (List ℕ)) (kept : ℕ → ℕ → Bool) (active : Bool) (o : Option Window) (l : Layer)
    → is_framed o ≡ false → framed_by glyphs kept active o l ≡ l
frameless_by glyphs kept active None l e = refl
frameless_by glyphs kept active (Some w) l e = rw e refl

-- either way
either : (sizes : Sizes) (c : Across) (l m n : Layer) (b : Bool) → IsSettled sizes c l m → IsSettled sizes c l n
    → IsSettled sizes c l (if b then m else n)
either sizes c l m n true s t = s
either sizes c l m n false s t = t

-- messages don't change whether a layer is a window or has a frame
told_window : (c : Across) (l : Layer) (o : Option Window) → is_window (changed_window (window_with_messages c l) o) ≡ is_window o
told_window c l None = refl
told_window c l (Some w) = refl

-- a layer whose window is told keeps what it should
told_keeping : (depth : ℕ) (visible : ℕ → ℕ → Bool) (c : Across) (l : Layer) → IsKeeping depth visible l
    → IsKeeping depth visible (with_messages c l)
unfolding is_kept
told_keeping depth visible c l k =
    record {
      bitmap = k.bitmap;
      planes = k.planes;
      frameless = λ own. told_framed c l l.window ∙ k.frameless own;
      off_kept = k.off_kept;
      damage_kept = k.damage_kept;
      damage_inner =
          λ x y has. ap (λ b. not (is_super l.kind) && in_inner b l.bits.width l.bits.height x y) (told_framed c l l.window) ∙
          k.damage_inner x y has;
    }

-- a settled layer whose window is told is settled
told_settled : (sizes : Sizes) (c : Across) (l m : Layer) → IsSettled sizes c l m → IsSettled sizes c l (with_messages c m)
told_settled sizes c l m s =
    record {
      keeping = told_keeping sizes.depth (shows c l) c m s.keeping;
      kind = s.kind;
      backdrop = s.backdrop;
      scroll_x = s.scroll_x;
      scroll_y = s.scroll_y;
      window = told_window c m m.window ∙ s.window;
      framed = told_framed c m m.window ∙ s.framed;
      columns = s.columns;
      rows = s.rows;
      own_columns = s.own_columns;
      own_rows = s.own_rows;
    }

-- the frame of a revealed layer is painted on kept pixels alone
revealed_framed : (sizes : Sizes) (glyphs : List (List ℕ)) (c : Across) (l : Layer) → IsSettled sizes c l (revealed_in c l)
    → IsSettled sizes c l (with_frame glyphs (keeps c (revealed_in c l)) c.new_active (revealed_in c l))
unfolding is_kept
revealed_framed sizes glyphs c l s =
    painted_settled sizes c l (revealed_in c l) _ s
    (frame_painted sizes.depth (shows c l) (keeps c (revealed_in c l)) glyphs c.new_active (revealed_in c l) s.keeping
    (λ x y on. on))

-- a super-bitmap layer has no frame to paint
own_framed : (sizes : Sizes) (glyphs : List (List ℕ)) (kept : ℕ → ℕ → Bool) (c : Across) (l : Layer) → is_framed l.window ≡ false
    → IsSettled sizes c l l → IsSettled sizes c l (with_frame glyphs kept c.new_active l)
own_framed sizes glyphs kept c l frameless s = rw (frameless_by glyphs kept c.new_active l.window l frameless) s

-- An arrangement leaves a layer that is ready for it keeping what it should.
pub layer_settled : (sizes : Sizes) (glyphs : List (List ℕ)) (c : Across) (l : Layer) → IsReady sizes c.new_bounds l
    → IsSettled sizes c l (settled_layer glyphs c l)
unfolding settled_layer revealed
layer_settled sizes glyphs c l ready = go (is_super l.kind) refl
  where
    go : (b : Bool) → is_super l.kind ≡ b
        → IsSettled sizes c l (with_messages c (with_due_frame glyphs c l (if b then l else revealed_in c l)))
    go true own =
        let s = own_settled sizes c l ready own in
        told_settled sizes c l _
        (either sizes c l _ _ (frame_is_due c l l) (own_framed sizes glyphs (keeps c l) c l (ready.frameless own) s) s)
    go false other =
        let s = revealed_settled sizes c l ready other in
        told_settled sizes c l _
        (either sizes c l _ _ (frame_is_due c l (revealed_in c l)) (revealed_framed sizes glyphs c l s) s)

-- whether a portion lies in a bitmap rests on its place and the bitmap's size
portion_fits_same : (x y x' y' w h w' h' : ℕ) (r : Rectangle) → x ≡ x' → y ≡ y' → w ≡ w' → h ≡ h'
    → portion_fits (pos x) (pos y) w h r ≡ portion_fits (pos x') (pos y') w' h' r
portion_fits_same x y x' y' w h w' h' r left upper width height = cc

-- the portion that a settled super-bitmap layer shows
portion_settled : (sizes : Sizes) (c : Across) (l m : Layer) (r : Rectangle) (own : Bool) → IsSettled sizes c l m
    → is_super l.kind ≡ own → (if own then portion_fits (pos m.scroll_x) (pos m.scroll_y) m.bits.width m.bits.height r else true)
    ≡ (if own then portion_fits (pos l.scroll_x) (pos l.scroll_y) l.bits.width l.bits.height r else true)
portion_settled sizes c l m r true s own =
    portion_fits_same _ _ _ _ _ _ _ _ r s.scroll_x s.scroll_y (s.own_columns own) (s.own_rows own)
portion_settled sizes c l m r false s own = refl

-- a settled layer may have the bounds that it might have before
may_have_bounds_settled : (sizes : Sizes) (c : Across) (l m : Layer) (r : Rectangle) → IsSettled sizes c l m
    → layer_may_have_bounds sizes m r ≡ layer_may_have_bounds sizes l r
may_have_bounds_settled sizes c l m r s =
    let super_same : is_super m.kind ≡ is_super l.kind = ap is_super s.kind in
    let rest = portion_settled sizes c l m r (is_super l.kind) s refl in
    rw (super_same, s.framed, rest) refl

-- A settled layer is where its new bounds are.
pub placed_settled : (sizes : Sizes) (c : Across) (l m : Layer) → IsReady sizes c.new_bounds l → IsSettled sizes c l m
    → IsPlaced sizes m c.new_bounds
placed_settled sizes c l m ready s = go c.new_bounds ready.may (λ e. s.columns e) (λ e. s.rows e)
  where
    same : is_super m.kind ≡ is_super l.kind
    same = ap is_super s.kind

    go : (b : Option Rectangle) → may_at sizes l b ≡ true → (is_super l.kind ≡ false → m.bits.width ≡ width_in b)
        → (is_super l.kind ≡ false → m.bits.height ≡ height_in b) → IsPlaced sizes m b
    go None h columns rows = false≢true h
    go (Some r) h columns rows =
        record {
          may = may_have_bounds_settled sizes c l m r s ∙ h;
          columns = λ e. columns (sym same ∙ e);
          rows = λ e. rows (sym same ∙ e);
          left = λ e. s.scroll_x ∙ ready.left (sym same ∙ e);
          upper = λ e. s.scroll_y ∙ ready.upper (sym same ∙ e);
        }

-- A settled layer keeps what it should, where it shows what its bounds say.
pub keeping_settled : (sizes : Sizes) (c : Across) (l m : Layer) → IsSettled sizes c l m → IsKeeping sizes.depth (shows c m) m
keeping_settled sizes c l m s =
    let same : shows c m ≡ shows c l = λ i. λ x y. visible_within c.new_shown c.new_bounds (s.scroll_x i) (s.scroll_y i) x y in
    rw same s.keeping
