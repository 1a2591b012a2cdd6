-- What each call on one layer leaves of it, where it keeps the scroll: the layer goes on keeping what it should.
use Rattle.std.proofs.Common.{◌≡◌, ℕ, ◌-◌, ◌==◌, ◌^◌, ◌<◌, Bool, true, false, not, ◌&&◌, List, refl, ap, ◌∙◌, arith, Option, Some}
use Rattle.std.proofs.Common.{None}
use Rattle.std.specs.Prelude.{if◌then◌else◌, nat_lt, ℤ}
use Rattle.std.specs.Int.{bit_at}
use Rattle.std.proofs.lemmas.Bool.{and_parts}
use Rattle.std.proofs.lemmas.Nat.Bits.{bit_at-lt}
use Rattle.lw_region.specs.Rectangle.{Rectangle}
use Rattle.lw_region.specs.Pixels.{Pixel}
use Rattle.lw_planes.specs.Grid.{grid, at}
use Rattle.lw_planes.specs.Bitmap.{Bitmap, pen_at}
use Rattle.lw_planes.proofs.PenLaws.{pen_of_lt}
use Rattle.lw_planes.proofs.ChosenLaws.{minterm_bit_lt, chosen_small}
use Rattle.lw_calls.specs.declared.area.Area.{Area}
use Rattle.lw_machine.specs.Hook.{Hook}
use Rattle.lw_machine.specs.Layer.{Layer, Slot, Unopened, Live, Closed, Raster, Window, is_window, is_framed, changed_window}
use Rattle.lw_machine.specs.Layer.{change_window}
use Rattle.lw_calls.specs.Kinds.{is_super}
use Rattle.lw_machine.specs.Kept.{is_kept, is_drawable, holds_at, in_inner, may_be_damaged}
use Rattle.lw_machine.specs.Paint.{with_pens, draw_where, paint_where, set_where, is_drawn, through_mask, candidate_bit}
use Rattle.lw_machine.specs.Paint.{has_complement, has_jam2}
use Rattle.lw_machine.specs.Shapes.{write_pixel, rect_fill, draw_line, with_cursor, draw_text, set_rast}
use Rattle.lw_machine.specs.Blits.{blitted, blt_bitmap_rast_port, in_rectangle, scrolled_mark, scroll_raster}
use Rattle.lw_machine.specs.Step.{clip_blit_from, end_update, set_window_titles, get_msg}
use Rattle.lw_machine.specs.Sound.{IsKeeping}
use Rattle.lw_machine.proofs.PaintSound.{IsPainted, is_painted, unpainted, frame_painted, grid_at_true}

-- A layer m that keeps what it should, where it shows the same pixels as the layer l, and is as placed, as far back and as
-- much of a window as l.
pub record IsAlike (planes : ℕ) (visible : ℕ → ℕ → Bool) (l m : Layer) : Type 0 where
  pub keeping : IsKeeping planes visible m
  pub kind : m.kind ≡ l.kind
  pub backdrop : m.backdrop ≡ l.backdrop
  pub scroll_x : m.scroll_x ≡ l.scroll_x
  pub scroll_y : m.scroll_y ≡ l.scroll_y
  pub width : m.bits.width ≡ l.bits.width
  pub height : m.bits.height ≡ l.bits.height
  pub window : is_window m.window ≡ is_window l.window
  pub framed : is_framed m.window ≡ is_framed l.window

-- a painted layer
pub painted_alike : (planes : ℕ) (visible : ℕ → ℕ → Bool) (l m : Layer) → IsPainted planes visible l m
    → IsAlike planes visible l m
painted_alike planes visible l m p =
    record {
      keeping = p.keeping;
      kind = p.kind;
      backdrop = p.backdrop;
      scroll_x = p.scroll_x;
      scroll_y = p.scroll_y;
      width = p.width;
      height = p.height;
      window = ap is_window p.window;
      framed = ap is_framed p.window;
    }

-- a layer as it is
pub alike_self : (planes : ℕ) (visible : ℕ → ℕ → Bool) (l : Layer) → IsKeeping planes visible l → IsAlike planes visible l l
alike_self planes visible l k = painted_alike planes visible l l (unpainted planes visible l k)

-- a layer keeps what it should whatever its raster state, its clip region, whether it is updating, and what window it is
dressed_keeping : (planes : ℕ) (visible : ℕ → ℕ → Bool) (m : Layer) (r : Raster) (c : Option (List Pixel)) (u : Bool)
    (w : Option Window) → is_framed w ≡ is_framed m.window → IsKeeping planes visible m
    → IsKeeping planes visible (record m { raster = r; clip = c; updating = u; window = w })
unfolding is_kept
dressed_keeping planes visible m r c u w framed k =
    record {
      bitmap = k.bitmap;
      planes = k.planes;
      frameless = λ e. framed ∙ k.frameless e;
      off_kept = k.off_kept;
      damage_kept = k.damage_kept;
      damage_inner =
          λ x y e. ap (λ b. not (is_super m.kind) && in_inner b m.bits.width m.bits.height x y) framed ∙ k.damage_inner x y e;
    }

-- the same for a layer that is like another
dressed_alike : (planes : ℕ) (visible : ℕ → ℕ → Bool) (l m : Layer) (r : Raster) (c : Option (List Pixel)) (u : Bool)
    (w : Option Window) → is_window w ≡ is_window m.window → is_framed w ≡ is_framed m.window → IsAlike planes visible l m
    → IsAlike planes visible l (record m { raster = r; clip = c; updating = u; window = w })
dressed_alike planes visible l m r c u w window framed a =
    record {
      keeping = dressed_keeping planes visible m r c u w framed a.keeping;
      kind = a.kind;
      backdrop = a.backdrop;
      scroll_x = a.scroll_x;
      scroll_y = a.scroll_y;
      width = a.width;
      height = a.height;
      window = window ∙ a.window;
      framed = framed ∙ a.framed;
    }

-- with another raster state
pub raster_alike : (planes : ℕ) (visible : ℕ → ℕ → Bool) (l m : Layer) (r : Raster) → IsAlike planes visible l m
    → IsAlike planes visible l (record m { raster = r })
raster_alike planes visible l m r a = dressed_alike planes visible l m r m.clip m.updating m.window refl refl a

-- with or without a clip region
pub clip_alike : (planes : ℕ) (visible : ℕ → ℕ → Bool) (l : Layer) (c : Option (List Pixel)) → IsKeeping planes visible l
    → IsAlike planes visible l (record l { clip = c })
clip_alike planes visible l c k =
    dressed_alike planes visible l l l.raster c l.updating l.window refl refl (alike_self planes visible l k)

-- with another hook, or none
pub hook_alike : (planes : ℕ) (visible : ℕ → ℕ → Bool) (l : Layer) (h : Option Hook) → IsKeeping planes visible l
    → IsAlike planes visible l (record l { hook = h })
unfolding is_kept
hook_alike planes visible l h k =
    record {
      keeping = record {
        bitmap = k.bitmap;
        planes = k.planes;
        frameless = k.frameless;
        off_kept = k.off_kept;
        damage_kept = k.damage_kept;
        damage_inner = k.damage_inner;
      };
      kind = refl;
      backdrop = refl;
      scroll_x = refl;
      scroll_y = refl;
      width = refl;
      height = refl;
      window = refl;
      framed = refl;
    }

-- updating or not
pub updating_alike : (planes : ℕ) (visible : ℕ → ℕ → Bool) (l : Layer) (u : Bool) → IsKeeping planes visible l
    → IsAlike planes visible l (record l { updating = u })
updating_alike planes visible l u k =
    dressed_alike planes visible l l l.raster l.clip u l.window refl refl (alike_self planes visible l k)

-- a changed window is one
window_stays : (f : Window → Window) (o : Option Window) → is_window (changed_window f o) ≡ is_window o
window_stays f None = refl
window_stays f (Some w) = refl

-- it has a frame as before
frame_stays : (f : Window → Window) → ((w : Window) → (f w).framed ≡ w.framed) → (o : Option Window)
    → is_framed (changed_window f o) ≡ is_framed o
frame_stays f same None = refl
frame_stays f same (Some w) = same w

-- with a window that is changed but for its frame
pub window_alike : (planes : ℕ) (visible : ℕ → ℕ → Bool) (l m : Layer) (f : Window → Window)
    → ((w : Window) → (f w).framed ≡ w.framed) → IsAlike planes visible l m → IsAlike planes visible l (change_window f m)
window_alike planes visible l m f same a =
    dressed_alike planes visible l m m.raster m.clip m.updating (changed_window f m.window) (window_stays f m.window)
    (frame_stays f same m.window) a

-- with other damage, which lies where it may
damaged_alike : (planes : ℕ) (visible : ℕ → ℕ → Bool) (l m : Layer) (damage : List (List Bool))
    → ((x y : ℕ) → at false damage x y ≡ true → is_kept visible m x y ≡ true)
    → ((x y : ℕ) → at false damage x y ≡ true → may_be_damaged m x y ≡ true) → IsAlike planes visible l m
    → IsAlike planes visible l (record m { damage = damage })
unfolding is_kept
damaged_alike planes visible l m damage kept inner a =
    record {
      keeping = record {
        bitmap = a.keeping.bitmap;
        planes = a.keeping.planes;
        frameless = a.keeping.frameless;
        off_kept = a.keeping.off_kept;
        damage_kept = kept;
        damage_inner = inner;
      };
      kind = a.kind;
      backdrop = a.backdrop;
      scroll_x = a.scroll_x;
      scroll_y = a.scroll_y;
      width = a.width;
      height = a.height;
      window = a.window;
      framed = a.framed;
    }

-- without damage
pub undamaged_alike : (planes : ℕ) (visible : ℕ → ℕ → Bool) (l m : Layer) (w h : ℕ) → IsAlike planes visible l m
    → IsAlike planes visible l (record m { damage = grid w h (λ x y. false) })
undamaged_alike planes visible l m w h a =
    damaged_alike planes visible l m (grid w h (λ x y. false)) (λ x y e. absurd (none x y e)) (λ x y e. absurd (none x y e)) a
  where
    none : (x y : ℕ) → at false (grid w h (λ x y. false)) x y ≡ true → ⊥
    none x y e = let t : false ≡ true = grid_at_true w h (λ x y. false) x y e in cc

-- a drawable pixel is kept
pub drawable_kept : (visible : ℕ → ℕ → Bool) (l : Layer) (x y : ℕ) → is_drawable visible l x y ≡ true
    → is_kept visible l x y ≡ true
unfolding is_drawable
drawable_kept visible l x y e = (and_parts (is_kept visible l x y) _ e).0

-- a pen put through a mask has bits in the planes alone
pub through_mask_lt : (depth mask : ℕ) (candidate : ℕ → ℕ) (old : ℕ) → ((k : ℕ) → candidate k < 2)
    → through_mask depth mask candidate old < 2 ^ depth
unfolding through_mask
through_mask_lt depth mask candidate old bits =
    pen_of_lt depth (λ k. if bit_at mask k == 1 then candidate k else bit_at old k) (λ k h. pick (bit_at mask k == 1) k)
  where
    pick : (b : Bool) (k : ℕ) → (if b then candidate k else bit_at old k) < 2
    pick true k = bits k
    pick false k = bit_at-lt old k

-- what a bit becomes is a bit
pub candidate_bit_lt : (r : Raster) (foreground : Bool) (k old : ℕ) → old < 2 → candidate_bit r foreground k old < 2
candidate_bit_lt r foreground k old h =
    chosen_small (has_complement r) _ _ 2
    (chosen_small foreground (1 - old) old 2 (omega arith) h)
    (chosen_small foreground (bit_at r.pen_a k) _ 2 (bit_at-lt r.pen_a k)
    (chosen_small (has_jam2 r) (bit_at r.pen_b k) old 2 (bit_at-lt r.pen_b k) h))

-- pens on drawable pixels alone
with_pens_alike : (planes : ℕ) (visible : ℕ → ℕ → Bool) (on : ℕ → ℕ → Bool) (pen : ℕ → ℕ → ℕ) (l : Layer)
    → ((x y : ℕ) → on x y ≡ true → is_drawable visible l x y ≡ true) → ((x y : ℕ) → pen x y < 2 ^ l.bits.depth)
    → IsKeeping planes visible l → IsAlike planes visible l (with_pens on pen l)
with_pens_alike planes visible on pen l drawable small k =
    painted_alike planes visible l (with_pens on pen l)
    (is_painted planes visible on pen l k (λ x y e. drawable_kept visible l x y (drawable x y e)) small)

-- drawing a shape through the mask
draw_alike : (planes : ℕ) (visible shape : ℕ → ℕ → Bool) (candidate : ℕ → ℕ → ℕ → ℕ) (l : Layer)
    → ((x y k : ℕ) → candidate x y k < 2) → IsKeeping planes visible l
    → IsAlike planes visible l (draw_where visible shape candidate l)
draw_alike planes visible shape candidate l bits k =
    with_pens_alike planes visible (λ x y. is_drawable visible l x y && shape x y) _ l
    (λ x y e. (and_parts (is_drawable visible l x y) _ e).0)
    (λ x y. through_mask_lt l.bits.depth l.raster.mask (candidate x y) (pen_at l.bits x y) (bits x y))
    k

-- painting a shape
paint_alike : (planes : ℕ) (visible shape foreground : ℕ → ℕ → Bool) (l : Layer) → IsKeeping planes visible l
    → IsAlike planes visible l (paint_where visible shape foreground l)
paint_alike planes visible shape foreground l k =
    draw_alike planes visible shape _ l
    (λ x y p. candidate_bit_lt l.raster (foreground x y) p (bit_at (pen_at l.bits x y) p) (bit_at-lt (pen_at l.bits x y) p)) k

-- setting the pens of a shape
set_alike : (planes : ℕ) (visible shape : ℕ → ℕ → Bool) (pen : ℕ → ℕ → ℕ) (l : Layer) → IsKeeping planes visible l
    → IsAlike planes visible l (set_where visible shape pen l)
set_alike planes visible shape pen l k = draw_alike planes visible shape _ l (λ x y p. bit_at-lt (pen x y) p) k

-- WritePixel
pub pixel_alike : (planes : ℕ) (visible : ℕ → ℕ → Bool) (x y : ℤ) (l : Layer) → IsKeeping planes visible l
    → IsAlike planes visible l (write_pixel visible x y l)
pixel_alike planes visible x y l k = paint_alike planes visible _ (λ a b. true) l k

-- RectFill
pub fill_alike : (planes : ℕ) (visible : ℕ → ℕ → Bool) (rect : Rectangle) (l : Layer) → IsKeeping planes visible l
    → IsAlike planes visible l (rect_fill visible rect l)
fill_alike planes visible rect l k = paint_alike planes visible _ (λ a b. true) l k

-- Move: the cursor stands elsewhere
cursor_alike : (planes : ℕ) (visible : ℕ → ℕ → Bool) (l m : Layer) (x y : ℤ) → IsAlike planes visible l m
    → IsAlike planes visible l (with_cursor x y m)
cursor_alike planes visible l m x y a = raster_alike planes visible l m (record m.raster { cursor_x = x; cursor_y = y }) a

-- Draw
pub line_alike : (planes : ℕ) (visible : ℕ → ℕ → Bool) (x y : ℤ) (l : Layer) → IsKeeping planes visible l
    → IsAlike planes visible l (draw_line visible x y l)
line_alike planes visible x y l k = cursor_alike planes visible l _ x y (paint_alike planes visible _ (λ a b. true) l k)

-- Text
pub letters_alike : (planes : ℕ) (visible : ℕ → ℕ → Bool) (glyphs : List (List ℕ)) (text : List ℕ) (l : Layer)
    → IsKeeping planes visible l → IsAlike planes visible l (draw_text glyphs visible text l)
letters_alike planes visible glyphs text l k = cursor_alike planes visible l _ _ _ (paint_alike planes visible _ _ l k)

-- SetRast
pub raster_set_alike : (planes : ℕ) (visible : ℕ → ℕ → Bool) (pen : ℕ) (l : Layer) → IsKeeping planes visible l
    → IsAlike planes visible l (set_rast visible pen l)
raster_set_alike planes visible pen l k = set_alike planes visible _ _ l k

-- a blit
blit_alike : (planes : ℕ) (visible : ℕ → ℕ → Bool) (has_source : ℤ → ℤ → Bool) (source : Bitmap) (area : Area) (l : Layer)
    → IsKeeping planes visible l → IsAlike planes visible l (blitted has_source source visible area l)
blit_alike planes visible has_source source area l k =
    draw_alike planes visible _ _ l (λ x y p. minterm_bit_lt area.minterm _ (bit_at (pen_at l.bits x y) p)) k

-- BltBitMapRastPort
pub put_bitmap_alike : (planes : ℕ) (visible : ℕ → ℕ → Bool) (source : Bitmap) (area : Area) (l : Layer)
    → IsKeeping planes visible l → IsAlike planes visible l (blt_bitmap_rast_port source visible area l)
put_bitmap_alike planes visible source area l k =
    blit_alike planes visible (holds_at (λ x y. nat_lt x source.width && nat_lt y source.height)) source area l k

-- ClipBlit
pub blit_from_alike : (planes : ℕ) (source : Slot) (source_visible : Layer → ℕ → ℕ → Bool) (visible : ℕ → ℕ → Bool) (area : Area)
    (l : Layer) → IsKeeping planes visible l → IsAlike planes visible l (clip_blit_from source source_visible visible area l)
blit_from_alike planes Unopened source_visible visible area l k = alike_self planes visible l k
blit_from_alike planes (Live s) source_visible visible area l k =
    blit_alike planes visible (holds_at (is_kept (source_visible s) s)) s.bits area l k
blit_from_alike planes Closed source_visible visible area l k = alike_self planes visible l k

-- a choice between two truth values that is true, where either of them entails the same
choice_true : (b p q : Bool) (P : Type 0) → (b ≡ true → P) → (q ≡ true → P) → (if b then p else q) ≡ true → P
choice_true true p q P f g e = f refl
choice_true false p q P f g e = g e

-- ScrollRaster
pub scroll_raster_alike : (planes : ℕ) (visible : ℕ → ℕ → Bool) (dx dy : ℤ) (rect : Rectangle) (l : Layer)
    → IsKeeping planes visible l → IsAlike planes visible l (scroll_raster visible dx dy rect l)
unfolding with_pens is_kept
scroll_raster_alike planes visible dx dy rect l k =
    damaged_alike planes visible l _ (grid l.bits.width l.bits.height damaged)
    (λ x y e. choice_true (is_drawn visible (in_rectangle rect) l x y) _ _ (is_kept visible l x y ≡ true)
    (λ here. drawable_kept visible l x y (and_parts (is_drawable visible l x y) _ here).0) (k.damage_kept x y)
    (marked x y e).0)
    (λ x y e. (marked x y e).1)
    (set_alike planes visible _ _ l k)
  where
    damaged : ℕ → ℕ → Bool
    damaged x y = scrolled_mark visible dx dy rect l (at false l.damage) x y && may_be_damaged l x y

    marked : (x y : ℕ) → at false (grid l.bits.width l.bits.height damaged) x y ≡ true
        → (scrolled_mark visible dx dy rect l (at false l.damage) x y ≡ true) × (may_be_damaged l x y ≡ true)
    marked x y e = and_parts _ _ (grid_at_true l.bits.width l.bits.height damaged x y e)

-- EndUpdate
pub update_ended_alike : (planes : ℕ) (visible : ℕ → ℕ → Bool) (full : Bool) (l : Layer) → IsKeeping planes visible l
    → IsAlike planes visible l (end_update full l)
update_ended_alike planes visible false l k = updating_alike planes visible l false k
update_ended_alike planes visible true l k =
    window_alike planes visible l _ (λ w. record w { asked = false }) (λ w. refl)
    (undamaged_alike planes visible l (record l { updating = false }) l.bits.width l.bits.height
    (updating_alike planes visible l false k))

-- GetMsg
pub message_taken_alike : (planes : ℕ) (visible : ℕ → ℕ → Bool) (l : Layer) → IsKeeping planes visible l
    → IsAlike planes visible l (get_msg l)
message_taken_alike planes visible l k = window_alike planes visible l l _ (λ w. refl) (alike_self planes visible l k)

-- a layer that is painted after it was changed
pub painted_onto : (planes : ℕ) (visible : ℕ → ℕ → Bool) (l m n : Layer) → IsAlike planes visible l m
    → IsPainted planes visible m n → IsAlike planes visible l n
painted_onto planes visible l m n a p =
    record {
      keeping = p.keeping;
      kind = p.kind ∙ a.kind;
      backdrop = p.backdrop ∙ a.backdrop;
      scroll_x = p.scroll_x ∙ a.scroll_x;
      scroll_y = p.scroll_y ∙ a.scroll_y;
      width = p.width ∙ a.width;
      height = p.height ∙ a.height;
      window = ap is_window p.window ∙ a.window;
      framed = ap is_framed p.window ∙ a.framed;
    }

-- SetWindowTitles
pub titled_alike : (planes : ℕ) (visible : ℕ → ℕ → Bool) (glyphs : List (List ℕ)) (active : Bool) (title : List ℕ) (l : Layer)
    → IsKeeping planes visible l → IsAlike planes visible l (set_window_titles glyphs visible active title l)
unfolding is_kept
titled_alike planes visible glyphs active title l k =
    painted_onto planes visible l retitled _ a
    (frame_painted planes visible (is_kept visible l) glyphs active retitled a.keeping (λ x y e. e))
  where
    retitled : Layer
    retitled = change_window (λ w. record w { title = title }) l

    a : IsAlike planes visible l retitled
    a = window_alike planes visible l l (λ w. record w { title = title }) (λ w. refl) (alike_self planes visible l k)
