-- What blits and ScrollRaster answer and leave, in every desk whose slots have the layers.
use Rattle.std.proofs.Common.{arith, IsTrue, ◌≤ℤ◌, ◌≡◌, ℕ, ◌==◌, Bool, true, false, not, ◌&&◌, nat_lt, if◌then◌else◌, ℤ, pos, negsuc, List, Some, None, ◌∙◌, sym, refl, ap, subst}
use Rattle.std.specs.List.{slice_index_or}
use Rattle.std.proofs.lemmas.Bool.{eq-eqb, and_parts}
use Rattle.std.proofs.lemmas.Bool.Decides.{nat_tests}
use Rattle.std.proofs.lemmas.Int.{ints}
use Rattle.std.proofs.Math.Bool.{and-false}
use Rattle.lw_region.specs.Rectangle.{Rectangle, has_pixel, within}
use Rattle.lw_planes.specs.Bitmap.{Bitmap, IsBitmap}
use Rattle.lw_calls.specs.Assets.{Assets}
use Rattle.lw_calls.specs.declared.area.Area.{Area}
use Rattle.lw_calls.specs.declared.call.Call.{Call}
use Rattle.lw_calls.specs.declared.call.Call.TheVariants.{ScrollRaster, Put, Blit}
use Rattle.lw_calls.specs.Limits.{is_coordinate, coordinates_fit}
use Rattle.lw_calls.specs.declared.reply.Reply.TheVariants.{Done, NotOpen}
use Rattle.lw_calls.specs.declared.touch.CallClass.TheVariants.{OnLayer, OnLayers}
use Rattle.lw_calls.specs.Touches.{class_of}
use Rattle.lw_machine.specs.Layer.{Layer, Slot, is_live, change_layer}
use Rattle.lw_machine.specs.Desk.{Desk}
use Rattle.lw_machine.specs.Screen.{top}
use Rattle.lw_machine.specs.Kept.{is_visible, holds_at}
use Rattle.lw_machine.specs.Shapes.{box_at}
use Rattle.lw_machine.specs.Blits.{source_column, source_row, blit_candidate, clip_blit, blt_bitmap_rast_port, scroll_raster}
use Rattle.lw_machine.specs.Parts.{SlotPart, slot_part}
use Rattle.lw_machine.specs.Step.{refuse, refuse_not_open, further_refusal, refusal, on_layer, clip_blit_from, no_bitmap, effect, changed_unless, after}
use Rattle.lw_engine_trait.proofs.ClassLaws.{ArePair, pair_told, pair_apart}
use Rattle.lw_layer.specs.View.{LiveView, CellView, shows, draws, with_layer, with_live}
use Rattle.lw_layer.specs.View as view
use Rattle.lw_layer.specs.StandsFor.{IsLivePart, StandsFor}
use Rattle.lw_layer.proofs.SoundLaws.{live_part}
use Rattle.lw_draw.specs.Drawn.{in_mask}
use Rattle.lw_draw.proofs.DrawnLaws.{drawn_nowhere}
use Rattle.lw_draw.proofs.PaintLaws.{shape_drawn}
use Rattle.lw_layer_calls.specs.Parts.{IsSlotStep, IsPairStep}
use Rattle.lw_layer_calls.specs.Open.{IsLiveStep, IsOpenStep, IsLentStep}
use Rattle.lw_layer_calls.proofs.OneLayerLaws.{dead_slot, refused_step, class_refusal, on_slot, changed_step, shown_same, drawn_step}

-- a call within one layer is on that layer
pub class_within : (n : ℕ) (a : Area) → class_of (Blit n n a) ≡ OnLayer n
class_within n a = ap (λ t. if t then OnLayer n else OnLayers n n) (eq-eqb n n refl)

-- a slot's layer as the source of a blit
source_told : (d : Desk) (n : ℕ) (s : LiveView) (visible : ℕ → ℕ → Bool) (a : Area) (l : Layer) → IsLivePart s (slot_part d n) → clip_blit_from (d.slot n) (is_visible d n) visible a l ≡ clip_blit (λ i j. shows s i j) s.layer visible a l
source_told d n s visible a l live =
    ap (λ (k : Slot). clip_blit_from k (is_visible d n) visible a l) live.slot ∙
    ap (λ (v : ℕ → ℕ → Bool). clip_blit v s.layer visible a l) (shown_same d n s live)

-- a blit within a layer
pub within_step : (slot : ℕ) (c new : LiveView) (a : Area) → new ≡ with_layer (λ l. clip_blit (λ i j. shows c i j) l (λ i j. shows c i j) a l) c → IsOpenStep slot c (Blit slot slot a) Done new
within_step slot c new a leaves =
    λ d task live.
    drawn_step d task slot (Blit slot slot a) Done c new (λ visible. clip_blit_from (d.slot slot) (is_visible d slot) visible a) (class_within slot a) live refl refl refl
    (leaves ∙ ap (λ (l : Layer). with_layer (λ m. l) c) (sym (source_told d slot c (λ i j. shows c i j) a c.layer live)))

-- a blit from a bitmap that the script handed in
pub put_step : (c new : LiveView) (assets : Assets) (n : ℕ) (a : Area) (b : Bitmap) → slice_index_or assets.bitmaps n no_bitmap ≡ b → new ≡ with_layer (λ l. blt_bitmap_rast_port b (λ i j. shows c i j) a l) c → (task slot : ℕ) (regs : List (List Rectangle)) → IsLentStep task slot c regs assets (Put n slot a) Done new
put_step c new assets n a b found leaves task slot regs =
    λ d live registers handed.
    let made : Bitmap → LiveView = λ q. with_layer (λ l. blt_bitmap_rast_port q (λ i j. shows c i j) a l) c in
    drawn_step d task slot (Put n slot a) Done c new (λ visible. blt_bitmap_rast_port (slice_index_or d.assets.bitmaps n no_bitmap) visible a) refl live refl refl refl
    (leaves ∙ ap made (sym (ap (λ (q : Assets). slice_index_or q.bitmaps n no_bitmap) handed ∙ found)))

-- no pixel of a bitmap that has none is a source
no_source : (x y : ℤ) → holds_at (λ i j. nat_lt i 0 && nat_lt j 0) x y ≡ false
no_source (pos x) (pos y) = grind (arith, nat_tests)
no_source (pos x) (negsuc y) = refl
no_source (negsuc x) y = refl

not_there : (drawable inside there : Bool) → there ≡ false → (drawable && (inside && there)) ≡ false
not_there true true there off = off
not_there true false there off = refl
not_there false inside there off = refl

-- it draws nothing
pub nothing_put : (c : LiveView) (a : Area) → IsBitmap c.layer.bits → c ≡ with_layer (λ l. blt_bitmap_rast_port no_bitmap (λ i j. shows c i j) a l) c
nothing_put c a ok =
    let new : ℕ → ℕ → ℕ → ℕ → ℕ = λ p x y old. blit_candidate no_bitmap a c.layer x y p in
    sym (drawn_nowhere c (λ p x y. in_mask c.layer.raster p && false) new ok (λ p x y. and-false (in_mask c.layer.raster p))) ∙
    shape_drawn c (λ x y. has_pixel (box_at a.x a.y a.w a.h) (pos x) (pos y) && holds_at (λ i j. nat_lt i 0 && nat_lt j 0) (source_column a x) (source_row a y)) (λ x y. false) new ok
    (λ x y left low. not_there (draws c x y) (has_pixel (box_at a.x a.y a.w a.h) (pos x) (pos y)) _ (no_source (source_column a x) (source_row a y)))

-- a scroll of a rectangle
pub scrolled_step : (c new : LiveView) (dx dy told_x told_y : ℤ) (rect : Rectangle) → told_x ≡ dx → told_y ≡ dy → new ≡ with_layer (λ l. scroll_raster (λ i j. shows c i j) told_x told_y rect l) c → (slot : ℕ) → IsOpenStep slot c (ScrollRaster slot dx dy rect) Done new
scrolled_step c new dx dy told_x told_y rect same_x same_y leaves slot =
    λ d task live.
    let made : ℤ → ℤ → LiveView = λ u v. with_layer (λ l. scroll_raster (λ i j. shows c i j) u v rect l) c in
    drawn_step d task slot (ScrollRaster slot dx dy rect) Done c new (λ visible. scroll_raster visible dx dy rect) refl live refl refl refl
    (leaves ∙ (ap (λ u. made u told_y) same_x ∙ ap (λ v. made dx v) same_y))

-- a coordinate is far from the ends of the numbers
coordinate_near : (z : ℤ) → is_coordinate z ≡ true → (negsuc 65534 ≤ℤ z) × (z ≤ℤ pos 65535)
unfolding within
coordinate_near z is = (grind (arith, ints), grind (arith, ints))

pub column_near : (dx dy : ℤ) → IsTrue (coordinates_fit dx dy) → (negsuc 65534 ≤ℤ dx) × (dx ≤ℤ pos 65535)
column_near dx dy fits = coordinate_near dx (and_parts (is_coordinate dx) (is_coordinate dy) fits).0

pub row_near : (dx dy : ℤ) → IsTrue (coordinates_fit dx dy) → (negsuc 65534 ≤ℤ dy) × (dy ≤ℤ pos 65535)
row_near dx dy fits = coordinate_near dy (and_parts (is_coordinate dx) (is_coordinate dy) fits).1

-- a call on two layers of which one isn't open
pair_refused : (source to : CellView) (call : Call) (d : Desk) (task : ℕ) → refusal d task call ≡ Some NotOpen → StandsFor source (slot_part d source.number) → StandsFor to (slot_part d to.number) → StandsFor source (slot_part (after d task call) source.number) × IsSlotStep d task to.number call NotOpen to
pair_refused source to call d task refused from stands =
    ((refused_step d task source.number call NotOpen (λ p. StandsFor source p) refused from).1, refused_step d task to.number call NotOpen (λ p. StandsFor to p) refused stands)

class_refuses : (source to : CellView) (call : Call) (d : Desk) (task : ℕ) → class_of call ≡ OnLayers source.number to.number → refusal d task call ≡ refuse_not_open (d.slot source.number) (refuse_not_open (d.slot to.number) (further_refusal d task call))
class_refuses source to call d task class = class_refusal d task call (OnLayers source.number to.number) class (λ other. cc other)

pub source_not_open : (source to : CellView) (call : Call) → class_of call ≡ OnLayers source.number to.number → (source.state ≡ view.Live → ⊥) → IsPairStep source to call NotOpen to
source_not_open source to call class idle =
    λ d task from stands.
    pair_refused source to call d task
    (class_refuses source to call d task class ∙
    ap (λ live. refuse (not live) NotOpen (refuse_not_open (d.slot to.number) (further_refusal d task call))) (dead_slot source (slot_part d source.number) idle from))
    from stands

refused_either : (live : Bool) → refuse (not live) NotOpen (Some NotOpen) ≡ Some NotOpen
refused_either true = refl
refused_either false = refl

pub target_not_open : (source to : CellView) (call : Call) → class_of call ≡ OnLayers source.number to.number → (to.state ≡ view.Live → ⊥) → IsPairStep source to call NotOpen to
target_not_open source to call class idle =
    λ d task from stands.
    pair_refused source to call d task
    (class_refuses source to call d task class ∙
    (ap (λ live. refuse_not_open (d.slot source.number) (refuse (not live) NotOpen (further_refusal d task call))) (dead_slot to (slot_part d to.number) idle stands) ∙
    refused_either (is_live (d.slot source.number))))
    from stands

-- the source's part stays, where another slot's layer changes
source_stays : (d : Desk) (s t : ℕ) (f : Layer → Layer) (c : CellView) → (s == t) ≡ false → StandsFor c (slot_part d s) → StandsFor c (slot_part (on_layer d t f) s)
unfolding top
source_stays d s t f c apart stands =
    let part : Slot → SlotPart = λ k. record (slot_part d s) { slot = k } in
    let P : Slot → Type 0 = λ k. StandsFor c (part k) in
    subst P (sym (ap (λ b. if b then change_layer f (d.slot t) else d.slot s) apart)) stands

-- a blit from one layer to another
blit_between : (source to : CellView) (new : LiveView) (a : Area) → (source.number == to.number) ≡ false → class_of (Blit source.number to.number a) ≡ OnLayers source.number to.number → source.state ≡ view.Live → to.state ≡ view.Live → new ≡ with_layer (λ l. clip_blit (λ i j. shows source.live i j) source.live.layer (λ i j. shows to.live i j) a l) to.live → IsPairStep source to (Blit source.number to.number a) Done (with_live (λ k. new) to)
unfolding after
blit_between source to new a apart class opened is leaves =
    λ d task from stands.
    let s : ℕ = source.number in
    let t : ℕ = to.number in
    let call : Call = Blit s t a in
    let live : IsLivePart source.live (slot_part d s) = live_part source (slot_part d s) opened from in
    let target : IsLivePart to.live (slot_part d t) = live_part to (slot_part d t) is stands in
    let l : Layer = to.live.layer in
    let f : Layer → Layer = λ m. clip_blit_from (d.slot s) (is_visible d s) (is_visible d t m) a m in
    let g : Layer → Layer = λ m. clip_blit (λ i j. shows source.live i j) source.live.layer (λ i j. shows to.live i j) a m in
    let passes : refusal d task call ≡ None =
    class_refuses source to call d task class ∙
    (ap (λ (k : Slot). refuse_not_open k (refuse_not_open (d.slot t) None)) live.slot ∙
    ap (λ (k : Slot). refuse_not_open k None) target.slot) in
    let same : f l ≡ g l =
    source_told d s source.live (is_visible d t l) a l live ∙
    ap (λ (v : ℕ → ℕ → Bool). clip_blit (λ i j. shows source.live i j) source.live.layer v a l) (shown_same d t to.live target) in
    let P : LiveView → Type 0 = IsLiveStep d task t call Done in
    let Q : Desk → Type 0 = λ e. StandsFor source (slot_part e s) in (
      subst Q (sym (ap (λ o. changed_unless o d (effect d task call)) passes)) (source_stays d s t f source apart from),
      on_slot d task to call Done new is (subst P (sym leaves) (changed_step d task t call Done to.live f g target passes refl refl same)),
    )

pub between_step : (source to : CellView) (from target new : LiveView) (call : Call) (m n : ℕ) (a : Area) → class_of call ≡ OnLayers source.number to.number → call ≡ Blit m n a → source.state ≡ view.Live → to.state ≡ view.Live → from ≡ source.live → target ≡ to.live → new ≡ with_layer (λ l. clip_blit (λ i j. shows from i j) from.layer (λ i j. shows target i j) a l) target → IsPairStep source to call Done (with_live (λ k. new) to)
between_step source to from target new call m n a class call_is opened is read lent leaves =
    let told : ArePair m n source.number to.number = pair_told m n source.number to.number a (sym (ap class_of call_is) ∙ class) in
    let same : call ≡ Blit source.number to.number a = call_is ∙ (ap (λ k. Blit k n a) told.from ∙ ap (λ k. Blit source.number k a) told.to) in
    let apart : (source.number == to.number) ≡ false = pair_apart call source.number to.number class in
    let blitted : LiveView → LiveView → LiveView = λ s t. with_layer (λ l. clip_blit (λ i j. shows s i j) s.layer (λ i j. shows t i j) a l) t in
    let P : Call → Type 0 = λ k. IsPairStep source to k Done (with_live (λ k. new) to) in
    subst P (sym same)
    (blit_between source to new a apart (sym (ap class_of same) ∙ class) opened is (leaves ∙ (ap (λ s. blitted s target) read ∙ ap (blitted source.live) lent)))
