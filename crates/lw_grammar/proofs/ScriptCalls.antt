-- The calls that lines spell fit the plan's sizes, and may stand in their groups.
use Rattle.std.proofs.Common.{◌≡◌, ℕ, ◌<◌, ◌≤◌, Bool, true, false, not, ◌&&◌, nat_le, nat_lt, List, length, slice_index, ℤ, pos, ◌+ℤ◌, ◌-ℤ◌, unsigned_abs, Option, Some, None, option_map, bytes_eq, refl, sym, ap, subst, arith}
use Rattle.std.specs.List.{list_any}
use Rattle.lw_region.specs.Rectangle.{within, Rectangle}
use Rattle.lw_calls.specs.declared.make.Kind.{Kind}
use Rattle.lw_calls.specs.declared.make.Kind.TheVariants.{Simple, Smart, SuperBitmap}
use Rattle.lw_calls.specs.declared.sizes.Sizes.{Sizes}
use Rattle.lw_calls.specs.Limits.{is_coordinate, hook_fits, kind_fits, make_fits, axis_fits, rect_fits, coordinates_fit, is_byte, window_fits, call_fits, is_extent}
use Rattle.lw_calls.specs.Kinds.{is_super}
use Rattle.lw_calls.proofs.LimitLaws.{extent_fits}
use Rattle.lw_grammar.specs.declared.verb.BareVerb.{BareVerb}
use Rattle.lw_grammar.specs.declared.verb.BareVerb.TheVariants.{Close as CloseVerb}
use Rattle.lw_grammar.specs.declared.verb.NumberVerb.TheVariants.{Mode as ModeVerb, Clip as ClipVerb, Hook as HookVerb}
use Rattle.lw_grammar.specs.declared.verb.PairVerb.{PairVerb}
use Rattle.lw_grammar.specs.declared.verb.PairVerb.TheVariants.{Move as MoveVerb}
use Rattle.lw_grammar.specs.declared.verb.TextVerb.{TextVerb}
use Rattle.lw_grammar.specs.declared.verb.TextVerb.TheVariants.{Text as TextOf}
use Rattle.lw_grammar.specs.Statements.{NewLayer, Act, BareAct, NumberAct, PairAct, TextAct, RegRectAct, RegPairAct, RegClearAct, CreateAct, OpenAct, InFrontAct, BoxAct, WhichAct, FillAct, ScrollRasterAct, PutAct, BlitAct, EndRefreshAct, CallLine, is_hook_number, is_own_size, is_new_layer_in_range, is_act_in_range, layers_of, Box, box_fits}
use Rattle.lw_grammar.specs.Told.{place_among, make_of, created_make, opened_make, bare_call, pair_call, text_call, spelled_call, hook_on}
use Rattle.lw_grammar.specs.Script.{lacks_name, is_no_hook}
use Rattle.lw_grammar.specs.GoodLines.{is_known_act, IsNewLayerOf, IsActMade}
use Rattle.lw_grammar.proofs.ScriptNames.{place_below}
use Rattle.std.proofs.lemmas.Int.{ints}
use Rattle.std.proofs.lemmas.Bool.{not-false, lt-ltb, le-leb, eq-eqb, and_parts, and_from}
use Rattle.std.proofs.lemmas.Bool.Decides.{nat_tests}

-- a number in a range from 0 on, by how far it is from 0
pub in_range : (z : ℤ) (m : ℕ) → within (pos 0) z (pos m) ≡ true → unsigned_abs z ≤ m
unfolding within
in_range z m h = grind (arith, ints, nat_tests)

-- a size lies in its range
pub size_range : (z : ℤ) (m : ℕ) → within (pos 1) z (pos m) ≡ true → (1 ≤ unsigned_abs z) × (unsigned_abs z ≤ m)
unfolding within
size_range z m h = grind (arith, ints, nat_tests)

-- a register, a mode, and a pen or a mask
below_eight : (z : ℤ) → within (pos 0) z (pos 7) ≡ true → nat_lt (unsigned_abs z) 8 ≡ true
below_eight z h = let small = in_range z 7 h in lt-ltb (unsigned_abs z) 8 (omega arith)

a_byte : (z : ℤ) → within (pos 0) z (pos 255) ≡ true → is_byte (unsigned_abs z) ≡ true
a_byte z h = le-leb (unsigned_abs z) 255 (in_range z 255 h)

-- the columns or rows of a rectangle of coordinates are a size that a layer may have
span_fits : (low high : ℤ) → axis_fits low high ≡ true → (is_coordinate low ≡ true) × (within (pos 1) ((high -ℤ low) +ℤ pos 1) (pos 65536) ≡ true)
unfolding within axis_fits
span_fits low high h = grind (arith, ints, nat_tests)

-- the size of a bitmap of a layer's own
own_fits : (z : ℤ) → within (pos 1) z (pos 2048) ≡ true → (nat_le 1 (unsigned_abs z) && nat_le (unsigned_abs z) 2048) ≡ true
own_fits z h =
    let size = size_range z 2048 h in
    and_from _ _ (le-leb 1 (unsigned_abs z) size.0) (le-leb (unsigned_abs z) 2048 size.1)

-- the hook that is asked for is one of those handed in
new_hook_fits : (hooks : ℕ) (hook : Option ℤ) → is_no_hook hooks hook ≡ false → hook_fits hooks (option_map unsigned_abs hook) ≡ true
new_hook_fits hooks None h = refl
new_hook_fits hooks (Some n) h = not-false (nat_lt (unsigned_abs n) hooks) h

-- the kind of a layer that is asked for
new_kind_fits : (kind : Kind) (a : NewLayer) → IsNewLayerOf kind a → is_own_size kind a.bits_w a.bits_h ≡ true → kind_fits kind (option_map unsigned_abs a.hook) (unsigned_abs a.bits_w) (unsigned_abs a.bits_h) ≡ true
new_kind_fits Simple a m h = and_from _ _ (eq-eqb _ 0 (ap unsigned_abs m.0)) (eq-eqb _ 0 (ap unsigned_abs m.1))
new_kind_fits Smart a m h = and_from _ _ (eq-eqb _ 0 (ap unsigned_abs m.0)) (eq-eqb _ 0 (ap unsigned_abs m.1))
new_kind_fits SuperBitmap a m h =
    let sides = and_parts (within (pos 1) a.bits_w (pos 2048)) _ h in
    let P : Option ℤ → Type 0 = λ hook. kind_fits SuperBitmap (option_map unsigned_abs hook) (unsigned_abs a.bits_w) (unsigned_abs a.bits_h) ≡ true in
    subst P (sym m) (and_from _ _ (own_fits a.bits_w sides.0) (own_fits a.bits_h sides.1))

-- the numbers of a layer that is asked for
make_made : (z : Sizes) (a : NewLayer) (x y w h : ℤ) → IsNewLayerOf a.kind a → is_new_layer_in_range a ≡ true → is_no_hook z.hooks a.hook ≡ false → is_coordinate x ≡ true → is_coordinate y ≡ true → within (pos 1) w (pos 65536) ≡ true → within (pos 1) h (pos 65536) ≡ true → make_fits z (make_of a x y w h) ≡ true
make_made z a x y w h m r k cx cy sw sh =
    let own = and_parts (is_hook_number a.hook) _ r in
    and_from _ _ (and_from _ _ (and_from _ _ cx cy) (and_from _ _ sw sh)) (and_from _ _ (new_hook_fits z.hooks a.hook k) (new_kind_fits a.kind a m own.1))

-- of a creation, and of an opening
created_fits : (z : Sizes) (rect : Rectangle) (a : NewLayer) → IsNewLayerOf a.kind a → (rect_fits rect && is_new_layer_in_range a) ≡ true → is_no_hook z.hooks a.hook ≡ false → make_fits z (created_make rect a) ≡ true
created_fits z rect a m r k =
    let parts = and_parts (rect_fits rect) (is_new_layer_in_range a) r in
    let axes = and_parts (axis_fits rect.min_x rect.max_x) (axis_fits rect.min_y rect.max_y) parts.0 in
    let x = span_fits rect.min_x rect.max_x axes.0 in
    let y = span_fits rect.min_y rect.max_y axes.1 in
    make_made z a _ _ _ _ m parts.1 k x.0 y.0 x.1 y.1

opened_fits : (z : Sizes) (at : Box) (a : NewLayer) → IsNewLayerOf a.kind a → (box_fits at && is_new_layer_in_range a) ≡ true → is_no_hook z.hooks a.hook ≡ false → make_fits z (opened_make at a) ≡ true
opened_fits z at a m r k =
    let parts = and_parts (box_fits at) (is_new_layer_in_range a) r in
    let halves = and_parts (is_coordinate at.x && is_coordinate at.y) _ parts.0 in
    let place = and_parts (is_coordinate at.x) _ halves.0 in
    let size = and_parts (is_extent at.w) _ halves.1 in
    make_made z a _ _ _ _ m parts.1 k place.0 place.1 (extent_fits _ size.0) (extent_fits _ size.1)

-- a window that is asked for
new_window_fits : (z : Sizes) (at : Box) (a : NewLayer) (framed : Bool) (classes : ℕ) → (framed && is_super a.kind) ≡ false → classes < 32 → window_fits (opened_make at a) framed classes ≡ true
new_window_fits z at a framed classes f c = and_from _ _ (ap not f) (lt-ltb classes 32 c)

-- The call of an act fits sizes that have its slots, its bitmap and its hook.
module _ (z : Sizes) (bitmaps : List (List ℕ)) (few : length bitmaps ≤ z.bitmaps) (slots : List ℕ) where
  -- the slots that a call names lie below the number of slots
  abbrev pub HaveSlots : ℕ → Type 0
  HaveSlots n = (i : ℕ) → i < n → slice_index slots i < z.slots

  slot_fits : (n i : ℕ) → i < n → HaveSlots n → nat_lt (slice_index slots i) z.slots ≡ true
  slot_fits n i low h = lt-ltb _ _ (h i low)

  -- the slot of a call on one layer, with what else has to hold
  with_slot : (b : Bool) → HaveSlots 1 → b ≡ true → (nat_lt (slice_index slots 0) z.slots && b) ≡ true
  with_slot b h e = and_from _ _ (slot_fits 1 0 (omega arith) h) e

  -- the bitmap of a blit from a bitmap
  bitmap_fits : (bm : List ℕ) → not (list_any (bytes_eq bm) bitmaps) ≡ false → nat_lt (place_among bitmaps bm) z.bitmaps ≡ true
  bitmap_fits bm h =
      let low = place_below (bytes_eq bm) bitmaps (not-false _ h) in
      lt-ltb (place_among bitmaps bm) z.bitmaps (omega arith)

  -- the calls of verbs with a layer: alone, with two numbers, and with a text
  bare_fits : (verb : BareVerb) → HaveSlots 1 → call_fits z (bare_call verb (slice_index slots 0)) ≡ true
  bare_fits CloseVerb s = slot_fits 1 0 (omega arith) s
  bare_fits verb s = slot_fits 1 0 (omega arith) s

  pair_fits : (verb : PairVerb) (x y : ℤ) → coordinates_fit x y ≡ true → HaveSlots 1 → call_fits z (pair_call verb (slice_index slots 0) x y) ≡ true
  pair_fits MoveVerb x y h s = with_slot _ s h
  pair_fits verb x y h s = with_slot _ s h

  text_fits : (verb : TextVerb) (text : List ℕ) → HaveSlots 1 → call_fits z (text_call verb (slice_index slots 0) text) ≡ true
  text_fits TextOf text s = slot_fits 1 0 (omega arith) s
  text_fits verb text s = slot_fits 1 0 (omega arith) s

  pub act_fits : (layers : List (List ℕ)) (act : Act) → IsActMade act → is_known_act z.version act ≡ true → is_act_in_range act ≡ true → lacks_name bitmaps (CallLine layers act) ≡ false → is_no_hook z.hooks (hook_on (CallLine layers act)) ≡ false → HaveSlots (layers_of act) → call_fits z (spelled_call bitmaps act slots) ≡ true
  act_fits layers (BareAct verb) m v h b k s = bare_fits verb s
  act_fits layers (NumberAct ModeVerb n) m v h b k s = with_slot _ s (below_eight n h)
  act_fits layers (NumberAct ClipVerb n) m v h b k s = with_slot _ s (below_eight n h)
  act_fits layers (NumberAct HookVerb n) m v h b k s = and_from _ _ v (with_slot _ s (not-false (nat_lt (unsigned_abs n) z.hooks) k))
  act_fits layers (NumberAct verb n) m v h b k s = with_slot _ s (a_byte n h)
  act_fits layers (PairAct verb x y) m v h b k s = pair_fits verb x y h s
  act_fits layers (TextAct verb text) m v h b k s = text_fits verb text s
  act_fits layers (RegRectAct op r rect) m v h b k s = let p = and_parts (within (pos 0) r (pos 7)) _ h in and_from _ _ (below_eight r p.0) p.1
  act_fits layers (RegPairAct op q r) m v h b k s = let p = and_parts (within (pos 0) q (pos 7)) _ h in and_from _ _ (below_eight q p.0) (below_eight r p.1)
  act_fits layers (RegClearAct r) m v h b k s = below_eight r h
  act_fits layers (CreateAct rect a) m v h b k s = with_slot _ s (created_fits z rect a m h k)
  act_fits layers (OpenAct at a framed nocare classes title) m v h b k s =
      with_slot _ s (and_from _ _ (opened_fits z at a m.0 h k) (new_window_fits z at a framed classes m.1 m.2))
  act_fits layers InFrontAct m v h b k s = and_from _ _ (slot_fits 2 0 (omega arith) s) (slot_fits 2 1 (omega arith) s)
  act_fits layers (BoxAct at) m v h b k s = with_slot _ s h
  act_fits layers (WhichAct x y) m v h b k s = h
  act_fits layers (FillAct rect) m v h b k s = with_slot _ s h
  act_fits layers (ScrollRasterAct dx dy rect) m v h b k s = with_slot _ s h
  act_fits layers (PutAct bm g) m v h b k s = and_from _ _ (bitmap_fits bm b) (with_slot _ s (and_from _ _ h m))
  act_fits layers (BlitAct g) m v h b k s =
      and_from _ _ (slot_fits 2 0 (omega arith) s) (and_from _ _ (slot_fits 2 1 (omega arith) s) (and_from _ _ h m))
  act_fits layers (EndRefreshAct full) m v h b k s = slot_fits 1 0 (omega arith) s
