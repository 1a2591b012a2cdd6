-- The draft of a new layer is one, and stands for the layer that the machine creates.
use Rattle.std.proofs.Common.{◌≡◌, ℕ, zero, suc, ◌+◌, ◌-◌, ◌<◌, ◌≤◌, true, false, List, [], ◌∷◌, ◌++◌, length, get_or, map, take, Option, Some, None, ◌∙◌, sym, refl, ap, subst, arith, ⊎_elim, ℤ, pos, ◌+ℤ◌, ◌-ℤ◌, unsigned_abs, length-append, pow_pos, Bool}
use Rattle.std.proofs.lemmas.Bool.{cases_lt}
use Rattle.std.proofs.lemmas.Int.{ints}
use Rattle.std.proofs.lemmas.List.Elements.{All-nil, All-cons, All-append}
use Rattle.std.proofs.lemmas.List.{take_more, map-append, get_or_append_left, get_or-append_right, get_or_past, append-nil, get_or-map, length-map}
use Rattle.lw_region.specs.Rectangle.{Rectangle, width, height}
use Rattle.lw_region.proofs.Canonical.{covers_nil}
use Rattle.lw_planes.specs.Grid.{grid, at}
use Rattle.lw_planes.specs.Bitmap.{Bitmap, bitmap, pen_at}
use Rattle.std.specs.List.{All}
use Rattle.lw_planes.specs.Sizes.{AreSizes, IsPlanes}
use Rattle.lw_strips.specs.Strips.{StripView, rects_of, planes_of}
use Rattle.lw_planes.proofs.GridLaws.{grid_same, grid_at, grid_past_column, grid_past_row}
use Rattle.lw_planes.proofs.BitmapLaws.{IsBitmap_bitmap, bitmap_same}
use Rattle.lw_calls.specs.declared.make.Kind.{Kind}
use Rattle.lw_calls.specs.declared.make.Kind.TheVariants.{Simple, Smart, SuperBitmap}
use Rattle.lw_calls.specs.declared.make.Make.{Make}
use Rattle.lw_calls.specs.Kinds.{is_super}
use Rattle.lw_cliprects.specs.Parts.{hidden_of}
use Rattle.lw_machine.specs.Arrangement.{bounds_of, blank}
use Rattle.lw_layer.specs.Pieces.{Layout, inner_of, damage_table, whole_of, rest_as, buffer_at, column_in, line_in, HasFrameRoom}
use Rattle.lw_layer.specs.Drafts.{IsLiveDraft, IsBuffer, AreBuffers, IsRest, layout, width_of, height_of, own_list, visible_planes, buffers_of, no_bitmap, no_strip, pen_from, bits_of, live_view, window_of, room_of}
use Rattle.lw_layer.specs.New.{blank_buffer, blank_strip, kept_hidden, own_blank, AreBlank, AreBlankStrips, IsNewSize, new_live}
use Rattle.lw_layer.specs.declared.draft.LiveDraft.{LiveDraft}
use Rattle.lw_layer.specs.declared.windows.WindowDraft.{WindowDraft}
use Rattle.lw_machine.specs.Layer.{is_framed}

-- the strips of a new layer, by their rectangles, their bitmaps and that they are solid
blank_rects : (depth : ℕ) (rects : List Rectangle) → rects_of (map (λ r. blank_strip depth r) rects) ≡ rects
blank_rects depth [] = refl
blank_rects depth (r ∷ rs) = ap (λ q. r ∷ q) (blank_rects depth rs)

blank_planes_of : (depth : ℕ) (rects : List Rectangle) → planes_of (map (λ r. blank_strip depth r) rects) ≡ map (λ r. blank_buffer depth r) rects
blank_planes_of depth [] = refl
blank_planes_of depth (r ∷ rs) = ap (λ q. blank_buffer depth r ∷ q) (blank_planes_of depth rs)

-- one strip more
pub strips_more : (depth : ℕ) (rects : List Rectangle) (strips : List StripView) (k : ℕ) (r : Rectangle) (planes : Bitmap) (s : StripView) → AreBlankStrips depth (take k rects) strips → k < length rects
    → r ≡ get_or rects k r → (planes ≡ blank_buffer depth r) × IsPlanes planes → s ≡ record { rect = r; planes = planes; solid = true } → AreBlankStrips depth (take (k + 1) rects) (strips ++ s ∷ [])
strips_more depth rects strips k r planes s are inside at blank is =
    let f : Rectangle → StripView = λ q. blank_strip depth q in
    let P : StripView → Type 0 = λ q. IsPlanes q.planes in
    let one : s ≡ f (get_or rects k r) = is ∙ (ap (λ (b : Bitmap). record { rect = r; planes = b; solid = true }) blank.0 ∙ ap f at) in
    record {
      blank =
          ap (λ q. q ++ s ∷ []) are.blank ∙ (ap (λ q. map f (take k rects) ++ q ∷ []) one
          ∙ sym (ap (λ q. map f q) (take_more rects k r inside) ∙ map-append f (take k rects) (get_or rects k r ∷ [])));
      sound = All-append P strips (s ∷ []) are.sound (All-cons P s [] (subst P (sym is) blank.1) (All-nil P));
    }

pub strips_rects : (depth : ℕ) (rects : List Rectangle) (strips : List StripView) → AreBlankStrips depth rects strips → rects_of strips ≡ rects
strips_rects depth rects strips are = ap (λ q. rects_of q) are.blank ∙ blank_rects depth rects

pub strips_solid : (depth : ℕ) (rects : List Rectangle) (strips : List StripView) → AreBlankStrips depth rects strips → All (λ (s : StripView). s.solid ≡ true) strips
strips_solid depth rects strips are =
    let P : StripView → Type 0 = λ s. s.solid ≡ true in
    let many : length strips ≡ length rects = ap length are.blank ∙ length-map rects (λ r. blank_strip depth r) in
    λ k s inside.
    let none : Rectangle = record { min_x = pos 0; min_y = pos 0; max_x = pos 0; max_y = pos 0 } in
    ap (λ (q : StripView). q.solid) (ap (λ q. get_or q k s) are.blank ∙ get_or-map (λ r. blank_strip depth r) rects k none s (omega (arith, many)))

pub strips_blank : (depth : ℕ) (rects : List Rectangle) (strips : List StripView) → AreBlankStrips depth rects strips → AreBlank depth rects (planes_of strips)
strips_blank depth rects strips are = record {
  blank = ap (λ q. planes_of q) are.blank ∙ blank_planes_of depth rects;
  sound =
      λ k b inside.
      let P : Bitmap → Type 0 = λ q. IsPlanes q in
      let below : k < length strips = omega (arith, length-map strips (λ (s : StripView). s.planes)) in
      subst P (sym (get_or-map (λ (s : StripView). s.planes) strips k no_strip b below)) (are.sound k no_strip below);
}

-- the buffers of two lists are those of both
joined : (depth : ℕ) (rs ss : List Rectangle) (xs ys : List Bitmap) (other : Rectangle) → length xs ≡ length rs → AreBuffers depth rs xs other → AreBuffers depth ss ys other → AreBuffers depth (rs ++ ss) (xs ++ ys) other
joined depth rs ss xs ys other many first second =
    let rects = length-append rs ss in
    record {
      each =
          λ n inside.
          ⊎_elim
          (λ (early : n < length rs).
          let r = get_or_append_left rs ss other n early in
          let b = get_or_append_left xs ys no_bitmap n (omega (arith, many)) in
          rw (r, b) (first.each n early))
          (λ (late : length rs ≤ n).
          let r : get_or (rs ++ ss) n other ≡ get_or ss (n - length rs) other = get_or-append_right rs ss (length rs) n other refl late in
          let b : get_or (xs ++ ys) n no_bitmap ≡ get_or ys (n - length rs) no_bitmap = get_or-append_right xs ys (length rs) n no_bitmap many late in
          rw (r, b) (second.each (n - length rs) (omega arith)))
          (cases_lt n (length rs));
    }

-- new buffers are as many as their rectangles
blank_counted : (depth : ℕ) (rects : List Rectangle) (buffers : List Bitmap) → AreBlank depth rects buffers → length buffers ≡ length rects
blank_counted depth rects buffers are = ap length are.blank ∙ length-map rects (λ r. blank_buffer depth r)

-- new buffers are buffers of their rectangles
blank_are : (depth : ℕ) (rects : List Rectangle) (buffers : List Bitmap) (other : Rectangle) → AreBlank depth rects buffers → AreBuffers depth rects buffers other
blank_are depth rects buffers other are =
    let many = blank_counted depth rects buffers are in
    record {
      each =
          λ n inside.
          let is : get_or buffers n no_bitmap ≡ blank_buffer depth (get_or rects n other) = ap (λ bs. get_or bs n no_bitmap) are.blank ∙ get_or-map (λ r. blank_buffer depth r) rects n other no_bitmap inside in
          record {
            sound = are.sound n no_bitmap (omega (arith, many));
            width = ap (λ (b : Bitmap). b.width) is;
            height = ap (λ (b : Bitmap). b.height) is;
            planes = ap (λ (b : Bitmap). b.depth) is;
          };
    }

-- an own bitmap's edges
own_extent : (edge : ℤ) (scroll w : ℕ) → ((((edge -ℤ pos scroll) +ℤ pos w) -ℤ pos 1) +ℤ pos 1) -ℤ (edge -ℤ pos scroll) ≡ pos w
own_extent edge scroll w = omega (arith, ints)

own_each : (depth : ℕ) (l : Layout) (w h : ℕ) (other : Rectangle) → AreSizes w h depth → l.width ≡ w → l.height ≡ h → (n : ℕ) → n < 1 → IsBuffer depth (get_or (whole_of l ∷ []) n other) (get_or (bitmap w h depth (λ x y. 0) ∷ []) n no_bitmap)
own_each depth l w h other sizes wide high zero inside = record {
  sound = record { bitmap = IsBitmap_bitmap w h depth (λ x y. 0) (λ x y left low. pow_pos depth); sizes = sizes };
  width = sym (ap unsigned_abs (own_extent l.bounds.min_x l.scroll_x l.width) ∙ wide);
  height = sym (ap unsigned_abs (own_extent l.bounds.min_y l.scroll_y l.height) ∙ high);
  planes = refl;
}
own_each depth l w h other sizes wide high (suc n) inside = absurd (omega arith)

-- an own bitmap is the buffer of its pixels' place
own_is : (depth : ℕ) (l : Layout) (w h : ℕ) (other : Rectangle) → AreSizes w h depth → l.width ≡ w → l.height ≡ h → AreBuffers depth (whole_of l ∷ []) (bitmap w h depth (λ x y. 0) ∷ []) other
own_is depth l w h other sizes wide high = record {
  each = λ n inside. own_each depth l w h other sizes wide high n inside;
}

-- the buffers beside those of the visible rectangles
rest_are : (kind : Kind) (depth : ℕ) (l : Layout) (make : Make) (hidden : List Rectangle) (covered : List Bitmap) (other : Rectangle) → AreBlank depth (kept_hidden kind hidden) covered → (is_super kind ≡ true → AreSizes make.bits_w make.bits_h depth) → (is_super kind ≡ true → (l.width ≡ make.bits_w) × (l.height ≡ make.bits_h)) → AreBuffers depth (rest_as kind hidden (whole_of l)) (covered ++ own_list (own_blank kind depth make)) other
rest_are Simple depth l make hidden covered other are sizes own =
    let P : List Bitmap → Type 0 = λ bs. AreBuffers depth [] bs other in
    subst P (sym (append-nil covered)) (blank_are depth [] covered other are)
rest_are Smart depth l make hidden covered other are sizes own =
    let P : List Bitmap → Type 0 = λ bs. AreBuffers depth hidden bs other in
    subst P (sym (append-nil covered)) (blank_are depth hidden covered other are)
rest_are SuperBitmap depth l make hidden covered other are sizes own =
    let P : List Bitmap → Type 0 = λ bs. AreBuffers depth (whole_of l ∷ []) (bs ++ own_list (own_blank SuperBitmap depth make)) other in
    let size = own refl in
    subst P (sym are.blank) (own_is depth l make.bits_w make.bits_h other (sizes refl) size.0 size.1)

-- as many buffers as the kind has
rest_counted : (kind : Kind) (depth : ℕ) (make : Make) (hidden : List Rectangle) (covered : List Bitmap) → AreBlank depth (kept_hidden kind hidden) covered → IsRest kind (length hidden) (length covered) (own_blank kind depth make)
rest_counted Simple depth make hidden covered are = (ap length are.blank, refl)
rest_counted Smart depth make hidden covered are = (blank_counted depth hidden covered are, refl)
rest_counted SuperBitmap depth make hidden covered are = (ap length are.blank, bitmap make.bits_w make.bits_h depth (λ x y. 0), refl)

-- the size of a new layer's bits
pub box_extent : (x w : ℤ) → ((((x +ℤ w) -ℤ pos 1) +ℤ pos 1) -ℤ x) ≡ w
box_extent x w = omega (arith, ints)

new_width : (kind : Kind) (depth : ℕ) (make : Make) (bounds : Rectangle) → make.kind ≡ kind → bounds ≡ bounds_of make → (width_of (own_blank kind depth make) bounds ≡ (blank kind depth make).width) × (height_of (own_blank kind depth make) bounds ≡ (blank kind depth make).height)
new_width Simple depth make bounds is place = rw place (ap unsigned_abs (box_extent make.x make.w), ap unsigned_abs (box_extent make.y make.h))
new_width Smart depth make bounds is place = rw place (ap unsigned_abs (box_extent make.x make.w), ap unsigned_abs (box_extent make.y make.h))
new_width SuperBitmap depth make bounds is place = (refl, refl)

-- every pen of new buffers is 0
blank_pen : (w h depth i j : ℕ) → pen_at (bitmap w h depth (λ x y. 0)) i j ≡ 0
blank_pen w h depth i j =
    ⊎_elim
    (λ (low : j < h).
    ⊎_elim (λ (left : i < w). grid_at w h (λ x y. 0) 0 i j left low) (λ (past : w ≤ i). grid_past_column w h (λ x y. 0) 0 i j past low) (cases_lt i w))
    (λ (under : h ≤ j). grid_past_row w h (λ x y. 0) 0 i j under)
    (cases_lt j h)

pub record AllZero (bs : List Bitmap) : Type 0 where
  pub zero_at : (n i j : ℕ) → n < length bs → pen_at (get_or bs n no_bitmap) i j ≡ 0

zero_blank : (depth : ℕ) (rects : List Rectangle) (bs : List Bitmap) → AreBlank depth rects bs → AllZero bs
zero_blank depth rects bs are =
    let many = blank_counted depth rects bs are in
    record {
      zero_at =
          λ n i j inside.
          let none : Rectangle = record { min_x = pos 0; min_y = pos 0; max_x = pos 0; max_y = pos 0 } in
          let is : get_or bs n no_bitmap ≡ blank_buffer depth (get_or rects n none) = ap (λ q. get_or q n no_bitmap) are.blank ∙ get_or-map (λ r. blank_buffer depth r) rects n none no_bitmap (omega (arith, many)) in
          ap (λ b. pen_at b i j) is ∙ blank_pen (width (get_or rects n none)) (height (get_or rects n none)) depth i j;
    }

zero_first : (w h depth n i j : ℕ) → n < 1 → pen_at (get_or (bitmap w h depth (λ x y. 0) ∷ []) n no_bitmap) i j ≡ 0
zero_first w h depth zero i j inside = blank_pen w h depth i j
zero_first w h depth (suc n) i j inside = absurd (omega arith)

zero_own : (kind : Kind) (depth : ℕ) (make : Make) → AllZero (own_list (own_blank kind depth make))
zero_own Simple depth make = record { zero_at = λ n i j inside. absurd (omega arith) }
zero_own Smart depth make = record { zero_at = λ n i j inside. absurd (omega arith) }
zero_own SuperBitmap depth make = record { zero_at = λ n i j inside. zero_first make.bits_w make.bits_h depth n i j inside }

zero_joined : (xs ys : List Bitmap) → AllZero xs → AllZero ys → AllZero (xs ++ ys)
zero_joined xs ys first second = record {
  zero_at =
      λ n i j inside.
      let long = length-append xs ys in
      ⊎_elim
      (λ (early : n < length xs). let b = get_or_append_left xs ys no_bitmap n early in rw b (first.zero_at n i j early))
      (λ (late : length xs ≤ n).
      let b : get_or (xs ++ ys) n no_bitmap ≡ get_or ys (n - length xs) no_bitmap = get_or-append_right xs ys (length xs) n no_bitmap refl late in
      rw b (second.zero_at (n - length xs) i j (omega arith)))
      (cases_lt n (length xs));
}

nothing_at : (i j : ℕ) → pen_at no_bitmap i j ≡ 0
unfolding at
nothing_at i j = refl

zero_pen : (bs : List Bitmap) (l : Layout) (found : Option ℕ) (x y : ℕ) → AllZero bs → pen_from bs l found x y ≡ 0
zero_pen bs l None x y all = refl
zero_pen bs l (Some n) x y all =
    ⊎_elim
    (λ (inside : n < length bs). all.zero_at n (column_in l n x) (line_in l n y) inside)
    (λ (past : length bs ≤ n).
    let b = get_or_past bs n no_bitmap past in
    rw b (nothing_at (column_in l n x) (line_in l n y)))
    (cases_lt n (length bs))

-- The draft of a new layer of this kind, with the buffers of a draft.
abbrev pub new_draft : LiveDraft → Kind → Make → ℕ → Rectangle → List Rectangle → Option WindowDraft → LiveDraft
new_draft d kind make depth bounds visible window = record d {
  kind = kind;
  backdrop = make.backdrop;
  bounds = bounds;
  scroll_x = pos 0;
  scroll_y = pos 0;
  depth = depth;
  raster = record { a = 1; b = 0; mode = 1; mask = 255; x = pos 0; y = pos 0 };
  clip = None;
  damage = record { inner = inner_of (is_super kind) (is_framed (window_of window)) (width bounds) (height bounds); rects = []; updating = false };
  parts = record { bounds = bounds; visible = visible };
  superbits = own_blank kind depth make;
  active = false;
  window = window;
}

-- its sizes
new_sizes : (kind : Kind) (make : Make) (depth : ℕ) (bounds : Rectangle) → make.kind ≡ kind → IsNewSize make depth bounds → AreSizes (width_of (own_blank kind depth make) bounds) (height_of (own_blank kind depth make) bounds) depth
new_sizes Simple make depth bounds is size = size.sizes
new_sizes Smart make depth bounds is size = size.sizes
new_sizes SuperBitmap make depth bounds is size = size.own (ap is_super is)

new_right : (kind : Kind) (make : Make) (depth : ℕ) (bounds : Rectangle) → make.kind ≡ kind → IsNewSize make depth bounds → (0 + width bounds ≤ width_of (own_blank kind depth make) bounds) × (0 + height bounds ≤ height_of (own_blank kind depth make) bounds)
new_right Simple make depth bounds is size = (omega arith, omega arith)
new_right Smart make depth bounds is size = (omega arith, omega arith)
new_right SuperBitmap make depth bounds is size = (omega (arith, size.right (ap is_super is)), omega (arith, size.lower (ap is_super is)))

-- damage lies in all of a layer without an own bitmap
new_inner : (kind : Kind) (framed : Bool) (make : Make) (depth : ℕ) (bounds : Rectangle) → inner_of (is_super kind) framed (width bounds) (height bounds) ≡ inner_of (is_super kind) framed (width_of (own_blank kind depth make) bounds) (height_of (own_blank kind depth make) bounds)
new_inner Simple framed make depth bounds = refl
new_inner Smart framed make depth bounds = refl
new_inner SuperBitmap framed make depth bounds = refl

-- an own bitmap's size
new_own : (kind : Kind) (make : Make) (depth : ℕ) (bounds : Rectangle) → is_super kind ≡ true → (width_of (own_blank kind depth make) bounds ≡ make.bits_w) × (height_of (own_blank kind depth make) bounds ≡ make.bits_h)
new_own Simple make depth bounds is = absurd (cc is)
new_own Smart make depth bounds is = absurd (cc is)
new_own SuperBitmap make depth bounds is = (refl, refl)

-- the draft of a new layer is one
pub new_sound : (d : LiveDraft) (kind : Kind) (make : Make) (depth : ℕ) (bounds : Rectangle) (visible : List Rectangle) (window : Option WindowDraft) → make.kind ≡ kind → IsNewSize make depth bounds → (is_super kind ≡ true → is_framed (window_of window) ≡ false) → (is_framed (window_of window) ≡ true → HasFrameRoom bounds) → AreBlankStrips depth visible d.strips.items → AreBlank depth (kept_hidden kind (hidden_of bounds visible)) d.covered.items → IsLiveDraft (new_draft d kind make depth bounds visible window)
new_sound d kind make depth bounds visible window is size frameless frame shown covered =
    let q : LiveDraft = new_draft d kind make depth bounds visible window in
    let right = new_right kind make depth bounds is size in
    let blank = strips_blank depth visible d.strips.items shown in
    let own : is_super kind ≡ true → AreSizes make.bits_w make.bits_h depth = λ super. size.own (ap is_super is ∙ super) in
    record {
      place = record {
        bounds = refl;
        scroll_x = record { le = tt };
        scroll_y = record { le = tt };
        sizes = new_sizes kind make depth bounds is size;
        scrolled = record { left = λ other. refl; upper = λ other. refl; right = right.0; lower = right.1 };
      };
      mode = omega arith;
      buffers = record {
        shown = strips_rects depth visible d.strips.items shown;
        solid = strips_solid depth visible d.strips.items shown;
        rest = rest_counted kind depth make (hidden_of bounds visible) d.covered.items covered;
        sized =
            joined depth visible (rest_as kind (hidden_of bounds visible) (whole_of (layout q))) (visible_planes d) (d.covered.items ++ own_list (own_blank kind depth make)) bounds
            (blank_counted depth visible (visible_planes d) blank) (blank_are depth visible (visible_planes d) bounds blank)
            (rest_are kind depth (layout q) make (hidden_of bounds visible) d.covered.items bounds covered own (new_own kind make depth bounds));
      };
      damage = record { inner = new_inner kind (is_framed (window_of window)) make depth bounds; kept = λ x y has. absurd (cc (covers_nil x y, has)) };
      frame = record { frameless = frameless; room = frame };
    }

-- the machine's blank bitmap, by its size
blank_is : (kind : Kind) (depth : ℕ) (make : Make) (w h : ℕ) → w ≡ (blank kind depth make).width → h ≡ (blank kind depth make).height → bitmap w h depth (λ x y. 0) ≡ blank kind depth make
blank_is Simple depth make w h wide high = ap (λ n. bitmap n h depth (λ x y. 0)) wide ∙ ap (λ n. bitmap (unsigned_abs make.w) n depth (λ x y. 0)) high
blank_is Smart depth make w h wide high = ap (λ n. bitmap n h depth (λ x y. 0)) wide ∙ ap (λ n. bitmap (unsigned_abs make.w) n depth (λ x y. 0)) high
blank_is SuperBitmap depth make w h wide high = ap (λ n. bitmap n h depth (λ x y. 0)) wide ∙ ap (λ n. bitmap make.bits_w n depth (λ x y. 0)) high

-- it stands for the layer that the machine creates
pub new_view : (d : LiveDraft) (make : Make) (depth : ℕ) (bounds : Rectangle) (visible : List Rectangle) (window : Option WindowDraft) → IsNewSize make depth bounds → AreBlankStrips depth visible d.strips.items → AreBlank depth (kept_hidden make.kind (hidden_of bounds visible)) d.covered.items → live_view (new_draft d make.kind make depth bounds visible window) ≡ new_live make depth bounds visible (window_of window) (room_of window)
new_view d make depth bounds visible window size shown covered =
    let q : LiveDraft = new_draft d make.kind make depth bounds visible window in
    let l = layout q in
    let extent = new_width make.kind depth make bounds refl size.place in
    let all : AllZero (buffers_of q) =
    zero_joined (visible_planes d) (d.covered.items ++ own_list (own_blank make.kind depth make)) (zero_blank depth visible (visible_planes d) (strips_blank depth visible d.strips.items shown))
    (zero_joined d.covered.items (own_list (own_blank make.kind depth make)) (zero_blank depth (kept_hidden make.kind (hidden_of bounds visible)) d.covered.items covered) (zero_own make.kind depth make))
    in
    let zero_bits : bits_of l depth (buffers_of q) ≡ bitmap l.width l.height depth (λ x y. 0) =
    bitmap_same l.width l.height depth _ _ (λ x y left low. zero_pen (buffers_of q) l (buffer_at l x y) x y all)
    in
    let bits : bits_of l depth (buffers_of q) ≡ blank make.kind depth make = zero_bits ∙ blank_is make.kind depth make l.width l.height extent.0 extent.1 in
    let damage : damage_table (bits_of l depth (buffers_of q)) [] ≡ grid (blank make.kind depth make).width (blank make.kind depth make).height (λ x y. false) =
    ap (λ b. damage_table b []) bits ∙ grid_same (blank make.kind depth make).width (blank make.kind depth make).height _ _ (λ x y left low. covers_nil (pos x) (pos y))
    in
    ap (λ b. record (live_view q) { layer = record (live_view q).layer { bits = b } }) bits ∙ ap (λ t. record (live_view q) { layer = record (live_view q).layer { bits = blank make.kind depth make; damage = t } }) damage
