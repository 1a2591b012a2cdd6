-- A draft whose buffers are carried into new rectangles stands for the revealed layer.
use Rattle.std.proofs.Common.{◌≡◌, ℕ, ◌+◌, ◌^◌, ◌<◌, ◌≤◌, Bool, true, false, ◌⊎◌, ⊎_elim, inl, inr, if◌then◌else◌, List, [], ◌∷◌, ◌++◌, length, get_or, Option, Some, None, ◌∙◌, sym, refl, ap, subst, arith, ℤ, pos, negsuc, ◌+ℤ◌, ◌-ℤ◌, unsigned_abs, length-append, append_assoc, pow_pos}
use Rattle.std.proofs.lemmas.Bool.{cases_lt}
use Rattle.std.proofs.lemmas.Int.{ints}
use Rattle.std.specs.List.{All}
use Rattle.std.proofs.lemmas.List.{get_or_append_left, get_or_at, length-map}
use Rattle.lw_strips.specs.Strips.{StripView, rects_of, planes_of}
use Rattle.lw_region.specs.Rectangle.{Rectangle, width, height}
use Rattle.lw_planes.specs.Bitmap.{Bitmap, IsBitmap, bitmap, pen_at}
use Rattle.lw_planes.specs.Sizes.{AreSizes, IsPlanes}
use Rattle.lw_planes.proofs.BitmapLaws.{IsBitmap_bitmap, bitmap_same, pen_at_bitmap, pen_at_lt}
use Rattle.lw_calls.specs.declared.make.Kind.{Kind}
use Rattle.lw_calls.specs.declared.make.Kind.TheVariants.{Simple, Smart, SuperBitmap}
use Rattle.lw_calls.specs.Kinds.{is_super}
use Rattle.lw_cliprects.specs.Parts.{hidden_of}
use Rattle.lw_cliprects.proofs.HiddenLaws.{canonical_hidden}
use Rattle.lw_layer.specs.View.{LiveView, keeps, kept_pen}
use Rattle.lw_layer.specs.Pieces.{Layout, buffered, buffer_rectangle, rest_as, whole_of, buffer_at, IsDamageOf}
use Rattle.lw_layer.specs.Drafts.{IsLiveDraft, IsBuffer, AreBuffers, IsRest, layout, width_of, height_of, own_list, buffers_of, no_bitmap, pen_from, live_view}
use Rattle.lw_layer.specs.New.{kept_hidden}
use Rattle.lw_layer.specs.declared.draft.LiveDraft.{LiveDraft}
use Rattle.lw_layer.proofs.KeptLaws.{kept_in_bits}
use Rattle.lw_layer.proofs.BitsLaws.{live_bits}
use Rattle.lw_layer.proofs.NewLaws.{part_size}
use Rattle.lw_reveal.specs.declared.change.Change.{Change}
use Rattle.lw_reveal.specs.Changed.{carried_to, MayHave}
use Rattle.lw_reveal.specs.Handing.{own_whole}
use Rattle.lw_reveal.specs.Changes.{beside_own, pen_or_zero, layer_place, carried, new_rectangle}
use Rattle.lw_reveal.proofs.CarriedLaws.{number_is, both_ordered, divided_inside, AreParts}

-- the draft with what the change has, and its own bitmap whole
abbrev pub changed_draft : LiveDraft → Change → LiveDraft
changed_draft d k = record d { bounds = k.bounds; parts = k.parts; damage = k.damage; strips = k.strips; covered = k.covered; superbits = own_whole d.kind d }

-- A change whose buffers all are the carried ones.
pub record IsMade (d : LiveDraft) (k : Change) : Type 0 where
  pub cut : k.parts.bounds ≡ k.bounds
  pub size : MayHave (live_view d) k.bounds k.parts.visible
  pub revealed : IsDamageOf (carried_to k.bounds k.parts.visible (live_view d)) k.damage
  pub shown : rects_of k.strips.items ≡ k.parts.visible
  pub solid : All (λ (s : StripView). s.solid ≡ true) k.strips.items
  pub hidden : length k.covered.items ≡ length (kept_hidden d.kind (hidden_of k.bounds k.parts.visible))
  pub pens : (i : ℕ) → i < length (beside_own d.kind k.bounds k.parts.visible)
      → get_or (planes_of k.strips.items ++ k.covered.items) i no_bitmap ≡ carried (live_view d) k.bounds (new_rectangle (live_view d) k i)
  pub parts : AreParts k.bounds k.parts.visible

-- the size of the bits, by kind
pub none_without_bitmap : (kind : Kind) (hidden covered : ℕ) (own : Option Bitmap) → is_super kind ≡ false
    → IsRest kind hidden covered own → own ≡ None
none_without_bitmap Simple hidden covered own without_bitmap rest = rest.1
none_without_bitmap Smart hidden covered own without_bitmap rest = rest.1
none_without_bitmap SuperBitmap hidden covered own without_bitmap rest = absurd (cc without_bitmap)

-- the own bitmap, by kind
whole_super : (kind : Kind) (d : LiveDraft) → is_super kind ≡ true → own_whole kind d ≡ Some (live_view d).layer.bits
whole_super Simple d super = absurd (cc super)
whole_super Smart d super = absurd (cc super)
whole_super SuperBitmap d super = refl

whole_without_bitmap : (kind : Kind) (d : LiveDraft) → is_super kind ≡ false → own_whole kind d ≡ d.superbits
whole_without_bitmap Simple d without_bitmap = refl
whole_without_bitmap Smart d without_bitmap = refl
whole_without_bitmap SuperBitmap d without_bitmap = absurd (cc without_bitmap)

pub size_without_bitmap : (d : LiveDraft) (k : Change) → is_super d.kind ≡ false → IsLiveDraft d
    → ((layout (changed_draft d k)).width ≡ width k.bounds) × ((layout (changed_draft d k)).height ≡ height k.bounds)
size_without_bitmap d k without_bitmap ok =
    let none = whole_without_bitmap d.kind d without_bitmap ∙ none_without_bitmap d.kind _ _ d.superbits without_bitmap ok.buffers.rest in
    (ap (λ o. width_of o k.bounds) none, ap (λ o. height_of o k.bounds) none)

pub super_size : (d : LiveDraft) (k : Change) → is_super d.kind ≡ true
    → ((layout (changed_draft d k)).width ≡ (layout d).width) × ((layout (changed_draft d k)).height ≡ (layout d).height)
super_size d k super =
    let own = whole_super d.kind d super in
    (ap (λ o. width_of o k.bounds) own, ap (λ o. height_of o k.bounds) own)

-- a pixel of the bits of a super-bitmap layer is kept
pub super_keeps : (d : LiveDraft) (x y : ℕ) (kind : Kind) → d.kind ≡ kind → is_super kind ≡ true → x < (layout d).width
    → y < (layout d).height → keeps (live_view d) x y ≡ true
super_keeps d x y Simple is super left low = absurd (cc super)
super_keeps d x y Smart is super left low = absurd (cc super)
super_keeps d x y SuperBitmap is super left low = kept_in_bits d x y SuperBitmap is left low (λ other. absurd (cc other))

-- where the whole of an own bitmap lies
whole_extent : (edge : ℤ) (scroll w : ℕ)
    → unsigned_abs (((((edge -ℤ pos scroll) +ℤ pos w) -ℤ pos 1) +ℤ pos 1) -ℤ (edge -ℤ pos scroll)) ≡ w
whole_extent edge scroll w = omega (arith, ints)

whole_place : (edge : ℤ) (scroll i : ℕ) → layer_place (edge -ℤ pos scroll) edge scroll i ≡ pos i
whole_place edge scroll i = omega (arith, ints)

-- an own bitmap with all pens is what is carried into its whole
own_carried : (d : LiveDraft) (l : Layout) → is_super d.kind ≡ true → l.scroll_x ≡ (layout d).scroll_x
    → l.scroll_y ≡ (layout d).scroll_y → l.width ≡ (layout d).width → l.height ≡ (layout d).height
    → (live_view d).layer.bits ≡ carried (live_view d) l.bounds (whole_of l)
own_carried d l super scroll_x scroll_y wide high =
    let c = live_view d in
    let b = c.layer.bits in
    let r = whole_of l in
    let F : ℕ → ℕ → ℕ = λ i j. pen_or_zero (kept_pen c (layer_place r.min_x l.bounds.min_x c.layer.scroll_x i) (layer_place r.min_y l.bounds.min_y c.layer.scroll_y j)) in
    let G : ℕ → ℕ → ℕ = λ x y. pen_from (buffers_of d) (layout d) (buffer_at (layout d) x y) x y in
    let extent_x : width r ≡ (layout d).width = whole_extent l.bounds.min_x l.scroll_x l.width ∙ wide in
    let extent_y : height r ≡ (layout d).height = whole_extent l.bounds.min_y l.scroll_y l.height ∙ high in
    bitmap_same b.width b.height b.depth G F
    (λ i j left low.
    let across_is : layer_place r.min_x l.bounds.min_x c.layer.scroll_x i ≡ pos i = ap (λ s. layer_place r.min_x l.bounds.min_x s i) (sym scroll_x) ∙ whole_place l.bounds.min_x l.scroll_x i in
    let down_is : layer_place r.min_y l.bounds.min_y c.layer.scroll_y j ≡ pos j = ap (λ s. layer_place r.min_y l.bounds.min_y s j) (sym scroll_y) ∙ whole_place l.bounds.min_y l.scroll_y j in
    let kept : keeps c i j ≡ true = super_keeps d i j d.kind refl super left low in
    let pen : pen_at b i j ≡ G i j = pen_at_bitmap b.width b.height b.depth G i j left low in
    rw (across_is, down_is, kept) (sym pen)) ∙
    (ap (λ w. bitmap w b.height b.depth F) (sym extent_x) ∙ ap (λ h. bitmap (width r) h b.depth F) (sym extent_y))

-- the pieces are the rectangles with a buffer, and the whole of an own bitmap
buffered_cases : (l : Layout) (kind : Kind) (n : ℕ) → l.kind ≡ kind → n < length (buffered l)
    → (n < length (beside_own kind l.bounds l.visible)) ⊎ ((is_super kind ≡ true) × (n ≡ length l.visible))
buffered_cases l Simple n is inside =
    let list : buffered l ≡ l.visible ++ [] = ap (λ q. l.visible ++ rest_as q (hidden_of l.bounds l.visible) (whole_of l)) is in
    inl (subst (λ q. n < length q) list inside)
buffered_cases l Smart n is inside =
    let list : buffered l ≡ l.visible ++ hidden_of l.bounds l.visible = ap (λ q. l.visible ++ rest_as q (hidden_of l.bounds l.visible) (whole_of l)) is in
    inl (subst (λ q. n < length q) list inside)
buffered_cases l SuperBitmap n is inside =
    let list : buffered l ≡ l.visible ++ (whole_of l ∷ []) = ap (λ q. l.visible ++ rest_as q (hidden_of l.bounds l.visible) (whole_of l)) is in
    let long : length (buffered l) ≡ length l.visible + 1 = ap length list ∙ length-append l.visible (whole_of l ∷ []) in
    let none : length (l.visible ++ []) ≡ length l.visible + 0 = length-append l.visible [] in
    ⊎_elim (λ (early : n < length l.visible). inl (omega arith)) (λ (late : length l.visible ≤ n). inr (refl, omega arith)) (cases_lt n (length l.visible))

whole_rectangle : (l : Layout) (kind : Kind) (n : ℕ) → l.kind ≡ kind → is_super kind ≡ true → n ≡ length l.visible
    → buffer_rectangle l n ≡ whole_of l
whole_rectangle l Simple n is super last = absurd (cc super)
whole_rectangle l Smart n is super last = absurd (cc super)
whole_rectangle l SuperBitmap n is super last =
    let list : buffered l ≡ l.visible ++ (whole_of l ∷ []) = ap (λ q. l.visible ++ rest_as q (hidden_of l.bounds l.visible) (whole_of l)) is in
    ap (λ q. get_or q n l.bounds) list ∙ get_or_at l.visible (whole_of l) [] l.bounds n (sym last)

none_hidden : (kind : Kind) (hidden : List Rectangle) → is_super kind ≡ true → length (kept_hidden kind hidden) ≡ 0
none_hidden Simple hidden super = absurd (cc super)
none_hidden Smart hidden super = absurd (cc super)
none_hidden SuperBitmap hidden super = refl

-- how many new strips there are
pub strips_many : (d : LiveDraft) (k : Change) → IsMade d k → length (planes_of k.strips.items) ≡ length k.parts.visible
strips_many d k made = length-map k.strips.items (λ (s : StripView). s.planes) ∙ (sym (length-map k.strips.items (λ (s : StripView). s.rect)) ∙ ap length made.shown)

-- how many new buffers there are
made_many : (d : LiveDraft) (k : Change) → IsMade d k
    → length (planes_of k.strips.items ++ k.covered.items) ≡ length (beside_own d.kind k.bounds k.parts.visible)
made_many d k made =
    let news = length-append (planes_of k.strips.items) k.covered.items in
    let rects = length-append k.parts.visible (kept_hidden d.kind (hidden_of k.bounds k.parts.visible)) in
    omega (arith, strips_many d k made, made.hidden)

-- each piece has what is carried into it
shown_carried : (d : LiveDraft) (k : Change) (n : ℕ) → IsMade d k → n < length (beside_own d.kind k.bounds k.parts.visible)
    → get_or (buffers_of (changed_draft d k)) n no_bitmap ≡ carried (live_view d) k.bounds (buffer_rectangle (layout (changed_draft d k)) n)
shown_carried d k n made inside =
    let l = layout (changed_draft d k) in
    let many = made_many d k made in
    let below : n < length (planes_of k.strips.items ++ k.covered.items) = omega arith in
    let number = number_is l d.kind n refl inside in
    ap (λ q. get_or q n no_bitmap) (sym (append_assoc (planes_of k.strips.items) k.covered.items (own_list (own_whole d.kind d)))) ∙
    (get_or_append_left (planes_of k.strips.items ++ k.covered.items) (own_list (own_whole d.kind d)) no_bitmap n below ∙
    (made.pens n inside ∙ ap (λ q. carried (live_view d) k.bounds q) (sym number.same)))

whole_carried : (d : LiveDraft) (k : Change) (n : ℕ) → IsMade d k → is_super d.kind ≡ true → n ≡ length k.parts.visible
    → get_or (buffers_of (changed_draft d k)) n no_bitmap ≡ carried (live_view d) k.bounds (buffer_rectangle (layout (changed_draft d k)) n)
whole_carried d k n made super last =
    let l = layout (changed_draft d k) in
    let own : Bitmap = (live_view d).layer.bits in
    let size = super_size d k super in
    let none = none_hidden d.kind (hidden_of k.bounds k.parts.visible) super in
    let news = length-append (planes_of k.strips.items) k.covered.items in
    let many : length (planes_of k.strips.items ++ k.covered.items) ≡ n = omega (arith, strips_many d k made, made.hidden) in
    ap (λ q. get_or q n no_bitmap) (sym (append_assoc (planes_of k.strips.items) k.covered.items (own_list (own_whole d.kind d)))) ∙
    (ap (λ o. get_or ((planes_of k.strips.items ++ k.covered.items) ++ own_list o) n no_bitmap) (whole_super d.kind d super) ∙
    (get_or_at (planes_of k.strips.items ++ k.covered.items) own [] no_bitmap n many ∙
    (own_carried d l super refl refl size.0 size.1 ∙ ap (λ q. carried (live_view d) k.bounds q) (sym (whole_rectangle l d.kind n refl super last)))))

pub rectangle_carried : (d : LiveDraft) (k : Change) (n : ℕ) → IsMade d k → n < length (buffered (layout (changed_draft d k)))
    → get_or (buffers_of (changed_draft d k)) n no_bitmap ≡ carried (live_view d) k.bounds (buffer_rectangle (layout (changed_draft d k)) n)
rectangle_carried d k n made inside =
    ⊎_elim
    (λ (early : n < length (beside_own d.kind k.bounds k.parts.visible)). shown_carried d k n made early)
    (λ (late : (is_super d.kind ≡ true) × (n ≡ length k.parts.visible)). whole_carried d k n made late.0 late.1)
    (buffered_cases (layout (changed_draft d k)) d.kind n refl inside)

-- each piece has sizes for planes
shown_sizes : (d : LiveDraft) (k : Change) (n : ℕ) → IsMade d k → n < length (beside_own d.kind k.bounds k.parts.visible)
    → AreSizes (width (buffer_rectangle (layout (changed_draft d k)) n)) (height (buffer_rectangle (layout (changed_draft d k)) n)) d.depth
shown_sizes d k n made inside =
    let l = layout (changed_draft d k) in
    let hidden = hidden_of k.bounds k.parts.visible in
    let number = number_is l d.kind n refl inside in
    let P : Rectangle → Type 0 = λ q. AreSizes (width q) (height q) d.depth in
    subst P (sym number.all)
    (part_size (get_or (k.parts.visible ++ hidden) n k.bounds) k.bounds d.depth
    (both_ordered k.parts.visible hidden n k.bounds made.parts.canonical (canonical_hidden k.bounds k.parts.visible) number.inside)
    (λ x y has. divided_inside k.bounds k.parts.visible hidden n x y made.parts.divided number.inside has)
    made.size.sizes)

whole_sizes : (d : LiveDraft) (k : Change) (n : ℕ) → IsLiveDraft d → is_super d.kind ≡ true → n ≡ length k.parts.visible
    → AreSizes (width (buffer_rectangle (layout (changed_draft d k)) n)) (height (buffer_rectangle (layout (changed_draft d k)) n)) d.depth
whole_sizes d k n ok super last =
    let l = layout (changed_draft d k) in
    let size = super_size d k super in
    let wide : width (whole_of l) ≡ (layout d).width = whole_extent l.bounds.min_x l.scroll_x l.width ∙ size.0 in
    let high : height (whole_of l) ≡ (layout d).height = whole_extent l.bounds.min_y l.scroll_y l.height ∙ size.1 in
    let P : Rectangle → Type 0 = λ q. AreSizes (width q) (height q) d.depth in
    subst P (sym (whole_rectangle l d.kind n refl super last)) (subst (λ w. AreSizes w (height (whole_of l)) d.depth) (sym wide) (subst (λ h. AreSizes (layout d).width h d.depth) (sym high) ok.place.sizes))

rectangle_sizes : (d : LiveDraft) (k : Change) (n : ℕ) → IsLiveDraft d → IsMade d k
    → n < length (buffered (layout (changed_draft d k)))
    → AreSizes (width (buffer_rectangle (layout (changed_draft d k)) n)) (height (buffer_rectangle (layout (changed_draft d k)) n)) d.depth
rectangle_sizes d k n ok made inside =
    ⊎_elim
    (λ (early : n < length (beside_own d.kind k.bounds k.parts.visible)). shown_sizes d k n made early)
    (λ (late : (is_super d.kind ≡ true) × (n ≡ length k.parts.visible)). whole_sizes d k n ok late.0 late.1)
    (buffered_cases (layout (changed_draft d k)) d.kind n refl inside)

chosen_small : (t : Bool) (p n : ℕ) → p < n → pen_or_zero (if t then Some p else None) < n
chosen_small true p n small = small
chosen_small false p n small = omega arith

pub carried_small : (c : LiveView) (x y : ℤ) → IsBitmap c.layer.bits → pen_or_zero (kept_pen c x y) < 2 ^ c.layer.bits.depth
carried_small c (pos x) (pos y) ok = chosen_small (keeps c x y) (pen_at c.layer.bits x y) _ (pen_at_lt c.layer.bits x y ok)
carried_small c (pos x) (negsuc y) ok = pow_pos c.layer.bits.depth
carried_small c (negsuc x) y ok = pow_pos c.layer.bits.depth

-- what is carried into a rectangle is a buffer of it
pub carried_planes : (c : LiveView) (bounds r : Rectangle) → IsPlanes c.layer.bits
    → AreSizes (width r) (height r) c.layer.bits.depth → IsPlanes (carried c bounds r)
carried_planes c bounds r bits sizes = record {
  bitmap = IsBitmap_bitmap (width r) (height r) c.layer.bits.depth _ (λ i j left low. carried_small c _ _ bits.bitmap);
  sizes = sizes;
}

pub made_buffers : (d : LiveDraft) (k : Change) → IsLiveDraft d → IsMade d k
    → AreBuffers d.depth (buffered (layout (changed_draft d k))) (buffers_of (changed_draft d k)) k.bounds
made_buffers d k ok made = record {
  each =
      λ n inside.
      let l = layout (changed_draft d k) in
      let r : Rectangle = buffer_rectangle l n in
      let P : Bitmap → Type 0 = λ b. IsBuffer d.depth r b in
      subst P (sym (rectangle_carried d k n made inside))
      (record { sound = carried_planes (live_view d) k.bounds r (live_bits d ok) (rectangle_sizes d k n ok made inside); width = refl; height = refl; planes = refl });
}
