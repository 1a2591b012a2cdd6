-- Which buffer of a draft has a number.
use Rattle.std.proofs.Common.{◌≡◌, ℕ, ◌-◌, ◌<◌, ◌≤◌, true, false, nat_lt, List, ◌++◌, length, get_or, Option, Some, ◌∙◌, sym, refl, ap, subst, arith, length-append}
use Rattle.std.specs.List.{slice_index_or}
use Rattle.std.specs.Vec.{with_item}
use Rattle.std.proofs.lemmas.Bool.Decides.{nat_tests}
use Rattle.std.proofs.lemmas.List.{get_or_append_left, get_or-append_right, get_or_default, get_or-map, length-map}
use Rattle.lw_region.specs.Rectangle.{Rectangle}
use Rattle.lw_planes.specs.Bitmap.{Bitmap}
use Rattle.lw_strips.specs.Strips.{StripView}
use Rattle.lw_calls.specs.declared.make.Kind.{Kind}
use Rattle.lw_calls.specs.declared.make.Kind.TheVariants.{Simple, Smart, SuperBitmap}
use Rattle.lw_cliprects.specs.Parts.{hidden_of}
use Rattle.lw_layer.specs.Pieces.{buffered, buffer_rectangle, rest_as, whole_of}
use Rattle.lw_layer.specs.Drafts.{IsLiveDraft, IsBuffer, IsRest, layout, own_list, visible_planes, buffers_of, no_bitmap, no_strip}
use Rattle.lw_layer.specs.Written.{changed_own, changed_pens, changed_buffer}
use Rattle.lw_layer.specs.declared.draft.LiveDraft.{LiveDraft}

-- there are as many strips as visible rectangles, each with its bitmap
pub planes_many : (d : LiveDraft) → length (visible_planes d) ≡ length d.strips.items
planes_many d = length-map d.strips.items (λ (s : StripView). s.planes)

pub planes_shown : (d : LiveDraft) → IsLiveDraft d → length (visible_planes d) ≡ length d.parts.visible
planes_shown d ok = planes_many d ∙ (sym (length-map d.strips.items (λ (s : StripView). s.rect)) ∙ ap length ok.buffers.shown)

-- the buffer of a visible rectangle
pub shown_buffer : (d : LiveDraft) (n : ℕ) → n < length d.strips.items → slice_index_or (buffers_of d) n no_bitmap ≡ slice_index_or (visible_planes d) n no_bitmap
shown_buffer d n inside = get_or_append_left (visible_planes d) _ no_bitmap n (omega (arith, planes_many d))

pub strip_buffer : (d : LiveDraft) (n : ℕ) (s : StripView) → n < length d.strips.items → slice_index_or (buffers_of d) n no_bitmap ≡ (slice_index_or d.strips.items n s).planes
strip_buffer d n s inside = shown_buffer d n inside ∙ get_or-map (λ (q : StripView). q.planes) d.strips.items n s no_bitmap inside

-- the buffer of a hidden rectangle
pub covered_buffer : (d : LiveDraft) (n k : ℕ) → k ≡ n - length d.strips.items → length d.strips.items ≤ n → k < length d.covered.items → slice_index_or (buffers_of d) n no_bitmap ≡ slice_index_or d.covered.items k no_bitmap
covered_buffer d n k is_k past inside =
    get_or-append_right (visible_planes d) _ _ n no_bitmap (planes_many d) past ∙
    (ap (λ i. get_or (d.covered.items ++ own_list d.superbits) i no_bitmap) (sym is_k) ∙ get_or_append_left d.covered.items (own_list d.superbits) no_bitmap k inside)

-- all buffers have been counted but an own bitmap
pub record HasOwn (d : LiveDraft) (n : ℕ) : Type 0 where
  pub own : Bitmap
  pub is : d.superbits ≡ Some own
  pub at : slice_index_or (buffers_of d) n no_bitmap ≡ own

-- the number of all buffers but an own bitmap
own_after : (kind : Kind) (hidden covered : ℕ) (own : Option Bitmap) (whole : Rectangle) (hid : List Rectangle) (k : ℕ) → IsRest kind hidden covered own → hidden ≡ length hid → covered ≤ k → k < length (rest_as kind hid whole) → (b : Bitmap) × (own ≡ Some b) × (k ≡ covered)
own_after Simple hidden covered own whole hid k is long past inside = absurd (omega arith)
own_after Smart hidden covered own whole hid k is long past inside = absurd (omega (arith, is.0))
own_after SuperBitmap hidden covered own whole hid k is long past inside = (is.1, is.2, omega (arith, is.0))

pub own_buffer : (d : LiveDraft) (n : ℕ) → IsLiveDraft d → n < length (buffered (layout d)) → length d.strips.items ≤ n → length d.covered.items ≤ n - length d.strips.items → HasOwn d n
own_buffer d n ok inside past late =
    let k : ℕ = n - length d.strips.items in
    let hidden = hidden_of d.bounds d.parts.visible in
    let long = length-append d.parts.visible (rest_as d.kind hidden (whole_of (layout d))) in
    let below : k < length (rest_as d.kind hidden (whole_of (layout d))) = omega (arith, planes_shown d ok, planes_many d) in
    let own = own_after d.kind (length hidden) (length d.covered.items) d.superbits (whole_of (layout d)) hidden k ok.buffers.rest refl late below in
    record {
      own = own.0;
      is = own.1;
      at =
          get_or-append_right (visible_planes d) _ _ n no_bitmap (planes_many d) past ∙
          (get_or-append_right d.covered.items _ _ k no_bitmap refl late ∙
          (ap (λ i. get_or (own_list d.superbits) i no_bitmap) (omega (arith, own.2)) ∙ ap (λ o. get_or (own_list o) 0 no_bitmap) own.1));
    }

-- there are as many buffers as rectangles with one
rest_many : (kind : Kind) (hid : List Rectangle) (whole : Rectangle) (covered : List Bitmap) (own : Option Bitmap) → IsRest kind (length hid) (length covered) own → length (covered ++ own_list own) ≡ length (rest_as kind hid whole)
rest_many Simple hid whole covered own is =
    let long = length-append covered (own_list own) in
    let none : length (own_list own) ≡ 0 = ap (λ o. length (own_list o)) is.1 in
    omega (arith, is.0)
rest_many Smart hid whole covered own is =
    let long = length-append covered (own_list own) in
    let none : length (own_list own) ≡ 0 = ap (λ o. length (own_list o)) is.1 in
    omega (arith, is.0)
rest_many SuperBitmap hid whole covered own is =
    let long = length-append covered (own_list own) in
    let one : length (own_list own) ≡ 1 = ap (λ o. length (own_list o)) is.2 in
    omega (arith, is.0)

pub as_many_buffers : (d : LiveDraft) → IsLiveDraft d → length (buffers_of d) ≡ length (buffered (layout d))
as_many_buffers d ok =
    let hidden = hidden_of d.bounds d.parts.visible in
    let whole = whole_of (layout d) in
    let all = length-append (visible_planes d) (d.covered.items ++ own_list d.superbits) in
    let rectangles = length-append d.parts.visible (rest_as d.kind hidden whole) in
    let rest = rest_many d.kind hidden whole d.covered.items d.superbits ok.buffers.rest in
    omega (arith, planes_shown d ok, planes_many d)

-- each buffer is of its rectangle's size
pub buffer_is : (d : LiveDraft) (n : ℕ) (b : Bitmap) → IsLiveDraft d → n < length (buffered (layout d)) → slice_index_or (buffers_of d) n no_bitmap ≡ b → IsBuffer d.depth (buffer_rectangle (layout d) n) b
buffer_is d n b ok inside is =
    let P : Bitmap → Type 0 = λ q. IsBuffer d.depth (buffer_rectangle (layout d) n) q in
    subst P is (ok.buffers.sized.each n inside)

-- what becomes of a draft where one of its buffers was changed
pub changed_shown : (d : LiveDraft) (n : ℕ) (f : Bitmap → Bitmap) (x : StripView) → n < length d.strips.items → x ≡ slice_index_or d.strips.items n x → record d { strips = with_item d.strips n (changed_pens f x) } ≡ changed_buffer n f d
changed_shown d n f x inside is =
    let here : x ≡ slice_index_or d.strips.items n no_strip = is ∙ get_or_default d.strips.items n x no_strip inside in
    let test : nat_lt n (length d.strips.items) ≡ true = grind (arith, nat_tests) in
    rw test (ap (λ s. record d { strips = with_item d.strips n (changed_pens f s) }) here)

pub changed_covered : (d : LiveDraft) (n k : ℕ) (f : Bitmap → Bitmap) (x : Bitmap) → k ≡ n - length d.strips.items → length d.strips.items ≤ n → k < length d.covered.items → x ≡ slice_index_or d.covered.items k no_bitmap → record d { covered = with_item d.covered k (f x) } ≡ changed_buffer n f d
changed_covered d n k f x is_k past inside here =
    let first : nat_lt n (length d.strips.items) ≡ false = grind (arith, nat_tests) in
    let test : nat_lt k (length d.covered.items) ≡ true = grind (arith, nat_tests) in
    rw (first, ← is_k) (rw test (ap (λ b. record d { covered = with_item d.covered k (f b) }) here))

pub changed_last : (d : LiveDraft) (n : ℕ) (f : Bitmap → Bitmap) → length d.strips.items ≤ n → length d.covered.items ≤ n - length d.strips.items → record d { superbits = changed_own f d.superbits } ≡ changed_buffer n f d
changed_last d n f past late =
    let first : nat_lt n (length d.strips.items) ≡ false = grind (arith, nat_tests) in
    let test : nat_lt (n - length d.strips.items) (length d.covered.items) ≡ false = grind (arith, nat_tests) in
    rw (first, test) refl
