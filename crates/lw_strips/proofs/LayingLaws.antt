-- Strips laid on a bitmap, from the last to the first.
use Rattle.std.proofs.Common.{◌≡◌, ℕ, ◌+◌, ◌<◌, ◌≤◌, Bool, true, false, ◌&&◌, if◌then◌else◌, List, [], ◌∷◌, ◌++◌, map, length, drop, take, get_or, ◌∙◌, sym, refl, ap, subst, arith, ℤ, pos, ◌+ℤ◌, ◌-ℤ◌, ◌≤ℤ◌, unsigned_abs}
use Rattle.std.specs.List.{All}
use Rattle.std.proofs.lemmas.Bool.{or_parts, and_parts, and_from}
use Rattle.std.proofs.lemmas.Int.{ints}
use Rattle.std.proofs.lemmas.List.{drop_all, drop_more, map_more}
use Rattle.std.proofs.lemmas.List.Elements.{All-get_or}
use Rattle.lw_region.specs.Rectangle.{Rectangle, within, has_pixel, IsOrdered, width, height}
use Rattle.lw_region.specs.Bands.{covers}
use Rattle.lw_region.proofs.Canonical.{covers_nil, covers_cons}
use Rattle.lw_region.proofs.Within.{within_true, within_low, within_high}
use Rattle.lw_planes.specs.Bitmap.{Bitmap, IsBitmap, bitmap, pen_at}
use Rattle.lw_planes.specs.Sizes.{AreSizes}
use Rattle.lw_planes.proofs.BitmapLaws.{pen_at_bitmap, bitmap_from_pens, bitmap_same}
use Rattle.lw_planes.proofs.ChosenLaws.{first_choice}
use Rattle.lw_strips.specs.Strips.{StripView, IsSizeOf, IsStrip, blank_planes, strip_pen, rects_of, pen_in}
use Rattle.lw_strips.specs.Laying.{with_strip, with_strips, composed, screen, assembled, LiesIn, part_of}
use Rattle.lw_strips.proofs.OverlapLaws.{in_rectangle, blank_pen}

-- no strip changes nothing
pub strips_none : (window : Rectangle) (strips : List StripView) (n : ℕ) (b : Bitmap) → IsBitmap b → length strips ≤ n → b ≡ with_strips window (drop n strips) b
strips_none window strips n b ok past =
    bitmap_from_pens b _ ok
    (λ x y _ _.
    let u : ℤ = window.min_x +ℤ pos x in
    let v : ℤ = window.min_y +ℤ pos y in
    let free : covers (rects_of (drop n strips)) u v ≡ false = ap (λ ss. covers (rects_of ss) u v) (drop_all n strips past) ∙ covers_nil u v in
    sym (ap (λ t. if t then pen_in (drop n strips) u v else pen_at b x y) free))

-- the pen of a place that the first strip has, or one behind it
pub pen_in_nil : (x y : ℤ) → pen_in [] x y ≡ 0
unfolding pen_in
pen_in_nil x y = refl

pub pen_in_cons : (s : StripView) (rest : List StripView) (x y : ℤ) → pen_in (s ∷ rest) x y ≡ (if has_pixel s.rect x y then strip_pen s x y else pen_in rest x y)
unfolding pen_in
pen_in_cons s rest x y = refl

-- one strip more, in front of the others
strips_cons : (window : Rectangle) (s : StripView) (rest : List StripView) (b : Bitmap) → with_strip window s (with_strips window rest b) ≡ with_strips window (s ∷ rest) b
unfolding pen_in
strips_cons window s rest b =
    bitmap_same b.width b.height b.depth _ _
    (λ x y left low.
    let u : ℤ = window.min_x +ℤ pos x in
    let v : ℤ = window.min_y +ℤ pos y in
    ap (λ p. if has_pixel s.rect u v then strip_pen s u v else p) (pen_at_bitmap b.width b.height b.depth _ x y left low)
    ∙ (first_choice (has_pixel s.rect u v) (covers (rects_of rest) u v) (strip_pen s u v) (pen_in rest u v) (pen_at b x y)
    ∙ sym (ap (λ t. if t then pen_in (s ∷ rest) u v else pen_at b x y) (covers_cons s.rect (rects_of rest) u v))))

pub strips_more : (window : Rectangle) (strips : List StripView) (k next : ℕ) (s : StripView) (b was new : Bitmap) → k < length strips → next ≡ k + 1 → s ≡ get_or strips k s
    → was ≡ with_strips window (drop next strips) b → new ≡ with_strip window s was → new ≡ with_strips window (drop k strips) b
strips_more window strips k next s b was new inside is_next is_strip before is =
    let list : drop k strips ≡ s ∷ drop next strips = drop_more strips k s inside ∙ (ap (λ w. w ∷ drop (k + 1) strips) (sym is_strip) ∙ ap (λ n. s ∷ drop n strips) (sym is_next)) in
    is ∙ (ap (with_strip window s) before ∙ (strips_cons window s (drop next strips) b ∙ ap (λ ss. with_strips window ss b) (sym list)))

-- the bitmap keeps its size and its planes
pub size_stays : (window : Rectangle) (strips : List StripView) (b c : Bitmap) → c ≡ with_strips window strips b → IsSizeOf window b → IsSizeOf window c
size_stays window strips b c is size =
    let P : Bitmap → Type 0 = λ q. IsSizeOf window q in
    subst P (sym is) (record { columns = size.columns; rows = size.rows })

pub depth_stays : (window : Rectangle) (laid_strips strips : List StripView) (b c : Bitmap) (s : StripView) (k : ℕ) → c ≡ with_strips window laid_strips b → All (λ q. q.planes.depth ≡ b.depth) strips → k < length strips → s ≡ get_or strips k s
    → s.planes.depth ≡ c.depth
depth_stays window laid_strips strips b c s k is all inside at =
    let P : StripView → Type 0 = λ q. q.planes.depth ≡ b.depth in
    subst P (sym at) (All-get_or P strips k s inside all) ∙ sym (ap (λ (q : Bitmap). q.depth) is)

-- the pen of a place that no strip has
pub pen_none : (strips : List StripView) (x y : ℤ) → covers (rects_of strips) x y ≡ false → pen_in strips x y ≡ 0
unfolding pen_in
pen_none [] x y h = refl
pen_none (s ∷ rest) x y h =
    let p = or_parts (has_pixel s.rect x y) (covers (rects_of rest) x y) (sym (covers_cons s.rect (rects_of rest) x y) ∙ h) in
    ap (λ w. if w then strip_pen s x y else pen_in rest x y) p.0 ∙ pen_none rest x y p.1

-- over pen 0
over_blank : (t : Bool) (pen old : ℕ) → old ≡ 0 → (t ≡ false → pen ≡ 0) → (if t then pen else old) ≡ pen
over_blank true pen old zero none = refl
over_blank false pen old zero none = zero ∙ sym (none refl)

-- strips laid on a blank bitmap are composed
pub laid_blank : (window : Rectangle) (depth : ℕ) (strips : List StripView) → with_strips window strips (blank_planes window depth) ≡ composed window depth strips
laid_blank window depth strips =
    bitmap_same (width window) (height window) depth _ _
    (λ x y _ _.
    let u : ℤ = window.min_x +ℤ pos x in
    let v : ℤ = window.min_y +ℤ pos y in
    over_blank (covers (rects_of strips) u v) (pen_in strips u v) (pen_at (blank_planes window depth) x y) (blank_pen window depth x y) (pen_none strips u v))

-- so a bitmap that was blank
pub made_composed : (window : Rectangle) (w h depth : ℕ) (strips : List StripView) (b new : Bitmap) → w ≡ width window → h ≡ height window → b ≡ bitmap w h depth (λ _ _. 0) → new ≡ with_strips window strips b
    → new ≡ composed window depth strips
made_composed window w h depth strips b new is_width is_height blank is =
    is ∙ (ap (with_strips window strips) (blank ∙ (ap (λ n. bitmap n h depth (λ _ _. 0)) is_width ∙ ap (λ n. bitmap (width window) n depth (λ _ _. 0)) is_height)) ∙ laid_blank window depth strips)

pub made_sized : (window : Rectangle) (w h depth : ℕ) (b : Bitmap) → w ≡ width window → h ≡ height window → b ≡ bitmap w h depth (λ _ _. 0) → IsSizeOf window b
made_sized window w h depth b is_width is_height is =
    let P : Bitmap → Type 0 = λ q. IsSizeOf window q in
    subst P (sym is) (record { columns = is_width; rows = is_height })

pub made_deep : (w h depth : ℕ) (b : Bitmap) (strips : List StripView) → b ≡ bitmap w h depth (λ _ _. 0) → All (λ s. s.planes.depth ≡ depth) strips → All (λ s. s.planes.depth ≡ b.depth) strips
made_deep w h depth b strips is all = let P : ℕ → Type 0 = λ n. All (λ s. s.planes.depth ≡ n) strips in subst P (sym (ap (λ (q : Bitmap). q.depth) is)) all

-- the sizes of a screen
screen_extent : (n : ℕ) → unsigned_abs (((pos n -ℤ pos 1) +ℤ pos 1) -ℤ pos 0) ≡ n
screen_extent n = omega (arith, ints)

pub screen_sizes : (w h depth : ℕ) (r : Rectangle) → r ≡ screen w h → AreSizes w h depth → AreSizes (width r) (height r) depth
screen_sizes w h depth r is ok =
    let P : Rectangle → Type 0 = λ q. AreSizes (width q) (height q) depth in
    let Q : ℕ → Type 0 = λ n. AreSizes n (height (screen w h)) depth in
    let R : ℕ → Type 0 = λ n. AreSizes w n depth in
    subst P (sym is) (subst Q (sym (screen_extent w)) (subst R (sym (screen_extent h)) ok))

pub screen_composed : (w h depth : ℕ) (strips : List StripView) (r : Rectangle) → r ≡ screen w h → composed r depth strips ≡ assembled w h depth strips
screen_composed w h depth strips r is =
    let start : (n : ℕ) → pos 0 +ℤ pos n ≡ pos n = λ n. omega (arith, ints) in
    ap (λ q. composed q depth strips) is
    ∙ (ap (λ n. bitmap n (height (screen w h)) depth (λ x y. pen_in strips (pos 0 +ℤ pos x) (pos 0 +ℤ pos y))) (screen_extent w)
    ∙ (ap (λ n. bitmap w n depth (λ x y. pen_in strips (pos 0 +ℤ pos x) (pos 0 +ℤ pos y))) (screen_extent h)
    ∙ bitmap_same w h depth _ _ (λ x y _ _. ap (λ u. pen_in strips u (pos 0 +ℤ pos y)) (start x) ∙ ap (λ v. pen_in strips (pos x) v) (start y))))

-- a rectangle that lies in another one has its edges there
pub lies_edges : (r s : Rectangle) → IsOrdered r → LiesIn r s → (s.min_x ≤ℤ r.min_x) × (s.min_y ≤ℤ r.min_y) × (r.max_x ≤ℤ s.max_x) × (r.max_y ≤ℤ s.max_y)
lies_edges r s ordered inside =
    let same : (z : ℤ) → z ≤ℤ z = λ z. omega (arith, ints) in
    let first = and_parts _ _ (inside r.min_x r.min_y (and_from _ _ (within_true r.min_x r.min_x r.max_x (same r.min_x) ordered.columns) (within_true r.min_y r.min_y r.max_y (same r.min_y) ordered.rows))) in
    let last = and_parts _ _ (inside r.max_x r.max_y (and_from _ _ (within_true r.min_x r.max_x r.max_x ordered.columns (same r.max_x)) (within_true r.min_y r.max_y r.max_y ordered.rows (same r.max_y)))) in
    (within_low _ _ _ first.0, within_low _ _ _ first.1, within_high _ _ _ last.0, within_high _ _ _ last.1)

-- so it is no larger, and has a place at least
pub extent_inside : (low high other_low other_high : ℤ) (n : ℕ) → low ≤ℤ high → other_low ≤ℤ low → high ≤ℤ other_high → n ≡ unsigned_abs ((other_high +ℤ pos 1) -ℤ other_low) → n ≤ 2048
    → (1 ≤ unsigned_abs ((high +ℤ pos 1) -ℤ low)) × (unsigned_abs ((high +ℤ pos 1) -ℤ low) ≤ 2048)
extent_inside low high other_low other_high n ordered first last long most = (omega (arith, ints), omega (arith, ints))

pub part_sizes : (s : StripView) (r : Rectangle) (depth : ℕ) → IsStrip s → IsOrdered r → LiesIn r s.rect → depth ≡ s.planes.depth → AreSizes (width r) (height r) depth
part_sizes s r depth strip ordered inside is =
    let edges = lies_edges r s.rect ordered inside in
    let P : ℕ → Type 0 = λ n. AreSizes (width r) (height r) n in
    subst P (sym is) (record {
      columns = extent_inside r.min_x r.max_x s.rect.min_x s.rect.max_x s.planes.width ordered.columns edges.0 edges.2 strip.size.columns strip.sound.sizes.columns.1;
      rows = extent_inside r.min_y r.max_y s.rect.min_y s.rect.max_y s.planes.height ordered.rows edges.1 edges.3 strip.size.rows strip.sound.sizes.rows.1;
      planes = strip.sound.sizes.planes;
    })

-- what is composed of one strip in which the window lies is the strip's part there
pub composed_part : (s : StripView) (r : Rectangle) (depth : ℕ) → IsOrdered r → LiesIn r s.rect → depth ≡ s.planes.depth → composed r depth (s ∷ []) ≡ (part_of s r).planes
unfolding pen_in
composed_part s r depth ordered inside is =
    ap (λ n. composed r n (s ∷ [])) is
    ∙ bitmap_same (width r) (height r) s.planes.depth _ _
    (λ x y left low.
    let u : ℤ = r.min_x +ℤ pos x in
    let v : ℤ = r.min_y +ℤ pos y in
    let columns = in_rectangle x (width r) r.min_x r.max_x ordered.columns refl left in
    let rows = in_rectangle y (height r) r.min_y r.max_y ordered.rows refl low in
    let here : has_pixel r u v ≡ true = ap (λ t. t && within r.min_y v r.max_y) columns ∙ rows in
    ap (λ t. if t then strip_pen s u v else 0) (inside u v here))

-- one part more
pub part_more : (s : StripView) (rects : List Rectangle) (k : ℕ) (r : Rectangle) (parts more : List StripView) (p : StripView) → k < length rects → r ≡ get_or rects k r
    → parts ≡ map (part_of s) (take k rects) → p ≡ part_of s r → more ≡ parts ++ p ∷ [] → more ≡ map (part_of s) (take (k + 1) rects)
part_more s rects k r parts more p inside is so_far made pushed =
    pushed
    ∙ (ap (λ ps. ps ++ p ∷ []) so_far
    ∙ (ap (λ q. map (part_of s) (take k rects) ++ q ∷ []) (made ∙ ap (part_of s) is)
    ∙ sym (map_more (part_of s) rects k r inside)))
