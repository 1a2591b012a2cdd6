-- The pixels of a list of rectangles with a bitmap each, copied rectangle by rectangle.
use Rattle.std.proofs.Common.{◌≡◌, ℕ, zero, suc, ◌+◌, ◌-◌, ◌<◌, ◌≤◌, Bool, true, false, ◌||◌, if◌then◌else◌, List, [], ◌∷◌, ◌++◌, length, drop, replicate, get_or, ◌/◌, ◌%◌, inl, inr, ℤ, pos, ◌+ℤ◌, ◌-ℤ◌, refl, ap, sym, ◌∙◌, arith}
use Rattle.std.specs.Int.{bit_at}
use Rattle.std.proofs.lemmas.Int.{ints}
use Rattle.std.proofs.lemmas.Bool.{or_parts, cases_lt}
use Rattle.std.proofs.lemmas.Nat.Bits.{bit_at-zero}
use Rattle.std.proofs.lemmas.Bool.Decides.{nat_tests}
use Rattle.std.proofs.lemmas.List.{drop_more, drop_all, get_or-replicate, get_or_past, length-replicate}
use Rattle.lw_region.specs.Rectangle.{Rectangle, has_pixel}
use Rattle.lw_region.specs.Order.{natural}
use Rattle.lw_region.specs.Bands.{covers}
use Rattle.lw_region.proofs.Canonical.{covers_nil, covers_cons}
use Rattle.lw_planes.specs.Row.{row_bit}
use Rattle.lw_planes.specs.Bitmap.{Bitmap, pen_at}
use Rattle.lw_planes.proofs.RowLaws.{row_bit_lt}
use Rattle.lw_planes.proofs.ChosenLaws.{first_choice}
use Rattle.lw_kernels.specs.Kernel.{is_named, blit_bit}
use Rattle.lw_kernels.proofs.ByteLaws.{minterm_copies}
use Rattle.lw_buffers.specs.declared.shared.Part.{Part}
use Rattle.lw_buffers.specs.Lookup.{IsBufferOf, pen_from, pen_in}
use Rattle.lw_buffers.specs.Shared.{IsShared}

-- the plane's bit of the pen at a place, and an old bit where no rectangle has the place
abbrev pub bit_over : List Rectangle → List Bitmap → ℕ → ℤ → ℤ → ℕ → ℕ
bit_over rs bs plane x y old = if covers rs x y then bit_at (pen_in rs bs x y) plane else old

-- 1 where some rectangle has the place
abbrev pub kept_over : List Rectangle → ℤ → ℤ → ℕ → ℕ
kept_over rs x y old = if covers rs x y then 1 else old

-- no rectangle leaves the old bits
pub over_none : (rs : List Rectangle) (x y : ℤ) (new old n : ℕ) → length rs ≤ n → old ≡ (if covers (drop n rs) x y then new else old)
over_none rs x y new old n l =
    sym (ap (λ w. if covers w x y then new else old) (drop_all n rs l) ∙ ap (λ w. if w then new else old) (covers_nil x y))

-- what is first, and what comes after it
over_step : (t c : Bool) (p q plane old : ℕ)
    → (if (t || c) then bit_at (if t then p else q) plane else old) ≡ (if t then bit_at p plane else (if c then bit_at q plane else old))
over_step true c p q plane old = refl
over_step false c p q plane old = refl

-- the same of the places alone
pub kept_step : (t c : Bool) (old : ℕ) → (if (t || c) then 1 else old) ≡ (if t then 1 else (if c then 1 else old))
kept_step true c old = refl
kept_step false c old = refl

-- a rectangle in front of others, and its bitmap
pub over_cons : (r : Rectangle) (rs : List Rectangle) (b : Bitmap) (bs : List Bitmap) (plane : ℕ) (x y : ℤ) (old : ℕ)
    → bit_over (r ∷ rs) (b ∷ bs) plane x y old ≡ (if has_pixel r x y then bit_at (pen_from r b x y) plane else bit_over rs bs plane x y old)
unfolding pen_in
over_cons r rs b bs plane x y old =
    ap (λ w. if w then bit_at (pen_in (r ∷ rs) (b ∷ bs) x y) plane else old) (covers_cons r rs x y)
    ∙ over_step (has_pixel r x y) (covers rs x y) (pen_from r b x y) (pen_in rs bs x y) plane old

-- the list from a place on is the element there before the list from the next one on
pub drop_next : {X : Type 0} (xs : List X) (k next : ℕ) (x : X) → k < length xs → next ≡ k + 1 → x ≡ get_or xs k x → drop k xs ≡ x ∷ drop next xs
drop_next xs k next x l e f =
    drop_more xs k x l ∙ (ap (λ w. w ∷ drop (k + 1) xs) (sym f) ∙ ap (λ w. x ∷ drop w xs) (sym e))

-- one more rectangle from the end back
pub over_more : (rs : List Rectangle) (bs : List Bitmap) (k next plane : ℕ) (x y : ℤ) (r : Rectangle) (b : Bitmap) (new mid old : ℕ)
    → drop k rs ≡ r ∷ drop next rs → drop k bs ≡ b ∷ drop next bs → new ≡ (if has_pixel r x y then bit_at (pen_from r b x y) plane else mid)
    → mid ≡ bit_over (drop next rs) (drop next bs) plane x y old → new ≡ bit_over (drop k rs) (drop k bs) plane x y old
over_more rs bs k next plane x y r b new mid old p q g h =
    g ∙ (ap (λ w. if has_pixel r x y then bit_at (pen_from r b x y) plane else w) h
    ∙ (sym (over_cons r (drop next rs) b (drop next bs) plane x y old)
    ∙ (ap (λ w. bit_over w (b ∷ drop next bs) plane x y old) (sym p) ∙ ap (λ w. bit_over (drop k rs) w plane x y old) (sym q))))

-- and for the places
pub kept_more : (rs : List Rectangle) (k next : ℕ) (x y : ℤ) (r : Rectangle) (new mid old : ℕ)
    → drop k rs ≡ r ∷ drop next rs → new ≡ (if has_pixel r x y then 1 else mid)
    → mid ≡ kept_over (drop next rs) x y old → new ≡ kept_over (drop k rs) x y old
kept_more rs k next x y r new mid old p g h =
    g ∙ (ap (λ w. if has_pixel r x y then 1 else w) h
    ∙ (sym (ap (λ w. if w then 1 else old) (covers_cons r (drop next rs) x y) ∙ kept_step (has_pixel r x y) (covers (drop next rs) x y) old)
    ∙ ap (λ w. kept_over w x y old) (sym p)))

-- a difference that is a natural number
natural_at : (z : ℤ) (n : ℕ) → z ≡ pos n → natural z ≡ n
natural_at z n e = ap natural e

-- a bit of a row that was copied is the plane's bit of the pen for its place
copied_pen : (r : Rectangle) (b : Bitmap) (row : List ℕ) (plane i n : ℕ) (x y : ℤ) (p : Part) → IsBufferOf r b → IsShared r x y n p
    → ((u : ℕ) → u < b.width → row_bit row u ≡ bit_at (pen_at b u p.line) plane) → p.bit ≤ i → i < p.bit + p.count
    → row_bit row (p.column + (i - p.bit)) ≡ bit_at (pen_from r b (x +ℤ pos i) y) plane
copied_pen r b row plane i n x y p size s bits l m =
    let column = p.column + (i - p.bit) in
    let wide = size.columns in
    let fits = s.right in
    let at = s.across in
    let u : natural ((x +ℤ pos i) -ℤ r.min_x) ≡ column = natural_at ((x +ℤ pos i) -ℤ r.min_x) column (omega (arith, ints)) in
    let v : natural (y -ℤ r.min_y) ≡ p.line = natural_at (y -ℤ r.min_y) p.line (let d = s.down in omega (arith, ints)) in
    bits column (omega (arith, ints)) ∙ (ap (λ w. bit_at (pen_at b w p.line) plane) (sym u)
    ∙ ap (λ w. bit_at (pen_at b (natural ((x +ℤ pos i) -ℤ r.min_x)) w) plane) (sym v))

-- a bit that is named, or not
copied_step : (r : Rectangle) (b : Bitmap) (row : List ℕ) (old : ℕ → ℕ) (plane i n : ℕ) (x y : ℤ) (p : Part) → IsBufferOf r b → IsShared r x y n p
    → ((u : ℕ) → u < b.width → row_bit row u ≡ bit_at (pen_at b u p.line) plane) → (t : Bool) → is_named p.bit p.count i ≡ t
    → (if t then blit_bit 192 (row_bit row) p.column old p.bit i else old i) ≡ (if t then bit_at (pen_from r b (x +ℤ pos i) y) plane else old i)
copied_step r b row old plane i n x y p size s bits true e =
    let low : p.bit ≤ i = grind (arith, nat_tests) in
    let high : i < p.bit + p.count = grind (arith, nat_tests) in
    minterm_copies 192 (row_bit row (p.column + (i - p.bit))) (old i) (row_bit_lt row (p.column + (i - p.bit))) refl
    ∙ copied_pen r b row plane i n x y p size s bits low high
copied_step r b row old plane i n x y p size s bits false e = refl

-- the bits of a row once those that it shares with a rectangle were copied
pub copied_bit : (r : Rectangle) (b : Bitmap) (row : List ℕ) (old : ℕ → ℕ) (plane i n : ℕ) (x y : ℤ) (p : Part) → IsBufferOf r b → IsShared r x y n p
    → ((u : ℕ) → u < b.width → row_bit row u ≡ bit_at (pen_at b u p.line) plane) → i < n
    → (if is_named p.bit p.count i then blit_bit 192 (row_bit row) p.column old p.bit i else old i)
    ≡ (if has_pixel r (x +ℤ pos i) y then bit_at (pen_from r b (x +ℤ pos i) y) plane else old i)
copied_bit r b row old plane i n x y p size s bits l =
    copied_step r b row old plane i n x y p size s bits (is_named p.bit p.count i) refl
    ∙ ap (λ w. if w then bit_at (pen_from r b (x +ℤ pos i) y) plane else old i) (sym (s.pixels i l))

-- a bit of a row that was cleared
pub cleared_bit : (row : List ℕ) (n i : ℕ) → row ≡ replicate n 0 → row_bit row i ≡ 0
unfolding row_bit
cleared_bit row n i e =
    let zero : get_or (replicate n 0) (i / 8) 0 ≡ 0 =
    elim (cases_lt (i / 8) n) [
      | inl l ↦ get_or-replicate n (i / 8) 0 0 l
      | inr l ↦ get_or_past (replicate n 0) (i / 8) 0 (rw length-replicate l)
    ] in
    ap (λ w. bit_at (get_or w (i / 8) 0) (7 - i % 8)) e ∙ (ap (λ w. bit_at w (7 - i % 8)) zero ∙ bit_at-zero (7 - i % 8))

-- the pen of a place that no rectangle has
pub pen_none : (rs : List Rectangle) (bs : List Bitmap) (x y : ℤ) → covers rs x y ≡ false → pen_in rs bs x y ≡ 0
unfolding pen_in
pen_none [] bs x y h = refl
pen_none (r ∷ rs) [] x y h = refl
pen_none (r ∷ rs) (b ∷ bs) x y h =
    let p = or_parts (has_pixel r x y) (covers rs x y) (sym (covers_cons r rs x y) ∙ h) in
    ap (λ w. if w then pen_from r b x y else pen_in rs bs x y) p.0 ∙ pen_none rs bs x y p.1

-- over zeros
zero_step : (t : Bool) (pen plane old : ℕ) → old ≡ 0 → (t ≡ false → pen ≡ 0) → (if t then bit_at pen plane else old) ≡ bit_at pen plane
zero_step true pen plane old e h = refl
zero_step false pen plane old e h = e ∙ sym (ap (λ w. bit_at w plane) (h refl) ∙ bit_at-zero plane)

-- over zeros the bits are those of the pens
pub over_zero : (rs : List Rectangle) (bs : List Bitmap) (plane : ℕ) (x y : ℤ) (old : ℕ) → old ≡ 0 → bit_over rs bs plane x y old ≡ bit_at (pen_in rs bs x y) plane
over_zero rs bs plane x y old e = zero_step (covers rs x y) (pen_in rs bs x y) plane old e (pen_none rs bs x y)

-- the pens of the first list, and where it has none those of the second
pub pen_in_append : (rs ss : List Rectangle) (bs cs : List Bitmap) (x y : ℤ) → length bs ≡ length rs → pen_in (rs ++ ss) (bs ++ cs) x y ≡ (if covers rs x y then pen_in rs bs x y else pen_in ss cs x y)
unfolding pen_in
pen_in_append [] ss [] cs x y many = sym (ap (λ w. if w then 0 else pen_in ss cs x y) (covers_nil x y))
pen_in_append [] ss (b ∷ bs) cs x y many = absurd (omega arith)
pen_in_append (r ∷ rs) ss [] cs x y many = absurd (omega arith)
pen_in_append (r ∷ rs) ss (b ∷ bs) cs x y many =
    ap (λ w. if has_pixel r x y then pen_from r b x y else w) (pen_in_append rs ss bs cs x y (omega arith)) ∙
    (first_choice (has_pixel r x y) (covers rs x y) (pen_from r b x y) (pen_in rs bs x y) (pen_in ss cs x y) ∙
    sym (ap (λ w. if w then pen_in (r ∷ rs) (b ∷ bs) x y else pen_in ss cs x y) (covers_cons r rs x y)))

-- the pen of a place that one rectangle has and none before it
pub pen_in_first : (rs : List Rectangle) (bs : List Bitmap) (n : ℕ) (d : Rectangle) (b : Bitmap) (x y : ℤ) → n < length rs → length bs ≡ length rs → has_pixel (get_or rs n d) x y ≡ true
    → ((k : ℕ) → k < n → has_pixel (get_or rs k d) x y ≡ false) → pen_in rs bs x y ≡ pen_from (get_or rs n d) (get_or bs n b) x y
unfolding pen_in
pen_in_first [] bs n d b x y inside many has before = absurd (omega arith)
pen_in_first (r ∷ rs) [] n d b x y inside many has before = absurd (omega arith)
pen_in_first (r ∷ rs) (c ∷ bs) zero d b x y inside many has before = ap (λ w. if w then pen_from r c x y else pen_in rs bs x y) has
pen_in_first (r ∷ rs) (c ∷ bs) (suc n) d b x y inside many has before =
    let here : has_pixel r x y ≡ false = before 0 (omega arith) in
    ap (λ w. if w then pen_from r c x y else pen_in rs bs x y) here ∙
    pen_in_first rs bs n d b x y (omega arith) (omega arith) has (λ k h. before (suc k) (omega arith))
