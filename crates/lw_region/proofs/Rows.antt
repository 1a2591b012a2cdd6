-- The bands of rows in the lists that the sweep reads and makes.
use Rattle.std.proofs.Common.{◌≡◌, ℕ, ◌+◌, ◌-◌, ◌<◌, ◌≤◌, Option, Some, true, false, List, ◌++◌, map, take, drop, length, get_or, ℤ, ap, sym, ◌∙◌, arith}
use Rattle.std.specs.List.{between}
use Rattle.std.proofs.lemmas.Slice.{between_is}
use Rattle.std.specs.Ordering.{int_eq}
use Rattle.std.proofs.lemmas.List.{take_rest, take-take, take_at, append_assoc, length-append, length-take-le, length-map, length-drop}
use Rattle.std.proofs.lemmas.List.Sums.{prefix_len-drop_yes, prefix_len-drop_no, prefix_len-drop_all}
use Rattle.lw_region.specs.Rectangle.{Rectangle}
use Rattle.lw_region.specs.Rows.{band_length, joined_bottom, joined_rects, down_to}

-- how many rectangles of one band follow, at a rectangle of the band, at another one, and at the end
pub length_more : (top : ℤ) (rects : List Rectangle) (i : ℕ) (r : Rectangle) → i < length rects → r ≡ get_or rects i r → int_eq r.min_y top ≡ true
    → band_length top (drop i rects) ≡ 1 + band_length top (drop (i + 1) rects)
unfolding band_length
length_more top rects i r l e h =
    prefix_len-drop_yes (λ s. int_eq s.min_y top) rects i r l (ap (λ (s : Rectangle). int_eq s.min_y top) (sym e) ∙ h)

-- the count stops at another top row
pub length_stops : (top : ℤ) (rects : List Rectangle) (i : ℕ) (r : Rectangle) → i < length rects → r ≡ get_or rects i r → int_eq r.min_y top ≡ false
    → band_length top (drop i rects) ≡ 0
unfolding band_length
length_stops top rects i r l e h =
    prefix_len-drop_no (λ s. int_eq s.min_y top) rects i r l (ap (λ (s : Rectangle). int_eq s.min_y top) (sym e) ∙ h)

-- the count ends with the list
pub length_ends : (top : ℤ) (rects : List Rectangle) (i : ℕ) → length rects ≤ i → band_length top (drop i rects) ≡ 0
unfolding band_length
length_ends top rects i l = prefix_len-drop_all (λ s. int_eq s.min_y top) rects i l

-- four lists end to end
regroup : {X : Type 0} (a b c d : List X) → (a ++ (b ++ c)) ++ d ≡ (a ++ b) ++ (c ++ d)
regroup a b c d = simp append_assoc

-- a list whose end is written anew
pub stretched : {X : Type 0} (f : X → X) (items s t : List X) (from n : ℕ) (tail more : List X) → s ≡ items → n ≡ length items → from ≤ n
    → t ≡ map f (take (length s - from) (drop from s))
    → take n ((take from s ++ (t ++ tail)) ++ more) ≡ take from items ++ map f (drop from items)
stretched f items s t from n tail more e l h m =
    let g : take (length s - from) (drop from s) ≡ drop from items = take_rest s from ∙ ap (drop from) e in
    let k : t ≡ map f (drop from items) = m ∙ ap (map f) g in
    let w : length (take from s ++ t) ≡ n =
    length-append (take from s) t ∙ (ap (λ v. length (take from v) + length t) e ∙ (ap (λ v. length (take from items) + length v) k
    ∙ (omega (arith, length-take-le from items (omega arith), length-map (drop from items) f, length-drop from items)))) in
    ap (take n) (regroup (take from s) t tail more) ∙ (take_at (take from s ++ t) (tail ++ more) n w
    ∙ (ap (λ v. take from v ++ t) e ∙ ap (λ v. take from items ++ v) k))

-- the list whose last two bands are joined
pub joined_made : (items all cut now : List Rectangle) (last start : ℕ) (o : Option ℤ) (bottom bottom' : ℤ) → last ≤ start → all ≡ items
    → o ≡ joined_bottom (take (start - last) (drop last all)) (take (length all - start) (drop start all)) → o ≡ Some bottom
    → cut ≡ take start items → now ≡ take last cut ++ map (λ r. down_to r bottom') (drop last cut) → bottom' ≡ bottom
    → now ≡ joined_rects (joined_bottom (between last start items) (drop start items)) items last start
joined_made items all cut now last start o bottom bottom' l e f g h k m =
    let rest : take (length all - start) (drop start all) ≡ drop start items = take_rest all start ∙ ap (drop start) e in
    let p : joined_bottom (between last start items) (drop start items) ≡ Some bottom =
    ap (λ w. joined_bottom (take (start - last) (drop last w)) (drop start items)) (sym e)
    ∙ (ap (λ w. joined_bottom (take (start - last) (drop last all)) w) (sym rest) ∙ (sym f ∙ g)) in
    let q : take last cut ≡ take last items = ap (take last) h ∙ take-take last start items l in
    let r : drop last cut ≡ between last start items = ap (drop last) h ∙ sym (between_is items last start) in
    k ∙ (ap (λ w. w ++ map (λ r. down_to r bottom') (drop last cut)) q
    ∙ (ap (λ w. take last items ++ map (λ r. down_to r bottom') w) r
    ∙ (ap (λ w. take last items ++ map (λ r. down_to r w) (between last start items)) m
    ∙ ap (λ w. joined_rects w items last start) (sym p))))
