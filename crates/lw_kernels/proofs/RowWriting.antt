-- A row that is written byte by byte, to the right or to the left.
use Rattle.std.proofs.Common.{◌≡◌, ◌≢◌, ℕ, ◌+◌, ◌-◌, ◌*◌, ◌/◌, ◌%◌, ◌<◌, ◌≤◌, ◌&&◌, nat_lt, nat_le, if◌then◌else◌, Bool, true, false, List, length, get_or, set, map, ap, subst, sym, refl, ◌∙◌, ⊎_elim, get_or-set_same, get_or-set_other, zero-add, arith}
use Rattle.std.specs.Int.{bit_at}
use Rattle.std.specs.List.{range_with_len}
use Rattle.std.proofs.lemmas.List.{ext_get_or, get_or_past}
use Rattle.std.proofs.lemmas.List.FromFn.{length-map-range_with_len, get_or-map-range_with_len}
use Rattle.std.proofs.lemmas.Bool.{cases_lt, cases_eq, and_right, lt-ltb, le-ltb, le-leb, lt-leb}
use Rattle.std.proofs.lemmas.Bool.Decides.{nat_tests}
use Rattle.lw_planes.specs.Row.{row_bit, row_bits}
use Rattle.lw_planes.specs.Minterm.{minterm_bit}
use Rattle.lw_planes.proofs.RowLaws.{row_bit_at, row_bit_past, row_bits_at, length_row_bits}
use Rattle.lw_kernels.specs.Kernel.{is_between, is_named, with_named}

-- the bits from `from` on, before `end`, are the new ones in the bytes before `index`, and every other bit is the old one
abbrev pub DoneBefore : List ℕ → (ℕ → ℕ) → (ℕ → ℕ) → ℕ → ℕ → ℕ → Type 0
DoneBefore row new old from end index = (x : ℕ) → row_bit row x ≡ (if is_between from end x && nat_lt x (8 * index) then new x else old x)

-- the bits from `from` on, before `end`, are the new ones in the bytes from `index` on, and every other bit is the old one
abbrev pub DoneFrom : List ℕ → (ℕ → ℕ) → (ℕ → ℕ) → ℕ → ℕ → ℕ → Type 0
DoneFrom row new old from end index = (x : ℕ) → row_bit row x ≡ (if is_between from end x && nat_le (8 * index) x then new x else old x)

-- all is done
abbrev pub Done : List ℕ → (ℕ → ℕ) → (ℕ → ℕ) → ℕ → ℕ → Type 0
Done row new old from end = (x : ℕ) → row_bit row x ≡ (if is_between from end x then new x else old x)

-- a choice whose test is true
pub if_true : (t : Bool) (v a b : ℕ) → v ≡ (if t then a else b) → t ≡ true → v ≡ a
if_true true v a b is h = is
if_true false v a b is h = cc

-- a choice whose test is false
pub if_false : (t : Bool) (v a b : ℕ) → v ≡ (if t then a else b) → t ≡ false → v ≡ b
if_false true v a b is h = cc
if_false false v a b is h = is

-- a choice by another test of the same value
if_test : (t u : Bool) (v a b : ℕ) → v ≡ (if t then a else b) → t ≡ u → v ≡ (if u then a else b)
if_test t u v a b is h = is ∙ ap (λ q. if q then a else b) h

-- `and` with a true test
and_true : (t u : Bool) → u ≡ true → (t && u) ≡ t
and_true true true h = refl
and_true false true h = refl
and_true true false h = cc
and_true false false h = refl

-- a byte that was written
pub set_here : (row : List ℕ) (index v x : ℕ) → index < length row → x / 8 ≡ index → row_bit (set row index v) x ≡ bit_at v (7 - x % 8)
unfolding row_bit
set_here row index v x inside here = ap (λ p. bit_at p (7 - x % 8)) (rw here (get_or-set_same row index v 0 inside))

-- any other byte
pub set_elsewhere : (row : List ℕ) (index v x : ℕ) → x / 8 ≢ index → row_bit (set row index v) x ≡ row_bit row x
unfolding row_bit
set_elsewhere row index v x apart = ap (λ p. bit_at p (7 - x % 8)) (get_or-set_other row index (x / 8) v 0 apart)

-- a bit of the byte that is written next, seen in the row
pub byte_old : (row : List ℕ) (index byte j : ℕ) → j < 8 → byte ≡ get_or row index 0 → bit_at byte (7 - j) ≡ row_bit row (8 * index + j)
byte_old row index byte j low is = ap (λ p. bit_at p (7 - j)) is ∙ sym (row_bit_at row index j low)

-- before the first byte nothing is done
pub before_none : (row : List ℕ) (new : ℕ → ℕ) (from end index : ℕ) → 8 * index ≤ from → DoneBefore row new (λ x. row_bit row x) from end index
before_none row new from end index early = λ x. let bit : ℕ = row_bit row x in let other : ℕ = new x in grind (arith, nat_tests)

-- one more byte is done, to the right
pub before_more : (row : List ℕ) (new old : ℕ → ℕ) (from end index v : ℕ) → index < length row → DoneBefore row new old from end index → ((j : ℕ) → j < 8 → bit_at v (7 - j) ≡ (if is_between from end (8 * index + j) then new (8 * index + j) else old (8 * index + j))) → DoneBefore (set row index v) new old from end (index + 1)
before_more row new old from end index v inside done byte = λ x.
    ⊎_elim
    (λ (here : x / 8 ≡ index).
    let j : ℕ = x % 8 in
    let low : j < 8 = omega arith in
    let place : 8 * index + j ≡ x = omega arith in
    let test : nat_lt x (8 * (index + 1)) ≡ true = lt-ltb x (8 * (index + 1)) (omega arith) in
    let bit : bit_at v (7 - j) ≡ (if is_between from end x then new x else old x) = subst (λ i. bit_at v (7 - j) ≡ (if is_between from end i then new i else old i)) place (byte j low) in
    if_test (is_between from end x) (is_between from end x && nat_lt x (8 * (index + 1))) (row_bit (set row index v) x) (new x) (old x)
    (set_here row index v x inside here ∙ bit) (sym (and_true (is_between from end x) (nat_lt x (8 * (index + 1))) test)))
    (λ (apart : x / 8 ≢ index).
    let same : nat_lt x (8 * index) ≡ nat_lt x (8 * (index + 1)) =
    ⊎_elim
    (λ (before : x < 8 * index). lt-ltb x (8 * index) before ∙ sym (lt-ltb x (8 * (index + 1)) (omega arith)))
    (λ (after : 8 * index ≤ x). le-ltb x (8 * index) after ∙ sym (le-ltb x (8 * (index + 1)) (omega arith)))
    (cases_lt x (8 * index))
    in
    if_test (is_between from end x && nat_lt x (8 * index)) (is_between from end x && nat_lt x (8 * (index + 1))) (row_bit (set row index v) x) (new x) (old x)
    (set_elsewhere row index v x apart ∙ done x) (ap (λ t. is_between from end x && t) same))
    (cases_eq (x / 8) index)

-- the same bytes are done, counted otherwise
pub before_at : (row : List ℕ) (new old : ℕ → ℕ) (from end index place : ℕ) → index ≡ place → DoneBefore row new old from end index → DoneBefore row new old from end place
before_at row new old from end index place same done = λ x. done x ∙ ap (λ n. if is_between from end x && nat_lt x (8 * n) then new x else old x) same

-- after the last byte all is done
pub before_all : (row : List ℕ) (new old : ℕ → ℕ) (from end index : ℕ) → end ≤ 8 * index → DoneBefore row new old from end index → Done row new old from end
before_all row new old from end index late done = λ x. let is = done x in let a : ℕ = new x in let b : ℕ = old x in grind (arith, nat_tests)

-- to the right: what isn't yet done is old
pub before_old : (row : List ℕ) (new old : ℕ → ℕ) (from end index x : ℕ) → DoneBefore row new old from end index → 8 * index ≤ x → row_bit row x ≡ old x
before_old row new old from end index x done late =
    if_false (is_between from end x && nat_lt x (8 * index)) (row_bit row x) (new x) (old x) (done x) (and_right (is_between from end x) (nat_lt x (8 * index)) (le-ltb x (8 * index) late))

-- after the last byte nothing is done
pub from_none : (row : List ℕ) (new : ℕ → ℕ) (from end index : ℕ) → end ≤ 8 * index → DoneFrom row new (λ x. row_bit row x) from end index
from_none row new from end index late = λ x. let bit : ℕ = row_bit row x in let other : ℕ = new x in grind (arith, nat_tests)

-- one more byte is done, to the left
pub from_more : (row : List ℕ) (new old : ℕ → ℕ) (from end index next v : ℕ) → index < length row → next ≡ index + 1 → DoneFrom row new old from end next → ((j : ℕ) → j < 8 → bit_at v (7 - j) ≡ (if is_between from end (8 * index + j) then new (8 * index + j) else old (8 * index + j))) → DoneFrom (set row index v) new old from end index
from_more row new old from end index next v inside is_next done byte = λ x.
    ⊎_elim
    (λ (here : x / 8 ≡ index).
    let j : ℕ = x % 8 in
    let low : j < 8 = omega arith in
    let place : 8 * index + j ≡ x = omega arith in
    let test : nat_le (8 * index) x ≡ true = le-leb (8 * index) x (omega arith) in
    let bit : bit_at v (7 - j) ≡ (if is_between from end x then new x else old x) = subst (λ i. bit_at v (7 - j) ≡ (if is_between from end i then new i else old i)) place (byte j low) in
    if_test (is_between from end x) (is_between from end x && nat_le (8 * index) x) (row_bit (set row index v) x) (new x) (old x)
    (set_here row index v x inside here ∙ bit) (sym (and_true (is_between from end x) (nat_le (8 * index) x) test)))
    (λ (apart : x / 8 ≢ index).
    let same : nat_le (8 * next) x ≡ nat_le (8 * index) x =
    ⊎_elim
    (λ (before : x < 8 * next). lt-leb (8 * next) x before ∙ sym (lt-leb (8 * index) x (omega arith)))
    (λ (after : 8 * next ≤ x). le-leb (8 * next) x after ∙ sym (le-leb (8 * index) x (omega arith)))
    (cases_lt x (8 * next))
    in
    if_test (is_between from end x && nat_le (8 * next) x) (is_between from end x && nat_le (8 * index) x) (row_bit (set row index v) x) (new x) (old x)
    (set_elsewhere row index v x apart ∙ done x) (ap (λ t. is_between from end x && t) same))
    (cases_eq (x / 8) index)

-- before the first byte all is done
pub from_all : (row : List ℕ) (new old : ℕ → ℕ) (from end index : ℕ) → 8 * index ≤ from → DoneFrom row new old from end index → Done row new old from end
from_all row new old from end index early done = λ x. let is = done x in let a : ℕ = new x in let b : ℕ = old x in grind (arith, nat_tests)

-- to the left: what isn't yet done is old
pub from_old : (row : List ℕ) (new old : ℕ → ℕ) (from end index x : ℕ) → DoneFrom row new old from end index → x < 8 * index → row_bit row x ≡ old x
from_old row new old from end index x done early =
    if_false (is_between from end x && nat_le (8 * index) x) (row_bit row x) (new x) (old x) (done x) (and_right (is_between from end x) (nat_le (8 * index) x) (lt-leb (8 * index) x early))

-- the byte that is written has new bits where they are between the two, and old ones elsewhere
pub byte_bit : (t : Bool) (v a b new old : ℕ) → v ≡ (if t then a else b) → (t ≡ true → a ≡ new) → b ≡ old → v ≡ (if t then new else old)
byte_bit true v a b new old is here other = is ∙ here refl
byte_bit false v a b new old is here other = is ∙ other

-- a minterm's value for equal bits
pub minterm_same : (m b c b' c' : ℕ) → b ≡ b' → c ≡ c' → minterm_bit m b c ≡ minterm_bit m b' c'
minterm_same m b c b' c' p q = ap (λ n. minterm_bit m n c) p ∙ ap (λ n. minterm_bit m b' n) q

-- a byte that is blitted has the minterm's values between the two, if their sources are old, and old bits elsewhere
pub blitted_bit : (t : Bool) (v bit minterm now was old : ℕ) → v ≡ (if t then minterm_bit minterm now bit else bit) → (t ≡ true → now ≡ was) → bit ≡ old → v ≡ (if t then minterm_bit minterm was old else old)
blitted_bit true v bit minterm now was old is source same = is ∙ minterm_same minterm now bit was old (source refl) same
blitted_bit false v bit minterm now was old is source same = is ∙ same

-- the list of a row's bits has each of them, and none past the row
pub bits_at : (row : List ℕ) (x : ℕ) → get_or (row_bits row) x 0 ≡ row_bit row x
bits_at row x =
    ⊎_elim
    (λ (inside : x < 8 * length row). row_bits_at row x inside)
    (λ (past : 8 * length row ≤ x).
    let long : length (row_bits row) ≤ x = rw (length_row_bits row) past in
    get_or_past (row_bits row) x 0 long ∙ sym (row_bit_past row x past))
    (cases_lt x (8 * length row))

-- a choice of equal values
pub chosen_same : (t : Bool) (v a b c d : ℕ) → v ≡ (if t then a else b) → a ≡ c → b ≡ d → v ≡ (if t then c else d)
chosen_same true v a b c d is p q = is ∙ p
chosen_same false v a b c d is p q = is ∙ q

-- what holds of each bit of a row holds of the list of its bits
pub with_named_from_bits : (row was : List ℕ) (from count : ℕ) (new at_place : ℕ → ℕ) → length row ≡ length was → ((x : ℕ) → row_bit row x ≡ (if is_named from count x then at_place x else row_bit was x)) → ((x : ℕ) → at_place x ≡ new x) → row_bits row ≡ with_named (row_bits was) from count new
unfolding with_named
with_named_from_bits row was from count new at_place same each places =
    let long : length (row_bits row) ≡ length (row_bits was) = length_row_bits row ∙ (ap (λ n. 8 * n) same ∙ sym (length_row_bits was)) in
    ext_get_or 0 (row_bits row) (map (λ x. if is_named from count x then new x else get_or (row_bits was) x 0) (range_with_len 0 (length (row_bits was))))
    (long ∙ sym (length-map-range_with_len (λ x. if is_named from count x then new x else get_or (row_bits was) x 0) 0 (length (row_bits was))))
    (λ x inside.
    let low : x < length (row_bits was) = omega (arith, long, inside) in
    chosen_same (is_named from count x) (get_or (row_bits row) x 0) (at_place x) (row_bit was x) (new x) (get_or (row_bits was) x 0)
    (bits_at row x ∙ each x) (places x) (sym (bits_at was x)) ∙
    sym (get_or-map-range_with_len (λ i. if is_named from count i then new i else get_or (row_bits was) i 0) 0 (length (row_bits was)) x x 0 low (zero-add x)))

-- a bit that is between two
pub between_yes : (from end x : ℕ) → from ≤ x → x < end → is_between from end x ≡ true
between_yes from end x p q = grind (arith, nat_tests)

-- a bit before the first of two
pub between_before : (from end x : ℕ) → x < from → is_between from end x ≡ false
between_before from end x p = grind (arith, nat_tests)

-- a bit that is not before the last of two
pub between_after : (from end x : ℕ) → end ≤ x → is_between from end x ≡ false
between_after from end x p = grind (arith, nat_tests)

-- a choice, from both of its cases
pub chosen : (t : Bool) (v a b : ℕ) → (t ≡ true → v ≡ a) → (t ≡ false → v ≡ b) → v ≡ (if t then a else b)
chosen true v a b then_is else_is = then_is refl
chosen false v a b then_is else_is = else_is refl

-- a bit that was to change
pub done_inside : (row : List ℕ) (new old : ℕ → ℕ) (from end x : ℕ) → Done row new old from end → from ≤ x → x < end → row_bit row x ≡ new x
done_inside row new old from end x done p q = if_true (is_between from end x) (row_bit row x) (new x) (old x) (done x) (between_yes from end x p q)

-- a bit before those that were to change
pub done_before : (row : List ℕ) (new old : ℕ → ℕ) (from end x : ℕ) → Done row new old from end → x < from → row_bit row x ≡ old x
done_before row new old from end x done p = if_false (is_between from end x) (row_bit row x) (new x) (old x) (done x) (between_before from end x p)

-- a bit after those that were to change
pub done_after : (row : List ℕ) (new old : ℕ → ℕ) (from end x : ℕ) → Done row new old from end → end ≤ x → row_bit row x ≡ old x
done_after row new old from end x done p = if_false (is_between from end x) (row_bit row x) (new x) (old x) (done x) (between_after from end x p)

-- each bit by its place
pub done_each : (row : List ℕ) (new old : ℕ → ℕ) (from end : ℕ) → ((x : ℕ) → from ≤ x → x < end → row_bit row x ≡ new x) → ((x : ℕ) → x < from → row_bit row x ≡ old x) → ((x : ℕ) → end ≤ x → row_bit row x ≡ old x) → Done row new old from end
done_each row new old from end inside before after = λ x.
    ⊎_elim
    (λ (low : x < from). chosen (is_between from end x) (row_bit row x) (new x) (old x) (λ is. absurd (cc (is, between_before from end x low))) (λ _. before x low))
    (λ (late : from ≤ x).
    ⊎_elim
    (λ (within : x < end). chosen (is_between from end x) (row_bit row x) (new x) (old x) (λ _. inside x late within) (λ is. absurd (cc (is, between_yes from end x late within))))
    (λ (past : end ≤ x). chosen (is_between from end x) (row_bit row x) (new x) (old x) (λ is. absurd (cc (is, between_after from end x past))) (λ _. after x past))
    (cases_lt x end))
    (cases_lt x from)

-- other new bits of the same values
pub done_same : (row : List ℕ) (first new old : ℕ → ℕ) (from end : ℕ) → Done row first old from end → ((x : ℕ) → from ≤ x → x < end → first x ≡ new x) → Done row new old from end
done_same row first new old from end done same =
    done_each row new old from end
    (λ x p q. done_inside row first old from end x done p q ∙ same x p q)
    (λ x p. done_before row first old from end x done p)
    (λ x p. done_after row first old from end x done p)

-- ranges that adjoin or overlap, the left one first
pub join_over : (one two : List ℕ) (new first second old : ℕ → ℕ) (from mid stop end : ℕ) → from ≤ mid → mid ≤ stop → stop ≤ end → Done one first old from stop → Done two second (λ x. row_bit one x) mid end → ((x : ℕ) → from ≤ x → x < mid → first x ≡ new x) → ((x : ℕ) → mid ≤ x → x < end → second x ≡ new x) → Done two new old from end
join_over one two new first second old from mid stop end p q r a b left right =
    let was : ℕ → ℕ = λ x. row_bit one x in
    done_each two new old from end
    (λ x late low.
    ⊎_elim
    (λ (here : x < mid). let within : x < stop = omega arith in done_before two second was mid end x b here ∙ (done_inside one first old from stop x a late within ∙ left x late here))
    (λ (there : mid ≤ x). done_inside two second was mid end x b there low ∙ right x there low)
    (cases_lt x mid))
    (λ x low. let under : x < mid = omega arith in done_before two second was mid end x b under ∙ done_before one first old from stop x a low)
    (λ x late. let over : stop ≤ x = omega arith in done_after two second was mid end x b late ∙ done_after one first old from stop x a over)

-- adjoining ranges, the left one first
pub join_right : (one two : List ℕ) (new first second old : ℕ → ℕ) (from mid end : ℕ) → from ≤ mid → mid ≤ end → Done one first old from mid → Done two second (λ x. row_bit one x) mid end → ((x : ℕ) → from ≤ x → x < mid → first x ≡ new x) → ((x : ℕ) → mid ≤ x → x < end → second x ≡ new x) → Done two new old from end
join_right one two new first second old from mid end p q a b left right =
    let same : mid ≤ mid = omega arith in
    join_over one two new first second old from mid mid end p same q a b left right

-- adjoining ranges, the right one first
pub join_left : (one two : List ℕ) (new first second old : ℕ → ℕ) (from mid end : ℕ) → from ≤ mid → mid ≤ end → Done one first old mid end → Done two second (λ x. row_bit one x) from mid → ((x : ℕ) → mid ≤ x → x < end → first x ≡ new x) → ((x : ℕ) → from ≤ x → x < mid → second x ≡ new x) → Done two new old from end
join_left one two new first second old from mid end p q a b right left =
    let was : ℕ → ℕ = λ x. row_bit one x in
    done_each two new old from end
    (λ x late low.
    ⊎_elim
    (λ (here : x < mid). done_inside two second was from mid x b late here ∙ left x late here)
    (λ (there : mid ≤ x). done_after two second was from mid x b there ∙ (done_inside one first old mid end x a there low ∙ right x there low))
    (cases_lt x mid))
    (λ x low. let under : x < mid = omega arith in done_before two second was from mid x b low ∙ done_before one first old mid end x a under)
    (λ x late. let over : mid ≤ x = omega arith in done_after two second was from mid x b over ∙ done_after one first old mid end x a late)

-- a range with another name for its first bit
pub done_starts : (row : List ℕ) (new old : ℕ → ℕ) (from to end : ℕ) → from ≡ to → Done row new old from end → Done row new old to end
done_starts row new old from to end same done = λ x. done x ∙ ap (λ n. if is_between n end x then new x else old x) same

-- a range with another name for its end
pub done_ends : (row : List ℕ) (new old : ℕ → ℕ) (from end stop : ℕ) → end ≡ stop → Done row new old from end → Done row new old from stop
done_ends row new old from end stop same done = λ x. done x ∙ ap (λ n. if is_between from n x then new x else old x) same

-- no range, no change
pub done_none : (row : List ℕ) (new : ℕ → ℕ) (from end : ℕ) → end ≤ from → Done row new (λ x. row_bit row x) from end
done_none row new from end empty =
    done_each row new (λ x. row_bit row x) from end (λ x p q. absurd (omega arith)) (λ x _. refl) (λ x _. refl)

-- a byte that is written whole
pub whole_byte : (first last index j v new old : ℕ) → first ≤ index → index < last → j < 8 → v ≡ new → v ≡ (if is_between (8 * first) (8 * last) (8 * index + j) then new else old)
whole_byte first last index j v new old p q low is =
    let begins : 8 * first ≤ 8 * index + j = omega arith in
    let ends : 8 * index + j < 8 * last = omega arith in
    chosen (is_between (8 * first) (8 * last) (8 * index + j)) v new old (λ _. is) (λ none. absurd (cc (none, between_yes (8 * first) (8 * last) (8 * index + j) begins ends)))

-- bits that were made in a block, and then put into a row
pub done_put : (row block : List ℕ) (new made none old : ℕ → ℕ) (from size end : ℕ) → Done block made none 0 size → Done row (λ x. row_bit block (x - from)) old from end → end ≤ from + size → ((x : ℕ) → from ≤ x → x < end → made (x - from) ≡ new x) → Done row new old from end
done_put row block new made none old from size end a b fits same =
    done_same row (λ x. row_bit block (x - from)) new old from end b
    (λ x p q. let low : x - from < size = omega arith in let least : 0 ≤ x - from = omega arith in done_inside block made none 0 size (x - from) a least low ∙ same x p q)
