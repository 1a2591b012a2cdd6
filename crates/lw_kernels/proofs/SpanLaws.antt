-- Parts of a span that are written one after another, and rows that are done one after another.
use Rattle.std.proofs.Common.{◌≡◌, ℕ, ◌+◌, ◌-◌, ◌*◌, ◌/◌, ◌%◌, ◌<◌, ◌≤◌, ◌==◌, ◌&&◌, nat_le, nat_lt, if◌then◌else◌, Bool, true, false, List, length, get_or, set, ap, subst, sym, refl, ◌∙◌, ⊎_elim, arith}
use Rattle.std.specs.Int.{bit_at, w8}
use Rattle.std.proofs.lemmas.Bool.{cases_lt, cases_eq, eq-eqb, ne_eqb, lt-ltb, le-ltb, le-leb, and_from, and_left, and_right, and_parts}
use Rattle.std.proofs.lemmas.Bool.Decides.{nat_tests}
use Rattle.std.proofs.lemmas.Nat.{mul-le}
use Rattle.std.proofs.lemmas.Nat.Bits.{bit_at_not}
use Rattle.lw_planes.specs.Row.{bit_of, row_bit, row_bits}
use Rattle.lw_planes.specs.Minterm.{minterm_bit}
use Rattle.lw_kernels.specs.Kernel.{blit_bit, is_between, place_in, with_named}
use Rattle.lw_kernels.specs.Spans.{IsSpan}
use Rattle.lw_kernels.specs.declared.spans.Span.{Span}
use Rattle.lw_kernels.proofs.RowWriting.{Done, set_here, set_elsewhere, byte_old, if_true, if_false, chosen, between_yes, between_before, between_after, done_each, done_same, done_inside, done_before, done_after, done_starts, done_ends, minterm_same, done_none, with_named_from_bits}

-- a bit of a byte, seen in the row
pub bit_here : (row : List ℕ) (index x : ℕ) → x / 8 ≡ index → bit_at (get_or row index 0) (7 - x % 8) ≡ row_bit row x
bit_here row index x here =
    let place : 8 * index + x % 8 ≡ x = omega (arith, here) in
    byte_old row index (get_or row index 0) (x % 8) (omega arith) refl ∙ ap (row_bit row) place

-- the bits of a row of which one byte was written under a mask
pub masked_bit : (row : List ℕ) (index mask value byte p : ℕ) → index < length row → ((i : ℕ) → i < 8 → bit_at byte i ≡ (if bit_at mask i == 1 then bit_at value i else bit_at (get_or row index 0) i)) → row_bit (set row index byte) p ≡ (if p / 8 == index && bit_at mask (7 - p % 8) == 1 then bit_at value (7 - p % 8) else row_bit row p)
masked_bit row index mask value byte p inside picks =
    let i : ℕ = 7 - p % 8 in
    let named : Bool = bit_at mask i == 1 in
    ⊎_elim
    (λ (here : p / 8 ≡ index).
    let low : i < 8 = omega arith in
    let first : (p / 8 == index) ≡ true = eq-eqb (p / 8) index here in
    let bit : row_bit (set row index byte) p ≡ (if named then bit_at value i else bit_at (get_or row index 0) i) = set_here row index byte p inside here ∙ picks i low in
    let was : bit_at (get_or row index 0) i ≡ row_bit row p = bit_here row index p here in
    chosen ((p / 8 == index) && named) (row_bit (set row index byte) p) (bit_at value i) (row_bit row p)
    (λ t. if_true named _ _ _ bit (and_parts (p / 8 == index) named t).1)
    (λ t. if_false named _ _ _ bit (second_not (p / 8 == index) named first t) ∙ was))
    (λ (apart : p / 8 ≡ index → ⊥).
    let none : ((p / 8 == index) && named) ≡ false = and_left (p / 8 == index) named (ne_eqb (p / 8) index apart) in
    chosen ((p / 8 == index) && named) (row_bit (set row index byte) p) (bit_at value i) (row_bit row p)
    (λ t. absurd (cc (t, none)))
    (λ _. set_elsewhere row index byte p apart))
    (cases_eq (p / 8) index)
  where
    second_not : (a b : Bool) → a ≡ true → (a && b) ≡ false → b ≡ false
    second_not true b _ t = t
    second_not false b a _ = cc

-- a byte that was written under the mask of some bits in it
pub masked_done : (one two : List ℕ) (value new : ℕ → ℕ) (mask at byte from end : ℕ) → 8 * byte ≤ from → end ≤ 8 * byte + 8 → ((j : ℕ) → j < 8 → bit_at mask (7 - j) ≡ bit_of (is_between from end (8 * byte + j))) → ((p : ℕ) → row_bit two p ≡ (if p / 8 == at + byte && bit_at mask (7 - p % 8) == 1 then value p else row_bit one p)) → ((p : ℕ) → p / 8 ≡ at + byte → 8 * at + from ≤ p → p < 8 * at + end → value p ≡ new p) → Done two new (λ x. row_bit one x) (8 * at + from) (8 * at + end)
masked_done one two value new mask at byte from end begins ends named written is =
    let bit : (p : ℕ) → p / 8 ≡ at + byte → bit_at mask (7 - p % 8) ≡ bit_of (is_between (8 * at + from) (8 * at + end) p) =
    λ p here.
    let low : p % 8 < 8 = omega arith in
    let place : p ≡ 8 * at + (8 * byte + p % 8) = omega (arith, here) in
    named (p % 8) low ∙ moved from end at (8 * byte + p % 8) p place
    in
    let other : (p : ℕ) → is_between (8 * at + from) (8 * at + end) p ≡ false → row_bit two p ≡ row_bit one p =
    λ p outside.
    if_false (p / 8 == at + byte && bit_at mask (7 - p % 8) == 1) (row_bit two p) (value p) (row_bit one p) (written p)
    (⊎_elim
    (λ (here : p / 8 ≡ at + byte). and_right (p / 8 == at + byte) (bit_at mask (7 - p % 8) == 1) (ap (λ n. n == 1) (bit p here ∙ ap bit_of outside)))
    (λ (apart : p / 8 ≡ at + byte → ⊥). and_left (p / 8 == at + byte) (bit_at mask (7 - p % 8) == 1) (ne_eqb (p / 8) (at + byte) apart))
    (cases_eq (p / 8) (at + byte)))
    in
    done_each two new (λ x. row_bit one x) (8 * at + from) (8 * at + end)
    (λ p late low.
    let here : p / 8 ≡ at + byte = omega arith in
    if_true (p / 8 == at + byte && bit_at mask (7 - p % 8) == 1) (row_bit two p) (value p) (row_bit one p) (written p)
    (and_from (p / 8 == at + byte) (bit_at mask (7 - p % 8) == 1) (eq-eqb (p / 8) (at + byte) here) (ap (λ n. n == 1) (bit p here ∙ ap bit_of (between_yes (8 * at + from) (8 * at + end) p late low)))) ∙
    is p here late low)
    (λ p early. other p (between_before (8 * at + from) (8 * at + end) p early))
    (λ p late. other p (between_after (8 * at + from) (8 * at + end) p late))
  where
    moved : (from end at x p : ℕ) → p ≡ 8 * at + x → bit_of (is_between from end x) ≡ bit_of (is_between (8 * at + from) (8 * at + end) p)
    moved from end at x p place =
        ⊎_elim
        (λ (early : x < from). ap bit_of (between_before from end x early ∙ sym (between_before (8 * at + from) (8 * at + end) p (omega arith))))
        (λ (late : from ≤ x).
        ⊎_elim
        (λ (low : x < end). ap bit_of (between_yes from end x late low ∙ sym (between_yes (8 * at + from) (8 * at + end) p (omega arith) (omega arith))))
        (λ (past : end ≤ x). ap bit_of (between_after from end x past ∙ sym (between_after (8 * at + from) (8 * at + end) p (omega arith))))
        (cases_lt x end))
        (cases_lt x from)

-- the same of a byte of the first row
pub byte_done : (one two : List ℕ) (value new : ℕ → ℕ) (mask byte from end : ℕ) → 8 * byte ≤ from → end ≤ 8 * byte + 8
    → ((j : ℕ) → j < 8 → bit_at mask (7 - j) ≡ bit_of (is_between from end (8 * byte + j)))
    → ((p : ℕ) → row_bit two p ≡ (if p / 8 == byte && bit_at mask (7 - p % 8) == 1 then value p else row_bit one p))
    → ((p : ℕ) → p / 8 ≡ byte → value p ≡ new p) → Done two new (λ x. row_bit one x) from end
byte_done one two value new mask byte from end begins ends named written is =
    let none : (n : ℕ) → 0 + n ≡ n = λ n. omega arith in
    subst (λ n. Done two new (λ x. row_bit one x) n end) (none from)
    (subst (λ n. Done two new (λ x. row_bit one x) (0 + from) n) (none end)
    (masked_done one two value new mask 0 byte from end begins ends named
    (subst (λ n. (p : ℕ) → row_bit two p ≡ (if p / 8 == n && bit_at mask (7 - p % 8) == 1 then value p else row_bit one p)) (sym (none byte)) written)
    (λ p here _ _. is p (here ∙ none byte))))

-- an inverted byte has the inverted bits of the row
pub inverted_bit : (row : List ℕ) (index x : ℕ) → get_or row index 0 < 256 → x / 8 ≡ index → bit_at (255 - get_or row index 0) (7 - x % 8) ≡ 1 - row_bit row x
inverted_bit row index x small here =
    bit_at_not w8 (get_or row index 0) (7 - x % 8) small (omega arith) ∙ ap (λ n. 1 - n) (bit_here row index x here)

-- the whole bytes of a span are its bits between those of the first byte and those of the last
pub middle_done : (s : Span) (at : ℕ) (row : List ℕ) (first new old : ℕ → ℕ) → IsSpan s → Done row first old (8 * (at + s.next)) (8 * (at + s.last)) → (s.next ≡ s.first + 1 → s.cut ≡ 8 * s.next → (x : ℕ) → 8 * at + s.cut ≤ x → x < 8 * at + s.rest → first x ≡ new x) → Done row new old (8 * at + s.cut) (8 * at + s.rest)
middle_done s at row first new old is done same =
    ⊎_elim
    (λ (several : s.first < s.last).
    let next : s.next ≡ s.first + 1 = omega (arith, is.next) in
    let cut : s.cut ≡ 8 * s.next = omega (arith, is.next, is.first, is.last, is.cut) in
    let rest : s.rest ≡ 8 * s.last = omega (arith, is.first, is.last, is.cut, is.rest) in
    let begins : 8 * (at + s.next) ≡ 8 * at + s.cut = omega arith in
    let ends : 8 * (at + s.last) ≡ 8 * at + s.rest = omega arith in
    done_same row first new old (8 * at + s.cut) (8 * at + s.rest)
    (done_starts row first old (8 * (at + s.next)) (8 * at + s.cut) (8 * at + s.rest) begins (done_ends row first old (8 * (at + s.next)) (8 * (at + s.last)) (8 * at + s.rest) ends done))
    (same next cut))
    (λ (single : s.last ≤ s.first).
    let empty : s.rest ≤ s.cut = omega (arith, is.first, is.last, is.cut, is.rest) in
    let none : s.last ≤ s.next = omega (arith, is.next) in
    let still : (x : ℕ) → row_bit row x ≡ old x =
    λ x.
    ⊎_elim
    (λ (early : x < 8 * (at + s.next)). done_before row first old (8 * (at + s.next)) (8 * (at + s.last)) x done early)
    (λ (late : 8 * (at + s.next) ≤ x). done_after row first old (8 * (at + s.next)) (8 * (at + s.last)) x done (omega arith))
    (cases_lt x (8 * (at + s.next)))
    in
    done_each row new old (8 * at + s.cut) (8 * at + s.rest) (λ x p q. absurd (omega arith)) (λ x _. still x) (λ x _. still x))
    (cases_lt s.first s.last)

-- the parts of a span stand in order
pub record Parts (s : Span) : Type 0 where
  pub begins : 8 * s.first ≤ s.from
  pub head : s.from < s.cut
  pub cut : s.cut ≤ 8 * s.first + 8
  pub middle : s.cut ≤ s.rest
  pub next : s.next ≤ s.last
  pub last : 8 * s.last < s.end
  pub rest : 8 * s.last ≤ s.rest
  pub tail : s.rest ≤ s.end
  pub ends : s.end ≤ 8 * s.last + 8

pub parts : (s : Span) → IsSpan s → Parts s
parts s is = record {
  begins = omega (arith, is.first);
  head = omega (arith, is.first, is.cut, is.some);
  cut = omega (arith, is.cut);
  middle = omega (arith, is.rest);
  next = omega (arith, is.next);
  last = omega (arith, is.last, is.some);
  rest = omega (arith, is.rest);
  tail = omega (arith, is.rest, is.cut, is.last, is.some);
  ends = omega (arith, is.last, is.some);
}

-- the rows of which the test holds have their new bits from `from` on, before `end`, and all other bits are old
abbrev pub RowsDone : ℕ → ℕ → ℕ → List ℕ → (ℕ → Bool) → (ℕ → ℕ → ℕ) → (ℕ → ℕ) → Type 0
RowsDone step from end bytes test new old = (y x : ℕ) → x < 8 * step → row_bit bytes (place_in step y x) ≡ (if test y && is_between from end x then new y x else old (place_in step y x))

-- the bits of another row stand before or after those of a row
other_row : (step from end k y x : ℕ) → end ≤ 8 * step → x < 8 * step → (y ≡ k → ⊥) → is_between (8 * (k * step) + from) (8 * (k * step) + end) (place_in step y x) ≡ false
other_row step from end k y x fits low apart =
    ⊎_elim
    (λ (before : y < k).
    let same : step ≤ step = omega arith in
    let more : (y + 1) * step ≤ k * step = mul-le (y + 1) step k step (omega arith) same in
    let next : (y + 1) * step ≡ y * step + step = omega arith in
    between_before (8 * (k * step) + from) (8 * (k * step) + end) (place_in step y x) (omega (arith, more, next, low)))
    (λ (after : k ≤ y).
    let same : step ≤ step = omega arith in
    let more : (k + 1) * step ≤ y * step = mul-le (k + 1) step y step (late apart after) same in
    let next : (k + 1) * step ≡ k * step + step = omega arith in
    between_after (8 * (k * step) + from) (8 * (k * step) + end) (place_in step y x) (omega (arith, more, next, fits)))
    (cases_lt y k)
  where
    late : {y k : ℕ} → (y ≡ k → ⊥) → k ≤ y → k + 1 ≤ y
    late {y} {k} apart after = ⊎_elim (λ (less : k < y). omega arith) (λ (more : y ≤ k). absurd (apart (omega arith))) (cases_lt k y)

-- a bit of a row that isn't done yet
pub row_old : (step from end : ℕ) (bytes : List ℕ) (test : ℕ → Bool) (new : ℕ → ℕ → ℕ) (old : ℕ → ℕ) (k x : ℕ) → RowsDone step from end bytes test new old → x < 8 * step → test k ≡ false → row_bit bytes (place_in step k x) ≡ old (place_in step k x)
row_old step from end bytes test new old k x done low fresh =
    if_false (test k && is_between from end x) (row_bit bytes (place_in step k x)) (new k x) (old (place_in step k x)) (done k x low) (and_left (test k) (is_between from end x) fresh)

-- one more row is done
pub row_done : (step from end : ℕ) (one two : List ℕ) (test next : ℕ → Bool) (new : ℕ → ℕ → ℕ) (line old : ℕ → ℕ) (k : ℕ) → end ≤ 8 * step → RowsDone step from end one test new old → Done two line (λ p. row_bit one p) (8 * (k * step) + from) (8 * (k * step) + end) → ((x : ℕ) → from ≤ x → x < end → line (place_in step k x) ≡ new k x) → test k ≡ false → next k ≡ true → ((y : ℕ) → (y ≡ k → ⊥) → test y ≡ next y) → RowsDone step from end two next new old
row_done step from end one two test next new line old k fits done here is fresh done_now others = λ y x low.
    ⊎_elim
    (λ (same : y ≡ k).
    let at : place_in step y x ≡ place_in step k x = ap (λ n. place_in step n x) same in
    let named : next y ≡ true = ap next same ∙ done_now in
    let start : ℕ = 8 * (k * step) in
    chosen (next y && is_between from end x) (row_bit two (place_in step y x)) (new y x) (old (place_in step y x))
    (λ t.
    let late : from ≤ x = inside_from (next y) from end x t in
    let early : x < end = inside_end (next y) from end x t in
    ap (row_bit two) at ∙ (done_inside two line (λ p. row_bit one p) (start + from) (start + end) (start + x) here (omega arith) (omega arith) ∙ (is x late early ∙ ap (λ n. new n x) (sym same))))
    (λ t.
    let outside : is_between (start + from) (start + end) (start + x) ≡ false = outside_row (next y) start from end x named t in
    ap (row_bit two) at ∙ (if_false (is_between (start + from) (start + end) (start + x)) (row_bit two (start + x)) (line (start + x)) (row_bit one (start + x)) (here (start + x)) outside ∙ (row_old step from end one test new old k x done low fresh ∙ ap old (sym at)))))
    (λ (apart : y ≡ k → ⊥).
    let outside : is_between (8 * (k * step) + from) (8 * (k * step) + end) (place_in step y x) ≡ false = other_row step from end k y x fits low apart in
    if_false (is_between (8 * (k * step) + from) (8 * (k * step) + end) (place_in step y x)) (row_bit two (place_in step y x)) (line (place_in step y x)) (row_bit one (place_in step y x)) (here (place_in step y x)) outside ∙
    (done y x low ∙ ap (λ t. if t && is_between from end x then new y x else old (place_in step y x)) (others y apart)))
    (cases_eq y k)
  where
    inside_from : (t : Bool) (from end x : ℕ) → (t && is_between from end x) ≡ true → from ≤ x
    inside_from t from end x h = grind (arith, nat_tests)

    inside_end : (t : Bool) (from end x : ℕ) → (t && is_between from end x) ≡ true → x < end
    inside_end t from end x h = grind (arith, nat_tests)

    outside_row : (t : Bool) (start from end x : ℕ) → t ≡ true → (t && is_between from end x) ≡ false → is_between (start + from) (start + end) (start + x) ≡ false
    outside_row t start from end x holds h =
        ⊎_elim
        (λ (early : x < from). between_before (start + from) (start + end) (start + x) (omega arith))
        (λ (late : from ≤ x).
        ⊎_elim
        (λ (low : x < end). absurd (cc (and_from t (is_between from end x) holds (between_yes from end x late low), h)))
        (λ (past : end ≤ x). between_after (start + from) (start + end) (start + x) (omega arith))
        (cases_lt x end))
        (cases_lt x from)

-- before the first row nothing is done
pub rows_none : (step from end : ℕ) (bytes : List ℕ) (test : ℕ → Bool) (new : ℕ → ℕ → ℕ) → ((y : ℕ) → test y ≡ false) → RowsDone step from end bytes test new (λ p. row_bit bytes p)
rows_none step from end bytes test new none = λ y x _.
    chosen (test y && is_between from end x) (row_bit bytes (place_in step y x)) (new y x) (row_bit bytes (place_in step y x))
    (λ t. absurd (cc (t, and_left (test y) (is_between from end x) (none y))))
    (λ _. refl)

-- the same rows are done, told otherwise
pub rows_same : (step from end : ℕ) (bytes : List ℕ) (test next : ℕ → Bool) (new : ℕ → ℕ → ℕ) (old : ℕ → ℕ) → ((y : ℕ) → test y ≡ next y) → RowsDone step from end bytes test new old → RowsDone step from end bytes next new old
rows_same step from end bytes test next new old same done = λ y x low. done y x low ∙ ap (λ t. if t && is_between from end x then new y x else old (place_in step y x)) (same y)

-- the bits from `from` on, before `end`, of the rows that pass the test are blitted, each with a source that stands as far from its row's first
abbrev pub RowsBlitted : List ℕ → ℕ → (ℕ → Bool) → ℕ → (ℕ → ℕ → ℕ) → (ℕ → ℕ) → ℕ → ℕ → Type 0
RowsBlitted row step test minterm source old from end = (y x : ℕ) → x < 8 * step → row_bit row (place_in step y x) ≡ (if test y && is_between from end x then minterm_bit minterm (source y (x - from)) (old (place_in step y x)) else old (place_in step y x))

-- the same bits, named by the first of them and their count
pub rows_named : (row : List ℕ) (step : ℕ) (test : ℕ → Bool) (minterm : ℕ) (source : ℕ → ℕ → ℕ) (old : ℕ → ℕ) (from end bit count : ℕ) → from ≡ bit → end ≡ bit + count → RowsBlitted row step test minterm source old from end → RowsBlitted row step test minterm source old bit (bit + count)
rows_named row step test minterm source old from end bit count first last blitted =
    subst (λ f. RowsBlitted row step test minterm source old f (bit + count)) first (subst (λ e. RowsBlitted row step test minterm source old from e) last blitted)

-- a row with the number k isn't before the row k
not_before : (k : ℕ) → nat_lt k k ≡ false
not_before k = grind (arith, nat_tests)

-- a row with the number k is before the next one
before_next : (k : ℕ) → nat_lt k (k + 1) ≡ true
before_next k = grind (arith, nat_tests)

-- any other row is before both or neither
before_both : (y k : ℕ) → (y ≡ k → ⊥) → nat_lt y k ≡ nat_lt y (k + 1)
before_both y k apart =
    ⊎_elim
    (λ (low : y < k). lt-ltb y k low ∙ sym (lt-ltb y (k + 1) (omega arith)))
    (λ (late : k ≤ y).
    ⊎_elim
    (λ (here : y < k + 1). absurd (apart (omega arith)))
    (λ (past : k + 1 ≤ y). le-ltb y k late ∙ sym (le-ltb y (k + 1) past))
    (cases_lt y (k + 1)))
    (cases_lt y k)

-- one more row from the first on is done
pub row_next : (step from end : ℕ) (one two : List ℕ) (new : ℕ → ℕ → ℕ) (line old : ℕ → ℕ) (k : ℕ) → end ≤ 8 * step → RowsDone step from end one (λ y. nat_lt y k) new old → Done two line (λ p. row_bit one p) (8 * (k * step) + from) (8 * (k * step) + end) → ((x : ℕ) → from ≤ x → x < end → row_bit one (place_in step k x) ≡ old (place_in step k x) → line (place_in step k x) ≡ new k x) → RowsDone step from end two (λ y. nat_lt y (k + 1)) new old
row_next step from end one two new line old k fits done here is =
    row_done step from end one two (λ y. nat_lt y k) (λ y. nat_lt y (k + 1)) new line old k fits done here
    (λ x p q. is x p q (row_old step from end one (λ y. nat_lt y k) new old k x done (omega arith) (not_before k)))
    (not_before k) (before_next k) (λ y apart. before_both y k apart)

-- the first byte of a span, blitted
pub head_done : (s : Span) (at : ℕ) (one two source : List ℕ) (minterm bits start place : ℕ) → IsSpan s → ((j : ℕ) → s.from % 8 ≤ j → j < 8 → place + (j - s.from % 8) < place + (s.end - s.from) → bit_at bits (7 - j) ≡ row_bit source (8 * start + place + (j - s.from % 8))) → ((p : ℕ) → row_bit two p ≡ (if p / 8 == at + s.first && bit_at s.head (7 - p % 8) == 1 then minterm_bit minterm (bit_at bits (7 - p % 8)) (row_bit one p) else row_bit one p)) → Done two (blit_bit minterm (row_bit source) (8 * start + place) (row_bit one) (8 * at + s.from)) (λ x. row_bit one x) (8 * at + s.from) (8 * at + s.cut)
head_done s at one two source minterm bits start place is sources written =
    let p = parts s is in
    masked_done one two (λ x. minterm_bit minterm (bit_at bits (7 - x % 8)) (row_bit one x)) (blit_bit minterm (row_bit source) (8 * start + place) (row_bit one) (8 * at + s.from)) s.head at s.first s.from s.cut p.begins p.cut is.head written
    (λ x here late low.
    let j : ℕ = x % 8 in
    let begins : s.from % 8 ≤ j = omega (arith, here, late, is.first) in
    let inside : place + (j - s.from % 8) < place + (s.end - s.from) = omega (arith, here, late, low, is.first, is.cut) in
    let same : 8 * start + place + (j - s.from % 8) ≡ 8 * start + place + (x - (8 * at + s.from)) = omega (arith, here, late, is.first) in
    minterm_same minterm _ _ _ _ (sources j begins (omega arith) inside ∙ ap (row_bit source) same) refl)

-- its last byte
pub tail_done : (s : Span) (at : ℕ) (one two source : List ℕ) (minterm bits start place : ℕ) → IsSpan s → ((j : ℕ) → s.rest % 8 ≤ j → j < 8 → place + (s.rest - s.from) + (j - s.rest % 8) < place + (s.end - s.from) → bit_at bits (7 - j) ≡ row_bit source (8 * start + (place + (s.rest - s.from)) + (j - s.rest % 8))) → ((p : ℕ) → row_bit two p ≡ (if p / 8 == at + s.last && bit_at s.tail (7 - p % 8) == 1 then minterm_bit minterm (bit_at bits (7 - p % 8)) (row_bit one p) else row_bit one p)) → Done two (blit_bit minterm (row_bit source) (8 * start + place) (row_bit one) (8 * at + s.from)) (λ x. row_bit one x) (8 * at + s.rest) (8 * at + s.end)
tail_done s at one two source minterm bits start place is sources written =
    let p = parts s is in
    masked_done one two (λ x. minterm_bit minterm (bit_at bits (7 - x % 8)) (row_bit one x)) (blit_bit minterm (row_bit source) (8 * start + place) (row_bit one) (8 * at + s.from)) s.tail at s.last s.rest s.end p.rest p.ends is.tail written
    (λ x here late low.
    let j : ℕ = x % 8 in
    let whole : s.rest ≡ 8 * s.last = omega (arith, late, low, is.first, is.last, is.cut, is.rest) in
    let none : s.rest % 8 ≡ 0 = omega (arith, whole) in
    let begins : s.rest % 8 ≤ j = omega (arith, none) in
    let order : s.from ≤ s.rest = omega (arith, p.head, p.middle) in
    let inside : place + (s.rest - s.from) + (j - s.rest % 8) < place + (s.end - s.from) = omega (arith, here, low, whole, none, order) in
    let same : 8 * start + (place + (s.rest - s.from)) + (j - s.rest % 8) ≡ 8 * start + place + (x - (8 * at + s.from)) = omega (arith, here, whole, none, order) in
    minterm_same minterm _ _ _ _ (sources j begins (omega arith) inside ∙ ap (row_bit source) same) refl)

-- its whole bytes between them
pub middle_blit : (s : Span) (at : ℕ) (one two source : List ℕ) (minterm start place shift : ℕ) (is_whole : Bool) → IsSpan s → (is_whole ≡ true → place % 8 ≡ s.from % 8) → ((is_whole ≡ true → (place + (s.cut - s.from)) % 8 ≡ 0) → shift ≡ (place + (s.cut - s.from)) % 8) → Done two (blit_bit minterm (row_bit source) (8 * (start + (place + (s.cut - s.from)) / 8) + shift) (row_bit one) (8 * (at + s.next))) (λ x. row_bit one x) (8 * (at + s.next)) (8 * (at + s.last)) → Done two (blit_bit minterm (row_bit source) (8 * start + place) (row_bit one) (8 * at + s.from)) (λ x. row_bit one x) (8 * at + s.cut) (8 * at + s.rest)
middle_blit s at one two source minterm start place shift is_whole is aligned is_shift done =
    let p = parts s is in
    let middle : ℕ = place + (s.cut - s.from) in
    middle_done s at two (blit_bit minterm (row_bit source) (8 * (start + middle / 8) + shift) (row_bit one) (8 * (at + s.next))) (blit_bit minterm (row_bit source) (8 * start + place) (row_bit one) (8 * at + s.from)) (λ x. row_bit one x) is done
    (λ next cut x late low.
    let shifted : shift ≡ middle % 8 = is_shift (λ t. let same : place % 8 ≡ s.from % 8 = aligned t in omega (arith, same, cut, p.head)) in
    let from : 8 * (start + middle / 8) + shift ≡ 8 * start + middle = omega (arith, shifted) in
    let same : 8 * (start + middle / 8) + shift + (x - 8 * (at + s.next)) ≡ 8 * start + place + (x - (8 * at + s.from)) = omega (arith, from, cut, late, p.head) in
    minterm_same minterm _ _ _ _ (ap (row_bit source) same) refl)

-- no number is between two of which the second isn't greater
pub between_none : (a b y : ℕ) → b ≤ a → is_between a b y ≡ false
between_none a b y empty =
    ⊎_elim (λ (low : y < a). between_before a b y low) (λ (late : a ≤ y). between_after a b y (omega arith)) (cases_lt y a)

-- one more number from the first on
pub between_more : (a k y : ℕ) → (y ≡ k → ⊥) → is_between a k y ≡ is_between a (k + 1) y
between_more a k y apart = ap (λ t. nat_le a y && t) (before_both y k apart)

-- one more number in front of the others
pub between_less : (k b y : ℕ) → (y ≡ k → ⊥) → is_between (k + 1) b y ≡ is_between k b y
between_less k b y apart =
    ⊎_elim
    (λ (low : y < k). between_before (k + 1) b y (omega arith) ∙ sym (between_before k b y low))
    (λ (late : k ≤ y).
    ⊎_elim
    (λ (here : y < k + 1). absurd (apart (omega arith)))
    (λ (past : k + 1 ≤ y). ap (λ t. t && nat_lt y b) (le-leb (k + 1) y past ∙ sym (le-leb k y late)))
    (cases_lt y (k + 1)))
    (cases_lt y k)

-- A row that is blitted within the same bytes, once the rows of which the test holds are done: neither it nor the row of
-- its sources is one of them.
pub row_moved : (step from end : ℕ) (bytes : List ℕ) (test : ℕ → Bool) (old : ℕ → ℕ) (minterm to row source_row source_bit : ℕ) → end ≤ 8 * step → source_bit + (end - from) ≤ 8 * step → RowsDone step from end bytes test (λ y x. minterm_bit minterm (old (place_in step (source_row + (y - to)) (source_bit + (x - from)))) (old (place_in step y x))) old → test (source_row + row) ≡ false → test (to + row) ≡ false → (x : ℕ) → from ≤ x → x < end → blit_bit minterm (row_bit bytes) (8 * ((source_row + row) * step) + source_bit) (row_bit bytes) (8 * ((to + row) * step) + from) (place_in step (to + row) x) ≡ minterm_bit minterm (old (place_in step (source_row + (to + row - to)) (source_bit + (x - from)))) (old (place_in step (to + row) x))
row_moved step from end bytes test old minterm to row source_row source_bit fits inside done source fresh = λ x late low.
    let new : ℕ → ℕ → ℕ = λ y x. minterm_bit minterm (old (place_in step (source_row + (y - to)) (source_bit + (x - from)))) (old (place_in step y x)) in
    let at : ℕ = (to + row) * step in
    let start : ℕ = (source_row + row) * step in
    let same : 8 * start + source_bit + (8 * at + x - (8 * at + from)) ≡ 8 * start + (source_bit + (x - from)) = omega arith in
    let number : source_row + row ≡ source_row + (to + row - to) = omega arith in
    minterm_same minterm _ _ _ _
    (ap (row_bit bytes) same ∙ (row_old step from end bytes test new old (source_row + row) (source_bit + (x - from)) done (omega (arith, inside, late, low)) source ∙ ap (λ n. old (place_in step n (source_bit + (x - from)))) number))
    (row_old step from end bytes test new old (to + row) x done (omega (arith, fits, low)) fresh)

-- a span of so many bits
pub named_done : (row : List ℕ) (new old : ℕ → ℕ) (from count first end : ℕ) → first ≡ from → end ≡ from + count → Done row new old first end → Done row new old from (from + count)
named_done row new old from count first end begins ends done = done_starts row new old first from (from + count) begins (done_ends row new old first end (from + count) ends done)

-- a blit of so many bits
pub named_blit : (row source : List ℕ) (old : ℕ → ℕ) (minterm place from count start first end : ℕ) → start ≡ place → first ≡ from → end ≡ from + count → Done row (blit_bit minterm (row_bit source) start old first) old first end → Done row (blit_bit minterm (row_bit source) place old from) old from (from + count)
named_blit row source old minterm place from count start first end places begins ends done =
    named_done row (blit_bit minterm (row_bit source) place old from) old from count first end begins ends
    (done_same row (blit_bit minterm (row_bit source) start old first) (blit_bit minterm (row_bit source) place old from) old first end done
    (λ x _ _. minterm_same minterm _ _ _ _ (ap (λ n. row_bit source (n + (x - first))) places ∙ ap (λ n. row_bit source (place + (x - n))) begins) refl))

-- no bits, no change to the list of them
pub named_none : (row : List ℕ) (from count : ℕ) (new : ℕ → ℕ) → count ≤ 0 → row_bits row ≡ with_named (row_bits row) from count new
named_none row from count new none =
    with_named_from_bits row row from count new new refl (done_none row new from (from + count) (omega arith)) (λ _. refl)
