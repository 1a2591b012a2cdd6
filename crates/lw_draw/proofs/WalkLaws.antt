-- Laws of a line on its way from row to row.
use Rattle.std.proofs.Common.{◌≡◌, ℕ, ◌+◌, ◌-◌, ◌*◌, ◌^◌, ◌<◌, ◌≤◌, min, nat_le, Bool, true, false, if◌then◌else◌, ◌∙◌, sym, ap, subst, arith, ℤ, pos, ◌-ℤ◌, ◌≤ℤ◌, ◌<ℤ◌, int_le, unsigned_abs, FitsSigned, w16}
use Rattle.std.specs.Int.{int_min, int_max}
use Rattle.std.proofs.lemmas.Bool.Decides.{nat_tests}
use Rattle.std.proofs.lemmas.Int.{ints}
use Rattle.std.proofs.Math.Nat.{mul-le-mul}
use Rattle.lw_region.specs.Rectangle.{within}
use Rattle.lw_machine.specs.Shapes.{line_offset}
use Rattle.lw_draw.specs.LineSpans.{has_row}
use Rattle.lw_draw.specs.Quotients.{total_of, gain_of, IsQuotient}
use Rattle.lw_draw.specs.declared.quotients.Quotient.{Quotient}
use Rattle.lw_draw.specs.declared.row_spans.Line.{Line}
use Rattle.lw_draw.specs.Walks.{wide, high, rows_before, IsFirstStep, IsFlatRow, IsSteepRow}
use Rattle.lw_draw.proofs.QuotientLaws.{quotient_value}
use Rattle.lw_draw.proofs.RowSpanLaws.{between_rising, between_falling, steps_between}
use Rattle.lw_draw.proofs.StepLaws.{one_more, offset_is, offset_small, never_reached, past_found}

-- one row more, of a line that goes down
rising_row_on : (y0 y1 : ℤ) (y : ℕ) → within y0 (pos y) y1 ≡ true → unsigned_abs (pos (y + 1) -ℤ y0) ≡ unsigned_abs (pos y -ℤ y0) + 1
unfolding within
rising_row_on y0 y1 y inside = grind (arith, ints)

pub row_on : (y0 y1 : ℤ) (y : ℕ) → y0 ≤ℤ y1 → within (int_min y0 y1) (pos y) (int_max y0 y1) ≡ true → unsigned_abs (pos (y + 1) -ℤ y0) ≡ unsigned_abs (pos y -ℤ y0) + 1
row_on y0 y1 y down inside = rising_row_on y0 y1 y (sym (between_rising y0 y1 (pos y) down) ∙ inside)

-- and of one that goes up
falling_row_back : (y0 y1 : ℤ) (y : ℕ) → within y1 (pos (y + 1)) y0 ≡ true → unsigned_abs (pos y -ℤ y0) ≡ unsigned_abs (pos (y + 1) -ℤ y0) + 1
unfolding within
falling_row_back y0 y1 y inside = grind (arith, ints)

pub row_back : (y0 y1 : ℤ) (y : ℕ) → y1 <ℤ y0 → within (int_min y0 y1) (pos (y + 1)) (int_max y0 y1) ≡ true → unsigned_abs (pos y -ℤ y0) ≡ unsigned_abs (pos (y + 1) -ℤ y0) + 1
row_back y0 y1 y up inside = falling_row_back y0 y1 y (sym (between_falling y0 y1 (pos (y + 1)) up) ∙ inside)

-- a row that isn't the first has some before it
pub some_before : (y0 y : ℤ) → (y ≡ y0 → ⊥) → unsigned_abs (y -ℤ y0) ≡ (unsigned_abs (y -ℤ y0) - 1) + 1
some_before y0 y other = grind (arith, ints)

-- the sides of a line are short
pub side_small : (from to : ℤ) → FitsSigned w16 from → FitsSigned w16 to → unsigned_abs (to -ℤ from) ≤ 65535
side_small from to first last = omega (arith, ints)

-- its totals are far from the end of the numbers
pub total_near : (k w c d : ℕ) (q : Quotient) → k ≤ 65535 → w ≤ 65535 → c ≤ 200000 → IsQuotient (2 * (k * w) + c) (2 * w) d q → total_of q + gain_of q < 2 ^ 40
total_near k w c d q few narrow small is =
    let product : k * w ≤ 65535 * 65535 = mul-le-mul few narrow in
    omega (arith, product, is.total_is, is.gain_is)

-- the quotient of the next row
pub quotient_on : (k j w c d : ℕ) (q r : Quotient) → j ≡ k + 1 → IsQuotient (2 * (k * w) + c) (2 * w) d q → IsQuotient (total_of q + gain_of q) (gain_of q) q.divisor r → IsQuotient (2 * (j * w) + c) (2 * w) d r
quotient_on k j w c d q r further here there =
    let product : j * w ≡ k * w + w = ap (λ t. t * w) further ∙ one_more k w in
    record {
      total_is = there.total_is ∙ omega (arith, product, here.total_is, here.gain_is);
      gain_is = there.gain_is ∙ here.gain_is;
      divisor_is = there.divisor_is ∙ here.divisor_is;
    }

-- and of the one before
pub quotient_back : (k j w c d : ℕ) (q r : Quotient) → k ≡ j + 1 → IsQuotient (2 * (k * w) + c) (2 * w) d q → IsQuotient (total_of q - gain_of q) (gain_of q) q.divisor r → IsQuotient (2 * (j * w) + c) (2 * w) d r
quotient_back k j w c d q r further here there =
    let product : k * w ≡ j * w + w = ap (λ t. t * w) further ∙ one_more j w in
    record {
      total_is = there.total_is ∙ omega (arith, product, here.total_is, here.gain_is);
      gain_is = there.gain_is ∙ here.gain_is;
      divisor_is = there.divisor_is ∙ here.divisor_is;
    }

-- The quotient of the row below, of a line that goes down or up.
pub quotient_next : (y0 y1 : ℤ) (y w c d : ℕ) (q r : Quotient) (down : Bool) → int_le y0 y1 ≡ down → within (int_min y0 y1) (pos y) (int_max y0 y1) ≡ true → within (int_min y0 y1) (pos (y + 1)) (int_max y0 y1) ≡ true → IsQuotient (2 * (unsigned_abs (pos y -ℤ y0) * w) + c) (2 * w) d q → IsQuotient (if down then total_of q + gain_of q else total_of q - gain_of q) (gain_of q) q.divisor r → IsQuotient (2 * (unsigned_abs (pos (y + 1) -ℤ y0) * w) + c) (2 * w) d r
quotient_next y0 y1 y w c d q r true test here below is stepped = quotient_on _ _ w c d q r (row_on y0 y1 y (grind (arith, ints)) here) is stepped
quotient_next y0 y1 y w c d q r false test here below is stepped = quotient_back _ _ w c d q r (row_back y0 y1 y (grind (arith, ints)) below) is stepped

-- the total of a row that isn't the first is no less than what it gains
pub gain_small : (k j w c d : ℕ) (q : Quotient) → k ≡ j + 1 → IsQuotient (2 * (k * w) + c) (2 * w) d q → gain_of q ≤ total_of q
gain_small k j w c d q further here =
    let product : k * w ≡ j * w + w = ap (λ t. t * w) further ∙ one_more j w in
    omega (arith, product, here.total_is, here.gain_is)

-- One row further down a line that goes up has fewer rows before it.
pub gain_back : (y0 y1 : ℤ) (y w c d : ℕ) (q : Quotient) → int_le y0 y1 ≡ false → within (int_min y0 y1) (pos (y + 1)) (int_max y0 y1) ≡ true → IsQuotient (2 * (unsigned_abs (pos y -ℤ y0) * w) + c) (2 * w) d q → gain_of q ≤ total_of q
gain_back y0 y1 y w c d q up below is = gain_small _ _ w c d q (row_back y0 y1 y (grind (arith, ints)) below) is

-- A steep line has moved by the quotient.
pub steep_value : (line : Line) (y : ℤ) (moved : Quotient) → IsSteepRow line y moved → moved.value ≡ line_offset (high line) (wide line) (rows_before line y)
steep_value line y moved is =
    quotient_value _ _ _ moved is.quotient ∙ sym (offset_is (high line) (wide line) (rows_before line y) (omega (arith, is.steep)))

pub steep_small : (line : Line) (y : ℤ) (moved : Quotient) → has_row line y ≡ true → IsSteepRow line y moved → moved.value ≤ wide line
steep_small line y moved inside is = rw (steep_value line y moved is) (offset_small (high line) (wide line) (rows_before line y) (steps_between line.y0 line.y1 y inside))

-- A line of one row has all of its steps in it.
pub level_first : (line : Line) (y : ℤ) → high line ≡ 0 → has_row line y ≡ true → IsFirstStep line (rows_before line y) 0
level_first line y level inside i near = let few = steps_between line.y0 line.y1 y inside in grind (arith, nat_tests)

pub level_past : (line : Line) (y : ℤ) → high line ≡ 0 → IsFirstStep line (rows_before line y + 1) (wide line + 1)
level_past line y level i near = never_reached (wide line) (high line) (rows_before line y + 1) i (omega (arith, level)) near

-- steps of the line and a number that is no more than all of them
capped : (v n i : ℕ) → i ≤ n → nat_le (min v (n + 1)) i ≡ nat_le v i
capped v n i inside = grind (arith, nat_tests)

-- what a quotient tells of a flat line
first_by : (line : Line) (k r : ℕ) (q : Quotient) → 0 < high line → high line ≤ wide line → IsQuotient (2 * (k * wide line) + (wide line + 2 * high line - 1)) (2 * wide line) (2 * high line) q → r ≡ min q.value (wide line + 1) → IsFirstStep line (k + 1) r
first_by line k r q some flat is least i inside =
    ap (λ t. nat_le t i) least ∙ (capped q.value (wide line) i inside ∙
    (ap (λ t. nat_le t i) (quotient_value _ _ _ q is) ∙ past_found (wide line) (high line) k i (omega (arith, some, flat)) some))

-- A flat line's first step past a row
pub past_first : (line : Line) (y : ℤ) (past : Quotient) (r : ℕ) → r ≡ min past.value (wide line + 1) → IsFlatRow line y past → IsFirstStep line (rows_before line y + 1) r
past_first line y past r least is = first_by line (rows_before line y) r past is.some is.flat is.quotient least

-- is one row further back its first step in the row.
pub prior_first : (line : Line) (y : ℤ) (past prior : Quotient) (k r : ℕ) → rows_before line y ≡ k + 1 → IsFlatRow line y past → IsQuotient (total_of past - gain_of past) (gain_of past) past.divisor prior → r ≡ min prior.value (wide line + 1) → IsFirstStep line (rows_before line y) r
prior_first line y past prior k r further is back least =
    subst (λ j. IsFirstStep line j r) (sym further)
    (first_by line k r prior is.some is.flat
    (quotient_back (rows_before line y) k (wide line) (wide line + 2 * high line - 1) (2 * high line) past prior further is.quotient back)
    least)
