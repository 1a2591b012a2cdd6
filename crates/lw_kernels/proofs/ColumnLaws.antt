-- Blocks of rows that are done column by column.
use Rattle.std.proofs.Common.{◌≡◌, ℕ, ◌+◌, ◌-◌, ◌*◌, ◌<◌, ◌≤◌, ◌&&◌, nat_lt, if◌then◌else◌, Bool, true, false, List, bit_and, ap, refl, sym, ◌∙◌, ⊎_elim, arith}
use Rattle.std.proofs.lemmas.Bool.{cases_lt, and_right}
use Rattle.lw_planes.specs.Row.{row_bit}
use Rattle.lw_planes.specs.Minterm.{minterm_bit}
use Rattle.lw_planes.proofs.RowLaws.{row_bit_lt}
use Rattle.lw_kernels.specs.Kernel.{is_between, place_in}
use Rattle.lw_kernels.proofs.ByteLaws.{minterm_copies}
use Rattle.lw_kernels.proofs.RowWriting.{Done, if_true, if_false, chosen, chosen_same, between_yes, between_before, between_after, done_starts, done_ends}
use Rattle.lw_kernels.proofs.SpanLaws.{RowsDone, between_none, row_next}

-- before the first column nothing is done
pub rows_empty : (step from end : ℕ) (bytes : List ℕ) (test : ℕ → Bool) (new : ℕ → ℕ → ℕ) → end ≤ from → RowsDone step from end bytes test new (λ p. row_bit bytes p)
rows_empty step from end bytes test new empty = λ y x _.
    chosen (test y && is_between from end x) (row_bit bytes (place_in step y x)) (new y x) (row_bit bytes (place_in step y x))
    (λ t. absurd (cc (t, and_right (test y) (is_between from end x) (between_none from end x empty))))
    (λ _. refl)

-- the bits to the left of a column are done, and then the column's
joined_bit : (t : Bool) (from mid end x two one new second old : ℕ) → from ≤ mid → mid ≤ end → one ≡ (if t && is_between from mid x then new else old) → two ≡ (if t && is_between mid end x then second else one) → (mid ≤ x → x < end → second ≡ new) → two ≡ (if t && is_between from end x then new else old)
joined_bit false from mid end x two one new second old p q a b same = b ∙ a
joined_bit true from mid end x two one new second old p q a b same =
    ⊎_elim
    (λ (early : x < mid).
    let still : two ≡ one = if_false (is_between mid end x) two second one b (between_before mid end x early) in
    ⊎_elim
    (λ (before : x < from). chosen (is_between from end x) two new old (λ t. absurd (cc (t, between_before from end x before))) (λ _. still ∙ if_false (is_between from mid x) one new old a (between_before from mid x before)))
    (λ (inside : from ≤ x).
    let low : x < end = omega arith in
    chosen (is_between from end x) two new old (λ _. still ∙ if_true (is_between from mid x) one new old a (between_yes from mid x inside early)) (λ t. absurd (cc (t, between_yes from end x inside low))))
    (cases_lt x from))
    (λ (late : mid ≤ x).
    let inside : from ≤ x = omega arith in
    ⊎_elim
    (λ (low : x < end). chosen (is_between from end x) two new old (λ _. if_true (is_between mid end x) two second one b (between_yes mid end x late low) ∙ same late low) (λ t. absurd (cc (t, between_yes from end x inside low))))
    (λ (past : end ≤ x). chosen (is_between from end x) two new old (λ t. absurd (cc (t, between_after from end x past))) (λ _. if_false (is_between mid end x) two second one b (between_after mid end x past) ∙ if_false (is_between from mid x) one new old a (between_after from mid x late)))
    (cases_lt x end))
    (cases_lt x mid)

-- one more column is done
pub rows_joined : (step from mid end : ℕ) (one two : List ℕ) (test : ℕ → Bool) (new second : ℕ → ℕ → ℕ) (old : ℕ → ℕ) → from ≤ mid → mid ≤ end → RowsDone step from mid one test new old → RowsDone step mid end two test second (λ p. row_bit one p) → ((y x : ℕ) → mid ≤ x → second y x ≡ new y x) → RowsDone step from end two test new old
rows_joined step from mid end one two test new second old p q a b same = λ y x low.
    joined_bit (test y) from mid end x (row_bit two (place_in step y x)) (row_bit one (place_in step y x)) (new y x) (second y x) (old (place_in step y x)) p q (a y x low) (b y x low)
    (λ late _. same y x late)

-- columns with other names for their bits
pub rows_placed : (step first last from end : ℕ) (bytes : List ℕ) (test : ℕ → Bool) (new : ℕ → ℕ → ℕ) (old : ℕ → ℕ) → first ≡ from → last ≡ end → RowsDone step first last bytes test new old → RowsDone step from end bytes test new old
rows_placed step first last from end bytes test new old begins ends done = λ y x low.
    done y x low ∙ (ap (λ n. if test y && is_between n last x then new y x else old (place_in step y x)) begins ∙
    ap (λ n. if test y && is_between from n x then new y x else old (place_in step y x)) ends)

-- one more row of a column is done
pub row_copied : (to_step source_step at lead start place count k : ℕ) (one two source : List ℕ) (old : ℕ → ℕ) → 8 * at + lead + count ≤ 8 * to_step
    → RowsDone to_step (8 * at + lead) (8 * at + lead + count) one (λ y. nat_lt y k) (λ y x. row_bit source (place_in source_step y (8 * start + place + (x - (8 * at + lead))))) old
    → Done two (λ x. row_bit source (8 * (k * source_step + start) + place + (x - (8 * (k * to_step + at) + lead)))) (λ p. row_bit one p) (8 * (k * to_step + at) + lead) (8 * (k * to_step + at) + lead + count)
    → RowsDone to_step (8 * at + lead) (8 * at + lead + count) two (λ y. nat_lt y (k + 1)) (λ y x. row_bit source (place_in source_step y (8 * start + place + (x - (8 * at + lead))))) old
row_copied to_step source_step at lead start place count k one two source old fits done here =
    let from : ℕ = 8 * at + lead in
    let first : ℕ = 8 * (k * to_step + at) + lead in
    let line : ℕ → ℕ = λ x. row_bit source (8 * (k * source_step + start) + place + (x - first)) in
    let begins : first ≡ 8 * (k * to_step) + from = omega arith in
    let ends : first + count ≡ 8 * (k * to_step) + (from + count) = omega arith in
    row_next to_step from (from + count) one two (λ y x. row_bit source (place_in source_step y (8 * start + place + (x - from)))) line old k fits done
    (done_starts two line (λ p. row_bit one p) first (8 * (k * to_step) + from) (8 * (k * to_step) + (from + count)) begins
    (done_ends two line (λ p. row_bit one p) first (first + count) (8 * (k * to_step) + (from + count)) ends here))
    (λ x _ _ _.
    let same : 8 * (k * source_step + start) + place + (8 * (k * to_step) + x - first) ≡ 8 * (k * source_step) + (8 * start + place + (x - from)) = omega arith in
    ap (row_bit source) same)

-- copied rows are those of a blit by the minterm of a copy
pub rows_copied : (step from end : ℕ) (bytes source : List ℕ) (test : ℕ → Bool) (place : ℕ → ℕ → ℕ) (old : ℕ → ℕ) (minterm : ℕ) → bit_and minterm 240 ≡ 192 → RowsDone step from end bytes test (λ y x. row_bit source (place y x)) old → RowsDone step from end bytes test (λ y x. minterm_bit minterm (row_bit source (place y x)) (old (place_in step y x))) old
rows_copied step from end bytes source test place old minterm is done = λ y x low.
    chosen_same (test y && is_between from end x) _ _ _ _ _ (done y x low)
    (sym (minterm_copies minterm (row_bit source (place y x)) (old (place_in step y x)) (row_bit_lt source (place y x)) is)) refl
