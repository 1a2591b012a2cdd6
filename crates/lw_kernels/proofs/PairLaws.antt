-- Two blocks of bytes that are shifted as one.
use Rattle.std.proofs.Common.{◌≡◌, ℕ, ◌+◌, ◌-◌, ◌*◌, ◌%◌, ◌<◌, ◌≤◌, nat_lt, if◌then◌else◌, List, ap, ◌∙◌, ⊎_elim, arith}
use Rattle.std.proofs.lemmas.Bool.{cases_lt, lt-ltb, le-ltb}
use Rattle.lw_planes.specs.Row.{row_bit}
use Rattle.lw_kernels.proofs.RowWriting.{Done, done_ends, if_true, if_false, join_over}

-- the bytes from bit `base` of a block on that were made of pairs of neighbouring bytes of a source
pub pair_fetched : (block left right source : List ℕ) (shift base place size : ℕ) → ((x : ℕ) → x < 128 → row_bit block x ≡ (if nat_lt (x % 8 + shift) 8 then row_bit left (x + shift) else row_bit right (x + shift - 8))) → shift < 8 → base % 8 ≡ 0 → base + 8 * size ≤ 128 → ((x : ℕ) → base ≤ x → x < base + 8 * size → row_bit left x ≡ row_bit source (8 * place + (x - base))) → ((x : ℕ) → base ≤ x → x < base + 8 * size → row_bit right x ≡ row_bit source (8 * (place + 1) + (x - base))) → (x p : ℕ) → p ≡ base + x → x < 8 * size → row_bit block p ≡ row_bit source (8 * place + shift + x)
pair_fetched block left right source shift base place size made few even fits lefts rights x p is low =
    let inside : p < 128 = omega arith in
    ⊎_elim
    (λ (here : p % 8 + shift < 8).
    let last : p + shift < base + 8 * size = omega (arith, here, even, is, low) in
    let same : 8 * place + (p + shift - base) ≡ 8 * place + shift + x = omega (arith, is) in
    if_true (nat_lt (p % 8 + shift) 8) (row_bit block p) (row_bit left (p + shift)) (row_bit right (p + shift - 8)) (made p inside) (lt-ltb (p % 8 + shift) 8 here) ∙
    (lefts (p + shift) (omega (arith, is)) last ∙ ap (row_bit source) same))
    (λ (there : 8 ≤ p % 8 + shift).
    let first : base ≤ p + shift - 8 = omega (arith, there, even, is) in
    let last : p + shift - 8 < base + 8 * size = omega (arith, few, is, low) in
    let same : 8 * (place + 1) + (p + shift - 8 - base) ≡ 8 * place + shift + x = omega (arith, is, first, there) in
    if_false (nat_lt (p % 8 + shift) 8) (row_bit block p) (row_bit left (p + shift)) (row_bit right (p + shift - 8)) (made p inside) (le-ltb (p % 8 + shift) 8 there) ∙
    (rights (p + shift - 8) first last ∙ ap (row_bit source) same))
    (cases_lt (p % 8 + shift) 8)

-- a row into which both were put
pub pair_put : (one two block source : List ℕ) (old : ℕ → ℕ) (place first last size other : ℕ) → first + size ≤ last → last - first ≤ 2 * size → other ≡ place + 8 * (last - first - size) → ((x : ℕ) → x < 8 * size → row_bit block x ≡ row_bit source (place + x)) → ((x : ℕ) → x < 8 * size → row_bit block (64 + x) ≡ row_bit source (other + x)) → Done one (λ x. row_bit block (8 * 0 + (x - 8 * first))) old (8 * first) (8 * (first + size)) → Done two (λ x. row_bit block (8 * 8 + (x - 8 * (last - size)))) (λ x. row_bit one x) (8 * (last - size)) (8 * (last - size + size)) → Done two (λ x. row_bit source (place + (x - 8 * first))) old (8 * first) (8 * last)
pair_put one two block source old place first last size other fits cover is_other begins ends a b =
    let end : 8 * (last - size + size) ≡ 8 * last = omega (arith, fits) in
    join_over one two (λ x. row_bit source (place + (x - 8 * first))) (λ x. row_bit block (8 * 0 + (x - 8 * first))) (λ x. row_bit block (8 * 8 + (x - 8 * (last - size)))) old (8 * first) (8 * (last - size)) (8 * (first + size)) (8 * last)
    (omega (arith, fits)) (omega (arith, fits, cover)) (omega (arith, fits)) a
    (done_ends two (λ x. row_bit block (8 * 8 + (x - 8 * (last - size)))) (λ x. row_bit one x) (8 * (last - size)) (8 * (last - size + size)) (8 * last) end b)
    (λ x late low.
    let near : x - 8 * first < 8 * size = omega (arith, late, low, cover) in
    let same : 8 * 0 + (x - 8 * first) ≡ x - 8 * first = omega arith in
    ap (row_bit block) same ∙ begins (x - 8 * first) near)
    (λ x late low.
    let near : x - 8 * (last - size) < 8 * size = omega (arith, late, low, fits) in
    let same : other + (x - 8 * (last - size)) ≡ place + (x - 8 * first) = omega (arith, late, fits, is_other) in
    let at : 8 * 8 + (x - 8 * (last - size)) ≡ 64 + (x - 8 * (last - size)) = omega arith in
    ap (row_bit block) at ∙ (ends (x - 8 * (last - size)) near ∙ ap (row_bit source) same))
