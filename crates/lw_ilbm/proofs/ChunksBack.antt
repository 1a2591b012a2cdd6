-- Chunks that are written are read.
use Rattle.std.proofs.Common.{◌≡◌, ℕ, zero, suc, ◌+◌, ◌-◌, ◌%◌, ◌^◌, ◌≤◌, ◌<◌, false, List, [], ◌∷◌, ◌++◌, length, take, refl, ap, subst, ◌∙◌, arith}
use Rattle.std.specs.Prelude.{nat_lt, Option, Result, Err, if◌then◌else◌}
use Rattle.std.specs.Int.{w32, to_be_bytes}
use Rattle.std.proofs.lemmas.List.{length-append}
use Rattle.std.proofs.lemmas.Bool.{lt-leb}
use Rattle.std.proofs.lemmas.Nat.{from_be_bytes-to_be_bytes_4}
use Rattle.std.proofs.Math.Path.{fun_ext}
use Rattle.std.proofs.Math.Seq.{take-append_seam}
use Rattle.lw_planes.specs.Bitmap.{Bitmap}
use Rattle.lw_ilbm.specs.declared.header.Header.{Header}
use Rattle.lw_ilbm.specs.Reading.{chunk_gives, chunks_after, long_at}

-- bytes that are passed over
passed : (limit size : ℕ) (header : Option Header) (xs ys : List ℕ) (k m : ℕ) → m ≡ length xs + k
    → chunks_after limit size header m (xs ++ ys) ≡ chunks_after limit size header k ys
passed limit size header [] ys k m is = ap (λ n. chunks_after limit size header n ys) (omega (arith, is))
passed limit size header (x ∷ xs) ys k zero is = absurd (omega (arith, is))
passed limit size header (x ∷ xs) ys k (suc m) is = passed limit size header xs ys k m (omega (arith, is))

-- what the head of a chunk leads to, by the number of bytes that are left, the chunk's place, its length and what follows its head
abbrev pub step : ℕ → ℕ → Option Header → ℕ → ℕ → List ℕ → ℕ → List ℕ → (Option Header → Result Bitmap ℕ) → Result Bitmap ℕ
step limit size header left place name count rest next =
    if nat_lt left 8 then Err size
    else (if nat_lt (length rest) count then Err place else chunk_gives limit place name (take count rest) header next)

step_taken : (limit size left place n : ℕ) (header : Option Header) (name contents more : List ℕ) (next : Option Header → Result Bitmap ℕ)
    → 8 ≤ left → length contents ≡ n
    → step limit size header left place name n (contents ++ more) next ≡ chunk_gives limit place name contents header next
step_taken limit size left place n header name contents more next enough long =
    let head : nat_lt left 8 ≡ false = lt-leb (suc left) 8 (omega (arith, enough)) in
    let both : length (contents ++ more) ≡ n + length more = (let l = length-append contents more in omega (arith, l, long)) in
    let there : nat_lt (length (contents ++ more)) n ≡ false = lt-leb (suc (length (contents ++ more))) n (omega (arith, both)) in
    let took : take n (contents ++ more) ≡ contents = subst (λ m. take m (contents ++ more) ≡ contents) long (take-append_seam contents more) in
    rw (head, there, took) refl

-- a chunk at the head of what is left
pub chunk_read : (limit size n a b c d : ℕ) (header : Option Header) (contents more : List ℕ) → length contents ≡ n → n < 2 ^ 32
    → chunks_after limit size header zero (a ∷ b ∷ c ∷ d ∷ (to_be_bytes w32 n ++ (contents ++ more)))
    ≡ chunk_gives limit (size - (8 + (n + length more))) (a ∷ b ∷ c ∷ d ∷ []) contents header
    (λ h. chunks_after limit size h (n % 2) more)
chunk_read limit size n a b c d header contents more long small =
    let tail : List ℕ = b ∷ c ∷ d ∷ (to_be_bytes w32 n ++ (contents ++ more)) in
    let left : ℕ = length (a ∷ tail) in
    let name : List ℕ = a ∷ b ∷ c ∷ d ∷ [] in
    let count : long_at (a ∷ tail) 4 ≡ n = from_be_bytes-to_be_bytes_4 n small in
    let both : length (contents ++ more) ≡ n + length more = (let l = length-append contents more in omega (arith, l, long)) in
    let place : left ≡ 8 + (n + length more) = omega (arith, both) in
    ap (λ k. step limit size header left (size - left) name k (contents ++ more) (λ h. chunks_after limit size h (7 + (k + k % 2)) tail)) count
    ∙ (step_taken limit size left (size - left) n header name contents more (λ h. chunks_after limit size h (7 + (n + n % 2)) tail) (omega (arith, place)) long
    ∙ (ap (λ p. chunk_gives limit p name contents header (λ h. chunks_after limit size h (7 + (n + n % 2)) tail)) (ap (λ q. size - q) place)
    ∙ ap (λ next. chunk_gives limit (size - (8 + (n + length more))) name contents header next)
    (fun_ext (λ h. passed limit size h (b ∷ c ∷ d ∷ (to_be_bytes w32 n ++ contents)) more (n % 2) (7 + (n + n % 2)) (omega (arith, long))))))
