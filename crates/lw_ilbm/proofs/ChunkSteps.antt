-- Chunk after chunk.
use Rattle.std.proofs.Common.{◌≡◌, ℕ, zero, suc, ◌+◌, ◌-◌, ◌%◌, ◌≤◌, ◌<◌, false, List, [], ◌∷◌, length, take, drop, refl, ap, sym, subst, ◌∙◌, arith, length-drop, length-take-le, drop-drop}
use Rattle.std.specs.Prelude.{nat_lt, Option, Some, Result, Ok, Err, if◌then◌else◌}
use Rattle.std.proofs.lemmas.Bool.{lt-leb, le-leb}
use Rattle.std.proofs.Math.Path.{fun_ext}
use Rattle.lw_planes.specs.Bitmap.{Bitmap}
use Rattle.lw_ilbm.specs.declared.header.Header.{Header}
use Rattle.lw_ilbm.specs.Reading.{name_fault, chunk_gives, chunks_after, long_at, IsFaultOf}
use Rattle.lw_ilbm.specs.declared.stop.PictureStop.{PictureStop}
use Rattle.lw_ilbm.specs.declared.stop.PictureStop.TheVariants.{BadPicture, Memory}
use Rattle.lw_ilbm.specs.declared.chunks.Led.{Led}
use Rattle.lw_ilbm.specs.declared.chunks.Led.TheVariants.{Picture, On}
use Rattle.lw_ilbm.specs.Steps.{IsChunk, IsHeaderIfAny, LeadsTo}
use Rattle.lw_ilbm.proofs.ChunksBack.{step}

-- a name's next letter is past the end
pub past_end : (bytes : List ℕ) (at n : ℕ) (name : List ℕ) → length bytes ≤ at → n < length name
    → name_fault bytes at (drop n name) ≡ Some (length bytes)
past_end bytes at n [] past low = absurd (omega (arith, low))
past_end bytes at zero (c ∷ cs) past low = rw (le-leb (length bytes) at past) refl
past_end bytes at (suc n) (c ∷ cs) past low = past_end bytes at n cs past (omega (arith, low))

-- bytes that are passed over
dropped : (limit size : ℕ) (header : Option Header) (n : ℕ) (xs : List ℕ)
    → chunks_after limit size header n xs ≡ chunks_after limit size header 0 (drop n xs)
dropped limit size header zero xs = refl
dropped limit size header (suc n) [] = refl
dropped limit size header (suc n) (x ∷ xs) = dropped limit size header n xs

-- too few bytes for a head
pub head_cut : (limit size : ℕ) (header : Option Header) (rest : List ℕ) → length rest < 8
    → chunks_after limit size header 0 rest ≡ Err size
head_cut limit size header [] short = refl
head_cut limit size header (b ∷ bs) short =
    ap (λ t. if t then Err size else step limit size header 8 (size - suc (length bs)) (take 4 (b ∷ bs)) (long_at (b ∷ bs) 4) (drop 8 (b ∷ bs))
    (λ h. chunks_after limit size h (7 + (long_at (b ∷ bs) 4 + long_at (b ∷ bs) 4 % 2)) bs)) (le-leb (suc (suc (length bs))) 8 short)

-- a whole chunk
chunk_here : (limit place count : ℕ) (header : Option Header) (rest : List ℕ) → 8 ≤ length rest → count ≡ long_at rest 4
    → count ≤ length rest - 8
    → chunks_after limit (place + length rest) header 0 rest
    ≡ chunk_gives limit place (take 4 rest) (take count (drop 8 rest)) header
    (λ h. chunks_after limit (place + length rest) h 0 (drop (8 + (count + count % 2)) rest))
chunk_here limit place count header [] enough is within = absurd (omega (arith, enough))
chunk_here limit place count header (b ∷ bs) enough is within =
    let size : ℕ = place + suc (length bs) in
    let next : ℕ → Option Header → Result Bitmap ℕ = λ k h. chunks_after limit size h (7 + (k + k % 2)) bs in
    let long = length-drop 8 (b ∷ bs) in
    let head : nat_lt (suc (length bs)) 8 ≡ false = lt-leb (suc (suc (length bs))) 8 (omega (arith, enough)) in
    let whole : nat_lt (length (drop 8 (b ∷ bs))) count ≡ false =
    lt-leb (suc (length (drop 8 (b ∷ bs)))) count (omega (arith, long, within)) in
    let here : size - suc (length bs) ≡ place = omega arith in
    let past : suc (7 + (count + count % 2)) ≡ 8 + (count + count % 2) = omega arith in
    ap (λ k. step limit size header (suc (length bs)) (size - suc (length bs)) (take 4 (b ∷ bs)) k (drop 8 (b ∷ bs)) (next k)) (sym is)
    ∙ (ap (λ t. if t then Err size else (if nat_lt (length (drop 8 (b ∷ bs))) count then Err (size - suc (length bs))
    else chunk_gives limit (size - suc (length bs)) (take 4 (b ∷ bs)) (take count (drop 8 (b ∷ bs))) header (next count))) head
    ∙ (ap (λ t. if t then Err (size - suc (length bs))
    else chunk_gives limit (size - suc (length bs)) (take 4 (b ∷ bs)) (take count (drop 8 (b ∷ bs))) header (next count)) whole
    ∙ (ap (λ p. chunk_gives limit p (take 4 (b ∷ bs)) (take count (drop 8 (b ∷ bs))) header (next count)) here
    ∙ (ap (λ n. chunk_gives limit place (take 4 (b ∷ bs)) (take count (drop 8 (b ∷ bs))) header n)
    (fun_ext (λ h. dropped limit size h (7 + (count + count % 2)) bs))
    ∙ ap (λ n. chunk_gives limit place (take 4 (b ∷ bs)) (take count (drop 8 (b ∷ bs))) header
    (λ h. chunks_after limit size h 0 (drop n (b ∷ bs)))) past))))

-- a fault by its place
abbrev place_of : PictureStop → ℕ
place_of (BadPicture place) = place
place_of Memory = 0

pub fault_is : {A : Type 0} (read : Result A ℕ) (place : ℕ) → read ≡ Err place → IsFaultOf read (BadPicture place)
fault_is read place is other same = is ∙ ap (λ s. Err (place_of s)) same

-- the rest of a file from a place on
rest_long : (bytes : List ℕ) (place : ℕ) → place < length bytes → place + length (drop place bytes) ≡ length bytes
rest_long bytes place inside = let long = length-drop place bytes in omega (arith, long, inside)

chunk_in : (bytes contents : List ℕ) (place count : ℕ) → place < length bytes → 8 ≤ length (drop place bytes)
    → count ≡ long_at (drop place bytes) 4 → count ≤ length (drop place bytes) - 8 → contents ≡ take count (drop 8 (drop place bytes))
    → IsChunk bytes place contents
chunk_in bytes contents place count inside enough is within told =
    let rest : List ℕ = drop place bytes in
    let size = rest_long bytes place inside in
    let long = length-drop 8 rest in
    let all : length contents ≡ count = ap length told ∙ length-take-le count (drop 8 rest) (omega (arith, long, within)) in
    let past : place + (8 + (count + count % 2)) ≡ place + (8 + length contents + length contents % 2) =
    ap (λ n. place + (8 + (n + n % 2))) (sym all) ∙ omega arith in
    record {
      inside = omega (arith, size, all, within, enough);
      gives = λ limit header.
          ap (λ n. chunks_after limit n header 0 rest) (sym size)
          ∙ (chunk_here limit place count header rest enough is within
          ∙ (ap (λ n. chunk_gives limit place (take 4 rest) (take count (drop 8 rest)) header
          (λ h. chunks_after limit n h 0 (drop (8 + (count + count % 2)) rest))) size
          ∙ (ap (λ xs. chunk_gives limit place (take 4 rest) xs header
          (λ h. chunks_after limit (length bytes) h 0 (drop (8 + (count + count % 2)) rest))) (sym told)
          ∙ ap (λ xs. chunk_gives limit place (take 4 rest) contents header (λ h. chunks_after limit (length bytes) h 0 xs))
          (drop-drop (8 + (count + count % 2)) place bytes ∙ ap (λ n. drop n bytes) past))));
    }

pub chunk_at : (bytes rest contents : List ℕ) (place count : ℕ) → rest ≡ drop place bytes → place < length bytes → 8 ≤ length rest
    → count ≡ long_at rest 4 → count ≤ length rest - 8 → contents ≡ take (8 + count - 8) (drop 8 rest) → IsChunk bytes place contents
chunk_at bytes rest contents place count told inside enough is within part =
    chunk_in bytes contents place count inside (subst (λ l. 8 ≤ length l) told enough) (subst (λ l. count ≡ long_at l 4) told is)
    (subst (λ l. count ≤ length l - 8) told within)
    (part ∙ (ap (λ n. take n (drop 8 rest)) (omega arith) ∙ ap (λ l. take count (drop 8 l)) told))

-- the name of a chunk, as the code cuts it out
named : (place : ℕ) (bytes : List ℕ) → take (place + 4 - place) (drop place bytes) ≡ take 4 (drop place bytes)
named place bytes = let four : place + 4 - place ≡ 4 = omega arith in ap (λ n. take n (drop place bytes)) four

-- what follows a chunk
abbrev next_chunk : List ℕ → List ℕ → ℕ → ℕ → Option Header → Result Bitmap ℕ
next_chunk bytes contents place limit header =
    chunks_after limit (length bytes) header 0 (drop (place + (8 + length contents + length contents % 2)) bytes)

chunk_named : (bytes contents : List ℕ) (place limit : ℕ) (header : Option Header) → IsChunk bytes place contents
    → chunks_after limit (length bytes) header 0 (drop place bytes)
    ≡ chunk_gives limit place (take (place + 4 - place) (drop place bytes)) contents header (next_chunk bytes contents place limit)
chunk_named bytes contents place limit header chunk =
    chunk.gives limit header
    ∙ ap (λ name. chunk_gives limit place name contents header (next_chunk bytes contents place limit)) (sym (named place bytes))

pub fault_found : (bytes contents : List ℕ) (place limit : ℕ) (header : Option Header) (stop : PictureStop) → IsChunk bytes place contents
    → ((next : Option Header → Result Bitmap ℕ)
    → IsFaultOf (chunk_gives limit place (take (place + 4 - place) (drop place bytes)) contents header next) stop)
    → IsFaultOf (chunks_after limit (length bytes) header 0 (drop place bytes)) stop
fault_found bytes contents place limit header stop chunk fault p is =
    chunk_named bytes contents place limit header chunk ∙ fault (next_chunk bytes contents place limit) p is

pub picture_found : (bytes contents : List ℕ) (place limit : ℕ) (header : Option Header) (led : Led) (planes : Bitmap)
    → IsChunk bytes place contents → LeadsTo limit place (take (place + 4 - place) (drop place bytes)) contents header led
    → led ≡ Picture planes → chunks_after limit (length bytes) header 0 (drop place bytes) ≡ Ok planes
picture_found bytes contents place limit header led planes chunk leads is =
    chunk_named bytes contents place limit header chunk
    ∙ subst (λ l. LeadsTo limit place (take (place + 4 - place) (drop place bytes)) contents header l) is leads
    (next_chunk bytes contents place limit)

pub goes_on : (bytes contents : List ℕ) (place limit : ℕ) (header read : Option Header) (led : Led)
    → IsChunk bytes place contents → LeadsTo limit place (take (place + 4 - place) (drop place bytes)) contents header led
    → led ≡ On read
    → IsHeaderIfAny read
    × (chunks_after limit (length bytes) header 0 (drop place bytes) ≡ next_chunk bytes contents place limit read)
goes_on bytes contents place limit header read led chunk leads is =
    let on = subst (λ l. LeadsTo limit place (take (place + 4 - place) (drop place bytes)) contents header l) is leads in
    (on.0, chunk_named bytes contents place limit header chunk ∙ on.1 (next_chunk bytes contents place limit))
