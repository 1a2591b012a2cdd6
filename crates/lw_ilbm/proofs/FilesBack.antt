-- Files that are written are read.
use Rattle.std.proofs.Common.{◌≡◌, ℕ, zero, suc, ◌+◌, ◌-◌, ◌%◌, ◌≤◌, ◌<◌, true, false, not, ◌&&◌, List, [], ◌∷◌, ◌++◌, length, refl, ap, ◌∙◌, arith}
use Rattle.std.specs.Prelude.{replicate, nat_lt, nat_le, slice_index, codes, Some, None, Result, Ok, Err, if◌then◌else◌}
use Rattle.std.specs.Int.{w32, to_be_bytes}
use Rattle.std.proofs.lemmas.Bool.{lt-leb, le-leb, eq-eqb}
use Rattle.std.proofs.lemmas.Nat.{from_be_bytes-to_be_bytes_2}
use Rattle.lw_planes.specs.Bitmap.{Bitmap}
use Rattle.lw_planes.specs.Sizes.{IsPlanes}
use Rattle.lw_ilbm.specs.declared.header.Header.{Header}
use Rattle.lw_ilbm.specs.Pictures.{picture, picture_length, chunk, header_data, body_data, encoded}
use Rattle.lw_ilbm.specs.Packing.{unpacked}
use Rattle.lw_ilbm.specs.Reading.{word_at, name_fault, unless_fault, header_of, with_header, body_of, chunks_after, picture_of}
use Rattle.lw_ilbm.proofs.ChunksBack.{chunk_read}
use Rattle.lw_ilbm.proofs.RowsBack.{length_plain, body_unpacks, picture_back, length_body}

abbrev header_for : Bitmap → Header
header_for b = record { width = b.width; height = b.height; depth = b.depth; is_packed = true }

-- a size of 1 to 2048
in_limit : (n : ℕ) → 1 ≤ n → n ≤ 2048 → not (nat_le 1 n && nat_le n 2048) ≡ false
in_limit n some few = rw (le-leb 1 n some, le-leb n 2048 few) refl

in_eight : (n : ℕ) → 1 ≤ n → n ≤ 8 → not (nat_le 1 n && nat_le n 8) ≡ false
in_eight n some few = rw (le-leb 1 n some, le-leb n 8 few) refl

-- the header of a packed picture of so many columns, rows and planes
abbrev header_in : ℕ → ℕ → ℕ → ℕ → Result Header ℕ
header_in place w h d =
    if not (nat_le 1 w && nat_le w 2048) then Err (place + 8)
    else (if not (nat_le 1 h && nat_le h 2048) then Err (place + 10)
    else (if not (nat_le 1 d && nat_le d 8) then Err (place + 16)
    else Ok (record { width = w; height = h; depth = d; is_packed = true })))

header_back : (b : Bitmap) (place : ℕ) → IsPlanes b → header_of 2048 place (header_data b) ≡ Ok (header_for b)
header_back b place ok =
    let w : word_at (header_data b) 0 ≡ b.width = from_be_bytes-to_be_bytes_2 b.width (let k = ok.sizes.columns.1 in omega (arith, k)) in
    let h : word_at (header_data b) 2 ≡ b.height = from_be_bytes-to_be_bytes_2 b.height (let k = ok.sizes.rows.1 in omega (arith, k)) in
    ap (λ n. header_in place n (word_at (header_data b) 2) b.depth) w
    ∙ (ap (λ n. header_in place b.width n b.depth) h
    ∙ rw (
      in_limit b.width ok.sizes.columns.0 ok.sizes.columns.1,
      in_limit b.height ok.sizes.rows.0 ok.sizes.rows.1,
      in_eight b.depth ok.sizes.planes.0 ok.sizes.planes.1,
    ) refl)

not_below : (m n : ℕ) → m ≡ n → nat_lt m n ≡ false
not_below m n same = lt-leb (suc m) n (omega (arith, same))

body_back : (b : Bitmap) (end : ℕ) → IsPlanes b → body_of (header_for b) end (body_data b) ≡ Ok b
body_back b end ok =
    let bytes : List ℕ = unpacked (body_data b) in
    let same : length bytes ≡ picture_length (header_for b) = ap length (body_unpacks b) ∙ length_plain b in
    ap (λ t. if t then Err end else Ok (picture (header_for b) bytes)) (not_below (length bytes) (picture_length (header_for b)) same)
    ∙ (ap (λ l. Ok (picture (header_for b) l)) (body_unpacks b) ∙ ap (λ p. Ok p) (picture_back b true ok.bitmap))

letter_there : (bytes : List ℕ) (place c : ℕ) (cs : List ℕ) → place < length bytes → slice_index bytes place ≡ c
    → name_fault bytes place (c ∷ cs) ≡ name_fault bytes (place + 1) cs
letter_there bytes place c cs low is = rw (lt-leb (length bytes) place low, eq-eqb (slice_index bytes place) c is) refl

-- a file's first twelve bytes
names_there : (n : ℕ) (rest : List ℕ) (next : Result Bitmap ℕ)
    → (let bytes : List ℕ = codes "FORM" ++ (to_be_bytes w32 n ++ (codes "ILBM" ++ rest)) in
    unless_fault (name_fault bytes 0 (codes "FORM")) (unless_fault (name_fault bytes 8 (codes "ILBM")) next) ≡ next)
names_there n rest next =
    let bytes : List ℕ = codes "FORM" ++ (to_be_bytes w32 n ++ (codes "ILBM" ++ rest)) in
    let form : name_fault bytes 0 (codes "FORM") ≡ None =
    letter_there bytes 0 70 (79 ∷ 82 ∷ 77 ∷ []) (omega arith) refl ∙ (letter_there bytes 1 79 (82 ∷ 77 ∷ []) (omega arith) refl
    ∙ (letter_there bytes 2 82 (77 ∷ []) (omega arith) refl ∙ letter_there bytes 3 77 [] (omega arith) refl)) in
    let kind : name_fault bytes 8 (codes "ILBM") ≡ None =
    letter_there bytes 8 73 (76 ∷ 66 ∷ 77 ∷ []) (omega arith) refl ∙ (letter_there bytes 9 76 (66 ∷ 77 ∷ []) (omega arith) refl
    ∙ (letter_there bytes 10 66 (77 ∷ []) (omega arith) refl ∙ letter_there bytes 11 77 [] (omega arith) refl)) in
    ap (λ f. unless_fault f (unless_fault (name_fault bytes 8 (codes "ILBM")) next)) form ∙ ap (λ f. unless_fault f next) kind

-- the chunks of a file
chunks_back : (b : Bitmap) (size : ℕ) → IsPlanes b
    → chunks_after 2048 size None zero (chunk (codes "BMHD") (header_data b) ++ chunk (codes "BODY") (body_data b)) ≡ Ok b
chunks_back b size ok =
    let body : List ℕ = chunk (codes "BODY") (body_data b) in
    let pad : List ℕ = replicate (length (body_data b) % 2) 0 in
    let place : ℕ = size - (8 + (20 + length body)) in
    chunk_read 2048 size 20 66 77 72 68 None (header_data b) body refl (omega arith)
    ∙ (ap (λ r. with_header r (λ h. chunks_after 2048 size (Some h) zero body)) (header_back b place ok)
    ∙ (chunk_read 2048 size (length (body_data b)) 66 79 68 89 (Some (header_for b)) (body_data b) pad refl (let short = length_body b ok in omega (arith, short))
    ∙ body_back b _ ok))

pub file_back : (b : Bitmap) → IsPlanes b → picture_of 2048 (encoded b) ≡ Ok b
file_back b ok =
    names_there (length (codes "ILBM" ++ (chunk (codes "BMHD") (header_data b) ++ chunk (codes "BODY") (body_data b)))) (chunk (codes "BMHD") (header_data b) ++ chunk (codes "BODY") (body_data b)) _ ∙ chunks_back b _ ok
