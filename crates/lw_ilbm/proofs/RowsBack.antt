-- The rows of a picture, one after another, have its pens.
use Rattle.std.proofs.Common.{◌≡◌, ℕ, zero, suc, ◌+◌, ◌-◌, ◌*◌, ◌/◌, ◌%◌, ◌^◌, ◌≤◌, ◌<◌, List, [], ◌∷◌, ◌++◌, length, get_or, refl, ap, sym, subst, ◌∙◌, Bool, arith, append_assoc}
use Rattle.std.specs.Int.{bit_at}
use Rattle.std.specs.List.{flat_map, range_with_len}
use Rattle.std.proofs.lemmas.List.{length-append, get_or_append_left, append-nil}
use Rattle.std.proofs.lemmas.List.FromFn.{length-range_with_len}
use Rattle.std.proofs.Math.Seq.{get_or-append-add}
use Rattle.lw_planes.proofs.BitmapLaws.{length_plane_row, row_bytes_wide, bitmap_again, bitmap_same}
use Rattle.lw_planes.proofs.DefinitionLaws.{plane_row_has_its_bits}
use Rattle.std.proofs.lemmas.Nat.{mul-le}
use Rattle.lw_planes.proofs.PenLaws.{pen_of_same, pen_same}
use Rattle.lw_planes.proofs.RowLaws.{row_bit_at}
use Rattle.lw_planes.specs.Pen.{pen_of}
use Rattle.lw_planes.specs.Row.{row_bit}
use Rattle.lw_planes.specs.Bitmap.{Bitmap, IsBitmap, pen_at, row_bytes, plane_row}
use Rattle.lw_planes.specs.Sizes.{IsPlanes}
use Rattle.lw_ilbm.specs.Packing.{packed, unpacked_after}
use Rattle.lw_ilbm.specs.Pictures.{picture, body_data}
use Rattle.lw_ilbm.proofs.Unpacking.{row_unpacks, length_packed}

-- packed pieces stand for the pieces
pieces_unpack : (f : ℕ → List ℕ) (ks codes : List ℕ)
    → unpacked_after zero (flat_map (λ k. packed (f k)) ks ++ codes) ≡ flat_map f ks ++ unpacked_after zero codes
pieces_unpack f [] codes = refl
pieces_unpack f (k ∷ ks) codes =
    ap (unpacked_after zero) (append_assoc (packed (f k)) (flat_map (λ k. packed (f k)) ks) codes)
    ∙ (row_unpacks (f k) (flat_map (λ k. packed (f k)) ks ++ codes) zero
    ∙ (ap (λ l. f k ++ l) (pieces_unpack f ks codes) ∙ sym (append_assoc (f k) (flat_map f ks) (unpacked_after zero codes))))

rows_unpack : (f : ℕ → ℕ → List ℕ) (ks ys codes : List ℕ)
    → unpacked_after zero (flat_map (λ y. flat_map (λ k. packed (f y k)) ks) ys ++ codes)
    ≡ flat_map (λ y. flat_map (f y) ks) ys ++ unpacked_after zero codes
rows_unpack f ks [] codes = refl
rows_unpack f ks (y ∷ ys) codes =
    let row : List ℕ = flat_map (λ k. packed (f y k)) ks in
    let rest : List ℕ = flat_map (λ y. flat_map (λ k. packed (f y k)) ks) ys in
    ap (unpacked_after zero) (append_assoc row rest codes)
    ∙ (pieces_unpack (f y) ks (rest ++ codes)
    ∙ (ap (λ l. flat_map (f y) ks ++ l) (rows_unpack f ks ys codes)
    ∙ sym (append_assoc (flat_map (f y) ks) (flat_map (λ y. flat_map (f y) ks) ys) (unpacked_after zero codes))))

-- pieces of one length
length_pieces : (f : ℕ → List ℕ) (a n m : ℕ) → ((i : ℕ) → length (f i) ≡ m) → length (flat_map f (range_with_len a n)) ≡ n * m
length_pieces f a zero m long = omega arith
length_pieces f a (suc n) m long =
    length-append (f a) (flat_map f (range_with_len (a + 1) n))
    ∙ (let one = long a in let rest = length_pieces f (a + 1) n m long in omega (arith, one, rest))

piece_at : (f : ℕ → List ℕ) (a n m i j p q : ℕ) → ((i : ℕ) → length (f i) ≡ m) → i < n → j < m → p ≡ i * m + j → q ≡ a + i
    → get_or (flat_map f (range_with_len a n)) p 0 ≡ get_or (f q) j 0
piece_at f a zero m i j p q long low inside place number = absurd (omega (arith, low))
piece_at f a (suc n) m zero j p q long low inside place number =
    let one = long a in
    ap (λ r. get_or (f a ++ flat_map f (range_with_len (a + 1) n)) r 0) (omega (arith, place))
    ∙ (get_or_append_left (f a) (flat_map f (range_with_len (a + 1) n)) 0 j (omega (arith, one, inside))
    ∙ ap (λ r. get_or (f r) j 0) (omega (arith, number)))
piece_at f a (suc n) m (suc i) j p q long low inside place number =
    let one = long a in
    let rest : List ℕ = flat_map f (range_with_len (a + 1) n) in
    ap (λ r. get_or (f a ++ rest) r 0) (omega (arith, one, place)) ∙ (get_or-append-add (f a) rest (i * m + j) 0
    ∙ piece_at f (a + 1) n m i j (i * m + j) q long (omega (arith, low)) inside refl (omega (arith, number)))

-- all rows of a picture, one after another
abbrev pub plain_rows : Bitmap → List ℕ
plain_rows b = flat_map (λ y. flat_map (λ k. plane_row b k y) (range_with_len 0 b.depth)) (range_with_len 0 b.height)

row_length : (b : Bitmap) (y : ℕ) → length (flat_map (λ k. plane_row b k y) (range_with_len 0 b.depth)) ≡ b.depth * row_bytes b.width
row_length b y = length_pieces (λ k. plane_row b k y) 0 b.depth (row_bytes b.width) (λ k. length_plane_row b k y)

pub length_plain : (b : Bitmap) → length (plain_rows b) ≡ b.height * (b.depth * row_bytes b.width)
length_plain b =
    length_pieces (λ y. flat_map (λ k. plane_row b k y) (range_with_len 0 b.depth)) 0 b.height (b.depth * row_bytes b.width) (row_length b)

plain_byte : (b : Bitmap) (y k i : ℕ) → y < b.height → k < b.depth → i < row_bytes b.width
    → get_or (plain_rows b) ((y * b.depth + k) * row_bytes b.width + i) 0 ≡ get_or (plane_row b k y) i 0
plain_byte b y k i low deep inside = go (row_bytes b.width) refl
  where
    go : (n : ℕ) → row_bytes b.width ≡ n → get_or (plain_rows b) ((y * b.depth + k) * n + i) 0 ≡ get_or (plane_row b k y) i 0
    go n is =
        let place : (y * b.depth + k) * n + i ≡ y * (b.depth * n) + (k * n + i) = omega arith in
        let past = mul-le (suc k) n b.depth n deep (omega arith) in
        let short : i < n = subst (λ m. i < m) is inside in
        let within : k * n + i < b.depth * n = omega (arith, past, short) in
        piece_at (λ y. flat_map (λ k. plane_row b k y) (range_with_len 0 b.depth)) 0 b.height (b.depth * n) y (k * n + i) _ y
        (λ y. row_length b y ∙ ap (λ m. b.depth * m) is) low within place (omega arith)
        ∙ piece_at (λ k. plane_row b k y) 0 b.depth n k i _ k (λ k. length_plane_row b k y ∙ is) deep short refl (omega arith)

pub body_unpacks : (b : Bitmap) → unpacked_after zero (body_data b) ≡ plain_rows b
body_unpacks b =
    ap (unpacked_after zero) (sym (append-nil (body_data b)))
    ∙ (rows_unpack (λ y k. plane_row b k y) (range_with_len 0 b.depth) (range_with_len 0 b.height) [] ∙ append-nil (plain_rows b))

-- the bit of a row that the rows' bytes have
plain_bit : (b : Bitmap) (y k x : ℕ) → y < b.height → k < b.depth → x < b.width
    → row_bit (plain_rows b) (8 * ((y * b.depth + k) * row_bytes b.width) + x) ≡ bit_at (pen_at b x y) k
plain_bit b y k x low deep wide =
    let from : ℕ = (y * b.depth + k) * row_bytes b.width in
    let i : ℕ = x / 8 in
    let j : ℕ = x % 8 in
    let whole : 8 * i + j ≡ x = omega arith in
    let small : j < 8 = omega arith in
    let within : i < row_bytes b.width = (let w = row_bytes_wide b.width in omega (arith, w, wide)) in
    ap (row_bit (plain_rows b)) (omega (arith, whole)) ∙ (row_bit_at (plain_rows b) (from + i) j small
    ∙ (ap (λ c. bit_at c (7 - j)) (plain_byte b y k i low deep within) ∙ (sym (row_bit_at (plane_row b k y) i j small)
    ∙ (ap (row_bit (plane_row b k y)) whole ∙ (plane_row_has_its_bits b k y).pixels x wide))))

pub picture_back : (b : Bitmap) (packed : Bool) → IsBitmap b
    → picture (record { width = b.width; height = b.height; depth = b.depth; is_packed = packed }) (plain_rows b) ≡ b
picture_back b packed ok =
    bitmap_same b.width b.height b.depth (λ x y. pen_of b.depth (λ k. row_bit (plain_rows b) (8 * ((y * b.depth + k) * row_bytes b.width) + x)))
    (λ x y. pen_at b x y)
    (λ x y wide low. pen_of_same b.depth (λ k. row_bit (plain_rows b) (8 * ((y * b.depth + k) * row_bytes b.width) + x))
    (λ k. bit_at (pen_at b x y) k) (λ k deep. plain_bit b y k x low deep wide) ∙ pen_same b.depth (pen_at b x y) (ok.pens x y wide low))
    ∙ bitmap_again b ok

-- a body is short enough for its length to be written
pieces_short : (f : ℕ → List ℕ) (ks : List ℕ) (m : ℕ) → ((k : ℕ) → length (f k) ≤ m) → length (flat_map f ks) ≤ length ks * m
pieces_short f [] m short = omega arith
pieces_short f (k ∷ ks) m short =
    let one = short k in
    let rest = pieces_short f ks m short in
    let both = length-append (f k) (flat_map f ks) in
    omega (arith, one, rest, both)

pub length_body : (b : Bitmap) → IsPlanes b → length (body_data b) < 2 ^ 24
length_body b ok =
    let piece : (y k : ℕ) → length (packed (plane_row b k y)) ≤ 512 =
    (λ y k. let long = length_plane_row b k y in let p = length_packed (plane_row b k y) zero in let w = ok.sizes.columns.1 in omega (arith, long, p, w)) in
    let row : (y : ℕ) → length (flat_map (λ k. packed (plane_row b k y)) (range_with_len 0 b.depth)) ≤ 4096 =
    (λ y. let n = pieces_short (λ k. packed (plane_row b k y)) (range_with_len 0 b.depth) 512 (piece y) in
    let l = length-range_with_len 0 b.depth in let d = ok.sizes.planes.1 in omega (arith, n, l, d)) in
    let n = pieces_short (λ y. flat_map (λ k. packed (plane_row b k y)) (range_with_len 0 b.depth)) (range_with_len 0 b.height) 4096 row in
    let l = length-range_with_len 0 b.height in
    let h = ok.sizes.rows.1 in
    omega (arith, n, l, h)
