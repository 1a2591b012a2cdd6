-- What a file gives: a picture, or the place of its first fault.
use Rattle.std.specs.Prelude.{◌≡◌, ℕ, zero, suc, ◌+◌, ◌-◌, ◌%◌, Bool, not, ◌&&◌, ◌||◌, ◌==◌, nat_lt, nat_le, if◌then◌else◌}
use Rattle.std.specs.Prelude.{List, [], ◌∷◌, length, take, drop, slice_index, codes, bytes_eq, Option, Some, None, is_none}
use Rattle.std.specs.Prelude.{Result, Ok, Err}
use Rattle.std.specs.Int.{w16, w32, from_be_bytes}
use Rattle.lw_planes.specs.Bitmap.{Bitmap}
use Rattle.lw_ilbm.specs.declared.header.Header.{Header}
use Rattle.lw_ilbm.specs.declared.stop.PictureStop.{PictureStop}
use Rattle.lw_ilbm.specs.declared.stop.PictureStop.TheVariants.{BadPicture}
use Rattle.lw_ilbm.specs.Packing.{unpacked}
use Rattle.lw_ilbm.specs.Pictures.{picture, picture_length}

-- the number of 16 bits, and of 32, that begins at a place
abbrev pub word_at : List ℕ → ℕ → ℕ
word_at bytes place = from_be_bytes w16 (slice_index bytes place ∷ slice_index bytes (place + 1) ∷ [])

abbrev pub long_at : List ℕ → ℕ → ℕ
long_at bytes place =
    from_be_bytes w32
    (slice_index bytes place ∷ slice_index bytes (place + 1) ∷ slice_index bytes (place + 2) ∷ slice_index bytes (place + 3) ∷ [])

-- Where the input first differs from this name, which should stand at this place of it: a byte that is another one, or the
-- input's length where it ends before.
abbrev pub name_fault : List ℕ → ℕ → List ℕ → Option ℕ
name_fault bytes place [] = None
name_fault bytes place (c ∷ cs) =
    if nat_le (length bytes) place then Some (length bytes)
    else (if slice_index bytes place == c then name_fault bytes (place + 1) cs else Some place)

-- a mask plane is in no body where this is said of it
abbrev pub is_maskless : ℕ → Bool
is_maskless masking = (masking == 0) || ((masking == 2) || (masking == 3))

-- The header that a BMHD chunk gives: the first of its contents at this place. Or the first fault: too little contents, whose
-- place is the chunk's, a width or a height that is not 1 to the limit, planes that are not 1 to 8, a mask plane, or a packing
-- that is unknown.
abbrev pub header_of : ℕ → ℕ → List ℕ → Result Header ℕ
header_of limit place contents =
    if nat_lt (length contents) 20 then Err place
    else (if not (nat_le 1 (word_at contents 0) && nat_le (word_at contents 0) limit) then Err (place + 8)
    else (if not (nat_le 1 (word_at contents 2) && nat_le (word_at contents 2) limit) then Err (place + 10)
    else (if not (nat_le 1 (slice_index contents 8) && nat_le (slice_index contents 8) 8) then Err (place + 16)
    else (if not (is_maskless (slice_index contents 9)) then Err (place + 17)
    else (if nat_lt 1 (slice_index contents 10) then Err (place + 18)
    else Ok (record {
      width = word_at contents 0;
      height = word_at contents 2;
      depth = slice_index contents 8;
      is_packed = slice_index contents 10 == 1;
    }))))))

-- The picture that a BODY chunk gives whose contents are these and end at this place, or the fault that they are too few.
abbrev pub body_of : Header → ℕ → List ℕ → Result Bitmap ℕ
body_of header end contents =
    let bytes = if header.is_packed then unpacked contents else contents in
    if nat_lt (length bytes) (picture_length header) then Err end else Ok (picture header bytes)

-- the fault, where there is one, or else what follows
abbrev pub unless_fault : Option ℕ → Result Bitmap ℕ → Result Bitmap ℕ
unless_fault None next = next
unless_fault (Some place) next = Err place

-- what follows from a header, or its fault
abbrev pub with_header : Result Header ℕ → (Header → Result Bitmap ℕ) → Result Bitmap ℕ
with_header (Ok header) next = next header
with_header (Err place) next = Err place

-- what a body gives, or the fault that no header stands before it
abbrev pub after_header : Option Header → ℕ → (Header → Result Bitmap ℕ) → Result Bitmap ℕ
after_header None place next = Err place
after_header (Some header) place next = next header

-- What a chunk gives whose head is at this place, by its name, its contents and the header that was read before, and what follows
-- where it is passed over. The first BMHD chunk gives the header and the first BODY chunk the picture.
abbrev pub chunk_gives : ℕ → ℕ → List ℕ → List ℕ → Option Header → (Option Header → Result Bitmap ℕ) → Result Bitmap ℕ
chunk_gives limit place name contents header next =
    if bytes_eq name (codes "BODY") then after_header header place (λ h. body_of h (place + (8 + length contents)) contents)
    else (if bytes_eq name (codes "BMHD") && is_none header then with_header (header_of limit place contents) (λ h. next (Some h))
    else next header)

-- What the last bytes of a file of so many bytes give, by the header that was read before them, once the first of them are passed
-- over: chunk after chunk, each with a head of 8 bytes, its name and the length of its contents, and a byte more after contents
-- of odd length. A head that is cut off is a fault at the end, and contents that pass the end are one at the chunk's head.
abbrev pub chunks_after : ℕ → ℕ → Option Header → ℕ → List ℕ → Result Bitmap ℕ
chunks_after limit size header skip [] = Err size
chunks_after limit size header (suc skip) (b ∷ bs) = chunks_after limit size header skip bs
chunks_after limit size header zero (b ∷ bs) =
    let place = size - length (b ∷ bs) in
    let count = long_at (b ∷ bs) 4 in
    let rest = drop 8 (b ∷ bs) in
    if nat_lt (length (b ∷ bs)) 8 then Err size
    else (if nat_lt (length rest) count then Err place
    else chunk_gives limit place (take 4 (b ∷ bs)) (take count rest) header
    (λ h. chunks_after limit size h (7 + (count + count % 2)) bs))

-- What a file gives, whose picture may have so many columns, and so many rows: a picture, or the place of its first fault. FORM's
-- length is compared with nothing.
abbrev pub picture_of : ℕ → List ℕ → Result Bitmap ℕ
picture_of limit bytes =
    unless_fault (name_fault bytes 0 (codes "FORM"))
    (unless_fault (name_fault bytes 8 (codes "ILBM")) (chunks_after limit (length bytes) None 12 bytes))

-- a stop that isn't for want of memory tells the fault that was read
abbrev pub IsFaultOf : {A : Type 0} → Result A ℕ → PictureStop → Type 0
IsFaultOf read stop = (place : ℕ) → stop ≡ BadPicture place → read ≡ Err place
