-- ByteRun1, the packing of the rows of a picture (the IFF text on ILBM; which runs are packed as repeats is this project's own).
-- A code is a byte and what follows it: a byte c from 0 to 127 says that the next c + 1 bytes stand as they are, one from 129 to
-- 255 that the next byte stands 257 - c times, and 128 says nothing.
use Rattle.std.specs.Prelude.{ℕ, zero, suc, ◌+◌, ◌-◌, min, Bool, false, ◌&&◌, ◌==◌, nat_le, if◌then◌else◌, List, [], ◌∷◌, ◌++◌}
use Rattle.std.specs.Prelude.{take}
use Rattle.std.specs.Prelude.{replicate}

-- how many of the bytes from the first on are this one
abbrev pub equal_bytes : ℕ → List ℕ → ℕ
equal_bytes b [] = 0
equal_bytes b (c ∷ cs) = if c == b then 1 + equal_bytes b cs else 0

-- three equal bytes come next
abbrev pub has_three_equal : List ℕ → Bool
has_three_equal [] = false
has_three_equal (a ∷ []) = false
has_three_equal (a ∷ b ∷ []) = false
has_three_equal (a ∷ b ∷ c ∷ rest) = (b == a) && (c == a)

-- how many bytes stand before the next three equal ones, or before the end
abbrev pub bytes_before_three : List ℕ → ℕ
bytes_before_three [] = 0
bytes_before_three (b ∷ bs) = if has_three_equal (b ∷ bs) then 0 else 1 + bytes_before_three bs

-- how many bytes a code takes at most
abbrev pub code_limit : ℕ
code_limit = 128

-- The codes of a row whose first bytes, so many of them, stand in the code before. Where three or more equal bytes come next they
-- are one repeat of at most 128; else the bytes up to the next three equal ones, the row's end or 128 of them are one copy.
abbrev pub packed_after : ℕ → List ℕ → List ℕ
packed_after skip [] = []
packed_after zero (b ∷ bs) =
    let same = min code_limit (equal_bytes b (b ∷ bs)) in
    let other = min code_limit (bytes_before_three (b ∷ bs)) in
    if has_three_equal (b ∷ bs)
    then (257 - same) ∷ b ∷ packed_after (same - 1) bs
    else (other - 1) ∷ (take other (b ∷ bs) ++ packed_after (other - 1) bs)
packed_after (suc skip) (b ∷ bs) = packed_after skip bs

-- a row of bytes packed
abbrev pub packed : List ℕ → List ℕ
packed row = packed_after 0 row

-- The bytes that codes stand for, where the first bytes, so many of them, belong to a copy that was begun. A code that the end
-- cuts off stands for those of its bytes that are there.
abbrev pub unpacked_after : ℕ → List ℕ → List ℕ
unpacked_after copied [] = []
unpacked_after zero (c ∷ []) = []
unpacked_after zero (c ∷ b ∷ bs) =
    if nat_le c 127 then b ∷ unpacked_after c bs
    else (if c == 128 then unpacked_after 0 (b ∷ bs) else replicate (257 - c) b ++ unpacked_after 0 bs)
unpacked_after (suc copied) (b ∷ bs) = b ∷ unpacked_after copied bs

-- the bytes that codes stand for
abbrev pub unpacked : List ℕ → List ℕ
unpacked codes = unpacked_after 0 codes
