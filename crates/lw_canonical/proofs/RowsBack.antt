-- The rows of a bitmap that good row lines gave are the rows of its planes.
use Rattle.std.proofs.Common.{◌≡◌, ℕ, zero, suc, ◌+◌, ◌-◌, ◌*◌, ◌<◌, ◌≤◌, ◌==◌, Bool, false, List, [], ◌∷◌, length, slice_index, sym, ap, ◌∙◌, arith, ⊎_elim}
use Rattle.std.specs.List.{list_any, range_with_len}
use Rattle.std.specs.Int.{bit_at}
use Rattle.lw_planes.specs.Row.{row_bit}
use Rattle.lw_planes.specs.Bitmap.{Bitmap, row_bytes, plane_bit, plane_row}
use Rattle.lw_planes.specs.Storage.{bit_place, stored}
use Rattle.lw_planes.proofs.PenLaws.{byte_of_same, byte_same}
use Rattle.lw_planes.proofs.RowLaws.{row_bit_lt, row_bit_at}
use Rattle.lw_planes.proofs.BitmapLaws.{length_plane_row, plane_row_at}
use Rattle.lw_planes.proofs.StorageLaws.{bit_stored}
use Rattle.lw_planes.proofs.DefinitionLaws.{plane_bit_inside, plane_bit_padding}
use Rattle.lw_grammar.specs.Statements.{RowLine}
use Rattle.lw_grammar.specs.Script.{has_padding}
use Rattle.lw_grammar.specs.GoodLines.{AreBytes}
use Rattle.std.proofs.lemmas.Bool.{cases_lt, or_parts}
use Rattle.std.proofs.lemmas.Bool.Decides.{nat_tests}
use Rattle.std.proofs.lemmas.Grind.{same_number_lists}

-- a row of a bitmap of this width: its bytes, without bits in the padding
pub record IsRow (w : ℕ) (row : List ℕ) : Type 0 where
  pub long : length row ≡ row_bytes w
  pub bytes : AreBytes row
  pub empty : (x : ℕ) → w ≤ x → x < 8 * row_bytes w → row_bit row x ≡ 0

-- none of these numbers passes a test that none of them passes
none_passes : (p : ℕ → Bool) (a n : ℕ) → list_any p (range_with_len a n) ≡ false → (x : ℕ) → a ≤ x → x < a + n → p x ≡ false
none_passes p a zero h x low high = absurd (omega arith)
none_passes p a (suc n) h x low high =
    let parts = or_parts (p a) (list_any p (range_with_len (a + 1) n)) h in
    ⊎_elim
    (λ (later : a < x). none_passes p (a + 1) n parts.1 x (omega arith) (omega arith))
    (λ (first : x ≤ a). let same : a ≡ x = omega arith in ap p (sym same) ∙ parts.0)
    (cases_lt a x)

-- a bit that isn't 1 is 0
bit_off : (b : ℕ) → b < 2 → (b == 1) ≡ false → b ≡ 0
bit_off b low h = grind (arith, nat_tests)

-- a row of good bytes without padding
pub row_made : (w : ℕ) (row : List ℕ) → length row ≡ row_bytes w → AreBytes row → has_padding w (RowLine row) ≡ false → IsRow w row
row_made w row long bytes h =
    record {
      long = long;
      bytes = bytes;
      empty = λ x low high. bit_off (row_bit row x) (row_bit_lt row x) (none_passes (λ k. row_bit row k == 1) w (8 * length row - w) h x low (omega (arith, long)));
    }

-- a byte of bytes
byte_small : (row : List ℕ) (i : ℕ) → AreBytes row → slice_index row i < 256
byte_small [] i h = omega arith
byte_small (b ∷ bs) zero h = let small : b ≤ 255 = h.0 in omega arith
byte_small (b ∷ bs) (suc i) h = byte_small bs i h.1

-- A row of a plane of stored bytes is the row whose bits stand there.
pub row_back : (w h d : ℕ) (bytes : List ℕ) (k y : ℕ) (row : List ℕ) → k < d → y < h → IsRow w row → ((x : ℕ) → x < w → row_bit row x ≡ row_bit bytes (bit_place w h k x y)) → plane_row (stored w h d bytes) k y ≡ row
row_back w h d bytes k y row deep low r same =
    let b : Bitmap = stored w h d bytes in
    let long : length (plane_row b k y) ≡ row_bytes w = length_plane_row b k y in
    let bits : (x : ℕ) → x < 8 * row_bytes w → plane_bit b k x y ≡ row_bit row x = λ x in_row. ⊎_elim (λ (left : x < w). plane_bit_inside b k x y left ∙ bit_stored w h d bytes k x y deep left low ∙ sym (same x left)) (λ (past : w ≤ x). plane_bit_padding b k x y past ∙ sym (r.empty x past in_row)) (cases_lt x w) in
    same_number_lists (plane_row b k y) row (long ∙ sym r.long) (λ i high. (let inside : i < row_bytes w = omega (arith, long) in
    plane_row_at b k y i inside ∙ byte_of_same (λ j. plane_bit b k (8 * i + j) y) (λ j. bit_at (slice_index row i) (7 - j)) (λ j few. bits (8 * i + j) (omega (arith, inside, few)) ∙ row_bit_at row i j few) ∙ byte_same (slice_index row i) (byte_small row i r.bytes)))
