-- Bitmaps and rows added to those that were read.
use Rattle.std.proofs.Common.{◌≡◌, ℕ, zero, suc, ◌+◌, ◌-◌, ◌*◌, ◌<◌, ◌≤◌, ◌==◌, true, if◌then◌else◌, List, [], ◌∷◌, ◌++◌, length, ℤ, pos, unsigned_abs, to_z, of_z, SFits, Fits, w32, w64, refl, sym, ap, ◌∙◌, arith, length-append, append_assoc, append-nil, suc-mul}
use Rattle.std.proofs.lemmas.Bool.{ne_eqb}
use Rattle.std.proofs.lemmas.Int.{to_z-of_z}
use Rattle.std.proofs.lemmas.Nat.{mul-le}
use Rattle.lw_region.specs.Rectangle.{within}
use Rattle.lw_planes.specs.Bitmap.{Bitmap}
use Rattle.lw_planes.specs.Sizes.{AreSizes}
use Rattle.lw_planes.specs.Storage.{stored}
use Rattle.lw_grammar.proofs.ScriptCalls.{size_range}

-- A size that was read is the one on the line, and lies in its range.
pub record IsSizeRead (z : ℤ) (n most : ℕ) : Type 0 where
  pub is : n ≡ unsigned_abs z
  pub lower : 1 ≤ n
  pub upper : n ≤ most

pub size_read : (z : ℤ) (n most : ℕ) → SFits w64 z → n ≡ unsigned_abs (to_z w64 (of_z w64 z)) → within (pos 1) z (pos most) ≡ true → IsSizeRead z n most
size_read z n most fits e h =
    let is : n ≡ unsigned_abs z = e ∙ ap unsigned_abs (to_z-of_z w64 z fits) in
    let range = size_range z most h in
    record { is = is; lower = rw is range.0; upper = rw is range.1 }

-- sizes that were read are those of planes
pub sizes_of : (wz hz dz : ℤ) (w h d : ℕ) → IsSizeRead wz w 1024 → IsSizeRead hz h 1024 → IsSizeRead dz d 8 → AreSizes w h d
sizes_of wz hz dz w h d a b c =
    record {
      columns = (a.lower, omega (arith, a.upper));
      rows = (b.lower, omega (arith, b.upper));
      planes = (c.lower, c.upper);
    }

-- at first all rows are due
pub rows_due_all : (due n : ℕ) (new : List ℕ) → new ≡ [] → length new + due * n ≡ due * n
rows_due_all due n new e = rw e (omega arith)

-- some rows are due
pub rows_some : (d h : ℕ) → 1 ≤ d → 1 ≤ h → d * h ≡ 0 → ⊥
rows_some d h deep high none = let least : 1 * 1 ≤ d * h = mul-le 1 1 d h deep high in omega (arith, least, none)

-- rows of all planes, as many as there may be
pub rows_fit : (d h : ℕ) → d ≤ 8 → h ≤ 1024 → Fits w32 (d * h)
rows_fit d h deep high = let few : d * h ≤ 8 * 1024 = mul-le d h 8 1024 deep high in omega (arith, few)

-- with a bitmap begun, no row of which was read, the bitmaps are one more
pub bitmap_begun : (due w h d : ℕ) (new rows : List ℕ) (maps above : List Bitmap) → (due ≡ 0 → ⊥) → new ≡ [] → maps ++ [] ≡ above → maps ++ (if due == 0 then [] else stored w h d (new ++ rows) ∷ []) ≡ above ++ stored w h d rows ∷ []
bitmap_begun due w h d new rows maps above some e f =
    rw (ne_eqb due 0 some, e) (ap (λ m. m ++ stored w h d rows ∷ []) (sym (append-nil maps) ∙ f))

-- where no rows are due, no bitmap is begun
pub none_begun : (due : ℕ) (begun maps above : List Bitmap) → due ≡ 0 → maps ++ (if due == 0 then [] else begun) ≡ above → maps ++ [] ≡ above
none_begun due begun maps above none e = rw none at e

-- a bitmap of the same sizes
pub same_bitmap : (w h d v g c : ℕ) (rows : List ℕ) (above : List Bitmap) → w ≡ v → h ≡ g → d ≡ c → above ++ stored w h d rows ∷ [] ≡ above ++ stored v g c rows ∷ []
same_bitmap w h d v g c rows above a b e = rw (a, b, e) refl

-- With a row that isn't the last, the bitmaps are those of the row and the rows after it.
pub row_added : (due w h d : ℕ) (old new bytes rows : List ℕ) (maps above : List Bitmap) → (due - 1 ≡ 0 → ⊥) → new ≡ old ++ bytes → maps ++ (if due == 0 then [] else stored w h d (old ++ (bytes ++ rows)) ∷ []) ≡ above → maps ++ (if due - 1 == 0 then [] else stored w h d (new ++ rows) ∷ []) ≡ above
row_added due w h d old new bytes rows maps above some e f =
    let before : maps ++ stored w h d (old ++ (bytes ++ rows)) ∷ [] ≡ above = rw (ne_eqb due 0 (λ none. some (omega (arith, none)))) at f in
    rw (ne_eqb (due - 1) 0 some, e, append_assoc old bytes rows) before

-- the rows so far and those due, with a row more
pub row_counted : (due n all : ℕ) (old new bytes : List ℕ) → 0 < due → new ≡ old ++ bytes → length bytes ≡ n → length old + due * n ≡ all → length new + (due - 1) * n ≡ all
row_counted zero n all old new bytes some e long whole = absurd (omega (arith, some))
row_counted (suc due) n all old new bytes some e long whole =
    let less : suc due - 1 ≡ due = omega arith in
    rw (less, e) (omega (arith, length-append old bytes, suc-mul due n, long, whole))
