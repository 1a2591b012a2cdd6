-- A row that was read in two parts, of which the layer has nothing of the first.
use Rattle.std.proofs.Common.{◌≡◌, ℕ, ◌+◌, ◌-◌, ◌*◌, ◌/◌, ◌%◌, ◌<◌, ◌≤◌, min, false, List, ◌++◌, length, ◌∙◌, sym, ap, subst, arith, ℤ, pos, negsuc, ◌+ℤ◌, ◌<ℤ◌, ⊎_elim}
use Rattle.std.specs.Int.{bit_at}
use Rattle.std.proofs.lemmas.Bool.{cases_lt}
use Rattle.std.proofs.lemmas.Int.{ints}
use Rattle.std.proofs.lemmas.List.{get_or_append_left, get_or-append-add}
use Rattle.lw_planes.specs.Row.{bit_of, row_bit}
use Rattle.lw_machine.specs.Kept.{holds_at}
use Rattle.lw_layer.specs.View.{keeps}
use Rattle.lw_layer.specs.Drafts.{live_view}
use Rattle.lw_layer.specs.Copied.{kept_bit, IsRowOf, AreClear}
use Rattle.lw_layer.specs.declared.draft.LiveDraft.{LiveDraft}
use Rattle.lw_layer.proofs.KeptLaws.{columns_off}
use Rattle.lw_layer.proofs.CopyingLaws.{kept_no}

-- a bit of the first of two rows, and of the second
row_bit_front : (one two : List ℕ) (i : ℕ) → i < 8 * length one → row_bit (one ++ two) i ≡ row_bit one i
unfolding row_bit
row_bit_front one two i inside = ap (λ w. bit_at w (7 - i % 8)) (get_or_append_left one two 0 (i / 8) (omega arith))

row_bit_back : (one two : List ℕ) (i : ℕ) → row_bit (one ++ two) (8 * length one + i) ≡ row_bit two i
unfolding row_bit
row_bit_back one two i =
    let byte : (8 * length one + i) / 8 ≡ length one + i / 8 = omega arith in
    let bit : (8 * length one + i) % 8 ≡ i % 8 = omega arith in
    rw (byte, bit) (ap (λ w. bit_at w (7 - i % 8)) (get_or-append-add one two (i / 8) 0))

-- the same, from a bit on
bit_behind : (one two : List ℕ) (cut i : ℕ) → length one ≡ cut → 8 * cut ≤ i → row_bit (one ++ two) i ≡ row_bit two (i - 8 * cut)
bit_behind one two cut i long behind =
    let at : i ≡ 8 * length one + (i - 8 * cut) = omega arith in
    ap (λ k. row_bit (one ++ two) k) at ∙ row_bit_back one two (i - 8 * cut)

-- no layer has a pixel so far left
far_off : (d : LiveDraft) (x y : ℤ) (i : ℕ) → x <ℤ negsuc 1999999999 → i < 268435456 → holds_at (λ u v. keeps (live_view d) u v) (x +ℤ pos i) y ≡ false
far_off d x y i far near = columns_off d (x +ℤ pos i) y (λ u is. absurd (omega (arith, ints)))

near_place : (x z : ℤ) (cut len i : ℕ) → z ≡ x +ℤ pos 268435456 → cut ≡ min len 33554432 → 8 * cut ≤ i → i < 8 * len → z +ℤ pos (i - 8 * cut) ≡ x +ℤ pos i
near_place x z cut len i is cut_is behind inside = omega (arith, ints)

pub row_joined : (d : LiveDraft) (plane : ℕ) (x y z w : ℤ) (cut len rest : ℕ) (one one_kept two two_kept : List ℕ) → AreClear one one_kept → IsRowOf (live_view d) plane z w (8 * rest) two two_kept
    → x <ℤ negsuc 1999999999 → z ≡ x +ℤ pos 268435456 → w ≡ y → cut ≡ min len 33554432 → rest + cut ≡ len → length one ≡ cut → length one_kept ≡ cut → IsRowOf (live_view d) plane x y (8 * len) (one ++ two) (one_kept ++ two_kept)
row_joined d plane x y z w cut len rest one one_kept two two_kept clear near far z_is w_is cut_is parts long long_kept =
    let c = live_view d in
    let P : ℤ → Type 0 = λ v. IsRowOf c plane z v (8 * rest) two two_kept in
    let row = subst P w_is near in
    record {
      pens =
          λ i below.
          ⊎_elim
          (λ (before : i < 8 * cut).
          let inside : i < 8 * length one = omega arith in
          row_bit_front one two i inside ∙ (clear.pens i ∙ sym (kept_no c plane (x +ℤ pos i) y (far_off d x y i far (omega arith)))))
          (λ (behind : 8 * cut ≤ i).
          bit_behind one two cut i long behind ∙
          (row.pens (i - 8 * cut) (omega arith) ∙ ap (λ v. kept_bit c plane v y) (near_place x z cut len i z_is cut_is behind below)))
          (cases_lt i (8 * cut));
      there =
          λ i below.
          ⊎_elim
          (λ (before : i < 8 * cut).
          let inside : i < 8 * length one_kept = omega arith in
          row_bit_front one_kept two_kept i inside ∙ (clear.there i ∙ ap (λ v. bit_of v) (sym (far_off d x y i far (omega arith)))))
          (λ (behind : 8 * cut ≤ i).
          bit_behind one_kept two_kept cut i long_kept behind ∙
          (row.there (i - 8 * cut) (omega arith) ∙ ap (λ v. bit_of (holds_at (λ p q. keeps c p q) v y)) (near_place x z cut len i z_is cut_is behind below)))
          (cases_lt i (8 * cut));
    }
