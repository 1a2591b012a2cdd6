-- Laws of tiles in bits.
use Rattle.std.proofs.Common.{◌≡◌, ℕ, zero, suc, ◌+◌, ◌-◌, ◌*◌, ◌%◌, ◌<◌, List, [], ◌∷◌, ◌∙◌, ap, ℤ, pos, arith}
use Rattle.std.specs.Int.{bit_at}
use Rattle.std.specs.List.{slice_index_or}
use Rattle.std.proofs.lemmas.Nat.Bits.{bit_at-lt}
use Rattle.lw_planes.specs.Pen.{pen_of}
use Rattle.lw_planes.proofs.PenLaws.{bit_pen_of}
use Rattle.lw_machine.specs.Hook.{Hook, hook_pen, tile_place}
use Rattle.lw_hook_fill.specs.Filling.{byte_bit, IsTileOf}

-- a byte that was gathered from its last column to its first
pub byte_gathered : (pens : List ℕ) (plane byte i : ℕ) → byte ≡ pen_of 8 (λ k. bit_at (slice_index_or pens (7 - k) 0) plane) → i < 8 → bit_at byte (7 - i) ≡ bit_at (slice_index_or pens i 0) plane
byte_gathered pens plane byte i is near =
    let bits : ℕ → ℕ = λ k. bit_at (slice_index_or pens (7 - k) 0) plane in
    let back : 7 - (7 - i) ≡ i = omega (arith, near) in
    ap (λ b. bit_at b (7 - i)) is ∙
    (bit_pen_of 8 bits (7 - i) (λ k _. bit_at-lt (slice_index_or pens (7 - k) 0) plane) (omega (arith, near)) ∙
    ap (λ k. bit_at (slice_index_or pens k 0) plane) back)

-- a byte has the bits of eight pens in a plane
abbrev pub IsPlaneByte : List ℕ → ℕ → ℕ → Type 0
IsPlaneByte pens plane byte = (i : ℕ) → i < 8 → bit_at byte (7 - i) ≡ bit_at (slice_index_or pens i 0) plane

-- and eight bytes have them in all planes
abbrev pub ArePlaneBytes : List ℕ → List ℕ → Type 0
ArePlaneBytes pens bytes = (p i : ℕ) → p < 8 → i < 8 → bit_at (slice_index_or bytes p 0) (7 - i) ≡ bit_at (slice_index_or pens i 0) p

pub eight_planes : (pens : List ℕ) (b0 b1 b2 b3 b4 b5 b6 b7 : ℕ) → IsPlaneByte pens 0 b0 → IsPlaneByte pens 1 b1 → IsPlaneByte pens 2 b2 → IsPlaneByte pens 3 b3 → IsPlaneByte pens 4 b4 → IsPlaneByte pens 5 b5 → IsPlaneByte pens 6 b6 → IsPlaneByte pens 7 b7 → ArePlaneBytes pens (b0 ∷ b1 ∷ b2 ∷ b3 ∷ b4 ∷ b5 ∷ b6 ∷ b7 ∷ [])
eight_planes pens b0 b1 b2 b3 b4 b5 b6 b7 e0 e1 e2 e3 e4 e5 e6 e7 zero i deep near = e0 i near
eight_planes pens b0 b1 b2 b3 b4 b5 b6 b7 e0 e1 e2 e3 e4 e5 e6 e7 (suc zero) i deep near = e1 i near
eight_planes pens b0 b1 b2 b3 b4 b5 b6 b7 e0 e1 e2 e3 e4 e5 e6 e7 (suc (suc zero)) i deep near = e2 i near
eight_planes pens b0 b1 b2 b3 b4 b5 b6 b7 e0 e1 e2 e3 e4 e5 e6 e7 (suc (suc (suc zero))) i deep near = e3 i near
eight_planes pens b0 b1 b2 b3 b4 b5 b6 b7 e0 e1 e2 e3 e4 e5 e6 e7 (suc (suc (suc (suc zero)))) i deep near = e4 i near
eight_planes pens b0 b1 b2 b3 b4 b5 b6 b7 e0 e1 e2 e3 e4 e5 e6 e7 (suc (suc (suc (suc (suc zero))))) i deep near = e5 i near
eight_planes pens b0 b1 b2 b3 b4 b5 b6 b7 e0 e1 e2 e3 e4 e5 e6 e7 (suc (suc (suc (suc (suc (suc zero)))))) i deep near = e6 i near
eight_planes pens b0 b1 b2 b3 b4 b5 b6 b7 e0 e1 e2 e3 e4 e5 e6 e7 (suc (suc (suc (suc (suc (suc (suc zero))))))) i deep near = e7 i near
eight_planes pens b0 b1 b2 b3 b4 b5 b6 b7 e0 e1 e2 e3 e4 e5 e6 e7 (suc (suc (suc (suc (suc (suc (suc (suc p)))))))) i deep near = absurd (omega arith)

-- a row's bytes are those of the hook in a row of the layer
abbrev pub IsRowOf : Hook → ℤ → List ℕ → Type 0
IsRowOf h y bytes = (p x : ℕ) → p < 8 → byte_bit (slice_index_or bytes p 0) x ≡ bit_at (hook_pen h (pos x) y) p

pub row_told : (h : Hook) (y : ℤ) (pens bytes : List ℕ) → ((x : ℤ) → slice_index_or pens (tile_place x) 0 ≡ hook_pen h x y) → ArePlaneBytes pens bytes → IsRowOf h y bytes
row_told h y pens bytes row planes p x deep =
    let place : x % 8 ≡ tile_place (pos x) = omega arith in
    planes p (x % 8) deep (omega arith) ∙ (ap (λ k. bit_at (slice_index_or pens k 0) p) place ∙ ap (λ pen. bit_at pen p) (row (pos x)))

-- each eighth row of the layer has the same pens
same_row : (h : Hook) (x : ℤ) (y : ℕ) → hook_pen h x (pos (y % 8)) ≡ hook_pen h x (pos y)
unfolding hook_pen
same_row h x y =
    let place : tile_place (pos (y % 8)) ≡ tile_place (pos y) = omega arith in
    ap (λ k. slice_index_or (slice_index_or h.tiles h.place []) (8 * k + tile_place x) 0) place

pub tile_told : (h : Hook) (r0 r1 r2 r3 r4 r5 r6 r7 : List ℕ) → IsRowOf h (pos 0) r0 → IsRowOf h (pos 1) r1 → IsRowOf h (pos 2) r2 → IsRowOf h (pos 3) r3 → IsRowOf h (pos 4) r4 → IsRowOf h (pos 5) r5 → IsRowOf h (pos 6) r6 → IsRowOf h (pos 7) r7 → IsTileOf h (r0 ∷ r1 ∷ r2 ∷ r3 ∷ r4 ∷ r5 ∷ r6 ∷ r7 ∷ [])
tile_told h r0 r1 r2 r3 r4 r5 r6 r7 e0 e1 e2 e3 e4 e5 e6 e7 p x y old deep =
    each (y % 8) (omega arith) ∙ ap (λ pen. bit_at pen p) (same_row h (pos x) y)
  where
    each : (n : ℕ) → n < 8 → byte_bit (slice_index_or (slice_index_or (r0 ∷ r1 ∷ r2 ∷ r3 ∷ r4 ∷ r5 ∷ r6 ∷ r7 ∷ []) n []) p 0) x ≡ bit_at (hook_pen h (pos x) (pos n)) p
    each zero within = e0 p x deep
    each (suc zero) within = e1 p x deep
    each (suc (suc zero)) within = e2 p x deep
    each (suc (suc (suc zero))) within = e3 p x deep
    each (suc (suc (suc (suc zero)))) within = e4 p x deep
    each (suc (suc (suc (suc (suc zero))))) within = e5 p x deep
    each (suc (suc (suc (suc (suc (suc zero)))))) within = e6 p x deep
    each (suc (suc (suc (suc (suc (suc (suc zero))))))) within = e7 p x deep
    each (suc (suc (suc (suc (suc (suc (suc (suc n)))))))) within = absurd (omega arith)
