use Rattle.std.proofs.Common.{◌≡◌, ℕ, ◌+◌, ◌-◌, ◌*◌, ◌<◌, ◌≤◌, length, get_or, ap, refl, ◌∙◌, arith}
use Rattle.std.specs.Int.{bit_at, w8}
use Rattle.std.proofs.lemmas.Nat.Bits.{bit_at_not}
use Rattle.lw_planes.specs.Row.{row_bit}
use Rattle.lw_kernels.proofs.RowWriting.{before_none, before_more, before_all, before_at, before_old, byte_old, whole_byte}
use Rattle.lw_kernels.proofs.flipping.flip_bytes.Goals as goal

pub loop-index-init : goal.loop-index-init
loop-index-init c = before_none c.args.row.now (λ x. 1 - row_bit c.args.row.now x) (8 * c.args.first) (8 * (c.args.first + c.args.count)) (c.args.first + 0) (omega arith)

pub loop-index-preserved : goal.loop-index-preserved
loop-index-preserved c =
    let old : ℕ → ℕ = λ x. row_bit c.args.row.now x in
    let new : ℕ → ℕ = λ x. 1 - row_bit c.args.row.now x in
    let first : ℕ = c.args.first in
    let last : ℕ = first + c.args.count in
    let index : ℕ = first + c.loop-index.index in
    let inside : index < length c.loop-index.row = omega arith in
    let next : index + 1 ≡ first + (c.loop-index.index + 1) = omega arith in
    before_at _ new old (8 * first) (8 * last) (index + 1) (first + (c.loop-index.index + 1)) next
    (before_more c.loop-index.row new old (8 * first) (8 * last) index (255 - get_or c.loop-index.row index 0) inside c.loop-index.invariant
    (λ j low.
    let byte : ℕ = get_or c.loop-index.row index 0 in
    let small : byte < 256 = omega arith in
    let was : bit_at byte (7 - j) ≡ old (8 * index + j) = byte_old c.loop-index.row index byte j low refl ∙ before_old c.loop-index.row new old (8 * first) (8 * last) index (8 * index + j) c.loop-index.invariant (omega arith) in
    whole_byte first last index j (bit_at (255 - byte) (7 - j)) (new (8 * index + j)) (old (8 * index + j)) (omega arith) (omega arith) low
    (bit_at_not w8 byte (7 - j) small (omega arith) ∙ ap (λ n. 1 - n) was)))

pub returns : goal.returns
returns c =
    let late : 8 * (c.args.first + c.args.count) ≤ 8 * (c.args.first + c.loop-index.index) = omega arith in
    before_all c.loop-index.row (λ x. 1 - row_bit c.args.row.now x) (λ x. row_bit c.args.row.now x) (8 * c.args.first) (8 * (c.args.first + c.args.count)) (c.args.first + c.loop-index.index) late c.loop-index.invariant
