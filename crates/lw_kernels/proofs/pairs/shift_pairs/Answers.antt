use Rattle.std.proofs.Common.{ℕ, ◌+◌, ◌-◌, ◌*◌, ◌%◌, ◌<◌, ◌≤◌, nat_lt, if◌then◌else◌, length, get_or, refl, arith}
use Rattle.std.specs.Int.{bit_at}
use Rattle.lw_planes.specs.Row.{row_bit}
use Rattle.lw_kernels.proofs.ByteLaws.{shifted_pair}
use Rattle.lw_kernels.proofs.RowWriting.{before_none, before_more, before_all, done_inside, whole_byte}
use Rattle.lw_kernels.proofs.pairs.shift_pairs.Goals as goal

pub loop-index-init : goal.loop-index-init
loop-index-init c = before_none c.args.block.now (λ x. if nat_lt (x % 8 + c.args.shift) 8 then row_bit c.args.left.now (x + c.args.shift) else row_bit c.args.right.now (x + c.args.shift - 8)) (8 * 0) (8 * 16) 0 (omega arith)

pub loop-index-preserved : goal.loop-index-preserved
loop-index-preserved c =
    let left = c.args.left.now in
    let right = c.args.right.now in
    let shift : ℕ = c.args.shift in
    let old : ℕ → ℕ = λ x. row_bit c.args.block.now x in
    let new : ℕ → ℕ = λ x. if nat_lt (x % 8 + shift) 8 then row_bit left (x + shift) else row_bit right (x + shift - 8) in
    let index : ℕ = c.loop-index.index in
    let inside : index < length c.loop-index.block = omega arith in
    before_more c.loop-index.block new old (8 * 0) (8 * 16) index c.shifted.result inside c.loop-index.invariant
    (λ j low.
    whole_byte 0 16 index j (bit_at c.shifted.result (7 - j)) (new (8 * index + j)) (old (8 * index + j)) (omega arith) (omega arith) low
    (shifted_pair left right index (get_or left index 0) (get_or right index 0) shift j (bit_at c.shifted.result (7 - j)) low c.requires.low refl refl (c.shifted.ensures j low)))

pub returns : goal.returns
returns c = λ x low.
    let new : ℕ → ℕ = λ x. if nat_lt (x % 8 + c.args.shift) 8 then row_bit c.args.left.now (x + c.args.shift) else row_bit c.args.right.now (x + c.args.shift - 8) in
    let old : ℕ → ℕ = λ x. row_bit c.args.block.now x in
    let late : 8 * 16 ≤ 8 * c.loop-index.index = omega arith in
    let first : 8 * 0 ≤ x = omega arith in
    let last : x < 8 * 16 = omega (arith, low) in
    done_inside c.loop-index.block new old (8 * 0) (8 * 16) x (before_all c.loop-index.block new old (8 * 0) (8 * 16) c.loop-index.index late c.loop-index.invariant) first last
