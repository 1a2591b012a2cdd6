use Rattle.std.proofs.Common.{◌≡◌, ◌+◌, ◌<ℤ◌, ℤ, false, min, length, negsuc, ◌∙◌, arith, rules, w32}
use Rattle.std.specs.Prelude.{int_le}
use Rattle.std.proofs.lemmas.Int.{ints, to_z-of_z}
use Rattle.lw_layer.proofs.CopyingJoined.{row_joined}
use Rattle.lw_layer.proofs.draft.LiveDraft.copy_row.Goals as goal

-- what the test says
left_of : (a b : ℤ) → int_le a b ≡ false → b <ℤ a
left_of a b h = grind (arith, ints)

pub returns : goal.returns
returns c =
    let x = to_z-of_z w32 c.args.x c.ranges.x in
    let y = to_z-of_z w32 c.args.y c.ranges.y in
    let far : c.args.x <ℤ negsuc 1999999999 = left_of (negsuc 1999999999) c.args.x (rw x at c.if-x-ge-FIRST.false) in
    let cut : c.min-cut.result ≡ min (length c.args.bits.now) 33554432 = search rules in
    let parts : length c.split_at_mut-far_bits.result.1.now + c.min-cut.result ≡ length c.args.bits.now = c.split_at_mut-far_bits.ensures.back_len in
    let long : length c.clear.new.bits ≡ c.min-cut.result = c.clear.auto.bits ∙ c.split_at_mut-far_bits.ensures.front_len in
    let long_kept : length c.clear.new.kept ≡ c.min-cut.result = c.clear.auto.kept ∙ c.split_at_mut-far_kept.ensures.front_len in
    row_joined c.args.self.now c.args.plane c.args.x c.args.y _ _ c.min-cut.result (length c.args.bits.now) (length c.split_at_mut-far_bits.result.1.now) c.clear.new.bits c.clear.new.kept c.copy_near-2.new.bits c.copy_near-2.new.kept
    c.clear.ensures c.copy_near-2.ensures far (omega (arith, ints)) y cut parts long long_kept
