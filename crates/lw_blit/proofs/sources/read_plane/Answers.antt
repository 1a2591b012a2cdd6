use Rattle.std.proofs.Common.{◌≡◌, ◌/◌, ◌<◌, length, ◌∙◌, ap, ℤ, pos, ◌+ℤ◌, to_z, of_z, w32, arith, rules}
use Rattle.lw_planes.specs.Row.{bit_of}
use Rattle.lw_machine.specs.Kept.{holds_at}
use Rattle.lw_layer.specs.View.{keeps}
use Rattle.lw_layer.specs.Copied.{kept_bit}
use Rattle.lw_blit.proofs.SourceLaws.{bit_in_front}
use Rattle.lw_blit.proofs.sources.read_plane.Goals as goal

-- a number as the code has it
abbrev word : ℤ → ℤ
word z = to_z w32 (of_z w32 z)

pub returns-clause-bits : goal.returns-clause-bits
returns-clause-bits c i low =
    let live = c.args.source.now in
    let across : word c.args.x ≡ c.args.x = search rules in
    let down : word c.args.y ≡ c.args.y = search rules in
    let long : length c.copy_pixels.new.bits ≡ c.args.bytes = search rules in
    let near : i / 8 < length c.copy_pixels.new.bits = omega (arith, low, long) in
    bit_in_front c.copy_pixels.new.bits _ i near ∙
    (c.copy_pixels.ensures.bits i (omega (arith, low, long)) ∙
    (ap (λ z. kept_bit live c.args.plane (z +ℤ pos i) (word c.args.y)) across ∙ ap (λ z. kept_bit live c.args.plane (c.args.x +ℤ pos i) z) down))

pub returns-clause-kept : goal.returns-clause-kept
returns-clause-kept c i low =
    let live = c.args.source.now in
    let across : word c.args.x ≡ c.args.x = search rules in
    let down : word c.args.y ≡ c.args.y = search rules in
    let long : length c.copy_pixels.new.kept ≡ c.args.bytes = search rules in
    let near : i / 8 < length c.copy_pixels.new.kept = omega (arith, low, long) in
    bit_in_front c.copy_pixels.new.kept _ i near ∙
    (c.copy_pixels.ensures.kept i (omega (arith, low, long)) ∙
    (ap (λ z. bit_of (holds_at (λ u v. keeps live u v) (z +ℤ pos i) (word c.args.y))) across ∙ ap (λ z. bit_of (holds_at (λ u v. keeps live u v) (c.args.x +ℤ pos i) z)) down))
