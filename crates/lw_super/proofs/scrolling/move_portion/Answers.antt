use Rattle.std.proofs.Common.{◌≡◌, ◌+ℤ◌, arith, w32, to_z, of_z}
use Rattle.std.proofs.lemmas.Int.{ints}
use Rattle.lw_super.proofs.PortionLaws.{portion_moved}
use Rattle.lw_super.proofs.scrolling.move_portion.Goals as goal

pub returns : goal.returns
returns c =
    let d = c.args.live.now in
    let x : to_z w32 (of_z w32 (to_z w32 (of_z w32 d.scroll_x) +ℤ to_z w32 (of_z w32 c.args.dx))) ≡ d.scroll_x +ℤ c.args.dx = omega (arith, ints) in
    let y : to_z w32 (of_z w32 (to_z w32 (of_z w32 d.scroll_y) +ℤ to_z w32 (of_z w32 c.args.dy))) ≡ d.scroll_y +ℤ c.args.dy = omega (arith, ints) in
    portion_moved d c.write_back.new.live _ _ c.args.dx c.args.dy c.write_back.ensures x y
