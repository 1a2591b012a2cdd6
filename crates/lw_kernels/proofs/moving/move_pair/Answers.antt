use Rattle.std.proofs.Common.{◌+◌, ◌-◌, ◌*◌, arith}
use Rattle.lw_planes.specs.Row.{row_bit}
use Rattle.lw_kernels.proofs.PairLaws.{pair_put}
use Rattle.lw_kernels.proofs.moving.move_pair.Goals as goal

pub returns : goal.returns
returns c =
    pair_put c.copy_plain.new.to c.copy_plain-2.new.to c.fetch_pair.new.block c.args.row.now (λ x. row_bit c.args.row.now x) (8 * c.args.start + c.args.shift) c.args.first c.args.last c.args.size (8 * (c.args.start + (c.args.last - c.args.first) - c.args.size) + c.args.shift)
    c.requires.one_inside c.requires.two_cover (omega arith) c.fetch_pair.ensures.one c.fetch_pair.ensures.two c.copy_plain.ensures c.copy_plain-2.ensures
