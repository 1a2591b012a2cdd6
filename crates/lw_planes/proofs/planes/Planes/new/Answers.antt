use Rattle.std.proofs.Common.{ap, ◌∙◌}
use Rattle.lw_planes.specs.Storage.{stored}
use Rattle.lw_planes.proofs.planes.Planes.new.Goals as goal
use Rattle.lw_planes.proofs.StorageLaws.{stored_zeros}

pub returns : goal.returns
returns c =
    let zeros = c.in_ok-bytes.ensures.items_if_clones_equal (λ y same. same) in
    ap (λ bytes. stored c.args.width c.args.height c.args.depth bytes) zeros ∙ stored_zeros c.args.width c.args.height c.args.depth _
