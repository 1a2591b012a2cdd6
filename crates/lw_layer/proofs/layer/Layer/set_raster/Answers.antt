use Rattle.lw_layer.proofs.layer.Layer.set_raster.Goals as goal
use Rattle.lw_layer.proofs.SetLaws.{raster_replaced}

pub invariant_of-self : goal.invariant_of-self
invariant_of-self c = raster_replaced c.self.inside.draft c.args.raster c.requires c.self.invariant
