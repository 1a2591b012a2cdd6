use Rattle.lw_layer.proofs.NewLaws.{part_size}
use Rattle.lw_layer.proofs.new.blank.Goals as goal

pub new-requires : goal.new-requires
new-requires c = rw (c.width.ensures.value, c.height.ensures.value) (part_size c.args.rect.now c.args.bounds.now c.args.depth c.width.ensures.ordered c.requires.inside c.requires.sizes)
