use Rattle.lw_reveal.proofs.CarryingLaws.{smart_kept, super_kept}
use Rattle.lw_reveal.proofs.carrying.kept_size.Goals as goal

pub returns-in-Smart : goal.returns-in-Smart
returns-in-Smart c d sees sound =
    smart_kept d c.args.look.now c.width.result c.height.result c.in-Smart.is sees sound c.width.ensures.value c.height.ensures.value

pub returns-in-SuperBitmap : goal.returns-in-SuperBitmap
returns-in-SuperBitmap c d sees sound = super_kept d c.args.look.now c.in-SuperBitmap.is sees
