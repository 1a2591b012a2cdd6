use Rattle.lw_buffers.proofs.StripsLaws.{strip_sized}
use Rattle.std.proofs.Common.{sym, subst}
use Rattle.lw_region.specs.Rectangle.{Rectangle}
use Rattle.lw_planes.specs.Bitmap.{Bitmap}
use Rattle.lw_buffers.specs.Lookup.{IsBufferOf}
use Rattle.lw_buffers.proofs.copying.copy_strip.Goals as goal

pub copy_from-requires-clause-size : goal.copy_from-requires-clause-size
copy_from-requires-clause-size c =
    let s = c.args.strip.now in
    let P : Rectangle → Type 0 = λ r. IsBufferOf r c.bitmap.result.now in
    let Q : Bitmap → Type 0 = λ b. IsBufferOf s.rect b in
    subst P (sym c.rect.ensures.value) (subst Q (sym c.bitmap.ensures.value) (strip_sized s c.rect.ensures.strip))
