use Rattle.std.proofs.Common.{refl}
use Rattle.lw_region.specs.Pixels.{contains_pixel, pixels_of, difference}
use Rattle.lw_region.specs.Bands.{bands}
use Rattle.lw_cliprects.specs.Parts.{hidden_of}
use Rattle.lw_cliprects.proofs.laws.one_cover_law.Goals as goal

pub returns : goal.returns
unfolding contains_pixel pixels_of difference bands hidden_of
returns c = record { visible = refl; hidden = refl }
