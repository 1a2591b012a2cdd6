use Rattle.std.proofs.Common.{pos}
use Rattle.lw_planes.proofs.BitmapLaws.{pen_at_bitmap}
use Rattle.lw_machine.specs.Screen.{top, screen, pen_of_top}
use Rattle.lw_machine.proofs.laws.screen_shows_the_top.Goals as goal

pub returns : goal.returns
unfolding screen
returns c =
    λ d x y left low. pen_at_bitmap d.sizes.width d.sizes.height d.sizes.depth
    (λ x y. pen_of_top d (top d (pos x) (pos y)) (pos x) (pos y)) x y left low
