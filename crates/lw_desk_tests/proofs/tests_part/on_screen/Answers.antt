use Rattle.std.proofs.Common.{◌∙◌, sym, ap}
use Rattle.std.proofs.lemmas.Bool.{and_parts}
use Rattle.std.proofs.lemmas.Option.{IfSome_then}
use Rattle.lw_region.specs.Rectangle.{has_pixel}
use Rattle.lw_desk_tests.proofs.tests_part.on_screen.Goals as goal

pub returns : goal.returns
returns c =
    let rect = c.args.rect.now in
    let screen = c.screen_of.result in
    IfSome_then c.meet.result c.meet.ensures.pixels (λ r both x y has.
    ap (λ s. has_pixel s x y) (sym c.screen_of.ensures) ∙ (and_parts (has_pixel rect x y) (has_pixel screen x y) (sym (both x y) ∙ has)).1)
