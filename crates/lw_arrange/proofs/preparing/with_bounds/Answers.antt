use Rattle.std.proofs.Common.{◌∙◌, sym, ap}
use Rattle.lw_region.specs.Bands.{covers}
use Rattle.lw_arrange.proofs.MayLaws.{shown_inside}
use Rattle.lw_arrange.proofs.preparing.with_bounds.Goals as goal

pub created-requires-clause-inside : goal.created-requires-clause-inside
created-requires-clause-inside c =
    λ x y has.
    shown_inside c.args.arrangement.now c.args.cell.now.number c.args.bounds.now c.requires.bounds x y
    (sym (ap (λ l. covers l x y) c.new_visible.ensures) ∙ has)
