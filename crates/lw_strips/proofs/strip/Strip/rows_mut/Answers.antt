use Rattle.std.proofs.Common.{refl, subst}
use Rattle.lw_strips.specs.Strips.{StripView, IsStrip}
use Rattle.lw_strips.proofs.LendingLaws.{written_strip, written_view, lent_rows}
use Rattle.lw_strips.proofs.strip.Strip.rows_mut.Goals as goal

pub invariant_of-self-lent : goal.invariant_of-self-lent
invariant_of-self-lent c w =
    written_strip c.self.inside.rect c.self.inside.pens.depth c.self.inside.pens.planes c.args.plane c.args.y w c.self.invariant

pub returns : goal.returns
returns c =
    let P : StripView → Type 0 = λ s. IsStrip s in
    let s = c.self.inside in (
      (refl, λ w. written_view s.rect s.pens.depth s.pens.planes c.args.self.now c.args.plane c.args.y w c.self.view_is c.requires.solid),
      record {
        writes_back = tt;
        lent = lent_rows s.rect s.pens.depth s.pens.planes c.args.self.now c.args.plane c.args.y c.args.rows c.rows_mut.result.now c.self.view_is c.rows_mut.ensures.lent;
        strip = subst P c.self.view_is c.self.invariant.0;
      },
    )
