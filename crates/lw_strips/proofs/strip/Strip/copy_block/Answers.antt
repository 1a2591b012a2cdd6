use Rattle.std.proofs.Common.{◌≡◌, sym, subst}
use Rattle.lw_strips.specs.Strips.{IsStrip, strip_of}
use Rattle.lw_strips.specs.declared.strip.Pens.{Pens}
use Rattle.lw_strips.proofs.LendingLaws.{solid_block, copied_strip}
use Rattle.lw_strips.proofs.strip.Strip.copy_block.Goals as goal

pub invariant_of-self : goal.invariant_of-self
invariant_of-self c =
    let s = c.self.inside in
    let P : Pens → Type 0 = λ p. IsStrip (strip_of s.rect p.depth p.planes) × ((strip_of s.rect p.depth p.planes).planes.depth ≡ p.depth) in
    subst P (sym c.copy_block.ensures)
    (copied_strip s.rect s.pens.depth s.pens.planes c.args.block c.args.source.now c.self.invariant
    (solid_block s.rect s.pens.depth s.pens.planes c.args.self.now c.args.block c.args.source.now c.self.view_is c.requires.solid c.requires.block) c.depth.ensures.planes)
