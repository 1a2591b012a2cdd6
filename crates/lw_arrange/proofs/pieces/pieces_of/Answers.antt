use Rattle.std.proofs.Common.{[], arith}
use Rattle.lw_arrange.specs.Pieces.{with_desktop, losses_to}
use Rattle.lw_arrange.proofs.PieceLaws.{gathered_more, gathered_all, owners_of}
use Rattle.lw_arrange.proofs.pieces.pieces_of.Goals as goal

pub loop-part-preserved : goal.loop-part-preserved
loop-part-preserved c =
    let owners = with_desktop c.args.slots c.parts-gaining.result.now c.args.shown.now.rest in
    gathered_more (λ p. losses_to p.slot p.set owners) c.parts-losing.result.now c.loop-part.part-index c.part-item.result []
    c.loop-part.pieces.items c.add_losses.new.pieces.items c.loop-part-test.true c.part-item.is c.loop-part.invariant
    c.in_ok-add_losses.ensures

pub returns : goal.returns
returns c =
    let slots = c.args.slots in
    let were = c.args.were.now in
    let shown = c.args.shown.now in
    let owners = with_desktop slots c.parts-gaining.result.now shown.rest in
    record {
      losing = with_desktop slots c.parts-losing.result.now were.rest;
      gaining = owners;
      before = owners_of slots were.sets.items were.rest c.parts-losing.result.now c.requires.before c.parts-losing.ensures.slots
          c.parts-losing.ensures.sets;
      after = owners_of slots shown.sets.items shown.rest c.parts-gaining.result.now c.requires.after c.parts-gaining.ensures.slots
          c.parts-gaining.ensures.sets;
      all = gathered_all (λ p. losses_to p.slot p.set owners) c.parts-losing.result.now c.loop-part.part-index
          (record { slot = slots; set = were.rest }) [] c.loop-part.pieces.items c.add_losses-2.new.pieces.items
          (omega (arith, c.loop-part-test.false)) c.loop-part.invariant c.in_ok-add_losses-2.ensures;
    }
