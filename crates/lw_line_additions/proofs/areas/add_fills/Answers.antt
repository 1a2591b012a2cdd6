use Rattle.std.proofs.Common.{List, ◌∷◌, [], refl, subst, arith}
use Rattle.lw_grammar.specs.Statements.{Statement}
use Rattle.lw_reader.specs.Represents.{Represents}
use Rattle.lw_line_additions.proofs.AreasAdded.{fill, next_addable, rest_addable, same_added, all_added}
use Rattle.lw_line_additions.proofs.areas.add_fills.Goals as goal

pub loop-rect-init : goal.loop-rect-init
loop-rect-init c = record { can = c.requires; left = λ s above k. (above, k, refl) }

pub add_fill-requires : goal.add_fill-requires
add_fill-requires c =
    let i = c.loop-rect.invariant in
    next_addable (fill c.args.layer.now) c.args.rects.now c.loop-rect.reader c.loop-rect.rect-index c.rect-item.result c.loop-rect-test.true c.rect-item.is i.can

pub loop-rect-preserved : goal.loop-rect-preserved
loop-rect-preserved c =
    let i = c.loop-rect.invariant in
    let made = fill c.args.layer.now in
    let rects = c.args.rects.now in
    let n = c.loop-rect.rect-index in
    let q = c.rect-item.result in
    record {
      can = rest_addable made rects c.loop-rect.reader c.add_fill.new.reader n q c.loop-rect-test.true c.rect-item.is c.in_ok-add_fill.ensures i.can;
      left = λ s above k.
          let j = i.left s above k in
          (made q ∷ j.0, c.in_ok-add_fill.ensures s j.0 j.1, same_added made rects n q j.0 _ c.loop-rect-test.true c.rect-item.is j.2);
    }

pub returns : goal.returns
returns c = λ s above k.
    let j = c.loop-rect.invariant.left s above k in
    let P : List Statement → Type 0 = Represents s c.loop-rect.reader in
    subst P (all_added (fill c.args.layer.now) c.args.rects.now c.loop-rect.rect-index j.0 _ (omega (arith, c.loop-rect-test.false)) j.2) j.1
