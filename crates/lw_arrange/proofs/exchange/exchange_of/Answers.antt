use Rattle.std.proofs.Common.{List, sym, ap, subst}
use Rattle.std.specs.List.{All}
use Rattle.lw_calls.specs.declared.sizes.Sizes.{Sizes}
use Rattle.lw_calls.specs.Limits.{IsWithinLimits}
use Rattle.lw_strips.specs.Laying.{screen, LiesIn}
use Rattle.lw_strips.specs.declared.piece.Piece.{Piece}
use Rattle.lw_arrange.proofs.ExchangeLaws.{lost_more, gained_more}
use Rattle.lw_arrange.proofs.exchange.exchange_of.Goals as goal

pub lose-requires-clause-sizes : goal.lose-requires-clause-sizes
lose-requires-clause-sizes c = subst IsWithinLimits (sym c.sizes-sizes.ensures.value) c.sizes-sizes.ensures.planned.stack.limits

pub lose-requires-clause-inside : goal.lose-requires-clause-inside
lose-requires-clause-inside c =
    let a = c.args.arrangement.now in
    let k = c.loop-piece.piece-index in
    let P : List Piece → Type 0 = λ ps. All (λ p. LiesIn p.rect (screen a.stack.sizes.width a.stack.sizes.height)) ps in
    let all = subst P (sym c.pieces-pieces.ensures) c.sizes-sizes.ensures.planned.pieces in
    let Q : Sizes → Type 0 = λ z. LiesIn c.piece-item.result.rect (screen z.width z.height) in
    let R : Piece → Type 0 = λ p. LiesIn p.rect (screen a.stack.sizes.width a.stack.sizes.height) in
    subst Q (sym c.sizes-sizes.ensures.value) (subst R (sym c.piece-item.is) (all k c.piece-item.result c.loop-piece-test.true))

pub loop-piece-preserved : goal.loop-piece-preserved
loop-piece-preserved c =
    let k = c.loop-piece.piece-index in
    let ps = c.pieces-pieces.result.now in
    let depth = ap (λ (z : Sizes). z.depth) c.sizes-sizes.ensures.value in
    let before = c.loop-piece.invariant in
    record {
      lost = lost_more c.args.owner c.args.arrangement.now.stack.sizes.depth ps k c.piece-item.result c.loop-piece.made.lost.items
          c.lose.new.lost.items c.loop-piece-test.true c.piece-item.is before.lost (rw depth at c.in_ok-lose.ensures);
      gained = gained_more c.args.owner ps k c.piece-item.result c.loop-piece.made.gained.items c.gain.new.gained.items c.loop-piece-test.true
          c.piece-item.is before.gained c.in_ok-gain.ensures;
    }
