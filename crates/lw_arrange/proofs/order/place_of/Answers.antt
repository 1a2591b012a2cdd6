use Rattle.std.proofs.Common.{◌==◌, sym, arith}
use Rattle.std.proofs.lemmas.Bool.{eq-eqb}
use Rattle.std.proofs.lemmas.List.Sums.{position_or_len_is}
use Rattle.lw_arrange.proofs.order.place_of.Goals as goal

pub returns-then-other-slot-clause-value : goal.returns-then-other-slot-clause-value
returns-then-other-slot-clause-value c =
    let l = c.loop-place in
    sym (position_or_len_is (λ t. t == c.args.slot) c.args.order.now l.place 0 l.auto.place-end l.invariant
    (λ _. eq-eqb _ _ (omega arith)))

pub returns-clause-value : goal.returns-clause-value
returns-clause-value c =
    sym (position_or_len_is (λ t. t == c.args.slot) c.args.order.now _ 0 (omega arith)
    (λ k low. c.loop-place.invariant k (omega arith)) (λ low. absurd (omega arith)))
