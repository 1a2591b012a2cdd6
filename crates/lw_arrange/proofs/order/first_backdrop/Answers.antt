use Rattle.std.proofs.Common.{sym, arith}
use Rattle.std.proofs.lemmas.List.Sums.{position_or_len_is}
use Rattle.lw_arrange.specs.Planning.{is_backdrop_at}
use Rattle.lw_arrange.proofs.order.first_backdrop.Goals as goal

pub returns-then-is_backdrop-clause-value : goal.returns-then-is_backdrop-clause-value
returns-then-is_backdrop-clause-value c =
    let test = is_backdrop_at c.args.looks.now in
    let here = sym (c.if-is_backdrop.ensures {u = tt}) in
    let l = c.loop-place in
    sym (position_or_len_is test c.args.order.now l.place 0 l.auto.place-end l.invariant (λ _. here))

pub returns-clause-value : goal.returns-clause-value
returns-clause-value c =
    let test = is_backdrop_at c.args.looks.now in
    sym (position_or_len_is test c.args.order.now _ 0 (omega arith) (λ k low. c.loop-place.invariant k (omega arith))
    (λ low. absurd (omega arith)))
