use Rattle.std.proofs.Common.{◌≡◌, ◌≤◌, length, refl, subst, sym, arith, rules}
use Rattle.std.proofs.lemmas.Int.{ints}
use Rattle.lw_area.proofs.Parts.{RunsLeft, runs_start, runs_pair, runs_end}
use Rattle.lw_area.proofs.runs.runs_of.Goals as goal

pub loop-first-init : goal.loop-first-init
loop-first-init c =
    subst (λ w. RunsLeft c.args.word c.args.columns.now c.args.columns.now w) (sym c.new-runs.ensures.items)
    (runs_start c.args.word c.args.columns.now c.requires.rising c.requires.range c.requires.pairs)

pub loop-first-preserved : goal.loop-first-preserved
loop-first-preserved c =
    runs_pair c.args.word c.args.columns.now c.loop-first.left.now c.in-Some.first.now c.in-Some-split_first.behind.now c.in-Some.others.now c.in-Some-split_first.rest.now
    c.loop-first.runs.items _ _ c.push_part.new.runs.items c.loop-first.invariant c.in-Some.ensures.cases.0 c.in-Some-split_first.ensures.cases.0
    (search rules) (search rules) c.in_ok-push_part.ensures

pub returns-clause-has : goal.returns-clause-has
returns-clause-has c =
    let none : length c.loop-first.left.now ≡ 0 = search rules in
    (runs_end c.args.word c.args.columns.now c.loop-first.left.now c.loop-first.runs.items c.loop-first.invariant (omega arith)).1
