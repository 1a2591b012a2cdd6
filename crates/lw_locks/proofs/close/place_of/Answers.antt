-- The place of a pass among all.
use Rattle.std.proofs.Common.{◌<◌, [], length, sym, subst, ◌∙◌, arith}
use Rattle.std.proofs.lemmas.List.{get_or-map, length-map}
use Rattle.lw_locks.specs.Closing.{task_of}
use Rattle.lw_locks.specs.Seen.{SeenPass}
use Rattle.lw_locks.proofs.close.place_of.Goals as goal

pub unreachable-requires : goal.unreachable-requires
unreachable-requires g c =
    let passes = c.args.passes.now in
    let none : SeenPass = record { task = 0; history = [] } in
    let place = c.requires.0 in
    let at = c.requires.1 in
    let below : place < length passes = subst (λ n. place < n) (length-map passes task_of) at in
    let past = c.loop-place-test.false in
    c.loop-place.invariant place none (omega (arith, below, past)) (sym (get_or-map task_of passes place none c.args.task below) ∙ c.requires.2)
