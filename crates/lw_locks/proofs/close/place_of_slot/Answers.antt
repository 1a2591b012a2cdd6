-- The place of the cell of a slot among all.
use Rattle.std.proofs.Common.{◌<◌, ℕ, List, [], ◌∷◌, length, sym, subst, ◌∙◌, arith}
use Rattle.std.proofs.lemmas.List.{get_or-map, length-map}
use Rattle.lw_locks.proofs.close.place_of_slot.Goals as goal

some_of : {X : Type 0} (xs : List X) (k : ℕ) → k < length xs → X
some_of [] k below = absurd (omega (arith, below))
some_of (x ∷ xs) k below = x

pub unreachable-requires : goal.unreachable-requires
unreachable-requires g c =
    let taken = c.args.taken.now in
    let place = c.requires.0 in
    let at = c.requires.1 in
    let below : place < length taken = subst (λ n. place < n) (length-map taken (λ one. one.0)) at in
    let past = c.loop-place-test.false in
    let one = some_of taken place below in
    c.loop-place.invariant place one (omega (arith, below, past)) (sym (get_or-map (λ one. one.0) taken place one c.args.slot below) ∙ c.requires.2)
