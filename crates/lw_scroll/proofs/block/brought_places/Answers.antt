use Rattle.std.proofs.Common.{pos, arith}
use Rattle.std.proofs.lemmas.Int.{ints, clamps}
use Rattle.lw_scroll.proofs.BlockLaws.{AreEdges, brought_of}
use Rattle.lw_scroll.proofs.block.brought_places.Goals as goal

pub invariant_of-result : goal.invariant_of-result
invariant_of-result c =
    let ordered = c.args.places.ordered in
    let first = c.clamp.ensures.value in
    let last = c.clamp-2.ensures.value in
    record { ordered = omega (arith, ints, clamps) }

pub returns : goal.returns
returns c =
    let first = c.clamp.ensures.value in
    let last = c.clamp-2.ensures.value in
    let are : AreEdges (pos c.args.places.from) (pos c.args.places.end) c.args.step c.clamp.result c.clamp-2.result = record {
      first_up = λ up. omega (arith, ints, clamps);
      short_up = λ up low. omega (arith, ints, clamps);
      long_up = λ up high. omega (arith, ints, clamps);
      last_down = λ down. omega (arith, ints, clamps);
      short_down = λ down low. omega (arith, ints, clamps);
      long_down = λ down high. omega (arith, ints, clamps);
    } in
    brought_of c.args.places _ c.args.step c.clamp.result c.clamp-2.result (omega (arith, ints, clamps))
    (omega (arith, ints, clamps)) are
