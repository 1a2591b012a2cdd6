use Rattle.std.proofs.Common.{length, take, drop, refl, ap, ◌-◌, arith, length-drop}
use Rattle.std.proofs.lemmas.List.{take_rest}
use Rattle.lw_ilbm.proofs.ChunkSteps.{fault_is, head_cut, chunk_at}
use Rattle.lw_ilbm.proofs.chunks.contents_at.Goals as goal

pub returns-then-rest-lt8-clause-fault : goal.returns-then-rest-lt8-clause-fault
returns-then-rest-lt8-clause-fault c =
    let left = length-drop c.args.place c.args.bytes.now in
    let rest = ap length (take_rest c.args.bytes.now c.args.place) in
    λ limit header. fault_is _ (length c.args.bytes.now)
    (head_cut limit (length c.args.bytes.now) header (drop c.args.place c.args.bytes.now) (omega (arith, left, rest, c.if-rest-lt8.true)))

pub returns-clause-chunk : goal.returns-clause-chunk
returns-clause-chunk c =
    let left = length-drop c.args.place c.args.bytes.now in
    let rest = ap length (take_rest c.args.bytes.now c.args.place) in
    chunk_at c.args.bytes.now (take (length c.args.bytes.now - c.args.place) (drop c.args.place c.args.bytes.now)) _ c.args.place
    c.long_at-count.result (take_rest c.args.bytes.now c.args.place) c.requires.inside (omega (arith, left, rest, c.if-rest-lt8.false))
    c.long_at-count.ensures (omega (arith, left, rest, c.if-rest-lt8.false, c.if-rest-count.false)) refl
