use Rattle.std.proofs.Common.{rules, ◌∙◌}
use Rattle.lw_ilbm.proofs.ChunkSteps.{fault_found, picture_found, goes_on}
use Rattle.lw_ilbm.proofs.decoding.decode.Goals as goal

pub returns-in_err-planes-clause-fault : goal.returns-in_err-planes-clause-fault
returns-in_err-planes-clause-fault c =
    let fault = fault_found c.args.bytes.now c.in_ok-contents.contents.now c.loop-place.place c.args.limit c.loop-place.header _
    c.in_ok-contents.ensures.chunk c.in_err-planes.ensures.fault in
    search rules

pub returns-in-Picture-clause-picture : goal.returns-in-Picture-clause-picture
returns-in-Picture-clause-picture c =
    let found = picture_found c.args.bytes.now c.in_ok-contents.contents.now c.loop-place.place c.args.limit c.loop-place.header _ _
    c.in_ok-contents.ensures.chunk c.in_ok-planes.ensures.led c.in-Picture.is in
    search rules

pub loop-place-preserved : goal.loop-place-preserved
loop-place-preserved c =
    let on = goes_on c.args.bytes.now c.in_ok-contents.contents.now c.loop-place.place c.args.limit c.loop-place.header _ _
    c.in_ok-contents.ensures.chunk c.in_ok-planes.ensures.led c.in-On.is in
    record { known = on.0; rest = c.loop-place.invariant.rest ∙ on.1 }
