use Rattle.std.proofs.Common.{arith, ap, ◌∙◌}
use Rattle.lw_ilbm.specs.Pictures.{picture}
use Rattle.lw_ilbm.proofs.PictureBytes.{packed_body}
use Rattle.lw_ilbm.proofs.body.read_body.Goals as goal

pub returns-in_ok-planes_of-clause-picture : goal.returns-in_ok-planes_of-clause-picture
returns-in_ok-planes_of-clause-picture c =
    packed_body c.args.header.now c.args.end c.args.contents.now c.in_ok-bytes.bytes.items c.in_ok-planes_of.field-0 c.if-header.true
    c.in_ok-bytes.ensures (omega (arith, c.if-len-count.false, c.len.ensures))
    (c.in_ok-planes_of.ensures ∙ ap (picture c.args.header.now) c.deref.ensures.value)
