use Rattle.std.proofs.Common.{arith, rules, FitsSigned, w16}
use Rattle.std.proofs.lemmas.Int.{ints}
use Rattle.lw_region.proofs.Rows.{joined_made}
use Rattle.lw_region.proofs.band.join_bands.Goals as goal

pub returns-in-Some-clause-joined : goal.returns-in-Some-clause-joined
returns-in-Some-clause-joined c =
    let fits : FitsSigned w16 c.in-Some.bottom = search rules in
    joined_made c.args.rects.now.items c.as_slice-all.result.now c.truncate.new.self.items c.stretch_from.new.rects.items c.args.last c.args.start
    c.joined_bottom-bottom.result c.in-Some.bottom _ (omega arith) c.as_slice-all.ensures.value c.joined_bottom-bottom.ensures c.in-Some.is
    c.truncate.ensures.items c.stretch_from.ensures.items (omega (arith, ints))
