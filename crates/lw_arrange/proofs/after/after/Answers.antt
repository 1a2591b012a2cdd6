use Rattle.std.proofs.Common.{◌&&◌, IsTrue, nat_lt, subst}
use Rattle.std.proofs.lemmas.Bool.{and_parts}
use Rattle.lw_calls.specs.Limits.{call_fits, make_fits, window_fits}
use Rattle.lw_calls.specs.declared.call.Call.{Call}
use Rattle.lw_arrange.proofs.AskedBoundsLaws.{spans_of_make}
use Rattle.lw_arrange.proofs.after.after.Goals as goal

pub with_new-requires-in-OpenWindow-clause-spans : goal.with_new-requires-in-OpenWindow-clause-spans
with_new-requires-in-OpenWindow-clause-spans c =
    let b = c.in-OpenWindow in
    let v = c.args.info.now in
    let P : Call → Type 0 = λ k. IsTrue (call_fits v.sizes k) in
    let fits =
    and_parts (nat_lt b.slot v.sizes.slots) (make_fits v.sizes b.make && window_fits b.make b.framed b.asks)
    (subst P b.is c.requires.fits) in
    spans_of_make v.sizes b.make (and_parts (make_fits v.sizes b.make) (window_fits b.make b.framed b.asks) fits.1).0
