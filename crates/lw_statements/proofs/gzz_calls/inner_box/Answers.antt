use Rattle.std.proofs.Common.{FitsSigned, w64, rules}
use Rattle.lw_statements.proofs.GzzBoxes.{inner_kept}
use Rattle.lw_statements.proofs.gzz_calls.inner_box.Goals as goal

pub returns : goal.returns
returns c =
    let n = c.args.at in
    let x : FitsSigned w64 n.x = search rules in
    let y : FitsSigned w64 n.y = search rules in
    let w : FitsSigned w64 n.w = search rules in
    let h : FitsSigned w64 n.h = search rules in
    inner_kept n.x n.y n.w n.h x y w h c.requires
