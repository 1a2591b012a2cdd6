use Rattle.std.proofs.Common.{◌≡◌, [], length, rules}
use Rattle.lw_script.proofs.Rows.{tabulated}
use Rattle.lw_script.proofs.finish.assets_of.Goals as goal

pub returns-clause-glyphs : goal.returns-clause-glyphs
returns-clause-glyphs c =
    let long : length c.args.glyphs ≡ 95 = search rules in
    λ rows each. tabulated [] c.args.glyphs rows 95 long each
