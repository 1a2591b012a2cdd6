use Rattle.std.proofs.Common.{◌≡◌, length, ◌∙◌, arith, rules}
use Rattle.lw_blit.proofs.SourceLaws.{all_set, front_stays}
use Rattle.lw_blit.proofs.sources.has_all.Goals as goal

pub returns-clause-same : goal.returns-clause-same
returns-clause-same c i low = front_stays c.args.row.now c.fill.new.row c.args.count _ i c.fill.ensures.each low

pub returns-clause-all : goal.returns-clause-all
returns-clause-all c full i low =
    let long : length c.args.row.now ≡ 256 = search rules in
    front_stays c.args.row.now c.fill.new.row c.args.count _ i c.fill.ensures.each low ∙
    all_set c.args.row.now c.fill.new.row c.args.count c.div_ceil-bytes.result (omega (arith, c.fill.auto.row, long, c.div_ceil-bytes.ensures, c.requires)) (omega (arith, c.div_ceil-bytes.ensures)) c.fill.ensures.each (c.are_full.ensures full) i low
