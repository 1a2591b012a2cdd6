use Rattle.std.proofs.Common.{ℕ, List, sym, ap, ◌∙◌}
use Rattle.lw_calls.specs.Limits.{limits_of}
use Rattle.lw_grammar.specs.Script.{are_few}
use Rattle.lw_statements.specs.StatementMeaning.{gzz_meaning}
use Rattle.lw_line_demands.specs.GzzRead.{with_gzz}
use Rattle.lw_reader.specs.ReaderKnows.{known}
use Rattle.lw_line_demands.proofs.GzzCounts.{few_gzz}
use Rattle.lw_line_demands.proofs.pairs.has_room_for_gzz.Goals as goal

pub returns : goal.returns
returns c =
    let t = known c.args.reader.now in
    let g = c.args.outer.now.now in
    let act = gzz_meaning c.args.act.now in
    let limits = limits_of c.args.reader.now.version in
    c.has_room_with.ensures ∙ ap (λ i. are_few limits (with_gzz t g i act)) c.inner_by-inner.ensures ∙ sym (few_gzz limits t g act)
