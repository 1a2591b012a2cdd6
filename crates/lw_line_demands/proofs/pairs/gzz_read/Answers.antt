use Rattle.lw_statements.specs.StatementMeaning.{gzz_meaning}
use Rattle.lw_reader.specs.ReaderKnows.{known, setting_of}
use Rattle.lw_line_demands.proofs.GzzFound.{box_found, gzz_found}
use Rattle.lw_line_demands.proofs.pairs.gzz_read.Goals as goal

pub gzz_statements-requires : goal.gzz_statements-requires
gzz_statements-requires c = box_found (known c.args.reader.now) c.args.outer.now (gzz_meaning c.args.act.now) c.requires

pub returns : goal.returns
returns c =
    gzz_found (setting_of c.args.reader.now) (known c.args.reader.now) c.args.outer.now c.inner_by-inner.result.now (gzz_meaning c.args.act.now) c.in_ok-statements.statements c.opened.result c.requires c.inner_by-inner.ensures c.in_ok-statements.ensures c.opened.ensures
