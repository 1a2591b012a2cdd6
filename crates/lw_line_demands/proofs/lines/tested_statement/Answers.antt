use Rattle.lw_reader.specs.ReaderKnows.{known, setting_of}
use Rattle.lw_line_demands.proofs.AreasFound.{statement_found}
use Rattle.lw_line_demands.proofs.lines.tested_statement.Goals as goal

pub returns : goal.returns
returns c = statement_found (setting_of c.args.reader.now) (known c.args.reader.now) c.args.statement c.tested.result c.tested.ensures c.in-Ok.is
