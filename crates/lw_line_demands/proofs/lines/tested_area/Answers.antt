use Rattle.lw_words.proofs.Binds.{stops_before}
use Rattle.lw_reader.specs.ReaderKnows.{known, setting_of}
use Rattle.lw_line_demands.proofs.AreasFound.{area_read}
use Rattle.lw_line_demands.proofs.lines.tested_area.Goals as goal

pub returns-in-Err : goal.returns-in-Err
returns-in-Err c = stops_before c.in-Err.stop _ _ c.in-Err.ensures

pub returns : goal.returns
returns c = area_read (setting_of c.args.reader.now) (known c.args.reader.now) c.args.area c.in-Ok.rects c.in-Ok.ensures
