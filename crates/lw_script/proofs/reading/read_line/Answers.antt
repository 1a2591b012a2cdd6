use Rattle.lw_script.proofs.LinesAlike.{reads_alike}
use Rattle.lw_script.proofs.reading.read_line.Goals as goal

pub returns : goal.returns
returns c = λ s above k. reads_alike s c.args.reader.now above k c.args.line.now c.known_line.result c.known_line.ensures
