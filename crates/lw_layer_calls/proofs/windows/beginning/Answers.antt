use Rattle.std.proofs.Common.{length-take-le, sym, arith}
use Rattle.std.proofs.lemmas.List.{take_all}
use Rattle.lw_layer_calls.proofs.windows.beginning.Goals as goal

pub slice_bounds-result-end : goal.slice_bounds-result-end
slice_bounds-result-end c = sym (length-take-le 256 c.args.bytes.now (omega arith))

pub returns-then-bytes-le-MOST : goal.returns-then-bytes-le-MOST
returns-then-bytes-le-MOST c = sym (take_all 256 c.args.bytes.now (omega arith))
