use Rattle.std.proofs.Common.{◌≡◌, ◌++◌, drop}
use Rattle.lw_text_output.specs.Padding.{without_padding}
use Rattle.lw_ilbm.proofs.encoding.without_padding.Given as goal

abbrev pub invariant-loop-byte : goal.invariant-loop-byte
invariant-loop-byte l = l.bytes.items ++ without_padding l.left (drop l.byte-index l.row) ≡ without_padding l.width l.row
