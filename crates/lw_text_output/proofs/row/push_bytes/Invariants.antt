use Rattle.std.proofs.Common.{◌≡◌, ◌++◌, drop}
use Rattle.std.specs.List.{flat_map}
use Rattle.lw_calls.specs.Written.{hex_byte}
use Rattle.lw_text_output.specs.Padding.{without_padding}
use Rattle.lw_text_output.specs.Words.{Keeps}
use Rattle.lw_text_output.proofs.row.push_bytes.Given as goal

abbrev pub invariant-loop-byte : goal.invariant-loop-byte
invariant-loop-byte l =
    (l.out.items ++ flat_map hex_byte (without_padding l.left (drop l.byte-index l.row)) ≡ l.initial.out.items ++ flat_map hex_byte (without_padding l.width l.row))
    × Keeps l.initial.out.items l.out.items
