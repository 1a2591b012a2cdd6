use Rattle.std.proofs.Common.{◌≡◌, ◌+◌, drop}
use Rattle.lw_ilbm.specs.Reading.{name_fault}
use Rattle.lw_ilbm.proofs.decoding.name_fault.Given as goal

abbrev pub invariant-loop-letter : goal.invariant-loop-letter
invariant-loop-letter l = record {
  place : l.at ≡ l.place + l.letter-index;
  rest : name_fault l.bytes l.place l.name ≡ name_fault l.bytes l.at (drop l.letter-index l.name);
}
