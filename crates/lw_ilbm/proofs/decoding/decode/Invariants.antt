use Rattle.std.proofs.Common.{◌≡◌, ◌-◌, length, drop}
use Rattle.std.specs.Prelude.{None}
use Rattle.lw_ilbm.specs.Reading.{chunks_after}
use Rattle.lw_ilbm.specs.Steps.{IsHeaderIfAny}
use Rattle.lw_ilbm.proofs.decoding.decode.Given as goal

abbrev pub invariant-loop-place : goal.invariant-loop-place
invariant-loop-place l = record {
  known : IsHeaderIfAny l.header;
  rest : chunks_after l.limit (length l.bytes) None 12 l.bytes ≡ chunks_after l.limit (length l.bytes) l.header 0 (drop l.place l.bytes);
}

abbrev pub decreases-loop-place : goal.decreases-loop-place
decreases-loop-place l = length l.bytes - l.place
