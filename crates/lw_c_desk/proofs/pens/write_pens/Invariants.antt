use Rattle.std.proofs.Common.{◌≡◌, ◌*◌, ◌++◌, length, take, drop}
use Rattle.std.specs.List.{flat_map}
use Rattle.lw_c_desk.proofs.pens.write_pens.Given as goal

abbrev pub invariant-loop-y : goal.invariant-loop-y
invariant-loop-y l = record {
  first : l.first ≡ l.y * l.planes.width;
  long : length (flat_map (λ row. row) (take l.y l.planes.rows)) ≡ l.first;
  written : l.out ≡ flat_map (λ row. row) (take l.y l.planes.rows) ++ drop l.first l.initial.out;
}
