use Rattle.std.proofs.Common.{◌≡◌, ◌+◌, ◌*◌}
use Rattle.lw_planes.specs.Pen.{pen_of}
use Rattle.lw_planes.specs.Row.{row_bit}
use Rattle.lw_c_desk.proofs.ColumnLaws.{word_of}
use Rattle.lw_c_desk.proofs.columns.eight_pens.Given as goal

abbrev pub invariant-loop-plane : goal.invariant-loop-plane
invariant-loop-plane l = l.pens ≡ word_of (λ j. pen_of l.plane (λ k. row_bit l.bytes (8 * (l.place + k * l.step) + j)))
