use Rattle.std.proofs.Common.{◌≡◌, ℕ, ◌<◌, false, take, Some}
use Rattle.std.specs.List.{slice_index_or}
use Rattle.lw_strips.specs.Strips.{StripView, held_by, rects_of}
use Rattle.lw_reveal.specs.Changes.{carried}
use Rattle.lw_reveal.proofs.carrying.new_strips.Given as goal

abbrev pub invariant-loop-index : goal.invariant-loop-index
invariant-loop-index l = record {
  rects : rects_of l.strips.items ≡ take l.index l.rects;
  each : (i : ℕ) (s : StripView) → i < l.index → slice_index_or l.given i false ≡ false
      → held_by (slice_index_or l.strips.items i s) ≡ Some (carried l.layer l.place.bounds (slice_index_or l.rects i l.place.bounds));
}
