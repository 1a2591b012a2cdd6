use Rattle.std.proofs.Common.{◌≡◌, ℕ, ◌<◌, false, length}
use Rattle.std.specs.List.{slice_index_or}
use Rattle.lw_layer.specs.Drafts.{no_bitmap}
use Rattle.lw_reveal.specs.Changes.{carried}
use Rattle.lw_reveal.proofs.carrying.new_buffers.Given as goal

abbrev pub invariant-loop-index : goal.invariant-loop-index
invariant-loop-index l = record {
  many : length l.buffers.items ≡ l.index;
  each : (i : ℕ) → i < l.index → slice_index_or l.given i false ≡ false → slice_index_or l.buffers.items i no_bitmap ≡ carried l.layer l.place.bounds (slice_index_or l.rects i l.place.bounds);
}
