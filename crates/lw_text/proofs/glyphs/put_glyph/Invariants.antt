use Rattle.std.proofs.Common.{◌≡◌, ℕ, ◌+◌, ◌*◌, ◌<◌, slice_index}
use Rattle.lw_text.proofs.glyphs.put_glyph.Given as goal

abbrev pub invariant-loop-row : goal.invariant-loop-row
invariant-loop-row l = record {
  each : (k : ℕ) → k < l.row → slice_index l.bytes (k * 257 + l.at) ≡ slice_index l.glyph k;
  before : (k n : ℕ) → n < l.at → slice_index l.bytes (k * 257 + n) ≡ slice_index l.initial.bytes (k * 257 + n);
}
