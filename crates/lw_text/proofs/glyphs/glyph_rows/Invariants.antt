use Rattle.std.proofs.Common.{◌≡◌, ℕ, ◌+◌, ◌*◌, ◌<◌, slice_index}
use Rattle.std.specs.List.{slice_index_or}
use Rattle.lw_text.specs.Templates.{glyph_bits}
use Rattle.lw_text.proofs.glyphs.glyph_rows.Given as goal

abbrev pub invariant-loop-place : goal.invariant-loop-place
invariant-loop-place l =
    (k n : ℕ) → k < 8 → n < l.place → slice_index l.bytes (k * 257 + n) ≡ glyph_bits l.glyphs (slice_index_or l.text (l.first + n) 0) k
