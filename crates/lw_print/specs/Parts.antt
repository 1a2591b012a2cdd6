-- For private contracts.
-- The lines of a plan's glyphs and those of its bitmaps.
use Rattle.std.specs.Prelude.{ℕ, ◌+◌, List, []}
use Rattle.std.specs.List.{flat_map, range_with_len, slice_index_or}
use Rattle.lw_planes.specs.Bitmap.{Bitmap}
use Rattle.lw_grammar.specs.Statements.{Statement}
use Rattle.lw_canonical.specs.Canonical.{enumerated, lines_of_glyph, lines_of_bitmap}

-- the lines of glyphs in the order of their codes
abbrev pub glyph_lines : List (List ℕ) → List Statement
glyph_lines glyphs = flat_map (λ i. lines_of_glyph (32 + i) (slice_index_or glyphs i [])) (range_with_len 0 95)

-- the lines of bitmaps that have these names by number
abbrev pub bitmap_lines : List (List ℕ) → List Bitmap → List Statement
bitmap_lines names bitmaps = flat_map (λ b. lines_of_bitmap (slice_index_or names b.0 []) b.1) (enumerated 0 bitmaps)
