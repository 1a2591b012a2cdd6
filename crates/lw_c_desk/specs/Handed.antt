-- Bitmaps and hooks as C hands them in: where each one's bytes stand in one array.
use Rattle.std.specs.Prelude.{ℕ, ◌+◌, ◌*◌, Bool, ◌&&◌, nat_le, List, length, map, take, drop}
use Rattle.std.specs.List.{list_all}
use Rattle.lw_planes.specs.Bitmap.{Bitmap, row_bytes}
use Rattle.lw_planes.specs.Storage.{stored}
use Rattle.lw_machine.specs.Hook.{Hook}
use Rattle.lw_program_desk.specs.Tiles.{tiles_at}
use Rattle.lw_c_desk.specs.declared.handed.BitmapWords.{BitmapWords}
use Rattle.lw_c_desk.specs.declared.handed.HookWords.{HookWords}

-- so many columns or rows as a bitmap may have, or so many planes
abbrev pub is_count : ℕ → ℕ → Bool
is_count most n = nat_le 1 n && nat_le n most

abbrev pub has_sizes : BitmapWords → Bool
has_sizes b = (is_count 2048 b.width && is_count 2048 b.height) && is_count 8 b.depth

-- how many bytes its planes have
abbrev pub bytes_of : BitmapWords → ℕ
bytes_of b = b.depth * b.height * row_bytes b.width

-- it has sizes that a bitmap may have, and the array has all its bytes
abbrev pub is_bitmap : List ℕ → BitmapWords → Bool
is_bitmap bits b = has_sizes b && nat_le (b.first + bytes_of b) (length bits)

abbrev pub are_bitmaps : List ℕ → List BitmapWords → Bool
are_bitmaps bits list = list_all (is_bitmap bits) list

abbrev pub bitmap_of : List ℕ → BitmapWords → Bitmap
bitmap_of bits b = stored b.width b.height b.depth (take (bytes_of b) (drop b.first bits))

abbrev pub bitmaps_of : List ℕ → List BitmapWords → List Bitmap
bitmaps_of bits list = map (bitmap_of bits) list

-- it has a tile, and the array has the 64 pens of each of its tiles
abbrev pub is_hook : List ℕ → HookWords → Bool
is_hook tiles h = nat_le 1 h.count && nat_le (64 * (h.first + h.count)) (length tiles)

abbrev pub are_hooks : List ℕ → List HookWords → Bool
are_hooks tiles list = list_all (is_hook tiles) list

-- the pens of its tiles, and the hook of these, at the first of them
abbrev pub pens_of : List ℕ → HookWords → List ℕ
pens_of tiles h = take (64 * h.count) (drop (64 * h.first) tiles)

abbrev pub hook_of : List ℕ → HookWords → Hook
hook_of tiles h = tiles_at 0 (pens_of tiles h)

abbrev pub hooks_of : List ℕ → List HookWords → List Hook
hooks_of tiles list = map (hook_of tiles) list
