-- What painting rows of bits makes of a layer's bits.
use Rattle.std.specs.Prelude.{ℕ, ◌+◌, ◌-◌, ◌*◌, Bool, nat_le, nat_lt, ◌&&◌, List}
use Rattle.lw_planes.specs.Row.{row_bit}
use Rattle.lw_planes.specs.Minterm.{minterm_bit}
use Rattle.lw_kernels.specs.Kernel.{place_in}
use Rattle.lw_draw.specs.declared.overlay.Overlay.{Overlay}

-- a bit of so many bytes lies over the pixel
abbrev pub is_over : Overlay → ℕ → ℕ → ℕ → Bool
is_over o count x y =
    (nat_le o.column x && nat_lt (o.bit + (x - o.column)) (8 * o.step))
    && (nat_le o.row y && nat_le ((y - o.row + 1) * o.step) count)

-- the bit that lies over the pixel
abbrev pub over_bit : List ℕ → Overlay → ℕ → ℕ → ℕ
over_bit bytes o x y = row_bit bytes (place_in o.step (y - o.row) (o.bit + (x - o.column)))

-- the minterm's value of that bit, and of the pixel's own bit
abbrev pub combined_over : ℕ → List ℕ → Overlay → ℕ → ℕ → ℕ → ℕ → ℕ
combined_over minterm bytes o p x y old = minterm_bit minterm (over_bit bytes o x y) old
