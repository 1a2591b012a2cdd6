-- Bounds that a call asks for: the ranges of its numbers.
use Rattle.std.proofs.Common.{◌≡◌, ◌&&◌, true, ℤ, pos, negsuc, ◌≤ℤ◌, IsTrue, w32, to_z, of_z, arith}
use Rattle.std.proofs.lemmas.Bool.{and_parts, and_from}
use Rattle.std.proofs.lemmas.Int.{ints}
use Rattle.lw_region.specs.Rectangle.{within}
use Rattle.lw_region.proofs.Within.{within_low, within_high}
use Rattle.lw_calls.specs.Limits.{is_coordinate, make_fits, hook_fits, kind_fits}
use Rattle.lw_calls.specs.declared.make.Make.{Make}
use Rattle.lw_calls.specs.declared.sizes.Sizes.{Sizes}
use Rattle.lw_machine.specs.Shapes.{box_at}
use Rattle.lw_machine.specs.Arrangement.{bounds_of}
use Rattle.lw_arrange.specs.AskedBounds.{span_fits, make_spans}

-- a number as it is read
pub read_word : (z : ℤ) → negsuc 32767 ≤ℤ z → z ≤ℤ pos 65536 → to_z w32 (of_z w32 z) ≡ z
read_word z low high = omega (arith, ints)

pub read_coordinate : (z : ℤ) → is_coordinate z ≡ true → to_z w32 (of_z w32 z) ≡ z
read_coordinate z h =
    let low = within_low (negsuc 32767) z (pos 32767) h in
    let high = within_high (negsuc 32767) z (pos 32767) h in
    read_word z low (omega (arith, ints, high))

pub read_count : (z : ℤ) → within (pos 1) z (pos 65536) ≡ true → to_z w32 (of_z w32 z) ≡ z
read_count z h =
    let low = within_low (pos 1) z (pos 65536) h in
    let high = within_high (pos 1) z (pos 65536) h in
    read_word z (omega (arith, ints, low)) high

-- along one axis, a place and a count as they are read
pub read_span : (from count : ℤ) → is_coordinate from ≡ true → within (pos 1) count (pos 65536) ≡ true
    → IsTrue (span_fits (to_z w32 (of_z w32 from)) (to_z w32 (of_z w32 count)))
read_span from count f c =
    rw (read_coordinate from f, read_count count c) (and_from (is_coordinate from) (within (pos 1) count (pos 65536)) f c)

-- the bounds of a new layer as they are read
pub read_bounds : (m : Make) → IsTrue (make_spans m)
    → box_at (to_z w32 (of_z w32 m.x)) (to_z w32 (of_z w32 m.y)) (to_z w32 (of_z w32 m.w)) (to_z w32 (of_z w32 m.h))
    ≡ bounds_of m
read_bounds m fits =
    let parts = and_parts (span_fits m.x m.w) (span_fits m.y m.h) fits in
    let columns = and_parts (is_coordinate m.x) (within (pos 1) m.w (pos 65536)) parts.0 in
    let rows = and_parts (is_coordinate m.y) (within (pos 1) m.h (pos 65536)) parts.1 in
    rw (read_coordinate m.x columns.0, read_coordinate m.y rows.0, read_count m.w columns.1, read_count m.h rows.1)

-- a layer that may be asked for has its place and its size in their ranges
pub spans_of_make : (s : Sizes) (m : Make) → IsTrue (make_fits s m) → IsTrue (make_spans m)
spans_of_make s m h =
    let places = is_coordinate m.x && is_coordinate m.y in
    let counts = within (pos 1) m.w (pos 65536) && within (pos 1) m.h (pos 65536) in
    let numbers = and_parts (places && counts) (hook_fits s.hooks m.hook && kind_fits m.kind m.hook m.bits_w m.bits_h) h in
    let parts = and_parts places counts numbers.0 in
    let corner = and_parts (is_coordinate m.x) (is_coordinate m.y) parts.0 in
    let size = and_parts (within (pos 1) m.w (pos 65536)) (within (pos 1) m.h (pos 65536)) parts.1 in
    and_from (span_fits m.x m.w) (span_fits m.y m.h)
    (and_from (is_coordinate m.x) (within (pos 1) m.w (pos 65536)) corner.0 size.0)
    (and_from (is_coordinate m.y) (within (pos 1) m.h (pos 65536)) corner.1 size.1)
