-- How a pen is painted over another, and what a drawing call changes (the manual's Graphics Primitives chapter: drawing
-- modes, the write mask; that the mask applies to every painting call, and what COMPLEMENT and JAM2 together mean, are this
-- project's own).
use Rattle.std.specs.Prelude.{ℕ, ◌-◌, ◌==◌, Bool, ◌&&◌, if◌then◌else◌}
use Rattle.std.specs.Int.{bit_at}
use Rattle.lw_planes.specs.Pen.{pen_of}
use Rattle.lw_planes.specs.Bitmap.{bitmap, pen_at}
use Rattle.lw_machine.specs.Layer.{Layer, Raster}
use Rattle.lw_machine.specs.Kept.{is_drawable}

-- the flags JAM2, COMPLEMENT and INVERSVID of a mode
abbrev pub has_jam2 : Raster → Bool
has_jam2 r = bit_at r.mode 0 == 1

abbrev pub has_complement : Raster → Bool
has_complement r = bit_at r.mode 1 == 1

abbrev pub has_inversvid : Raster → Bool
has_inversvid r = bit_at r.mode 2 == 1

-- What plane k's bit becomes before the mask, where it was old: under COMPLEMENT it turns in the foreground and stays
-- elsewhere; else it is pen A's bit in the foreground, and elsewhere pen B's under JAM2 and the old bit without it.
abbrev pub candidate_bit : Raster → Bool → ℕ → ℕ → ℕ
candidate_bit r foreground k old =
    if has_complement r then (if foreground then 1 - old else old)
    else (if foreground then bit_at r.pen_a k else (if has_jam2 r then bit_at r.pen_b k else old))

-- The pen whose planes that the mask has take the candidate's bit, while each other plane keeps the old pen's.
unfoldable pub through_mask : ℕ → ℕ → (ℕ → ℕ) → ℕ → ℕ
through_mask depth mask candidate old = pen_of depth (λ k. if bit_at mask k == 1 then candidate k else bit_at old k)

-- a pen taken modulo 2 ^ depth
abbrev pub pen_within : ℕ → ℕ → ℕ
pen_within depth pen = pen_of depth (λ k. bit_at pen k)

-- The layer with the pen that pen x y gives at each pixel (x, y) where on x y holds, and all else as before.
unfoldable pub with_pens : (ℕ → ℕ → Bool) → (ℕ → ℕ → ℕ) → Layer → Layer
with_pens on pen l =
    record l { bits = bitmap l.bits.width l.bits.height l.bits.depth (λ x y. if on x y then pen x y else pen_at l.bits x y) }

-- the pixels that a drawing call of a shape changes: the drawable ones of the shape
abbrev pub is_drawn : (ℕ → ℕ → Bool) → (ℕ → ℕ → Bool) → Layer → ℕ → ℕ → Bool
is_drawn visible shape l x y = is_drawable visible l x y && shape x y

-- The layer with each drawable pixel of a shape drawn through the mask: of its candidate, which is given bit by bit, it takes
-- the planes that the mask has. Every drawing call is such a change.
abbrev pub draw_where : (ℕ → ℕ → Bool) → (ℕ → ℕ → Bool) → (ℕ → ℕ → ℕ → ℕ) → Layer → Layer
draw_where visible shape candidate l =
    with_pens (is_drawn visible shape l) (λ x y. through_mask l.bits.depth l.raster.mask (candidate x y) (pen_at l.bits x y)) l

-- a shape painted by the layer's raster state, in the foreground or not
abbrev pub paint_where : (ℕ → ℕ → Bool) → (ℕ → ℕ → Bool) → (ℕ → ℕ → Bool) → Layer → Layer
paint_where visible shape foreground l =
    draw_where visible shape (λ x y k. candidate_bit l.raster (foreground x y) k (bit_at (pen_at l.bits x y) k)) l

-- a shape that takes the pen that pen x y gives at each pixel (x, y), whatever the layer's mode
abbrev pub set_where : (ℕ → ℕ → Bool) → (ℕ → ℕ → Bool) → (ℕ → ℕ → ℕ) → Layer → Layer
set_where visible shape pen l = draw_where visible shape (λ x y k. bit_at (pen x y) k) l
