-- For private contracts.
-- Drafts once bytes were written into one of their buffers, and what lends its
-- rows.
use Rattle.std.specs.Prelude.{◌≡◌, ℕ, ◌+◌, ◌-◌, ◌*◌, ◌<◌, nat_lt, if◌then◌else◌, List, length, Option, Some, None}
use Rattle.std.specs.Borrow.{Lends, MutBor, Fml, Array, u8}
use Rattle.std.specs.List.{slice_index_or}
use Rattle.std.specs.Vec.{with_item}
use Rattle.std.specs.Int.{bit_at}
use Rattle.lw_planes.specs.Row.{row_bit}
use Rattle.lw_planes.specs.Bitmap.{Bitmap, pen_at, row_bytes}
use Rattle.lw_planes.specs.Change.{with_row}
use Rattle.lw_strips.specs.Strips.{StripView}
use Rattle.lw_layer.specs.Drafts.{buffers_of, no_bitmap, no_strip}
use Rattle.lw_layer.specs.declared.draft.LiveDraft.{LiveDraft}
use Rattle.lw_layer.specs.contracts.draft.LiveDraft as live_draft

-- the bytes have in this plane the bits of so many lines of a bitmap from a line on
abbrev pub HaveBits : Bitmap → ℕ → ℕ → ℕ → List ℕ → Type 0
HaveBits b plane line rows bytes =
    (x j : ℕ) → x < b.width → j < rows → row_bit bytes (8 * (j * row_bytes b.width) + x) ≡ bit_at (pen_at b x (line + j)) plane

abbrev pub HaveOwnBits : Option Bitmap → ℕ → ℕ → ℕ → List ℕ → Type 0
HaveOwnBits None plane line rows bytes = ⊥
HaveOwnBits (Some own) plane line rows bytes = HaveBits own plane line rows bytes

-- the bytes have in this plane the bits of lines of a buffer
abbrev pub HaveBufferBits : LiveDraft → ℕ → ℕ → ℕ → ℕ → List ℕ → Type 0
HaveBufferBits d plane n line rows bytes = HaveBits (slice_index_or (buffers_of d) n no_bitmap) plane line rows bytes

-- an own bitmap changed, if there is one
abbrev pub changed_own : (Bitmap → Bitmap) → Option Bitmap → Option Bitmap
changed_own f None = None
changed_own f (Some own) = Some (f own)

-- a strip with its bitmap changed
abbrev pub changed_pens : (Bitmap → Bitmap) → StripView → StripView
changed_pens f s = record s { planes = f s.planes }

-- the draft with its buffer of this number changed
abbrev pub changed_buffer : ℕ → (Bitmap → Bitmap) → LiveDraft → LiveDraft
changed_buffer n f d =
    let shown = length d.strips.items in
    if nat_lt n shown
    then record d { strips = with_item d.strips n (changed_pens f (slice_index_or d.strips.items n no_strip)) }
    else (if nat_lt (n - shown) (length d.covered.items)
    then record d { covered = with_item d.covered (n - shown) (f (slice_index_or d.covered.items (n - shown) no_bitmap)) }
    else record d { superbits = changed_own f d.superbits })

-- the draft once these bytes were written from a line of a plane of a buffer on
abbrev pub with_line_bytes : ℕ → ℕ → ℕ → LiveDraft → List ℕ → LiveDraft
with_line_bytes plane n line d bytes = changed_buffer n (λ b. with_row b plane line bytes) d

abbrev pub LendsOwn : MutBor LiveDraft → ℕ → ℕ → MutBor (List ℕ) → Fml
LendsOwn d plane line row =
    Lends live_draft.the_row (Array u8 0) d row
    (λ bytes. record d.now { superbits = changed_own (λ b. with_row b plane line bytes) d.now.superbits })

abbrev pub LendsBuffer : MutBor LiveDraft → ℕ → ℕ → ℕ → MutBor (List ℕ) → Fml
LendsBuffer d plane n line row = Lends live_draft.the_row (Array u8 0) d row (with_line_bytes plane n line d.now)
