use Rattle.std.proofs.Common.{◌≡◌, ℕ, ◌-◌, ◌*◌, ◌<◌, ◌≤◌, length, List, refl, sym, ◌∙◌, ap, subst, arith, rules, true, Option, Some}
use Rattle.std.proofs.lemmas.List.Elements.{All-get_or}
use Rattle.std.proofs.lemmas.List.{get_or_default}
use Rattle.std.specs.List.{slice_index_or}
use Rattle.lw_region.specs.Rectangle.{Rectangle}
use Rattle.lw_planes.specs.Bitmap.{Bitmap, row_bytes}
use Rattle.lw_planes.specs.Change.{with_row}
use Rattle.lw_strips.specs.Strips.{StripView}
use Rattle.lw_layer.specs.Drafts.{buffers_of, no_bitmap, width_of, height_of}
use Rattle.lw_layer.specs.Written.{HaveBits, HaveOwnBits}
use Rattle.lw_layer.proofs.BufferLaws.{strip_buffer, covered_buffer, own_buffer, buffer_is, changed_shown, changed_covered, changed_last}
use Rattle.lw_layer.proofs.draft.LiveDraft.lines_mut.Goals as goal

-- the bits of a buffer that is told by its number
bits_at : (bs : List Bitmap) (n : ℕ) (b : Bitmap) (plane line rows : ℕ) (row : List ℕ) → slice_index_or bs n no_bitmap ≡ b → HaveBits b plane line rows row → HaveBits (slice_index_or bs n no_bitmap) plane line rows row
bits_at bs n b plane line rows row is bits = let P : Bitmap → Type 0 = λ q. HaveBits q plane line rows row in subst P (sym is) bits

-- the first branch: the strip of a visible rectangle
shown_is : (c : goal.After-index_mut-strip) → slice_index_or (buffers_of c.args.self.now) c.args.buffer no_bitmap ≡ c.index_mut-strip.result.now.planes
shown_is c =
    let d = c.args.self.now in
    let s = c.index_mut-strip.result.now in
    let inside : c.args.buffer < length d.strips.items = search rules in
    strip_buffer d c.args.buffer s inside ∙ ap (λ (q : StripView). q.planes) (sym c.index_mut-strip.ensures.value)

pub rows_mut-requires-clause-solid : goal.rows_mut-requires-clause-solid
rows_mut-requires-clause-solid c =
    let d = c.args.self.now in
    let P : StripView → Type 0 = λ q. q.solid ≡ true in
    let inside : c.args.buffer < length d.strips.items = search rules in
    subst P (sym c.index_mut-strip.ensures.value) (All-get_or P d.strips.items c.args.buffer c.index_mut-strip.result.now inside c.requires.sound.buffers.solid)

pub rows_mut-requires-clause-plane : goal.rows_mut-requires-clause-plane
rows_mut-requires-clause-plane c =
    let is = buffer_is c.args.self.now c.args.buffer _ c.requires.sound c.requires.lines.buffer (shown_is c) in
    omega (arith, is.planes, c.requires.plane)

pub rows_mut-requires-clause-inside : goal.rows_mut-requires-clause-inside
rows_mut-requires-clause-inside c =
    let is = buffer_is c.args.self.now c.args.buffer _ c.requires.sound c.requires.lines.buffer (shown_is c) in
    omega (arith, is.height, c.requires.lines.below)

pub returns-then-buffer-shown : goal.returns-then-buffer-shown
returns-then-buffer-shown c =
    let d = c.args.self.now in
    let n = c.args.buffer in
    let inside : n < length d.strips.items = search rules in
    let s = c.index_mut-strip.result.now in
    let b : Bitmap = s.planes in
    let here : s ≡ slice_index_or d.strips.items n s = c.index_mut-strip.ensures.value in
    let at : slice_index_or (buffers_of d) n no_bitmap ≡ b = strip_buffer d n s inside ∙ ap (λ (q : StripView). q.planes) (sym here) in
    let is = buffer_is d n b c.requires.sound c.requires.lines.buffer at in (
      (refl, λ w. changed_shown d n (λ q. with_row q c.args.plane c.args.line w) s inside here),
      record {
        writes_back = tt;
        near = c.rows_mut.ensures.lent.near;
        long = c.rows_mut.ensures.lent.long ∙ ap (λ q. c.args.rows * row_bytes q) is.width;
        bits = bits_at (buffers_of d) n b c.args.plane c.args.line c.args.rows _ at c.rows_mut.ensures.lent.bits;
      },
    )

-- the second branch: the buffer of a hidden rectangle
covered_is : (c : goal.After-index_mut-planes) → slice_index_or (buffers_of c.args.self.now) c.args.buffer no_bitmap ≡ c.index_mut-planes.result.now
covered_is c =
    let d = c.args.self.now in
    let k : ℕ = c.args.buffer - c.len-shown.result in
    let b = c.index_mut-planes.result.now in
    let is_k : k ≡ c.args.buffer - length d.strips.items = search rules in
    let past : length d.strips.items ≤ c.args.buffer = search rules in
    let inside : k < length d.covered.items = search rules in
    covered_buffer d c.args.buffer k is_k past inside ∙ sym (c.index_mut-planes.ensures.value ∙ get_or_default d.covered.items k b no_bitmap inside)

pub rows_mut-requires-then-buffer-shown-2-clause-plane :
    goal.rows_mut-requires-then-buffer-shown-2-clause-plane
rows_mut-requires-then-buffer-shown-2-clause-plane c =
    let is = buffer_is c.args.self.now c.args.buffer _ c.requires.sound c.requires.lines.buffer (covered_is c) in
    omega (arith, is.planes, c.requires.plane)

pub rows_mut-requires-then-buffer-shown-2-clause-inside :
    goal.rows_mut-requires-then-buffer-shown-2-clause-inside
rows_mut-requires-then-buffer-shown-2-clause-inside c =
    let is = buffer_is c.args.self.now c.args.buffer _ c.requires.sound c.requires.lines.buffer (covered_is c) in
    omega (arith, is.height, c.requires.lines.below)

pub returns-then-buffer-shown-2 : goal.returns-then-buffer-shown-2
returns-then-buffer-shown-2 c =
    let d = c.args.self.now in
    let n = c.args.buffer in
    let k : ℕ = n - c.len-shown.result in
    let b = c.index_mut-planes.result.now in
    let is_k : k ≡ n - length d.strips.items = search rules in
    let past : length d.strips.items ≤ n = search rules in
    let inside : k < length d.covered.items = search rules in
    let here : b ≡ slice_index_or d.covered.items k no_bitmap = c.index_mut-planes.ensures.value ∙ get_or_default d.covered.items k b no_bitmap inside in
    let at : slice_index_or (buffers_of d) n no_bitmap ≡ b = covered_buffer d n k is_k past inside ∙ sym here in
    let is = buffer_is d n b c.requires.sound c.requires.lines.buffer at in (
      (refl, λ w. changed_covered d n k (λ q. with_row q c.args.plane c.args.line w) b is_k past inside here),
      record {
        writes_back = tt;
        near = c.rows_mut-then-buffer-shown-2.ensures.near;
        long = c.rows_mut-then-buffer-shown-2.ensures.long ∙ ap (λ q. c.args.rows * row_bytes q) is.width;
        bits = bits_at (buffers_of d) n b c.args.plane c.args.line c.args.rows _ at c.rows_mut-then-buffer-shown-2.ensures.bits;
      },
    )

-- the size of an own bitmap
own_size : (o : Option Bitmap) (b : Bitmap) (r : Rectangle) → o ≡ Some b → (width_of o r ≡ b.width) × (height_of o r ≡ b.height)
own_size o b r is = rw is (refl, refl)

-- the bits of an own bitmap
own_bits : (o : Option Bitmap) (b : Bitmap) (plane line rows : ℕ) (row : List ℕ) → o ≡ Some b → HaveOwnBits o plane line rows row → HaveBits b plane line rows row
own_bits o b plane line rows row is bits = let P : Option Bitmap → Type 0 = λ q. HaveOwnBits q plane line rows row in subst P is bits

pub own_lines_mut-requires-clause-lines : goal.own_lines_mut-requires-clause-lines
own_lines_mut-requires-clause-lines c =
    let d = c.args.self.now in
    let past : length d.strips.items ≤ c.args.buffer = search rules in
    let late : length d.covered.items ≤ c.args.buffer - length d.strips.items = search rules in
    let own = own_buffer d c.args.buffer c.requires.sound c.requires.lines.buffer past late in
    let is = buffer_is d c.args.buffer own.own c.requires.sound c.requires.lines.buffer own.at in
    let size = own_size d.superbits own.own d.bounds own.is in
    omega (arith, size.1, is.height, c.requires.lines.below)

pub returns : goal.returns
returns c =
    let d = c.args.self.now in
    let n = c.args.buffer in
    let past : length d.strips.items ≤ n = search rules in
    let late : length d.covered.items ≤ n - length d.strips.items = search rules in
    let own = own_buffer d n c.requires.sound c.requires.lines.buffer past late in
    let is = buffer_is d n own.own c.requires.sound c.requires.lines.buffer own.at in
    let size = own_size d.superbits own.own d.bounds own.is in (
      (refl, λ w. changed_last d n (λ q. with_row q c.args.plane c.args.line w) past late),
      record {
        writes_back = tt;
        near = c.own_lines_mut.ensures.near;
        long = c.own_lines_mut.ensures.long ∙ ap (λ q. c.args.rows * row_bytes q) (size.0 ∙ is.width);
        bits = bits_at (buffers_of d) n own.own c.args.plane c.args.line c.args.rows _ own.at (own_bits d.superbits own.own c.args.plane c.args.line c.args.rows _ own.is c.own_lines_mut.ensures.bits);
      },
    )
