use Rattle.std.proofs.Common.{◌≡◌, ◌*◌, ◌≤◌, ◌≤ℤ◌, ℕ, ℤ, length, pos, w32, sym, ◌∙◌, subst}
use Rattle.std.proofs.lemmas.Int.{to_z-of_z}
use Rattle.lw_region.proofs.Numbers.{le_of}
use Rattle.lw_cliprects.specs.Parts.{hidden_of, AreDivided}
use Rattle.lw_layer.specs.Pieces.{down, buffered}
use Rattle.lw_layer.specs.Drafts.{layout, buffers_of}
use Rattle.lw_layer.specs.Copied.{HasPlaces, across_at}
use Rattle.lw_layer.proofs.CopyingLaws.{clear_off_rows, clear_off_columns, row_of_places}
use Rattle.lw_layer.proofs.draft.LiveDraft.copy_near.Goals as goal

pub returns-in_default : goal.returns-in_default
returns-in_default c =
    let d = c.args.self.now in
    let off : (v : ℕ) → c.args.y ≡ pos v → (layout d).height ≤ v = λ v is. rw (sym c.height.ensures) (c.in_default.ensures v (to_z-of_z w32 c.args.y c.ranges.y ∙ is)) in
    clear_off_rows d c.args.plane c.args.x c.args.y _ c.clear.new.bits c.clear.new.kept off c.clear.ensures

pub returns-then-x-ge-LAST : goal.returns-then-x-ge-LAST
returns-then-x-ge-LAST c =
    let past : pos 2048 ≤ℤ c.args.x = le_of (pos 2048) c.args.x (rw (to_z-of_z w32 c.args.x c.ranges.x) at c.if-x-ge-LAST.true) in
    clear_off_columns c.args.self.now c.args.plane c.args.x c.args.y _ c.clear-then-x-ge-LAST.new.bits c.clear-then-x-ge-LAST.new.kept past c.requires.sound c.clear-then-x-ge-LAST.ensures

pub returns : goal.returns
returns c =
    let d = c.args.self.now in
    let l = layout d in
    let row : ℕ = c.in-Some.row in
    let divided : AreDivided d.bounds d.parts.visible (hidden_of d.bounds d.parts.visible) = rw (sym c.requires.sound.place.bounds) (rw c.hidden.ensures.value at c.hidden.ensures.divided) in
    let P : ℤ → Type 0 = λ z. HasPlaces (buffered l) (buffers_of d) c.args.plane (across_at l z) (down l row) (8 * length c.args.bits.now) c.copy_buffered.new.bits c.copy_buffered.new.kept in
    row_of_places d c.args.plane c.args.x c.args.y row (8 * length c.args.bits.now) c.copy_buffered.new.bits c.copy_buffered.new.kept
    (sym (to_z-of_z w32 c.args.y c.ranges.y) ∙ c.in-Some.ensures.0) c.requires.sound c.min_x.ensures.ordered divided
    (subst P (to_z-of_z w32 c.args.x c.ranges.x) c.copy_buffered.ensures)
