use Rattle.std.proofs.Common.{◌≡◌, ◌*◌, ◌<◌, List, length, ℤ, to_z, of_z, w32, FitsSigned, true, sym, ◌∙◌, ap, subst, rules, arith}
use Rattle.std.specs.List.{All}
use Rattle.std.proofs.lemmas.Int.{to_z-of_z}
use Rattle.lw_strips.specs.Strips.{StripView}
use Rattle.lw_layer.specs.Pieces.{down, rest_of}
use Rattle.lw_layer.specs.Drafts.{layout, visible_planes}
use Rattle.lw_layer.specs.Copied.{HasPlaces, across_at, rest_buffers}
use Rattle.lw_layer.proofs.BufferLaws.{planes_shown}
use Rattle.lw_layer.proofs.CopyingLists.{places_over}
use Rattle.lw_layer.proofs.CopyingBuffers.{shown_planes}
use Rattle.lw_layer.proofs.draft.LiveDraft.copy_buffered.Goals as goal

pub copy_strips-requires-clause-solid : goal.copy_strips-requires-clause-solid
copy_strips-requires-clause-solid c =
    let P : List StripView → Type 0 = λ ss. All (λ (s : StripView). s.solid ≡ true) ss in
    subst P (sym c.deref.ensures.value) c.requires.sound.buffers.solid

pub copy_strips-requires-clause-plane : goal.copy_strips-requires-clause-plane
copy_strips-requires-clause-plane c =
    let P : List StripView → Type 0 = λ ss. All (λ (s : StripView). c.args.plane < s.planes.depth) ss in
    subst P (sym c.deref.ensures.value) (shown_planes c.args.self.now c.args.plane c.requires.sound c.requires.plane)

pub returns : goal.returns
returns c =
    let d = c.args.self.now in
    let l = layout d in
    let n = 8 * length c.args.bits.now in
    let fits_place : FitsSigned w32 c.across_at-column.result = search rules in
    let fits_row : FitsSigned w32 c.down-line.result = search rules in
    let x = to_z-of_z w32 c.args.x c.ranges.x in
    let across : to_z w32 (of_z w32 c.across_at-column.result) ≡ across_at l c.args.x = to_z-of_z w32 c.across_at-column.result fits_place ∙ (c.across_at-column.ensures ∙ ap (λ z. across_at l z) x) in
    let down_is : to_z w32 (of_z w32 c.down-line.result) ≡ down l c.args.y = to_z-of_z w32 c.down-line.result fits_row ∙ c.down-line.ensures in
    let P : ℤ → Type 0 = λ z. HasPlaces (rest_of l) (rest_buffers d) c.args.plane (across_at l z) (down l c.args.y) n c.copy_rest.new.bits c.copy_rest.new.kept in
    let shown = c.requires.sound.buffers.shown in
    places_over d.parts.visible (rest_of l) (visible_planes d) (rest_buffers d) c.args.plane (across_at l c.args.x) (down l c.args.y) n c.copy_rest.new.bits c.copy_rest.new.kept c.copy_strips.new.bits c.copy_strips.new.kept
    (planes_shown d c.requires.sound) (subst P x c.copy_rest.ensures)
    (λ i below.
    let inside : i < 8 * length c.copy_rest.new.bits = omega arith in
    rw (c.deref.ensures.value, across, down_is, shown) at (c.copy_strips.ensures.bits i inside))
    (λ i below.
    let inside : i < 8 * length c.copy_rest.new.bits = omega arith in
    rw (c.deref.ensures.value, across, down_is, shown) at (c.copy_strips.ensures.kept i inside))
