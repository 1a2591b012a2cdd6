use Rattle.std.proofs.Common.{◌≡◌, ◌*◌, ◌<◌, List, length, to_z, of_z, w32, FitsSigned, sym, ◌∙◌, ap, subst, rules}
use Rattle.std.specs.List.{All}
use Rattle.std.proofs.lemmas.Int.{to_z-of_z}
use Rattle.lw_region.specs.Rectangle.{Rectangle}
use Rattle.lw_planes.specs.Bitmap.{Bitmap}
use Rattle.lw_buffers.specs.Lookup.{AreBuffers}
use Rattle.lw_cliprects.specs.Parts.{hidden_of}
use Rattle.lw_layer.specs.Pieces.{down}
use Rattle.lw_layer.specs.Drafts.{layout}
use Rattle.lw_layer.specs.Copied.{across_at}
use Rattle.lw_layer.proofs.CopyingBuffers.{covered_buffers, covered_planes, simple_places, smart_places}
use Rattle.lw_layer.proofs.draft.LiveDraft.copy_rest.Goals as goal

pub copy_row-requires-clause-buffers : goal.copy_row-requires-clause-buffers
copy_row-requires-clause-buffers c =
    let d = c.args.self.now in
    let hidden : c.hidden.result.now ≡ hidden_of d.bounds d.parts.visible = c.hidden.ensures.value ∙ ap (λ r. hidden_of r d.parts.visible) c.requires.sound.place.bounds in
    let P : List Rectangle → Type 0 = λ rs. AreBuffers rs c.deref.result.now in
    let Q : List Bitmap → Type 0 = λ bs. AreBuffers (hidden_of d.bounds d.parts.visible) bs in
    subst P (sym hidden) (subst Q (sym c.deref.ensures.value) (covered_buffers d c.in-Smart.is c.requires.sound))

pub copy_row-requires-clause-plane : goal.copy_row-requires-clause-plane
copy_row-requires-clause-plane c =
    let P : List Bitmap → Type 0 = λ bs. All (λ (b : Bitmap). c.args.plane < b.depth) bs in
    subst P (sym c.deref.ensures.value) (covered_planes c.args.self.now c.args.plane c.in-Smart.is c.requires.sound c.requires.plane)

pub returns-in-Simple : goal.returns-in-Simple
returns-in-Simple c =
    simple_places c.args.self.now c.args.plane _ _ _ c.clear.new.bits c.clear.new.kept c.in-Simple.is c.clear.ensures

pub returns-in-Smart : goal.returns-in-Smart
returns-in-Smart c =
    let d = c.args.self.now in
    let l = layout d in
    let fits_place : FitsSigned w32 c.across_at.result = search rules in
    let fits_row : FitsSigned w32 c.down.result = search rules in
    let hidden : c.hidden.result.now ≡ hidden_of d.bounds d.parts.visible = c.hidden.ensures.value ∙ ap (λ r. hidden_of r d.parts.visible) c.requires.sound.place.bounds in
    let across : to_z w32 (of_z w32 c.across_at.result) ≡ across_at l c.args.x = to_z-of_z w32 c.across_at.result fits_place ∙ (c.across_at.ensures ∙ ap (λ z. across_at l z) (to_z-of_z w32 c.args.x c.ranges.x)) in
    let down_is : to_z w32 (of_z w32 c.down.result) ≡ down l c.args.y = to_z-of_z w32 c.down.result fits_row ∙ c.down.ensures in
    smart_places d c.args.plane (across_at l c.args.x) (down l c.args.y) (8 * length c.args.bits.now) c.copy_row.new.bits c.copy_row.new.kept c.in-Smart.is c.requires.sound
    (record {
      pens = λ i below. rw (hidden, c.deref.ensures.value, across, down_is) at (c.copy_row.ensures.bits i below);
      there = λ i below. rw (hidden, across, down_is) at (c.copy_row.ensures.kept i below);
    })
