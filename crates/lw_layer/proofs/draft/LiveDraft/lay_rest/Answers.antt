use Rattle.std.proofs.Common.{◌≡◌, ◌∙◌, ap, sym, subst, List, w64}
use Rattle.std.specs.List.{All}
use Rattle.std.proofs.lemmas.Int.{to_z-of_z}
use Rattle.lw_region.specs.Rectangle.{Rectangle}
use Rattle.lw_planes.specs.Bitmap.{Bitmap}
use Rattle.lw_buffers.specs.Lookup.{AreBuffers}
use Rattle.lw_cliprects.specs.Parts.{hidden_of}
use Rattle.lw_layer.proofs.CopyingBuffers.{covered_buffers, covered_deep}
use Rattle.lw_layer.proofs.KeptLaid.{simple_laid, smart_laid}
use Rattle.lw_layer.proofs.draft.LiveDraft.lay_rest.Goals as goal

pub lay_buffers-requires-clause-buffers : goal.lay_buffers-requires-clause-buffers
lay_buffers-requires-clause-buffers c =
    let d = c.args.self.now in
    let hidden : c.hidden.result.now ≡ hidden_of d.bounds d.parts.visible = c.hidden.ensures.value ∙ ap (λ r. hidden_of r d.parts.visible) c.requires.sound.place.bounds in
    let P : List Rectangle → Type 0 = λ rs. AreBuffers rs c.deref.result.now in
    let Q : List Bitmap → Type 0 = λ bs. AreBuffers (hidden_of d.bounds d.parts.visible) bs in
    subst P (sym hidden) (subst Q (sym c.deref.ensures.value) (covered_buffers d c.in-Smart.is c.requires.sound))

pub lay_buffers-requires-clause-planes : goal.lay_buffers-requires-clause-planes
lay_buffers-requires-clause-planes c =
    let P : List Bitmap → Type 0 = λ bs. All (λ (b : Bitmap). b.depth ≡ c.args.to.now.depth) bs in
    subst P (sym c.deref.ensures.value) (covered_deep c.args.self.now c.args.to.now.depth c.in-Smart.is c.requires.sound c.requires.planes)

pub returns-in-Simple : goal.returns-in-Simple
returns-in-Simple c = simple_laid c.args.self.now c.args.left c.args.top c.args.to.now c.in-Simple.is c.depth.ensures.planes.bitmap

pub returns-in-Smart : goal.returns-in-Smart
returns-in-Smart c =
    let d = c.args.self.now in
    let hidden : c.hidden.result.now ≡ hidden_of d.bounds d.parts.visible = c.hidden.ensures.value ∙ ap (λ r. hidden_of r d.parts.visible) c.requires.sound.place.bounds in
    let left = to_z-of_z w64 c.args.left c.ranges.left in
    let top = to_z-of_z w64 c.args.top c.ranges.top in
    smart_laid d c.args.left c.args.top c.args.to.now c.lay_buffers.new.to c.in-Smart.is c.requires.sound (rw (left, top, hidden, c.deref.ensures.value) at c.lay_buffers.ensures)
