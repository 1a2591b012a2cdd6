use Rattle.std.proofs.Common.{◌≡◌, ◌∙◌, List, true, sym, subst, to_z, of_z, w16, w32, w64, rules, FitsSigned, arith}
use Rattle.std.specs.List.{All}
use Rattle.std.proofs.lemmas.Int.{ints, to_z-of_z}
use Rattle.lw_strips.specs.Strips.{StripView}
use Rattle.lw_cliprects.specs.Parts.{hidden_of, AreDivided}
use Rattle.lw_layer.specs.Drafts.{layout}
use Rattle.lw_layer.specs.Copied.{across_at, down_at}
use Rattle.lw_layer.proofs.CopyingBuffers.{shown_deep}
use Rattle.lw_layer.proofs.KeptLaid.{kept_laid, all_laid, laid_planes, left_is, top_is}
use Rattle.lw_layer.proofs.draft.LiveDraft.copy_kept.Goals as goal

pub lay_strips-requires-clause-solid : goal.lay_strips-requires-clause-solid
lay_strips-requires-clause-solid c =
    let P : List StripView → Type 0 = λ ss. All (λ (s : StripView). s.solid ≡ true) ss in
    subst P (sym c.deref.ensures.value) c.requires.sound.buffers.solid

pub lay_strips-requires-clause-planes : goal.lay_strips-requires-clause-planes
lay_strips-requires-clause-planes c =
    let d = c.args.self.now in
    let P : List StripView → Type 0 = λ ss. All (λ (s : StripView). s.planes.depth ≡ c.lay_rest.new.to.depth) ss in
    subst P (sym c.deref.ensures.value) (shown_deep d c.lay_rest.new.to.depth c.requires.sound (laid_planes _ _ _ _ c.args.to.now c.lay_rest.new.to c.lay_rest.ensures ∙ c.requires.planes))

pub returns : goal.returns
returns c =
    let d = c.args.self.now in
    let l = layout d in
    let fits_left : FitsSigned w64 c.start-left.result = search rules in
    let fits_top : FitsSigned w64 c.start-top.result = search rules in
    let x = to_z-of_z w32 c.args.x c.ranges.x in
    let y = to_z-of_z w32 c.args.y c.ranges.y in
    let scroll_x : FitsSigned w32 d.scroll_x = search rules in
    let scroll_y : FitsSigned w32 d.scroll_y = search rules in
    let edge_x : to_z w16 (of_z w16 c.min_x-2.result) ≡ d.bounds.min_x = omega (arith, ints, c.min_x-2.ensures.value) in
    let edge_y : to_z w16 (of_z w16 c.min_y.result) ≡ d.bounds.min_y = omega (arith, ints, c.min_y.ensures.value) in
    let left : to_z w64 (of_z w64 c.start-left.result) ≡ across_at l c.args.x = to_z-of_z w64 c.start-left.result fits_left ∙ left_is d c.start-left.result c.args.x c.requires.sound (rw (edge_x, x, to_z-of_z w32 d.scroll_x scroll_x) at c.start-left.ensures.value) in
    let top : to_z w64 (of_z w64 c.start-top.result) ≡ down_at l c.args.y = to_z-of_z w64 c.start-top.result fits_top ∙ top_is d c.start-top.result c.args.y c.requires.sound (rw (edge_y, y, to_z-of_z w32 d.scroll_y scroll_y) at c.start-top.ensures.value) in
    let divided : AreDivided d.bounds d.parts.visible (hidden_of d.bounds d.parts.visible) = rw (sym c.requires.sound.place.bounds) (rw c.hidden.ensures.value at c.hidden.ensures.divided) in
    let rest = rw (left, top) at c.lay_rest.ensures in
    let all = rw (left, top, c.deref.ensures.value) at c.lay_strips.ensures in
    all_laid d (across_at l c.args.x) (down_at l c.args.y) c.args.to.now c.lay_rest.new.to c.lay_strips.new.to c.requires.sound rest all ∙ kept_laid d c.args.x c.args.y c.args.to.now c.requires.sound c.min_x.ensures.ordered divided
