use Rattle.std.proofs.Common.{◌∙◌, List, ap, sym, subst}
use Rattle.lw_strips.specs.Strips.{StripView, rects_of}
use Rattle.lw_cliprects.specs.Parts.{hidden_of, AreDivided}
use Rattle.lw_layer.specs.Drafts.{live_view}
use Rattle.lw_layer.specs.Copied.{HaveShown}
use Rattle.lw_layer.proofs.KeptLaid.{shown_pens}
use Rattle.lw_layer.proofs.draft.LiveDraft.shown_strips.Goals as goal

pub returns : goal.returns
returns c =
    let d = c.args.self.now in
    let divided : AreDivided d.bounds d.parts.visible (hidden_of d.bounds d.parts.visible) = rw (sym c.requires.place.bounds) (rw c.hidden.ensures.value at c.hidden.ensures.divided) in
    let P : List StripView → Type 0 = λ ss. HaveShown (live_view d) ss in
    record {
      rects = ap (λ ss. rects_of ss) c.as_slice.ensures.value ∙ c.requires.buffers.shown;
      pens = subst P (sym c.as_slice.ensures.value) (shown_pens d c.requires c.min_x.ensures.ordered divided);
    }
