use Rattle.std.proofs.Common.{sym, ◌∙◌}
use Rattle.std.proofs.lemmas.Bool.{eqb-true}
use Rattle.std.proofs.lemmas.List.{nil_from_length}
use Rattle.lw_reveal.proofs.SameRects.{same_list}
use Rattle.lw_reveal.proofs.damage.takes_all.Goals as goal

pub returns-then-is_empty : goal.returns-then-is_empty
returns-then-is_empty c = λ same. (
  sym c.rects.ensures.value ∙ nil_from_length c.rects.result.now (eqb-true _ _ (sym c.is_empty.ensures ∙ c.if-is_empty.true)),
  sym c.rects-then-is_empty.ensures.value
      ∙ (same_list c.rects-then-is_empty.result.now c.rects-then-is_empty-2.result.now c.eq.result c.eq.ensures same
      ∙ c.rects-then-is_empty-2.ensures.value),
)
