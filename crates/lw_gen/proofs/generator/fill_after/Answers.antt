use Rattle.std.proofs.Common.{◌≡◌, ap, ◌∙◌}
use Rattle.lw_calls.specs.declared.call.Call.TheVariants.{Fill}
use Rattle.lw_gen.specs.Generator.{stirred, picked, fill_from}
use Rattle.lw_gen.proofs.generator.fill_after.Goals as goal

pub returns : goal.returns
returns c =
    let left : c.stirred-left.result ≡ stirred c.args.word = c.stirred-left.ensures in
    let upper : c.stirred-upper.result ≡ stirred (stirred c.args.word) = c.stirred-upper.ensures ∙ ap stirred left in
    let right : c.stirred-right.result ≡ stirred (stirred (stirred c.args.word)) = c.stirred-right.ensures ∙ ap stirred upper in
    let lower : c.stirred-lower.result ≡ stirred (stirred (stirred (stirred c.args.word))) =
    c.stirred-lower.ensures ∙ ap stirred right in
    ap (λ r. (Fill c.args.slot r, c.stirred-lower.result)) c.rect_from-rect.ensures
    ∙ (λ i. (
      fill_from c.args.slot (c.picked-x.ensures.value i) (c.picked-y.ensures.value i) (c.picked.ensures.value i)
          (c.picked-2.ensures.value i),
      c.stirred-lower.result,
    ))
    ∙ (λ i. (
      fill_from c.args.slot (picked c.args.columns (left i)) (picked 192 (upper i)) (picked 16 (right i))
          (picked 16 (lower i)),
      lower i,
    ))
