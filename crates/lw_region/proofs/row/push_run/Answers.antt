use Rattle.std.proofs.Common.{◌∙◌, ap, sym, arith, ◌++◌}
use Rattle.std.proofs.lemmas.Int.{ints}
use Rattle.std.proofs.lemmas.List.{append-nil}
use Rattle.lw_region.specs.Rectangle.{Rectangle}
use Rattle.lw_region.specs.Columns.{run_rectangles}
use Rattle.lw_region.proofs.Columns.{pushed_run, no_rectangles, some_none}
use Rattle.lw_region.proofs.row.push_run.Goals as goal

pub returns-then-first-last-clause-items : goal.returns-then-first-last-clause-items
returns-then-first-last-clause-items c =
    let r = c.of_words.result in
    let f = c.if-first-last.true in
    let h = c.requires.columns (omega (arith, ints)) in
    let h0 = h.0 in
    let h1 = h.1 in
    c.push_reserved.ensures.items ∙ pushed_run c.args.top c.args.bottom c.args.first c.args.last c.args.out.now.items r (omega (arith, ints))
    (ap (λ (w : Rectangle). w.min_x) c.of_words.ensures ∙ omega (arith, ints))
    (ap (λ (w : Rectangle). w.min_y) c.of_words.ensures ∙ omega (arith, ints))
    (ap (λ (w : Rectangle). w.max_x) c.of_words.ensures ∙ omega (arith, ints))
    (ap (λ (w : Rectangle). w.max_y) c.of_words.ensures ∙ omega (arith, ints))

pub returns-else-first-last-clause-items : goal.returns-else-first-last-clause-items
returns-else-first-last-clause-items c =
    let before = c.args.out.now.items in
    sym (ap (λ w. before ++ run_rectangles c.args.top c.args.bottom w) (some_none c.args.first c.args.last (omega (arith, ints)))
    ∙ (ap (λ w. before ++ w) (no_rectangles c.args.top c.args.bottom) ∙ append-nil before))
