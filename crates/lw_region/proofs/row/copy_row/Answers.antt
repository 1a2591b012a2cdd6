use Rattle.std.proofs.Common.{◌∙◌, ap, sym, arith, ◌++◌}
use Rattle.std.proofs.lemmas.Int.{ints}
use Rattle.std.proofs.lemmas.List.{append-nil}
use Rattle.lw_region.specs.Rectangle.{Rectangle}
use Rattle.lw_region.proofs.Columns.{no_rectangles, copied_more}
use Rattle.lw_region.proofs.row.copy_row.Goals as goal

pub loop-rect-init : goal.loop-rect-init
loop-rect-init c = record {
  items = sym (ap (λ w. c.args.out.now.items ++ w) (no_rectangles _ _) ∙ append-nil c.args.out.now.items);
  room = omega (arith, c.requires.room);
}

pub loop-rect-preserved : goal.loop-rect-preserved
loop-rect-preserved c =
    let i = c.loop-rect.invariant in
    record {
      items = copied_more _ _ c.args.out.now.items c.loop-rect.out.items _ c.args.rects.now c.loop-rect.rect-index c.rect-item.result c.of_words.result i.items c.loop-rect-test.true c.rect-item.is
          c.push_reserved.ensures.items
          (ap (λ (w : Rectangle). w.min_x) c.of_words.ensures ∙ omega (arith, ints))
          (ap (λ (w : Rectangle). w.min_y) c.of_words.ensures ∙ omega (arith, ints))
          (ap (λ (w : Rectangle). w.max_x) c.of_words.ensures ∙ omega (arith, ints))
          (ap (λ (w : Rectangle). w.max_y) c.of_words.ensures ∙ omega (arith, ints));
      room = omega (arith, i.room);
    }
