use Rattle.std.proofs.Common.{rules, [], ◌∷◌}
use Rattle.std.specs.Fmt.{signed_decimal}
use Rattle.std.proofs.lemmas.Result.{on_ok_weaker}
use Rattle.lw_canonical.specs.Spelling.{four_words, bounds_words}
use Rattle.lw_print.proofs.Joined.{more_behind, word_more, bounds_behind}
use Rattle.lw_print.proofs.Numbers.{number_read, four_written, placed_written}
use Rattle.lw_print.proofs.calls.push_layer_and_four.Goals as goal

pub returns-in_ok-push_word-in-SetBox : goal.returns-in_ok-push_word-in-SetBox
returns-in_ok-push_word-in-SetBox c = λ bitmaps.
    let call = c.in-SetBox in
    rw call.is
    (on_ok_weaker c.push_four.result
    (λ h. word_more _ _ (four_words call.x call.y call.w call.h) c.args.out.now.items _ _ c.name_of.ensures c.in_ok-push_word-in-SetBox.ensures.ok
    (four_written _ _ _ _ _ _ _ _ _ _ (number_read call.x (search rules)) (number_read call.y (search rules)) (number_read call.w (search rules)) (number_read call.h (search rules)) h))
    c.push_four.ensures)

pub returns-in_ok-push_placed-in-ScrollRaster : goal.returns-in_ok-push_placed-in-ScrollRaster
returns-in_ok-push_placed-in-ScrollRaster c = λ bitmaps.
    let call = c.in-ScrollRaster in
    rw (call.is, ← c.name_of-in-ScrollRaster.ensures)
    (on_ok_weaker c.push_spaced_bounds-in-ScrollRaster.result
    (λ h. more_behind (c.name_of-in-ScrollRaster.result.now ∷ signed_decimal call.dx ∷ signed_decimal call.dy ∷ []) (bounds_words call.rect) c.args.out.now.items _ _
    (placed_written _ _ _ _ _ _ _ (number_read call.dx (search rules)) (number_read call.dy (search rules)) c.in_ok-push_placed-in-ScrollRaster.ensures)
    (bounds_behind call.rect _ _ h))
    c.push_spaced_bounds-in-ScrollRaster.ensures.ok)
