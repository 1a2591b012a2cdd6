use Rattle.std.proofs.Common.{ℕ, List, [], ◌∷◌, ◌++◌, ◌∙◌, ap}
use Rattle.std.proofs.lemmas.Result.{on_ok_weaker}
use Rattle.lw_canonical.specs.Canonical.{new_layer_of, opened_box}
use Rattle.lw_canonical.specs.Spelling.{kind_word, place_word, box_words, opened_words, text_word}
use Rattle.lw_print.specs.Behind.{behind}
use Rattle.lw_print.proofs.Joined.{more_behind, word_more}
use Rattle.lw_print.proofs.calls.push_layer_made.Goals as goal

pub returns-in_ok-push_opened-in-OpenWindow : goal.returns-in_ok-push_opened-in-OpenWindow
returns-in_ok-push_opened-in-OpenWindow c = λ bitmaps.
    let call = c.in-OpenWindow in
    let layer = new_layer_of call.make in
    let made : List (List ℕ) = kind_word call.make.kind ∷ place_word call.make.place ∷ box_words (opened_box call.make) ++ opened_words call.make.kind layer call.framed call.nocare call.asks in
    rw call.is
    (on_ok_weaker c.push_text.result
    (λ h. word_more _ _ (made ++ text_word call.title ∷ []) c.args.out.now.items _ _ c.name_of-in-OpenWindow.ensures c.in_ok-push_word-in-OpenWindow.ensures.ok
    (more_behind made (text_word call.title ∷ []) _ _ _
    c.in_ok-push_opened-in-OpenWindow.ensures
    (h ∙ ap (λ title. c.push_opened.new.out.items ++ behind (text_word title ∷ [])) c.bytes.ensures)))
    c.push_text.ensures)
