use Rattle.std.proofs.Common.{rules, ℕ, List, [], ◌∷◌, ◌++◌, ◌∙◌, ap}
use Rattle.std.proofs.lemmas.Result.{on_ok_weaker}
use Rattle.lw_canonical.specs.Spelling.{kind_word, place_word, four_words, ask_words, text_word}
use Rattle.lw_print.specs.Behind.{behind}
use Rattle.lw_print.proofs.Joined.{more_behind, word_more}
use Rattle.lw_print.proofs.Numbers.{number_read, four_written}
use Rattle.lw_print.proofs.pairs.push_rest.Goals as goal

pub returns-in_ok-push_asks-in-Open : goal.returns-in_ok-push_asks-in-Open
returns-in_ok-push_asks-in-Open c =
    let word = c.in-Open in
    let made : List (List ℕ) = kind_word word.kind ∷ place_word word.place ∷ [] in
    let box : List (List ℕ) = four_words word.x word.y word.w word.h in
    let asked : List (List ℕ) = ask_words word.asks in
    let titled : List (List ℕ) = text_word word.title ∷ [] in
    rw word.is
    (on_ok_weaker c.push_text.result
    (λ h. word_more _ _ ((made ++ box) ++ (asked ++ titled)) c.args.out.now.items _ _ c.name_of.ensures c.in_ok-push_word-in-Open.ensures.ok
    (more_behind (made ++ box) (asked ++ titled) _ _ _
    (more_behind made box _ _ _ c.in_ok-push_kind_and_place-in-Open.ensures
    (four_written _ _ _ _ _ _ _ _ _ _ (number_read word.x (search rules)) (number_read word.y (search rules)) (number_read word.w (search rules)) (number_read word.h (search rules)) c.in_ok-push_four-in-Open.ensures))
    (more_behind asked titled _ _ _ c.in_ok-push_asks-in-Open.ensures
    (h ∙ ap (λ title. c.push_asks.new.out.items ++ behind (text_word title ∷ [])) c.bytes.ensures))))
    c.push_text.ensures)
