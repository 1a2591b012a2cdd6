use Rattle.std.proofs.Common.{◌≡◌, ◌∙◌, sym, ap, option_map, Some}
use Rattle.lw_words.specs.Digits.{spelling}
use Rattle.lw_words.specs.TokenMeaning.{token_meaning}
use Rattle.lw_words.proofs.HexDigits.{bytes_of_word, length_decoded, spells, spells_not, too_long}
use Rattle.lw_words.proofs.hex.digits_in.Goals as goal

pub returns-then-word-count-clause-bytes : goal.returns-then-word-count-clause-bytes
returns-then-word-count-clause-bytes c =
    let e : spelling (token_meaning c.args.token.now) ≡ Some c.in-Some.word.now = sym c.word_of.ensures ∙ ap (option_map (λ w. w.now)) c.in-Some.is in
    sym (bytes_of_word (token_meaning c.args.token.now) c.in-Some.word.now c.args.count e ∙ too_long c.in-Some.word.now c.args.count c.if-word-count.true)

pub returns-then-not-are_hex-clause-bytes : goal.returns-then-not-are_hex-clause-bytes
returns-then-not-are_hex-clause-bytes c =
    let e : spelling (token_meaning c.args.token.now) ≡ Some c.in-Some.word.now = sym c.word_of.ensures ∙ ap (option_map (λ w. w.now)) c.in-Some.is in
    sym (bytes_of_word (token_meaning c.args.token.now) c.in-Some.word.now c.args.count e ∙ spells_not c.in-Some.word.now c.args.count (sym c.are_hex.ensures ∙ c.if-not-are_hex.true))

pub returns-else-not-are_hex-clause-bytes : goal.returns-else-not-are_hex-clause-bytes
returns-else-not-are_hex-clause-bytes c =
    let e : spelling (token_meaning c.args.token.now) ≡ Some c.in-Some.word.now = sym c.word_of.ensures ∙ ap (option_map (λ w. w.now)) c.in-Some.is in
    sym (bytes_of_word (token_meaning c.args.token.now) c.in-Some.word.now c.args.count e ∙ spells c.in-Some.word.now c.args.count c.if-word-count.false (sym c.are_hex.ensures ∙ c.if-not-are_hex.false))

pub returns-else-not-are_hex-clause-long : goal.returns-else-not-are_hex-clause-long
returns-else-not-are_hex-clause-long c = length_decoded c.in-Some.word.now c.args.count c.if-word-count.false
