use Rattle.std.proofs.Common.{◌≡◌, ◌-◌, List, ◌∷◌, [], length, map, take, drop, ℤ, Option, ap, ◌∙◌, to_z, of_z, w64, rules}
use Rattle.std.proofs.lemmas.Int.{to_z-of_z}
use Rattle.std.proofs.lemmas.List.{take_rest}
use Rattle.lw_grammar.specs.Statements.{Statement, open_super}
use Rattle.lw_grammar.specs.Tokens.{NumberToken}
use Rattle.lw_words.specs.declared.token.Token.{Token}
use Rattle.lw_words.specs.TokenMeaning.{token_meaning}
use Rattle.lw_statements.specs.StatementMeaning.{box_meaning}
use Rattle.lw_lines.proofs.lines_asked.open_super.Goals as goal

pub returns-in-Number : goal.returns-in-Number
returns-in-Number c =
    let w = c.in-Number.bits_w in
    let h = c.in-Number.bits_h in
    let all = c.args.tokens.now in
    let rest : List Token = take (length all - 2) (drop 2 all) in
    let sized : ℤ → ℤ → List Token → Option Statement = λ x y ts. open_super c.args.layer.now c.args.place (box_meaning c.args.at) (NumberToken [] x ∷ NumberToken [] y ∷ map token_meaning ts) in
    let wide : to_z w64 (of_z w64 w) ≡ w = to_z-of_z w64 w (search rules) in
    let high : to_z w64 (of_z w64 h) ≡ h = to_z-of_z w64 h (search rules) in
    let whole : sized w h (drop 2 all) ≡ open_super c.args.layer.now c.args.place (box_meaning c.args.at) (map token_meaning all) = search rules in
    c.open_sized.ensures ∙ ap (λ x. sized x (to_z w64 (of_z w64 h)) rest) wide ∙ ap (λ y. sized w y rest) high ∙ ap (sized w h) (take_rest all 2) ∙ whole
