use Rattle.std.proofs.Common.{◌≡◌, Some, map, sym, subst, ◌∙◌}
use Rattle.lw_area.specs.Patterns.{IsPattern}
use Rattle.lw_grammar.specs.Statements.{pattern_words}
use Rattle.lw_words.specs.TokenMeaning.{token_meaning}
use Rattle.lw_lines.proofs.PatternWords.{words_found, no_pattern, pattern_made}
use Rattle.lw_lines.proofs.lines_parts.pattern_after.Goals as goal

pub returns-in-None-new : goal.returns-in-None-new
returns-in-None-new c =
    let found : Some c.in-Some.words.items ≡ pattern_words (map token_meaning c.args.tokens.now) = words_found (λ v. v.items) _ c.in-Some.words _ c.in-Some.is c.in_ok-pattern_words.ensures in
    no_pattern c.args.name.now (map token_meaning c.args.tokens.now) c.in-Some.words.items found (λ k. c.in-None-new.ensures (subst IsPattern (sym c.as_slice.ensures.value) k))

pub returns : goal.returns
returns c =
    let found : Some c.in-Some.words.items ≡ pattern_words (map token_meaning c.args.tokens.now) = words_found (λ v. v.items) _ c.in-Some.words _ c.in-Some.is c.in_ok-pattern_words.ensures in
    let made = c.in-Some-new.ensures in
    pattern_made c.args.name.now (map token_meaning c.args.tokens.now) c.in-Some.words.items _ found (subst IsPattern c.as_slice.ensures.value made.0) (made.1 ∙ c.as_slice.ensures.value)
