use Rattle.std.proofs.Common.{ap, ◌∙◌}
use Rattle.lw_grammar.specs.Tokens.{tokens}
use Rattle.lw_words.specs.Cuts.{words_left}
use Rattle.lw_words.proofs.CutWords.{none_found, more_words}
use Rattle.lw_words.proofs.tokens.words_of.Goals as goal

pub loop-rest-init : goal.loop-rest-init
loop-rest-init c = none_found (tokens c.args.line.now) c.clear.new.self.items c.clear.ensures.items

pub loop-rest-preserved : goal.loop-rest-preserved
loop-rest-preserved c =
    rw c.in_ok-push-in-Ok.ensures.items (more_words _ c.loop-rest.words.items c.in-Ok.word (words_left c.loop-rest.rest) (words_left c.in-Ok.behind) c.loop-rest.invariant (ap words_left c.in-Some.is ∙ c.in-Ok.ensures.0))
