use Rattle.std.proofs.Common.{sym, ◌∙◌}
use Rattle.lw_words.proofs.Numbers.{negative_value}
use Rattle.lw_words.proofs.token.plain_token.Goals as goal

pub returns-then-is_below_zero : goal.returns-then-is_below_zero
returns-then-is_below_zero c =
    negative_value c.args.word.now c.magnitude.result c.requires (sym c.is_name.ensures ∙ c.if-is_name.false) (sym c.is_below_zero.ensures ∙ c.if-is_below_zero.true) c.magnitude.ensures.value
