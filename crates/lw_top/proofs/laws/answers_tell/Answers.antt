use Rattle.lw_top.proofs.AnswerLaws.{told_of_words}
use Rattle.lw_top.proofs.laws.answers_tell.Goals as goal

pub returns : goal.returns
returns c = told_of_words
