use Rattle.std.proofs.Common.{◌∙◌}
use Rattle.std.proofs.lemmas.Result.{on_ok_weaker}
use Rattle.lw_print.proofs.PairWords.{word_line_written}
use Rattle.lw_print.proofs.pairs.push_word_line.Goals as goal

pub returns : goal.returns
returns c =
    let names = c.args.names.now in
    let pair = c.args.pair.now in
    on_ok_weaker c.end_line.result
    (word_line_written names pair c.args.word.now c.as_bytes.result.now c.name_of.result.now c.args.out.now.items _ _ _ _ (c.as_bytes.ensures.value ∙ c.verb_of.ensures names pair) c.name_of.ensures c.in_ok-extend_from_slice.ensures.items c.in_ok-push_word.ensures.ok c.in_ok-push_rest.ensures)
    c.end_line.ensures.ok
