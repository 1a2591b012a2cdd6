use Rattle.std.proofs.Common.{◌∙◌}
use Rattle.std.proofs.lemmas.Result.{on_ok_weaker}
use Rattle.lw_print.specs.Behind.{words_of_call}
use Rattle.lw_print.proofs.Joined.{line_written}
use Rattle.lw_print.proofs.calls.push_call.Goals as goal

pub returns : goal.returns
returns c =
    let names = c.args.names.now in
    let bitmaps = c.args.bitmaps.now in
    on_ok_weaker c.end_line.result
    (line_written (words_of_call names bitmaps c.args.call.now) c.as_bytes.result.now c.args.out.now.items _ _ _ (c.as_bytes.ensures.value ∙ c.verb_of.ensures names bitmaps) c.in_ok-extend_from_slice.ensures.items c.in_ok-push_rest.ensures)
    c.end_line.ensures.ok
