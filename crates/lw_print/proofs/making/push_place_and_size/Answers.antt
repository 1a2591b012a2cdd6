use Rattle.std.proofs.Common.{rules}
use Rattle.std.proofs.lemmas.Result.{on_ok_weaker}
use Rattle.lw_print.proofs.Numbers.{number_read, four_written}
use Rattle.lw_print.proofs.making.push_place_and_size.Goals as goal

pub returns : goal.returns
returns c =
    let make = c.args.make.now in
    on_ok_weaker c.push_four.result
    (four_written _ _ _ _ _ _ _ _ _ _ (number_read make.x (search rules)) (number_read make.y (search rules)) (number_read make.w (search rules)) (number_read make.h (search rules)))
    c.push_four.ensures
