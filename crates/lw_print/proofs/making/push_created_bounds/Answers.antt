use Rattle.std.proofs.Common.{rules, [], ◌∷◌, pos, ◌+ℤ◌, ◌-ℤ◌}
use Rattle.std.specs.Fmt.{signed_decimal}
use Rattle.std.proofs.lemmas.Result.{on_ok_weaker}
use Rattle.lw_print.proofs.Joined.{more_behind}
use Rattle.lw_print.proofs.Numbers.{number_read, pair_written}
use Rattle.lw_print.proofs.making.push_created_bounds.Goals as goal

pub returns : goal.returns
returns c =
    let make = c.args.make.now in
    on_ok_weaker c.push_last_corner.result
    (more_behind (signed_decimal make.x ∷ signed_decimal make.y ∷ []) (signed_decimal ((make.x +ℤ make.w) -ℤ pos 1) ∷ signed_decimal ((make.y +ℤ make.h) -ℤ pos 1) ∷ []) _ _ _
    (pair_written _ _ _ _ _ _ (number_read make.x (search rules)) (number_read make.y (search rules)) c.in_ok-push_pair.ensures))
    c.push_last_corner.ensures
