use Rattle.std.proofs.Common.{rules, [], ◌∷◌}
use Rattle.std.specs.Fmt.{signed_decimal}
use Rattle.std.proofs.lemmas.Result.{on_ok_weaker}
use Rattle.lw_print.proofs.Joined.{more_behind}
use Rattle.lw_print.proofs.Numbers.{number_read, pair_written}
use Rattle.lw_print.proofs.words.push_four.Goals as goal

pub returns : goal.returns
returns c =
    on_ok_weaker c.push_pair-2.result
    (λ h. more_behind (signed_decimal c.args.x ∷ signed_decimal c.args.y ∷ []) (signed_decimal c.args.w ∷ signed_decimal c.args.h ∷ []) _ _ _
    (pair_written _ _ _ _ _ _ (number_read c.args.x (search rules)) (number_read c.args.y (search rules)) c.in_ok-push_pair.ensures)
    (pair_written _ _ _ _ _ _ (number_read c.args.w (search rules)) (number_read c.args.h (search rules)) h))
    c.push_pair-2.ensures
