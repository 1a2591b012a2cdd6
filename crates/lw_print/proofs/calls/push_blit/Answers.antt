use Rattle.std.proofs.Common.{rules, ℕ, List, [], ◌∷◌, ◌++◌}
use Rattle.std.specs.Fmt.{signed_decimal}
use Rattle.std.proofs.lemmas.Result.{on_ok_weaker}
use Rattle.lw_calls.specs.Written.{hex_byte}
use Rattle.lw_print.proofs.Joined.{more_behind}
use Rattle.lw_print.proofs.Numbers.{number_read, pair_written, placed_written}
use Rattle.lw_print.proofs.calls.push_blit.Goals as goal

pub returns : goal.returns
returns c =
    let area = c.args.area.now in
    let from : List (List ℕ) = c.args.source.now ∷ signed_decimal area.sx ∷ signed_decimal area.sy ∷ [] in
    let to : List (List ℕ) = c.args.layer.now ∷ signed_decimal area.x ∷ signed_decimal area.y ∷ [] in
    let size : List (List ℕ) = signed_decimal area.w ∷ signed_decimal area.h ∷ [] in
    on_ok_weaker c.push_byte.result
    (λ h. more_behind (from ++ to ++ size) (hex_byte area.minterm ∷ []) c.args.out.now.items _ _
    (more_behind (from ++ to) size _ _ _
    (more_behind from to _ _ _
    (placed_written _ _ _ _ _ _ _ (number_read area.sx (search rules)) (number_read area.sy (search rules)) c.in_ok-push_placed.ensures)
    (placed_written _ _ _ _ _ _ _ (number_read area.x (search rules)) (number_read area.y (search rules)) c.in_ok-push_placed-2.ensures))
    (pair_written _ _ _ _ _ _ (number_read area.w (search rules)) (number_read area.h (search rules)) c.in_ok-push_pair.ensures))
    h)
    c.push_byte.ensures
