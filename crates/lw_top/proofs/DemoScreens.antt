-- The screen that a demo's run leaves, whatever its order.
use Rattle.std.proofs.Common.{◌≡◌, ℕ, ◌≤◌, true, List, [], map, subst, ap, ◌∙◌}
use Rattle.lw_calls.specs.Plan.{Plan}
use Rattle.lw_calls.specs.Final.{Final}
use Rattle.lw_calls.specs.Orders.{is_legal}
use Rattle.lw_machine.specs.Hook.{Hook}
use Rattle.lw_machine.specs.Finals.{run_final}
use Rattle.lw_gen.specs.Demo.{demo_plan}
use Rattle.lw_apart.specs.InTurn.{in_turn}
use Rattle.lw_apart.proofs.Demos.{demos_show}
use Rattle.lw_apart.proofs.InTurn.{demos_may_go}

-- that of the order in which each task comes after the one before it
pub screen_in_turn : {A : Type 0} (f : A → Hook) (number tasks : ℕ) (plan : Plan) (hooks : List A) (order : List ℕ) (last : Final)
    → 1 ≤ tasks → tasks ≤ 16 → plan ≡ demo_plan number tasks → hooks ≡ [] → is_legal plan order ≡ true → last ≡ run_final plan (map f hooks) order
    → last.planes ≡ (run_final (demo_plan number tasks) [] (in_turn (demo_plan number tasks))).planes
screen_in_turn f number tasks plan hooks order last some few is none legal left =
    let here = subst (λ p. is_legal p order ≡ true) is legal in
    let same = demos_show number tasks [] order (in_turn (demo_plan number tasks)) some few here (demos_may_go number tasks) in
    ap (λ (l : Final). l.planes) left ∙ ((λ i. (run_final (is i) (map f (none i)) order).planes) ∙ same.screen)
