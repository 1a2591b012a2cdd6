use Rattle.std.proofs.Common.{ℕ, ◌<◌, sym, subst}
use Rattle.std.specs.Prelude.{Contains}
use Rattle.lw_calls.specs.declared.touch.Role.TheVariants.{Task}
use Rattle.lw_order.proofs.RoleLaws.{all_roles_has_task}
use Rattle.lw_base_tests.proofs.tests_order.eight_threads_draw_each_number_once.Goals as goal

pub split_all-requires-clause-roles : goal.split_all-requires-clause-roles
split_all-requires-clause-roles g c t below =
    subst (λ roles. Contains roles (Task t)) (sym c.in_ok-order.ensures.roles)
    (all_roles_has_task _ _ t (subst (λ (n : ℕ). t < n) (sym c.sizes_of.ensures.1) below))
