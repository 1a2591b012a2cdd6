use Rattle.std.proofs.Common.{◌≡◌, ◌≤◌, true, List, [], length, refl, subst, arith, rules}
use Rattle.std.specs.List.{list_all}
use Rattle.std.proofs.lemmas.List.Sums.{AllPass-from_list_all}
use Rattle.lw_calls.specs.declared.call.Call.{Call}
use Rattle.lw_calls.specs.declared.sizes.Sizes.{Sizes}
use Rattle.lw_calls.specs.Limits.{call_fits, limits_of}
use Rattle.lw_calls.proofs.TwoTasks.{AreFitting, two_tasks}
use Rattle.lw_desk_tests.proofs.calls.plan_of.Goals as goal

-- calls that were looked at are fitting ones
planned : (sizes : Sizes) (told calls : List Call) → 64 ≤ (limits_of sizes.version).calls → told ≡ calls → length told ≤ 64
    → list_all (call_fits sizes) told ≡ true
    → AreFitting sizes calls
planned sizes told calls room same few fit =
    subst (AreFitting sizes) same
    (record { few = omega (arith, room, few); fit = AllPass-from_list_all (call_fits sizes) told fit })

pub new-requires-5 : goal.new-requires-5
new-requires-5 c =
    let one = c.may_be_planned.ensures in
    let two = c.may_be_planned-2.ensures in
    let is_first = c.if-not-may_be_planned.false in
    let is_second = c.if-not-may_be_planned-2.false in
    two_tasks _ _ _ _ _ _ _ _ c.args.first.items c.args.second.items [] (search rules) refl refl
    (search rules) (search rules) (search rules) (search rules) (search rules) (search rules)
    (planned _ _ c.args.first.items (search rules) c.as_slice.ensures.value (one.few is_first) (one.fit is_first))
    (planned _ _ c.args.second.items (search rules) c.as_slice-2.ensures.value (two.few is_second) (two.fit is_second))
    refl
