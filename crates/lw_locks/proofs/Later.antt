-- A part that no step of a history touches is the same after it.
use Rattle.std.proofs.Common.{◌≡◌, false, List, [], ◌∷◌, refl, sym, ap, subst, ◌∙◌}
use Rattle.std.specs.Prelude.{All, Contains}
use Rattle.std.proofs.lemmas.List.Elements.{All-head, All-tail, All-contains, All-weaker}
use Rattle.lw_calls.specs.declared.entry.Entry.{Entry}
use Rattle.lw_calls.specs.declared.touch.Role.{Role}
use Rattle.lw_calls.specs.declared.touch.Role.TheVariants.{Task, Slot, Info}
use Rattle.lw_calls.specs.Touches.{touch_of, touches_role}
use Rattle.lw_machine.specs.Desk.{Desk}
use Rattle.lw_machine.specs.History.{machine}
use Rattle.lw_machine.specs.Parts.{HaveSame}
use Rattle.lw_machine.specs.Step.{after}
use Rattle.lw_machine.proofs.Untouched.{leaves_the_rest}
use Rattle.lw_order.specs.Roles.{LeavesAlone, Quiet}
use Rattle.lw_order.specs.Promised.{Follows}
use Rattle.lw_engine_trait.proofs.Histories.{machine_append}

same_itself : (r : Role) (d : Desk) → HaveSame r d d
same_itself (Task t) d = refl
same_itself (Slot s) d = refl
same_itself Info d = refl

same_both : (r : Role) (d e f : Desk) → HaveSame r d e → HaveSame r e f → HaveSame r d f
same_both (Task t) d e f h k = h ∙ k
same_both (Slot s) d e f h k = h ∙ k
same_both Info d e f h k = h ∙ k

same_over : (r : Role) (es : List Entry) (d : Desk) → All (λ e. touches_role (touch_of e.task e.call) r ≡ false) es → HaveSame r d (machine d es)
same_over r [] d h = same_itself r d
same_over r (e ∷ es) d h =
    let P : Entry → Type 0 = λ e. touches_role (touch_of e.task e.call) r ≡ false in
    same_both r d (after d e.task e.call) (machine (after d e.task e.call) es) (leaves_the_rest d e.task e.call r (All-head P e es h)) (same_over r es (after d e.task e.call) (All-tail P e es h))

-- no step of the rest touches a role that they leave alone
untouched : (roles : List Role) (r : Role) (es : List Entry) → Contains roles r → Quiet roles es → All (λ e. touches_role (touch_of e.task e.call) r ≡ false) es
untouched roles r es there quiet =
    All-weaker (LeavesAlone roles) (λ e. touches_role (touch_of e.task e.call) r ≡ false) (λ e h. All-contains (λ role. touches_role (touch_of e.task e.call) role ≡ false) roles r h there) es quiet

-- A part is the same after a history that goes on without touching its role.
pub later : (desk : Desk) (roles : List Role) (r : Role) (old new : List Entry) → Contains roles r → Follows roles old new → HaveSame r (machine desk old) (machine desk new)
later desk roles r old new there f =
    let whole : machine desk new ≡ machine (machine desk old) f.rest = ap (machine desk) f.prefix ∙ machine_append desk old f.rest in
    subst (HaveSame r (machine desk old)) (sym whole) (same_over r f.rest (machine desk old) (untouched roles r f.rest there f.quiet))
