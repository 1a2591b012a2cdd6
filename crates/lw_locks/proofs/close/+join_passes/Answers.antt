-- The seats of passes joined to one.
use Rattle.std.proofs.Common.{◌≡◌, [], ◌∷◌, length, vec_len, ap, sym, subst, ◌∙◌}
use Rattle.lw_calls.specs.declared.touch.Role.TheVariants.{Task}
use Rattle.lw_locks.specs.Closing.{task_of, AreRegsHeld}
use Rattle.lw_locks.specs.Seen.{SeenHolder, shown}
use Rattle.lw_locks.proofs.Seats.{longer_by, longer_on}
use Rattle.lw_locks.proofs.Closing.{taken_out, each_left, regs_more, followed_more}
use Rattle.lw_locks.proofs.close.+join_passes.Goals as goal

pub returns-clause-longer : goal.returns-clause-longer
returns-clause-longer g t c =
    let mid = c.join_passes.new.seat in
    longer_on c.args.seat.now mid c.join.new.seat c.join_passes.ensures.longer (longer_by g.N.Opening.desk mid c.holder.inside.seat c.join.new.seat c.join.ensures)

pub join_passes-requires-clause-each : goal.join_passes-requires-clause-each
join_passes-requires-clause-each g t c κs within =
    let whole = c.args.passes.now in
    let rest = c.remove-pass.new.self in
    let off = c.remove-pass.result in
    let found = c.place_of-place.ensures in
    let less = c.remove-pass.ensures.len in
    let out = taken_out task_of c.as_slice.result.now whole.items rest.items off c.place_of-place.result c.len-last.result (vec_len rest) (vec_len whole) c.as_slice.ensures.value found.place (found.task off) c.len-last.ensures less
    c.remove-pass.ensures.value c.remove-pass.ensures.by_index.2 in
    each_left task_of whole.items rest.items off (vec_len rest) (vec_len whole) out less c.requires.each

pub returns-clause-regs : goal.returns-clause-regs
returns-clause-regs g t c =
    let whole = c.args.passes.now in
    let rest = c.remove-pass.new.self in
    let off = c.remove-pass.result in
    let found = c.place_of-place.ensures in
    let out = taken_out task_of c.as_slice.result.now whole.items rest.items off c.place_of-place.result c.len-last.result (vec_len rest) (vec_len whole) c.as_slice.ensures.value found.place (found.task off) c.len-last.ensures c.remove-pass.ensures.len
    c.remove-pass.ensures.value c.remove-pass.ensures.by_index.2 in
    let desk = g.N.Opening.desk in
    let own = c.holder.inside in
    let mid = c.join_passes.new.seat in
    let all = c.join_passes.new.regs in
    let same : own.task ≡ c.pass.inside.holder.task = ap (λ (h : SeenHolder). h.task) c.holder.view_is in
    let mine : own.task ≡ length all.items = same ∙ (ap task_of c.pass.view_is ∙ (out.is ∙ (sym c.join_passes.ensures.many.0 ∙ all.ok.0))) in
    subst (λ rs. AreRegsHeld g.E.Engine.relations desk c.join.new.seat rs) (sym c.push_reserved.ensures.items)
    (regs_more g.E.Engine.relations desk own.task mid own.seat c.join.new.seat all.items own.regs c.join.ensures c.join_passes.ensures.regs mine c.holder.invariant.regs)

pub returns-clause-followed : goal.returns-clause-followed
returns-clause-followed g t c =
    let whole = c.args.passes.now in
    let rest = c.remove-pass.new.self in
    let off = c.remove-pass.result in
    let found = c.place_of-place.ensures in
    let out = taken_out task_of c.as_slice.result.now whole.items rest.items off c.place_of-place.result c.len-last.result (vec_len rest) (vec_len whole) c.as_slice.ensures.value found.place (found.task off) c.len-last.ensures c.remove-pass.ensures.len
    c.remove-pass.ensures.value c.remove-pass.ensures.by_index.2 in
    let own : SeenHolder = record { task = c.holder.inside.task; seat = c.holder.inside.seat } in
    let P : SeenHolder → Type 0 = λ h. h.seat.roles ≡ Task h.task ∷ [] in
    followed_more g.N.Opening.desk c.join_passes.new.seat c.join.new.seat own whole.items rest.items off (vec_len rest) c.join.ensures out c.join_passes.ensures.followed
    (ap shown c.holder.view_is ∙ c.pass.view_is) (subst P (sym c.holder.view_is) c.pass.invariant)
