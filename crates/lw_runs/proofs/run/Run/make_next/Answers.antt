use Rattle.std.proofs.Common.{◌≡◌, ℕ, ◌<◌, [], ◌∷◌, ◌++◌, length, Some, slice_index_or, ap, subst, ◌∙◌, arith}
use Rattle.std.specs.List.{slice_get}
use Rattle.std.proofs.lemmas.List.{get_or_default}
use Rattle.std.proofs.lemmas.Result.{on_ok_weaker}
use Rattle.lw_calls.specs.Plan.{task_calls}
use Rattle.lw_runs.specs.Standing.{StandForDesk}
use Rattle.lw_runs.proofs.Next.{has_run_next}
use Rattle.lw_runs.proofs.run.Run.make_next.Goals as goal

pub returns : goal.returns
returns g c =
    let e = g.E.Engine in
    let engine = c.args.engine.now in
    let plan = c.args.plan.now in
    let run = c.args.self.now in
    let task = c.args.task in
    let call = c.call_of-call.result.now in
    let told = c.index_mut-told.result.now in
    let old = run.parts in
    let new = c.step.new.self in
    let low : task < length run.told.items = omega (arith, c.requires.task, c.requires.lists) in
    let place : told ≡ slice_index_or run.told.items task [] = c.index_mut-told.ensures.value ∙ get_or_default run.told.items task told [] low in
    let G : ℕ → Type 0 = λ n. slice_get (task_calls plan task) n ≡ Some call in
    let got : slice_get (task_calls plan task) (length (slice_index_or run.told.items task [])) ≡ Some call = subst G (ap length (c.list.ensures ∙ place)) c.call_of-call.ensures.call in
    on_ok_weaker c.push.result
    (λ pushed hooks past going.
    has_run_next plan hooks past
    (StandForDesk e.relations (e.sizes engine) (e.assets engine) old.info old.cells.items old.registers.items)
    (StandForDesk e.relations (e.sizes engine) (e.assets engine) new.info new.cells.items new.registers.items)
    run.told.items c.push.new.self task call c.in_ok-reply.reply c.requires.task got (c.in_ok-reply.ensures {u = tt}).step (pushed ∙ ap (λ rs. rs ++ c.in_ok-reply.reply ∷ []) place) going)
    c.push.ensures.ok
