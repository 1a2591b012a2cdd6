use Rattle.std.proofs.Common.{◌≡◌, length, ap, sym, ◌∙◌}
use Rattle.std.proofs.lemmas.List.{length-map}
use Rattle.lw_calls.specs.declared.sizes.Sizes.{Sizes}
use Rattle.lw_locks.specs.Seen.{SeenPass}
use Rattle.lw_runs.specs.declared.threads.TaskRun.{TaskRun}
use Rattle.lw_runs.proofs.Jobs.{in_order, each_in_order, own_task, each_has_all, many_told}
use Rattle.lw_runs.proofs.Whole.{all_have_all}
use Rattle.lw_runs.proofs.running.run_all.Goals as goal

pub close-requires-clause-many : goal.close-requires-clause-many
close-requires-clause-many g c κs within =
    let runs = c.in_ok-runs.runs in
    let parts = c.in_ok-passes.ensures {u = tt} in
    let given = c.in_ok-runs.ensures {u = tt} in
    let desk = g.N.Opening.desk in
    let plan = c.args.plan.now in
    let passes = c.in_ok-passes.passes.items in
    let R = TaskRun g.row.E.Denot g.row.N.Denot g.row.E-Info.Denot g.row.E-Cell.Denot g.row.E-Regs.Denot in
    let many : length passes ≡ desk.sizes.tasks =
    ap length parts.passes ∙ (length-map runs.items (λ (r : R). r.pass) ∙ (sym runs.ok.0 ∙ (given.many ∙ ap (λ (s : Sizes). s.tasks) (sym c.requires.desk_sizes))))
    in
    c.in_ok-passes.passes.ok.0 ∙ many

pub close-requires-clause-each : goal.close-requires-clause-each
close-requires-clause-each g c κs within =
    let runs = c.in_ok-runs.runs in
    let parts = c.in_ok-passes.ensures {u = tt} in
    let given = c.in_ok-runs.ensures {u = tt} in
    let desk = g.N.Opening.desk in
    let plan = c.args.plan.now in
    let passes = c.in_ok-passes.passes.items in
    let R = TaskRun g.row.E.Denot g.row.N.Denot g.row.E-Info.Denot g.row.E-Cell.Denot g.row.E-Regs.Denot in
    let many : length passes ≡ desk.sizes.tasks =
    ap length parts.passes ∙ (length-map runs.items (λ (r : R). r.pass) ∙ (sym runs.ok.0 ∙ (given.many ∙ ap (λ (s : Sizes). s.tasks) (sym c.requires.desk_sizes))))
    in
    each_in_order passes desk.sizes.tasks (in_order passes desk.sizes.tasks many (own_task desk plan (λ (r : R). r.pass) (λ (r : R). r.told) runs.items passes c.in_ok-passes.all.items parts.passes parts.told given.told))

pub returns : goal.returns
returns g c =
    let runs = c.in_ok-runs.runs in
    let parts = c.in_ok-passes.ensures {u = tt} in
    let given = c.in_ok-runs.ensures {u = tt} in
    let closed = (c.in-Ok.ensures {u = tt}).closed in
    let desk = g.N.Opening.desk in
    let plan = c.args.plan.now in
    let passes = c.in_ok-passes.passes.items in
    let all = c.in_ok-passes.all.items in
    let R = TaskRun g.row.E.Denot g.row.N.Denot g.row.E-Info.Denot g.row.E-Cell.Denot g.row.E-Regs.Denot in
    let pass_of : R → SeenPass = λ r. r.pass in
    let as_many : length all ≡ length passes = many_told desk plan pass_of (λ (r : R). r.told) runs.items passes all parts.passes parts.told given.told in
    let many : length passes ≡ plan.sizes.tasks = ap length parts.passes ∙ (length-map runs.items pass_of ∙ (sym runs.ok.0 ∙ given.many)) in
    record {
      parts = closed.parts;
      known = closed.seat.known;
      many = as_many ∙ many;
      told = all_have_all plan desk passes c.in-Ok.closed.seat all c.requires.plan as_many closed.followed (each_has_all desk plan pass_of (λ (r : R). r.told) runs.items passes all parts.passes parts.told given.told);
    }
