use Rattle.std.proofs.Common.{rules, ◌≡◌, ◌<◌, [], length, ap, sym, subst, ◌∙◌, arith, slice_index_or, vec_len}
use Rattle.std.specs.Prelude.{IfOk}
use Rattle.std.proofs.lemmas.Option.{slice_get_within, get_or_from_slice_get}
use Rattle.lw_runs.specs.declared.threads.TaskRun.{TaskRun}
use Rattle.lw_runs.specs.Whole.{HasAll}
use Rattle.lw_locks.specs.Seen.{SeenPass, opening_pass}
use Rattle.lw_runs.proofs.Jobs.{many_passes, first_pass, job_run}
use Rattle.lw_runs.proofs.threads.run_each.Goals as goal

pub map_vec-requires-after_bounds : goal.map_vec-requires-after_bounds
map_vec-requires-after_bounds g c κs within =
    λ i x low read.
    let tasks = c.args.plan.now.sizes.tasks in
    let is : x ≡ opening_pass i = first_pass c.args.passes.items tasks i x c.requires.passes low read in
    let many = many_passes c.args.passes.items tasks c.requires.passes in
    let number : x.task ≡ i = ap (λ (p : SeenPass). p.task) is in
    let task : x.task < tasks = omega (arith, number, low, many) in
    let first : x.history ≡ [] = ap (λ (p : SeenPass). p.history) is in
    let t = c.type_bounds in
    (c.requires.plan, (c.requires.sizes, (task, (first, search (rules, t.send-N.owned, t.send-N.leaving, t.send-E-Info.owned, t.send-E-Cell.owned, t.send-E-Regs.owned, t.sync-E.shared, t.sync-N.shared, t.sync-R.shared, t.sync-G.shared) depth 9))))

pub returns : goal.returns
returns g c =
    let ok = c.in_ok-runs.ensures {u = tt} in
    let plan = c.args.plan.now in
    let tasks = plan.sizes.tasks in
    let runs = c.in_ok-runs.runs in
    let jobs = c.args.passes in
    let many = many_passes jobs.items tasks c.requires.passes in
    let len : vec_len runs ≡ vec_len jobs = ok.len in
    let desk = g.N.Opening.desk in
    record {
      many = len ∙ (jobs.ok.0 ∙ many);
      told = λ t run got.
          let low : t < length runs.items = slice_get_within runs.items t run got in
          let low_job : t < length jobs.items = (let as_many = sym runs.ok.0 ∙ (len ∙ jobs.ok.0) in omega (arith, low, as_many)) in
          let k = (ok.each t run low_job).1 in
          let is : slice_index_or runs.items t run ≡ run = get_or_from_slice_get runs.items t run run got in
          let first : k.job ≡ opening_pass t = first_pass jobs.items tasks t k.job c.requires.passes low_job k.job_read in
          let made = slice_index_or runs.items t run in
          let done = job_run (λ n h x. HasAll desk plan n h x) k.job t made.pass.task made.pass.history made.told first k.call.met.0 k.call.met.1 in
          subst (λ (r : TaskRun g.row.E.Denot g.row.N.Denot g.row.E-Info.Denot g.row.E-Cell.Denot g.row.E-Regs.Denot). (r.pass.task ≡ t) × IfOk r.told (λ x. HasAll desk plan t r.pass.history x)) is done;
    }
