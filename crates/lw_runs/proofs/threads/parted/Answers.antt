use Rattle.std.proofs.Common.{◌≡◌, List, [], ◌∷◌, ◌++◌, map, ap, sym, ◌∙◌}
use Rattle.std.proofs.lemmas.Iterator.Adapters.{YieldsList-from_vec}
use Rattle.std.proofs.lemmas.Iterator.Consumers.{YieldsList-end}
use Rattle.std.proofs.lemmas.List.{map-append, map-id}
use Rattle.lw_runs.specs.declared.threads.TaskRun.{TaskRun}
use Rattle.lw_runs.proofs.threads.parted.Goals as goal

-- what is read of each of a list, and of one more
one_more : {A B : Type 0} (read : A → B) (xs : List A) (x : A) (old new : List B) → new ≡ old ++ read x ∷ [] → old ≡ map read xs → new ≡ map read (xs ++ x ∷ [])
one_more read xs x old new added are = added ∙ (ap (λ ys. ys ++ read x ∷ []) are ∙ sym (map-append read xs (x ∷ [])))

pub loop-run-preserved : goal.loop-run-preserved
loop-run-preserved g c =
    let ok = c.in_ok-part.ensures {u = tt} in (
      one_more (λ (r : TaskRun g.row.E.Denot g.row.N.Denot g.row.E-Info.Denot g.row.E-Cell.Denot g.row.E-Regs.Denot). r.pass) c.loop-run.yielded c.in-Some.run' c.loop-run.passes.items c.part.new.passes.items ok.passes c.loop-run.invariant.0,
      one_more (λ (r : TaskRun g.row.E.Denot g.row.N.Denot g.row.E-Info.Denot g.row.E-Cell.Denot g.row.E-Regs.Denot). r.told) c.loop-run.yielded c.in-Some.run' _ _ ok.told c.loop-run.invariant.1,
    )

pub returns : goal.returns
returns g c =
    let runs = c.args.runs in
    let given = c.into_iter-run-iterator.ensures.into_iter_gives in
    let yields = YieldsList-from_vec {s = c.into_iter-run-iterator.result} runs.items given.0 (given.1 ∙ runs.ok.0) in
    let end = YieldsList-end yields c.loop-run.yielded c.loop-run.run-iterator c.loop-run.yielded_by c.next.result c.next.new.self c.in-None.is c.next.ensures.steps in
    let all : c.loop-run.yielded ≡ runs.items = sym (map-id c.loop-run.yielded) ∙ end.0 in
    record {
      passes = c.loop-run.invariant.0 ∙ ap (λ rs. map (λ (r : TaskRun g.row.E.Denot g.row.N.Denot g.row.E-Info.Denot g.row.E-Cell.Denot g.row.E-Regs.Denot). r.pass) rs) all;
      told = c.loop-run.invariant.1 ∙ ap (λ rs. map (λ (r : TaskRun g.row.E.Denot g.row.N.Denot g.row.E-Info.Denot g.row.E-Cell.Denot g.row.E-Regs.Denot). r.told) rs) all;
    }
