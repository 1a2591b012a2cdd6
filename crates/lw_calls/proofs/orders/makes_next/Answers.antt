use Rattle.std.proofs.Common.{rules, refl, sym, ap, ◌∙◌, length}
use Rattle.std.specs.List.{slice_get, slice_index_or}
use Rattle.std.proofs.lemmas.Bool.{ltb-true, ltb-false}
use Rattle.std.proofs.lemmas.Option.{slice_get_past, slice_get_read}
use Rattle.lw_calls.specs.Code.OrderState.{is_free, no_progress, progress_more}
use Rattle.lw_calls.proofs.OrderReading.{come_as_kept, none_as_kept, kept_more}
use Rattle.lw_calls.proofs.orders.makes_next.Goals as goal

pub returns-in_default-clause-may : goal.returns-in_default-clause-may
returns-in_default-clause-may c =
    λ past stand. none_as_kept c.args.plan.now past c.args.states.now c.args.task stand (search rules)
    (sym (ap (λ calls. slice_get calls (slice_index_or c.args.states.now c.args.task no_progress).made) c.calls.ensures) ∙
    slice_get_past c.calls.result.now (slice_index_or c.args.states.now c.args.task no_progress).made
    (ltb-false _ _ (sym c.in_default.ensures.lookup.0)))

pub returns-then-not-is_free-clause-may : goal.returns-then-not-is_free-clause-may
returns-then-not-is_free-clause-may c =
    λ past stand. come_as_kept c.args.plan.now c.sizes.ensures.plan past c.args.states.now c.args.task c.in-Some.call.now _ stand
    (search rules)
    (sym (ap (λ calls. slice_get calls (slice_index_or c.args.states.now c.args.task no_progress).made) c.calls.ensures) ∙
    slice_get_read c.calls.result.now (length c.calls.result.now)
    (slice_index_or c.args.states.now c.args.task no_progress).made c.in-Some.call.now refl
    (ltb-true _ _ (sym c.in-Some.ensures.lookup.0)) c.in-Some.ensures.lookup.1)
    (sym c.if-not-is_free.true ∙
    (c.is_free.ensures ∙ ap (is_free c.args.plan.now c.args.states.now c.args.task) c.touches.ensures))

pub returns-clause-may : goal.returns-clause-may
returns-clause-may c =
    λ past stand. come_as_kept c.args.plan.now c.sizes.ensures.plan past c.args.states.now c.args.task c.in-Some.call.now _ stand
    (search rules)
    (sym (ap (λ calls. slice_get calls (slice_index_or c.args.states.now c.args.task no_progress).made) c.calls.ensures) ∙
    slice_get_read c.calls.result.now (length c.calls.result.now)
    (slice_index_or c.args.states.now c.args.task no_progress).made c.in-Some.call.now refl
    (ltb-true _ _ (sym c.in-Some.ensures.lookup.0)) c.in-Some.ensures.lookup.1)
    (sym c.if-not-is_free.false ∙
    (c.is_free.ensures ∙ ap (is_free c.args.plan.now c.args.states.now c.args.task) c.touches.ensures))

pub returns-clause-made : goal.returns-clause-made
returns-clause-made c =
    λ past stand is. kept_more c.args.plan.now c.sizes.ensures.plan past c.args.states.now c.args.task _ c.more.result stand
    (search rules) refl
    (c.more.ensures ∙ ap
    (λ groups. progress_more groups (slice_index_or c.args.states.now c.args.task no_progress)) c.groups.ensures)
