use Rattle.std.proofs.Common.{◌≡◌, ◌+◌, ◌<◌, length, drop, pos, get_or, ap, sym, subst, ◌∙◌, arith}
use Rattle.std.proofs.lemmas.List.{drop_more, drop_all}
use Rattle.std.proofs.lemmas.List.Elements.{All-get_or}
use Rattle.lw_screens.specs.Display.{acted_on, after_all}
use Rattle.lw_screens.specs.declared.act.Act.{Act}
use Rattle.lw_screens.specs.declared.act.Act.TheVariants.{Drag}
use Rattle.lw_display_run.proofs.Fits.{after_act}
use Rattle.lw_display_run.proofs.showing.act_all.Goals as goal

abbrev no_act : Act
no_act = Drag 0 (pos 0)

pub act-requires : goal.act-requires
act-requires c =
    let acts = c.args.acts.now in
    let act = get_or acts c.loop-act.act-index no_act in
    subst (λ n. acted_on act < n) (sym c.loop-act.invariant.many)
    (All-get_or (λ a. acted_on a < length c.args.screens.now.screens) acts c.loop-act.act-index no_act c.loop-act-test.true c.requires)

pub loop-act-preserved : goal.loop-act-preserved
loop-act-preserved c =
    let acts = c.args.acts.now in
    let i = c.loop-act.act-index in
    let act = get_or acts i no_act in
    let done = c.in_ok-act.ensures.ok in
    record {
      left = ap (after_all (drop (i + 1) acts)) done ∙ (sym (ap (λ left. after_all left c.loop-act.screens) (drop_more acts i no_act c.loop-act-test.true)) ∙ c.loop-act.invariant.left);
      many = ap (λ d. length d.screens) done ∙ ((after_act act c.loop-act.screens).many ∙ c.loop-act.invariant.many);
    }

pub returns : goal.returns
returns c =
    let acts = c.args.acts.now in
    let i = c.loop-act.act-index in
    sym (ap (λ left. after_all left c.loop-act.screens) (drop_all i acts (omega (arith, c.loop-act-test.false)))) ∙ c.loop-act.invariant.left
