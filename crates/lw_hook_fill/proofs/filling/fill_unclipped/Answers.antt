use Rattle.std.proofs.Common.{◌≡◌, true, pos, ◌∙◌, sym}
use Rattle.lw_region.specs.Bands.{covers}
use Rattle.lw_machine.specs.Hook.{hook_pen}
use Rattle.lw_machine.specs.Paint.{pen_within}
use Rattle.lw_draw.proofs.LimitLaws.{update_back}
use Rattle.lw_hook_fill.proofs.filling.fill_unclipped.Goals as goal

pub returns-then-updating : goal.returns-then-updating
returns-then-updating g c =
    let v = c.args.layer.now in
    let was : v.layer.updating ≡ true = sym c.damage.ensures.updating ∙ (sym c.updating.ensures ∙ c.if-updating.true) in
    update_back v c.end_update.new.self c.fill_open.new.layer c.begin_update.new.self (λ b x y. covers c.args.region.now (pos x) (pos y)) (λ b x y. pen_within b.depth (hook_pen (g.B.Backfill.hook c.args.held.now) (pos x) (pos y))) was c.end_update.ensures c.fill_open.ensures c.begin_update.ensures
