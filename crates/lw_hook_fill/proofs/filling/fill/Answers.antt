use Rattle.std.proofs.Common.{pos}
use Rattle.lw_region.specs.Bands.{covers}
use Rattle.lw_machine.specs.Hook.{hook_pen}
use Rattle.lw_machine.specs.Paint.{pen_within}
use Rattle.lw_layer.specs.Drafts.{clip_set}
use Rattle.lw_draw.proofs.LimitLaws.{clip_back}
use Rattle.lw_hook_fill.proofs.filling.fill.Goals as goal

pub returns : goal.returns
returns g c =
    clip_back c.args.layer.now c.set_clip-clip.new.self c.fill_unclipped.new.layer c.set_clip.new.self (λ b x y. covers c.args.region.now (pos x) (pos y)) (λ b x y. pen_within b.depth (hook_pen (g.B.Backfill.hook c.args.held.now) (pos x) (pos y))) (clip_set c.set_clip-clip.result) c.set_clip-clip.ensures.former c.set_clip-clip.ensures.layer c.fill_unclipped.ensures c.set_clip.ensures.layer
