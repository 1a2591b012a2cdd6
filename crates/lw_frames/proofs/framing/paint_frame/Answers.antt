use Rattle.lw_machine.specs.Paint.{pen_within}
use Rattle.lw_machine.specs.Reveal.{in_frame, framing_pen}
use Rattle.lw_layer.specs.Drafts.{clip_set}
use Rattle.lw_draw.proofs.LimitLaws.{clip_back}
use Rattle.lw_frames.proofs.framing.paint_frame.Goals as goal

pub returns : goal.returns
returns c =
    clip_back c.args.layer.now c.set_clip-clip.new.self c.frame_unclipped.new.layer c.set_clip.new.self (λ b x y. in_frame b.width b.height x y) (λ b x y. pen_within b.depth (framing_pen c.args.assets.now.glyphs c.args.title.now c.args.active b.width x y)) (clip_set c.set_clip-clip.result) c.set_clip-clip.ensures.former c.set_clip-clip.ensures.layer c.frame_unclipped.ensures c.set_clip.ensures.layer
