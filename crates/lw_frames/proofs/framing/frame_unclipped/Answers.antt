use Rattle.std.proofs.Common.{◌≡◌, true, ◌∙◌, sym}
use Rattle.lw_machine.specs.Paint.{pen_within}
use Rattle.lw_machine.specs.Reveal.{in_frame, framing_pen}
use Rattle.lw_draw.proofs.LimitLaws.{update_back}
use Rattle.lw_frames.proofs.framing.frame_unclipped.Goals as goal

pub returns-then-updating : goal.returns-then-updating
returns-then-updating c =
    let v = c.args.layer.now in
    let was : v.layer.updating ≡ true = sym c.damage.ensures.updating ∙ (sym c.updating.ensures ∙ c.if-updating.true) in
    update_back v c.end_update.new.self c.frame_open.new.layer c.begin_update.new.self (λ b x y. in_frame b.width b.height x y) (λ b x y. pen_within b.depth (framing_pen c.args.assets.now.glyphs c.args.title.now c.args.active b.width x y)) was c.end_update.ensures c.frame_open.ensures c.begin_update.ensures
