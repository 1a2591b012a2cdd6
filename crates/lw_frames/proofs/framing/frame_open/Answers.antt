use Rattle.std.proofs.Common.{◌≡◌, ℕ, ◌∙◌, ap, subst, arith}
use Rattle.lw_machine.specs.Paint.{with_pens}
use Rattle.lw_layer.specs.View.{LiveView}
use Rattle.lw_layer.specs.Drafts.{raster_of}
use Rattle.lw_windows.specs.Frames.{AreFrame}
use Rattle.lw_frames.proofs.FrameLaws.{frame_whole}
use Rattle.lw_frames.proofs.framing.frame_open.Goals as goal

pub paint_title-requires-clause-least_width : goal.paint_title-requires-clause-least_width
unfolding with_pens
paint_title-requires-clause-least_width c =
    let same : c.paint_fills.new.layer.layer.bits.width ≡ c.args.layer.now.layer.bits.width = ap (λ (q : LiveView). q.layer.bits.width) c.paint_fills.ensures in
    omega (arith, same, c.requires.least_width)

pub paint_title-requires-clause-unclipped : goal.paint_title-requires-clause-unclipped
unfolding with_pens
paint_title-requires-clause-unclipped c = ap (λ (q : LiveView). q.layer.clip) c.paint_fills.ensures ∙ c.requires.unclipped

pub paint_title-requires-clause-idle : goal.paint_title-requires-clause-idle
unfolding with_pens
paint_title-requires-clause-idle c = ap (λ (q : LiveView). q.layer.updating) c.paint_fills.ensures ∙ c.requires.idle

pub returns : goal.returns
returns c =
    let v = c.args.layer.now in
    let frame = c.frame_of-frame.result in
    let told = c.frame_of-frame.ensures in
    let Wide : ℕ → Type 0 = λ n. AreFrame n c.height.result frame.fills in
    let High : ℕ → Type 0 = λ n. AreFrame v.layer.bits.width n frame.fills in
    frame_whole v c.paint_fills.new.layer c.paint_title.new.layer c.set_raster.new.self c.args.assets.now.glyphs c.args.title.now c.args.active frame.fills frame.pen frame.letters (raster_of c.raster-raster.result) told.pen told.letters c.raster-raster.ensures.value
    (subst High c.height.ensures.value (subst Wide c.width.ensures.value told.frame)) c.paint_fills.ensures c.paint_title.ensures c.set_raster.ensures
