use Rattle.std.proofs.Common.{◌≡◌, true, ◌∙◌, sym, ap, rules}
use Rattle.lw_machine.specs.Layer.{is_framed, is_window}
use Rattle.lw_machine.specs.Paint.{with_pens}
use Rattle.lw_layer.specs.View.{LiveView}
use Rattle.lw_frames.proofs.OwnFrameLaws.{framed_window, titled_window, own_framed}
use Rattle.lw_frames.proofs.own_frame.paint_own_frame.Goals as goal

pub set_title-requires : goal.set_title-requires
unfolding with_pens
set_title-requires c =
    let v = c.args.layer.now in
    let has : is_framed v.layer.window ≡ true = sym c.has_frame.ensures.frame ∙ c.if-not-has_frame.false in
    ap (λ (q : LiveView). is_window q.layer.window) c.paint_frame.ensures
    ∙ (ap (λ (q : LiveView). is_window q.layer.window) c.set_title-title.ensures.layer
    ∙ titled_window v.layer.window _ (framed_window v.layer.window has))

pub returns : goal.returns
returns c =
    let v = c.args.layer.now in
    let has : is_framed v.layer.window ≡ true = sym c.has_frame.ensures.frame ∙ c.if-not-has_frame.false in
    own_framed v c.set_title-title.new.self c.paint_frame.new.layer c.set_title.new.self c.args.assets.now.glyphs c.set_title-title.result c.args.active has
    c.set_title-title.ensures.former (search rules) c.paint_frame.ensures c.set_title.ensures.layer
