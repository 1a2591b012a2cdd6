use Rattle.std.proofs.Common.{◌≡◌, ◌∙◌, ap}
use Rattle.lw_region.specs.Pixels.{pixels_of}
use Rattle.lw_region.specs.Bands.{bands}
use Rattle.lw_machine.specs.Registers.{rect_result}
use Rattle.lw_layer_calls.specs.Registers.{set_in}
use Rattle.lw_layer_calls.proofs.RegisterLaws.{put_reply, put_set}
use Rattle.lw_layer_calls.proofs.regs.Regs.join_rect.Goals as goal

pub returns-clause-reply : goal.returns-clause-reply
returns-clause-reply c =
    let a = c.args in
    let made : c.in_ok-joined.joined ≡ bands (rect_result a.op (set_in a.self.now a.reg) a.rect.now) = c.in_ok-joined.ensures ∙ ap (λ r. bands (rect_result a.op (pixels_of r) a.rect.now)) c.region.ensures.value in
    put_reply _ _ _ made c.put.ensures.reply

pub returns-clause-regions : goal.returns-clause-regions
returns-clause-regions c =
    let a = c.args in
    let made : c.in_ok-joined.joined ≡ bands (rect_result a.op (set_in a.self.now a.reg) a.rect.now) = c.in_ok-joined.ensures ∙ ap (λ r. bands (rect_result a.op (pixels_of r) a.rect.now)) c.region.ensures.value in
    put_set _ _ _ _ _ made c.put.ensures.regions
