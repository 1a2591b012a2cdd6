use Rattle.std.proofs.lemmas.Result.{IfOk-weaker}
use Rattle.lw_layer.specs.Keeping as keeping
use Rattle.lw_layer.proofs.KeepingLaws.{kept_sound}
use Rattle.lw_scroll.specs.Marks.{AreKept}
use Rattle.lw_scroll.proofs.damage.kept_of.Goals as goal

pub returns : goal.returns
returns c =
    let v = c.args.layer.now in
    let look = c.look-look.result in
    let sees = c.look-look.ensures in
    IfOk-weaker c.kept_region.result (λ made. keeping.AreKept look.kind look.bounds c.visible.result.now made)
    (λ made. AreKept v made)
    (λ made are.
    kept_sound v look.kind look.bounds c.visible.result.now made sees.look.kind sees.look.bounds c.visible.ensures.value sees.sound
    c.requires.other are)
    c.kept_region.ensures.kept
