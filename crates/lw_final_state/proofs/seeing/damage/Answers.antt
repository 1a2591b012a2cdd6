use Rattle.std.proofs.Common.{◌≡◌, List, IfOk, subst}
use Rattle.lw_region.specs.Rectangle.{Rectangle}
use Rattle.lw_region.specs.Banded.{IsCanonical}
use Rattle.lw_final_state.proofs.SeenLaws.{damage_listed}
use Rattle.lw_final_state.proofs.seeing.damage.Goals as goal

pub returns : goal.returns
returns c =
    let listed = damage_listed c.args.layer.now c.damage.result.now c.damage.ensures (subst IsCanonical c.region-region.ensures.value c.rects.ensures.canonical) in
    let P : List Rectangle → Type 0 = λ rects. IfOk c.copy.result (λ region. region ≡ rects) in
    subst P listed (subst P c.region-region.ensures.value c.copy.ensures)
