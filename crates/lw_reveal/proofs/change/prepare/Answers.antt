use Rattle.std.proofs.Common.{◌≡◌, List, length, sym, ap, subst, refl}
use Rattle.lw_region.specs.Rectangle.{Rectangle}
use Rattle.lw_cliprects.specs.Parts.{Division}
use Rattle.lw_layer.specs.Pieces.{IsDamageOf}
use Rattle.lw_reveal.specs.Changed.{carried_to, MayHave}
use Rattle.lw_reveal.proofs.CarriedLaws.{AreParts}
use Rattle.lw_reveal.proofs.ChangedLaws.{parts_told}
use Rattle.lw_reveal.proofs.PreparedLaws.{new_sizes, prepared}
use Rattle.lw_reveal.proofs.change.prepare.Goals as goal

pub all_buffers-requires-clause-sizes : goal.all_buffers-requires-clause-sizes
all_buffers-requires-clause-sizes c =
    let parts : Division = c.in_ok-parts.parts in
    let bounds : Rectangle = c.args.bounds.now in
    let told : AreParts bounds parts.visible = parts_told parts bounds c.hidden.result.now (ap (λ (q : Division). q.bounds) c.in_ok-parts.ensures) c.hidden.ensures.value c.min_x.ensures.ordered c.visible-shown.ensures.canonical c.hidden.ensures.divided in
    new_sizes c.args.layer.now.layer.kind bounds parts.visible c.in_ok-pairing.pairing.news.items c.args.layer.now.layer.bits.depth c.in_ok-pairing.ensures.news told c.requires.may.sizes

pub returns-clause-change : goal.returns-clause-change
returns-clause-change c =
    let live = c.args.layer.now in
    let bounds : Rectangle = c.args.bounds.now in
    let parts : Division = c.in_ok-parts.parts in
    let shown : parts.visible ≡ c.args.visible = ap (λ (q : Division). q.visible) c.in_ok-parts.ensures in
    let M : List Rectangle → Type 0 = λ q. MayHave live bounds q in
    let D : List Rectangle → Type 0 = λ q. IsDamageOf (carried_to bounds q live) c.in_ok-damage.damage in
    prepared live _ c.in_ok-pairing.pairing _ c.in_ok-pairing.ensures refl (rw c.place_of-place.ensures.bounds at c.in_ok-strips.ensures) (ap length c.visible-shown.ensures.value)
    (ap (λ (q : Division). q.bounds) c.in_ok-parts.ensures) (subst M (sym shown) c.requires.may) (subst D (sym shown) c.in_ok-damage.ensures)
