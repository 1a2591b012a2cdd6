use Rattle.std.proofs.Common.{List, ◌≡◌, ◌∙◌, sym, refl, ap}
use Rattle.lw_region.specs.Rectangle.{Rectangle}
use Rattle.lw_region.specs.Bands.{covers}
use Rattle.lw_calls.specs.Kinds.{is_super}
use Rattle.lw_calls.specs.declared.make.Kind.TheVariants.{Smart, SuperBitmap}
use Rattle.lw_scroll.proofs.MarkLaws.{all_kept, whole_of, empty_nowhere, own_nowhere}
use Rattle.lw_scroll.proofs.damage.is_whole.Goals as goal

pub returns-in-Smart-clause-whole : goal.returns-in-Smart-clause-whole
returns-in-Smart-clause-whole c = λ empty.
    let v = c.args.layer.now in
    let kind : v.layer.kind ≡ Smart = sym c.look.ensures.look.kind ∙ c.in-Smart.is in
    let same : c.rects.result.now ≡ c.args.former.now.rects = c.rects.ensures.value ∙ c.region-damaged.ensures.value in
    whole_of v c.args.former.now c.requires.former (λ x y left low. all_kept v Smart kind (λ _. refl) x y left low)
    (λ x y. ap (λ (l : List Rectangle). covers l x y) (sym same)
    ∙ empty_nowhere c.rects.result.now x y (sym c.is_empty.ensures ∙ empty))

pub returns-in-SuperBitmap-clause-whole : goal.returns-in-SuperBitmap-clause-whole
returns-in-SuperBitmap-clause-whole c = λ _.
    let v = c.args.layer.now in
    let kind : v.layer.kind ≡ SuperBitmap = sym c.look.ensures.look.kind ∙ c.in-SuperBitmap.is in
    whole_of v c.args.former.now c.requires.former (λ x y left low. all_kept v SuperBitmap kind (λ _. refl) x y left low)
    (own_nowhere v c.args.former.now (ap is_super kind) c.requires.former c.region-damaged.ensures.inside)
