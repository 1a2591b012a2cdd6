use Rattle.std.proofs.Common.{◌≡◌, [], ◌∷◌, ◌∙◌, sym, ap, subst, List, IfOk, arith, to_z, of_z, w32}
use Rattle.std.proofs.lemmas.Int.{ints}
use Rattle.std.proofs.lemmas.Result.{IfOk-weaker}
use Rattle.lw_region.specs.Rectangle.{Rectangle}
use Rattle.lw_region.specs.Bands.{covers}
use Rattle.lw_region.specs.Banded.{IsCanonical}
use Rattle.lw_region.specs.Regions.{MayMove, moved_list}
use Rattle.lw_region.proofs.Canonical.{covers_nil}
use Rattle.lw_region.proofs.SetOps.{canonical_one}
use Rattle.lw_calls.specs.declared.make.Kind.{Kind}
use Rattle.lw_calls.specs.declared.make.Kind.TheVariants.{Simple, Smart}
use Rattle.lw_layer.specs.Keeping.{AreKept, keeps_pixel}
use Rattle.lw_layer.proofs.KeepingLaws.{may_move, lies_alone, simple_kept, smart_kept}
use Rattle.lw_layer.proofs.kept.kept_region.Goals as goal

pub moved_region-requires-clause-words : goal.moved_region-requires-clause-words
moved_region-requires-clause-words c =
    may_move c.args.bounds.now c.args.visible.now (to_z w32 (of_z w32 c.back-dx.result)) (to_z w32 (of_z w32 c.back-dy.result))
    c.requires.inside c.requires.wide c.requires.high (omega (arith, ints)) (omega (arith, ints))

pub moved_region-requires-in-Smart-clause-canonical : goal.moved_region-requires-in-Smart-clause-canonical
moved_region-requires-in-Smart-clause-canonical c =
    subst IsCanonical (sym c.from_ref.ensures.value) (canonical_one c.args.bounds.now c.min_x.ensures.ordered)

pub moved_region-requires-in-Smart-clause-words : goal.moved_region-requires-in-Smart-clause-words
moved_region-requires-in-Smart-clause-words c =
    let dx = to_z w32 (of_z w32 c.back-dx.result) in
    let dy = to_z w32 (of_z w32 c.back-dy.result) in
    let P : List Rectangle → Type 0 = λ rects. MayMove rects dx dy in
    subst P (sym c.from_ref.ensures.value)
    (may_move c.args.bounds.now _ dx dy (lies_alone c.args.bounds.now) c.requires.wide c.requires.high (omega (arith, ints)) (omega (arith, ints)))

pub returns-in-Simple-clause-kept : goal.returns-in-Simple-clause-kept
returns-in-Simple-clause-kept c =
    let bounds = c.args.bounds.now in
    let visible = c.args.visible.now in
    let dx = to_z w32 (of_z w32 c.back-dx.result) in
    let dy = to_z w32 (of_z w32 c.back-dy.result) in
    let made = c.moved_region.result in
    let P : Kind → Type 0 = λ k. IfOk made (λ kept. AreKept k bounds visible kept) in
    subst P (sym c.in-Simple.is)
    (IfOk-weaker made (λ kept. kept ≡ moved_list visible dx dy) (λ kept. AreKept Simple bounds visible kept)
    (simple_kept bounds visible dx dy (omega (arith, ints)) (omega (arith, ints))) c.moved_region.ensures)

pub returns-in-Smart-clause-kept : goal.returns-in-Smart-clause-kept
returns-in-Smart-clause-kept c =
    let bounds = c.args.bounds.now in
    let visible = c.args.visible.now in
    let dx = to_z w32 (of_z w32 c.back-dx.result) in
    let dy = to_z w32 (of_z w32 c.back-dy.result) in
    let made = c.moved_region-in-Smart.result in
    let P : Kind → Type 0 = λ k. IfOk made (λ kept. AreKept k bounds visible kept) in
    let Q : List Rectangle → Type 0 = λ rects. IfOk made (λ kept. kept ≡ moved_list rects dx dy) in
    subst P (sym c.in-Smart.is)
    (IfOk-weaker made (λ kept. kept ≡ moved_list (bounds ∷ []) dx dy) (λ kept. AreKept Smart bounds visible kept)
    (smart_kept bounds visible dx dy (omega (arith, ints)) (omega (arith, ints))) (subst Q c.from_ref.ensures.value c.moved_region-in-Smart.ensures))

pub returns-in-SuperBitmap-clause-kept : goal.returns-in-SuperBitmap-clause-kept
returns-in-SuperBitmap-clause-kept c = λ x y.
    ap (λ l. covers l x y) c.new.ensures ∙ (covers_nil x y ∙ ap (λ k. keeps_pixel k c.args.bounds.now c.args.visible.now x y) (sym c.in-SuperBitmap.is))
