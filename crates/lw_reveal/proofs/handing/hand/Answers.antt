use Rattle.std.proofs.Common.{◌≡◌, ◌<◌, ◌≤◌, length, set, refl, ◌∙◌, sym, ap, subst, arith}
use Rattle.std.proofs.Math.ListN.{length-set}
use Rattle.std.proofs.lemmas.List.{length-map}
use Rattle.lw_region.specs.Rectangle.{Rectangle}
use Rattle.lw_strips.specs.Strips.{StripView, IsSizeOf, filled, rects_of}
use Rattle.lw_reveal.specs.Changes.{held_in}
use Rattle.lw_reveal.proofs.HandingLaws.{placed_first, placed_second, filled_rects, rect_at}
use Rattle.lw_reveal.proofs.handing.hand.Goals as goal

pub fill-requires : goal.fill-requires
fill-requires c =
    let s = c.index-strips-place.result in
    let strips = c.args.strips.now in
    let i = c.in-Some.place in
    let inside : i < length strips = omega arith in
    let P : Rectangle → Type 0 = λ r. IsSizeOf r c.args.planes in
    subst P (rect_at i s strips inside c.index-strips-place.is ∙ ap (λ (q : StripView). q.rect) c.index-strips-place.is)
    (c.requires.size i s.rect c.in-Some.is (omega (arith, length-map strips (λ (q : StripView). q.rect))))

pub returns-then-place-shown : goal.returns-then-place-shown
returns-then-place-shown c =
    let s = c.index-strips-place.result in
    let strips = c.args.strips.now in
    let i = c.in-Some.place in
    let inside : i < length strips = omega arith in
    let is : c.fill.new.self ≡ filled c.args.planes s = c.fill.ensures ∙ ap (λ q. filled c.args.planes q) (sym c.index-strips-place.is) in
    record {
      held =
          ap (λ q. held_in (set strips i q) c.args.covered.now) is
          ∙ placed_first c.args.to i c.args.planes s strips c.args.covered.now c.in-Some.is inside;
      rects = ap (λ q. rects_of (set strips i q)) is ∙ filled_rects i c.args.planes s strips inside c.index-strips-place.is;
      long = refl;
    }

pub returns-else-place-shown : goal.returns-else-place-shown
returns-else-place-shown c =
    let strips = c.args.strips.now in
    let i = c.in-Some.place in
    let past : length strips ≤ i = omega arith in
    record {
      held = placed_second c.args.to i c.args.planes strips c.args.covered.now c.in-Some.is past;
      rects = refl;
      long = length-set c.args.covered.now _ _;
    }
