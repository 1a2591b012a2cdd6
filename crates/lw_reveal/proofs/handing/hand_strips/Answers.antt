use Rattle.std.proofs.Common.{◌≡◌, ◌∷◌, [], ◌++◌, length, get_or, None, ◌∙◌, sym, ap, arith}
use Rattle.std.proofs.lemmas.List.{nil_from_length, length-map}
use Rattle.lw_strips.specs.Strips.{StripView, rects_of, planes_of}
use Rattle.lw_reveal.proofs.HandingLaws.{planes_last, solid_left, place_last, left_next, left_nothing}
use Rattle.lw_reveal.proofs.handing.hand_strips.Goals as goal

pub hand-requires : goal.hand-requires
hand-requires c =
    let handed = c.args.handed.now in
    let left = c.pop.new.self.items in
    let b = c.in-Some-into_planes.planes in
    let is : planes_of c.loop-strip.former.items ≡ planes_of left ++ b ∷ [] =
    planes_last c.loop-strip.former.items left c.in-Some.strip c.in-Some.ensures.items ∙ ap (λ q. planes_of left ++ q ∷ []) (sym c.in-Some-into_planes.ensures.1) in
    place_last handed (planes_of left) (planes_of c.loop-strip.former.items) b _ (rects_of c.loop-strip.strips) (length c.loop-strip.covered) is
    (ap (λ i. get_or handed i None) (c.len.ensures ∙ (c.pop.new.self.ok.0 ∙ sym (length-map left (λ (s : StripView). s.planes))))) c.loop-strip.invariant.left.places

pub loop-strip-preserved : goal.loop-strip-preserved
loop-strip-preserved c =
    let handed = c.args.handed.now in
    let left = c.pop.new.self.items in
    let b = c.in-Some-into_planes.planes in
    let is : planes_of c.loop-strip.former.items ≡ planes_of left ++ b ∷ [] =
    planes_last c.loop-strip.former.items left c.in-Some.strip c.in-Some.ensures.items ∙ ap (λ q. planes_of left ++ q ∷ []) (sym c.in-Some-into_planes.ensures.1) in
    record {
      solid = solid_left c.loop-strip.former.items left c.in-Some.strip c.in-Some.ensures.items c.loop-strip.invariant.solid;
      left =
          left_next handed (planes_of left) (planes_of c.loop-strip.former.items) (planes_of c.args.former.now.items) b _
          c.loop-strip.strips c.hand.new.strips c.args.strips.now c.loop-strip.covered c.hand.new.covered c.args.covered.now is
          (ap (λ i. get_or handed i None) (c.len.ensures ∙ (c.pop.new.self.ok.0 ∙ sym (length-map left (λ (s : StripView). s.planes))))) c.loop-strip.invariant.left
          c.hand.ensures.held c.hand.ensures.rects c.hand.ensures.long;
    }

pub returns-clause-held : goal.returns-clause-held
returns-clause-held c =
    left_nothing c.args.handed.now (planes_of c.loop-strip.former.items) (planes_of c.args.former.now.items) c.loop-strip.strips c.args.strips.now c.loop-strip.covered c.args.covered.now
    (ap (λ q. planes_of q) (nil_from_length c.loop-strip.former.items (omega (arith, c.in_default.ensures.cases.0, c.loop-strip.former.ok.0)))) c.loop-strip.invariant.left
