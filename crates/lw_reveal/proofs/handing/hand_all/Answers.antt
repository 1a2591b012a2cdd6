use Rattle.std.proofs.Common.{◌≡◌, ℕ, List, length, drop, Option, ◌∙◌, sym, ap, subst, arith}
use Rattle.std.proofs.lemmas.List.{take_rest, length-drop, length-map}
use Rattle.lw_region.specs.Rectangle.{Rectangle}
use Rattle.lw_planes.specs.Bitmap.{Bitmap}
use Rattle.lw_strips.specs.Strips.{StripView, rects_of, planes_of}
use Rattle.lw_reveal.specs.Changes.{held_in}
use Rattle.lw_reveal.specs.Handing.{HavePlaces}
use Rattle.lw_reveal.proofs.HandingLaws.{places_first, places_second, handed_twice}
use Rattle.lw_reveal.proofs.handing.hand_all.Goals as goal

many : (strips : List StripView) → length (planes_of strips) ≡ length strips
many strips = length-map strips (λ (s : StripView). s.planes)

pub hand_buffers-requires-clause-long : goal.hand_buffers-requires-clause-long
hand_buffers-requires-clause-long c =
    let n = length c.args.shown.now.items in
    omega (arith, ap length (take_rest c.args.handed.now n), length-drop n c.args.handed.now, c.requires.many)

pub hand_buffers-requires-clause-places : goal.hand_buffers-requires-clause-places
hand_buffers-requires-clause-places c =
    let handed = c.args.handed.now in
    let shown = c.args.shown.now.items in
    let P : List (Option ℕ) → Type 0 = λ hs. HavePlaces hs c.args.hidden.now.items (rects_of c.args.strips.now) (length c.args.covered.now) in
    subst P (sym (take_rest handed c.len.result ∙ ap (λ k. drop k handed) (c.len.ensures ∙ (c.args.shown.now.ok.0 ∙ sym (many shown)))))
    (places_second handed (planes_of shown) c.args.hidden.now.items (rects_of c.args.strips.now) (length c.args.covered.now) c.requires.places)

pub hand_strips-requires-clause-places : goal.hand_strips-requires-clause-places
hand_strips-requires-clause-places c =
    let handed = c.args.handed.now in
    let shown : List Bitmap = planes_of c.args.shown.now.items in
    let P : List Rectangle → Type 0 = λ rs. HavePlaces handed shown rs (length c.hand_buffers.new.covered) in
    subst P (sym c.hand_buffers.ensures.rects)
    (rw c.hand_buffers.ensures.long (places_first handed shown c.args.hidden.now.items (rects_of c.args.strips.now) (length c.args.covered.now) c.requires.places))

pub returns-clause-held : goal.returns-clause-held
returns-clause-held c =
    let handed = c.args.handed.now in
    let shown = c.args.shown.now.items in
    handed_twice handed _ (planes_of shown) c.args.hidden.now.items (held_in c.args.strips.now c.args.covered.now)
    (held_in c.hand_buffers.new.strips c.hand_buffers.new.covered) (held_in c.hand_strips.new.strips c.hand_strips.new.covered) c.len.result
    (c.len.ensures ∙ (c.args.shown.now.ok.0 ∙ sym (many shown))) (omega (arith, many shown, c.requires.many)) (take_rest handed c.len.result) c.hand_buffers.ensures.held c.hand_strips.ensures.held
