use Rattle.std.proofs.Common.{◌∙◌, ap, arith}
use Rattle.std.proofs.lemmas.Int.{ints}
use Rattle.lw_region.specs.Rectangle.{Rectangle}
use Rattle.lw_cliprects.specs.Parts.{hidden_of}
use Rattle.lw_reveal.proofs.PairingLaws.{beside_told, pairing_told}
use Rattle.lw_reveal.proofs.pairing.find_pairs.Goals as goal

pub returns : goal.returns
returns c =
    let live = c.args.layer.now in
    let bounds = c.args.bounds.now in
    let look = c.requires.look in
    pairing_told live bounds c.args.parts.now.visible c.in_ok-pairing.pairing c.pair_all.new.self c.pair_all.ensures.sound c.pair_all.ensures.lists
    (c.in_ok-pairing.ensures.lists.0 ∙
    beside_told live.layer.kind c.args.look.now.kind c.visible.result.now c.hidden.result.now live.visible _ live.bounds look.kind c.visible.ensures.value
    c.hidden.ensures.value c.in_ok-former.ensures)
    (c.in_ok-pairing.ensures.lists.1 ∙
    beside_told live.layer.kind c.args.look.now.kind c.visible-2.result.now c.hidden-2.result.now c.args.parts.now.visible _ bounds look.kind c.visible-2.ensures.value
    (c.hidden-2.ensures.value ∙ ap (λ b. hidden_of b c.args.parts.now.visible) c.requires.parts) c.in_ok-news.ensures)
    (omega (arith, ints, c.in_ok-pairing.ensures.moved.0, c.displacement-dx.ensures.value, c.min_x.ensures.value, c.min_x-2.ensures.value, ap (λ (r : Rectangle). r.min_x) look.bounds))
    (omega (arith, ints, c.in_ok-pairing.ensures.moved.1, c.displacement-dy.ensures.value, c.min_y.ensures.value, c.min_y-2.ensures.value, ap (λ (r : Rectangle). r.min_y) look.bounds))
