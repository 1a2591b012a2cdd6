use Rattle.std.proofs.lemmas.List.{take_rest}
use Rattle.lw_reveal.proofs.CarryingLaws.{both_new}
use Rattle.lw_reveal.proofs.carrying.all_buffers.Goals as goal

pub returns : goal.returns
returns c =
    let rects = c.args.pairing.now.news.items in
    let given = c.args.pairing.now.given.items in
    both_new c.args.layer.now c.args.place.now.bounds rects given c.args.shown c.in_ok-strips.strips.items c.in_ok-covered.covered.items c.requires.shown
    (rw (c.deref.ensures.value, c.deref-3.ensures.value) at c.in_ok-strips.ensures)
    (rw (take_rest rects c.args.shown, take_rest given c.args.shown) at (rw (c.deref-2.ensures.value, c.deref-4.ensures.value) at c.in_ok-covered.ensures))
