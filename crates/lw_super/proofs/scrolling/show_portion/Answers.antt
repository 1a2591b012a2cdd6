use Rattle.std.proofs.Common.{rules, ◌∙◌, arith}
use Rattle.lw_super.proofs.WritingLaws.{left_told, top_told, strips_shown}
use Rattle.lw_super.proofs.PortionLaws.{slice_back, show_gives}
use Rattle.lw_super.proofs.scrolling.show_portion.Goals as goal

pub read_shown-requires : goal.read_shown-requires
read_shown-requires c =
    let d = c.args.live.now in
    let left = left_told d c.min_x.result c.corner-left.result c.requires.sound (search rules) c.min_x.ensures.value c.corner-left.ensures in
    let top = top_told d c.min_y.result c.corner-top.result c.requires.sound (search rules) c.min_y.ensures.value c.corner-top.ensures in
    strips_shown d c.in-Some.own c.hidden.result.now c.as_mut_slice.result.now _ _ c.requires.own c.in-Some.is c.requires.sound
    c.visible.ensures.canonical c.hidden.ensures.divided left top c.as_mut_slice.ensures.value

pub returns-clause-strips : goal.returns-clause-strips
returns-clause-strips c =
    let d = c.args.live.now in
    let left = left_told d c.min_x.result c.corner-left.result c.requires.sound (search rules) c.min_x.ensures.value c.corner-left.ensures in
    let top = top_told d c.min_y.result c.corner-top.result c.requires.sound (search rules) c.min_y.ensures.value c.corner-top.ensures in
    slice_back d.strips.items c.read_shown.new.strips d.strips.len (omega (arith, c.read_shown.auto.strips)) d.strips.ok.0
    ∙ show_gives d c.in-Some.own c.as_mut_slice.result.now c.read_shown.new.strips _ _ c.in-Some.is left top c.as_mut_slice.ensures.value c.read_shown.ensures
