use Rattle.std.proofs.Common.{◌≡◌, rules, ap, Some, arith, w64, to_z, of_z}
use Rattle.std.proofs.lemmas.Int.{ints}
use Rattle.lw_planes.specs.Bitmap.{Bitmap}
use Rattle.lw_super.specs.Shown.{left_of, top_of}
use Rattle.lw_super.proofs.WritingLaws.{left_told, top_told, strips_all_solid, strips_deep, write_gives}
use Rattle.lw_super.proofs.writing.write_back.Goals as goal

pub lay_strips-requires-clause-solid : goal.lay_strips-requires-clause-solid
lay_strips-requires-clause-solid c = strips_all_solid c.args.live.now c.deref.result.now c.requires.sound c.deref.ensures.value

pub lay_strips-requires-clause-planes : goal.lay_strips-requires-clause-planes
lay_strips-requires-clause-planes c = strips_deep c.args.live.now c.in-Some.own c.deref.result.now c.requires.own c.in-Some.is c.requires.sound c.deref.ensures.value

pub returns : goal.returns
returns c =
    let d = c.args.live.now in
    let left = left_told d c.min_x.result c.corner-left.result c.requires.sound (search rules) c.min_x.ensures.value c.corner-left.ensures in
    let top = top_told d c.min_y.result c.corner-top.result c.requires.sound (search rules) c.min_y.ensures.value c.corner-top.ensures in
    let left_is : to_z w64 (of_z w64 c.from.result) ≡ left_of d = omega (arith, ints, c.from.ensures, left) in
    let top_is : to_z w64 (of_z w64 c.from-in-Some.result) ≡ top_of d = omega (arith, ints, c.from-in-Some.ensures, top) in
    ap (λ (b : Bitmap). record d { superbits = Some b })
    (write_gives d c.in-Some.own c.lay_strips.new.to c.deref.result.now _ _ c.requires.own c.in-Some.is c.requires.sound
    left_is top_is c.deref.ensures.value c.lay_strips.ensures)
