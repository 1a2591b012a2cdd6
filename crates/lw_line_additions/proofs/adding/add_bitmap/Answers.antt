use Rattle.std.proofs.Common.{w64}
use Rattle.lw_grammar.specs.Statements.{BitmapLine}
use Rattle.lw_line_additions.proofs.Addable.{here_of, due_of, bitmap_ranged, bitmap_new}
use Rattle.std.proofs.lemmas.Int.{to_z-of_z}
use Rattle.lw_line_additions.proofs.adding.add_bitmap.Goals as goal

pub add_bitmap-requires-clause-width : goal.add_bitmap-requires-clause-width
add_bitmap-requires-clause-width c =
    rw (to_z-of_z w64 c.args.width c.ranges.width) (bitmap_ranged c.args.reader.now c.args.name.now c.args.width c.args.height c.args.depth c.requires).width

pub add_bitmap-requires-clause-height : goal.add_bitmap-requires-clause-height
add_bitmap-requires-clause-height c =
    rw (to_z-of_z w64 c.args.height c.ranges.height) (bitmap_ranged c.args.reader.now c.args.name.now c.args.width c.args.height c.args.depth c.requires).height

pub add_bitmap-requires-clause-depth : goal.add_bitmap-requires-clause-depth
add_bitmap-requires-clause-depth c =
    rw (to_z-of_z w64 c.args.depth c.ranges.depth) (bitmap_ranged c.args.reader.now c.args.name.now c.args.width c.args.height c.args.depth c.requires).depth

pub add_bitmap-requires-clause-due : goal.add_bitmap-requires-clause-due
add_bitmap-requires-clause-due c =
    let f = BitmapLine c.args.name.now c.args.width c.args.height c.args.depth in
    due_of c.args.reader.now f c.requires (here_of c.args.reader.now f c.requires).0

pub add_bitmap-requires-clause-new : goal.add_bitmap-requires-clause-new
add_bitmap-requires-clause-new c = bitmap_new c.args.reader.now c.args.name.now c.args.width c.args.height c.args.depth c.requires
