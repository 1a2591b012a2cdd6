use Rattle.std.proofs.Common.{◌≡◌, ◌+ℤ◌, ◌∙◌, w32}
use Rattle.std.proofs.lemmas.Int.{to_z-of_z}
use Rattle.lw_super.specs.Shown.{scrolled_by}
use Rattle.lw_super.proofs.PortionLaws.{moved_x_told, moved_y_told, moved_sound, moved_live, scrolled_layer}
use Rattle.lw_super.proofs.scrolling.scroll_live.Goals as goal

pub move_portion-requires-clause-column : goal.move_portion-requires-clause-column
move_portion-requires-clause-column c =
    rw (to_z-of_z w32 c.args.dx c.ranges.dx) (moved_x_told c.args.live.now _ _ c.requires.sound c.min_x.ensures.ordered c.requires.fits)

pub move_portion-requires-clause-row : goal.move_portion-requires-clause-row
move_portion-requires-clause-row c =
    rw (to_z-of_z w32 c.args.dy c.ranges.dy) (moved_y_told c.args.live.now _ _ c.requires.sound c.min_x.ensures.ordered c.requires.fits)

pub show_portion-requires-clause-sound : goal.show_portion-requires-clause-sound
show_portion-requires-clause-sound c =
    let d = c.args.live.now in
    let dx = to_z-of_z w32 c.args.dx c.ranges.dx in
    let dy = to_z-of_z w32 c.args.dy c.ranges.dy in
    let moved : c.move_portion.new.live ≡ scrolled_by d c.args.dx c.args.dy = rw (dx, dy) at c.move_portion.ensures in
    moved_sound d c.move_portion.new.live c.args.dx c.args.dy moved c.requires.own c.requires.sound c.min_x.ensures.ordered c.requires.fits

pub returns : goal.returns
returns c =
    let d = c.args.live.now in
    let x = d.scroll_x +ℤ c.args.dx in
    let y = d.scroll_y +ℤ c.args.dy in
    let ordered = c.min_x.ensures.ordered in
    let dx = to_z-of_z w32 c.args.dx c.ranges.dx in
    let dy = to_z-of_z w32 c.args.dy c.ranges.dy in
    let moved : c.move_portion.new.live ≡ scrolled_by d c.args.dx c.args.dy = rw (dx, dy) at c.move_portion.ensures in
    let shown =
    moved_live d c.move_portion.new.live c.show_portion.new.live c.hidden.result.now c.args.dx c.args.dy moved c.show_portion.ensures.rest c.show_portion.ensures.strips
    c.requires.own c.requires.sound ordered c.visible.ensures.canonical c.hidden.ensures.divided c.requires.fits
    in
    record {
      sound = shown.sound;
      view =
          shown.view
          ∙ scrolled_layer d c.args.dx c.args.dy c.requires.sound (moved_x_told d x y c.requires.sound ordered c.requires.fits).low (moved_y_told d x y c.requires.sound ordered c.requires.fits).low;
    }
