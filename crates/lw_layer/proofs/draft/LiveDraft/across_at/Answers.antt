use Rattle.std.proofs.Common.{◌≡◌, ◌≤◌, pos, ◌≤ℤ◌, unsigned_abs, arith, w32, to_z, of_z}
use Rattle.std.proofs.lemmas.Int.{ints, to_z-of_z}
use Rattle.lw_layer.proofs.draft.LiveDraft.across_at.Goals as goal

pub returns : goal.returns
returns c =
    let d = c.args.self.now in
    let x = to_z-of_z w32 c.args.x c.ranges.x in
    let near : unsigned_abs d.scroll_x ≤ 2048 = omega (arith, c.requires.sound.place.scrolled.right, c.requires.sound.place.sizes.columns.1) in
    let positive : pos 0 ≤ℤ d.scroll_x = c.requires.sound.place.scroll_x in
    let scroll : to_z w32 (of_z w32 d.scroll_x) ≡ d.scroll_x = omega (arith, ints) in
    let left : to_z w32 (of_z w32 c.from.result) ≡ d.bounds.min_x = omega (arith, ints) in
    rw (x, scroll, left) (omega (arith, ints))
