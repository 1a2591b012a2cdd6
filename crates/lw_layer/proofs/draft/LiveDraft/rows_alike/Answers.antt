use Rattle.std.proofs.Common.{◌+◌, ◌-◌, ◌<◌, List, subst, arith}
use Rattle.lw_region.specs.Rectangle.{Rectangle}
use Rattle.lw_layer.specs.Pieces.{down}
use Rattle.lw_layer.specs.Drafts.{layout}
use Rattle.lw_layer.specs.Code.{AreRowsAlike}
use Rattle.lw_layer.proofs.AlikeLaws.{are_alike}
use Rattle.lw_layer.proofs.draft.LiveDraft.rows_alike.Goals as goal

pub returns-clause-alike : goal.returns-clause-alike
returns-clause-alike c =
    let d = c.args.self.now in
    let V : List Rectangle → Type 0 = λ rects. AreRowsAlike rects (down (layout d) c.args.y) (c.height.result - c.args.y) c.screen_rows-shown.result in
    let shown = subst V c.visible.ensures.value c.screen_rows-shown.ensures in
    λ k inside.
    let below : c.args.y + k < (layout d).height = omega (arith, inside, c.damage_rows.ensures.upto, c.clip_rows-clipped.ensures.upto, c.rest_rows-buffered.ensures.upto, c.screen_rows-shown.ensures.upto, c.height.ensures, c.requires.row) in
    are_alike d c.args.y k (c.height.result - c.args.y) c.screen_rows-shown.result c.rest_rows-buffered.result c.damage_rows.result c.clip_rows-clipped.result c.requires.row below inside shown c.rest_rows-buffered.ensures c.clip_rows-clipped.ensures c.damage_rows.ensures
