use Rattle.std.proofs.Common.{◌∙◌, sym, arith}
use Rattle.lw_draw.proofs.PaintLaws.{depth_stays}
use Rattle.lw_blit.specs.Blitting.{from_layer, planes_before}
use Rattle.lw_draw.specs.Blocks.{in_block}
use Rattle.lw_blit.proofs.LoopLaws.{layer_gives_bits}
use Rattle.lw_blit.proofs.MoveLaws.{move_stays, moved_as_layer, plane_as_before}
use Rattle.lw_blit.proofs.RunLaws.{no_planes, plane_painted, plane_left, planes_done}
use Rattle.lw_blit.proofs.moving.move_planes.Goals as goal
use Rattle.lw_blit.proofs.moving.move_planes.Goals.{then-has_bit, else-has_bit}

pub loop-plane-init : goal.loop-plane-init
loop-plane-init c =
    let m = c.args.blocks in
    no_planes c.args.layer.now c.args.mask (in_block m.to) (from_layer c.args.layer.now c.args.transfer) c.depth-plane-end.ensures.bits.bitmap

pub move_block-requires-clause-plane : goal.move_block-requires-clause-plane
move_block-requires-clause-plane c =
    let v = c.args.layer.now in
    let m = c.args.blocks in
    let same = depth_stays v c.loop-plane.layer (planes_before c.args.mask c.loop-plane.plane (in_block m.to)) (from_layer v c.args.transfer) c.loop-plane.invariant in
    omega (arith, same, c.depth-plane-end.ensures.value)

pub move_block-requires-clause-to : goal.move_block-requires-clause-to
move_block-requires-clause-to c =
    let v = c.args.layer.now in
    let m = c.args.blocks in
    (move_stays v c.loop-plane.layer (planes_before c.args.mask c.loop-plane.plane (in_block m.to)) (from_layer v c.args.transfer) c.args.transfer m c.loop-plane.invariant c.requires.blocks).to

pub move_block-requires-clause-source : goal.move_block-requires-clause-source
move_block-requires-clause-source c =
    let v = c.args.layer.now in
    let m = c.args.blocks in
    (move_stays v c.loop-plane.layer (planes_before c.args.mask c.loop-plane.plane (in_block m.to)) (from_layer v c.args.transfer) c.args.transfer m c.loop-plane.invariant c.requires.blocks).source

pub move_block-requires-clause-shape : goal.move_block-requires-clause-shape
move_block-requires-clause-shape c = c.requires.blocks.shape

pub loop-plane-preserved : goal.loop-plane-preserved
loop-plane-preserved c =
    let v = c.args.layer.now in
    let k = c.loop-plane.plane in
    let m = c.args.blocks in
    let t = c.args.transfer in
    let new = from_layer v t in
    let stays = move_stays v c.loop-plane.layer (planes_before c.args.mask k (in_block m.to)) new t m c.loop-plane.invariant c.requires.blocks in
    elim c.if-has_bit.branch [
      | then-has_bit w ↦ w.layer-is ∙ plane_painted v c.loop-plane.layer w.move_block.new.layer c.args.mask k (in_block m.to) new (layer_gives_bits v t) (sym c.has_bit.ensures ∙ w.if-has_bit.true) c.loop-plane.invariant (plane_as_before v c.loop-plane.layer w.move_block.new.layer c.args.mask k (in_block m.to) t c.loop-plane.invariant (moved_as_layer c.loop-plane.layer w.move_block.new.layer t m k stays w.move_block.ensures))
      | else-has_bit w ↦ w.layer-is ∙ plane_left v c.loop-plane.layer c.args.mask k (in_block m.to) new (sym c.has_bit.ensures ∙ w.if-has_bit.false) c.loop-plane.invariant
    ]

pub returns : goal.returns
returns c =
    let m = c.args.blocks in
    planes_done c.args.layer.now c.loop-plane.layer c.args.mask c.loop-plane.plane (in_block m.to) (from_layer c.args.layer.now c.args.transfer) (omega (arith, c.depth-plane-end.ensures.value)) c.loop-plane.invariant
