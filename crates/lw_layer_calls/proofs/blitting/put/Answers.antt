use Rattle.std.proofs.Common.{◌≡◌, ◌∙◌, sym, ap, arith}
use Rattle.std.specs.List.{slice_index_or}
use Rattle.lw_calls.specs.Assets.{Assets}
use Rattle.lw_machine.specs.Step.{no_bitmap}
use Rattle.lw_layer_calls.proofs.BlittingLaws.{put_step, nothing_put}
use Rattle.lw_layer_calls.proofs.blitting.put.Goals as goal

pub returns-in_default : goal.returns-in_default
returns-in_default c =
    let live = c.args.layer.now in
    let handed : slice_index_or c.args.assets.now.bitmaps c.args.bitmap no_bitmap ≡ slice_index_or c.deref.result.now c.args.bitmap no_bitmap =
    ap (λ (a : Assets). slice_index_or a.bitmaps c.args.bitmap no_bitmap) (sym c.assets.view_is) ∙ ap (λ q. slice_index_or q c.args.bitmap no_bitmap) (sym c.deref.ensures.value) in
    put_step live live c.args.assets.now c.args.bitmap c.args.area.now _ (handed ∙ sym (c.in_default.ensures.lookup.4 (omega arith) no_bitmap)) (nothing_put live c.args.area.now c.depth.ensures.bits.bitmap)

pub returns : goal.returns
returns c =
    let handed : slice_index_or c.args.assets.now.bitmaps c.args.bitmap no_bitmap ≡ slice_index_or c.deref.result.now c.args.bitmap no_bitmap =
    ap (λ (a : Assets). slice_index_or a.bitmaps c.args.bitmap no_bitmap) (sym c.assets.view_is) ∙ ap (λ q. slice_index_or q c.args.bitmap no_bitmap) (sym c.deref.ensures.value) in
    put_step c.args.layer.now c.from_bitmap.new.layer c.args.assets.now c.args.bitmap c.args.area.now c.in-Some.planes.now (handed ∙ sym (c.in-Some.ensures.lookup.4 (omega arith) no_bitmap)) c.from_bitmap.ensures
