use Rattle.std.proofs.Common.{ap}
use Rattle.std.proofs.lemmas.Result.{IfOk-weaker}
use Rattle.lw_top.proofs.BitmapOutcomes.{done_bitmap, bad_bitmap}
use Rattle.lw_top.proofs.pictures.bitmap_outcome.Goals as goal

pub returns-in_ok-print_bitmap-in-Ok : goal.returns-in_ok-print_bitmap-in-Ok
returns-in_ok-print_bitmap-in-Ok c =
    done_bitmap c.args.name.now c.args.input.now c.in-Ok.picture _ _ _ c.requires c.in-Ok.ensures.picture c.in_ok-print_bitmap-in-Ok.ensures
    (ap (λ o. o.status) c.done.ensures) (ap (λ o. o.text.items) c.done.ensures)

pub returns-in-Err-BadPicture : goal.returns-in-Err-BadPicture
returns-in-Err-BadPicture c =
    let place = c.in-Err-BadPicture.place in
    let fault = c.in-Err-BadPicture.ensures.fault place c.in-Err-BadPicture.field-0-is in
    IfOk-weaker c.bad_picture.result _ _ (λ outcome h. bad_bitmap c.args.name.now c.args.input.now place outcome.status outcome.text.items c.requires fault h.0 h.1) c.bad_picture.ensures
