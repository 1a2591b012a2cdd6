use Rattle.std.proofs.Common.{◌≡◌, ℕ, ℤ, to_z, of_z, w16, w32, List, refl, rules}
use Rattle.std.proofs.lemmas.Result.{IfOk-weaker}
use Rattle.lw_region.specs.Rectangle.{Rectangle}
use Rattle.lw_calls.specs.Assets.{Assets}
use Rattle.lw_calls.specs.declared.call.Call.TheVariants.{WritePixel, ReadPixel, DrawTo, Letters, Put, Clip, SetTitle}
use Rattle.lw_calls.specs.declared.touch.CallClass.TheVariants.{OnLayer}
use Rattle.lw_calls.specs.Touches.{class_of}
use Rattle.lw_layer_calls.specs.Open.{IsLentStep}
use Rattle.lw_layer_calls.proofs.OneLayerLaws.{on_its_slot, on_its_place}
use Rattle.lw_layer_calls.proofs.one_layer.on_open.Goals as goal

pub returns-in-SetA-clause-step : goal.returns-in-SetA-clause-step
returns-in-SetA-clause-step c = λ slot class d live registers handed. c.set_state.ensures slot class d c.args.task live

pub returns-in-WritePixel-clause-step : goal.returns-in-WritePixel-clause-step
returns-in-WritePixel-clause-step c =
    λ slot class.
    let a = c.args in
    let x : ℤ = c.in-WritePixel.x in
    let y : ℤ = c.in-WritePixel.y in
    let column : to_z w32 (of_z w32 x) ≡ x = search rules in
    let row : to_z w32 (of_z w32 y) ≡ y = search rules in
    on_its_place slot c.in-WritePixel.slot x y _ _ a.call.now (λ n u v. WritePixel n u v) (λ k. IsLentStep a.task slot a.layer.now a.regs.now a.assets.now k c.write.result c.write.new.layer) class c.in-WritePixel.is refl column row
    (λ d live registers handed. c.write.ensures slot d a.task live)

pub returns-in-ReadPixel-clause-step : goal.returns-in-ReadPixel-clause-step
returns-in-ReadPixel-clause-step c =
    λ slot class.
    let a = c.args in
    let x : ℤ = c.in-ReadPixel.x in
    let y : ℤ = c.in-ReadPixel.y in
    let column : to_z w32 (of_z w32 x) ≡ x = search rules in
    let row : to_z w32 (of_z w32 y) ≡ y = search rules in
    on_its_place slot c.in-ReadPixel.slot x y _ _ a.call.now (λ n u v. ReadPixel n u v) (λ k. IsLentStep a.task slot a.layer.now a.regs.now a.assets.now k c.read.result a.layer.now) class c.in-ReadPixel.is refl column row
    (λ d live registers handed. c.read.ensures slot d a.task live)

pub returns-in-DrawTo-clause-step : goal.returns-in-DrawTo-clause-step
returns-in-DrawTo-clause-step c =
    λ slot class.
    let a = c.args in
    let x : ℤ = c.in-DrawTo.x in
    let y : ℤ = c.in-DrawTo.y in
    let column : to_z w16 (of_z w16 x) ≡ x = search rules in
    let row : to_z w16 (of_z w16 y) ≡ y = search rules in
    on_its_place slot c.in-DrawTo.slot x y _ _ a.call.now (λ n u v. DrawTo n u v) (λ k. IsLentStep a.task slot a.layer.now a.regs.now a.assets.now k c.draw.result c.draw.new.layer) class c.in-DrawTo.is refl column row
    (λ d live registers handed. c.draw.ensures slot d a.task live)

pub returns-in-Letters-clause-step : goal.returns-in-Letters-clause-step
returns-in-Letters-clause-step c =
    λ slot class.
    let a = c.args in
    on_its_slot slot c.in-Letters.slot a.call.now (λ n. Letters n c.in-Letters.text) (λ k. IsLentStep a.task slot a.layer.now a.regs.now a.assets.now k c.letters.result c.letters.new.layer) class c.in-Letters.is refl
    (c.letters.ensures a.task slot a.regs.now)

pub returns-in-Put-clause-step : goal.returns-in-Put-clause-step
returns-in-Put-clause-step c =
    λ slot class.
    let a = c.args in
    on_its_slot slot c.in-Put.slot a.call.now (λ n. Put c.in-Put.bitmap n c.in-Put.area) (λ k. IsLentStep a.task slot a.layer.now a.regs.now a.assets.now k c.put.result c.put.new.layer) class c.in-Put.is refl
    (c.put.ensures a.task slot a.regs.now)

pub returns-in-Clip-clause-step : goal.returns-in-Clip-clause-step
returns-in-Clip-clause-step c =
    let a = c.args in
    let new = c.clip.new.layer in
    IfOk-weaker c.clip.result
    (λ r. (task slot : ℕ) (assets : Assets) → IsLentStep task slot a.layer.now a.regs.now assets (Clip slot c.in-Clip.reg) r new)
    (λ r. (slot : ℕ) → class_of a.call.now ≡ OnLayer slot → IsLentStep a.task slot a.layer.now a.regs.now a.assets.now a.call.now r new)
    (λ r step slot class.
    on_its_slot slot c.in-Clip.slot a.call.now (λ n. Clip n c.in-Clip.reg) (λ k. IsLentStep a.task slot a.layer.now a.regs.now a.assets.now k r new) class c.in-Clip.is refl
    (step a.task slot a.assets.now))
    c.clip.ensures.step

pub returns-in-SetTitle-clause-step : goal.returns-in-SetTitle-clause-step
returns-in-SetTitle-clause-step c =
    let a = c.args in
    let new = c.title.new.layer in
    let text = c.in-SetTitle.text in
    IfOk-weaker c.title.result
    (λ r. (slot : ℕ) (regs : List (List Rectangle)) → IsLentStep a.task slot a.layer.now regs a.assets.now (SetTitle slot text) r new)
    (λ r. (slot : ℕ) → class_of a.call.now ≡ OnLayer slot → IsLentStep a.task slot a.layer.now a.regs.now a.assets.now a.call.now r new)
    (λ r step slot class.
    on_its_slot slot c.in-SetTitle.slot a.call.now (λ n. SetTitle n text) (λ k. IsLentStep a.task slot a.layer.now a.regs.now a.assets.now k r new) class c.in-SetTitle.is refl
    (step slot a.regs.now))
    c.title.ensures.step
