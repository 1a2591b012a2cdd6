-- What the calls that begin and end an update answer and leave, in every desk whose slot has the layer.
use Rattle.std.proofs.Common.{◌≡◌, ℕ, Bool, true, false, not, Option, None, ◌∙◌, sym, refl, ap, subst}
use Rattle.lw_calls.specs.declared.call.Call.TheVariants.{BeginRefresh, EndRefresh}
use Rattle.lw_calls.specs.declared.reply.Reply.{Reply}
use Rattle.lw_calls.specs.declared.reply.Reply.TheVariants.{Done, NotOwner, InUpdate, NotInUpdate}
use Rattle.lw_machine.specs.Layer.{Layer, Slot, layer_is, is_foreign}
use Rattle.lw_machine.specs.Layer as layer
use Rattle.lw_machine.specs.Desk.{Desk}
use Rattle.lw_machine.specs.Step.{refuse, refuse_not_owner, further_refusal, end_update}
use Rattle.lw_layer.specs.View.{LiveView, with_layer}
use Rattle.lw_layer_calls.specs.Open.{IsLiveStep, IsTaskStep}
use Rattle.lw_layer_calls.proofs.OneLayerLaws.{further_step, open_refusal, changed_step}

-- the first refusals of a call that a window's task alone may make, and the next one
owner_first : (task : ℕ) (s : Slot) (l : Layer) (foreign : Bool) (next : Slot → Option Reply) → s ≡ layer.Live l → is_foreign task l.window ≡ foreign → refuse_not_owner task s (next s) ≡ refuse foreign NotOwner (next (layer.Live l))
owner_first task s l foreign next is told = ap (λ (t : Slot). refuse_not_owner task t (next t)) is ∙ ap (λ t. refuse t NotOwner (next (layer.Live l))) told

-- the further refusal of a call that begins an update
begin_refusal : (d : Desk) (task slot : ℕ) (l : Layer) (foreign updating : Bool) → d.slot slot ≡ layer.Live l → is_foreign task l.window ≡ foreign → l.updating ≡ updating → further_refusal d task (BeginRefresh slot) ≡ refuse foreign NotOwner (refuse updating InUpdate None)
begin_refusal d task slot l foreign updating is whose told =
    owner_first task (d.slot slot) l foreign (λ s. refuse (layer_is (λ k. k.updating) s) InUpdate None) is whose ∙
    ap (λ t. refuse foreign NotOwner (refuse t InUpdate None)) told

-- and of one that ends it
end_refusal : (d : Desk) (task slot : ℕ) (full : Bool) (l : Layer) (foreign idle : Bool) → d.slot slot ≡ layer.Live l → is_foreign task l.window ≡ foreign → not l.updating ≡ idle → further_refusal d task (EndRefresh slot full) ≡ refuse foreign NotOwner (refuse idle NotInUpdate None)
end_refusal d task slot full l foreign idle is whose told =
    owner_first task (d.slot slot) l foreign (λ s. refuse (layer_is (λ k. not k.updating) s) NotInUpdate None) is whose ∙
    ap (λ t. refuse foreign NotOwner (refuse t NotInUpdate None)) told

-- no task begins an update of another's window
pub begin_foreign : (task slot : ℕ) (c : LiveView) → is_foreign task c.layer.window ≡ true → IsTaskStep task slot c (BeginRefresh slot) NotOwner c
begin_foreign task slot c whose =
    further_step task slot c (BeginRefresh slot) NotOwner refl (λ d live. begin_refusal d task slot c.layer true c.layer.updating live.slot whose refl)

-- no second update begins within one
pub begin_in_update : (task slot : ℕ) (c : LiveView) → is_foreign task c.layer.window ≡ false → c.layer.updating ≡ true → IsTaskStep task slot c (BeginRefresh slot) InUpdate c
begin_in_update task slot c whose updating =
    further_step task slot c (BeginRefresh slot) InUpdate refl (λ d live. begin_refusal d task slot c.layer false true live.slot whose updating)

-- an update begins
pub begin_step : (task slot : ℕ) (c new : LiveView) → is_foreign task c.layer.window ≡ false → c.layer.updating ≡ false → new ≡ with_layer (λ l. record l { updating = true }) c → IsTaskStep task slot c (BeginRefresh slot) Done new
begin_step task slot c new whose idle leaves =
    λ d live.
    let P : LiveView → Type 0 = IsLiveStep d task slot (BeginRefresh slot) Done in
    subst P (sym leaves)
    (changed_step d task slot (BeginRefresh slot) Done c (λ l. record l { updating = true }) (λ l. record l { updating = true }) live
    (open_refusal d task slot (BeginRefresh slot) c.layer refl live.slot ∙ begin_refusal d task slot c.layer false false live.slot whose idle)
    refl refl refl)

-- no task ends an update of another's window
pub end_foreign : (task slot : ℕ) (c : LiveView) (full : Bool) → is_foreign task c.layer.window ≡ true → IsTaskStep task slot c (EndRefresh slot full) NotOwner c
end_foreign task slot c full whose =
    further_step task slot c (EndRefresh slot full) NotOwner refl
    (λ d live. end_refusal d task slot full c.layer true (not c.layer.updating) live.slot whose refl)

-- none ends where none is on
pub end_not_in_update : (task slot : ℕ) (c : LiveView) (full : Bool) → is_foreign task c.layer.window ≡ false → not c.layer.updating ≡ true → IsTaskStep task slot c (EndRefresh slot full) NotInUpdate c
end_not_in_update task slot c full whose idle =
    further_step task slot c (EndRefresh slot full) NotInUpdate refl (λ d live. end_refusal d task slot full c.layer false true live.slot whose idle)

-- an update ends
pub end_step : (task slot : ℕ) (c new : LiveView) (full : Bool) → is_foreign task c.layer.window ≡ false → not c.layer.updating ≡ false → new ≡ with_layer (λ l. end_update full l) c → IsTaskStep task slot c (EndRefresh slot full) Done new
end_step task slot c new full whose updating leaves =
    λ d live.
    let P : LiveView → Type 0 = IsLiveStep d task slot (EndRefresh slot full) Done in
    subst P (sym leaves)
    (changed_step d task slot (EndRefresh slot full) Done c (end_update full) (λ l. end_update full l) live
    (open_refusal d task slot (EndRefresh slot full) c.layer refl live.slot ∙ end_refusal d task slot full c.layer false false live.slot whose updating)
    refl refl refl)
