-- What calls on the parts of a desk say of the machine's steps by class.
use Rattle.std.proofs.Common.{◌≡◌, ℕ, ◌<◌, List, length, Option, Result, Ok, Err, IfOk, OnErr, ◌∙◌, sym, ap, subst, arith}
use Rattle.std.proofs.lemmas.Option.{slice_get-get_or, slice_get_within, get_or_from_slice_get}
use Rattle.lw_calls.specs.Assets.{Assets}
use Rattle.lw_calls.specs.declared.sizes.Sizes.{Sizes}
use Rattle.lw_calls.specs.declared.call.Call.{Call}
use Rattle.lw_calls.specs.declared.reply.Reply.{Reply}
use Rattle.lw_machine.specs.Hook.{Hook}
use Rattle.lw_machine.specs.Desk.{Desk}
use Rattle.lw_machine.specs.Parts.{slot_part}
use Rattle.lw_machine.specs.Step.{after}
use Rattle.lw_machine.proofs.Locality.{after_assets}
use Rattle.lw_layer.specs.View.{CellView}
use Rattle.lw_layer.specs.StandsFor.{StandsFor}
use Rattle.lw_stack.specs.Stack.{Stack}
use Rattle.lw_engine_trait.specs.Steps.{AreStill}
use Rattle.lw_engine_trait.specs.Steps as steps
use Rattle.lw_engine.specs.Desks.{no_cell, cell_at, AreNumbered, AreOfDesk, AreAsBefore, AreOnShelf}
use Rattle.lw_engine.specs.Arranging.{IsAllStep}
use Rattle.lw_engine.specs.Layers.{InfoView, layer_relations, AreLayers}
use Rattle.lw_engine.proofs.RoomLaws.{numbered_roomed, of_desk_roomed}

-- the parts are those of a sound desk
pub numbered_cells : (sizes : Sizes) (assets : Assets) (i : InfoView) (cells : List CellView) (d : Desk) → AreLayers sizes assets i cells d → AreNumbered i.stack.sizes.slots cells
numbered_cells sizes assets i cells d parts = record {
  many = parts.many ∙ ap (λ (s : Sizes). s.slots) (sym parts.info.sizes);
  numbers = λ s low.
      let same = ap (λ (q : Sizes). q.slots) parts.info.sizes in
      let inside : s < length cells = omega (arith, low, same, parts.many) in
      (parts.cells s (cell_at cells s) (slice_get-get_or cells s no_cell inside)).0;
}

pub layers_of_desk : (sizes : Sizes) (assets : Assets) (i : InfoView) (cells : List CellView) (d : Desk) → AreLayers sizes assets i cells d → AreOfDesk i.stack cells d
layers_of_desk sizes assets i cells d parts = record {
  sound = parts.desk.sound;
  sizes = parts.desk.sizes ∙ sym parts.info.sizes;
  info = parts.info.info;
  slots = λ s low.
      let same = ap (λ (q : Sizes). q.slots) parts.info.sizes in
      let inside : s < length cells = omega (arith, low, same, parts.many) in
      (parts.cells s (cell_at cells s) (slice_get-get_or cells s no_cell inside)).1;
}

-- and the parts of a sound desk are these
pub desk_layers : (sizes : Sizes) (assets : Assets) (v : Stack) (shelf : List (Option Hook)) (cells : List CellView) (d : Desk) → v.sizes ≡ sizes → d.assets ≡ assets
    → AreNumbered v.sizes.slots cells → AreOfDesk v cells d → AreOnShelf shelf d → AreLayers sizes assets (record { stack = v; shelf = shelf }) cells d
desk_layers sizes assets v shelf cells d same handed numbered are hooks =
    record {
      desk = record { sound = are.sound; sizes = are.sizes ∙ same; assets = handed };
      many = numbered.many ∙ ap (λ (s : Sizes). s.slots) same;
      info = record { sizes = same; info = are.info; hooks = hooks };
      cells = λ s c got.
          let within : s < length cells = slice_get_within cells s c got in
          let low : s < v.sizes.slots = omega (arith, within, numbered.many) in
          let is : cell_at cells s ≡ c = get_or_from_slice_get cells s c no_cell got in
          let P : CellView → Type 0 = λ k. StandsFor k (slot_part d s) in
          (ap layer_relations.number (sym is) ∙ numbered.numbers s low, subst P is (are.slots s low));
    }

-- a call that arranges layers
pub all_made : {E : Type 0} (result : Result Reply E) (sizes : Sizes) (assets : Assets) (i : InfoView) (v : Stack) (shelf : List (Option Hook)) (old new : List CellView) (task : ℕ) (call : Call)
    → i.stack.sizes ≡ sizes → v.sizes ≡ i.stack.sizes → AreNumbered v.sizes.slots new
    → IfOk result (λ r. IsAllStep assets i.stack i.shelf old task call r v shelf new)
    → IfOk result (λ r. steps.IsAllStep layer_relations sizes assets i old task call r (record { stack = v; shelf = shelf }) new)
all_made (Ok r) sizes assets i v shelf old new task call first same numbered step =
    λ d parts.
    let made = step d (layers_of_desk sizes assets i old d parts) parts.info.hooks parts.desk.assets in
    (made.0, desk_layers sizes assets v shelf new (after d task call) (same ∙ first) (after_assets d task call ∙ parts.desk.assets) numbered made.1 made.2)
all_made (Err x) sizes assets i v shelf old new task call first same numbered step = tt

-- and after a failure they stand for what they stood for
pub all_still : {E : Type 0} (result : Result Reply E) (sizes : Sizes) (assets : Assets) (i : InfoView) (v : Stack) (shelf : List (Option Hook)) (old new : List CellView)
    → OnErr result ((v ≡ i.stack) × (shelf ≡ i.shelf) × AreAsBefore old new)
    → OnErr result (AreStill layer_relations sizes assets i old (record { stack = v; shelf = shelf }) new)
all_still (Ok r) sizes assets i v shelf old new kept = tt
all_still (Err x) sizes assets i v shelf old new kept =
    λ d parts.
    let numbered = numbered_cells sizes assets i old d parts in
    let P : Stack → Type 0 = λ w. AreLayers sizes assets (record { stack = w; shelf = shelf }) new d in
    let Q : List (Option Hook) → Type 0 = λ l. AreLayers sizes assets (record { stack = i.stack; shelf = l }) new d in
    subst P (sym kept.0)
    (subst Q (sym kept.1)
    (desk_layers sizes assets i.stack i.shelf new d parts.info.sizes parts.desk.assets (numbered_roomed i.stack.sizes.slots old new kept.2 numbered)
    (of_desk_roomed i.stack old new d kept.2 numbered (layers_of_desk sizes assets i old d parts)) parts.info.hooks))
