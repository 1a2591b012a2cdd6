-- The parts of a desk before the first call.
use Rattle.std.proofs.Common.{◌≡◌, ℕ, ◌+◌, ◌<◌, List, [], ◌∷◌, ◌++◌, length, get_or, map, replicate, Option, None, IsTrue, ◌∙◌, sym, refl, ap, subst, arith}
use Rattle.std.specs.List.{range_with_len}
use Rattle.std.proofs.lemmas.List.{length-replicate, get_or-replicate}
use Rattle.std.proofs.lemmas.List.FromFn.{get_or-map-range_with_len, length-map-range_with_len, map-range_with_len_more}
use Rattle.std.proofs.lemmas.List.Elements.{All-nil}
use Rattle.std.proofs.lemmas.Option.{slice_get_within, get_or_from_slice_get}
use Rattle.lw_region.specs.Rectangle.{Rectangle}
use Rattle.lw_region.specs.Pixels.{pixels_of}
use Rattle.lw_region.proofs.SetOps.{set_of_nil}
use Rattle.lw_calls.specs.declared.sizes.Sizes.{Sizes}
use Rattle.lw_calls.specs.declared.entry.Entry.{Entry}
use Rattle.lw_calls.specs.Assets.{Assets}
use Rattle.lw_calls.specs.Limits.{IsWithinLimits, call_fits}
use Rattle.lw_machine.specs.Hook.{Hook}
use Rattle.lw_machine.specs.Desk.{empty_desk}
use Rattle.lw_machine.specs.Parts.{slot_part}
use Rattle.lw_machine.proofs.ReachedSound.{reached_sound}
use Rattle.lw_layer.specs.View.{CellView}
use Rattle.lw_layer.specs.StandsFor.{StandsFor}
use Rattle.lw_stack.specs.Stack.{Stack}
use Rattle.lw_stack.proofs.ListLaws.{nowhere}
use Rattle.lw_engine.specs.Desks.{cell_at, hook_at}
use Rattle.lw_engine.specs.Layers.{AreLayers, AreRegisters}
use Rattle.lw_engine.specs.Desks.{unopened_cell}
use Rattle.lw_engine.proofs.LayerLaws.{desk_layers}

-- a list of layers without any
abbrev pub no_layers : Sizes → Stack
no_layers sizes = record { sizes = sizes; front_to_back = []; bounds = replicate sizes.slots None; active = None }

-- the cells of slots that weren't opened
abbrev pub unopened_cells : Sizes → List CellView
unopened_cells sizes = map unopened_cell (range_with_len 0 sizes.slots)

-- the cell of each slot wasn't opened
unopened : (sizes : Sizes) (s : ℕ) → s < sizes.slots → cell_at (unopened_cells sizes) s ≡ unopened_cell s
unopened sizes s low = get_or-map-range_with_len unopened_cell 0 sizes.slots s s _ low (omega arith)

-- the list of layers, the slots and the shelf stand for the desk before the first call
pub opened_layers : (sizes : Sizes) (assets : Assets) (shelf : ℕ → Option Hook) (v : Stack) (kept : List (Option Hook)) (cells : List CellView) → IsWithinLimits sizes
    → v ≡ no_layers sizes → ((n : ℕ) → hook_at kept n ≡ shelf n) → cells ≡ unopened_cells sizes
    → AreLayers sizes assets (record { stack = v; shelf = kept }) cells (empty_desk sizes assets shelf)
opened_layers sizes assets shelf v kept cells limits none same all =
    let P : Stack → Type 0 = λ w. AreLayers sizes assets (record { stack = w; shelf = kept }) cells (empty_desk sizes assets shelf) in
    let Q : List CellView → Type 0 = λ q. AreLayers sizes assets (record { stack = no_layers sizes; shelf = kept }) q (empty_desk sizes assets shelf) in
    let nothing : List Entry = [] in
    subst P (sym none)
    (subst Q (sym all)
    (desk_layers sizes assets (no_layers sizes) kept (unopened_cells sizes) (empty_desk sizes assets shelf) refl refl
    (record {
      many = length-map-range_with_len unopened_cell 0 sizes.slots;
      numbers = λ s low. ap (λ (c : CellView). c.number) (unopened sizes s low);
    })
    (record {
      sound = reached_sound sizes assets shelf nothing limits (All-nil (λ e. IsTrue (call_fits sizes e.call)));
      sizes = refl;
      info = record { front_to_back = refl; bounds = λ s. sym (nowhere sizes.slots s); active = refl };
      slots = λ s low.
          let R : CellView → Type 0 = λ c. StandsFor c (slot_part (empty_desk sizes assets shelf) s) in
          subst R (sym (unopened sizes s low)) (refl, refl);
    })
    (λ n. sym (same n))))

-- empty registers are those of each task then
pub opened_registers : (sizes : Sizes) (assets : Assets) (shelf : ℕ → Option Hook) (all : List (List (List Rectangle))) → all ≡ replicate sizes.tasks (replicate 8 [])
    → AreRegisters all (empty_desk sizes assets shelf)
opened_registers sizes assets shelf all is =
    λ t regs got.
    let within : t < length all = slice_get_within all t regs got in
    let low : t < sizes.tasks = (let long = ap length is in omega (arith, within, long, length-replicate {A = List (List Rectangle)})) in
    let read : regs ≡ replicate 8 [] = sym (get_or_from_slice_get all t regs [] got) ∙ (ap (λ q. get_or q t []) is ∙ get_or-replicate sizes.tasks t (replicate 8 []) [] low) in
    record {
      sets = λ r few. sym (ap (λ q. pixels_of (get_or q r [])) read ∙ (ap pixels_of (get_or-replicate 8 r [] [] few) ∙ set_of_nil));
    }

-- one cell more
pub unopened_more : (cells new : List CellView) (c : CellView) (n : ℕ) → cells ≡ map unopened_cell (range_with_len 0 n) → c ≡ unopened_cell n → new ≡ cells ++ c ∷ [] → new ≡ map unopened_cell (range_with_len 0 (n + 1))
unopened_more cells new c n before is pushed =
    pushed ∙
    (ap (λ (q : List CellView). q ++ c ∷ []) before ∙
    (ap (λ (k : CellView). map unopened_cell (range_with_len 0 n) ++ k ∷ []) is ∙ sym (map-range_with_len_more unopened_cell 0 n n (omega arith))))
