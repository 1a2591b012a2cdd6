-- The desk that a plan's tasks run on, before their first calls and after their last.
use Rattle.std.proofs.Common.{◌≡◌, ℕ, ◌<◌, List, [], length, map, option_map, refl, ap, sym, subst, ◌∙◌, arith}
use Rattle.std.specs.List.{slice_get, slice_index_or}
use Rattle.std.proofs.lemmas.Option.{slice_get-map, get_or_from_slice_get}
use Rattle.lw_region.specs.Rectangle.{Rectangle}
use Rattle.lw_calls.specs.Assets.{Assets}
use Rattle.lw_calls.specs.declared.entry.Entry.{Entry}
use Rattle.lw_calls.specs.declared.reply.Reply.{Reply}
use Rattle.lw_calls.specs.declared.sizes.Sizes.{Sizes}
use Rattle.lw_calls.specs.Entries.{entries}
use Rattle.lw_calls.specs.Final.{Final}
use Rattle.lw_calls.specs.Plan.{Plan}
use Rattle.lw_machine.specs.Desk.{Desk, empty_desk, shelf_of}
use Rattle.lw_machine.specs.Finals.{run_final, final_of, opening_desk}
use Rattle.lw_machine.specs.History.{machine, replies_of}
use Rattle.lw_machine.specs.Hook.{Hook}
use Rattle.lw_order.specs.Numbered.{TasksBelow}
use Rattle.lw_layer.specs.View.{CellView}
use Rattle.lw_engine_trait.specs.Steps.{Relations}
use Rattle.lw_engine.specs.Layers.{InfoView, AreLayers, AreRegisters}
use Rattle.lw_runs.specs.declared.answers.TaskAnswers.{TaskAnswers}
use Rattle.lw_runs.specs.Whole.{HaveRun, AreTickets, order_of, IsOrdered}
use Rattle.lw_runs.proofs.ListLaws.{has_entry}
use Rattle.lw_runs.proofs.Whole.{ordered}

-- The parts of the opening desk are those of this one.
pub record IsStarted (d : Desk) (plan : Plan) (sizes : Sizes) (assets : Assets) (info : InfoView) (cells : List CellView) (regs : List (List (List Rectangle))) : Type 0 where
  pub of_plan : d.sizes ≡ plan.sizes
  pub empty : d ≡ empty_desk d.sizes d.assets d.shelf
  pub sizes_are : sizes ≡ d.sizes
  pub assets_are : assets ≡ d.assets
  pub layers : AreLayers d.sizes d.assets info cells d
  pub registers : AreRegisters regs d

pub started : (d : Desk) (plan : Plan) (hooks : List Hook) (sizes : Sizes) (assets : Assets) (info : InfoView) (cells : List CellView) (regs : List (List (List Rectangle))) → d ≡ opening_desk plan hooks → sizes ≡ plan.sizes → assets ≡ plan.assets
    → AreLayers sizes assets info cells (empty_desk sizes assets (shelf_of hooks)) → AreRegisters regs (empty_desk sizes assets (shelf_of hooks)) → IsStarted d plan sizes assets info cells regs
started d plan hooks sizes assets info cells regs is of_plan handed layers registers =
    let shelf : ℕ → _ = shelf_of hooks in
    let same : empty_desk sizes assets shelf ≡ d = ap (λ s. empty_desk s assets shelf) of_plan ∙ (ap (λ a. empty_desk plan.sizes a shelf) handed ∙ sym is) in
    let sizes_are : sizes ≡ d.sizes = ap (λ (x : Desk). x.sizes) same in
    let assets_are : assets ≡ d.assets = ap (λ (x : Desk). x.assets) same in
    record {
      of_plan = sym sizes_are ∙ of_plan;
      empty = subst (λ (x : Desk). x ≡ empty_desk x.sizes x.assets x.shelf) same refl;
      sizes_are = sizes_are;
      assets_are = assets_are;
      layers = subst (λ s. AreLayers s d.assets info cells d) sizes_are (subst (λ a. AreLayers sizes a info cells d) assets_are (subst (λ x. AreLayers sizes assets info cells x) same layers));
      registers = subst (λ x. AreRegisters regs x) same registers;
    }

module _ {I C R : Type 0} (relations : Relations I C R) (d : Desk) (plan : Plan) (info : I) (cells : List C) (history : List Entry) (all : List TaskAnswers) (of_plan : d.sizes ≡ plan.sizes) (run : HaveRun relations d plan info cells history all) where
  pub run_ordered : IsOrdered plan history
  run_ordered =
      ordered plan d history
      (λ t low. let told = has_entry all t (let many = run.many in omega (arith, low, many)) in (told.0, run.told t told.0 told.1))
      of_plan run.known

  run_tickets : AreTickets history all
  run_tickets t told got = (run.told t told got).tickets

  run_below : TasksBelow (length all) history
  run_below = subst (λ n. TasksBelow n history) (sym (run.many ∙ ap (λ (s : Sizes). s.tasks) (sym of_plan))) run.known.tasks

  -- of all that was told as it is handed on
  pub run_shown : (shown : List TaskAnswers) → shown ≡ all → (es : List Entry) × AreTickets es shown × TasksBelow (length shown) es
  run_shown shown same =
      let P : List TaskAnswers → Type 0 = λ xs. (es : List Entry) × AreTickets es xs × TasksBelow (length xs) es in
      subst P (sym same) (history, run_tickets, run_below)

  pub run_order : (shown : List TaskAnswers) (order : List ℕ) → shown ≡ all → ((es : List Entry) → AreTickets es shown → TasksBelow (length shown) es → order ≡ order_of es) → order ≡ order_of history
  run_order shown order same each =
      let P : List TaskAnswers → Type 0 = λ xs. (es : List Entry) → AreTickets es xs → TasksBelow (length xs) es → order ≡ order_of es in
      subst P same each history run_tickets run_below

  pub run_said : (said : List (List Reply)) → said ≡ map (λ (x : TaskAnswers). x.replies) all → (t : ℕ) → t < plan.sizes.tasks → slice_index_or said t [] ≡ replies_of d t history
  run_said said are t low =
      let told = has_entry all t (let many = run.many in omega (arith, low, many)) in
      get_or_from_slice_get said t told.0.replies [] (ap (λ (rs : List (List Reply)). slice_get rs t) are ∙ (slice_get-map (λ (x : TaskAnswers). x.replies) all t ∙ ap (option_map (λ (x : TaskAnswers). x.replies)) told.1)) ∙ (run.told t told.0 told.1).replies

  -- the final state is that of the order's run
  pub run_last : (hooks : List Hook) (order : List ℕ) (last : Final) → d ≡ opening_desk plan hooks → order ≡ order_of history → last ≡ final_of (machine d history) (λ t. replies_of d t history) → last ≡ run_final plan hooks order
  run_last hooks order last is same was =
      let es : entries plan [] order ≡ history = ap (entries plan []) same ∙ run_ordered.stands in
      let D : Desk = opening_desk plan hooks in
      was ∙ (ap (λ x. final_of (machine x history) (λ t. replies_of x t history)) is ∙ ap (λ l. final_of (machine D l) (λ t. replies_of D t l)) (sym es))
