-- The desk of these tests before its first call.
use Rattle.std.proofs.Common.{◌≡◌, List, [], ap, sym, ◌∙◌}
use Rattle.lw_calls.specs.Assets.{Assets}
use Rattle.lw_calls.specs.declared.sizes.Sizes.{Sizes}
use Rattle.lw_machine.specs.Desk.{Desk, empty_desk, shelf_of}
use Rattle.lw_machine.specs.Hook.{Hook}

-- the engine's opening desk of these sizes, without hooks, is this one
pub same_desk : (d : Desk) (given : Assets) (due sizes : Sizes) (assets : Assets) (hooks : List Hook) → d ≡ empty_desk due given (shelf_of []) → sizes ≡ due → assets ≡ given → hooks ≡ [] → empty_desk sizes assets (shelf_of hooks) ≡ d
same_desk d given due sizes assets hooks is e f none =
    ap (λ s. empty_desk s assets (shelf_of hooks)) e ∙ (ap (λ a. empty_desk due a (shelf_of hooks)) f ∙ (ap (λ hs. empty_desk due given (shelf_of hs)) none ∙ sym is))
