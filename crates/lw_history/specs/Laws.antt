-- What a history tells of the damage of simple layers.
use Rattle.std.specs.Prelude.{◌≡◌, ℕ, ◌==◌, Bool, false, if◌then◌else◌, List, [], ◌∷◌, ◌++◌, Option, All, IsTrue, ℤ}
use Rattle.lw_region.specs.Rectangle.{Rectangle}
use Rattle.lw_planes.specs.Grid.{at}
use Rattle.lw_calls.specs.declared.sizes.Sizes.{Sizes}
use Rattle.lw_calls.specs.declared.make.Kind.TheVariants.{Simple}
use Rattle.lw_calls.specs.declared.call.Call.TheVariants.{ScrollRaster}
use Rattle.lw_calls.specs.declared.entry.Entry.{Entry}
use Rattle.lw_calls.specs.Assets.{Assets}
use Rattle.lw_calls.specs.Limits.{IsWithinLimits, call_fits}
use Rattle.lw_calls.specs.Plan.{Plan, IsPlan}
use Rattle.lw_machine.specs.Hook.{Hook}
use Rattle.lw_machine.specs.Layer.{Layer, Live}
use Rattle.lw_machine.specs.Desk.{Desk, empty_desk}
use Rattle.lw_machine.specs.Kept.{is_visible}
use Rattle.lw_machine.specs.History.{machine}
use Rattle.lw_machine.specs.Hurt.{hurt_by_call, hurt_after_step, is_hurt}
use Rattle.lw_machine.specs.Finals.{run_final}
use Rattle.lw_machine.specs.Report.{report, run_report}
use Rattle.lw_history.specs.ByHistory.{final_by_history}
use Rattle.lw_history.specs.Scrolls.{hurt_by_scroll}

-- Damage is its history: in every desk that a history of calls that fit reaches, exactly those pixels of a simple layer are
-- damaged that are hurt by the history.
abbrev pub DamageIsItsHistory : Type 0
DamageIsItsHistory =
    (sizes : Sizes) (assets : Assets) (shelf : ℕ → Option Hook) (es : List Entry) (s : ℕ) (l : Layer) (x y : ℕ)
    → IsWithinLimits sizes → All (λ e. IsTrue (call_fits sizes e.call)) es
    → (machine (empty_desk sizes assets shelf) es).slot s ≡ Live l → l.kind ≡ Simple
    → at false l.damage x y ≡ is_hurt (empty_desk sizes assets shelf) es s x y

-- What is hurt after a history goes by its last entry, on the desk before that one and from what was hurt before it.
abbrev pub TheLastEntryTells : Type 0
TheLastEntryTells =
    (d : Desk) (es : List Entry) (e : Entry)
    → is_hurt d (es ++ e ∷ []) ≡ hurt_after_step (machine d es) e.task e.call (is_hurt d es)

-- What a ScrollRaster that was done, between the desks d and e, leaves hurt of the layer l in slot s.
abbrev pub ScrollsHurtWhatTheyBring : Type 0
ScrollsHurtWhatTheyBring =
    (d e : Desk) (s slot : ℕ) (l : Layer) (dx dy : ℤ) (rect : Rectangle) (hurt : ℕ → ℕ → Bool) (x y : ℕ)
    → hurt_by_call d e s l (ScrollRaster slot dx dy rect) hurt x y
    ≡ (if slot == s then hurt_by_scroll (is_visible d s l) dx dy rect l hurt x y else hurt x y)

-- The final state of a run of a plan, and its report, are those with the damage that the history of the order tells.
pub record TellsDamageByHistory (plan : Plan) (hooks : List Hook) (order : List ℕ) : Type 0 where
  pub last : run_final plan hooks order ≡ final_by_history plan hooks order
  pub text : run_report plan hooks order ≡ report plan order (final_by_history plan hooks order)

abbrev pub RunsTellDamageByHistory : Type 0
RunsTellDamageByHistory = (plan : Plan) (hooks : List Hook) (order : List ℕ) → IsPlan plan → TellsDamageByHistory plan hooks order
