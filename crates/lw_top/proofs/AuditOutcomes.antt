-- What is said of a report that is audited is the outcome of `audit`.
use Rattle.std.proofs.Common.{◌≡◌, ℕ, ◌≤◌, List, length, sym, subst}
use Rattle.lw_calls.specs.Plan.{Plan}
use Rattle.lw_calls.specs.Orders.{IsBadPlace}
use Rattle.lw_grammar.specs.Script.{ScriptInput, SpellsInput}
use Rattle.lw_machine.specs.Hook.{Hook}
use Rattle.lw_report_order.specs.OrderSection.{HasOrder}
use Rattle.lw_top.specs.declared.status.Status.{Status}
use Rattle.lw_top.specs.declared.status.Status.TheVariants.{Done, Differs, BadOrder}
use Rattle.lw_top.specs.declared.words.ScriptCommand.TheVariants.{Audit}
use Rattle.lw_top.specs.Audit.{call_count}
use Rattle.lw_top.specs.AuditOutcome.{IsAudited}
use Rattle.lw_top.specs.Commands.{reads_with, behind_script}
use Rattle.lw_top.specs.Outcome.{IsOutcome}
use Rattle.lw_top.specs.Status.{text_of, input_limit}

pub bad_audited : (hooks : List Hook) (plan : Plan) (report order : List ℕ) (place : ℕ) (s : Status) (text : List ℕ) → HasOrder (call_count plan) report order → IsBadPlace plan order place → s ≡ BadOrder place → text ≡ text_of (BadOrder place) → IsAudited hooks plan report s text
bad_audited hooks plan report order place s text has bad is said = subst (λ q. IsAudited hooks plan report q text) (sym is) ((order, has, bad), said)

pub audited_outcome : (hooks : List Hook) (input : List ℕ) (script : ScriptInput) (s : Status) (text : List ℕ) → length input ≤ input_limit → SpellsInput (reads_with (length hooks) Audit) input script → IsAudited hooks script.plan (behind_script input script) s text → IsOutcome hooks Audit input s text
audited_outcome hooks input script Done text short spelled h = (short, script, spelled, h)
audited_outcome hooks input script (BadOrder place) text short spelled h = (short, script, spelled, h)
audited_outcome hooks input script (Differs place) text short spelled h = (short, script, spelled, h)
audited_outcome hooks input script s text short spelled h = absurd h
