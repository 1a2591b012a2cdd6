-- For private contracts.
-- What is said of a report that is audited.
use Rattle.std.specs.Prelude.{◌≡◌, ℕ, List, codes}
use Rattle.lw_calls.specs.Plan.{Plan}
use Rattle.lw_calls.specs.Written.{line_of}
use Rattle.lw_machine.specs.Hook.{Hook}
use Rattle.lw_report_order.specs.Differing.{DiffersAt}
use Rattle.lw_top.specs.declared.status.Status.{Status}
use Rattle.lw_top.specs.declared.status.Status.TheVariants.{Done, Differs, BadOrder}
use Rattle.lw_top.specs.Audit.{IsMachineReport, IsBadReportOrder, IsDifference}
use Rattle.lw_top.specs.Status.{text_of}

-- of a report of a plan with these hooks
abbrev pub IsAudited : List Hook → Plan → List ℕ → Status → List ℕ → Type 0
IsAudited hooks plan report Done text = IsMachineReport hooks plan report × (text ≡ line_of (codes "same"))
IsAudited hooks plan report (BadOrder place) text = IsBadReportOrder plan report place × (text ≡ text_of (BadOrder place))
IsAudited hooks plan report (Differs place) text = IsDifference hooks plan report place × (text ≡ text_of (Differs place))
IsAudited hooks plan report status text = ⊥

-- of a report where another one is due
abbrev pub IsCompared : List ℕ → List ℕ → Status → List ℕ → Type 0
IsCompared report due Done text = (report ≡ due) × (text ≡ line_of (codes "same"))
IsCompared report due (Differs place) text = DiffersAt report due place × (text ≡ text_of (Differs place))
IsCompared report due status text = ⊥
