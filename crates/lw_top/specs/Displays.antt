-- What is due where the display in an input is shown.
use Rattle.std.specs.Prelude.{◌≡◌, ℕ, ◌<◌, ◌≤◌, List, length}
use Rattle.lw_display.specs.declared.reason.ShowReason.{ShowReason}
use Rattle.lw_display.specs.declared.reason.ShowReason.TheVariants.{Line, BadOrder}
use Rattle.lw_display.specs.Shows.{ShowInput}
use Rattle.lw_display.specs.ShowRule.{IsShow, IsBadShow}
use Rattle.lw_display.specs.ShowTexts.{show_text}
use Rattle.lw_top.specs.declared.status.Status.{Status}
use Rattle.lw_top.specs.declared.status.Status.TheVariants.{Done, Refused, RefusedOrder, TooLong}
use Rattle.lw_top.specs.Status.{text_of, input_limit}

-- the answer that refuses a line of a show for this reason
abbrev pub refusal_of : ℕ → ShowReason → Status
refusal_of line (Line reason) = Refused line reason
refusal_of line BadOrder = RefusedOrder line

-- The outcome on an input, which is the answer that is due and its text: more bytes than the limit are too long; else a show
-- gives the text of its display after all acts; and of any other input the first bad line is refused for its first reason.
abbrev pub IsDisplayOutcome : List ℕ → Status → List ℕ → Type 0
IsDisplayOutcome input TooLong text = (input_limit < length input) × (text ≡ text_of TooLong)
IsDisplayOutcome input Done text =
    (length input ≤ input_limit) × (show : ShowInput) × IsShow input show × (text ≡ show_text show)
IsDisplayOutcome input (Refused line reason) text =
    (length input ≤ input_limit) × IsBadShow input line (Line reason) × (text ≡ text_of (Refused line reason))
IsDisplayOutcome input (RefusedOrder line) text =
    (length input ≤ input_limit) × IsBadShow input line BadOrder × (text ≡ text_of (RefusedOrder line))
IsDisplayOutcome input status text = ⊥
