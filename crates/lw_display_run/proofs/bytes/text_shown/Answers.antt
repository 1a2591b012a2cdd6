use Rattle.std.proofs.Common.{◌≡◌, Result, Err, ap}
use Rattle.lw_display.specs.declared.stop.ShowStop.{ShowStop}
use Rattle.lw_display.specs.declared.stop.ShowStop.TheVariants.{Refused}
use Rattle.lw_display.specs.ShowAnswers.{show_meaning}
use Rattle.lw_display.proofs.Showable.{showable}
use Rattle.lw_display_run.proofs.bytes.text_shown.Goals as goal

pub text_of_show-requires : goal.text_of_show-requires
text_of_show-requires c = showable c.args.bytes.now (show_meaning c.in-Ok.show) c.in-Ok.ensures.found

pub returns-in_ok-text_of_show-in-Ok-clause-shown : goal.returns-in_ok-text_of_show-in-Ok-clause-shown
returns-in_ok-text_of_show-in-Ok-clause-shown c = record {
  show = show_meaning c.in-Ok.show;
  is = c.in-Ok.ensures.found;
  said = c.in_ok-text_of_show-in-Ok.ensures;
}

same_stop : {A : Type 0} (a b : ShowStop) → ◌≡◌ {A = Result A ShowStop} (Err a) (Err b) → a ≡ b
same_stop a b e = cc

pub returns-in-Err-clause-refused : goal.returns-in-Err-clause-refused
returns-in-Err-clause-refused c =
    λ line reason e. record { bad = c.in-Err.ensures.refused line reason (ap Err (same_stop c.in-Err.stop (Refused line reason) e)) }
