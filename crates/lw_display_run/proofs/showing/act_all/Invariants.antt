use Rattle.std.proofs.Common.{◌≡◌, length, drop}
use Rattle.lw_screens.specs.Display.{after_all}
use Rattle.lw_display_run.proofs.showing.act_all.Given as goal

abbrev pub invariant-loop-act : goal.invariant-loop-act
invariant-loop-act l = record {
  left : after_all (drop l.act-index l.acts) l.screens ≡ after_all l.acts l.initial.screens;
  many : length l.screens.screens ≡ length l.initial.screens.screens;
}
