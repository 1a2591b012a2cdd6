use Rattle.std.proofs.Common.{◌≡◌, ℕ, ◌<◌}
use Rattle.lw_screens.specs.Display.{screen_of}
use Rattle.lw_screens.specs.Composed.{bitmap_of}
use Rattle.lw_screens.proofs.screens.Screens.fits.Given as goal

abbrev pub invariant-loop-number : goal.invariant-loop-number
invariant-loop-number l = (k : ℕ) → k < l.number → (bitmap_of l.planes k).height ≡ (screen_of l.screens k).height
