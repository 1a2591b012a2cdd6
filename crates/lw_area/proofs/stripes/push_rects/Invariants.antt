use Rattle.std.proofs.Common.{◌≡◌, ◌++◌, take}
use Rattle.lw_region.specs.Bands.{band_rectangles}
use Rattle.lw_area.proofs.stripes.push_rects.Given as goal

abbrev pub invariant-loop-run : goal.invariant-loop-run
invariant-loop-run l = l.rects.items ≡ l.initial.rects.items ++ band_rectangles (record { top = l.top; bottom = l.bottom; runs = take l.run-index l.runs })
