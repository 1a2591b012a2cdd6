use Rattle.std.proofs.Common.{◌≡◌, map, take}
use Rattle.lw_program_desk.specs.Tiles.{tiles_at}
use Rattle.lw_c_desk.specs.Handed.{hook_of}
use Rattle.lw_c_desk.proofs.handed.hooks_of.Given as goal

abbrev pub invariant-loop-words : goal.invariant-loop-words
invariant-loop-words l = map (λ h. tiles_at h.place h.pens.items) l.made.items ≡ map (λ w. hook_of l.tiles w) (take l.words-index l.list)
