use Rattle.std.proofs.Common.{◌-◌, length}
use Rattle.lw_locks.proofs.desk.Desk.+under_slots.Given as goal

abbrev pub decreases-under_slots : goal.decreases-under_slots
decreases-under_slots g l = g.N.Opening.desk.sizes.slots - length l.cells.now.items
