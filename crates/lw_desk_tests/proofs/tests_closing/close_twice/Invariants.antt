use Rattle.std.proofs.Common.{[]}
use Rattle.lw_machine.specs.Desk.{empty_desk, shelf_of}
use Rattle.lw_desk_tests.specs.declared.calls.TheConstants.{SIZES}
use Rattle.lw_desk_tests.proofs.tests_closing.close_twice.Given as goal

abbrev pub ghosts-close_twice_on : goal.ghosts-close_twice_on
ghosts-close_twice_on g a = record { word = a.order.word; desk = empty_desk SIZES a.assets.now (shelf_of []) }
