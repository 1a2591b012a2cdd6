use Rattle.std.proofs.Common.{[]}
use Rattle.lw_machine.specs.Desk.{empty_desk, shelf_of}
use Rattle.lw_desk_tests.specs.declared.calls.TheConstants.{SIZES}
use Rattle.lw_desk_tests.proofs.tests_overlap.run_meeting.Given as goal

abbrev pub ghosts-run_meeting_on : goal.ghosts-run_meeting_on
ghosts-run_meeting_on g a = record { word = a.order.word; desk = empty_desk SIZES a.assets.now (shelf_of []) }
