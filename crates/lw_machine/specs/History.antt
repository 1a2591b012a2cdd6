-- Histories: the steps of a run one after another, and the machine after them.
use Rattle.std.specs.Prelude.{ℕ, ◌==◌, if◌then◌else◌, List, [], ◌∷◌}
use Rattle.lw_calls.specs.declared.reply.Reply.{Reply}
use Rattle.lw_calls.specs.declared.entry.Entry.{Entry}
use Rattle.lw_machine.specs.Desk.{Desk}
use Rattle.lw_machine.specs.Step.{after, reply}

-- the desk after the steps of a history, from the desk d on
abbrev pub machine : Desk → List Entry → Desk
machine d [] = d
machine d (e ∷ es) = machine (after d e.task e.call) es

-- the task's replies in the steps of a history, from the desk d on
abbrev pub replies_of : Desk → ℕ → List Entry → List Reply
replies_of d task [] = []
replies_of d task (e ∷ es) =
    if e.task == task then reply d e.task e.call ∷ replies_of (after d e.task e.call) task es
    else replies_of (after d e.task e.call) task es
