use Rattle.std.proofs.Common.{◌≡◌, ℕ, List, Option, ap}
use Rattle.lw_io.specs.Streams.{change}
use Rattle.lw_program_tests.proofs.tests_told.told.Goals as goal

-- a stream whose value is as it was has the bytes and the count that it had
change_none : {T : Type 0} (bytes : T → Option (List ℕ)) (faults : T → ℕ) (old new : T) → new ≡ old → (change bytes faults old new).new ≡ (change bytes faults old new).old
change_none bytes faults old new same = ap (λ s. (change bytes faults old s).new) same

pub returns : goal.returns
returns g c =
    c.answers_tell.ensures _ _ _ _ _ c.layers-status.ensures.answered c.layers-status.ensures.usage
    (λ none. change_none g.S.Source.left g.S.Source.faults _ _ (c.layers-status.ensures.unread none))
    (λ stopped. change_none g.K.Sink.written g.K.Sink.faults _ _ (c.layers-status.ensures.untouched stopped))
