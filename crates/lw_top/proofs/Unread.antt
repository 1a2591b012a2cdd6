-- What a command promises where its input was not read to its end.
use Rattle.std.proofs.Common.{◌≡◌, ℕ, ◌+◌, ◌<◌, ◌≤◌, List, length, inl, inr, refl, arith}
use Rattle.lw_io.specs.declared.reading.ReadStop.{ReadStop}
use Rattle.lw_io.specs.declared.reading.ReadStop.TheVariants.{Fault, TooLong as StopLong, Memory}
use Rattle.lw_io.specs.Streams.{StreamChange, HasFailed, TakesJust, TakesAtMost}
use Rattle.lw_top.specs.declared.status.Status.{Status}
use Rattle.lw_top.specs.declared.status.Status.TheVariants.{ReadFault, NoMemory, TooLong}
use Rattle.lw_top.specs.Outcome.{Outcomes, Answered}
use Rattle.lw_top.specs.Status.{Says, text_of, input_limit}

pub unread : (IsDueOn : Outcomes) → ((input : List ℕ) → input_limit < length input → IsDueOn input TooLong (text_of TooLong))
    → (stop : ReadStop) (r : Status) (source sink : StreamChange)
    → (stop ≡ StopLong → TakesJust (input_limit + 1) source.old.bytes source.new.bytes) → (stop ≡ Fault → HasFailed source)
    → (¬ (stop ≡ Fault) → source.new.faults ≡ source.old.faults)
    → (stop ≡ StopLong → Says (text_of TooLong) TooLong r sink) → (stop ≡ Fault → r ≡ ReadFault) → (stop ≡ Memory → r ≡ NoMemory)
    → TakesAtMost (input_limit + 1) source.old.bytes source.new.bytes → source.old.faults ≤ source.new.faults → sink.old.faults ≤ sink.new.faults
    → Answered IsDueOn r source sink
unread IsDueOn due StopLong r source sink long fault no_fault says faulted full taken source_count sink_count =
    let just = long refl in
    let more : input_limit < length just.0 = (let many = just.1 in omega (arith, many)) in
    record {
      outcome = inl (record { input = just.0; due = TooLong; text = text_of TooLong; taken = record { front = just.2; ended = inr just.1 }; outcome = due just.0 more; said = says refl });
      no_read_fault = λ other. no_fault (λ e. cc);
      taken = taken;
      source_count = source_count;
      sink_count = sink_count;
    }
unread IsDueOn due Fault r source sink long fault no_fault says faulted full taken source_count sink_count =
    record {
      outcome = inr (inl (faulted refl, fault refl));
      no_read_fault = λ other. absurd (other (faulted refl));
      taken = taken;
      source_count = source_count;
      sink_count = sink_count;
    }
unread IsDueOn due Memory r source sink long fault no_fault says faulted full taken source_count sink_count =
    record {
      outcome = inr (inr (full refl));
      no_read_fault = λ other. no_fault (λ e. cc);
      taken = taken;
      source_count = source_count;
      sink_count = sink_count;
    }
