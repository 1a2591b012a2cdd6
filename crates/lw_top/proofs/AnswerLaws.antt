-- What a command's promise tells of its answer.
use Rattle.std.proofs.Common.{◌≡◌, ◌⊎◌, ℕ, ◌+◌, ◌<◌, ◌≤◌, List, [], codes, Option, Some, None, IfSome, false, length, refl, sym, ap, ◌∙◌, inl, inr, arith}
use Rattle.lw_io.specs.Streams.{Stream, StreamChange, TakesJust, TakesAtMost, bytes_before, bytes_after, Wrote, HasFailed}
use Rattle.lw_grammar.specs.declared.reason.Reason.{Reason}
use Rattle.lw_calls.specs.Plan.{IsPlan}
use Rattle.lw_calls.specs.Written.{line_of}
use Rattle.lw_calls.proofs.OrdersComplete.{begins}
use Rattle.lw_machine.specs.Hook.{Hook}
use Rattle.lw_machine.specs.Report.{run_report}
use Rattle.lw_canonical.specs.Canonical.{canonical_text}
use Rattle.lw_grammar.specs.Script.{ScriptInput, SpellsInput}
use Rattle.lw_grammar.proofs.ScriptRunnable.{spelled_runnable}
use Rattle.lw_top.specs.declared.status.Status.{Status}
use Rattle.lw_top.specs.declared.status.Status.TheVariants.{Done, Refused, RefusedOrder, Usage, ReadFault, WriteFault, NoMemory, TooLong, Differs, BadOrder, BadPicture}
use Rattle.lw_top.specs.declared.words.ScriptCommand.{ScriptCommand}
use Rattle.lw_top.specs.declared.words.ScriptCommand.TheVariants.{Run, Check, Replay, Audit}
use Rattle.lw_top.specs.Bitmaps.{IsBitmapOutcome}
use Rattle.lw_top.specs.Commands.{Asked, OfScript, OfDemo, OfDisplay, OfBitmap, output_of, reads_input, reads_with, IsTextFor}
use Rattle.lw_top.specs.Laws.{IsTextOf, IsBadOrderOf, IsDifferenceOf, IsDue, IsUnlessStopped, is_stop, IsInput, IsAnswer, OutcomeTells, AnswerTells, DemoTells, ToldOfWords}
use Rattle.lw_top.specs.Demo.{demo_text}
use Rattle.lw_top.specs.Displays.{IsDisplayOutcome}
use Rattle.lw_top.specs.Outcome.{IsBadLineOf, IsOutcome, IsTaken, Answered, DemoSaid, Promised}
use Rattle.lw_top.specs.Status.{Says, text_of, input_limit}
use Rattle.lw_top.proofs.BitmapOutcomes.{bitmap_outcomes}
use Rattle.lw_top.proofs.DisplayOutcomes.{display_outcomes}
use Rattle.lw_top.proofs.Outcomes.{one_outcome}
use Rattle.lw_top.proofs.OutcomeLaws.{AreOutcomes, outcome_tells, told_more, bytes_after_none, said_no_fault, no_write_fault}

-- an outcome is none that a fault or running out of memory gives, and no usage line
no_stop : (hooks : List Hook) (command : ScriptCommand) (input : List ℕ) (s : Status) (text : List ℕ) → IsOutcome hooks command input s text → is_stop s ≡ false
no_stop hooks command input Done text h = refl
no_stop hooks command input (Refused line reason) text h = refl
no_stop hooks command input TooLong text h = refl
no_stop hooks command input (BadOrder place) text h = refl
no_stop hooks command input (Differs place) text h = refl
no_stop hooks command input Usage text h = refl
no_stop hooks command input s text h = absurd h.3

-- an input that is too long stays so
longer : (hooks : List Hook) (command : ScriptCommand) (input left : List ℕ) (s : Status) (text : List ℕ) → input_limit < length input → length input ≤ length left → IsOutcome hooks command input s text → IsOutcome hooks command left s text
longer hooks command input left TooLong text long more h = (omega (arith, long, more), h.1)
longer hooks command input left s text long more h = let short = h.0 in absurd (omega (arith, long, short))

-- what a command tells where its text or its order's bad place is due
due_text : (hooks : List Hook) (command : ScriptCommand) (input : List ℕ) (script : ScriptInput) → IsPlan script.plan → IsDue hooks command input script → (text : List ℕ) × IsTextFor hooks command input script text
due_text hooks Run input script ok due = let legal = begins script.plan ok [] refl in (run_report script.plan hooks legal.0, (legal.0, legal.1, refl))
due_text hooks Check input script ok due = (canonical_text script.plan, refl)
due_text hooks (Replay output) input script ok due = (output_of output script.plan hooks script.order, (due, refl))
due_text hooks Audit input script ok due = (line_of (codes "same"), (due, refl))

-- the text of an answer that has one of its own
own_text : (hooks : List Hook) (command : ScriptCommand) (input : List ℕ) (s : Status) (text : List ℕ) → IsOutcome hooks command input s text → (s ≡ Done) ⊎ (text ≡ text_of s)
own_text hooks command input Done text h = inl refl
own_text hooks command input (Refused line reason) text h = inr h.2
own_text hooks command input TooLong text h = inr h.1
own_text hooks command input (BadOrder place) text h = inr h.3.1
own_text hooks command input (Differs place) text h = inr h.3.1
own_text hooks command input s text h = absurd h.3

-- what was taken is the whole input where it is no longer than the limit
whole_input : (input : List ℕ) (source : StreamChange) → IsTaken input source → length input ≤ input_limit → IsInput input source
whole_input input source taken short = elim taken.ended [ inl e ↦ record { taken = taken.front; end = e.1; within = short } | inr e ↦ absurd (omega (arith, e, short)) ]

pub script_outcomes : (hooks : List Hook) (command : ScriptCommand) → AreOutcomes (IsOutcome hooks command)
script_outcomes hooks command = record {
  one = λ input s q a b x y. (one_outcome hooks command input s q a b x y).0;
  no_stop = no_stop hooks command;
  own = own_text hooks command;
  longer = longer hooks command;
}

-- All that each answer to a command on a script tells follows.
told : (hooks : List Hook) (command : ScriptCommand) (r : Status) (source sink : StreamChange) → Answered (IsOutcome hooks command) r source sink → ((r ≡ ReadFault) ⊎ (r ≡ NoMemory) → sink.new ≡ sink.old) → AnswerTells hooks command r source sink
told hooks command r source sink h untouched =
    let tells = outcome_tells (IsOutcome hooks command) (script_outcomes hooks command) r source sink h untouched in
    record {
      done = λ e. let k = tells.came Done refl e in (k.0, whole_input k.0 source k.1 k.2.outcome.0, k.2.text, (k.2.outcome.1, k.2.outcome.2, k.2.outcome.3), k.2.written);
      done_of_left = λ e. left tells Done refl e (λ input. (text : List ℕ) × IsTextOf hooks command input text × Wrote text sink) (λ input k. (k.text, (k.outcome.1, k.outcome.2, k.outcome.3), k.written));
      never_usage = λ e. (tells.came Usage refl e).2.outcome.3;
      never_bad_picture = λ place e. (tells.came (BadPicture place) refl e).2.outcome.3;
      never_refused_order = λ line e. (tells.came (RefusedOrder line) refl e).2.outcome.3;
      read_fault = tells.read_fault;
      too_long = λ e. let k = tells.came TooLong refl e in long k.0 k.1 k.2.outcome.0;
      too_long_of_left = λ e. left tells TooLong refl e (λ input. input_limit < length input) (λ input k. k.outcome.0);
      refused = λ line reason e. let k = tells.came (Refused line reason) refl e in (k.0, whole_input k.0 source k.1 k.2.outcome.0, k.2.outcome.1);
      refused_of_left = λ line reason e. left tells (Refused line reason) refl e (λ input. (length input ≤ input_limit) × IsBadLineOf hooks command input line reason) (λ input k. (k.outcome.0, k.outcome.1));
      bad_order = λ place e. let k = tells.came (BadOrder place) refl e in (k.0, whole_input k.0 source k.1 k.2.outcome.0, (k.2.outcome.1, k.2.outcome.2, k.2.outcome.3.0));
      bad_order_of_left = λ place e. left tells (BadOrder place) refl e (λ input. (length input ≤ input_limit) × IsBadOrderOf hooks command input place) (λ input k. (k.outcome.0, (k.outcome.1, k.outcome.2, k.outcome.3.0)));
      differs = λ place e. let k = tells.came (Differs place) refl e in (k.0, whole_input k.0 source k.1 k.2.outcome.0, (k.2.outcome.1, k.2.outcome.2, k.2.outcome.3.0));
      differs_of_left = λ place e. left tells (Differs place) refl e (λ input. (length input ≤ input_limit) × IsDifferenceOf hooks command input place) (λ input k. (k.outcome.0, (k.outcome.1, k.outcome.2, k.outcome.3.0)));
      write_fault = tells.write_fault;
      only_too_long = only tells (λ input. input_limit < length input → IsUnlessStopped TooLong r) (λ input k above. k TooLong (text_of TooLong) (above, refl));
      only_refused = only tells (λ input. length input ≤ input_limit → (line : ℕ) (reason : Reason) → IsBadLineOf hooks command input line reason → IsUnlessStopped (Refused line reason) r) (λ input k short line reason bad. k (Refused line reason) (text_of (Refused line reason)) (short, bad, refl));
      only_bad_order = only tells (λ input. length input ≤ input_limit → (place : ℕ) → IsBadOrderOf hooks command input place → IsUnlessStopped (BadOrder place) r) (λ input k short place bad. k (BadOrder place) (text_of (BadOrder place)) (short, bad.0, bad.1, (bad.2, refl)));
      only_differs = only tells (λ input. length input ≤ input_limit → (place : ℕ) → IsDifferenceOf hooks command input place → IsUnlessStopped (Differs place) r) (λ input k short place d. k (Differs place) (text_of (Differs place)) (short, d.0, d.1, (d.2, refl)));
      only_done = only tells (λ input. length input ≤ input_limit → (script : ScriptInput) → SpellsInput (reads_with (length hooks) command) input script → IsDue hooks command input script → IsUnlessStopped Done r) (λ input k short script spelled due. let text = due_text hooks command input script (spelled_runnable (reads_with (length hooks) command) input script spelled).plan due in k Done text.0 (short, script, spelled, text.1));
      complete = tells.complete;
      text = tells.text;
    }
  where
    left : OutcomeTells (IsOutcome hooks command) r source sink → (q : Status) → is_stop q ≡ false → r ≡ q → (Q : List ℕ → Type 0) → ((input : List ℕ) → IsAnswer (IsOutcome hooks command) input q r sink → Q input) → IfSome source.old.bytes Q
    left tells q goes e Q k = told_more source.old.bytes (λ input. IsAnswer (IsOutcome hooks command) input q r sink) Q k (tells.came_of_left q goes e)

    only : OutcomeTells (IsOutcome hooks command) r source sink → (Q : List ℕ → Type 0) → ((input : List ℕ) → ((due : Status) (text : List ℕ) → IsOutcome hooks command input due text → IsUnlessStopped due r) → Q input) → IfSome source.old.bytes Q
    only tells Q k = told_more source.old.bytes (λ input. (due : Status) (text : List ℕ) → IsOutcome hooks command input due text → IsUnlessStopped due r) Q k tells.only

    long : (input : List ℕ) → IsTaken input source → input_limit < length input → TakesJust (input_limit + 1) source.old.bytes source.new.bytes
    long input taken above = elim taken.ended [ inl e ↦ absurd (omega (arith, e.0, above)) | inr e ↦ (input, e, taken.front) ]

-- What is promised of words is what they tell, be they a command or none.
none_taken : (source : StreamChange) → source.new ≡ source.old → TakesAtMost (input_limit + 1) source.old.bytes source.new.bytes
none_taken source same = ([], omega arith, sym (bytes_before_none source.new.bytes ∙ ap (λ (s : Stream). s.bytes) same))
  where
    bytes_before_none : (told : Option (List ℕ)) → bytes_before [] told ≡ told
    bytes_before_none None = refl
    bytes_before_none (Some bytes) = refl

-- what each answer to a demo tells
demo_tells : (number tasks : ℕ) (r : Status) (sink : StreamChange) → DemoSaid number tasks r sink → DemoTells number tasks r sink
demo_tells number tasks r sink (inl (inl e)) = record { done = λ is. e.1; only = inl e.0; complete = λ whole. inl e.0 }
demo_tells number tasks r sink (inl (inr e)) = record {
  done = λ is. let same : WriteFault ≡ Done = sym e.0 ∙ is in absurd (cc);
  only = inr (inl e.0);
  complete = λ whole. absurd (whole e.2);
}
demo_tells number tasks r sink (inr e) = record {
  done = λ is. let same : NoMemory ≡ Done = sym e ∙ is in absurd (cc);
  only = inr (inr e);
  complete = λ whole. inr e;
}

demo_never_usage : (number tasks : ℕ) (r : Status) (sink : StreamChange) → DemoSaid number tasks r sink → r ≡ Usage → ⊥
demo_never_usage number tasks r sink (inl (inl e)) is = let same : Done ≡ Usage = sym e.0 ∙ is in cc
demo_never_usage number tasks r sink (inl (inr e)) is = let same : WriteFault ≡ Usage = sym e.0 ∙ is in cc
demo_never_usage number tasks r sink (inr e) is = let same : NoMemory ≡ Usage = sym e ∙ is in cc

demo_write_fault : (number tasks : ℕ) (r : Status) (sink : StreamChange) → DemoSaid number tasks r sink → r ≡ WriteFault → HasFailed sink
demo_write_fault number tasks r sink (inl (inl e)) is = let same : Done ≡ WriteFault = sym e.0 ∙ is in absurd (cc)
demo_write_fault number tasks r sink (inl (inr e)) is = e.2
demo_write_fault number tasks r sink (inr e) is = let same : NoMemory ≡ WriteFault = sym e ∙ is in absurd (cc)

-- nothing was written with NoMemory, which is its text
nothing_written : (r : Status) (sink : StreamChange) → r ≡ NoMemory → sink.new ≡ sink.old → Wrote (text_of r) sink
nothing_written r sink e same = ap (λ (s : Stream). s.bytes) same ∙ sym (ap (bytes_after sink.old.bytes) (ap text_of e) ∙ bytes_after_none sink.old.bytes)

pub told_of_words : (hooks : List Hook) (asked : Option Asked) (r : Status) (source sink : StreamChange) → IfSome asked (λ it. Promised hooks it r source sink) → (asked ≡ None → Says (text_of Usage) Usage r sink) → (reads_input asked ≡ false → source.new ≡ source.old) → ((r ≡ ReadFault) ⊎ (r ≡ NoMemory) → sink.new ≡ sink.old) → ToldOfWords hooks asked r source sink
told_of_words hooks (Some (OfScript command)) r source sink h usage unread untouched =
    let tells = told hooks command r source sink h untouched in
    record {
      told = tells;
      usage = λ e. absurd (tells.never_usage e);
      only_usage = λ e. absurd (cc);
      write_fault = tells.write_fault;
      no_read_fault = h.no_read_fault;
      no_write_fault = no_write_fault (IsOutcome hooks command) r source sink h untouched;
      text = tells.text;
      taken = h.taken;
      source_count = h.source_count;
    }
told_of_words hooks (Some (OfDemo number tasks)) r source sink h usage unread untouched =
    record {
      told = demo_tells number tasks r sink h;
      usage = λ e. absurd (demo_never_usage number tasks r sink h e);
      only_usage = λ e. absurd (cc);
      write_fault = demo_write_fault number tasks r sink h;
      no_read_fault = λ other. ap (λ (s : Stream). s.faults) (unread refl);
      no_write_fault = λ not_fault. elim h [ inl e ↦ said_no_fault (demo_text number tasks) Done r sink e not_fault | inr e ↦ ap (λ (s : Stream). s.faults) (untouched (inr e)) ];
      text = λ not_done not_fault. elim h [ inl e ↦ absurd (elim e [ inl d ↦ not_done d.0 | inr d ↦ not_fault d.0 ]) | inr e ↦ nothing_written r sink e (untouched (inr e)) ];
      taken = none_taken source (unread refl);
      source_count = let same = ap (λ (s : Stream). s.faults) (unread refl) in omega (arith, same);
    }
told_of_words hooks (Some OfDisplay) r source sink h usage unread untouched =
    let tells = outcome_tells IsDisplayOutcome display_outcomes r source sink h untouched in
    record {
      told = tells;
      usage = λ e. absurd ((tells.came Usage refl e).2.outcome);
      only_usage = λ e. absurd (cc);
      write_fault = tells.write_fault;
      no_read_fault = h.no_read_fault;
      no_write_fault = no_write_fault IsDisplayOutcome r source sink h untouched;
      text = tells.text;
      taken = h.taken;
      source_count = h.source_count;
    }
told_of_words hooks (Some (OfBitmap name)) r source sink h usage unread untouched =
    let tells = outcome_tells (IsBitmapOutcome name) (bitmap_outcomes name) r source sink h untouched in
    record {
      told = tells;
      usage = λ e. absurd ((tells.came Usage refl e).2.outcome);
      only_usage = λ e. absurd (cc);
      write_fault = tells.write_fault;
      no_read_fault = h.no_read_fault;
      no_write_fault = no_write_fault (IsBitmapOutcome name) r source sink h untouched;
      text = tells.text;
      taken = h.taken;
      source_count = h.source_count;
    }
told_of_words hooks None r source sink h usage unread untouched =
    record {
      told = tt;
      usage = λ e. refl;
      only_usage = λ e. elim (usage refl) [ inl d ↦ inl d.0 | inr d ↦ inr d.0 ];
      write_fault = λ e. elim (usage refl) [ inl d ↦ (let same : Usage ≡ WriteFault = sym d.0 ∙ e in absurd (cc)) | inr d ↦ d.2 ];
      no_read_fault = λ other. ap (λ (s : Stream). s.faults) (unread refl);
      no_write_fault = said_no_fault (text_of Usage) Usage r sink (usage refl);
      text = λ not_done not_fault. elim (usage refl) [ inl d ↦ d.1 ∙ ap (λ q. bytes_after sink.old.bytes (text_of q)) (sym d.0) | inr d ↦ absurd (not_fault d.0) ];
      taken = none_taken source (unread refl);
      source_count = let same = ap (λ (s : Stream). s.faults) (unread refl) in omega (arith, same);
    }
