-- What an answer tells that is the outcome on an input, whatever the outcomes are.
use Rattle.std.proofs.Common.{◌≡◌, ◌≢◌, ◌⊎◌, ℕ, ◌+◌, ◌<◌, ◌≤◌, List, [], ◌++◌, Option, Some, None, IfSome, true, false, IsTrue, length, refl, sym, ap, subst, ◌∙◌, inl, inr, append-nil, length-append, arith}
use Rattle.std.proofs.lemmas.Bool.{true≢false}
use Rattle.lw_io.specs.Streams.{Stream, StreamChange, NoneLeft, bytes_before, bytes_after, Wrote, HasFailed}
use Rattle.lw_top.specs.declared.status.Status.{Status}
use Rattle.lw_top.specs.declared.status.Status.TheVariants.{Done, ReadFault, WriteFault, NoMemory}
use Rattle.lw_top.specs.Laws.{IsUnlessStopped, is_stop, IsAnswer, OutcomeTells}
use Rattle.lw_top.specs.Outcome.{Outcomes, IsTaken, Served, Answered}
use Rattle.lw_top.specs.Status.{Says, text_of, input_limit}

-- What the laws rest on: an input has one answer, which is none that a fault or running out of memory gives; its text is its own,
-- unless it is done; and an input that is too long stays so with more bytes.
pub record AreOutcomes (IsDueOn : Outcomes) : Type 0 where
  pub one : (input : List ℕ) (s q : Status) (a b : List ℕ) → IsDueOn input s a → IsDueOn input q b → s ≡ q
  pub no_stop : (input : List ℕ) (s : Status) (text : List ℕ) → IsDueOn input s text → is_stop s ≡ false
  pub own : (input : List ℕ) (s : Status) (text : List ℕ) → IsDueOn input s text → (s ≡ Done) ⊎ (text ≡ text_of s)
  pub longer : (input left : List ℕ) (s : Status) (text : List ℕ) → input_limit < length input → length input ≤ length left
      → IsDueOn input s text → IsDueOn left s text

-- what was said of such an answer is no fault of the source and not running out of memory
pub said_not_stopped : (due r : Status) (text : List ℕ) (sink : StreamChange) → is_stop due ≡ false → Says text due r sink
    → (r ≡ ReadFault) ⊎ (r ≡ NoMemory) → ⊥
said_not_stopped due r text sink goes (inl e) (inl d) = true≢false (sym (ap is_stop (sym e.0 ∙ d)) ∙ goes)
said_not_stopped due r text sink goes (inl e) (inr d) = true≢false (sym (ap is_stop (sym e.0 ∙ d)) ∙ goes)
said_not_stopped due r text sink goes (inr e) (inl d) = let same : WriteFault ≡ ReadFault = sym e.0 ∙ d in cc
said_not_stopped due r text sink goes (inr e) (inr d) = let same : WriteFault ≡ NoMemory = sym e.0 ∙ d in cc

-- what holds of each input that may be left is told of what is left, where that is told
of_told : (told : Option (List ℕ)) (P : List ℕ → Type 0) → ((input : List ℕ) → told ≡ Some input → P input) → IfSome told P
of_told None P f = tt
of_told (Some input) P f = f input refl

pub told_more : (told : Option (List ℕ)) (P Q : List ℕ → Type 0) → ((input : List ℕ) → P input → Q input) → IfSome told P → IfSome told Q
told_more None P Q f h = tt
told_more (Some input) P Q f h = f input h

-- The outcome on what was taken is the outcome on all that was left.
of_front : (IsDueOn : Outcomes) → AreOutcomes IsDueOn → (input left : List ℕ) (rest : Option (List ℕ)) (due : Status) (text : List ℕ)
    → Some left ≡ bytes_before input rest → ((length input ≤ input_limit) × NoneLeft rest) ⊎ (length input ≡ input_limit + 1)
    → IsDueOn input due text → IsDueOn left due text
of_front IsDueOn laws input left None due text front ended h = let e : Some left ≡ None = front in absurd (cc)
of_front IsDueOn laws input left (Some rest) due text front ended h =
    elim ended [ inl e ↦ subst (λ l. IsDueOn l due text) (whole e.1) h | inr e ↦ laws.longer input left due text (omega (arith, e)) more h ]
  where
    all : left ≡ input ++ rest
    all = let e : Some left ≡ Some (input ++ rest) = front in cc

    whole : rest ≡ [] → input ≡ left
    whole e = sym (all ∙ ap (λ r. input ++ r) e ∙ append-nil input)

    more : length input ≤ length left
    more = let long = ap length all ∙ length-append input rest in omega (arith, long)

of_left : (IsDueOn : Outcomes) → AreOutcomes IsDueOn → (input left : List ℕ) (source : StreamChange) (due : Status) (text : List ℕ)
    → source.old.bytes ≡ Some left → IsTaken input source → IsDueOn input due text → IsDueOn left due text
of_left IsDueOn laws input left source due text is taken h =
    of_front IsDueOn laws input left source.new.bytes due text (sym is ∙ taken.front) taken.ended h

-- the answer that was due is the outcome, or the sink failed
said_only : (IsDueOn : Outcomes) → AreOutcomes IsDueOn → (input : List ℕ) (due wanted r : Status) (text other : List ℕ) (sink : StreamChange)
    → IsDueOn input due text → Says text due r sink → IsDueOn input wanted other
    → IsAnswer IsDueOn input wanted r sink ⊎ ((r ≡ WriteFault) × HasFailed sink)
said_only IsDueOn laws input due wanted r text other sink h (inl e) w =
    let same : due ≡ wanted = laws.one input due wanted text other h w in
    inl (record { text = text; outcome = subst (λ q. IsDueOn input q text) same h; same = e.0 ∙ same; written = e.1 })
said_only IsDueOn laws input due wanted r text other sink h (inr e) w = inr (e.0, e.2)

-- nothing more was written
pub bytes_after_none : (told : Option (List ℕ)) → bytes_after told [] ≡ told
bytes_after_none None = refl
bytes_after_none (Some bytes) = ap Some (append-nil bytes)

-- the outcome on an input is the answer, unless a stream failed or memory ran out
abbrev Comes : Outcomes → Status → StreamChange → StreamChange → List ℕ → Type 0
Comes IsDueOn r source sink input =
    (due : Status) (text : List ℕ) → IsDueOn input due text
    → IsAnswer IsDueOn input due r sink ⊎ ((r ≡ WriteFault) × HasFailed sink) ⊎ ((r ≡ ReadFault) × HasFailed source) ⊎ (r ≡ NoMemory)

-- an answer that is no stop is the outcome on what was taken, and its text was written whole
came : (IsDueOn : Outcomes) (q r : Status) (source sink : StreamChange) → Answered IsDueOn r source sink → is_stop q ≡ false → r ≡ q
    → (input : List ℕ) × IsTaken input source × IsAnswer IsDueOn input q r sink
came IsDueOn q r source sink h goes is =
    elim h.outcome [ inl e ↦ served e e.said | inr e ↦ absurd (elim e [ inl d ↦ stopped ReadFault refl d.0 | inr d ↦ stopped NoMemory refl d ]) ]
  where
    stopped : (p : Status) → is_stop p ≡ true → r ≡ p → ⊥
    stopped p stops e = true≢false (sym stops ∙ ap is_stop (sym e ∙ is) ∙ goes)

    served : (e : Served IsDueOn r source sink) → Says e.text e.due r sink → (input : List ℕ) × IsTaken input source × IsAnswer IsDueOn input q r sink
    served e (inl d) =
        let outcome = subst (λ p. IsDueOn e.input p e.text) (sym d.0 ∙ is) e.outcome in
        (e.input, e.taken, record { text = e.text; outcome = outcome; same = is; written = d.1 })
    served e (inr d) = absurd (stopped WriteFault refl d.0)

-- the same of all that was left
came_of_left : (IsDueOn : Outcomes) → AreOutcomes IsDueOn → (q r : Status) (source sink : StreamChange) (left : List ℕ)
    → source.old.bytes ≡ Some left → Answered IsDueOn r source sink → is_stop q ≡ false → r ≡ q → IsAnswer IsDueOn left q r sink
came_of_left IsDueOn laws q r source sink left told h goes is =
    let k = came IsDueOn q r source sink h goes is in
    let outcome = of_left IsDueOn laws k.0 left source q k.2.text told k.1 k.2.outcome in
    record { text = k.2.text; outcome = outcome; same = is; written = k.2.written }

-- the outcome on all that was left comes, unless a stream failed or memory ran out
comes : (IsDueOn : Outcomes) → AreOutcomes IsDueOn → (r : Status) (source sink : StreamChange) (left : List ℕ)
    → source.old.bytes ≡ Some left → Answered IsDueOn r source sink → Comes IsDueOn r source sink left
comes IsDueOn laws r source sink left told h = λ due text w. elim h.outcome [ inl e ↦ served e due text w | inr e ↦ inr (inr e) ]
  where
    served : Served IsDueOn r source sink → Comes IsDueOn r source sink left
    served e due text w =
        let was = of_left IsDueOn laws e.input left source e.due e.text told e.taken e.outcome in
        elim (said_only IsDueOn laws left e.due due r e.text text sink was e.said w) [ inl d ↦ inl d | inr d ↦ inr (inl d) ]

-- All that each answer tells follows.
pub outcome_tells : (IsDueOn : Outcomes) → AreOutcomes IsDueOn → (r : Status) (source sink : StreamChange) → Answered IsDueOn r source sink
    → ((r ≡ ReadFault) ⊎ (r ≡ NoMemory) → sink.new ≡ sink.old) → OutcomeTells IsDueOn r source sink
outcome_tells IsDueOn laws r source sink h untouched =
    record {
      came = λ due goes is. came IsDueOn due r source sink h goes is;
      came_of_left = λ due goes is. of_told source.old.bytes (λ input. IsAnswer IsDueOn input due r sink) (λ left told. came_of_left IsDueOn laws due r source sink left told h goes is);
      read_fault = λ e. faults e;
      write_fault = λ e. write_faults e;
      only = each (λ input. (due : Status) (text : List ℕ) → IsDueOn input due text → IsUnlessStopped due r) (λ input k due text w. unless input due (k due text w));
      complete = λ no_read no_write. each (λ input. (due : Status) (text : List ℕ) → IsDueOn input due text → IsAnswer IsDueOn input due r sink ⊎ (r ≡ NoMemory)) (λ input k due text w. elim (k due text w) [ inl e ↦ inl e | inr e ↦ elim e [ inl d ↦ absurd (no_write d.1) | inr d ↦ elim d [ inl b ↦ absurd (no_read b.1) | inr b ↦ inr b ] ] ]);
      text = λ not_done not_fault. elim h.outcome [ inl e ↦ written e e.said not_done not_fault | inr e ↦ elim e [ inl d ↦ empty d.0 refl (untouched (inl d.0)) | inr d ↦ empty d refl (untouched (inr d)) ] ];
    }
  where
    each : (Q : List ℕ → Type 0) → ((input : List ℕ) → Comes IsDueOn r source sink input → Q input) → IfSome source.old.bytes Q
    each Q k = of_told source.old.bytes Q (λ input is. k input (comes IsDueOn laws r source sink input is h))

    stops : (q : Status) → is_stop q ≡ true → r ≡ q → IsTrue (is_stop r)
    stops q goes e = ap is_stop e ∙ goes

    unless : (input : List ℕ) (q : Status)
        → IsAnswer IsDueOn input q r sink ⊎ ((r ≡ WriteFault) × HasFailed sink) ⊎ ((r ≡ ReadFault) × HasFailed source) ⊎ (r ≡ NoMemory)
        → IsUnlessStopped q r
    unless input q (inl e) = inl e.same
    unless input q (inr (inl d)) = inr (stops WriteFault refl d.0)
    unless input q (inr (inr (inl b))) = inr (stops ReadFault refl b.0)
    unless input q (inr (inr (inr b))) = inr (stops NoMemory refl b)

    faults : r ≡ ReadFault → HasFailed source
    faults is = elim h.outcome [ inl e ↦ absurd (said_not_stopped e.due r e.text sink (laws.no_stop e.input e.due e.text e.outcome) e.said (inl is)) | inr e ↦ elim e [ inl d ↦ d.1 | inr d ↦ (let same : NoMemory ≡ ReadFault = sym d ∙ is in absurd (cc)) ] ]

    write_faults : r ≡ WriteFault → HasFailed sink
    write_faults is = elim h.outcome [ inl e ↦ failed e e.said | inr e ↦ elim e [ inl d ↦ (let same : ReadFault ≡ WriteFault = sym d.0 ∙ is in absurd (cc)) | inr d ↦ (let same : NoMemory ≡ WriteFault = sym d ∙ is in absurd (cc)) ] ]
      where
        failed : (e : Served IsDueOn r source sink) → Says e.text e.due r sink → HasFailed sink
        failed e (inl d) = absurd (true≢false (sym (ap is_stop (sym d.0 ∙ is)) ∙ laws.no_stop e.input e.due e.text e.outcome))
        failed e (inr d) = d.2

    empty : {q : Status} → r ≡ q → text_of q ≡ [] → sink.new ≡ sink.old → Wrote (text_of r) sink
    empty e none same = ap (λ (s : Stream). s.bytes) same ∙ sym (ap (bytes_after sink.old.bytes) (ap text_of e ∙ none) ∙ bytes_after_none sink.old.bytes)

    written : (e : Served IsDueOn r source sink) → Says e.text e.due r sink → r ≢ Done → r ≢ WriteFault → Wrote (text_of r) sink
    written e (inl d) not_done not_fault = elim (laws.own e.input e.due e.text e.outcome) [ inl k ↦ absurd (not_done (d.0 ∙ k)) | inr k ↦ d.1 ∙ ap (bytes_after sink.old.bytes) (k ∙ ap text_of (sym d.0)) ]
    written e (inr d) not_done not_fault = absurd (not_fault d.0)

-- An answer other than WriteFault comes only where no write failed.
pub said_no_fault : (text : List ℕ) (due r : Status) (sink : StreamChange) → Says text due r sink → r ≢ WriteFault → sink.new.faults ≡ sink.old.faults
said_no_fault text due r sink (inl d) not_fault = d.2
said_no_fault text due r sink (inr d) not_fault = absurd (not_fault d.0)

pub no_write_fault : (IsDueOn : Outcomes) (r : Status) (source sink : StreamChange) → Answered IsDueOn r source sink → ((r ≡ ReadFault) ⊎ (r ≡ NoMemory) → sink.new ≡ sink.old) → r ≢ WriteFault → sink.new.faults ≡ sink.old.faults
no_write_fault IsDueOn r source sink h untouched not_fault =
    elim h.outcome [ inl e ↦ said_no_fault e.text e.due r sink e.said not_fault | inr e ↦ ap (λ (s : Stream). s.faults) (untouched (elim e [ inl d ↦ inl d.0 | inr d ↦ inr d ])) ]
