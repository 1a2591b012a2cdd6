-- What a call does to the bytes that a source has left or a sink was given, and to the count of
-- faults. A stream that doesn't expose its bytes has `None` for them.
use Rattle.std.specs.Prelude.{◌≡◌, ℕ, ◌<◌, ◌≤◌, ◌⊎◌, List, [], ◌++◌, length, take, ⊤, Option, None, Some}
use Rattle.std.specs.Option.{option_map}

-- A stream as contracts see it: the bytes that a source has left, or that were written to a sink,
-- where it exposes them, and the count of its faults.
pub record Stream : Type 0 where
  pub bytes : Option (List ℕ)
  pub faults : ℕ

-- a stream before a call and after it
pub record StreamChange : Type 0 where
  pub old : Stream
  pub new : Stream

-- A source or a sink before a call and after it: `change S.left S.faults source.old source.new`, or
-- `change K.written K.faults sink.old sink.new`.
abbrev pub change : {T : Type 0} → (T → Option (List ℕ)) → (T → ℕ) → T → T → StreamChange
change bytes faults old new = record {
  old = record { bytes = bytes old; faults = faults old };
  new = record { bytes = bytes new; faults = faults new };
}

-- the count rose from before to after, or it stands at the last value of a u64
abbrev pub Rose : ℕ → ℕ → Type 0
Rose before after = (before < after) ⊎ (after ≡ 18446744073709551615)

-- these bytes and then the told ones, where any are told
abbrev pub bytes_before : List ℕ → Option (List ℕ) → Option (List ℕ)
bytes_before bytes told = option_map (λ rest. bytes ++ rest) told

-- the told bytes and then these, where any are told
abbrev pub bytes_after : Option (List ℕ) → List ℕ → Option (List ℕ)
bytes_after told bytes = option_map (λ start. start ++ bytes) told

-- no byte is left, where the source exposes its bytes
abbrev pub NoneLeft : Option (List ℕ) → Type 0
NoneLeft None = ⊤
NoneLeft (Some bytes) = bytes ≡ []

-- some bytes, at most this many, were taken from the front of what was left
abbrev pub TakesAtMost : ℕ → Option (List ℕ) → Option (List ℕ) → Type 0
TakesAtMost most before after =
    (bytes : List ℕ) × (length bytes ≤ most) × (before ≡ bytes_before bytes after)

-- some bytes, just this many, were taken from the front of what was left
abbrev pub TakesJust : ℕ → Option (List ℕ) → Option (List ℕ) → Type 0
TakesJust count before after =
    (bytes : List ℕ) × (length bytes ≡ count) × (before ≡ bytes_before bytes after)

-- a prefix of these bytes, be it none or all of them, came after what was written
abbrev pub WritesPrefix : List ℕ → Option (List ℕ) → Option (List ℕ) → Type 0
WritesPrefix bytes before after =
    (k : ℕ) × (k ≤ length bytes) × (after ≡ bytes_after before (take k bytes))

-- just these bytes were taken from a source, where it exposes its bytes
abbrev pub Took : List ℕ → StreamChange → Type 0
Took bytes source = source.old.bytes ≡ bytes_before bytes source.new.bytes

-- just these bytes were written to a sink, where it exposes its bytes
abbrev pub Wrote : List ℕ → StreamChange → Type 0
Wrote bytes sink = sink.new.bytes ≡ bytes_after sink.old.bytes bytes

-- a call on a stream failed, by its count of faults
abbrev pub HasFailed : StreamChange → Type 0
HasFailed stream = Rose stream.old.faults stream.new.faults

-- a list grew at its end by the bytes that were taken from the front of what was left
abbrev pub Moves : List ℕ → List ℕ → Option (List ℕ) → Option (List ℕ) → Type 0
Moves had has before after =
    (bytes : List ℕ) × (has ≡ had ++ bytes) × (before ≡ bytes_before bytes after)

-- a reader or a writer of std, and how many of its calls failed
pub record Counted (T : Type 0) : Type 0 where
  pub stream : T
  pub faults : ℕ
