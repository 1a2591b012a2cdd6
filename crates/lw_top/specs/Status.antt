-- What the program's call answers, and what it writes for it.
use Rattle.std.specs.Prelude.{◌≡◌, ℕ, ◌⊎◌, List, [], ◌∷◌, ◌++◌, codes}
use Rattle.lw_io.specs.Streams.{StreamChange, Wrote, WritesPrefix, HasFailed}
use Rattle.lw_grammar.specs.declared.reason.Reason.{Reason}
use Rattle.lw_grammar.specs.declared.reason.Reason.TheVariants.{LineTooLong, BadByte, Spacing, Quote, UnknownWord, Misplaced}
use Rattle.lw_grammar.specs.declared.reason.Reason.TheVariants.{Form, Range, NoName, DoubleName, Gzz, Group, TooMany, NoHook}
use Rattle.lw_grammar.specs.declared.reason.Reason.TheVariants.{HookUsed, Padding, Missing}
use Rattle.lw_calls.specs.Written.{line_of, spaced}
use Rattle.lw_top.specs.declared.status.Status.{Status}
use Rattle.lw_top.specs.declared.status.Status.TheVariants.{Done, Refused, RefusedOrder, Usage, ReadFault, WriteFault, NoMemory}
use Rattle.lw_top.specs.declared.status.Status.TheVariants.{TooLong, Differs, BadOrder, BadPicture}

-- the exit status of each answer
abbrev pub number_of : Status → ℕ
number_of Done = 0
number_of (Refused line reason) = 1
number_of (RefusedOrder line) = 1
number_of Usage = 2
number_of ReadFault = 3
number_of WriteFault = 4
number_of NoMemory = 5
number_of TooLong = 6
number_of (Differs place) = 7
number_of (BadOrder place) = 8
number_of (BadPicture place) = 9

-- how a reason is printed
abbrev pub reason_text : Reason → List ℕ
reason_text LineTooLong = codes "line-too-long"
reason_text BadByte = codes "bad-byte"
reason_text Spacing = codes "spacing"
reason_text Quote = codes "quote"
reason_text UnknownWord = codes "unknown-word"
reason_text Misplaced = codes "misplaced"
reason_text Form = codes "form"
reason_text Range = codes "range"
reason_text NoName = codes "no-name"
reason_text DoubleName = codes "double-name"
reason_text Gzz = codes "gzz"
reason_text Group = codes "group"
reason_text TooMany = codes "too-many"
reason_text NoHook = codes "no-hook"
reason_text HookUsed = codes "hook-used"
reason_text Padding = codes "padding"
reason_text Missing = codes "missing"

-- What is written with an answer that has a text of its own: nothing where reading failed or memory ran out. Done has its
-- command's text, and WriteFault none.
abbrev pub text_of : Status → List ℕ
text_of Done = []
text_of (Refused line reason) = line_of (codes "refused line" ++ spaced line ++ 32 ∷ reason_text reason)
text_of (RefusedOrder line) = line_of (codes "refused line" ++ spaced line ++ codes " bad-order")
text_of Usage = line_of (codes "usage: layers run|check|replay|audit|demo NUMBER TASKS|display|ilbm|bitmap NAME")
text_of ReadFault = []
text_of WriteFault = []
text_of NoMemory = []
text_of TooLong = line_of (codes "too long")
text_of (Differs place) = line_of (codes "differs at" ++ spaced place)
text_of (BadOrder place) = line_of (codes "bad order at" ++ spaced place)
text_of (BadPicture place) = line_of (codes "bad picture at" ++ spaced place)

-- the most bytes that an input may have
abbrev pub input_limit : ℕ
input_limit = 4194304

-- A text was written to a sink whole, with the answer that is due and no fault.
abbrev pub SaysAll : List ℕ → Status → Status → StreamChange → Type 0
SaysAll text due result sink =
    (result ≡ due) × Wrote text sink × (sink.new.faults ≡ sink.old.faults)

-- A sink failed: its count of faults rose, and what was written is a prefix of the text.
abbrev pub SaysPart : List ℕ → Status → StreamChange → Type 0
SaysPart text result sink =
    (result ≡ WriteFault) × WritesPrefix text sink.old.bytes sink.new.bytes × HasFailed sink

-- A text was written to a sink with the answer that is due, whole; or the sink failed.
abbrev pub Says : List ℕ → Status → Status → StreamChange → Type 0
Says text due result sink = SaysAll text due result sink ⊎ SaysPart text result sink
