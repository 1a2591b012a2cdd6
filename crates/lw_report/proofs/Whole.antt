-- The report's parts, one written after another.
use Rattle.std.proofs.Common.{◌≡◌, ℕ, List, [], ◌++◌, append_assoc, Option}
use Rattle.lw_calls.specs.declared.reply.Reply.{Reply}
use Rattle.lw_calls.specs.declared.last.Seen.{Seen}
use Rattle.lw_machine.specs.Report.{of_slots, replies_part}

-- seven parts, one after another
pub parts_written : (a b c e f g h o p q r s t u : List ℕ) → o ≡ [] ++ a → p ≡ o ++ b → q ≡ p ++ c → r ≡ q ++ e → s ≡ r ++ f → t ≡ s ++ g → u ≡ t ++ h → u ≡ a ++ b ++ c ++ e ++ f ++ g ++ h
parts_written a b c e f g h o p q r s t u i j k l m n x = rw (x, n, m, l, k, j, i) (simp append_assoc)

-- a part on slots, written from lists that are those given
pub slots_as_given : (say : List ℕ → Seen → List ℕ) {names given : List (List ℕ)} {slots list : List (Option Seen)} (old new : List ℕ) → names ≡ given → slots ≡ list → new ≡ old ++ of_slots say names slots → new ≡ old ++ of_slots say given list
slots_as_given say old new e f written = cc

-- the part on replies, written from lists that are those given
pub replies_as_given : {names given tasks called : List (List ℕ)} {replies list : List (List Reply)} (old new : List ℕ) → names ≡ given → tasks ≡ called → replies ≡ list → new ≡ old ++ replies_part names tasks replies → new ≡ old ++ replies_part given called list
replies_as_given old new e f g written = cc
