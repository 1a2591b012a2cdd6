-- Sets of message classes, as the machine has them: numbers with a bit for each class (the manual's Intuition Windows chapter:
-- IDCMP classes; that there are five, and their numbers, are this project's own).
use Rattle.std.specs.Prelude.{◌≡◌, ℕ, ◌^◌, ◌==◌, Bool, false, ◌||◌}
use Rattle.std.specs.Int.{bit_at}
use Rattle.std.specs.Int.RustNames.{bit_or}
use Rattle.lw_calls.specs.declared.message.Message.{Message}
use Rattle.lw_machine.specs.Layer.{Window, class_bit, wants}
use Rattle.lw_ports.specs.declared.set.MessageSet.{MessageSet}

-- the classes of a set
abbrev pub classes_of : MessageSet → ℕ
classes_of s = s.0

-- these classes have the class of a message
abbrev pub has_class : ℕ → Message → Bool
has_class classes m = bit_at classes (class_bit m) == 1

-- a window asks for the messages whose class its classes have
abbrev pub AskedByClass : Type 0
AskedByClass = (w : Window) (m : Message) → wants w m ≡ has_class w.classes m

-- no class is in the empty set, one in that of a message, and in that of two sets are the classes that either has
pub record ClassLaws : Type 0 where
  pub none : (m : Message) → has_class 0 m ≡ false
  pub one : (m n : Message) → has_class (2 ^ class_bit m) n ≡ (class_bit n == class_bit m)
  pub both : (a b : ℕ) (m : Message) → has_class (bit_or a b) m ≡ (has_class a m || has_class b m)
