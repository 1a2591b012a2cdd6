use Rattle.std.proofs.Common.{◌≡◌, ◌+◌, ◌^◌, ◌<◌, ◌≤◌, drop, option_map}
use Rattle.lw_grammar.specs.Statements.{classes_from}
use Rattle.lw_lines.proofs.lines_asked.classes_of.Given as goal

-- the set so far, with the classes of the letters that are left
abbrev pub invariant-loop-letter : goal.invariant-loop-letter
invariant-loop-letter l =
    record {
      told : option_map (λ r. l.classes + r) (classes_from l.least (drop l.letter-index l.letters)) ≡ classes_from 0 l.letters;
      small : l.classes < 2 ^ l.least;
      few : l.least ≤ 5;
    }
