-- Where the first bad line of a script stands: it is one of its lines, or the line after them.
use Rattle.std.proofs.Common.{◌≡◌, ℕ, ◌+◌, ◌≤◌, List, length, ◌∙◌, ap, arith, length-append}
use Rattle.lw_grammar.specs.declared.reason.Reason.{Reason}
use Rattle.lw_grammar.specs.Lines.{lines}
use Rattle.lw_grammar.specs.Script.{Setting, IsFirstBadIn}

pub first_bad_within : (s : Setting) (bytes : List ℕ) (n : ℕ) (r : Reason) → IsFirstBadIn s (lines bytes) n r → n ≤ 1 + length (lines bytes)
first_bad_within s bytes n r b =
    let parts : length (lines bytes) ≡ length b.above + length b.below = ap length b.lines_are ∙ length-append b.above b.below in
    let number : n ≡ length b.above + 1 = b.number in
    omega (arith, parts, number)
