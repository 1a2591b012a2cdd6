-- What was written before stays a prefix, step by step.
use Rattle.std.proofs.Common.{◌≡◌, ℕ, ◌≤◌, List, ◌++◌, length, take, ap, sym, ◌∙◌, length-append, arith}
use Rattle.std.proofs.lemmas.List.{take-append-le, take_all, take-take}
use Rattle.lw_text_output.specs.Words.{Keeps}

-- something was written, and then what stood there was kept
pub kept_after : (old more mid new : List ℕ) → mid ≡ old ++ more → Keeps mid new → Keeps old new
kept_after old more mid new e kept =
    let long : length old ≤ length mid = (let h = ap length e in let k = length-append old more in omega (arith, h, k)) in
    sym (take-take (length old) (length mid) new long) ∙
    (ap (take (length old)) (kept ∙ e) ∙ (take-append-le (length old) old more (omega arith) ∙ take_all (length old) old (omega arith)))
