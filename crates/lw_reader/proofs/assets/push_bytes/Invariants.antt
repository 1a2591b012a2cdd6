use Rattle.std.proofs.Common.{◌≡◌, ◌++◌, take}
use Rattle.lw_words.specs.Digits.{decoded}
use Rattle.lw_reader.proofs.assets.push_bytes.Given as goal

abbrev pub invariant-loop-place : goal.invariant-loop-place
invariant-loop-place l = l.bytes.items ≡ l.fn.bytes.items ++ take l.place (decoded l.digits.digits.now)
