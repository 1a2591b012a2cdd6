use Rattle.std.proofs.Common.{sym}
use Rattle.lw_words.proofs.HexDigits.{half}
use Rattle.lw_words.proofs.hex.Digits.count.Goals as goal

pub returns : goal.returns
returns c = sym (half c.args.self.now.digits.now)
