use Rattle.lw_canonical.proofs.CanonicalRead.{canonical_texts_read_back}
use Rattle.lw_canonical.proofs.laws.canonical_texts_read_back.Goals as goal

pub returns : goal.returns
returns c = canonical_texts_read_back
