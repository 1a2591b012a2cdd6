-- For private contracts.
-- The next line of a script that is read.
use Rattle.std.specs.Prelude.{◌≡◌, ℕ, Bool, true, false, ◌⊎◌, List, [], Option, Some, None}
use Rattle.lw_words.specs.Cuts.{IsCutLine}
use denote.Ref.{Bor}

-- The first line and the bytes after it, where more is due; none where all is done or no byte is left.
abbrev pub CutsDue : Bool → List ℕ → Option (Bor (List ℕ) × Bor (List ℕ)) → Type 0
CutsDue done bytes None = (done ≡ true) ⊎ (bytes ≡ [])
CutsDue done bytes (Some cut) = (done ≡ false) × IsCutLine bytes cut.0.now cut.1.now
