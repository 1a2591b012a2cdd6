-- Where two lists of bytes differ.
use Rattle.std.specs.Prelude.{◌≡◌, ◌≢◌, ℕ, List, take}
use Rattle.std.specs.List.{slice_get}

-- Place n is the first at which they differ: both have a byte there, and not the same; or one of them ends there.
pub record DiffersAt (a b : List ℕ) (n : ℕ) : Type 0 where
  pub before : take n a ≡ take n b
  pub here : slice_get a n ≢ slice_get b n
