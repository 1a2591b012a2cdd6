-- An option that has something exactly where that holds.
use Rattle.std.proofs.Common.{◌≡◌, IsSome, SomeIff, Option, Some, None, refl, sym, ◌∙◌}

pub found_some : {A : Type 0} (o : Option A) (P : Type 0) (v : A) → SomeIff o P v → P → IsSome o
found_some None P v h p = absurd (h p)
found_some (Some a) P v h p = refl

pub found_is : {A : Type 0} (o : Option A) (P : Type 0) (v a : A) → SomeIff o P v → o ≡ Some a → a ≡ v
found_is None P v a h e = absurd (cc)
found_is (Some b) P v a h e = let same : b ≡ a = cc in sym same ∙ h.1
