-- What planning keeps.
use Rattle.std.specs.Prelude.{◌≡◌}
use Rattle.lw_calls.specs.declared.sizes.Sizes.{Sizes}
use Rattle.lw_arrange.specs.declared.arrangement.Step.{Step}
use Rattle.lw_arrange.specs.declared.arrangement.Step.TheVariants.{Refused, Arranged}

-- an arrangement, where there is one, is of a desk of these sizes
abbrev pub KeepsSizes : Sizes → Step → Type 0
KeepsSizes sizes (Refused r) = Unit {0}
KeepsSizes sizes (Arranged a) = a.stack.sizes ≡ sizes
