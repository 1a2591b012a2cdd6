-- The size of a layer's own bitmap.
use Rattle.std.specs.Prelude.{◌≡◌, false, ℤ, pos}
use Rattle.lw_calls.specs.declared.make.Kind.{Kind}
use Rattle.lw_calls.specs.Kinds.{is_super}

-- a layer without a bitmap of its own has the size 0 and 0
abbrev pub FitKind : Kind → ℤ → ℤ → Type 0
FitKind kind w h = is_super kind ≡ false → (w ≡ pos 0) × (h ≡ pos 0)
