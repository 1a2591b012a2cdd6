-- What the kinds of layers have.
use Rattle.std.specs.Prelude.{Bool, true, false}
use Rattle.lw_calls.specs.declared.make.Kind.{Kind}
use Rattle.lw_calls.specs.declared.make.Kind.TheVariants.{Simple, Smart, SuperBitmap}

-- the layer has a bitmap of its own
abbrev pub is_super : Kind → Bool
is_super Simple = false
is_super Smart = false
is_super SuperBitmap = true
