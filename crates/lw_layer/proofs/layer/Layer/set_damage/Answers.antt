use Rattle.std.proofs.Common.{◌≡◌, ℤ, true, sym, subst}
use Rattle.lw_region.specs.Bands.{covers}
use Rattle.lw_machine.specs.Kept.{holds_at}
use Rattle.lw_layer.specs.View.{LiveView, keeps}
use Rattle.lw_layer.specs.Pieces.{inner_in}
use Rattle.lw_layer.proofs.SetLaws.{damage_replaced}
use Rattle.lw_layer.proofs.layer.Layer.set_damage.Goals as goal

pub invariant_of-self : goal.invariant_of-self
invariant_of-self c =
    let I : LiveView → Type 0 = λ v. c.args.damage.inner ≡ inner_in v in
    let K : LiveView → Type 0 = λ v. (x y : ℤ) → covers c.args.damage.rects x y ≡ true → holds_at (λ i j. keeps v i j) x y ≡ true in
    damage_replaced c.self.inside.draft c.args.damage (subst I (sym c.self.view_is) c.requires.inner) (subst K (sym c.self.view_is) c.requires.kept) c.self.invariant
