-- A history tells a desk's damage where it hurts what is damaged of each simple layer.
use Rattle.std.proofs.Common.{◌≡◌, ℕ, ◌<◌, ◌==◌, Bool, true, false, ◌&&◌, refl, sym, ap, ◌∙◌, arith, eqb-true}
use Rattle.std.specs.Prelude.{if◌then◌else◌}
use Rattle.std.proofs.lemmas.Bool.{eq-eqb}
use Rattle.std.proofs.lemmas.Bool.Decides.{nat_tests}
use Rattle.lw_planes.specs.Grid.{at}
use Rattle.lw_calls.specs.declared.make.Kind.TheVariants.{Simple}
use Rattle.lw_machine.specs.Layer.{Layer, Slot, Unopened, Live, Closed, change_layer}
use Rattle.lw_machine.specs.Desk.{Desk}
use Rattle.lw_machine.specs.Kept.{in_inner}
use Rattle.lw_machine.specs.Step.{on_layer}
use Rattle.lw_machine.specs.Hurt.{Hurts}
use Rattle.lw_machine.proofs.Untouched.{differ_back}

-- of each simple layer just that is damaged which is hurt
abbrev pub IsTold : Desk → Hurts → Type 0
IsTold d hurt = (s : ℕ) (l : Layer) (x y : ℕ) → d.slot s ≡ Live l → l.kind ≡ Simple → at false l.damage x y ≡ hurt s x y

-- what entails a guard is what it is under the guard
pub guarded : (b g v : Bool) → (b ≡ true → g ≡ true) → (g ≡ true → b ≡ v) → b ≡ (g && v)
guarded true true v entails same = same refl
guarded true false v entails same = let no : false ≡ true = entails refl in absurd (cc)
guarded false true v entails same = same refl
guarded false false v entails same = refl

-- a changed slot's layer was there before the change
pub live_before : (change : Layer → Layer) (x : Slot) (m : Layer) → change_layer change x ≡ Live m
    → (l : Layer) × (x ≡ Live l) × (m ≡ change l)
live_before change Unopened m is = absurd (cc)
live_before change (Live l) m is = (l, refl, cc)
live_before change Closed m is = absurd (cc)

-- A layer after the layer of a slot was changed: what it was before.
pub record IsChanged (d : Desk) (slot : ℕ) (change : Layer → Layer) (s : ℕ) (m : Layer) : Type 0 where
  pub layer : Layer
  pub was : d.slot s ≡ Live layer
  pub is : m ≡ (if slot == s then change layer else layer)

pub one_changed : (d : Desk) (slot : ℕ) (change : Layer → Layer) (s : ℕ) (m : Layer) → (on_layer d slot change).slot s ≡ Live m
    → IsChanged d slot change s m
one_changed d slot change s m = go (s == slot) refl
  where
    go : (b : Bool) → (s == slot) ≡ b → (if b then change_layer change (d.slot slot) else d.slot s) ≡ Live m
        → IsChanged d slot change s m
    go true e is =
        let same : s ≡ slot = eqb-true s slot e in
        let at_slot : change_layer change (d.slot s) ≡ Live m = ap (λ k. change_layer change (d.slot k)) same ∙ is in
        let before = live_before change (d.slot s) m at_slot in
        let test : (slot == s) ≡ true = eq-eqb slot s (sym same) in
        record { layer = before.0; was = before.1; is = before.2 ∙ ap (λ t. if t then change before.0 else before.0) (sym test) }
    go false e is = record { layer = m; was = is; is = ap (λ t. if t then change m else m) (sym (differ_back s slot e)) }

-- the layer m has the kind and the damage of l
pub record HasDamageOf (l m : Layer) : Type 0 where
  pub kind : m.kind ≡ l.kind
  pub damage : m.damage ≡ l.damage

pub damage_of_either : (b : Bool) (l m : Layer) → HasDamageOf l m → HasDamageOf l (if b then m else l)
damage_of_either true l m has = has
damage_of_either false l m has = record { kind = refl; damage = refl }

-- where the layer of a slot was changed so that its kind and its damage stayed, what is damaged is what was hurt
pub same_damage : (d : Desk) (hurt : Hurts) → IsTold d hurt → (slot : ℕ) (change : Layer → Layer)
    → ((l : Layer) → HasDamageOf l (change l)) → (s : ℕ) (m : Layer) (x y : ℕ) (v : Slot → Bool)
    → ((l : Layer) → v (Live l) ≡ hurt s x y) → (on_layer d slot change).slot s ≡ Live m → m.kind ≡ Simple
    → at false m.damage x y ≡ v (d.slot s)
same_damage d hurt told slot change leaves s m x y v live is simple =
    let c = one_changed d slot change s m is in
    let has = damage_of_either (slot == s) c.layer (change c.layer) (leaves c.layer) in
    let kind : c.layer.kind ≡ Simple = sym has.kind ∙ (ap (λ q. q.kind) (sym c.is) ∙ simple) in
    ap (λ (q : Layer). at false q.damage x y) c.is ∙
    (ap (λ q. at false q x y) has.damage ∙ (told s c.layer x y c.was kind ∙ (sym (live c.layer) ∙ ap v (sym c.was))))

-- a pixel of the inner rectangle lies in the layer
pub inner_lies : (framed : Bool) (w h x y : ℕ) → in_inner framed w h x y ≡ true → (x < w) × (y < h)
unfolding in_inner
inner_lies true w h x y inside = grind (arith, nat_tests)
inner_lies false w h x y inside = grind (arith, nat_tests)
