-- The damage that the code makes, step by step.
use Rattle.std.proofs.Common.{◌≡◌, Bool, true, false, not, ◌&&◌, ◌||◌, List, [], Option, ℤ, pos, ◌+ℤ◌, ◌-ℤ◌, ◌≤ℤ◌, unsigned_abs, ◌∙◌, refl, sym, ap, arith}
use Rattle.std.proofs.lemmas.Bool.{both_ways}
use Rattle.std.proofs.lemmas.Int.{ints}
use Rattle.lw_region.specs.Rectangle.{Rectangle, within, width, height}
use Rattle.lw_region.specs.Bands.{covers}
use Rattle.lw_region.proofs.Canonical.{covers_nil}
use Rattle.lw_calls.specs.declared.make.Kind.{Kind}
use Rattle.lw_calls.specs.Kinds.{is_super}
use Rattle.lw_cliprects.specs.Parts.{LieIn}
use Rattle.lw_damage.specs.Damaged.{Damaged, IsDamageWith, may_lie}
use Rattle.lw_machine.specs.Layer.{is_framed}
use Rattle.lw_layer.specs.View.{LiveView}
use Rattle.lw_layer.specs.Pieces.{inner_of, inner_in, IsDamageOf}
use Rattle.lw_layer.specs.StandsFor.{IsSound}
use Rattle.lw_layer.specs.Keeping.{AreKept, keeps_pixel}
use Rattle.lw_reveal.specs.Changed.{carried_to}
use Rattle.lw_reveal.specs.Counted.{AreCounted, counts_pixel, inner_with}
use Rattle.lw_reveal.specs.Gained.{AreLeft, is_left, StaysUndamaged}
use Rattle.lw_reveal.proofs.GainedView.{IsGained, due_pixel, damage_gained}

-- what the code reads of a layer and of its new visible region
pub record IsRead (c : LiveView) (visible : List Rectangle) (former : Damaged) (kind : Kind) (framed : Bool)
    (new_shown damaged : List Rectangle) (on : Bool) : Type 0 where
  pub kind_is : kind ≡ c.layer.kind
  pub framed_is : framed ≡ is_framed c.layer.window
  pub new_is : new_shown ≡ visible
  pub damaged_is : damaged ≡ former.rects
  pub updating_is : on ≡ c.layer.updating

same_left : (a b d e f g : Bool) → a ≡ e → b ≡ f → d ≡ g → is_left a b d ≡ is_left e f g
same_left a b d e f g first second third = cc

-- the inner rectangle, by what was read
inner_read : (c : LiveView) (bounds : Rectangle) (visible : List Rectangle) (former : Damaged) (kind : Kind) (framed : Bool)
    (new_shown damaged : List Rectangle) (on : Bool) → IsRead c visible former kind framed new_shown damaged on
    → inner_of (is_super kind) framed (width bounds) (height bounds) ≡ inner_with c bounds
inner_read c bounds visible former kind framed new_shown damaged on read =
    ap (λ k. inner_of (is_super k) framed (width bounds) (height bounds)) read.kind_is
    ∙ ap (λ f. inner_of (is_super c.layer.kind) f (width bounds) (height bounds)) read.framed_is

pub made_gained : (c : LiveView) (bounds : Rectangle) (visible : List Rectangle) (former d : Damaged) (kind : Kind) (framed : Bool)
    (new_shown damaged was kept due : List Rectangle) (inner : Option Rectangle) (on : Bool)
    → IsRead c visible former kind framed new_shown damaged on → AreCounted c bounds was → AreKept kind bounds new_shown kept
    → AreLeft was damaged kept due → inner ≡ inner_of (is_super kind) framed (width bounds) (height bounds)
    → IsDamageWith inner due on d → IsGained c bounds visible former d
made_gained c bounds visible former d kind framed new_shown damaged was kept due inner on read counted are is may made = record {
  pixels = λ x y.
      let now : covers kept x y ≡ keeps_pixel c.layer.kind bounds visible x y =
      are x y ∙ (ap (λ k. keeps_pixel k bounds new_shown x y) read.kind_is ∙ ap (λ l. keeps_pixel c.layer.kind bounds l x y) read.new_is)
      in
      let earlier : covers was x y ≡ counts_pixel c bounds x y = counted x y in
      let hurt : covers damaged x y ≡ covers former.rects x y = ap (λ l. covers l x y) read.damaged_is in
      made.pixels x y
      ∙ (ap (λ w. w && may_lie inner x y) (is x y ∙ same_left _ _ _ _ _ _ now earlier hurt)
      ∙ ap (λ o. due_pixel c bounds visible former x y && may_lie o x y) (sym made.inner));
  inner = made.inner ∙ (may ∙ inner_read c bounds visible former kind framed new_shown damaged on read);
  updating = made.updating ∙ read.updating_is;
}

-- places from an edge on lie in one extent exactly if they lie in another one of its length
same_extent : (low high other_low other_high z : ℤ) → low ≤ℤ high → other_low ≤ℤ other_high
    → unsigned_abs ((high +ℤ pos 1) -ℤ low) ≡ unsigned_abs ((other_high +ℤ pos 1) -ℤ other_low)
    → within low (low +ℤ z) high ≡ within other_low (other_low +ℤ z) other_high
unfolding within
same_extent low high other_low other_high z ordered other same = grind (arith, ints)

-- of what counts as kept before nothing is due
kept_counts : (here there former now framed : Bool) → here ≡ there → former ≡ now
    → is_left here (there && (not framed || (former || not now))) false ≡ false
kept_counts false there former now framed same inner = refl
kept_counts true false former now framed same inner = absurd (cc same)
kept_counts true true true now true same inner = refl
kept_counts true true false true true same inner = absurd (cc inner)
kept_counts true true false false true same inner = refl
kept_counts true true former now false same inner = refl

-- so nothing is due of a layer that stays undamaged
none_due : (c : LiveView) (bounds : Rectangle) (visible : List Rectangle) (former : Damaged) (x y : ℤ) → IsSound c
    → StaysUndamaged c bounds → former.rects ≡ [] → due_pixel c bounds visible former x y ≡ false
none_due c bounds visible former x y sound stays none =
    let framed = is_framed c.layer.window in
    let column = same_extent bounds.min_x bounds.max_x c.bounds.min_x c.bounds.max_x x stays.ordered.columns sound.ordered.columns stays.wide in
    let row = same_extent bounds.min_y bounds.max_y c.bounds.min_y c.bounds.max_y y stays.ordered.rows sound.ordered.rows stays.high in
    let kept : keeps_pixel c.layer.kind bounds visible x y ≡ keeps_pixel c.layer.kind c.bounds c.visible x y =
    rw (stays.smart, column, row) refl
    in
    let inner : may_lie (inner_with c c.bounds) x y ≡ may_lie (inner_with c bounds) x y =
    rw (stays.wide, stays.high) refl
    in
    rw (none, covers_nil x y) (kept_counts _ _ _ _ framed kept inner)

-- the damage of a layer without any
abbrev pub no_damage : LiveView → Damaged
no_damage c = record { inner = inner_in c; rects = []; updating = c.layer.updating }

-- what the code makes of such a layer
pub none_gained : (c : LiveView) (bounds : Rectangle) (visible : List Rectangle) (d : Damaged) (kind : Kind) (framed : Bool)
    (inner : Option Rectangle) (on : Bool) → IsSound c → LieIn bounds visible → StaysUndamaged c bounds
    → IsRead c visible (no_damage c) kind framed visible [] on
    → inner ≡ inner_of (is_super kind) framed (width bounds) (height bounds)
    → d ≡ record { inner = inner; rects = []; updating = on } → IsDamageOf (carried_to bounds visible c) d
none_gained c bounds visible d kind framed inner on sound inside stays read may made =
    let uncovered : (x y : ℤ) → covers [] x y ≡ true → ⊥ = λ x y has. both_ways _ (covers_nil x y) has in
    let was : IsDamageOf c (no_damage c) = record {
      pixels = stays.undamaged;
      kept = λ x y has. absurd (uncovered x y has);
      inner = refl;
      updating = refl;
    } in
    damage_gained c bounds visible (no_damage c) d sound stays.ordered inside was (λ x y has. absurd (uncovered x y has))
    (record {
      pixels = λ x y.
          ap (λ v. covers v.rects x y) made
          ∙ (covers_nil x y ∙ ap (λ t. t && may_lie d.inner x y) (sym (none_due c bounds visible (no_damage c) x y sound stays refl)));
      inner = ap (λ v. v.inner) made ∙ (may ∙ inner_read c bounds visible (no_damage c) kind framed visible [] on read);
      updating = ap (λ v. v.updating) made ∙ read.updating_is;
    })
