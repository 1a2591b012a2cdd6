-- Laws of layers in an update.
use Rattle.std.proofs.Common.{◌≡◌, ℕ, ◌-◌, ◌<◌, ◌≤◌, Bool, true, false, ℤ, pos, negsuc, subst, arith}
use Rattle.std.proofs.lemmas.Bool.{and_parts}
use Rattle.std.proofs.lemmas.Int.{ints}
use Rattle.lw_region.specs.Rectangle.{within}
use Rattle.lw_damage.specs.Damaged.{may_lie}
use Rattle.lw_calls.specs.Kinds.{is_super}
use Rattle.lw_calls.specs.declared.make.Kind.{Kind}
use Rattle.lw_calls.specs.declared.make.Kind.TheVariants.{Smart}
use Rattle.lw_machine.specs.Layer.{is_framed}
use Rattle.lw_machine.specs.Kept.{holds_at}
use Rattle.lw_layer.specs.View.{keeps}
use Rattle.lw_layer.specs.Pieces.{inner_of, inner_in}
use Rattle.lw_layer.specs.Drafts.{IsLiveDraft, layout, window_of, live_view}
use Rattle.lw_layer.specs.declared.draft.LiveDraft.{LiveDraft}
use Rattle.lw_layer.proofs.KeptLaws.{kept_in_bits}

-- a place within so many, away from their ends
inside_count : (low x n less : ℕ) → 1 ≤ n → 1 ≤ less → within (pos low) (pos x) (pos (n - less)) ≡ true → x < n
unfolding within
inside_count low x n less some back has = grind (arith, ints)

before_count : (low x : ℕ) (high : ℤ) → within (pos low) (negsuc x) high ≡ true → ⊥
unfolding within
before_count low x high has = grind (arith, ints)

-- the pixels of an inner rectangle are some of the layer's bits
inner_pixel : (framed : Bool) (w h x y : ℕ) → 1 ≤ w → 1 ≤ h → may_lie (inner_of false framed w h) (pos x) (pos y) ≡ true → (x < w) × (y < h)
inner_pixel true w h x y wide high has =
    let halves = and_parts _ _ has in
    (inside_count 4 x w 5 wide (omega arith) halves.0, inside_count 11 y h 3 high (omega arith) halves.1)
inner_pixel false w h x y wide high has =
    let halves = and_parts _ _ has in
    (inside_count 0 x w 1 wide (omega arith) halves.0, inside_count 0 y h 1 high (omega arith) halves.1)

no_column : (framed : Bool) (w h x : ℕ) (y : ℤ) → may_lie (inner_of false framed w h) (negsuc x) y ≡ true → ⊥
no_column true w h x y has = before_count 4 x _ ((and_parts _ _ has).0)
no_column false w h x y has = before_count 0 x _ ((and_parts _ _ has).0)

no_row : (framed : Bool) (w h : ℕ) (x : ℤ) (y : ℕ) → may_lie (inner_of false framed w h) x (negsuc y) ≡ true → ⊥
no_row true w h x y has = before_count 11 y _ ((and_parts _ _ has).1)
no_row false w h x y has = before_count 0 y _ ((and_parts _ _ has).1)

-- a smart layer keeps each pixel of its inner rectangle
pub smart_keeps : (d : LiveDraft) → d.kind ≡ Smart → IsLiveDraft d → (x y : ℤ) → may_lie (inner_in (live_view d)) x y ≡ true → holds_at (λ i j. keeps (live_view d) i j) x y ≡ true
smart_keeps d is ok x y has =
    let framed : Bool = is_framed (window_of d.window) in
    let P : Kind → Type 0 = λ kind. may_lie (inner_of (is_super kind) framed (layout d).width (layout d).height) x y ≡ true in
    smart_pixel d framed is ok x y (subst P is has)
  where
    smart_pixel : (d : LiveDraft) (framed : Bool) → d.kind ≡ Smart → IsLiveDraft d → (x y : ℤ) → may_lie (inner_of false framed (layout d).width (layout d).height) x y ≡ true → holds_at (λ i j. keeps (live_view d) i j) x y ≡ true
    smart_pixel d framed is ok (pos x) (pos y) has =
        let place = inner_pixel framed (layout d).width (layout d).height x y ok.place.sizes.columns.0 ok.place.sizes.rows.0 has in
        kept_in_bits d x y Smart is place.0 place.1 (λ other. absurd (cc other))
    smart_pixel d framed is ok (pos x) (negsuc y) has = absurd (no_row framed (layout d).width (layout d).height (pos x) y has)
    smart_pixel d framed is ok (negsuc x) y has = absurd (no_column framed (layout d).width (layout d).height x y has)
