-- A change that is made ready.
use Rattle.std.proofs.Common.{◌≡◌, ℕ, ◌+◌, ◌<◌, Bool, true, false, ◌⊎◌, inl, inr, List, [], ◌++◌, length, take, get_or, Some, None, ◌∙◌, sym, refl, ap, subst, arith, ◌-ℤ◌, length-append}
use Rattle.std.proofs.lemmas.List.{get_or_append_left, get_or_default, take-append-le, take_all}
use Rattle.lw_region.specs.Rectangle.{Rectangle, moved_by, width, height}
use Rattle.lw_planes.specs.Sizes.{AreSizes}
use Rattle.lw_calls.specs.declared.make.Kind.{Kind}
use Rattle.lw_calls.specs.declared.make.Kind.TheVariants.{Simple, Smart, SuperBitmap}
use Rattle.lw_cliprects.specs.Parts.{hidden_of}
use Rattle.lw_cliprects.proofs.HiddenLaws.{canonical_hidden}
use Rattle.lw_layer.specs.View.{LiveView}
use Rattle.lw_layer.specs.Pieces.{IsDamageOf}
use Rattle.lw_layer.specs.New.{kept_hidden}
use Rattle.lw_layer.proofs.NewLaws.{part_size}
use Rattle.lw_reveal.specs.declared.change.Change.{Change}
use Rattle.lw_reveal.specs.declared.pairing.Pairing.{Pairing}
use Rattle.lw_reveal.specs.Changed.{carried_to, MayHave}
use Rattle.lw_reveal.specs.Changes.{beside_own, carried, new_rectangle, new_held, IsGiven, MayBeHanded, IsChange}
use Rattle.lw_reveal.specs.Carrying.{HaveSizes, AreBothNew}
use Rattle.lw_reveal.specs.Pairing.{IsPair, IsPairingOf}
use Rattle.lw_reveal.proofs.CarriedLaws.{AreParts, both_ordered, divided_inside}

-- the rectangles beside an own bitmap are visible and hidden ones
pub record IsOneOf (visible hidden rects : List Rectangle) (i : ℕ) (d : Rectangle) : Type 0 where
  pub same : get_or rects i d ≡ get_or (visible ++ hidden) i d
  pub inside : i < length (visible ++ hidden)

one_shown : (visible hidden : List Rectangle) (i : ℕ) (d : Rectangle) → i < length (visible ++ [])
    → IsOneOf visible hidden (visible ++ []) i d
one_shown visible hidden i d inside =
    let none : length (visible ++ []) ≡ length visible + 0 = length-append visible [] in
    let long : length (visible ++ hidden) ≡ length visible + length hidden = length-append visible hidden in
    let below : i < length visible = omega arith in
    record { same = get_or_append_left visible [] d i below ∙ sym (get_or_append_left visible hidden d i below); inside = omega arith }

one_of : (kind : Kind) (bounds : Rectangle) (visible : List Rectangle) (i : ℕ) (d : Rectangle)
    → i < length (beside_own kind bounds visible)
    → IsOneOf visible (hidden_of bounds visible) (beside_own kind bounds visible) i d
one_of Simple bounds visible i d inside = one_shown visible (hidden_of bounds visible) i d inside
one_of Smart bounds visible i d inside = record { same = refl; inside = inside }
one_of SuperBitmap bounds visible i d inside = one_shown visible (hidden_of bounds visible) i d inside

new_size : (kind : Kind) (bounds : Rectangle) (visible : List Rectangle) (depth i : ℕ) → AreParts bounds visible
    → AreSizes (width bounds) (height bounds) depth → i < length (beside_own kind bounds visible)
    → AreSizes (width (get_or (beside_own kind bounds visible) i bounds)) (height (get_or (beside_own kind bounds visible) i bounds)) depth
new_size kind bounds visible depth i parts sizes inside =
    let hidden = hidden_of bounds visible in
    let one = one_of kind bounds visible i bounds inside in
    let P : Rectangle → Type 0 = λ q. AreSizes (width q) (height q) depth in
    subst P (sym one.same)
    (part_size (get_or (visible ++ hidden) i bounds) bounds depth
    (both_ordered visible hidden i bounds parts.canonical (canonical_hidden bounds visible) one.inside)
    (λ x y has. divided_inside bounds visible hidden i x y parts.divided one.inside has)
    sizes)

pub new_sizes : (kind : Kind) (bounds : Rectangle) (visible rects : List Rectangle) (depth : ℕ)
    → rects ≡ beside_own kind bounds visible → AreParts bounds visible → AreSizes (width bounds) (height bounds) depth
    → HaveSizes depth rects
new_sizes kind bounds visible rects depth is parts sizes =
    let all = beside_own kind bounds visible in
    let P : Rectangle → Type 0 = λ q. AreSizes (width q) (height q) depth in
    subst (λ q. HaveSizes depth q) (sym is)
    (λ i d inside. subst P (get_or_default all i bounds d inside) (new_size kind bounds visible depth i parts sizes inside))

-- each new rectangle has the carried bitmap, or one is handed over to its place
pen_or_given : (c : LiveView) (k : Change) (p : Pairing) (shown i : ℕ) (t : Bool) → get_or p.given.items i false ≡ t
    → IsPairingOf c k.bounds k.parts.visible p → k.handed.items ≡ p.handed.items
    → AreBothNew c k.bounds p.news.items p.given.items shown k.strips.items k.covered.items
    → i < length (beside_own c.layer.kind k.bounds k.parts.visible)
    → (new_held k i ≡ Some (carried c k.bounds (new_rectangle c k i))) ⊎ IsGiven k.handed.items i
pen_or_given c k p shown i true is pairs handed new inside =
    let below : i < length p.given.items = omega (arith, pairs.sound.news, ap length pairs.news) in
    inr (subst (λ q. IsGiven q i) (sym handed) (pairs.sound.places i below is))
pen_or_given c k p shown i false is pairs handed new inside =
    let below : i < length p.news.items = omega (arith, ap length pairs.news) in
    inl (new.each i below is ∙ ap (λ q. Some (carried c k.bounds (get_or q i k.bounds))) pairs.news)

may_hand : (c : LiveView) (k : Change) (p : Pairing) (n i : ℕ) → IsPairingOf c k.bounds k.parts.visible p → IsPair p n i
    → MayBeHanded c k n i
may_hand c k p n i pairs pair = record {
  former = omega (arith, pair.former, ap length pairs.former);
  place = omega (arith, pair.place, ap length pairs.news);
  same =
      ap (λ q. moved_by (get_or q n c.bounds) (k.bounds.min_x -ℤ c.bounds.min_x) (k.bounds.min_y -ℤ c.bounds.min_y)) (sym pairs.former) ∙
      (ap (λ x. moved_by (get_or p.former.items n c.bounds) x (k.bounds.min_y -ℤ c.bounds.min_y)) (sym pairs.dx) ∙
      (ap (λ y. moved_by (get_or p.former.items n c.bounds) p.dx y) (sym pairs.dy) ∙ (pair.same c.bounds k.bounds ∙ ap (λ q. get_or q i k.bounds) pairs.news)));
}

-- the first of two lists
take_prefix : (xs ys : List Rectangle) (n : ℕ) → n ≡ length xs → take n (xs ++ ys) ≡ xs
take_prefix xs ys n is = take-append-le n xs ys (omega arith) ∙ take_all n xs (omega arith)

-- The change is one of the layer.
pub prepared : (c : LiveView) (k : Change) (p : Pairing) (shown : ℕ) → IsPairingOf c k.bounds k.parts.visible p
    → k.handed.items ≡ p.handed.items → AreBothNew c k.bounds p.news.items p.given.items shown k.strips.items k.covered.items
    → shown ≡ length k.parts.visible → k.parts.bounds ≡ k.bounds → MayHave c k.bounds k.parts.visible
    → IsDamageOf (carried_to k.bounds k.parts.visible c) k.damage → IsChange c k
prepared c k p shown pairs handed new is_shown cut size damage =
    let rects = length-append k.parts.visible (kept_hidden c.layer.kind (hidden_of k.bounds k.parts.visible)) in
    let first : take shown p.news.items ≡ k.parts.visible = ap (λ q. take shown q) pairs.news ∙ take_prefix k.parts.visible (kept_hidden c.layer.kind (hidden_of k.bounds k.parts.visible)) shown is_shown in
    record {
      cut = cut;
      size = size;
      revealed = damage;
      shown = new.shown_rects ∙ first;
      hidden = omega (arith, new.many, is_shown, ap length pairs.news);
      former = ap length handed ∙ (pairs.sound.former ∙ ap length pairs.former);
      pens = λ i inside. pen_or_given c k p shown i (get_or p.given.items i false) refl pairs handed new inside;
      moved =
          λ n i inside is.
          let below : n < length p.handed.items = omega (arith, ap length handed) in
          may_hand c k p n i pairs (pairs.sound.pairs n i below (ap (λ q. get_or q n None) (sym handed) ∙ is));
    }
