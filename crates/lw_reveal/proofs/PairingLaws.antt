-- Pairs of former and new rectangles.
use Rattle.std.proofs.Common.{◌≡◌, ◌≢◌, ℕ, ◌<◌, Bool, true, false, ◌&&◌, List, ◌++◌, length, get_or, set, Option, Some, None, ◌∙◌, sym, ap, subst, arith, ⊎_elim, ◌-ℤ◌, get_or-set_same, get_or-set_other}
use Rattle.std.proofs.Math.ListN.{length-set}
use Rattle.std.specs.Bool.{IsTrue}
use Rattle.std.specs.Option.{SomeIff}
use Rattle.std.specs.Ordering.{int_eq}
use Rattle.std.specs.Vec.{with_item}
use Rattle.std.proofs.lemmas.Bool.{and_parts, cases_eq}
use Rattle.std.proofs.lemmas.List.{get_or-replicate, length-replicate}
use Rattle.std.proofs.Math.ListN.{replicate}
use Rattle.lw_region.specs.Rectangle.{Rectangle}
use Rattle.lw_region.proofs.Numbers.{eq_of}
use Rattle.lw_calls.specs.declared.make.Kind.{Kind}
use Rattle.lw_cliprects.specs.Parts.{hidden_of}
use Rattle.lw_layer.specs.View.{LiveView}
use Rattle.lw_layer.specs.New.{kept_hidden}
use Rattle.lw_reveal.specs.declared.pairing.Pairing.{Pairing}
use Rattle.lw_reveal.specs.Changes.{beside_own, IsGiven}
use Rattle.lw_reveal.specs.Pairing.{IsNear, IsPair, IsPairing, IsPairingOf, SameLists}

pub edges_same : (r s : Rectangle)
    → (int_eq r.min_x s.min_x && (int_eq r.min_y s.min_y && (int_eq r.max_x s.max_x && int_eq r.max_y s.max_y))) ≡ true → r ≡ s
edges_same r s is =
    let first = and_parts _ _ is in
    let second = and_parts _ _ first.1 in
    let third = and_parts _ _ second.1 in
    ap (λ z. record r { min_x = z }) (eq_of r.min_x s.min_x first.0) ∙
    (ap (λ z. record s { min_y = z; max_x = r.max_x; max_y = r.max_y }) (eq_of r.min_y s.min_y second.0) ∙
    (ap (λ z. record s { max_x = z; max_y = r.max_y }) (eq_of r.max_x s.max_x third.0) ∙
    ap (λ z. record s { max_y = z }) (eq_of r.max_y s.max_y third.1)))

-- the edges were compared with those of the moved rectangle
moved_told : (o : Option Rectangle) (r v : Rectangle) (P : Type 0) → o ≡ Some r → SomeIff o P v → r ≡ v
moved_told o r v P is moved = (subst (λ q. SomeIff q P v) is moved).1

pub moved_same : (t : Bool) (o : Option Rectangle) (r s v w : Rectangle) (P : Type 0)
    → t ≡ (int_eq r.min_x s.min_x && (int_eq r.min_y s.min_y && (int_eq r.max_x s.max_x && int_eq r.max_y s.max_y)))
    → o ≡ Some r → SomeIff o P v → v ≡ w → IsTrue t → w ≡ s
moved_same t o r s v w P is some moved same holds = sym (moved_told o r v P some moved ∙ same) ∙ edges_same r s (sym is ∙ holds)

-- one pair more: neither had one
paired_moved : (p : Pairing) (n i m j : ℕ) → IsPairing p → n < length p.handed.items → IsPair p n i → m < length p.handed.items
    → get_or (set p.handed.items n (Some i)) m None ≡ Some j → IsPair p m j
paired_moved p n i m j ok below pair inside is =
    ⊎_elim
    (λ (same : m ≡ n).
    let here : get_or (set p.handed.items n (Some i)) m None ≡ Some i = ap (λ q. get_or (set p.handed.items n (Some i)) q None) same ∙ get_or-set_same p.handed.items n (Some i) None below in
    let place : i ≡ j = cc (sym here ∙ is) in
    subst (λ q. IsPair p q j) (sym same) (subst (λ q. IsPair p n q) place pair))
    (λ (other : m ≢ n). ok.pairs m j inside (sym (get_or-set_other p.handed.items n m (Some i) None other) ∙ is))
    (cases_eq m n)

paired_given : (p : Pairing) (n i j : ℕ) → IsPairing p → n < length p.handed.items → get_or p.handed.items n None ≡ None
    → j < length p.given.items → get_or (set p.given.items i true) j false ≡ true → IsGiven (set p.handed.items n (Some i)) j
paired_given p n i j ok below free inside is =
    let long = length-set p.handed.items n (Some i) in
    ⊎_elim
    (λ (same : j ≡ i). (n, omega (arith, long), get_or-set_same p.handed.items n (Some i) None below ∙ ap Some (sym same)))
    (λ (other : j ≢ i).
    let given = ok.places j inside (sym (get_or-set_other p.given.items i j true false other) ∙ is) in
    let apart : given.0 ≢ n = λ same. absurd (cc (sym given.2 ∙ (ap (λ q. get_or p.handed.items q None) same ∙ free))) in
    (given.0, omega (arith, long, given.1), get_or-set_other p.handed.items n given.0 (Some i) None apart ∙ given.2))
    (cases_eq j i)

-- so it is one pair more
pub one_paired : (p : Pairing) (n i : ℕ) → IsPairing p → n < length p.former.items → get_or p.handed.items n None ≡ None
    → IsPair p n i → IsPairing (record p { handed = with_item p.handed n (Some i); given = with_item p.given i true })
one_paired p n i ok inside free pair =
    let below : n < length p.handed.items = omega (arith, ok.former) in
    let long = length-set p.handed.items n (Some i) in
    let wide = length-set p.given.items i true in
    record {
      near = record { left = ok.near.left; right = ok.near.right; upper = ok.near.upper; lower = ok.near.lower };
      former = long ∙ ok.former;
      news = wide ∙ ok.news;
      pairs = λ m j within is. let was = paired_moved p n i m j ok below pair (omega arith) is in record { former = was.former; place = was.place; same = was.same };
      places = λ j within is. paired_given p n i j ok below free (omega arith) is;
    }

-- no pairs at all
pub none_paired : (p : Pairing) (m n : ℕ) → IsNear p → m ≡ length p.former.items → n ≡ length p.news.items
    → p.handed.items ≡ replicate m None → p.given.items ≡ replicate n false → IsPairing p
none_paired p m n near many wide handed given = record {
  near = near;
  former = ap length handed ∙ (length-replicate m None ∙ many);
  news = ap length given ∙ (length-replicate n false ∙ wide);
  pairs =
      λ k i inside is.
      let shown : length p.handed.items ≡ m = ap length handed ∙ length-replicate m None in
      let none : get_or p.handed.items k None ≡ None = ap (λ q. get_or q k None) handed ∙ get_or-replicate m k None None (omega (arith, shown)) in
      absurd (cc (sym none ∙ is));
  places =
      λ i inside is.
      let off : get_or p.given.items i false ≡ false = ap (λ q. get_or q i false) given ∙ get_or-replicate n i false false (omega (arith, length-replicate n false, ap length given)) in
      absurd (cc (sym off ∙ is));
}

-- the rectangles beside an own bitmap, told by other names of the lists
pub beside_told : (kind k : Kind) (shown hidden visible rects : List Rectangle) (bounds : Rectangle) → k ≡ kind
    → shown ≡ visible → hidden ≡ hidden_of bounds visible → rects ≡ shown ++ kept_hidden k hidden
    → rects ≡ beside_own kind bounds visible
beside_told kind k shown hidden visible rects bounds is_kind is_shown is_hidden is =
    is ∙
    (ap (λ q. shown ++ kept_hidden q hidden) is_kind ∙
    (ap (λ q. q ++ kept_hidden kind hidden) is_shown ∙ ap (λ q. visible ++ kept_hidden kind q) is_hidden))

-- pairs of the same lists
pub pairing_told : (c : LiveView) (bounds : Rectangle) (visible : List Rectangle) (p q : Pairing) → IsPairing q → SameLists p q
    → p.former.items ≡ beside_own c.layer.kind c.bounds c.visible → p.news.items ≡ beside_own c.layer.kind bounds visible
    → p.dx ≡ bounds.min_x -ℤ c.bounds.min_x → p.dy ≡ bounds.min_y -ℤ c.bounds.min_y → IsPairingOf c bounds visible q
pairing_told c bounds visible p q sound same former news dx dy = record {
  sound = sound;
  former = same.former ∙ former;
  news = same.news ∙ news;
  dx = same.dx ∙ dx;
  dy = same.dy ∙ dy;
}
