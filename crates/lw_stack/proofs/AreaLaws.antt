-- The regions that a pass over an area keeps: what the layers so far leave of it, and what of each is shown in it.
use Rattle.std.proofs.Common.{◌≡◌, ◌↔◌, ℕ, ◌+◌, ◌<◌, ◌==◌, Bool, true, false, not, ◌&&◌, ◌||◌, List, [], ◌∷◌, ◌++◌, length, take, drop, get_or, ℤ, Option, Some, None, refl, sym, ap, ◌∙◌}
use Rattle.std.specs.Prelude.{IsNone}
use Rattle.std.specs.Option.{option_or, is_some}
use Rattle.std.proofs.lemmas.Bool.{false≢true, and_right}
use Rattle.std.proofs.lemmas.List.{take-append-drop, take_more, drop_more}
use Rattle.std.proofs.Math.Bool.{and-true, or-false}
use Rattle.lw_region.specs.Rectangle.{Rectangle, has_pixel, AreApart}
use Rattle.lw_region.specs.Pixels.{pixels_of, intersection, difference}
use Rattle.lw_region.specs.Bands.{bands, covers}
use Rattle.lw_region.specs.Regions.{rectangle_set}
use Rattle.lw_region.proofs.SetOps.{combined_lists, covers_one}
use Rattle.lw_region.proofs.Canonical.{covers_nil, covers_cons, covers_append}
use Rattle.lw_machine.specs.Desk.{is_the}
use Rattle.lw_stack.specs.Stack.{first_at, is_first_at, AreShownIn, LieApart}
use Rattle.lw_stack.proofs.FirstLaws.{has_at, some_at, shown_behind, some_behind, first_of_more}
use Rattle.lw_stack.proofs.ShownLaws.{no_pixel}

-- on truth values: what a layer further back adds to a set, and what it takes from the rest
and_shown : (a f h n g : Bool) → (a && (f || ((h && n) && g))) ≡ ((a && f) || (((a && n) && h) && g))
and_shown false f h n g = refl
and_shown true f true true g = refl
and_shown true f true false g = refl
and_shown true f false true g = refl
and_shown true f false false g = refl

and_rest : (a s h : Bool) → (a && not (s || h)) ≡ ((a && not s) && not h)
and_rest false s h = refl
and_rest true true h = refl
and_rest true false h = refl

-- The layers that were passed leave this of the area, and of each so much is shown in it.
pub record ArePassedIn (area : List Rectangle) (bounds : List (Option Rectangle)) (slots : List ℕ) (rest : List Rectangle)
    (sets : List (List Rectangle)) : Type 0 where
  pub left : (x y : ℤ) → covers rest x y ≡ (covers area x y && not (some_at bounds slots x y))
  pub shown : AreShownIn area bounds slots sets

-- nothing was passed yet, and all of the area is left
pub none_passed_in : (area : List Rectangle) (bounds : List (Option Rectangle)) (rest : List Rectangle)
    (sets : List (List Rectangle)) → rest ≡ area → length sets ≡ length bounds → ((s : ℕ) → get_or sets s [] ≡ [])
    → ArePassedIn area bounds [] rest sets
unfolding first_at
none_passed_in area bounds rest sets e many none = record {
  left = λ x y. ap (λ rects. covers rects x y) e ∙ sym (and-true (covers area x y));
  shown = record {
    many = many;
    places = λ s x y h. no_pixel (get_or sets s []) x y (none s) ∙ sym (and_right (covers area x y) false refl);
  };
}

-- The next layer is passed too: the rest is without its bounds, and its set has what they had of it.
pub layer_passed_in : (area : List Rectangle) (bounds : List (Option Rectangle)) (slots : List ℕ) (slot : ℕ)
    (rest new_rest : List Rectangle) (sets new_sets : List (List Rectangle)) → ArePassedIn area bounds slots rest sets
    → length new_sets ≡ length sets
    → ((x y : ℤ) → covers new_rest x y ≡ (covers rest x y && not (has_at bounds slot x y)))
    → ((s : ℕ) (x y : ℤ) → covers (get_or new_sets s []) x y
    ≡ (covers (get_or sets s []) x y || ((covers rest x y && has_at bounds slot x y) && (slot == s))))
    → ArePassedIn area bounds (slots ++ slot ∷ []) new_rest new_sets
layer_passed_in area bounds slots slot rest new_rest sets new_sets h many less added = record {
  left = λ x y. less x y
      ∙ (ap (λ b. b && not (has_at bounds slot x y)) (h.left x y)
      ∙ (sym (and_rest (covers area x y) (some_at bounds slots x y) (has_at bounds slot x y))
      ∙ ap (λ b. covers area x y && not b) (sym (some_behind bounds slots slot x y))));
  shown = record {
    many = many ∙ h.shown.many;
    places = λ s x y below.
        let a = covers area x y in
        let has = has_at bounds slot x y in
        let first = is_first_at bounds slots s x y in
        added s x y
        ∙ (ap (λ b. b || ((covers rest x y && has) && (slot == s))) (h.shown.places s x y below)
        ∙ (ap (λ b. (a && first) || ((b && has) && (slot == s))) (h.left x y)
        ∙ (sym (and_shown a first has (not (some_at bounds slots x y)) (slot == s))
        ∙ ap (λ b. a && b) (sym (shown_behind bounds slots slot s x y)))));
  };
}

-- where none of the area is left, the layers further back show nothing in it
first_seen : (a : Bool) (o p : Option ℕ) (s : ℕ) → (a && not (is_some o)) ≡ false → (a && is_the o s) ≡ (a && is_the (option_or o p) s)
first_seen false o p s e = refl
first_seen true None p s e = absurd (false≢true (sym e))
first_seen true (Some m) p s e = refl

pub nothing_left : (area : List Rectangle) (bounds : List (Option Rectangle)) (slots more : List ℕ) (rest : List Rectangle)
    (sets : List (List Rectangle)) → ArePassedIn area bounds slots rest sets → rest ≡ []
    → AreShownIn area bounds (slots ++ more) sets
nothing_left area bounds slots more rest sets h empty = record {
  many = h.shown.many;
  places = λ s x y below.
      h.shown.places s x y below
      ∙ (first_seen (covers area x y) (first_at bounds slots x y) (first_at bounds more x y) s
      (sym (h.left x y) ∙ no_pixel rest x y empty)
      ∙ ap (λ o. covers area x y && is_the o s) (sym (first_of_more bounds slots more x y)));
}

-- and nothing is left of it behind them
none_seen : (a : Bool) (o p : Option ℕ) → (a && not (is_some o)) ≡ false → (a && not (is_some (option_or o p))) ≡ false
none_seen false o p e = refl
none_seen true None p e = absurd (false≢true (sym e))
none_seen true (Some m) p e = refl

pub none_left : (area : List Rectangle) (bounds : List (Option Rectangle)) (slots more : List ℕ) (rest : List Rectangle)
    (sets : List (List Rectangle)) → ArePassedIn area bounds slots rest sets → rest ≡ []
    → (x y : ℤ) → covers rest x y ≡ (covers area x y && not (some_at bounds (slots ++ more) x y))
none_left area bounds slots more rest sets h empty x y =
    no_pixel rest x y empty
    ∙ sym (ap (λ o. covers area x y && not (is_some o)) (first_of_more bounds slots more x y)
    ∙ none_seen (covers area x y) (first_at bounds slots x y) (first_at bounds more x y)
    (sym (h.left x y) ∙ no_pixel rest x y empty))

-- a rectangle that lies apart from the rest takes nothing of it
pub rest_kept : (a b : Bool) → (a && b) ≡ false → a ≡ (a && not b)
rest_kept false b e = refl
rest_kept true b e = sym (ap not e)

pub none_added : (c a b d : Bool) → (a && b) ≡ false → c ≡ (c || ((a && b) && d))
none_added c a b d e = sym (ap (λ t. c || (t && d)) e ∙ or-false c)

-- what a rectangle has of the rest is added to a slot's set, and taken from the rest
pub part_added : (rest both : List Rectangle) (rect : Rectangle) (slot : ℕ) (sets made : List (List Rectangle))
    → both ≡ bands (intersection (pixels_of rest) (rectangle_set rect))
    → ((s : ℕ) (x y : ℤ) → covers (get_or made s []) x y ≡ (covers (get_or sets s []) x y || (covers both x y && (slot == s))))
    → (s : ℕ) (x y : ℤ) → covers (get_or made s []) x y
    ≡ (covers (get_or sets s []) x y || ((covers rest x y && has_pixel rect x y) && (slot == s)))
part_added rest both rect slot sets made f added s x y =
    added s x y
    ∙ ap (λ b. covers (get_or sets s []) x y || (b && (slot == s)))
    ((combined_lists.intersections rest (rect ∷ []) both f).pixels x y ∙ ap (λ b. covers rest x y && b) (covers_one rect x y))

pub part_taken : (rest left : List Rectangle) (rect : Rectangle) → left ≡ bands (difference (pixels_of rest) (rectangle_set rect))
    → (x y : ℤ) → covers left x y ≡ (covers rest x y && not (has_pixel rect x y))
part_taken rest left rect e x y =
    (combined_lists.differences rest (rect ∷ []) left e).pixels x y
    ∙ ap (λ b. covers rest x y && not b) (covers_one rect x y)

-- no rectangle meets another
pub none_meets : (r : Rectangle) → LieApart [] r
none_meets r x y = ap (λ b. b && has_pixel r x y) (covers_nil x y)

-- one more rectangle, which doesn't meet it either
or_apart : (a p r : Bool) → (a && r) ≡ false → (p && r) ≡ false → ((a || p) && r) ≡ false
or_apart true p r e f = e
or_apart false p r e f = f

pub more_apart : (rects : List Rectangle) (i : ℕ) (part r : Rectangle) (o : Option Rectangle) → i < length rects
    → part ≡ get_or rects i part → LieApart (take i rects) r → (IsNone o ↔ AreApart part r) → is_some o ≡ false
    → LieApart (take (i + 1) rects) r
more_apart rects i part r o below is h meet none x y =
    let front = take i rects in
    let list : take (i + 1) rects ≡ front ++ part ∷ [] =
    take_more rects i part below ∙ ap (λ q. front ++ q ∷ []) (sym is) in
    ap (λ b. b && has_pixel r x y)
    (ap (λ rs. covers rs x y) list
    ∙ (covers_append front (part ∷ []) x y ∙ ap (λ b. covers front x y || b) (covers_one part x y)))
    ∙ or_apart (covers front x y) (has_pixel part x y) (has_pixel r x y) (h x y) (meet.0 none x y)

-- a rectangle that meets one of these doesn't lie apart from them
in_list : (a p b r : Bool) → ((a || (p || b)) && r) ≡ false → (p && r) ≡ false
in_list a false b r e = refl
in_list true true b r e = e
in_list false true b r e = e

entry_apart : (rects : List Rectangle) (i : ℕ) (d r : Rectangle) → i < length rects → LieApart rects r
    → AreApart (get_or rects i d) r
entry_apart rects i d r below h x y =
    let part = get_or rects i d in
    let parts : rects ≡ take i rects ++ part ∷ drop (i + 1) rects =
    sym (take-append-drop i rects) ∙ ap (λ rest. take i rects ++ rest) (drop_more rects i d below) in
    in_list (covers (take i rects) x y) (has_pixel part x y) (covers (drop (i + 1) rects) x y) (has_pixel r x y)
    (sym (ap (λ b. b && has_pixel r x y)
    (ap (λ rs. covers rs x y) parts
    ∙ (covers_append (take i rects) (part ∷ drop (i + 1) rects) x y
    ∙ ap (λ b. covers (take i rects) x y || b) (covers_cons part (drop (i + 1) rects) x y))))
    ∙ h x y)

pub entry_meets : (rects : List Rectangle) (i : ℕ) (part r : Rectangle) (o : Option Rectangle) → i < length rects
    → part ≡ get_or rects i part → (IsNone o ↔ AreApart part r) → is_some o ≡ true → LieApart rects r → ⊥
entry_meets rects i part r o below is meet some h =
    let apart : AreApart part r = λ x y. ap (λ q. has_pixel q x y && has_pixel r x y) is ∙ entry_apart rects i part r below h x y in
    false≢true (sym (meet.1 apart) ∙ some)
