-- An owner of which there is no piece loses nothing and gains nothing; a slot also has the same places before and afterwards.
use Rattle.std.proofs.Common.{◌≡◌, ℕ, ◌<◌, ◌≤◌, ◌==◌, Bool, true, false, not, ◌&&◌, ◌||◌, cond, List, [], ◌∷◌, length, map, ℤ, Option, Some, None, refl, sym, ap, ◌∙◌, ⊎_elim, arith}
use Rattle.std.specs.Prelude.{if◌then◌else◌}
use Rattle.std.specs.List.{filter}
use Rattle.std.specs.Option.{is_some}
use Rattle.std.proofs.lemmas.Bool.{false≢true, cases_lt, ne_eqb, eq-eqb, eqb-false, or_parts, and_right}
use Rattle.std.proofs.lemmas.List.{get_or_past}
use Rattle.lw_region.specs.Rectangle.{has_pixel}
use Rattle.lw_region.specs.Bands.{covers}
use Rattle.lw_region.proofs.Canonical.{covers_nil}
use Rattle.lw_calls.specs.declared.sizes.Sizes.{Sizes}
use Rattle.lw_machine.specs.Desk.{is_the}
use Rattle.lw_machine.specs.Screen.{bounds_have, screen_bounds}
use Rattle.lw_strips.specs.Laying.{screen}
use Rattle.lw_strips.specs.Exchange.{lost_rects, gained_rects}
use Rattle.lw_strips.specs.declared.piece.Piece.{Piece}
use Rattle.lw_stack.specs.Stack.{Stack, top_in, is_top_in}
use Rattle.lw_stack.proofs.FirstLaws.{not_top, top_off_screen}
use Rattle.lw_arrange.specs.Pieces.{owner_has, between, exchanges, ArePieces}
use Rattle.lw_arrange.proofs.SoundLaws.{eqb_swapped}

-- no piece is one that the owner loses or gains
none_of : (test : Piece → Bool) (k : ℕ) (pieces : List Piece) → ((p : Piece) → (p.from == k || p.to == k) ≡ false → test p ≡ false)
    → exchanges k pieces ≡ false → map (λ (p : Piece). p.rect) (filter test pieces) ≡ []
none_of test k [] off none = refl
none_of test k (p ∷ pieces) off none =
    let both = or_parts (p.from == k || p.to == k) (exchanges k pieces) none in
    ap (λ t. map (λ (q : Piece). q.rect) (cond t (p ∷ filter test pieces) (filter test pieces))) (off p both.0)
    ∙ none_of test k pieces off both.1

pub none_lost : (k : ℕ) (pieces : List Piece) → exchanges k pieces ≡ false → lost_rects k pieces ≡ []
none_lost k pieces none = none_of (λ p. p.from == k) k pieces (λ p off. (or_parts (p.from == k) (p.to == k) off).0) none

pub none_gained : (k : ℕ) (pieces : List Piece) → exchanges k pieces ≡ false → gained_rects k pieces ≡ []
none_gained k pieces none = none_of (λ p. p.to == k) k pieces (λ p off. (or_parts (p.from == k) (p.to == k) off).1) none

-- a slot has the places where its layer is on top, and each such layer has a slot
pub slot_owner_has : (v : Stack) (s : ℕ) (x y : ℤ) → s < v.sizes.slots → owner_has v s x y ≡ is_top_in v s x y
slot_owner_has v s x y low =
    ap (λ t. if t then (has_pixel (screen v.sizes.width v.sizes.height) x y && not (is_some (top_in v x y))) else is_the (top_in v x y) s)
    (ne_eqb s v.sizes.slots (λ same. absurd (omega (arith, same, low))))

top_slot : (v : Stack) (s : ℕ) (x y : ℤ) → length v.bounds ≡ v.sizes.slots → top_in v x y ≡ Some s → s < v.sizes.slots
top_slot v s x y many is =
    ⊎_elim (λ low. low)
    (λ past.
    absurd (false≢true
    (sym (not_top v s x y (ap (λ o. bounds_have o x y) (get_or_past v.bounds s None (omega (arith, past, many)))))
    ∙ (ap (λ o. is_the o s) is ∙ eq-eqb s s refl))))
    (cases_lt s v.sizes.slots)

-- where one list has the slot's layer on top and the other has not, some other owner has the place
other_owner : (v w : Stack) (s : ℕ) (x y : ℤ) → w.sizes ≡ v.sizes → length w.bounds ≡ w.sizes.slots → s < v.sizes.slots
    → is_top_in v s x y ≡ true
    → ((b : ℕ) → b ≤ v.sizes.slots → (not (s == b) && (owner_has v s x y && owner_has w b x y)) ≡ false)
    → is_top_in w s x y ≡ true
other_owner v w s x y same many low top none = by_top (top_in w x y) refl
  where
    slots_same : w.sizes.slots ≡ v.sizes.slots
    slots_same = ap (λ (z : Sizes). z.slots) same

    on_screen : (t : Bool) → has_pixel (screen_bounds v.sizes) x y ≡ t → t ≡ true
    on_screen true on = refl
    on_screen false off = absurd (false≢true (sym (ap (λ o. is_the o s) (top_off_screen v x y off)) ∙ top))

    on_other : has_pixel (screen w.sizes.width w.sizes.height) x y ≡ true
    on_other = ap (λ (z : Sizes). has_pixel (screen_bounds z) x y) same ∙ on_screen (has_pixel (screen_bounds v.sizes) x y) refl

    has : (b : ℕ) → b ≤ v.sizes.slots → (s == b) ≡ false → owner_has w b x y ≡ true → ⊥
    has b below other there =
        false≢true
        (sym (none b below)
        ∙ (ap (λ t. not t && (owner_has v s x y && owner_has w b x y)) other
        ∙ (ap (λ t. t && owner_has w b x y) (slot_owner_has v s x y low ∙ top) ∙ there)))

    by_top : (o : Option ℕ) → top_in w x y ≡ o → is_the o s ≡ true
    by_top None is =
        absurd (has v.sizes.slots (omega arith) (ne_eqb s v.sizes.slots (λ is_last. absurd (omega (arith, is_last, low))))
        (ap (λ t. if t then (has_pixel (screen w.sizes.width w.sizes.height) x y && not (is_some (top_in w x y))) else is_the (top_in w x y) v.sizes.slots)
        (eq-eqb v.sizes.slots w.sizes.slots (sym slots_same))
        ∙ (ap (λ t. t && not (is_some (top_in w x y))) on_other ∙ ap (λ o. not (is_some o)) is)))
    by_top (Some b) is = by_test (b == s) refl
      where
        low_b : b < w.sizes.slots
        low_b = top_slot w b x y many is

        by_test : (t : Bool) → (b == s) ≡ t → t ≡ true
        by_test true e = refl
        by_test false e =
            absurd (has b (omega (arith, low_b, slots_same)) (ne_eqb s b (λ at. eqb-false b s e (sym at)))
            (slot_owner_has w b x y low_b ∙ (ap (λ o. is_the o b) is ∙ eq-eqb b b refl)))

agree : (t u : Bool) → (t ≡ true → u ≡ true) → (u ≡ true → t ≡ true) → t ≡ u
agree true u up down = sym (up refl)
agree false true up down = down refl
agree false false up down = refl

-- A slot that neither loses nor gains a piece is shown in the same places before and afterwards.
pub same_top : (v w : Stack) (pieces : List Piece) (s : ℕ) (x y : ℤ) → w.sizes ≡ v.sizes → length v.bounds ≡ v.sizes.slots
    → length w.bounds ≡ w.sizes.slots → ArePieces v w pieces → s < v.sizes.slots → exchanges s pieces ≡ false
    → is_top_in v s x y ≡ is_top_in w s x y
same_top v w pieces s x y same many many_after all low none =
    agree (is_top_in v s x y) (is_top_in w s x y)
    (λ top. other_owner v w s x y same many_after low top
    (λ b below. sym (all.places s b x y (omega (arith, low)) below) ∙ (ap (λ l. covers l x y) (leaves b) ∙ covers_nil x y)))
    (λ top. other_owner w v s x y (sym same) many (omega (arith, low, slots_same)) top
    (λ b below. turned b (all.places b s x y (omega (arith, below, slots_same)) (omega (arith, low)))
    (ap (λ l. covers l x y) (reaches b) ∙ covers_nil x y)))
  where
    slots_same : w.sizes.slots ≡ v.sizes.slots
    slots_same = ap (λ (z : Sizes). z.slots) same

    leaves : (b : ℕ) → between s b pieces ≡ []
    leaves b =
        none_of (λ p. p.from == s && p.to == b) s pieces
        (λ p off. ap (λ t. t && p.to == b) (or_parts (p.from == s) (p.to == s) off).0) none

    reaches : (b : ℕ) → between b s pieces ≡ []
    reaches b =
        none_of (λ p. p.from == b && p.to == s) s pieces
        (λ p off. and_right (p.from == b) (p.to == s) (or_parts (p.from == s) (p.to == s) off).1) none

    swap : (t a b : Bool) → (not t && (a && b)) ≡ (not t && (b && a))
    swap t true true = refl
    swap t true false = refl
    swap t false true = refl
    swap t false false = refl

    turned : (b : ℕ) → covers (between b s pieces) x y ≡ (not (b == s) && (owner_has v b x y && owner_has w s x y))
        → covers (between b s pieces) x y ≡ false → (not (s == b) && (owner_has w s x y && owner_has v b x y)) ≡ false
    turned b is off =
        swap (s == b) (owner_has w s x y) (owner_has v b x y)
        ∙ (ap (λ t. not t && (owner_has v b x y && owner_has w s x y)) (eqb_swapped s b (b == s) refl) ∙ (sym is ∙ off))
