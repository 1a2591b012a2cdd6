-- Regions by slot, of which few have pixels.
use Rattle.std.proofs.Common.{◌≡◌, ℕ, zero, suc, ◌+◌, ◌<◌, ◌≤◌, ◌==◌, Bool, true, false, ◌&&◌, ◌||◌, List, [], ◌∷◌, ◌++◌, length, take, get_or, set, ℤ, refl, sym, ap, subst, ◌∙◌, inl, inr, arith}
use Rattle.std.specs.Prelude.{if◌then◌else◌}
use Rattle.std.proofs.lemmas.Bool.{false≢true, cases_lt, eq-eqb, ne_eqb, eqb-true, and_right}
use Rattle.std.proofs.Math.Bool.{or-false}
use Rattle.std.proofs.lemmas.List.{take_more, take_all, get_or_past}
use Rattle.std.proofs.lemmas.List.FromFn.{length-map-range_with_len, get_or-map-range_with_len}
use Rattle.lw_region.specs.Rectangle.{Rectangle}
use Rattle.lw_region.specs.Pixels.{pixels_of, union}
use Rattle.lw_region.specs.Bands.{bands, covers}
use Rattle.lw_region.proofs.SetOps.{combined_lists}
use Rattle.lw_stack.specs.declared.sets.SlotSet.{SlotSet}
use Rattle.lw_stack.specs.Sets.{set_of, sets_of, AreOfOthers, AreOfSlots}

-- one more at the end
pub others_more : (s : ℕ) (ps : List SlotSet) (p : SlotSet) → AreOfOthers s ps → (p.slot == s) ≡ false → AreOfOthers s (ps ++ p ∷ [])
others_more s [] p h other = (other, tt)
others_more s (q ∷ ps) p h other = (h.0, others_more s ps p h.1 other)

pub others_taken : (s : ℕ) (ps : List SlotSet) (i : ℕ) (p : SlotSet) → i < length ps → p ≡ get_or ps i p → AreOfOthers s (take i ps)
    → (p.slot == s) ≡ false → AreOfOthers s (take (i + 1) ps)
others_taken s ps i p below is h other =
    subst (AreOfOthers s) (sym (take_more ps i p below ∙ ap (λ q. take i ps ++ q ∷ []) (sym is)))
    (others_more s (take i ps) p h other)

-- a slot without a region, and one with its region at a place
pub none_of : (s : ℕ) (ps : List SlotSet) → AreOfOthers s ps → set_of ps s ≡ []
none_of s [] h = refl
none_of s (p ∷ ps) h = ap (λ t. if t then p.set else set_of ps s) h.0 ∙ none_of s ps h.1

pub set_at : (s : ℕ) (ps : List SlotSet) (i : ℕ) (p : SlotSet) → i < length ps → p ≡ get_or ps i p → AreOfOthers s (take i ps)
    → p.slot ≡ s → set_of ps s ≡ p.set
set_at s [] i p below is h own = absurd (omega arith)
set_at s (q ∷ ps) zero p below is h own =
    ap (λ t. if t then q.set else set_of ps s) (eq-eqb q.slot s (ap (λ (r : SlotSet). r.slot) (sym is) ∙ own))
    ∙ ap (λ (r : SlotSet). r.set) (sym is)
set_at s (q ∷ ps) (suc i) p below is h own =
    ap (λ t. if t then q.set else set_of ps s) h.0 ∙ set_at s ps i p (omega arith) is h.1 own

-- another region at a slot's place
by_slot : (s t : ℕ) (a : List Rectangle) (b c : List Rectangle) → ((s == t) ≡ false → b ≡ c)
    → (if s == t then a else b) ≡ (if s == t then a else c)
by_slot s t a b c h = step (s == t) h
  where
    step : (d : Bool) → (d ≡ false → b ≡ c) → (if d then a else b) ≡ (if d then a else c)
    step true h = refl
    step false h = h refl

pub set_changed : (s : ℕ) (ps : List SlotSet) (i : ℕ) (p : SlotSet) (t : ℕ) → i < length ps → AreOfOthers s (take i ps)
    → (get_or ps i p).slot ≡ s → p.slot ≡ s → set_of (set ps i p) t ≡ (if s == t then p.set else set_of ps t)
set_changed s [] i p t below h own new = absurd (omega arith)
set_changed s (q ∷ ps) zero p t below h own new =
    ap (λ n. if n == t then p.set else set_of ps t) new
    ∙ by_slot s t p.set (set_of ps t) (if q.slot == t then q.set else set_of ps t)
    (λ other. sym (ap (λ d. if d then q.set else set_of ps t) (ap (λ n. n == t) own ∙ other)))
set_changed s (q ∷ ps) (suc i) p t below h own new =
    ap (λ l. if q.slot == t then q.set else l) (set_changed s ps i p t (omega arith) h.1 own new)
    ∙ step (q.slot == t) (s == t) refl refl
  where
    step : (d e : Bool) → (q.slot == t) ≡ d → (s == t) ≡ e
        → (if d then q.set else (if e then p.set else set_of ps t)) ≡ (if e then p.set else (if d then q.set else set_of ps t))
    step true true is at = absurd (false≢true (sym h.0 ∙ eq-eqb q.slot s (eqb-true q.slot t is ∙ sym (eqb-true s t at))))
    step true false is at = refl
    step false true is at = refl
    step false false is at = refl

others_changed : (s : ℕ) (ps : List SlotSet) (i : ℕ) (p : SlotSet) → AreOfOthers s ps → p.slot ≡ (get_or ps i p).slot
    → AreOfOthers s (set ps i p)
others_changed s [] i p h same = tt
others_changed s (q ∷ ps) zero p h same = (ap (λ n. n == s) same ∙ h.0, h.1)
others_changed s (q ∷ ps) (suc i) p h same = (h.0, others_changed s ps i p h.1 same)

pub slots_changed : (n : ℕ) (ps : List SlotSet) (i : ℕ) (p : SlotSet) → AreOfSlots n ps → p.slot ≡ (get_or ps i p).slot
    → AreOfSlots n (set ps i p)
slots_changed n [] i p h same = tt
slots_changed n (q ∷ ps) zero p h same =
    (subst (λ m. m < n) (sym same) h.0, subst (λ m. AreOfOthers m ps) (sym same) h.1, h.2)
slots_changed n (q ∷ ps) (suc i) p h same = (h.0, others_changed q.slot ps i p h.1 same, slots_changed n ps i p h.2 same)

-- a slot more

other_way : (a b : ℕ) → (a == b) ≡ false → (b == a) ≡ false
other_way a b h = ne_eqb b a (λ same. false≢true (sym h ∙ eq-eqb a b (sym same)))

pub slots_more : (n : ℕ) (ps : List SlotSet) (p : SlotSet) → AreOfSlots n ps → p.slot < n → AreOfOthers p.slot ps
    → AreOfSlots n (ps ++ p ∷ [])
slots_more n [] p h below others = (below, tt, tt)
slots_more n (q ∷ ps) p h below others =
    (h.0, others_more q.slot ps p h.1 (other_way q.slot p.slot others.0), slots_more n ps p h.2 below others.1)

pub set_more : (s : ℕ) (ps : List SlotSet) (p : SlotSet) (t : ℕ) → AreOfOthers s ps → p.slot ≡ s
    → set_of (ps ++ p ∷ []) t ≡ (if s == t then p.set else set_of ps t)
set_more s [] p t h new = ap (λ n. if n == t then p.set else []) new
set_more s (q ∷ ps) p t h new =
    ap (λ l. if q.slot == t then q.set else l) (set_more s ps p t h.1 new)
    ∙ step (q.slot == t) (s == t) refl refl
  where
    step : (d e : Bool) → (q.slot == t) ≡ d → (s == t) ≡ e
        → (if d then q.set else (if e then p.set else set_of ps t)) ≡ (if e then p.set else (if d then q.set else set_of ps t))
    step true true is at = absurd (false≢true (sym h.0 ∙ eq-eqb q.slot s (eqb-true q.slot t is ∙ sym (eqb-true s t at))))
    step true false is at = refl
    step false true is at = refl
    step false false is at = refl

-- pixels that are added to a slot's
pub pixels_added : (s t : ℕ) (old own new more : List Rectangle) → ((s == t) ≡ true → own ≡ old)
    → ((x y : ℤ) → covers new x y ≡ (covers own x y || covers more x y)) → (x y : ℤ)
    → covers (if s == t then new else old) x y ≡ (covers old x y || (covers more x y && (s == t)))
pixels_added s t old own new more h added x y = step (s == t) h
  where
    step : (d : Bool) → (d ≡ true → own ≡ old) → covers (if d then new else old) x y ≡ (covers old x y || (covers more x y && d))
    step true h =
        added x y ∙ (ap (λ l. covers l x y || covers more x y) (h refl) ∙ ap (λ b. covers old x y || b) (all (covers more x y)))
      where
        all : (b : Bool) → b ≡ (b && true)
        all true = refl
        all false = refl
    step false h = sym (ap (λ b. covers old x y || b) (and_right (covers more x y) false refl) ∙ or-false (covers old x y))

pub joined : (into more made : List Rectangle) → made ≡ bands (union (pixels_of into) (pixels_of more)) → (x y : ℤ)
    → covers made x y ≡ (covers into x y || covers more x y)
joined into more made is x y = (combined_lists.unions into more made is).pixels x y

-- the regions of all slots
pub past_none : (n : ℕ) (ps : List SlotSet) (s : ℕ) → AreOfSlots n ps → n ≤ s → set_of ps s ≡ []
past_none n [] s h past = refl
past_none n (p ∷ ps) s h past =
    ap (λ t. if t then p.set else set_of ps s) (ne_eqb p.slot s (λ same. absurd (omega (arith, same, h.0)))) ∙ past_none n ps s h.2 past

pub sets_many : (n : ℕ) (ps : List SlotSet) → length (sets_of n ps) ≡ n
sets_many n ps = length-map-range_with_len (λ s. set_of ps s) 0 n

pub set_in : (n : ℕ) (ps : List SlotSet) (s : ℕ) → AreOfSlots n ps → get_or (sets_of n ps) s [] ≡ set_of ps s
set_in n ps s h = elim (cases_lt s n) [
  | inl below ↦ get_or-map-range_with_len (λ s. set_of ps s) 0 n s s [] below (omega arith)
  | inr past ↦ get_or_past (sets_of n ps) s [] (omega (arith, past, sets_many n ps)) ∙ sym (past_none n ps s h past)
]

-- a list that was gone through to its end
pub take_whole : (ps : List SlotSet) (i : ℕ) → i ≡ length ps → take i ps ≡ ps
take_whole ps i end = take_all i ps (omega (arith, end))

-- what is known of the view is known of the regions
pub view_added : (n : ℕ) (ps qs : List SlotSet) (old new : List (List Rectangle)) (slot : ℕ) (more : List Rectangle) → AreOfSlots n ps
    → AreOfSlots n qs → sets_of n ps ≡ old → new ≡ sets_of n qs
    → ((s : ℕ) (x y : ℤ) → covers (set_of qs s) x y ≡ (covers (set_of ps s) x y || (covers more x y && (slot == s))))
    → (s : ℕ) (x y : ℤ) → covers (get_or new s []) x y ≡ (covers (get_or old s []) x y || (covers more x y && (slot == s)))
view_added n ps qs old new slot more h k before after added s x y =
    ap (λ l. covers (get_or l s []) x y) after
    ∙ (ap (λ l. covers l x y) (set_in n qs s k)
    ∙ (added s x y
    ∙ ap (λ l. covers l x y || (covers more x y && (slot == s))) (sym (set_in n ps s h) ∙ ap (λ l. get_or l s []) before)))
