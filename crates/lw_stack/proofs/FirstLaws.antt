-- Which layer of a list is the first at a place, as the list grows at its end and around one of its entries, and which is the top,
-- of lists that differ in one slot too.
use Rattle.std.proofs.Common.{◌≡◌, ℕ, ◌+◌, ◌<◌, ◌==◌, Bool, true, false, not, ◌&&◌, ◌||◌, cond, List, [], ◌∷◌, ◌++◌, length, take, drop, get_or, ℤ, Option, Some, None, refl, sym, ap, ◌∙◌}
use Rattle.std.specs.Prelude.{if◌then◌else◌}
use Rattle.std.specs.List.{find}
use Rattle.std.specs.Option.{option_or, is_some}
use Rattle.std.proofs.lemmas.Bool.{false≢true, eq-eqb, ne_eqb, eqb-true, and_right, or_parts}
use Rattle.std.proofs.lemmas.List.{take-append-drop, drop_more}
use Rattle.std.proofs.lemmas.List.Folds.{find-append}
use Rattle.lw_region.specs.Rectangle.{Rectangle, has_pixel}
use Rattle.lw_machine.specs.Desk.{is_the}
use Rattle.lw_machine.specs.Screen.{bounds_have, screen_bounds}
use Rattle.lw_machine.specs.Arrangement.{without}
use Rattle.lw_stack.specs.Stack.{Stack, bounds_at, first_at, is_first_at, top_in, is_top_in}
use Rattle.lw_stack.specs.Laws.{ElsewhereLaw}

-- the slot's bounds have the place
abbrev pub has_at : List (Option Rectangle) → ℕ → ℤ → ℤ → Bool
has_at bounds s x y = bounds_have (bounds_at bounds s) x y

-- some layer of the list has the place
abbrev pub some_at : List (Option Rectangle) → List ℕ → ℤ → ℤ → Bool
some_at bounds slots x y = is_some (first_at bounds slots x y)

-- the first of a list and one more is the list's, or else the one more, where that has the place
or_last : (o : Option ℕ) (has : Bool) (slot s : ℕ)
    → is_the (option_or o (cond has (Some slot) None)) s ≡ (is_the o s || ((has && not (is_some o)) && (slot == s)))
or_last None true slot s = refl
or_last None false slot s = refl
or_last (Some m) has slot s = by_test (m == s) has
  where
    by_test : (b has : Bool) → b ≡ (b || ((has && false) && (slot == s)))
    by_test true has = refl
    by_test false true = refl
    by_test false false = refl

some_or_last : (o : Option ℕ) (has : Bool) (slot : ℕ) → is_some (option_or o (cond has (Some slot) None)) ≡ (is_some o || has)
some_or_last None true slot = refl
some_or_last None false slot = refl
some_or_last (Some m) has slot = refl

-- the first layer at a place, of a list, one more and the rest
first_among : (bounds : List (Option Rectangle)) (slots : List ℕ) (slot : ℕ) (rest : List ℕ) (x y : ℤ)
    → first_at bounds (slots ++ slot ∷ rest) x y
    ≡ option_or (first_at bounds slots x y) (cond (has_at bounds slot x y) (Some slot) (first_at bounds rest x y))
unfolding first_at
first_among bounds slots slot rest x y = find-append (λ s. has_at bounds s x y) slots (slot ∷ rest)

-- the same with nothing after it
first_behind : (bounds : List (Option Rectangle)) (slots : List ℕ) (slot : ℕ) (x y : ℤ)
    → first_at bounds (slots ++ slot ∷ []) x y
    ≡ option_or (first_at bounds slots x y) (cond (has_at bounds slot x y) (Some slot) None)
unfolding first_at
first_behind bounds slots slot x y = find-append (λ s. has_at bounds s x y) slots (slot ∷ [])

-- with one more layer at the end, each is the first where it was, and the one more where it has the place and none in front has
pub shown_behind : (bounds : List (Option Rectangle)) (slots : List ℕ) (slot s : ℕ) (x y : ℤ)
    → is_first_at bounds (slots ++ slot ∷ []) s x y
    ≡ (is_first_at bounds slots s x y || ((has_at bounds slot x y && not (some_at bounds slots x y)) && (slot == s)))
shown_behind bounds slots slot s x y =
    ap (λ o. is_the o s) (first_behind bounds slots slot x y)
    ∙ or_last (first_at bounds slots x y) (has_at bounds slot x y) slot s

pub some_behind : (bounds : List (Option Rectangle)) (slots : List ℕ) (slot : ℕ) (x y : ℤ)
    → some_at bounds (slots ++ slot ∷ []) x y ≡ (some_at bounds slots x y || has_at bounds slot x y)
some_behind bounds slots slot x y =
    ap is_some (first_behind bounds slots slot x y) ∙ some_or_last (first_at bounds slots x y) (has_at bounds slot x y) slot

-- a layer that doesn't have the place isn't the first of any list there
pub not_first : (bounds : List (Option Rectangle)) (slots : List ℕ) (slot : ℕ) (x y : ℤ) → has_at bounds slot x y ≡ false
    → is_first_at bounds slots slot x y ≡ false
unfolding first_at
not_first bounds [] slot x y outside = refl
not_first bounds (t ∷ ts) slot x y outside =
    by_test (has_at bounds t x y) refl (not_first bounds ts slot x y outside)
  where
    by_test : (b : Bool) → has_at bounds t x y ≡ b → is_the (find (λ s. has_at bounds s x y) ts) slot ≡ false
        → is_the (cond b (Some t) (find (λ s. has_at bounds s x y) ts)) slot ≡ false
    by_test true e rest = ne_eqb t slot (λ same. false≢true (sym outside ∙ (ap (λ s. has_at bounds s x y) (sym same) ∙ e)))
    by_test false e rest = rest

-- a layer that isn't the first of those in front of it is the first where it has the place and none of these has it
pub first_where_left : (bounds : List (Option Rectangle)) (slots : List ℕ) (slot : ℕ) (rest : List ℕ) (x y : ℤ)
    → is_first_at bounds slots slot x y ≡ false
    → is_first_at bounds (slots ++ slot ∷ rest) slot x y ≡ (has_at bounds slot x y && not (some_at bounds slots x y))
first_where_left bounds slots slot rest x y never =
    ap (λ o. is_the o slot) (first_among bounds slots slot rest x y)
    ∙ by_case (first_at bounds slots x y) (has_at bounds slot x y) (first_at bounds rest x y)
    (not_first bounds rest slot x y) never
  where
    by_case : (o : Option ℕ) (has : Bool) (r : Option ℕ) → (has ≡ false → is_the r slot ≡ false) → is_the o slot ≡ false
        → is_the (option_or o (cond has (Some slot) r)) slot ≡ (has && not (is_some o))
    by_case None true r other never = eq-eqb slot slot refl
    by_case None false r other never = other refl
    by_case (Some m) has r other never = never ∙ sym (and_right has false refl)

-- where no layer in front has the place and this one has it, it is the first
pub first_found : (bounds : List (Option Rectangle)) (slots : List ℕ) (slot : ℕ) (rest : List ℕ) (x y : ℤ)
    → first_at bounds slots x y ≡ None → has_at bounds slot x y ≡ true → first_at bounds (slots ++ slot ∷ rest) x y ≡ Some slot
first_found bounds slots slot rest x y none has =
    first_among bounds slots slot rest x y
    ∙ (ap (λ o. option_or o (cond (has_at bounds slot x y) (Some slot) (first_at bounds rest x y))) none
    ∙ ap (λ b. cond b (Some slot) (first_at bounds rest x y)) has)

-- where no layer in front has the place and this one hasn't it either, none of them has it
pub none_found : (bounds : List (Option Rectangle)) (slots : List ℕ) (slot : ℕ) (x y : ℤ)
    → first_at bounds slots x y ≡ None → has_at bounds slot x y ≡ false → first_at bounds (slots ++ slot ∷ []) x y ≡ None
none_found bounds slots slot x y none has =
    first_behind bounds slots slot x y
    ∙ (ap (λ o. option_or o (cond (has_at bounds slot x y) (Some slot) None)) none ∙ ap (λ b. cond b (Some slot) None) has)

-- a list in three parts: what is in front of an entry, the entry, and the rest
pub around_entry : (slots : List ℕ) (i : ℕ) → i < length slots → slots ≡ take i slots ++ get_or slots i 0 ∷ drop (i + 1) slots
around_entry slots i below = sym (take-append-drop i slots) ∙ ap (λ rest. take i slots ++ rest) (drop_more slots i 0 below)

-- the layers of a list and of more behind it
pub first_of_more : (bounds : List (Option Rectangle)) (slots more : List ℕ) (x y : ℤ)
    → first_at bounds (slots ++ more) x y ≡ option_or (first_at bounds slots x y) (first_at bounds more x y)
unfolding first_at
first_of_more bounds slots more x y = find-append (λ s. has_at bounds s x y) slots more

-- a list without a slot that hasn't the place has the same layer on top
first_without : (bounds : List (Option Rectangle)) (slots : List ℕ) (s : ℕ) (x y : ℤ) → has_at bounds s x y ≡ false
    → first_at bounds (without s slots) x y ≡ first_at bounds slots x y
unfolding first_at
first_without bounds [] s x y outside = refl
first_without bounds (t ∷ ts) s x y outside =
    by_test (t == s) refl (first_without bounds ts s x y outside)
  where
    by_test : (b : Bool) → (t == s) ≡ b
        → find (λ u. has_at bounds u x y) (without s ts) ≡ find (λ u. has_at bounds u x y) ts
        → find (λ u. has_at bounds u x y) (if not b then t ∷ without s ts else without s ts)
        ≡ cond (has_at bounds t x y) (Some t) (find (λ u. has_at bounds u x y) ts)
    by_test true e rest =
        rest ∙ sym (ap (λ h. cond h (Some t) (find (λ u. has_at bounds u x y) ts))
        (ap (λ u. has_at bounds u x y) (eqb-true t s e) ∙ outside))
    by_test false e rest = ap (λ o. cond (has_at bounds t x y) (Some t) o) rest

-- where the bounds have the place alike, so do the layers on top
first_alike : (bounds new_bounds : List (Option Rectangle)) (slots : List ℕ) (x y : ℤ)
    → ((t : ℕ) → has_at bounds t x y ≡ has_at new_bounds t x y) → first_at bounds slots x y ≡ first_at new_bounds slots x y
unfolding first_at
first_alike bounds new_bounds slots x y alike = ap (λ (test : ℕ → Bool). find test slots) (λ i. λ t. alike t i)

-- the top of a place is the first layer of the list that has it, on the screen, and off the screen there is none
pub top_where : (v : Stack) (x y : ℤ)
    → top_in v x y ≡ (if has_pixel (screen_bounds v.sizes) x y then first_at v.bounds v.front_to_back x y else None)
unfolding top_in first_at
top_where v x y = refl

pub top_on_screen : (v : Stack) (x y : ℤ) → has_pixel (screen_bounds v.sizes) x y ≡ true
    → top_in v x y ≡ first_at v.bounds v.front_to_back x y
top_on_screen v x y on = top_where v x y ∙ ap (λ b. if b then first_at v.bounds v.front_to_back x y else None) on

pub top_off_screen : (v : Stack) (x y : ℤ) → has_pixel (screen_bounds v.sizes) x y ≡ false → top_in v x y ≡ None
top_off_screen v x y off = top_where v x y ∙ ap (λ b. if b then first_at v.bounds v.front_to_back x y else None) off

-- a layer is on top where it is the first of the list, on the screen
pub is_top_where : (v : Stack) (s : ℕ) (x y : ℤ)
    → is_top_in v s x y ≡ (has_pixel (screen_bounds v.sizes) x y && is_first_at v.bounds v.front_to_back s x y)
is_top_where v s x y =
    ap (λ o. is_the o s) (top_where v x y)
    ∙ by_test (has_pixel (screen_bounds v.sizes) x y) (first_at v.bounds v.front_to_back x y)
  where
    by_test : (b : Bool) (o : Option ℕ) → is_the (if b then o else None) s ≡ (b && is_the o s)
    by_test true o = refl
    by_test false o = refl

-- a layer that doesn't have the place isn't on top of it
pub not_top : (v : Stack) (s : ℕ) (x y : ℤ) → has_at v.bounds s x y ≡ false → is_top_in v s x y ≡ false
not_top v s x y outside =
    is_top_where v s x y ∙ and_right (has_pixel (screen_bounds v.sizes) x y) _ (not_first v.bounds v.front_to_back s x y outside)

-- lists that differ in one slot have the same layer on top outside both of its bounds
pub top_elsewhere : ElsewhereLaw
top_elsewhere s v w x y differ outside =
    by_screen (has_pixel (screen_bounds v.sizes) x y) refl
  where
    same : (t : ℕ) (b : Bool) → (t == s) ≡ b → has_at v.bounds s x y ≡ false → has_at w.bounds s x y ≡ false
        → has_at v.bounds t x y ≡ has_at w.bounds t x y
    same t true e before after =
        ap (λ u. has_at v.bounds u x y) (eqb-true t s e)
        ∙ (before ∙ sym (ap (λ u. has_at w.bounds u x y) (eqb-true t s e) ∙ after))
    same t false e before after = ap (λ o. bounds_have o x y) (differ.others t e)

    by_screen : (b : Bool) → has_pixel (screen_bounds v.sizes) x y ≡ b → top_in v x y ≡ top_in w x y
    by_screen false off =
        top_off_screen v x y off ∙ sym (top_off_screen w x y (ap (λ z. has_pixel (screen_bounds z) x y) (sym differ.sizes) ∙ off))
    by_screen true on =
        let parts = or_parts (has_at v.bounds s x y) (has_at w.bounds s x y)
        (sym (ap (λ b. b && (has_at v.bounds s x y || has_at w.bounds s x y)) on) ∙ outside) in
        top_on_screen v x y on
        ∙ (sym (first_without v.bounds v.front_to_back s x y parts.0)
        ∙ (ap (λ us. first_at v.bounds us x y) differ.order
        ∙ (first_alike v.bounds w.bounds (without s w.front_to_back) x y (λ t. same t (t == s) refl parts.0 parts.1)
        ∙ (first_without w.bounds w.front_to_back s x y parts.1
        ∙ sym (top_on_screen w x y (ap (λ z. has_pixel (screen_bounds z) x y) (sym differ.sizes) ∙ on))))))
