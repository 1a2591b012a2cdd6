-- Lists that are put in order: what they hold, and that one set of elements has one such list.
use Rattle.std.proofs.Common.{◌≡◌, Bool, true, false, cond, ◌&&◌, ◌||◌, List, [], ◌∷◌, refl, ap, sym, ◌∙◌}
use Rattle.std.specs.List.{list_any, filter}
use Rattle.std.proofs.lemmas.Bool.{false≢true, false_from_ne_true, or_left}
use Rattle.lw_region.specs.Order.{put_in_order, in_order, ComesBefore, IsInOrder}

-- a test on either of two, in the other order
pub or_swap : (p q r : Bool) → (p || (q || r)) ≡ (q || (p || r))
or_swap true true r = refl
or_swap true false r = refl
or_swap false true r = refl
or_swap false false r = refl

-- a test made twice
or_again : (q r : Bool) → (q || r) ≡ (q || (q || r))
or_again true r = refl
or_again false r = refl

-- the three ways to put an element in
any_put_step : {A : Type 0} (before : A → A → Bool) → ((a b : A) → before a b ≡ false → before b a ≡ false → a ≡ b)
    → (p : A → Bool) (a b : A) (bs : List A) → list_any p (put_in_order before a bs) ≡ (p a || list_any p bs)
    → (s t : Bool) → before a b ≡ s → before b a ≡ t
    → list_any p (cond s (a ∷ b ∷ bs) (cond t (b ∷ put_in_order before a bs) (b ∷ bs))) ≡ (p a || (p b || list_any p bs))
any_put_step before total p a b bs h true t e f = refl
any_put_step before total p a b bs h false true e f = ap (λ z. p b || z) h ∙ or_swap (p b) (p a) (list_any p bs)
any_put_step before total p a b bs h false false e f = rw (total a b e f) (or_again (p b) (list_any p bs))

-- a test within itself
pub absorbed : (p q : Bool) → (p || (q && p)) ≡ p
absorbed true q = refl
absorbed false true = refl
absorbed false false = refl

-- what is put in passes where it did or where the list did
pub any_put : {A : Type 0} (before : A → A → Bool) → ((a b : A) → before a b ≡ false → before b a ≡ false → a ≡ b)
    → (p : A → Bool) (a : A) (bs : List A) → list_any p (put_in_order before a bs) ≡ (p a || list_any p bs)
any_put before total p a [] = refl
any_put before total p a (b ∷ bs) =
    any_put_step before total p a b bs (any_put before total p a bs) (before a b) (before b a) refl refl

-- some element of a list in order passes where one of the list did
pub any_in_order : {A : Type 0} (before : A → A → Bool) → ((a b : A) → before a b ≡ false → before b a ≡ false → a ≡ b)
    → (p : A → Bool) (s : List A) → list_any p (in_order before s) ≡ list_any p s
any_in_order before total p [] = refl
any_in_order before total p (a ∷ s) =
    any_put before total p a (in_order before s) ∙ ap (λ z. p a || z) (any_in_order before total p s)

-- what comes before an element comes before all that stand after it
before_all : {A : Type 0} (before : A → A → Bool) → ((a b c : A) → before a b ≡ true → before b c ≡ true → before a c ≡ true)
    → (a b : A) (bs : List A) → before a b ≡ true → ComesBefore before b bs → ComesBefore before a bs
before_all before trans a b [] h k = tt
before_all before trans a b (c ∷ bs) h k = (trans a b c h k.0, before_all before trans a b bs h k.1)

-- the three ways to put an element after another
before_put_step : {A : Type 0} (before : A → A → Bool) (c a b : A) (bs : List A) → before c a ≡ true → before c b ≡ true → ComesBefore before c bs
    → ComesBefore before c (put_in_order before a bs)
    → (s t : Bool) → ComesBefore before c (cond s (a ∷ b ∷ bs) (cond t (b ∷ put_in_order before a bs) (b ∷ bs)))
before_put_step before c a b bs h k l m true t = (h, (k, l))
before_put_step before c a b bs h k l m false true = (k, m)
before_put_step before c a b bs h k l m false false = (k, l)

-- what comes before a list and before what is put into it comes before both together
before_put : {A : Type 0} (before : A → A → Bool) (c a : A) (bs : List A) → before c a ≡ true → ComesBefore before c bs
    → ComesBefore before c (put_in_order before a bs)
before_put before c a [] h k = (h, tt)
before_put before c a (b ∷ bs) h k =
    before_put_step before c a b bs h k.0 k.1 (before_put before c a bs h k.1) (before a b) (before b a)

-- the three ways to put an element in order
ordered_put_step : {A : Type 0} (before : A → A → Bool) → ((a b c : A) → before a b ≡ true → before b c ≡ true → before a c ≡ true)
    → (a b : A) (bs : List A) → ComesBefore before b bs → IsInOrder before bs → IsInOrder before (put_in_order before a bs)
    → (s t : Bool) → before a b ≡ s → before b a ≡ t
    → IsInOrder before (cond s (a ∷ b ∷ bs) (cond t (b ∷ put_in_order before a bs) (b ∷ bs)))
ordered_put_step before trans a b bs h k l true t e f = ((e, before_all before trans a b bs e h), (h, k))
ordered_put_step before trans a b bs h k l false true e f = (before_put before b a bs f h, l)
ordered_put_step before trans a b bs h k l false false e f = (h, k)

-- a list in order stays so where something is put in
ordered_put : {A : Type 0} (before : A → A → Bool) → ((a b c : A) → before a b ≡ true → before b c ≡ true → before a c ≡ true)
    → (a : A) (bs : List A) → IsInOrder before bs → IsInOrder before (put_in_order before a bs)
ordered_put before trans a [] h = (tt, tt)
ordered_put before trans a (b ∷ bs) h =
    ordered_put_step before trans a b bs h.0 h.1 (ordered_put before trans a bs h.1) (before a b) (before b a) refl refl

-- `in_order` puts in order
pub ordered_in_order : {A : Type 0} (before : A → A → Bool) → ((a b c : A) → before a b ≡ true → before b c ≡ true → before a c ≡ true)
    → (s : List A) → IsInOrder before (in_order before s)
ordered_in_order before trans [] = tt
ordered_in_order before trans (a ∷ s) = ordered_put before trans a (in_order before s) (ordered_in_order before trans s)

-- what comes before an element and those kept
before_filter_step : {A : Type 0} (before : A → A → Bool) (p : A → Bool) (a b : A) (bs : List A) → before a b ≡ true → ComesBefore before a (filter p bs)
    → (t : Bool) → ComesBefore before a (cond t (b ∷ filter p bs) (filter p bs))
before_filter_step before p a b bs h k true = (h, k)
before_filter_step before p a b bs h k false = k

-- what comes before a list comes before what is kept of it
before_filter : {A : Type 0} (before : A → A → Bool) (p : A → Bool) (a : A) (bs : List A) → ComesBefore before a bs → ComesBefore before a (filter p bs)
before_filter before p a [] h = tt
before_filter before p a (b ∷ bs) h = before_filter_step before p a b bs h.0 (before_filter before p a bs h.1) (p b)

-- one more element that is kept or not
ordered_filter_step : {A : Type 0} (before : A → A → Bool) (p : A → Bool) (b : A) (bs : List A) → ComesBefore before b (filter p bs) → IsInOrder before (filter p bs)
    → (t : Bool) → IsInOrder before (cond t (b ∷ filter p bs) (filter p bs))
ordered_filter_step before p b bs h k true = (h, k)
ordered_filter_step before p b bs h k false = k

-- what a filter keeps of a list in order is in order
pub ordered_filter : {A : Type 0} (before : A → A → Bool) (p : A → Bool) (s : List A) → IsInOrder before s → IsInOrder before (filter p s)
ordered_filter before p [] h = tt
ordered_filter before p (b ∷ bs) h =
    ordered_filter_step before p b bs (before_filter before p b bs h.0) (ordered_filter before p bs h.1) (p b)

-- in a list in order nothing passes a test that fails wherever a comes before
pub none_behind : {A : Type 0} (before : A → A → Bool) (p : A → Bool) (a : A) → ((b : A) → before a b ≡ true → p b ≡ false)
    → (bs : List A) → ComesBefore before a bs → list_any p bs ≡ false
none_behind before p a h [] k = refl
none_behind before p a h (b ∷ bs) k = rw (h b k.0) (none_behind before p a h bs k.1)

-- a test that fails settles nothing
or_cancel : (p q r : Bool) → p ≡ false → (p || q) ≡ (p || r) → q ≡ r
or_cancel p q r e h = rw e at h

module _ {A : Type 0} (before same : A → A → Bool)
    (total : (a b : A) → before a b ≡ false → before b a ≡ false → a ≡ b)
    (trans : (a b c : A) → before a b ≡ true → before b c ≡ true → before a c ≡ true)
    (itself : (a : A) → same a a ≡ true)
    (equal : (a b : A) → same a b ≡ true → a ≡ b)
    (apart : (a b : A) → before a b ≡ true → same b a ≡ false) where
  -- what comes before the first of a list in order is not in it
  absent : (a : A) (ys : List A) → ComesBefore before a ys → list_any (λ z. same z a) ys ≡ false
  absent a ys h = none_behind before (λ z. same z a) a (apart a) ys h

  -- the first elements of two lists with the same elements are not one before the other
  not_before : (a b : A) (xs ys : List A) → ComesBefore before b ys
      → ((c : A) → list_any (λ z. same z c) (a ∷ xs) ≡ list_any (λ z. same z c) (b ∷ ys)) → before a b ≡ true → ⊥
  not_before a b xs ys k h e =
      false≢true (sym (absent a (b ∷ ys) (e, before_all before trans a b ys e k)) ∙ (sym (h a) ∙ or_left _ _ (itself a)))

  -- the rests of two lists with the same elements have the same
  same_tails : (a b : A) (xs ys : List A) → ComesBefore before a xs → ComesBefore before b ys → a ≡ b
      → ((c : A) → list_any (λ z. same z c) (a ∷ xs) ≡ list_any (λ z. same z c) (b ∷ ys))
      → (c : A) (t : Bool) → same a c ≡ t → list_any (λ z. same z c) xs ≡ list_any (λ z. same z c) ys
  same_tails a b xs ys j k e h c true t =
      let f : a ≡ c = equal a c t in
      let g = rw f at j in
      let i = rw (sym e ∙ f) at k in
      absent c xs g ∙ sym (absent c ys i)
  same_tails a b xs ys j k e h c false t =
      let i = rw (sym e) at (h c) in
      or_cancel (same a c) _ _ t i

  -- two lists in order with the same elements are one
  pub one_order : (xs ys : List A) → IsInOrder before xs → IsInOrder before ys
      → ((c : A) → list_any (λ z. same z c) xs ≡ list_any (λ z. same z c) ys) → xs ≡ ys
  one_order [] [] j k h = refl
  one_order [] (b ∷ ys) j k h = absurd (false≢true (h b ∙ or_left _ _ (itself b)))
  one_order (a ∷ xs) [] j k h = absurd (false≢true (sym (h a) ∙ or_left _ _ (itself a)))
  one_order (a ∷ xs) (b ∷ ys) j k h =
      let e : a ≡ b = total a b (false_from_ne_true _ (not_before a b xs ys k.0 h)) (false_from_ne_true _ (not_before b a ys xs j.0 (λ c. sym (h c)))) in
      rw (e, one_order xs ys j.1 k.1 (λ c. same_tails a b xs ys j.0 k.0 e h c (same a c) refl))
