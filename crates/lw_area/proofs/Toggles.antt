-- Half rows that are taken to others of a row, by the columns at which they begin.
use Rattle.std.proofs.Common.{◌≡◌, ℕ, suc, ◌+◌, ◌<◌, ◌≤◌, Bool, true, false, cond, not, ◌&&◌, ◌||◌, List, [], ◌∷◌, length, get_or, take, ℤ, ◌<ℤ◌, ◌≤ℤ◌, refl, ap, sym, ◌∙◌, arith}
use Rattle.std.specs.Prelude.{int_lt, int_le}
use Rattle.std.specs.List.{prefix_len, insert, remove}
use Rattle.std.proofs.lemmas.Int.{ints}
use Rattle.std.proofs.lemmas.List.{take_more}
use Rattle.lw_region.specs.Order.{ComesBefore, IsInOrder}
use Rattle.lw_region.proofs.Numbers.{int_total, int_trans, lt_of, of_lt}
use Rattle.lw_region.proofs.Edges.{differ, differ_comm}
use Rattle.lw_area.specs.Polygons.{holds_of_odd}
use Rattle.lw_area.specs.declared.slab.Edge.{Edge}
use Rattle.lw_area.specs.Rows.{IsColumn, HaveColumns, toggled, odd_columns, AreColumns, is_passed}
use Rattle.lw_area.proofs.Odd.{odd_nil, odd_cons, odd_append, differ_swap, differ_again}

one_more : (n : ℕ) → 1 + n ≡ suc n
one_more n = omega arith

-- the column that is taken out stands where those left of it end
removed_step : (c d : ℤ) (ds : List ℤ) (n : ℕ) (x : ℤ)
    → ((m : ℕ) → m ≡ prefix_len (λ z. int_lt z c) ds → m < length ds → x ≡ get_or ds m x → x ≡ c → remove ds m ≡ toggled c ds)
    → (t : Bool) → int_lt d c ≡ t → n ≡ cond t (1 + prefix_len (λ z. int_lt z c) ds) 0 → n < 1 + length ds → x ≡ get_or (d ∷ ds) n x → x ≡ c
    → remove (d ∷ ds) n ≡ cond t (d ∷ toggled c ds) (cond (int_lt c d) (c ∷ d ∷ ds) ds)
removed_step c d ds n x h true e m l f g =
    let k : remove ds (prefix_len (λ z. int_lt z c) ds) ≡ toggled c ds =
    h (prefix_len (λ z. int_lt z c) ds) refl (omega arith) (f ∙ ap (λ w. get_or (d ∷ ds) w x) (m ∙ one_more _)) g in
    ap (λ w. remove (d ∷ ds) w) (m ∙ one_more _) ∙ ap (λ w. d ∷ w) k
removed_step c d ds n x h false e m l f g =
    let same : d ≡ c = sym (f ∙ ap (λ w. get_or (d ∷ ds) w x) m) ∙ g in
    let no_lt : int_lt c d ≡ false = ap (λ w. int_lt c w) same ∙ (ap (λ w. int_lt w c) (sym same) ∙ e) in
    ap (λ w. remove (d ∷ ds) w) m ∙ sym (ap (λ w. cond w (c ∷ d ∷ ds) ds) no_lt)

pub toggled_removed : (c : ℤ) (cs : List ℤ) (n : ℕ) (x : ℤ) → n ≡ prefix_len (λ z. int_lt z c) cs → n < length cs → x ≡ get_or cs n x → x ≡ c
    → remove cs n ≡ toggled c cs
toggled_removed c [] n x m l f g = absurd (omega arith)
toggled_removed c (d ∷ ds) n x m l f g =
    removed_step c d ds n x (λ k a b e h. toggled_removed c ds k x a b e h) (int_lt d c) refl m (omega arith) f g

-- and the one that is put in, too
inserted_step : (c d : ℤ) (ds : List ℤ) (n : ℕ)
    → ((m : ℕ) → m ≡ prefix_len (λ z. int_lt z c) ds → ((x : ℤ) → m < length ds → x ≡ get_or ds m x → x ≡ c → ⊥) → insert ds m c ≡ toggled c ds)
    → (t : Bool) → int_lt d c ≡ t → n ≡ cond t (1 + prefix_len (λ z. int_lt z c) ds) 0
    → ((x : ℤ) → n < 1 + length ds → x ≡ get_or (d ∷ ds) n x → x ≡ c → ⊥)
    → insert (d ∷ ds) n c ≡ cond t (d ∷ toggled c ds) (cond (int_lt c d) (c ∷ d ∷ ds) ds)
inserted_step c d ds n h true e m f =
    let k : insert ds (prefix_len (λ z. int_lt z c) ds) c ≡ toggled c ds =
    h (prefix_len (λ z. int_lt z c) ds) refl (λ x l a b. f x (omega arith) (a ∙ ap (λ w. get_or (d ∷ ds) w x) (sym (m ∙ one_more _))) b) in
    ap (λ w. insert (d ∷ ds) w c) (m ∙ one_more _) ∙ ap (λ w. d ∷ w) k
inserted_step c d ds n h false e m f = inserted_here c d ds n m (int_lt c d) refl e f
  where
    inserted_here : (c d : ℤ) (ds : List ℤ) (n : ℕ) → n ≡ 0 → (t : Bool) → int_lt c d ≡ t → int_lt d c ≡ false
        → ((x : ℤ) → n < 1 + length ds → x ≡ get_or (d ∷ ds) n x → x ≡ c → ⊥) → insert (d ∷ ds) n c ≡ cond t (c ∷ d ∷ ds) ds
    inserted_here c d ds n m true e g f = ap (λ w. insert (d ∷ ds) w c) m
    inserted_here c d ds n m false e g f = absurd (f d (omega arith) (ap (λ w. get_or (d ∷ ds) w d) (sym m)) (int_total d c g e))

pub toggled_inserted : (c : ℤ) (cs : List ℤ) (n : ℕ) → n ≡ prefix_len (λ z. int_lt z c) cs
    → ((x : ℤ) → n < length cs → x ≡ get_or cs n x → x ≡ c → ⊥) → insert cs n c ≡ toggled c cs
toggled_inserted c [] n m f = ap (λ w. insert [] w c) m
toggled_inserted c (d ∷ ds) n m f = inserted_step c d ds n (λ k a g. toggled_inserted c ds k a g) (int_lt d c) refl m (λ x l. f x (omega arith))

-- the columns in range
range_step : (c d : ℤ) (ds : List ℤ) → IsColumn c → IsColumn d → HaveColumns ds → HaveColumns (toggled c ds) → (s t : Bool)
    → HaveColumns (cond s (d ∷ toggled c ds) (cond t (c ∷ d ∷ ds) ds))
range_step c d ds h k l m true t = (k, m)
range_step c d ds h k l m false true = (h, (k, l))
range_step c d ds h k l m false false = l

pub toggled_range : (c : ℤ) (cs : List ℤ) → IsColumn c → HaveColumns cs → HaveColumns (toggled c cs)
toggled_range c [] h k = (h, tt)
toggled_range c (d ∷ ds) h k = range_step c d ds h k.0 k.1 (toggled_range c ds h k.1) (int_lt d c) (int_lt c d)

-- what comes before all
before_all : (a b : ℤ) (cs : List ℤ) → int_lt a b ≡ true → ComesBefore int_lt b cs → ComesBefore int_lt a cs
before_all a b [] h k = tt
before_all a b (c ∷ cs) h k = (int_trans a b c h k.0, before_all a b cs h k.1)

before_step : (b c d : ℤ) (ds : List ℤ) → int_lt b c ≡ true → int_lt b d ≡ true → ComesBefore int_lt b ds → ComesBefore int_lt b (toggled c ds) → (s t : Bool)
    → ComesBefore int_lt b (cond s (d ∷ toggled c ds) (cond t (c ∷ d ∷ ds) ds))
before_step b c d ds h k l m true t = (k, m)
before_step b c d ds h k l m false true = (h, (k, l))
before_step b c d ds h k l m false false = l

before_toggled : (b c : ℤ) (cs : List ℤ) → int_lt b c ≡ true → ComesBefore int_lt b cs → ComesBefore int_lt b (toggled c cs)
before_toggled b c [] h k = (h, tt)
before_toggled b c (d ∷ ds) h k = before_step b c d ds h k.0 k.1 (before_toggled b c ds h k.1) (int_lt d c) (int_lt c d)

rising_step : (c d : ℤ) (ds : List ℤ) → ComesBefore int_lt d ds → IsInOrder int_lt ds → IsInOrder int_lt (toggled c ds) → (s t : Bool) → int_lt d c ≡ s → int_lt c d ≡ t
    → IsInOrder int_lt (cond s (d ∷ toggled c ds) (cond t (c ∷ d ∷ ds) ds))
rising_step c d ds h k m true t e f = (before_toggled d c ds e h, m)
rising_step c d ds h k m false true e f = ((f, before_all c d ds f h), (h, k))
rising_step c d ds h k m false false e f = k

pub toggled_rising : (c : ℤ) (cs : List ℤ) → IsInOrder int_lt cs → IsInOrder int_lt (toggled c cs)
toggled_rising c [] h = (tt, tt)
toggled_rising c (d ∷ ds) h = rising_step c d ds h.0 h.1 (toggled_rising c ds h.1) (int_lt d c) (int_lt c d) refl refl

-- one half row more
odd_step : (c d x : ℤ) (ds : List ℤ) → odd_columns (toggled c ds) x ≡ differ (int_le c x) (odd_columns ds x) → (s t : Bool) → int_lt d c ≡ s → int_lt c d ≡ t
    → odd_columns (cond s (d ∷ toggled c ds) (cond t (c ∷ d ∷ ds) ds)) x ≡ differ (int_le c x) (odd_columns (d ∷ ds) x)
odd_step c d x ds h true t e f =
    odd_cons (λ z. int_le z x) d (toggled c ds)
    ∙ (ap (λ w. differ (int_le d x) w) h
    ∙ (differ_swap (int_le d x) (int_le c x) (odd_columns ds x) ∙ ap (λ w. differ (int_le c x) w) (sym (odd_cons (λ z. int_le z x) d ds))))
odd_step c d x ds h false true e f = odd_cons (λ z. int_le z x) c (d ∷ ds)
odd_step c d x ds h false false e f =
    let same : c ≡ d = int_total c d f e in
    sym (differ_again (int_le c x) (odd_columns ds x))
    ∙ (ap (λ w. differ (int_le c x) (differ (int_le w x) (odd_columns ds x))) same ∙ ap (λ w. differ (int_le c x) w) (sym (odd_cons (λ z. int_le z x) d ds)))

pub toggled_odd : (c : ℤ) (cs : List ℤ) (x : ℤ) → odd_columns (toggled c cs) x ≡ differ (int_le c x) (odd_columns cs x)
toggled_odd c [] x = odd_cons (λ z. int_le z x) c []
toggled_odd c (d ∷ ds) x = odd_step c d x ds (toggled_odd c ds x) (int_lt d c) (int_lt c d) refl refl

-- no edge, and one more
pub columns_none : (row : ℤ) (cs : List ℤ) → cs ≡ [] → AreColumns [] row cs
columns_none row cs e = rw e (record { rising = tt; range = tt; odd = λ x. odd_nil (λ c. int_le c x) ∙ sym (odd_nil (is_passed x row)) })

pub columns_more : (edges : List Edge) (i : ℕ) (d : Edge) (row c to : ℤ) (cs new : List ℤ) → i < length edges → AreColumns (take i edges) row cs
    → ((x : ℤ) → is_passed x row (get_or edges i d) ≡ int_le c x) → IsColumn c → to ≡ c → new ≡ toggled to cs → AreColumns (take (i + 1) edges) row new
columns_more edges i d row c to cs new l s f k e g =
    let h : new ≡ toggled c cs = g ∙ ap (λ w. toggled w cs) e in
    rw (h, take_more edges i d l) (record {
      rising = toggled_rising c cs s.rising;
      range = toggled_range c cs k s.range;
      odd = λ x. toggled_odd c cs x ∙ (ap (λ w. differ (int_le c x) w) (s.odd x) ∙ sym (odd_append (is_passed x row) (take i edges) (get_or edges i d ∷ [])
          ∙ (ap (λ w. differ (holds_of_odd (is_passed x row) (take i edges)) w) (odd_cons (is_passed x row) (get_or edges i d) []
          ∙ (ap (λ w. differ (is_passed x row (get_or edges i d)) w) (odd_nil (is_passed x row)) ∙ (differ_end (is_passed x row (get_or edges i d)) ∙ f x)))
          ∙ differ_comm (holds_of_odd (is_passed x row) (take i edges)) (int_le c x))));
    })
  where
    differ_end : (p : Bool) → differ p false ≡ p
    differ_end true = refl
    differ_end false = refl
