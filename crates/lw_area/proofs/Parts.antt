-- The runs of a row, made from left to right.
use Rattle.std.proofs.Common.{◌≡◌, ℕ, zero, suc, ◌+◌, ◌-◌, ◌%◌, ◌==◌, unsigned_abs, length, subst, ◌<◌, ◌≤◌, Bool, true, false, cond, not, ◌&&◌, ◌||◌, List, [], ◌∷◌, ◌++◌, ℤ, pos, negsuc, ◌+ℤ◌, ◌-ℤ◌, ◌<ℤ◌, ◌≤ℤ◌, refl, ap, sym, ◌∙◌, arith}
use Rattle.std.specs.Prelude.{int_lt, int_le}
use Rattle.std.specs.Int.{bit_at, int_rem_euclid}
use Rattle.std.proofs.lemmas.Int.{ints, by_lt_z}
use Rattle.std.proofs.lemmas.Bool.{false≢true}
use Rattle.std.proofs.lemmas.List.{nil_from_length}
use Rattle.std.proofs.Math.Bool.{or-false, or_assoc}
use Rattle.lw_region.specs.Rectangle.{within}
use Rattle.lw_region.specs.Bands.{Run}
use Rattle.lw_region.specs.Banded.{in_runs, StartsAfter, AreRuns}
use Rattle.lw_region.proofs.Within.{within_true, within_below, within_above}
use Rattle.lw_region.specs.Order.{ComesBefore, IsInOrder}
use Rattle.lw_region.proofs.Numbers.{lt_of, of_lt}
use Rattle.lw_region.proofs.Columns.{le_true, le_false, le_lt_false}
use Rattle.lw_region.proofs.Runs.{in_runs_nil, in_runs_cons}
use Rattle.lw_region.proofs.Edges.{differ}
use Rattle.lw_area.specs.Patterns.{word_has}
use Rattle.lw_area.specs.Rows.{HaveColumns, odd_columns, EndBefore, AreUntil, GoOn}
use Rattle.lw_area.proofs.Odd.{odd_nil, odd_cons, differ_none, differ_again}

-- runs that end further left
pub end_less : (y z : ℤ) (rs : List Run) → y ≤ℤ z → EndBefore y rs → EndBefore z rs
end_less y z [] h k = tt
end_less y z (r ∷ rs) h k = (omega (arith, ints, k.0), end_less y z rs h k.1)

end_push : (z : ℤ) (rs : List Run) (r : Run) → EndBefore z rs → r.last <ℤ z → EndBefore z (rs ++ r ∷ [])
end_push z [] r h k = (k, tt)
end_push z (s ∷ rs) r h k = (h.0, end_push z rs r h.1 k)

starts_push : (z : ℤ) (rs : List Run) (r : Run) → StartsAfter z rs → z <ℤ r.first → StartsAfter z (rs ++ r ∷ [])
starts_push z [] r h k = k
starts_push z (s ∷ rs) r h k = h

runs_push : (rs : List Run) (r : Run) → AreRuns rs → EndBefore (r.first -ℤ pos 1) rs → r.first ≤ℤ r.last → AreRuns (rs ++ r ∷ [])
runs_push [] r h k l = (l, tt, tt)
runs_push (s ∷ rs) r h k l =
    let e = k.0 in (h.0, starts_push (s.last +ℤ pos 1) rs r h.1 (omega (arith, ints)), runs_push rs r h.2 k.1 l)

in_push : (rs : List Run) (r : Run) (x : ℤ) → in_runs (rs ++ r ∷ []) x ≡ (in_runs rs x || within r.first x r.last)
in_push [] r x = in_runs_cons r [] x ∙ (ap (λ w. within r.first x r.last || w) (in_runs_nil x) ∙ (or-false _ ∙ sym (ap (λ w. w || within r.first x r.last) (in_runs_nil x))))
in_push (s ∷ rs) r x =
    in_runs_cons s (rs ++ r ∷ []) x ∙ (ap (λ w. within s.first x s.last || w) (in_push rs r x)
    ∙ (sym (or_assoc (within s.first x s.last) (in_runs rs x) (within r.first x r.last)) ∙ ap (λ w. w || within r.first x r.last) (sym (in_runs_cons s rs x))))

-- no run yet
pub until_start : (at : ℤ) (due : ℤ → Bool) → ((x : ℤ) → x <ℤ at → due x ≡ false) → AreUntil at due []
until_start at due f = record {
  made = tt;
  ends = tt;
  has = λ x. in_runs_nil x ∙ by_lt_z x at (λ a. sym (ap (λ w. w && due x) (of_lt x at a) ∙ f x a)) (λ a. sym (ap (λ w. w && due x) (le_lt_false x at a)));
}

-- past columns that aren't due
pub until_skip : (at to : ℤ) (due : ℤ → Bool) (rs : List Run) → AreUntil at due rs → at ≤ℤ to → ((x : ℤ) → at ≤ℤ x → x <ℤ to → due x ≡ false) → AreUntil to due rs
until_skip at to due rs s h f = record {
  made = s.made;
  ends = end_less (at -ℤ pos 1) (to -ℤ pos 1) rs (omega (arith, ints)) s.ends;
  has = λ x. s.has x ∙ by_lt_z x at
      (λ a. ap (λ w. w && due x) (of_lt x at a ∙ sym (of_lt x to (omega (arith, ints)))))
      (λ a. ap (λ w. w && due x) (le_lt_false x at a) ∙ by_lt_z x to
      (λ b. sym (ap (λ w. w && due x) (of_lt x to b) ∙ f x a b))
      (λ b. sym (ap (λ w. w && due x) (le_lt_false x to b))));
}

-- one run more, after which a column isn't due
pub until_push : (at first last : ℤ) (due : ℤ → Bool) (rs : List Run) → AreUntil at due rs → at ≤ℤ first → first ≤ℤ last
    → ((x : ℤ) → at ≤ℤ x → x <ℤ first → due x ≡ false) → ((x : ℤ) → first ≤ℤ x → x ≤ℤ last → due x ≡ true) → due (last +ℤ pos 1) ≡ false
    → AreUntil (last +ℤ pos 2) due (rs ++ record { first = first; last = last } ∷ [])
until_push at first last due rs s h k f g e =
    let r : Run = record { first = first; last = last } in
    let p = until_skip at first due rs s h f in
    record {
      made = runs_push rs r p.made p.ends k;
      ends = end_push (last +ℤ pos 2 -ℤ pos 1) rs r (end_less (first -ℤ pos 1) (last +ℤ pos 2 -ℤ pos 1) rs (omega (arith, ints)) p.ends) (omega (arith, ints));
      has = λ x. in_push rs r x ∙ (ap (λ w. w || within first x last) (p.has x) ∙ by_lt_z x first
          (λ a. rw (of_lt x first a, of_lt x (last +ℤ pos 2) (omega (arith, ints)), within_below first x last a) (or-false (due x)))
          (λ a. rw (le_lt_false x first a) (by_lt_z last x
          (λ b. within_above first x last b ∙ by_lt_z x (last +ℤ pos 2)
          (λ c. let same : x ≡ last +ℤ pos 1 = omega (arith, ints) in sym (ap (λ w. w && due x) (of_lt x (last +ℤ pos 2) c) ∙ (ap due same ∙ e)))
          (λ c. sym (ap (λ w. w && due x) (le_lt_false x (last +ℤ pos 2) c))))
          (λ b. within_true first x last a b ∙ sym (ap (λ w. w && due x) (of_lt x (last +ℤ pos 2) (omega (arith, ints))) ∙ g x a b)))));
    }

-- Of the columns `first` to `last`, those left of `column` whose bits are 1 have gone into the runs.
pub record OnesUntil (word : ℕ) (first last : ℤ) (before : List Run) (column : ℤ) (after : List Run) : Type 0 where
  pub least : first ≤ℤ column
  pub most : column ≤ℤ (last +ℤ pos 2)
  pub until : (due : ℤ → Bool) → AreUntil first due before → ((x : ℤ) → first ≤ℤ x → x ≤ℤ last → due x ≡ word_has word x) → due (last +ℤ pos 1) ≡ false
      → AreUntil column due after

pub ones_start : (word : ℕ) (first last : ℤ) (before : List Run) → first ≤ℤ last → OnesUntil word first last before first before
ones_start word first last before h = record { least = omega (arith, ints); most = omega (arith, ints); until = λ due s f e. s }

-- a column whose bit is 0
pub ones_skip : (word : ℕ) (first last : ℤ) (before : List Run) (column to : ℤ) (after : List Run) → OnesUntil word first last before column after
    → column ≤ℤ last → to ≡ column +ℤ pos 1 → word_has word column ≡ false → OnesUntil word first last before to after
ones_skip word first last before column to after s h e n =
    let least = s.least in
    record {
      least = omega (arith, ints);
      most = omega (arith, ints);
      until = λ due a f g. until_skip column to due after (s.until due a f g) (omega (arith, ints))
          (λ x k l. let same : x ≡ column = omega (arith, ints) in ap due same ∙ (f column least h ∙ n));
    }

-- a run of columns whose bits are 1, and the column after it
pub ones_push : (word : ℕ) (first last : ℤ) (before : List Run) (column end to : ℤ) (r : Run) (after more : List Run) → OnesUntil word first last before column after
    → column ≤ℤ last → column <ℤ end → end ≤ℤ (last +ℤ pos 1) → to ≡ end +ℤ pos 1 → ((x : ℤ) → column ≤ℤ x → x <ℤ end → word_has word x ≡ true)
    → (end ≤ℤ last → word_has word end ≡ false) → r ≡ record { first = column; last = end -ℤ pos 1 } → more ≡ after ++ r ∷ []
    → OnesUntil word first last before to more
ones_push word first last before column end to r after more s h k l e ones ended same made =
    let least = s.least in
    let next : end -ℤ pos 1 +ℤ pos 1 ≡ end = omega (arith, ints) in
    let far : end -ℤ pos 1 +ℤ pos 2 ≡ to = omega (arith, ints) in
    record {
      least = omega (arith, ints);
      most = omega (arith, ints);
      until = λ due a f g.
          let off : due end ≡ false = by_lt_z last end (λ b. let z : end ≡ last +ℤ pos 1 = omega (arith, ints) in ap due z ∙ g)
          (λ b. f end (omega (arith, ints)) b ∙ ended b) in
          let p = until_push column column (end -ℤ pos 1) due after (s.until due a f g) (omega (arith, ints)) (omega (arith, ints))
          (λ x m n. absurd (omega (arith, ints)))
          (λ x m n. f x (omega (arith, ints)) (omega (arith, ints)) ∙ ones x m (omega (arith, ints))) (ap due next ∙ off) in
          rw (made, same) (subst (λ z. AreUntil z due (after ++ record { first = column; last = end -ℤ pos 1 } ∷ [])) far p);
    }

-- all columns went in
pub ones_end : (word : ℕ) (first last : ℤ) (before : List Run) (column : ℤ) (after : List Run) → OnesUntil word first last before column after → last <ℤ column
    → GoOn word first last before after
ones_end word first last before column after s h = λ due a f g.
    let most = s.most in
    until_skip column (last +ℤ pos 2) due after (s.until due a f g) most
    (λ x k l. let same : x ≡ last +ℤ pos 1 = omega (arith, ints) in ap due same ∙ g)

-- each bit of the word is 1
pub all_ones : (word : ℕ) (first last : ℤ) (before after : List Run) → first ≤ℤ last → ((x : ℤ) → word_has word x ≡ true)
    → after ≡ before ++ record { first = first; last = last } ∷ [] → GoOn word first last before after
all_ones word first last before after h f made = λ due a g e.
    rw made (until_push first first last due before a (omega (arith, ints)) h (λ x m n. absurd (omega (arith, ints))) (λ x m n. g x m n ∙ f x) e)

-- the columns begin at this one or right of it
abbrev pub BeginFrom : ℤ → List ℤ → Type 0
BeginFrom at [] = Unit {0}
BeginFrom at (c ∷ cs) = at ≤ℤ c

-- left of these columns none of their half rows begins
none_begun : (cs : List ℤ) (x : ℤ) → IsInOrder int_lt cs → BeginFrom (x +ℤ pos 1) cs → odd_columns cs x ≡ false
none_begun [] x h k = odd_nil (λ c. int_le c x)
none_begun (c ∷ cs) x h k =
    odd_cons (λ c. int_le c x) c cs
    ∙ (ap (λ w. differ w (odd_columns cs x)) (le_false c x (omega (arith, ints))) ∙ (differ_none (odd_columns cs x) ∙ none_begun cs x h.1 (later k cs h.0)))
  where
    later : (x +ℤ pos 1) ≤ℤ c → (ds : List ℤ) → ComesBefore int_lt c ds → BeginFrom (x +ℤ pos 1) ds
    later m [] h = tt
    later m (d ∷ ds) h = let l = lt_of c d h.0 in omega (arith, ints)

-- The runs up to where the columns that are left begin. These come in pairs.
pub record RunsLeft (word : ℕ) (all left : List ℤ) (runs : List Run) : Type 0 where
  pub at : ℤ
  pub until : AreUntil at (λ x. odd_columns all x && word_has word x) runs
  pub rising : IsInOrder int_lt left
  pub range : HaveColumns left
  pub pairs : length left % 2 ≡ 0
  pub begin : BeginFrom at left
  pub same : (x : ℤ) → at ≤ℤ x → odd_columns all x ≡ odd_columns left x

pub runs_start : (word : ℕ) (all : List ℤ) → IsInOrder int_lt all → HaveColumns all → length all % 2 ≡ 0 → RunsLeft word all all []
runs_start word all h k e = record {
  at = negsuc 2047;
  until = until_start (negsuc 2047) _ (λ x l. ap (λ w. w && word_has word x) (none_begun all x h (from_range all (x +ℤ pos 1) (omega (arith, ints)) k)));
  rising = h;
  range = k;
  pairs = e;
  begin = from_range all (negsuc 2047) (omega (arith, ints)) k;
  same = λ x l. refl;
}
  where
    from_range : (cs : List ℤ) (z : ℤ) → z ≤ℤ negsuc 2047 → HaveColumns cs → BeginFrom z cs
    from_range [] z l h = tt
    from_range (c ∷ cs) z l h = let m = h.0.0 in omega (arith, ints)

-- the columns that stand right of one
begin_after : (c : ℤ) (cs : List ℤ) → ComesBefore int_lt c cs → BeginFrom (c +ℤ pos 1) cs
begin_after c [] h = tt
begin_after c (d ∷ ds) h = let l = lt_of c d h.0 in omega (arith, ints)

begin_less : (y z : ℤ) (cs : List ℤ) → y ≤ℤ z → BeginFrom z cs → BeginFrom y cs
begin_less y z [] h k = tt
begin_less y z (c ∷ cs) h k = omega (arith, ints)

-- one pair of columns is done with
module _ (word : ℕ) (all left : List ℤ) (first behind : ℤ) (others rest : List ℤ) (before : List Run) where
  pub runs_pair : (from last : ℤ) (after : List Run) → RunsLeft word all left before → left ≡ first ∷ others → others ≡ behind ∷ rest
      → from ≡ first → last ≡ behind -ℤ pos 1 → GoOn word from last before after → RunsLeft word all rest after
  runs_pair from last after s e₀ e₁ f₀ f go₀ =
      let e : left ≡ first ∷ behind ∷ rest = e₀ ∙ ap (λ w. first ∷ w) e₁ in
      let go : GoOn word first last before after = subst (λ w. GoOn word w last before after) f₀ go₀ in
      let rising : IsInOrder int_lt (first ∷ behind ∷ rest) = subst (IsInOrder int_lt) e s.rising in
      let range : HaveColumns (first ∷ behind ∷ rest) = subst HaveColumns e s.range in
      let begin : BeginFrom s.at (first ∷ behind ∷ rest) = subst (BeginFrom s.at) e s.begin in
      let pairs : length (first ∷ behind ∷ rest) % 2 ≡ 0 = subst (λ w. length w % 2 ≡ 0) e s.pairs in
      let order = lt_of first behind rising.0.0 in
      let same : (x : ℤ) → s.at ≤ℤ x → odd_columns all x ≡ differ (int_le first x) (differ (int_le behind x) (odd_columns rest x)) = λ x l.
      s.same x l ∙ (ap (λ w. odd_columns w x) e ∙ (odd_cons (λ c. int_le c x) first (behind ∷ rest) ∙ ap (λ w. differ (int_le first x) w) (odd_cons (λ c. int_le c x) behind rest))) in
      let off : (x : ℤ) → x ≤ℤ behind → odd_columns rest x ≡ false = λ x l.
      none_begun rest x rising.1.1 (begin_less (x +ℤ pos 1) (behind +ℤ pos 1) rest (omega (arith, ints)) (begin_after behind rest rising.1.0)) in
      let due : ℤ → Bool = λ x. odd_columns all x && word_has word x in
      let none_here : (x : ℤ) → s.at ≤ℤ x → x <ℤ first → odd_columns all x ≡ false = λ x l m.
      same x l ∙ rw (le_false first x m, le_false behind x (omega (arith, ints)), off x (omega (arith, ints))) refl in
      let start : AreUntil first due before = until_skip s.at first due before s.until begin (λ x l m.
      ap (λ w. w && word_has word x) (none_here x l m)) in
      let next : last +ℤ pos 2 ≡ behind +ℤ pos 1 = omega (arith, ints) in
      let at_end : last +ℤ pos 1 ≡ behind = omega (arith, ints) in
      let below_first : s.at ≤ℤ first = begin in
      let off_here : odd_columns all behind ≡ false = same behind (omega (arith, ints))
      ∙ rw (le_true first behind (omega (arith, ints)), le_true behind behind (omega (arith, ints)), off behind (omega (arith, ints))) refl in
      let on_here : (x : ℤ) → first ≤ℤ x → x ≤ℤ last → odd_columns all x ≡ true = λ x l m. same x (omega (arith, ints))
      ∙ rw (le_true first x l, le_false behind x (omega (arith, ints)), off x (omega (arith, ints))) refl in
      record {
        at = behind +ℤ pos 1;
        until = subst (λ z. AreUntil z due after) next (go due start (λ x l m. ap (λ w. w && word_has word x) (on_here x l m)) (ap due at_end ∙ ap (λ w. w && word_has word behind) off_here));
        rising = rising.1.1;
        range = range.1.1;
        pairs = omega arith;
        begin = begin_after behind rest rising.1.0;
        same = λ x l. same x (omega (arith, ints))
            ∙ rw (le_true first x (omega (arith, ints)), le_true behind x (omega (arith, ints))) (differ_again true (odd_columns rest x));
      }

-- no pair is left
pub runs_end : (word : ℕ) (all left : List ℤ) (runs : List Run) → RunsLeft word all left runs → length left < 2
    → AreRuns runs × ((x : ℤ) → in_runs runs x ≡ (odd_columns all x && word_has word x))
runs_end word all left runs s h =
    let none : left ≡ [] = nil_from_length left (let e = s.pairs in omega arith) in (
      s.until.made,
      λ x. s.until.has x ∙ by_lt_z x s.at
          (λ a. ap (λ w. w && (odd_columns all x && word_has word x)) (of_lt x s.at a))
          (λ a. let off : odd_columns all x ≡ false = s.same x a ∙ (ap (λ w. odd_columns w x) none ∙ odd_nil (λ c. int_le c x)) in
          ap (λ w. w && (odd_columns all x && word_has word x)) (le_lt_false x s.at a) ∙ sym (ap (λ w. w && word_has word x) off)),
    )

-- the word ffff has each of its bits
full_bit : (k : ℕ) → k < 16 → (bit_at 65535 k == 1) ≡ true
full_bit zero h = refl
full_bit (suc zero) h = refl
full_bit (suc (suc zero)) h = refl
full_bit (suc (suc (suc zero))) h = refl
full_bit (suc (suc (suc (suc zero)))) h = refl
full_bit (suc (suc (suc (suc (suc zero))))) h = refl
full_bit (suc (suc (suc (suc (suc (suc zero)))))) h = refl
full_bit (suc (suc (suc (suc (suc (suc (suc zero))))))) h = refl
full_bit (suc (suc (suc (suc (suc (suc (suc (suc zero)))))))) h = refl
full_bit (suc (suc (suc (suc (suc (suc (suc (suc (suc zero))))))))) h = refl
full_bit (suc (suc (suc (suc (suc (suc (suc (suc (suc (suc zero)))))))))) h = refl
full_bit (suc (suc (suc (suc (suc (suc (suc (suc (suc (suc (suc zero))))))))))) h = refl
full_bit (suc (suc (suc (suc (suc (suc (suc (suc (suc (suc (suc (suc zero)))))))))))) h = refl
full_bit (suc (suc (suc (suc (suc (suc (suc (suc (suc (suc (suc (suc (suc zero))))))))))))) h = refl
full_bit (suc (suc (suc (suc (suc (suc (suc (suc (suc (suc (suc (suc (suc (suc zero)))))))))))))) h = refl
full_bit (suc (suc (suc (suc (suc (suc (suc (suc (suc (suc (suc (suc (suc (suc (suc zero))))))))))))))) h = refl
full_bit (suc (suc (suc (suc (suc (suc (suc (suc (suc (suc (suc (suc (suc (suc (suc (suc n)))))))))))))))) h = absurd (omega arith)

pub full_word : (word : ℕ) (x : ℤ) → word ≡ 65535 → word_has word x ≡ true
unfolding word_has
full_word word x e = ap (λ w. bit_at w (15 - unsigned_abs (int_rem_euclid x (pos 16))) == 1) e ∙ full_bit (15 - unsigned_abs (int_rem_euclid x (pos 16))) (omega arith)
