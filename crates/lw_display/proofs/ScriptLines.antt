-- Lines and the bytes that they have.
use Rattle.std.proofs.Common.{◌≡◌, ℕ, suc, ◌+◌, ◌≤◌, ◌==◌, Bool, true, false, not, ◌&&◌, cond, List, [], ◌∷◌, ◌++◌, length, refl, ap, ◌∙◌, arith, length-append}
use Rattle.std.specs.List.{onto_first, list_all}
use Rattle.std.proofs.lemmas.Bool.{false≢true}
use Rattle.lw_grammar.specs.Lines.{lines}
use Rattle.lw_display.specs.ShowRule.{bytes_of}

-- no byte of a line is a line feed
abbrev pub is_no_feed : ℕ → Bool
is_no_feed b = not (b == 10)

abbrev pub IsLine : List ℕ → Type 0
IsLine line = list_all is_no_feed line ≡ true

abbrev pub AreLines : List (List ℕ) → Type 0
AreLines [] = Unit {0}
AreLines (line ∷ ls) = IsLine line × AreLines ls

-- a line put before bytes
one_line : (l r : List ℕ) → IsLine l → lines (l ++ 10 ∷ r) ≡ l ∷ lines r
one_line [] r h = refl
one_line (b ∷ l) r h = go (b == 10) (λ e. one_line l r e) h
  where
    go : (t : Bool) → (IsLine l → lines (l ++ 10 ∷ r) ≡ l ∷ lines r) → (not t && list_all is_no_feed l) ≡ true → cond t ([] ∷ lines (l ++ 10 ∷ r)) (onto_first b (lines (l ++ 10 ∷ r))) ≡ (b ∷ l) ∷ lines r
    go true k e = absurd (false≢true e)
    go false k e = ap (onto_first b) (k e)

-- the lines of the bytes of lines are these
pub lines_of_bytes : (ls : List (List ℕ)) → AreLines ls → lines (bytes_of ls) ≡ ls
lines_of_bytes [] h = refl
lines_of_bytes (l ∷ ls) h = one_line l (bytes_of ls) h.0 ∙ ap (λ ms. l ∷ ms) (lines_of_bytes ls h.1)

-- the lines of bytes are lines
onto_lines : (b : ℕ) (ls : List (List ℕ)) → (b == 10) ≡ false → AreLines ls → AreLines (onto_first b ls)
onto_lines b [] e h = (ap (λ t. not t && true) e, tt)
onto_lines b (l ∷ ls) e h = (ap (λ t. not t && list_all is_no_feed l) e ∙ h.0, h.1)

pub are_lines : (bs : List ℕ) → AreLines (lines bs)
are_lines [] = tt
are_lines (b ∷ bs) = go (b == 10) refl (are_lines bs)
  where
    go : (t : Bool) → (b == 10) ≡ t → AreLines (lines bs) → AreLines (cond t ([] ∷ lines bs) (onto_first b (lines bs)))
    go true e k = (refl, k)
    go false e k = onto_lines b (lines bs) e k

-- lines with one more
pub lines_push : (ls : List (List ℕ)) (l : List ℕ) → AreLines ls → IsLine l → AreLines (ls ++ l ∷ [])
lines_push [] l h e = (e, tt)
lines_push (m ∷ ls) l h e = (h.0, lines_push ls l h.1 e)

pub bytes_push : (ls : List (List ℕ)) (l : List ℕ) → bytes_of (ls ++ l ∷ []) ≡ (bytes_of ls ++ l) ++ 10 ∷ []
bytes_push [] l = refl
bytes_push (m ∷ ls) l = go m (bytes_of ls) (bytes_of (ls ++ l ∷ [])) (bytes_push ls l)
  where
    go : (m bs cs : List ℕ) → cs ≡ (bs ++ l) ++ 10 ∷ [] → m ++ 10 ∷ cs ≡ ((m ++ 10 ∷ bs) ++ l) ++ 10 ∷ []
    go [] bs cs e = ap (λ x. 10 ∷ x) e
    go (x ∷ m) bs cs e = ap (λ y. x ∷ y) (go m bs cs e)

pub bytes_long : (ls : List (List ℕ)) (l : List ℕ) → length (bytes_of (ls ++ l ∷ [])) ≡ length (bytes_of ls) + (length l + 1)
bytes_long ls l =
    let a = ap length (bytes_push ls l) in
    let b = length-append (bytes_of ls ++ l) (10 ∷ []) in
    let c = length-append (bytes_of ls) l in
    omega (arith, a, b, c)

pub count_push : (ls : List (List ℕ)) (l : List ℕ) → length (ls ++ l ∷ []) ≡ length ls + 1
count_push ls l = length-append ls (l ∷ [])

-- the first line of bytes is no longer than they are
abbrev first_length : List (List ℕ) → ℕ
first_length [] = 0
first_length (l ∷ ls) = length l

onto_short : (b n : ℕ) (ls : List (List ℕ)) → first_length ls ≤ n → first_length (onto_first b ls) ≤ suc n
onto_short b n [] h = omega arith
onto_short b n (l ∷ ls) h = omega (arith, h)

first_short : (bs : List ℕ) → first_length (lines bs) ≤ length bs
first_short [] = omega arith
first_short (b ∷ bs) = go (b == 10) (first_short bs)
  where
    go : (t : Bool) → first_length (lines bs) ≤ length bs → first_length (cond t ([] ∷ lines bs) (onto_first b (lines bs))) ≤ suc (length bs)
    go true h = omega arith
    go false h = onto_short b (length bs) (lines bs) h

pub line_short : (bs l : List ℕ) (ls : List (List ℕ)) → lines bs ≡ l ∷ ls → length l ≤ length bs
line_short bs l ls e = let h = first_short bs in let same : first_length (lines bs) ≡ length l = ap first_length e in omega (arith, h, same)
