-- The glyphs of good lines in the order of their codes, over other lines: what they tell, and that they read again in their
-- one spelling.
use Rattle.std.proofs.Common.{◌≡◌, ℕ, zero, suc, ◌+◌, ◌<◌, ◌≤◌, ◌==◌, Bool, true, false, cond, List, [], ◌∷◌, ◌++◌, length, replicate, reverse, refl, sym, ap, subst, ◌∙◌, inl, inr, ◌⊎◌, ⊎_elim, arith, append_assoc, append-nil}
use Rattle.std.specs.List.{list_all, flat_map, range_with_len}
use Rattle.lw_calls.proofs.Ranges.{range_last}
use Rattle.lw_calls.specs.Limits.{limits_of}
use Rattle.lw_grammar.specs.Statements.{Statement, GlyphLine}
use Rattle.lw_grammar.specs.Told.{AssetsAreDue, nothing_told, told}
use Rattle.lw_grammar.specs.Script.{Setting}
use Rattle.lw_grammar.specs.GoodLines.{AreGoodLines}
use Rattle.lw_canonical.specs.Spelling.{spelled}
use Rattle.lw_canonical.specs.Canonical.{lines_of_glyph}
use Rattle.lw_grammar.proofs.ScriptSizes.{IsStatementTested, tests_pass, here, tests, in_assets, glyph_rows}
use Rattle.lw_canonical.proofs.ReadsAgain.{plain_statements, spelled_again, isnt_passed}
use Rattle.lw_canonical.proofs.BitmapsKept.{IsBare, bare_glyph, IsWithoutBitmaps}
use Rattle.lw_canonical.proofs.BitmapsSpelled.{few_bare, due_bare}
use Rattle.lw_canonical.proofs.Rearranged.{glyphs_in_order, AreSpelled, IsWritten, AreWritten}
use Rattle.std.proofs.lemmas.Bool.{false≢true, eqb-true, eqb-false, eq-eqb, ne_eqb, and_parts, or_from, cases_eq}
use Rattle.std.proofs.lemmas.List.{reverse-append}
use Rattle.std.proofs.lemmas.Grind.{flat_map-append}

-- a glyph has one line or none
one_line : (code : ℕ) (rows : List ℕ) → reverse (lines_of_glyph code rows) ≡ lines_of_glyph code rows
one_line code rows = step (list_all (λ row. row == 0) rows)
  where
    step : (t : Bool) → (let list : List Statement = cond t [] (GlyphLine code rows ∷ []) in reverse list ≡ list)
    step true = refl
    step false = refl

-- The lines above, and those over which their glyphs stand.
module _ (above base : List Statement) where
  -- the glyph of the code with this number
  abbrev rows_at : ℕ → List ℕ
  rows_at n = (told above).glyphs (32 + n)

  -- the glyphs of so many codes with some bit set, the nearest first
  abbrev pub glyphs_over : ℕ → List Statement
  glyphs_over zero = base
  glyphs_over (suc n) = lines_of_glyph (32 + n) (rows_at n) ++ glyphs_over n

  -- these are the glyphs in order
  over_in_order : (n : ℕ) → reverse (flat_map (λ i. lines_of_glyph (32 + i) (rows_at i)) (range_with_len 0 n)) ++ base ≡ glyphs_over n
  over_in_order zero = refl
  over_in_order (suc n) =
      let f : ℕ → List Statement = λ i. lines_of_glyph (32 + i) (rows_at i) in
      let parts : flat_map f (range_with_len 0 (suc n)) ≡ flat_map f (range_with_len 0 n) ++ f n =
      ap (flat_map f) (range_last n) ∙ (flat_map-append f (range_with_len 0 n) (n ∷ []) ∙ ap (λ l. flat_map f (range_with_len 0 n) ++ l) (append-nil (f n))) in
      let turned : reverse (flat_map f (range_with_len 0 (suc n))) ≡ f n ++ reverse (flat_map f (range_with_len 0 n)) =
      ap reverse parts ∙ (reverse-append (flat_map f (range_with_len 0 n)) (f n) ∙ ap (λ l. l ++ reverse (flat_map f (range_with_len 0 n))) (one_line (32 + n) (rows_at n))) in
      ap (λ l. l ++ base) turned ∙ (append_assoc (f n) (reverse (flat_map f (range_with_len 0 n))) base ∙ ap (λ l. f n ++ l) (over_in_order n))

  pub glyphs_ordered : reverse (glyphs_in_order above) ++ base ≡ glyphs_over 95
  glyphs_ordered = over_in_order 95

  -- what holds of the lines below the glyphs holds with them, where it holds with a further glyph
  over_keeps : (P : List Statement → Type 0) → ((code : ℕ) (rows : List ℕ) (lines : List Statement) → P lines → P (GlyphLine code rows ∷ lines)) → P base → (n : ℕ) → P (glyphs_over n)
  over_keeps P more h zero = h
  over_keeps P more h (suc n) = step (list_all (λ row. row == 0) (rows_at n)) (over_keeps P more h n)
    where
      step : (t : Bool) → P (glyphs_over n) → P (cond t [] (GlyphLine (32 + n) (rows_at n) ∷ []) ++ glyphs_over n)
      step true k = k
      step false k = more (32 + n) (rows_at n) (glyphs_over n) k

  -- so glyphs tell nothing but themselves
  pub bare_over : (v w h d n : ℕ) → IsBare v w h d base → IsBare v w h d (glyphs_over n)
  bare_over v w h d n k = over_keeps (IsBare v w h d) (λ code rows lines. bare_glyph v w h d lines code rows) k n

  pub unmapped_over : (n : ℕ) → IsWithoutBitmaps base → IsWithoutBitmaps (glyphs_over n)
  unmapped_over n k =
      over_keeps IsWithoutBitmaps (λ code rows lines k. record { due = k.due; width = k.width; names = k.names; made = k.made }) k n

  -- a later code is new
  new_over : (told base).has_glyph ≡ nothing_told.has_glyph → (n code : ℕ) → 32 + n ≤ code → (told (glyphs_over n)).has_glyph code ≡ false
  new_over e zero code h = ap (λ has_glyph. has_glyph code) e
  new_over e (suc n) code h = step (list_all (λ row. row == 0) (rows_at n)) (new_over e n code (omega (arith, h)))
    where
      step : (t : Bool) → (told (glyphs_over n)).has_glyph code ≡ false → (told (cond t [] (GlyphLine (32 + n) (rows_at n) ∷ []) ++ glyphs_over n)).has_glyph code ≡ false
      step true k = k
      step false k = or_from (32 + n == code) _ (ne_eqb (32 + n) code (λ same. omega (arith, h, same))) k

  -- and its glyph is that of the lines below
  glyph_past : (n code : ℕ) → 32 + n ≤ code → (told (glyphs_over n)).glyphs code ≡ (told base).glyphs code
  glyph_past zero code h = refl
  glyph_past (suc n) code h = step (list_all (λ row. row == 0) (rows_at n)) (glyph_past n code (omega (arith, h)))
    where
      step : (t : Bool) → (told (glyphs_over n)).glyphs code ≡ (told base).glyphs code → (told (cond t [] (GlyphLine (32 + n) (rows_at n) ∷ []) ++ glyphs_over n)).glyphs code ≡ (told base).glyphs code
      step true k = k
      step false k =
          let P : Bool → Type 0 = λ b. cond b (rows_at n) ((told (glyphs_over n)).glyphs code) ≡ (told base).glyphs code in
          subst P (sym (ne_eqb (32 + n) code (λ same. omega (arith, h, same)))) k

-- A glyph has no bit set, or its line stands among the good lines.
abbrev IsGlyphRead : Setting → ℕ → List ℕ → Type 0
IsGlyphRead s code rows =
    (rows ≡ replicate 8 0) ⊎ ((below : List Statement) × AreGoodLines s (GlyphLine code rows ∷ below) × IsWritten s below (GlyphLine code rows))

glyph_read : (s : Setting) (above : List Statement) → AreGoodLines s above → AreWritten s above → (code : ℕ) → IsGlyphRead s code ((told above).glyphs code)
glyph_read s [] g written code = inl refl
glyph_read s (GlyphLine c rows ∷ above) g written code = step (c == code) refl (glyph_read s above g.1 written.1 code)
  where
    step : (t : Bool) → (c == code) ≡ t → IsGlyphRead s code ((told above).glyphs code) → IsGlyphRead s code (cond t rows ((told above).glyphs code))
    step true e rest =
        let P : ℕ → Type 0 = λ k. AreGoodLines s (GlyphLine k rows ∷ above) in
        let Q : ℕ → Type 0 = λ k. IsWritten s above (GlyphLine k rows) in
        inr (above, subst P (eqb-true c code e) g, subst Q (eqb-true c code e) (written.0 refl))
    step false e rest = rest
glyph_read s (f ∷ above) g written code = glyph_read s above g.1 written.1 code

-- rows without a bit are zeros
zero_rows : (rows : List ℕ) → list_all (λ row. row == 0) rows ≡ true → rows ≡ replicate (length rows) 0
zero_rows [] h = refl
zero_rows (r ∷ rows) h =
    let both = and_parts (r == 0) _ h in
    let first : r ≡ 0 = eqb-true r 0 both.0 in
    ap (λ k. k ∷ rows) first ∙ ap (λ l. 0 ∷ l) (zero_rows rows both.1)

-- Over lines without a glyph those of good lines give each code's glyph again, and read again.
module _ (s : Setting) (above base : List Statement) (g : AreGoodLines s above) where
  pub glyph_over : ((code : ℕ) → (told base).glyphs code ≡ replicate 8 0) → (n i : ℕ) → i < n → (told (glyphs_over above base n)).glyphs (32 + i) ≡ (told above).glyphs (32 + i)
  glyph_over none zero i h = absurd (omega (arith, h))
  glyph_over none (suc n) i h = step (list_all (λ row. row == 0) ((told above).glyphs (32 + n))) refl (32 + n == 32 + i) refl (glyph_over none n i)
    where
      at_last : 32 + n ≡ 32 + i → n ≡ i
      at_last e = omega (arith, e)

      earlier : (32 + n == 32 + i) ≡ false → i < n
      earlier e = let apart : 32 + n ≡ 32 + i → ⊥ = eqb-false (32 + n) (32 + i) e in ⊎_elim (λ same. absurd (apart (ap (λ k. 32 + k) (sym same)))) (λ differs. omega (arith, h, differs)) (cases_eq i n)

      step : (t : Bool) → list_all (λ row. row == 0) ((told above).glyphs (32 + n)) ≡ t → (b : Bool) → (32 + n == 32 + i) ≡ b → (i < n → (told (glyphs_over above base n)).glyphs (32 + i) ≡ (told above).glyphs (32 + i)) → (told (cond t [] (GlyphLine (32 + n) ((told above).glyphs (32 + n)) ∷ []) ++ glyphs_over above base n)).glyphs (32 + i) ≡ (told above).glyphs (32 + i)
      step true e true d k =
          let same = at_last (eqb-true (32 + n) (32 + i) d) in
          let unset : (told above).glyphs (32 + n) ≡ replicate 8 0 = zero_rows ((told above).glyphs (32 + n)) e ∙ ap (λ k. replicate k 0) (glyph_rows s above g (32 + n)) in
          glyph_past above base n (32 + i) (omega (arith, same)) ∙ (none (32 + i) ∙ (sym unset ∙ ap (λ k. (told above).glyphs (32 + k)) same))
      step true e false d k = k (earlier d)
      step false e b d k =
          let P : Bool → Type 0 = λ b. cond b ((told above).glyphs (32 + n)) ((told (glyphs_over above base n)).glyphs (32 + i)) ≡ (told above).glyphs (32 + i) in
          subst P (sym d) (at b d)
        where
          at : (b : Bool) → (32 + n == 32 + i) ≡ b → cond b ((told above).glyphs (32 + n)) ((told (glyphs_over above base n)).glyphs (32 + i)) ≡ (told above).glyphs (32 + i)
          at true d = ap (λ k. (told above).glyphs (32 + k)) (at_last (eqb-true (32 + n) (32 + i) d))
          at false d = k (earlier d)

-- a good glyph line reads again over lines that tell of a screen alone, and of other codes
glyph_again : (s t : Setting) (v w h d code : ℕ) (rows : List ℕ) (above lines : List Statement) → AreGoodLines s (GlyphLine code rows ∷ above) → IsWritten s above (GlyphLine code rows) → IsBare v w h d lines → IsWithoutBitmaps lines → (told lines).has_glyph code ≡ false → IsWritten t lines (GlyphLine code rows)
glyph_again s t v w h d code rows above lines g written bare b new =
    let f : Statement = GlyphLine code rows in
    let at = here s above (GlyphLine code rows) g in
    let k = tests s above (GlyphLine code rows) g in
    let none : length (told lines).bitmap_names ≡ 0 = ap length b.names in
    let tested : IsStatementTested t lines (GlyphLine code rows) =
    record { range = k.range; named = refl; new = new; group = refl; few = few_bare v w h d (f ∷ lines) (bare_glyph v w h d lines code rows bare) (limits_of (told lines).version) (omega (arith, none)); hook = refl; unused = refl; padding = refl } in
    spelled_again s t above lines f written (plain_statements s t above lines AssetsAreDue f at.0 (eq-eqb _ 0 b.due) (in_assets _ at.1) bare.section refl refl) (tests_pass t lines f tested)

-- So do all glyphs in order.
pub over_spelled : (s t : Setting) (above base : List Statement) → AreGoodLines s above → AreWritten s above → (v w h d : ℕ) → IsBare v w h d base → IsWithoutBitmaps base → (told base).has_glyph ≡ nothing_told.has_glyph → AreSpelled t base → (n : ℕ) → AreSpelled t (glyphs_over above base n)
over_spelled s t above base g written v w h d bare b e k zero = k
over_spelled s t above base g written v w h d bare b e k (suc n) =
    step (list_all (λ row. row == 0) ((told above).glyphs (32 + n))) refl (over_spelled s t above base g written v w h d bare b e k n)
  where
    below : List Statement
    below = glyphs_over above base n

    here_bare : IsBare v w h d below
    here_bare = bare_over above base v w h d n bare

    at : list_all (λ row. row == 0) ((told above).glyphs (32 + n)) ≡ false → IsGlyphRead s (32 + n) ((told above).glyphs (32 + n)) → IsWritten t below (GlyphLine (32 + n) ((told above).glyphs (32 + n)))
    at set (inl z) = absurd (false≢true (sym set ∙ ap (list_all (λ row. row == 0)) z))
    at set (inr found) =
        glyph_again s t v w h d (32 + n) ((told above).glyphs (32 + n)) found.0 below found.1 found.2 here_bare (unmapped_over above base n b) (new_over above base e n (32 + n) (omega arith))

    step : (t' : Bool) → list_all (λ row. row == 0) ((told above).glyphs (32 + n)) ≡ t' → AreSpelled t below → AreSpelled t (cond t' [] (GlyphLine (32 + n) ((told above).glyphs (32 + n)) ∷ []) ++ below)
    step true set rest = rest
    step false set rest =
        (at set (glyph_read s above g written (32 + n)), isnt_passed below (spelled (GlyphLine (32 + n) ((told above).glyphs (32 + n)))) refl (due_bare v w h d below here_bare), rest)
