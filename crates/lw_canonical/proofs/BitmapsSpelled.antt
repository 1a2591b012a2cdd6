-- The bitmaps and rows of good lines, in their one spelling, read again over lines of a screen and glyphs.
use Rattle.std.proofs.Common.{◌≡◌, ℕ, ◌≤◌, ◌==◌, true, false, List, [], ◌∷◌, length, bytes_eq, ℤ, refl, sym, ap, subst, ◌∙◌}
use Rattle.std.specs.List.{list_any}
use Rattle.lw_calls.specs.declared.limits.Limits.{Limits}
use Rattle.lw_calls.specs.Limits.{limits_of}
use Rattle.lw_grammar.specs.Statements.{Statement, BitmapLine, RowLine}
use Rattle.lw_grammar.specs.Told.{AssetsAreDue, told}
use Rattle.lw_grammar.specs.Script.{Setting, is_nothing_due, are_few, has_padding}
use Rattle.lw_grammar.specs.GoodLines.{AreGoodLines}
use Rattle.lw_canonical.specs.Spelling.{spelled}
use Rattle.lw_grammar.proofs.ScriptSizes.{IsStatementTested, tests_pass, here, tests, in_assets, counted}
use Rattle.lw_canonical.proofs.ReadsAgain.{plain_statements, row_statements, spelled_again, few_by_bitmaps, isnt_passed, row_stands}
use Rattle.lw_canonical.proofs.BitmapsKept.{IsBare, bare_kept, IsWithoutBitmaps, kept, names_kept, width_kept, due_kept}
use Rattle.lw_canonical.proofs.Rearranged.{AreSpelled, IsWritten, AreWritten}
use Rattle.std.proofs.lemmas.Bool.{eqb-true, eq-eqb}

-- lines that tell of few bitmaps and of nothing else are few, whichever the version
pub few_bare : (v w h d : ℕ) (lines : List Statement) → IsBare v w h d lines → (limits : Limits) → length (told lines).bitmap_names ≤ 16 → are_few limits (told lines) ≡ true
few_bare v w h d lines k limits n =
    few_by_bitmaps limits (told lines) k.tasks n k.patterns k.names k.supers k.calls_in_task

-- after them something is due
pub due_bare : (v w h d : ℕ) (lines : List Statement) → IsBare v w h d lines → is_nothing_due (told lines).section ≡ false
due_bare v w h d lines k = ap is_nothing_due k.section

module _ (s t : Setting) (v w h d : ℕ) (base : List Statement) (bare : IsBare v w h d base) (b : IsWithoutBitmaps base) where
  -- what is kept of a further good line is few
  few_kept : (f : Statement) (above : List Statement) → AreGoodLines s (f ∷ above) → (limits : Limits) → are_few limits (told (kept (f ∷ above) base)) ≡ true
  few_kept f above g limits =
      let P : List (List ℕ) → Type 0 = λ names. length names ≤ 16 in
      few_bare v w h d (kept (f ∷ above) base) (bare_kept v w h d (f ∷ above) base bare) limits (subst P (sym (names_kept base b (f ∷ above))) (counted s (f ∷ above) g).bitmaps)

  -- a bitmap's line, and a row
  bitmap_again : (name : List ℕ) (x y z : ℤ) (above : List Statement) → AreGoodLines s (BitmapLine name x y z ∷ above) → IsWritten s above (BitmapLine name x y z) → IsWritten t (kept above base) (BitmapLine name x y z)
  bitmap_again name x y z above g written =
      let f : Statement = BitmapLine name x y z in
      let at = here s above (BitmapLine name x y z) g in
      let k = tests s above (BitmapLine name x y z) g in
      let none : (told (kept above base)).rows_due ≡ 0 = due_kept base b s above g.1 ∙ eqb-true _ 0 at.0 in
      let tested : IsStatementTested t (kept above base) (BitmapLine name x y z) =
      record { range = k.range; named = refl; new = ap (list_any (bytes_eq name)) (names_kept base b above) ∙ k.new; group = refl; few = few_kept f above g (limits_of (told (kept above base)).version); hook = refl; unused = refl; padding = refl } in
      spelled_again s t above (kept above base) f written (plain_statements s t above (kept above base) AssetsAreDue f at.0 (eq-eqb _ 0 none) (in_assets _ at.1) (bare_kept v w h d above base bare).section refl refl) (tests_pass t (kept above base) f tested)

  row_again : (bytes : List ℕ) (above : List Statement) → AreGoodLines s (RowLine bytes ∷ above) → IsWritten s above (RowLine bytes) → IsWritten t (kept above base) (RowLine bytes)
  row_again bytes above g written =
      let at = here s above (RowLine bytes) g in
      let k = tests s above (RowLine bytes) g in
      let some : ((told (kept above base)).rows_due == 0) ≡ false = ap (λ n. n == 0) (due_kept base b s above g.1) ∙ at.0 in
      let tested : IsStatementTested t (kept above base) (RowLine bytes) =
      record { range = k.range; named = refl; new = refl; group = refl; few = few_kept (RowLine bytes) above g (limits_of (told (kept above base)).version); hook = refl; unused = refl; padding = ap (λ width. has_padding width (RowLine bytes)) (width_kept base b above) ∙ k.padding } in
      spelled_again s t above (kept above base) (RowLine bytes) written (row_statements s t above (kept above base) at.0 some (sym (width_kept base b above)) (RowLine bytes)) (tests_pass t (kept above base) (RowLine bytes) tested)

  -- Each of them reads again where those below the kept lines do.
  pub kept_spelled : (above : List Statement) → AreGoodLines s above → AreWritten s above → AreSpelled t base → AreSpelled t (kept above base)
  kept_spelled [] g written k = k
  kept_spelled (BitmapLine name x y z ∷ above) g written k =
      (bitmap_again name x y z above g (written.0 refl), isnt_passed (kept above base) (spelled (BitmapLine name x y z)) refl (due_bare v w h d _ (bare_kept v w h d above base bare)), kept_spelled above g.1 written.1 k)
  kept_spelled (RowLine bytes ∷ above) g written k =
      let read = row_again bytes above g (written.0 refl) in
      (read, isnt_passed (kept above base) (spelled (RowLine bytes)) (row_stands t (kept above base) bytes read) (due_bare v w h d _ (bare_kept v w h d above base bare)), kept_spelled above g.1 written.1 k)
  kept_spelled (f ∷ above) g written k = kept_spelled above g.1 written.1 k
