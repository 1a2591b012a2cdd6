-- What lines tell of which only the bitmaps with their rows are kept, over others: the same of bitmaps, and else nothing more.
use Rattle.std.proofs.Common.{◌≡◌, ℕ, ◌-◌, ◌*◌, List, [], ◌∷◌, ◌++◌, length, filter, None, refl, ap, ◌∙◌, length-append, ℤ, unsigned_abs}
use Rattle.lw_planes.specs.Bitmap.{row_bytes}
use Rattle.lw_planes.specs.Storage.{stored}
use Rattle.lw_grammar.specs.Statements.{Statement, GlyphLine, BitmapLine, RowLine}
use Rattle.lw_grammar.specs.Told.{AssetsAreDue, nothing_told, told}
use Rattle.lw_grammar.specs.Script.{Setting}
use Rattle.lw_grammar.specs.GoodLines.{AreGoodLines}
use Rattle.lw_grammar.proofs.ScriptSizes.{here, none_due, row_less}
use Rattle.lw_canonical.proofs.Rearranged.{is_of_bitmaps}
use Rattle.std.proofs.lemmas.Bool.{eqb-true}

-- Lines of a version and a screen of these sizes, and of glyphs and bitmaps: of nothing else do they tell anything.
pub record IsBare (v w h d : ℕ) (lines : List Statement) : Type 0 where
  pub version : (told lines).version ≡ v
  pub section : (told lines).section ≡ AssetsAreDue
  pub width : (told lines).width ≡ w
  pub height : (told lines).height ≡ h
  pub depth : (told lines).depth ≡ d
  pub patterns : (told lines).pattern_names ≡ []
  pub tasks : (told lines).tasks ≡ []
  pub names : (told lines).names ≡ []
  pub names_without_slot : (told lines).names_without_slot ≡ []
  pub pairs : (told lines).pairs ≡ []
  pub supers : (told lines).supers ≡ 0
  pub hooks : (told lines).names_hook ≡ nothing_told.names_hook
  pub group : (told lines).group ≡ None
  pub calls_in_task : (told lines).calls_in_task ≡ 0
  pub calls_before_group : (told lines).calls_before_group ≡ 0
  pub calls : (told lines).calls ≡ []
  pub groups : (told lines).groups ≡ []

-- so do they with a further glyph, bitmap or row
pub bare_glyph : (v w h d : ℕ) (lines : List Statement) (code : ℕ) (rows : List ℕ) → IsBare v w h d lines → IsBare v w h d (GlyphLine code rows ∷ lines)
bare_glyph v w h d lines code rows k =
    record { version = k.version; section = k.section; width = k.width; height = k.height; depth = k.depth; patterns = k.patterns; tasks = k.tasks; names = k.names; names_without_slot = k.names_without_slot; pairs = k.pairs; supers = k.supers; hooks = k.hooks; group = k.group; calls_in_task = k.calls_in_task; calls_before_group = k.calls_before_group; calls = k.calls; groups = k.groups }

bare_bitmap : (v w h d : ℕ) (lines : List Statement) (name : List ℕ) (x y z : ℤ) → IsBare v w h d lines → IsBare v w h d (BitmapLine name x y z ∷ lines)
bare_bitmap v w h d lines name x y z k =
    record { version = k.version; section = k.section; width = k.width; height = k.height; depth = k.depth; patterns = k.patterns; tasks = k.tasks; names = k.names; names_without_slot = k.names_without_slot; pairs = k.pairs; supers = k.supers; hooks = k.hooks; group = k.group; calls_in_task = k.calls_in_task; calls_before_group = k.calls_before_group; calls = k.calls; groups = k.groups }

bare_row : (v w h d : ℕ) (lines : List Statement) (bytes : List ℕ) → IsBare v w h d lines → IsBare v w h d (RowLine bytes ∷ lines)
bare_row v w h d lines bytes k =
    record { version = k.version; section = k.section; width = k.width; height = k.height; depth = k.depth; patterns = k.patterns; tasks = k.tasks; names = k.names; names_without_slot = k.names_without_slot; pairs = k.pairs; supers = k.supers; hooks = k.hooks; group = k.group; calls_in_task = k.calls_in_task; calls_before_group = k.calls_before_group; calls = k.calls; groups = k.groups }

-- Lines without bitmaps.
pub record IsWithoutBitmaps (lines : List Statement) : Type 0 where
  pub due : (told lines).rows_due ≡ 0
  pub width : (told lines).row_width ≡ 0
  pub names : (told lines).bitmap_names ≡ []
  pub made : (rows : List ℕ) → (told lines).bitmaps rows ≡ []

-- the bitmaps and rows alone of the lines above, over other lines
abbrev pub kept : List Statement → List Statement → List Statement
kept above base = filter is_of_bitmaps above ++ base

pub bare_kept : (v w h d : ℕ) (above base : List Statement) → IsBare v w h d base → IsBare v w h d (kept above base)
bare_kept v w h d [] base k = k
bare_kept v w h d (BitmapLine name x y z ∷ above) base k = bare_bitmap v w h d (kept above base) name x y z (bare_kept v w h d above base k)
bare_kept v w h d (RowLine bytes ∷ above) base k = bare_row v w h d (kept above base) bytes (bare_kept v w h d above base k)
bare_kept v w h d (f ∷ above) base k = bare_kept v w h d above base k

-- glyphs are those of the lines below
pub glyph_kept : (above base : List Statement) (code : ℕ) → (told (kept above base)).glyphs code ≡ (told base).glyphs code
glyph_kept [] base code = refl
glyph_kept (BitmapLine name x y z ∷ above) base code = glyph_kept above base code
glyph_kept (RowLine bytes ∷ above) base code = glyph_kept above base code
glyph_kept (f ∷ above) base code = glyph_kept above base code

-- What is kept of good lines, over lines without bitmaps.
module _ (base : List Statement) (b : IsWithoutBitmaps base) where
  -- the bitmaps' names, and the width of the nearest one
  pub names_kept : (above : List Statement) → (told (kept above base)).bitmap_names ≡ (told above).bitmap_names
  names_kept [] = b.names
  names_kept (BitmapLine name x y z ∷ above) = ap (λ names. names ++ name ∷ []) (names_kept above)
  names_kept (RowLine bytes ∷ above) = names_kept above
  names_kept (f ∷ above) = names_kept above

  pub width_kept : (above : List Statement) → (told (kept above base)).row_width ≡ (told above).row_width
  width_kept [] = b.width
  width_kept (BitmapLine name x y z ∷ above) = refl
  width_kept (RowLine bytes ∷ above) = width_kept above
  width_kept (f ∷ above) = width_kept above

  -- as many rows are due: other lines stand only where none are
  pub due_kept : (s : Setting) (above : List Statement) → AreGoodLines s above → (told (kept above base)).rows_due ≡ (told above).rows_due
  due_kept s [] g = b.due
  due_kept s (BitmapLine name x y z ∷ above) g = refl
  due_kept s (RowLine bytes ∷ above) g = ap (λ n. n - 1) (due_kept s above g.1)
  due_kept s (f ∷ above) g = due_kept s above g.1

  -- the bitmaps themselves, where no rows are due but those after
  pub made_kept : (s : Setting) (above : List Statement) → AreGoodLines s above → (rows : List ℕ) → length rows ≡ (told above).rows_due * row_bytes (told above).row_width → (told (kept above base)).bitmaps rows ≡ (told above).bitmaps rows
  made_kept s [] g rows n = b.made rows
  made_kept s (BitmapLine name x y z ∷ above) g rows n =
      let due : (told above).rows_due ≡ 0 = eqb-true _ 0 (here s above (BitmapLine name x y z) g).0 in
      ap (λ bitmaps. bitmaps ++ stored (unsigned_abs x) (unsigned_abs y) (unsigned_abs z) rows ∷ []) (made_kept s above g.1 [] (none_due above due))
  made_kept s (RowLine bytes ∷ above) g rows n =
      let h = here s above (RowLine bytes) g in
      made_kept s above g.1 (bytes ++ rows) (length-append bytes rows ∙ row_less (told above).rows_due _ _ _ h.0 h.1 n)
  made_kept s (f ∷ above) g rows n = made_kept s above g.1 rows n
