-- What is known of a line's statement where the line was good: where it stands, how it is made, and that it passes its tests.
use Rattle.std.specs.Prelude.{◌≡◌, ℕ, ◌<◌, ◌≤◌, ◌==◌, Bool, true, false, ◌&&◌, List, [], ◌∷◌, length, pos, None, Ok}
use Rattle.lw_planes.specs.Bitmap.{row_bytes}
use Rattle.lw_calls.specs.declared.make.Kind.{Kind}
use Rattle.lw_calls.specs.declared.make.Kind.TheVariants.{Simple, Smart, SuperBitmap}
use Rattle.lw_calls.specs.Limits.{is_minterm}
use Rattle.lw_calls.specs.Kinds.{is_super}
use Rattle.lw_grammar.specs.declared.form.Form.{Form}
use Rattle.lw_grammar.specs.declared.verb.Verb.TheVariants.{Part, Number}
use Rattle.lw_grammar.specs.declared.verb.PartVerb.TheVariants.{Layers as LayersVerb, Screen as ScreenVerb, Glyph as GlyphVerb}
use Rattle.lw_grammar.specs.declared.verb.PartVerb.TheVariants.{Bitmap as BitmapVerb, Pattern as PatternVerb, Task as TaskVerb}
use Rattle.lw_grammar.specs.declared.verb.PartVerb.TheVariants.{Order as OrderVerb, Report as ReportVerb}
use Rattle.lw_grammar.specs.Statements.{NewLayer, Act, NumberAct, CreateAct, OpenAct, PutAct, BlitAct, layers_of, numbers_limit}
use Rattle.lw_grammar.specs.Statements.{Statement, LayersLine, ScreenLine, GlyphLine, BitmapLine, RowLine, PatternLine}
use Rattle.lw_grammar.specs.Statements.{TaskLine, OrderLine, NumbersLine, ReportLine, CallLine}
use Rattle.lw_grammar.specs.Told.{Section, told}
use Rattle.lw_grammar.specs.Script.{Setting, are_calls_due, are_numbers_due, is_known_in, belongs_in, statement_tested}

-- A line with this statement belongs in this version and section of this input, as its verb does. Calls, groups, the end of a
-- task and the statements for which no line stands alone belong where calls are due. A row and numbers of an order have no verb,
-- and belong nowhere by this.
abbrev pub belongs_at : Form → ℕ → Section → Statement → Bool
belongs_at form version section LayersLine = belongs_in form version section (Part LayersVerb)
belongs_at form version section (ScreenLine w h d) = belongs_in form version section (Part ScreenVerb)
belongs_at form version section (GlyphLine code rows) = belongs_in form version section (Part GlyphVerb)
belongs_at form version section (BitmapLine name w h d) = belongs_in form version section (Part BitmapVerb)
belongs_at form version section (RowLine bytes) = false
belongs_at form version section (PatternLine name words) = belongs_in form version section (Part PatternVerb)
belongs_at form version section (TaskLine name) = belongs_in form version section (Part TaskVerb)
belongs_at form version section OrderLine = belongs_in form version section (Part OrderVerb)
belongs_at form version section (NumbersLine zs) = false
belongs_at form version section ReportLine = belongs_in form version section (Part ReportVerb)
belongs_at form version section statement = are_calls_due section

-- Some line has this act, or this statement, where the lines above tell this version.
abbrev pub is_known_act : ℕ → Act → Bool
is_known_act version (NumberAct verb z) = is_known_in version (Number verb)
is_known_act version act = true

abbrev pub is_known_line : ℕ → Statement → Bool
is_known_line version (CallLine layers act) = is_known_act version act
is_known_line version statement = true

-- a layer with a bitmap of its own has no hook, and no other has the size of one
abbrev pub IsNewLayerOf : Kind → NewLayer → Type 0
IsNewLayerOf Simple a = (a.bits_w ≡ pos 0) × (a.bits_h ≡ pos 0)
IsNewLayerOf Smart a = (a.bits_w ≡ pos 0) × (a.bits_h ≡ pos 0)
IsNewLayerOf SuperBitmap a = a.hook ≡ None

-- what the words of a call are good for, besides the ranges of its numbers
abbrev pub IsActMade : Act → Type 0
IsActMade (CreateAct rect a) = IsNewLayerOf a.kind a
IsActMade (OpenAct at a framed nocare classes title) =
    IsNewLayerOf a.kind a × ((framed && is_super a.kind) ≡ false) × (classes < 32)
IsActMade (PutAct bm b) = is_minterm b.minterm ≡ true
IsActMade (BlitAct b) = is_minterm b.minterm ≡ true
IsActMade act = Unit {0}

-- the same of a line
abbrev pub IsStatementMade : Statement → Type 0
IsStatementMade (GlyphLine code rows) = length rows ≡ 8
IsStatementMade (CallLine layers act) = (length layers ≡ layers_of act) × IsActMade act
IsStatementMade statement = Unit {0}

-- each of these is a byte
abbrev pub AreBytes : List ℕ → Type 0
AreBytes [] = Unit {0}
AreBytes (b ∷ bs) = (b ≤ 255) × AreBytes bs

-- What a line with this statement was good for, below lines with these statements.
abbrev pub IsStatementHere : Setting → List Statement → Statement → Type 0
IsStatementHere s above (RowLine bytes) =
    (((told above).rows_due == 0) ≡ false) × (length bytes ≡ row_bytes (told above).row_width) × AreBytes bytes
IsStatementHere s above (NumbersLine zs) =
    (((told above).rows_due == 0) ≡ true) × (are_numbers_due (told above).section ≡ true) × (length zs ≤ numbers_limit)
IsStatementHere s above statement =
    (((told above).rows_due == 0) ≡ true) × (belongs_at s.form (told above).version (told above).section statement ≡ true)
    × IsStatementMade statement × (is_known_line (told above).version statement ≡ true)

-- It stands here, and no further reason holds for it: the statement of a line that was good, or one that such a line stands for.
pub record IsGoodLine (s : Setting) (above : List Statement) (statement : Statement) : Type 0 where
  pub here : IsStatementHere s above statement
  pub tested : statement_tested s (told above) statement ≡ Ok tt

abbrev pub AreGoodLines : Setting → List Statement → Type 0
AreGoodLines s [] = Unit {0}
AreGoodLines s (statement ∷ above) = IsGoodLine s above statement × AreGoodLines s above
