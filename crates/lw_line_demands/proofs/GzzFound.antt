-- What the reader finds of a line that is done with a window of two layers.
use Rattle.std.proofs.Common.{◌≡◌, ℕ, true, List, [], ◌∷◌, ◌++◌, map, Option, Result, Ok, Vec, refl, sym, ap, ◌∙◌}
use Rattle.std.specs.declared.alloc.Global.{Global}
use Rattle.lw_grammar.specs.declared.reason.Reason.{Reason}
use Rattle.lw_grammar.specs.Demands.{◌>>=◌}
use Rattle.lw_grammar.specs.Statements.{Statement as Meaning, HoldLine, ReleaseLine, GzzAct, OpenGzz, BoxGzz, FrontGzz, BehindGzz, InFrontGzz, CloseGzz, GzzLine, is_gzz_in_range}
use Rattle.lw_grammar.specs.Told.{Told, gzz_calls, inner_by, pair_lines, gzz_lines}
use Rattle.lw_grammar.specs.Script.{Setting}
use Rattle.lw_grammar.proofs.GzzLines.{gzz_passed}
use Rattle.lw_statements.specs.declared.statement.Statement.{Statement}
use Rattle.lw_statements.specs.StatementMeaning.{statement_meaning}
use Rattle.lw_reader.specs.declared.read_line.ReadLine.TheVariants.{Gzz as GzzRead}
use Rattle.lw_reader.specs.declared.state.NamedPair.{NamedPair}
use Rattle.lw_line_demands.specs.AreasRead.{if_passed, ReadsBelow}
use Rattle.lw_reader.specs.LinesRead.{opened_lines}
use Rattle.lw_line_demands.specs.GzzRead.{PassesGzz}

-- a line that passes its tests has a box in its range
pub box_found : (t : Told) (g : List ℕ) (act : GzzAct) → PassesGzz t g act → (width : ℕ) × (height : ℕ) × (is_gzz_in_range width height act ≡ true)
box_found t g act h = (t.width, t.height, (gzz_passed t g act h).range)

-- its statements, and what makes its window
whole : (ps : List Meaning) (g i : List ℕ) (act : GzzAct) → (HoldLine ∷ gzz_calls g i act ++ ReleaseLine ∷ ps) ≡ ((HoldLine ∷ gzz_calls g i act ++ ReleaseLine ∷ []) ++ ps)
whole ps g i (OpenGzz inner kind place r classes title) = refl
whole ps g i (BoxGzz r) = refl
whole ps g i FrontGzz = refl
whole ps g i BehindGzz = refl
whole ps g i (InFrontGzz m) = refl
whole ps g i CloseGzz = refl

-- so they are what such a line stands for
pub gzz_found : (s : Setting) (t : Told) (g i : List ℕ) (act : GzzAct) (statements : Vec Statement Global) (opened : Option NamedPair) → PassesGzz t g act → i ≡ inner_by t.pairs g act → map statement_meaning statements.items ≡ (HoldLine ∷ gzz_calls g i act ++ ReleaseLine ∷ []) → opened_lines opened ≡ pair_lines g act → ReadsBelow t (Ok (GzzRead statements opened)) (if_passed s t (GzzLine g act))
gzz_found s t g i act statements opened h inner is made =
    let l = GzzLine g act in
    let all : gzz_lines t.pairs g act ≡ (map statement_meaning statements.items ++ opened_lines opened) =
    whole (pair_lines g act) g (inner_by t.pairs g act) act
    ∙ ap (λ j. (HoldLine ∷ gzz_calls g j act ++ ReleaseLine ∷ []) ++ pair_lines g act) (sym inner)
    ∙ ap (λ fs. fs ++ pair_lines g act) (sym is)
    ∙ ap (λ fs. map statement_meaning statements.items ++ fs) (sym made) in
    (l, ap (λ (q : Result (Unit {0}) Reason). q >>= (λ _. Ok l)) h, all)
