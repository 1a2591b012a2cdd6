-- The statements of an area one after another, and those of a line that was read.
use Rattle.std.proofs.Common.{◌≡◌, ℕ, ◌+◌, ◌<◌, ◌≤◌, ◌==◌, true, false, List, [], ◌∷◌, length, map, drop, get_or, Option, option_map, Some, None, is_some, refl, sym, ap, subst, ◌∙◌, arith}
use Rattle.lw_region.specs.Rectangle.{Rectangle}
use Rattle.lw_grammar.specs.Statements.{Statement, FillAct, CallLine, NameWithoutSlot}
use Rattle.lw_grammar.specs.Told.{OpenGroup, fill_lines, area_lines, told}
use Rattle.lw_grammar.specs.Script.{Setting, added}
use Rattle.lw_grammar.specs.GoodLines.{AreGoodLines}
use Rattle.lw_grammar.proofs.AreaLines.{without_last}
use Rattle.lw_statements.specs.declared.acts.OpenGroup.{OpenGroup as ReadGroup}
use Rattle.lw_statements.specs.GroupMeaning.{group_meaning}
use Rattle.lw_reader.specs.declared.state.Reader.{Reader}
use Rattle.lw_line_additions.specs.Added.{locked_fills}
use Rattle.lw_reader.specs.ReaderKnows.{known}
use Rattle.lw_reader.specs.Represents.{Represents, CanAdd, CanAddAll}
use Rattle.std.proofs.lemmas.Bool.{eqb-true, false≢true, true≢false}
use Rattle.std.proofs.lemmas.List.{drop_more, drop_all}

-- an area's statements in no group, and in one
pub lines_without : (o : Option OpenGroup) (layer : List ℕ) (rects : List Rectangle) → (length rects == 0) ≡ true → area_lines o layer rects ≡ NameWithoutSlot layer ∷ []
lines_without o layer [] e = refl
lines_without o layer (r ∷ rs) e = absurd (omega (arith, eqb-true (length (r ∷ rs)) 0 e))

in_group : (o : Option OpenGroup) (layer : List ℕ) (rects : List Rectangle) → is_some o ≡ true → (length rects == 0) ≡ false → area_lines o layer rects ≡ fill_lines layer rects
in_group None layer rects e some = absurd (false≢true e)
in_group (Some g) layer [] e some = absurd (true≢false some)
in_group (Some g) layer (r ∷ rs) e some = refl

in_none : (o : Option OpenGroup) (layer : List ℕ) (rects : List Rectangle) → is_some o ≡ false → (length rects == 0) ≡ false → area_lines o layer rects ≡ locked_fills layer rects
in_none o layer [] e some = absurd (true≢false some)
in_none None layer (r ∷ rs) e some = refl
in_none (Some g) layer (r ∷ rs) e some = absurd (true≢false e)

group_open : (o : Option ReadGroup) → is_some (option_map group_meaning o) ≡ is_some o
group_open None = refl
group_open (Some g) = refl

pub lines_in_group : (o : Option ReadGroup) (p : Option OpenGroup) (layer : List ℕ) (rects : List Rectangle) → option_map group_meaning o ≡ p → is_some o ≡ true → (length rects == 0) ≡ false → area_lines p layer rects ≡ fill_lines layer rects
lines_in_group o p layer rects e h some = in_group p layer rects (ap is_some (sym e) ∙ group_open o ∙ h) some

pub lines_in_none : (o : Option ReadGroup) (p : Option OpenGroup) (layer : List ℕ) (rects : List Rectangle) → option_map group_meaning o ≡ p → is_some o ≡ false → (length rects == 0) ≡ false → area_lines p layer rects ≡ locked_fills layer rects
lines_in_none o p layer rects e h some = in_none p layer rects (ap is_some (sym e) ∙ group_open o ∙ h) some

-- a fill of a layer
abbrev pub fill : List ℕ → Rectangle → Statement
fill layer r = CallLine (layer ∷ []) (FillAct r)

-- of statements that can be added the first one can
pub first_addable : (r : Reader) (f : Statement) (fs : List Statement) → CanAddAll r (f ∷ fs) → CanAdd r f
first_addable r f fs c = (c.0, c.1, c.2, without_last c.0 fs (f ∷ c.1) c.3)

-- Statements that are made of a list's elements.
module _ {A : Type 0} (made : A → Statement) (xs : List A) where
  -- those that are left, the first one first
  some_left : (i : ℕ) (x : A) → i < length xs → x ≡ get_or xs i x → map made (drop i xs) ≡ made x ∷ map made (drop (i + 1) xs)
  some_left i x h e =
      ap (map made) (drop_more xs i x h) ∙ ap (λ q. made q ∷ map made (drop (i + 1) xs)) (sym e)

  -- the first one that is left can be added, and below it those after it
  pub next_addable : (r : Reader) (i : ℕ) (x : A) → i < length xs → x ≡ get_or xs i x → CanAddAll r (map made (drop i xs)) → CanAdd r (made x)
  next_addable r i x h e c =
      first_addable r (made x) (map made (drop (i + 1) xs)) (subst (CanAddAll r) (some_left i x h e) c)

  pub rest_addable : (r new : Reader) (i : ℕ) (x : A) → i < length xs → x ≡ get_or xs i x → ((s : Setting) (above : List Statement) → Represents s r above → Represents s new (made x ∷ above)) → CanAddAll r (map made (drop i xs)) → CanAddAll new (map made (drop (i + 1) xs))
  rest_addable r new i x h e f c =
      let g : CanAddAll r (made x ∷ map made (drop (i + 1) xs)) = subst (CanAddAll r) (some_left i x h e) c in
      (g.0, made x ∷ g.1, f g.0 g.1 g.2, g.3)

  -- below it those that are left give the same, and at the end none is left
  pub same_added : (i : ℕ) (x : A) (new all : List Statement) → i < length xs → x ≡ get_or xs i x → added (map made (drop i xs)) new ≡ all → added (map made (drop (i + 1) xs)) (made x ∷ new) ≡ all
  same_added i x new all h e f = sym (ap (λ fs. added fs new) (some_left i x h e)) ∙ f

  pub all_added : (i : ℕ) (new all : List Statement) → length xs ≤ i → added (map made (drop i xs)) new ≡ all → new ≡ all
  all_added i new all h e = sym (ap (λ ys. added (map made ys) new) (drop_all i xs h)) ∙ e

-- the statements of an area that was read can be added
pub area_addable : (r : Reader) (layer : List ℕ) (rects items : List Rectangle) (s : Setting) (above : List Statement) → rects ≡ items → Represents s r above → AreGoodLines s (added (area_lines (told above).group layer items) above) → CanAddAll r (area_lines (known r).group layer rects)
area_addable r layer rects items s above e k g =
    let P : List Rectangle → Type 0 = λ rs. AreGoodLines s (added (area_lines (told above).group layer rs) above) in
    let Q : Option OpenGroup → Type 0 = λ o. AreGoodLines s (added (area_lines o layer rects) above) in
    (s, above, k, subst Q (sym k.tasks.group) (subst P (sym e) g))
