-- Reading a line by what the reader knows gives what the grammar gives below the lines that it has read.
use Rattle.std.proofs.Common.{◌≡◌, ℕ, ◌+◌, Bool, not, cond, ◌||◌, List, [], ◌∷◌, ◌++◌, bytes_eq, ℤ, unsigned_abs, Option, Some, None, is_none, Result, Ok, Err, refl, sym, ap, subst, ◌∙◌}
use Rattle.std.specs.List.{list_all}
use Rattle.lw_area.specs.declared.point.Point.{Point}
use Rattle.lw_area.specs.Polygons.{is_in_range}
use Rattle.lw_calls.specs.Limits.{limits_of}
use Rattle.lw_grammar.specs.Told.{Told, and_name, and_names, makes_super, hook_on, area_words, area_lines, gzz_lines, stands_for, told_with, told, told_all}
use Rattle.lw_grammar.specs.Script.{Setting, lacks_name, lacks_pattern, gives_again, allows_area, are_few, is_no_hook, is_hook_named, has_padding, parts_pair, stands_above, lacks_pair, names_again, comes_between, words_read, line_made, tested_with, area_tested, gzz_tested, line_tested, line_read}
use Rattle.lw_grammar.specs.declared.reason.Reason.{Reason}
use Rattle.lw_grammar.specs.declared.reason.Reason.TheVariants.{Range, NoName, DoubleName, Gzz as GzzReason, Group, TooMany, NoHook, HookUsed, Padding}
use Rattle.lw_grammar.specs.Demands.{◌>>=◌, demand}
use Rattle.lw_grammar.specs.Statements.{Statement, GlyphLine, BitmapLine, PatternLine, TaskLine, CallLine, LockLine, UnlockLine, GzzAct, OpenGzz, Line, StatementLine, AreaLine, GzzLine, is_line_in_range, is_gzz_in_range}
use Rattle.lw_reader.specs.declared.read_line.ReadLine.{ReadLine}
use Rattle.lw_reader.specs.declared.read_line.ReadLine.TheVariants.{Statement as StatementRead, Area as AreaRead, Gzz as GzzRead}
use Rattle.lw_reader.specs.declared.state.Reader.{Reader}
use Rattle.lw_words.specs.declared.stop.Stop.{Stop}
use Rattle.lw_reader.specs.LinesRead.{lines_of}
use Rattle.lw_line_demands.specs.AreasRead.{ReadsBelow}
use Rattle.lw_reader.specs.ReaderKnows.{known, setting_of}
use Rattle.lw_reader.specs.Represents.{Represents}

-- Lines tell as many of everything.
record AreCountedAlike (t u : Told) : Type 0 where
  tasks : t.tasks ≡ u.tasks
  bitmaps : t.bitmap_names ≡ u.bitmap_names
  patterns : t.pattern_names ≡ u.pattern_names
  names : t.names ≡ u.names
  supers : t.supers ≡ u.supers
  calls : t.calls_in_task ≡ u.calls_in_task

-- so do those with a further statement, and with several
alike_with : (f : Statement) (t u : Told) → AreCountedAlike t u → AreCountedAlike (told_with f t) (told_with f u)
alike_with f t u k =
    record { tasks = tasks_are f; bitmaps = bitmaps_are f; patterns = patterns_are f; names = names_are f; supers = supers_are f; calls = calls_are f }
  where
    tasks_are : (f : Statement) → (told_with f t).tasks ≡ (told_with f u).tasks
    tasks_are (TaskLine n) = ap (λ ts. ts ++ n ∷ []) k.tasks
    tasks_are f = k.tasks

    bitmaps_are : (f : Statement) → (told_with f t).bitmap_names ≡ (told_with f u).bitmap_names
    bitmaps_are (BitmapLine n w h d) = ap (λ ts. ts ++ n ∷ []) k.bitmaps
    bitmaps_are f = k.bitmaps

    patterns_are : (f : Statement) → (told_with f t).pattern_names ≡ (told_with f u).pattern_names
    patterns_are (PatternLine n words) = ap (λ ts. ts ++ n ∷ []) k.patterns
    patterns_are f = k.patterns

    names_are : (f : Statement) → (told_with f t).names ≡ (told_with f u).names
    names_are (CallLine layers act) = ap (λ ns. and_names ns layers) k.names
    names_are (LockLine name) = ap (λ ns. and_name ns name) k.names
    names_are (UnlockLine name) = ap (λ ns. and_name ns name) k.names
    names_are f = k.names

    supers_are : (f : Statement) → (told_with f t).supers ≡ (told_with f u).supers
    supers_are (CallLine layers act) = ap (λ n. cond (makes_super (CallLine layers act)) 1 0 + n) k.supers
    supers_are f = k.supers

    calls_are : (f : Statement) → (told_with f t).calls_in_task ≡ (told_with f u).calls_in_task
    calls_are (TaskLine n) = refl
    calls_are (CallLine layers act) = ap (λ n. n + 1) k.calls
    calls_are f = k.calls

alike_all : (fs : List Statement) (t u : Told) → AreCountedAlike t u → AreCountedAlike (told_all fs t) (told_all fs u)
alike_all [] t u k = k
alike_all (f ∷ fs) t u k = alike_all fs (told_with f t) (told_with f u) (alike_with f t u k)

-- so all of it are few, or not
few_alike : (m n : ℕ) (t u : Told) → m ≡ n → AreCountedAlike t u → are_few (limits_of m) t ≡ are_few (limits_of n) u
few_alike m n t u e k = rw (e, k.tasks, k.bitmaps, k.patterns, k.names, k.supers, k.calls) refl

-- A reader that represents lines.
module _ (s : Setting) (r : Reader) (above : List Statement) (k : Represents s r above) where
  -- a line that gives something again
  again : (f : Statement) → gives_again (known r) f ≡ gives_again (told above) f
  again (GlyphLine code rows) = k.assets.has_glyph code
  again (BitmapLine name w h d) = rw k.assets.names refl
  again (PatternLine name words) = rw k.assets.pattern_names refl
  again (TaskLine name) = rw k.tasks.tasks refl
  again f = refl

  -- a hook that is used
  names_hook : (o : Option ℤ) → is_hook_named (known r).names_hook o ≡ is_hook_named (told above).names_hook o
  names_hook None = refl
  names_hook (Some n) = k.tasks.names_hook (unsigned_abs n)

  -- the counts
  counts : AreCountedAlike (known r) (told above)
  counts =
      record {
        tasks = k.tasks.tasks;
        bitmaps = k.assets.names;
        patterns = k.assets.pattern_names;
        names = k.tasks.names;
        supers = k.tasks.supers;
        calls = k.tasks.calls_in_task;
      }

  -- and with a further line
  few : (f : Statement) → are_few (limits_of r.version) (told_with f (known r)) ≡ are_few (limits_of (told above).version) (told_with f (told above))
  few f = few_alike _ _ (told_with f (known r)) (told_with f (told above)) k.version (alike_with f (known r) (told above) counts)

  -- the words of a pattern
  words_alike : (pattern : Option (List ℕ)) → area_words (known r) pattern ≡ area_words (told above) pattern
  words_alike None = refl
  words_alike (Some name) = rw (k.assets.pattern_names, k.assets.patterns) refl

  -- what an area stands for, and its tests
  areas_alike : (layer : List ℕ) (pattern : Option (List ℕ)) (points : List Point) → stands_for (known r) (AreaLine layer pattern points) ≡ stands_for (told above) (AreaLine layer pattern points)
  areas_alike layer pattern points = rw (words_alike pattern, k.tasks.group) refl

  area_alike : (layer : List ℕ) (pattern : Option (List ℕ)) (points : List Point) → area_tested (known r) layer pattern points ≡ area_tested (told above) layer pattern points
  area_alike layer pattern points =
      chain (list_all is_in_range points) _ _ _ _ _ _ (ap (λ ns. lacks_pattern ns pattern) k.assets.pattern_names) (ap (λ g. allows_area g layer) k.tasks.group) all
    where
      fs : Told → List Statement
      fs t = stands_for t (AreaLine layer pattern points)

      all : are_few (limits_of r.version) (told_all (fs (known r)) (known r)) ≡ are_few (limits_of (told above).version) (told_all (fs (told above)) (told above))
      all =
          ap (λ gs. are_few (limits_of r.version) (told_all gs (known r))) (areas_alike layer pattern points)
          ∙ few_alike _ _ (told_all (fs (told above)) (known r)) (told_all (fs (told above)) (told above)) k.version (alike_all (fs (told above)) (known r) (told above) counts)

      chain : (a b c d b' c' d' : Bool) → b ≡ b' → c ≡ c' → d ≡ d' → (demand a Range >>= (λ _. demand (not b) NoName >>= (λ _. demand c Group >>= (λ _. demand d TooMany)))) ≡ (demand a Range >>= (λ _. demand (not b') NoName >>= (λ _. demand c' Group >>= (λ _. demand d' TooMany))))
      chain a b c d b' c' d' p q r = rw (p, q, r) refl

  -- what is done with a window of two layers stands for the same, and passes the same tests
  pairs_alike : (g : List ℕ) (act : GzzAct) → stands_for (known r) (GzzLine g act) ≡ stands_for (told above) (GzzLine g act)
  pairs_alike g act = ap (λ ps. gzz_lines ps g act) k.tasks.pairs

  above_alike : (name : List ℕ) → stands_above (known r) name ≡ stands_above (told above) name
  above_alike name = rw (k.tasks.names, k.tasks.names_without_slot) refl

  named_alike : (g : List ℕ) (act : GzzAct) → names_again (known r) g act ≡ names_again (told above) g act
  named_alike g (OpenGzz inner kind place box classes title) =
      ap (λ t. (t || stands_above (known r) inner) || bytes_eq g inner) (above_alike g)
      ∙ ap (λ t. (stands_above (told above) g || t) || bytes_eq g inner) (above_alike inner)
  named_alike g act = refl

  gzz_alike : (g : List ℕ) (act : GzzAct) → gzz_tested (known r) g act ≡ gzz_tested (told above) g act
  gzz_alike g act =
      chain _ _ _ _ _ _ _ _ _ _ _ _ (rw (k.width, k.height) refl) (ap (λ ps. lacks_pair ps g act) k.tasks.pairs) (named_alike g act) (ap (λ ps. comes_between ps act) k.tasks.pairs) (ap is_none k.tasks.group) all
    where
      fs : Told → List Statement
      fs t = stands_for t (GzzLine g act)

      all : are_few (limits_of r.version) (told_all (fs (known r)) (known r)) ≡ are_few (limits_of (told above).version) (told_all (fs (told above)) (told above))
      all =
          ap (λ gs. are_few (limits_of r.version) (told_all gs (known r))) (pairs_alike g act)
          ∙ few_alike _ _ (told_all (fs (told above)) (known r)) (told_all (fs (told above)) (told above)) k.version (alike_all (fs (told above)) (known r) (told above) counts)

      chain : (a b c d e h a' b' c' d' e' h' : Bool) → a ≡ a' → b ≡ b' → c ≡ c' → d ≡ d' → e ≡ e' → h ≡ h' → (demand a Range >>= (λ _. demand (not b) NoName >>= (λ _. demand (not c) DoubleName >>= (λ _. demand (not d) GzzReason >>= (λ _. demand e Group >>= (λ _. demand h TooMany)))))) ≡ (demand a' Range >>= (λ _. demand (not b') NoName >>= (λ _. demand (not c') DoubleName >>= (λ _. demand (not d') GzzReason >>= (λ _. demand e' Group >>= (λ _. demand h' TooMany))))))
      chain a b c d e h a' b' c' d' e' h' p q r s t u = rw (p, q, r, s, t, u) refl

  -- the tests of a statement
  tests_alike : (f : Statement) → line_tested (setting_of r) (known r) (StatementLine f) ≡ line_tested s (told above) (StatementLine f)
  tests_alike f =
      chain _ _ _ _ _ _ _ _ _ _ _ _ _ _ _ _ _ _ (ap (λ n. is_line_in_range n f) k.version) (ap (λ ns. lacks_name ns f) k.assets.names) (again f) (ap (λ ps. parts_pair ps f) k.tasks.pairs) (rw (k.tasks.group, k.tasks.calls_before_group, k.tasks.calls_in_task) refl) (few f) (ap (λ n. is_no_hook n (hook_on f)) k.hooks) (names_hook (hook_on f)) (ap (λ n. has_padding n f) k.assets.width)
    where
      chain : (a b c j d e g h i a' b' c' j' d' e' g' h' i' : Bool) → a ≡ a' → b ≡ b' → c ≡ c' → j ≡ j' → d ≡ d' → e ≡ e' → g ≡ g' → h ≡ h' → i ≡ i' → (demand a Range >>= (λ _. demand (not b) NoName >>= (λ _. demand (not c) DoubleName >>= (λ _. demand (not j) GzzReason >>= (λ _. demand d Group >>= (λ _. demand e TooMany >>= (λ _. demand (not g) NoHook >>= (λ _. demand (not h) HookUsed >>= (λ _. demand (not i) Padding))))))))) ≡ (demand a' Range >>= (λ _. demand (not b') NoName >>= (λ _. demand (not c') DoubleName >>= (λ _. demand (not j') GzzReason >>= (λ _. demand d' Group >>= (λ _. demand e' TooMany >>= (λ _. demand (not g') NoHook >>= (λ _. demand (not h') HookUsed >>= (λ _. demand (not i') Padding)))))))))
      chain a b c j d e g h i a' b' c' j' d' e' g' h' i' p q r x s t u v w = rw (p, q, r, x, s, t, u, v, w) refl

  -- the tests of what a line says
  line_alike : (l : Line) → line_tested (setting_of r) (known r) l ≡ line_tested s (told above) l
  line_alike (StatementLine f) = tests_alike f
  line_alike (AreaLine layer pattern points) = area_alike layer pattern points
  line_alike (GzzLine g act) = gzz_alike g act

  -- what is read of a line
  lines_alike : (line : List ℕ) → line_read (setting_of r) (known r) line ≡ line_read s (told above) line
  lines_alike line = at_words (words_read line)
    where
      at_line : (o : Result Line Reason) → (o >>= (λ l. line_tested (setting_of r) (known r) l >>= (λ _. Ok l))) ≡ (o >>= (λ l. line_tested s (told above) l >>= (λ _. Ok l)))
      at_line (Ok l) = rw (line_alike l) refl
      at_line (Err e) = refl

      Line_of : Result Line Reason → Result Line Reason
      Line_of o = o >>= (λ l. line_tested (setting_of r) (known r) l >>= (λ _. Ok l))

      at_words : (o : Result (List (List ℕ)) Reason) → (o >>= (λ ws. Line_of (line_made r.form r.version (known r).section r.assets.due r.assets.width ws))) ≡ (o >>= (λ ws. line_made s.form (told above).version (told above).section (told above).rows_due (told above).row_width ws >>= (λ l. line_tested s (told above) l >>= (λ _. Ok l))))
      at_words (Err e) = refl
      at_words (Ok ws) =
          let same : line_made r.form r.version (known r).section r.assets.due r.assets.width ws ≡ line_made s.form (told above).version (told above).section (told above).rows_due (told above).row_width ws = rw (k.form, k.version, k.section, k.assets.due, k.assets.width) refl in
          ap Line_of same ∙ at_line (line_made s.form (told above).version (told above).section (told above).rows_due (told above).row_width ws)

  -- what lines stand for is the same below both
  stands_alike : (l : Line) → stands_for (known r) l ≡ stands_for (told above) l
  stands_alike (StatementLine f) = refl
  stands_alike (AreaLine layer pattern points) = areas_alike layer pattern points
  stands_alike (GzzLine g act) = pairs_alike g act

  read_alike : (read : ReadLine) → lines_of (known r) read ≡ lines_of (told above) read
  read_alike (StatementRead f) = refl
  read_alike (AreaRead layer rects) = ap (λ g. area_lines g layer.now rects.items) k.tasks.group
  read_alike (GzzRead statements opened) = refl

  answer_alike : (answer : Result ReadLine Stop) (o : Result Line Reason) → ReadsBelow (known r) answer o → ReadsBelow (told above) answer o
  answer_alike (Ok read) o h = (h.0, h.1, sym (stands_alike h.0) ∙ h.2 ∙ read_alike read)
  answer_alike (Err stop) o h = h

  -- so the reader reads a line as the grammar does
  pub reads_alike : (line : List ℕ) (answer : Result ReadLine Stop) → ReadsBelow (known r) answer (line_read (setting_of r) (known r) line) → ReadsBelow (told above) answer (line_read s (told above) line)
  reads_alike line answer h =
      let P : Result Line Reason → Type 0 = λ o. ReadsBelow (told above) answer o in
      subst P (lines_alike line) (answer_alike answer _ h)
