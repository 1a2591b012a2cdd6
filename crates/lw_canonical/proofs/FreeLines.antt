-- No line of its own parts a window of two layers that any line of the script opens.
use Rattle.std.proofs.Common.{◌≡◌, ℕ, Bool, true, false, ◌&&◌, ◌||◌, List, [], ◌∷◌, ◌++◌, bytes_eq, refl, sym, ap₂, subst, ◌∙◌}
use Rattle.std.specs.List.{list_any}
use Rattle.lw_grammar.specs.Statements.{Act, Statement, CallLine, LockLine, UnlockLine, PairMade, GzzAct, OpenGzz, BoxGzz, FrontGzz, BehindGzz, InFrontGzz, CloseGzz, Line, StatementLine, AreaLine, GzzLine}
use Rattle.lw_grammar.specs.Told.{NamedPair, Told, gzz_lines, told}
use Rattle.lw_grammar.specs.Script.{Setting, is_outer, is_inner, is_paired, is_placing, is_activating, parts_pair, stands_above, added}
use Rattle.lw_grammar.proofs.ScriptNames.{equal_names, any_kept, AreNamed, all_named}
use Rattle.lw_grammar.proofs.GzzLines.{gzz_passed}
use Rattle.lw_canonical.specs.Spelling.{written}
use Rattle.lw_canonical.proofs.Rearranged.{stated, AreLinesWritten}
use Rattle.lw_canonical.proofs.OneSpelling.{line_reading}
use Rattle.lw_canonical.proofs.TaskLineAlone.{read_has_line}
use Rattle.std.proofs.lemmas.Bool.{true≢false, false≢true, or_parts}
use Rattle.std.proofs.lemmas.List.Folds.{list_any-append}

-- each of these names is among the names
abbrev pub IsAmong : List (List ℕ) → List ℕ → Type 0
IsAmong names n = list_any (bytes_eq n) names ≡ true

-- statements keep the names that stand above them
pub name_kept : (f : Statement) (above : List Statement) (n : List ℕ) → IsAmong (told above).names n → IsAmong (told (f ∷ above)).names n
name_kept (CallLine layers act) above n h = any_kept (bytes_eq n) (told above).names layers h
name_kept (LockLine name) above n h = any_kept (bytes_eq n) (told above).names (name ∷ []) h
name_kept (UnlockLine name) above n h = any_kept (bytes_eq n) (told above).names (name ∷ []) h
name_kept f above n h = h

pub names_kept : (fs above : List Statement) (n : List ℕ) → IsAmong (told above).names n → IsAmong (told (added fs above)).names n
names_kept [] above n h = h
names_kept (f ∷ fs) above n h = names_kept fs (f ∷ above) n (name_kept f above n h)

-- the layers of each call that is a line of its own are among the names
abbrev pub AreLayersNamed : List (List ℕ) → List Line → Type 0
AreLayersNamed names [] = Unit {0}
AreLayersNamed names (StatementLine (CallLine layers act) ∷ ls) = AreNamed names layers × AreLayersNamed names ls
AreLayersNamed names (l ∷ ls) = AreLayersNamed names ls

each_named : (names more layers : List (List ℕ)) → ((n : List ℕ) → IsAmong names n → IsAmong more n) → AreNamed names layers → AreNamed more layers
each_named names more [] f h = tt
each_named names more (l ∷ ls) f h = (f l h.0, each_named names more ls f h.1)

layers_kept : (names more : List (List ℕ)) (ls : List Line) → ((n : List ℕ) → IsAmong names n → IsAmong more n) → AreLayersNamed names ls → AreLayersNamed more ls
layers_kept names more [] f h = tt
layers_kept names more (StatementLine (CallLine layers act) ∷ ls) f h = (each_named names more layers f h.0, layers_kept names more ls f h.1)
layers_kept names more (StatementLine g ∷ ls) f h = layers_kept names more ls f h
layers_kept names more (AreaLine layer pattern points ∷ ls) f h = layers_kept names more ls f h
layers_kept names more (GzzLine g act ∷ ls) f h = layers_kept names more ls f h

pub layers_named : (s : Setting) (ls : List Line) → AreLinesWritten s ls → AreLayersNamed (told (stated ls)).names ls
layers_named s [] w = tt
layers_named s (AreaLine layer pattern points ∷ ls) w = absurd w.0
layers_named s (GzzLine g act ∷ ls) w =
    layers_kept (told (stated ls)).names _ ls (λ n h. names_kept (gzz_lines (told (stated ls)).pairs g act) (stated ls) n h) (layers_named s ls w.1)
layers_named s (StatementLine (CallLine layers act) ∷ ls) w =
    (all_named (told (stated ls)).names layers, layers_kept (told (stated ls)).names _ ls (λ n h. name_kept (CallLine layers act) (stated ls) n h) (layers_named s ls w.1))
layers_named s (StatementLine f ∷ ls) w = layers_kept (told (stated ls)).names _ ls (λ n h. name_kept f (stated ls) n h) (layers_named s ls w.1)

-- no line of its own parts one of these windows
abbrev pub AreFree : List NamedPair → List Line → Type 0
AreFree pairs [] = Unit {0}
AreFree pairs (StatementLine f ∷ ls) = (parts_pair pairs f ≡ false) × AreFree pairs ls
AreFree pairs (AreaLine layer pattern points ∷ ls) = AreFree pairs ls
AreFree pairs (GzzLine g act ∷ ls) = AreFree pairs ls

-- a name that isn't among the names is none of them
pub other_name : (names : List (List ℕ)) (l n : List ℕ) → IsAmong names l → list_any (bytes_eq n) names ≡ false → bytes_eq l n ≡ false
other_name names l n h k = go (bytes_eq l n) refl
  where
    go : (t : Bool) → bytes_eq l n ≡ t → t ≡ false
    go false e = refl
    go true e = absurd (true≢false (sym (subst (λ (m : List ℕ). IsAmong names m) (equal_names l n e) h) ∙ k))

-- a further window of other names
no_more : (a b : Bool) → b ≡ false → (a || (b || false)) ≡ a
no_more true b e = refl
no_more false false e = refl
no_more false true e = absurd (true≢false e)

pub outer_more : (pairs : List NamedPair) (q : NamedPair) (l : List ℕ) → bytes_eq l q.outer ≡ false → is_outer (pairs ++ q ∷ []) l ≡ is_outer pairs l
outer_more pairs q l e = list_any-append (λ p. bytes_eq l p.outer) pairs (q ∷ []) ∙ no_more (is_outer pairs l) (bytes_eq l q.outer) e

inner_more : (pairs : List NamedPair) (q : NamedPair) (l : List ℕ) → bytes_eq l q.inner ≡ false → is_inner (pairs ++ q ∷ []) l ≡ is_inner pairs l
inner_more pairs q l e = list_any-append (λ p. bytes_eq l p.inner) pairs (q ∷ []) ∙ no_more (is_inner pairs l) (bytes_eq l q.inner) e

-- both names of a window are none of the names
pub record IsNew (names : List (List ℕ)) (q : NamedPair) : Type 0 where
  pub outer : list_any (bytes_eq q.outer) names ≡ false
  pub inner : list_any (bytes_eq q.inner) names ≡ false

paired_same : (names : List (List ℕ)) (pairs : List NamedPair) (q : NamedPair) (layers : List (List ℕ)) → IsNew names q → AreNamed names layers → (list_any (is_paired (pairs ++ q ∷ [])) layers ≡ list_any (is_paired pairs) layers) × (list_any (is_inner (pairs ++ q ∷ [])) layers ≡ list_any (is_inner pairs) layers)
paired_same names pairs q [] new h = (refl, refl)
paired_same names pairs q (l ∷ ls) new h =
    let rest = paired_same names pairs q ls new h.1 in
    let outer = outer_more pairs q l (other_name names l q.outer h.0 new.outer) in
    let inner = inner_more pairs q l (other_name names l q.inner h.0 new.inner) in
    (ap₂ (λ (a b : Bool). a || b) (ap₂ (λ (a b : Bool). a || b) outer inner) rest.0, ap₂ (λ (a b : Bool). a || b) inner rest.1)

parts_same : (names : List (List ℕ)) (pairs : List NamedPair) (q : NamedPair) (layers : List (List ℕ)) (act : Act) → IsNew names q → AreNamed names layers → parts_pair (pairs ++ q ∷ []) (CallLine layers act) ≡ parts_pair pairs (CallLine layers act)
parts_same names pairs q layers act new h =
    let k = paired_same names pairs q layers new h in
    ap₂ (λ (a b : Bool). (is_placing act && a) || (is_activating act && b)) k.0 k.1

still_free : (names : List (List ℕ)) (pairs : List NamedPair) (q : NamedPair) (ls : List Line) → IsNew names q → AreLayersNamed names ls → AreFree pairs ls → AreFree (pairs ++ q ∷ []) ls
still_free names pairs q [] new h k = tt
still_free names pairs q (StatementLine (CallLine layers act) ∷ ls) new h k = (parts_same names pairs q layers act new h.0 ∙ k.0, still_free names pairs q ls new h.1 k.1)
still_free names pairs q (StatementLine f ∷ ls) new h k = (refl, still_free names pairs q ls new h k.1)
still_free names pairs q (AreaLine layer pattern points ∷ ls) new h k = still_free names pairs q ls new h k
still_free names pairs q (GzzLine g act ∷ ls) new h k = still_free names pairs q ls new h k

-- the names of a window that is opened are new
pub new_names : (t : Told) (g inner : List ℕ) → ((stands_above t g || stands_above t inner) || bytes_eq g inner) ≡ false → IsNew t.names (record { outer = g; inner = inner })
new_names t g inner h =
    let k = or_parts (stands_above t g || stands_above t inner) _ h in
    let m = or_parts (stands_above t g) _ k.0 in
    record { outer = (or_parts (list_any (bytes_eq g) t.names) _ m.0).0; inner = (or_parts (list_any (bytes_eq inner) t.names) _ m.1).0 }

-- So no line of its own parts a window of two layers that lines tell.
pub all_free : (s : Setting) (ls : List Line) → AreLinesWritten s ls → AreFree (told (stated ls)).pairs ls
all_free s [] w = tt
all_free s (AreaLine layer pattern points ∷ ls) w = absurd w.0
all_free s (StatementLine (PairMade outer inner) ∷ ls) w = absurd (false≢true (read_has_line s (told (stated ls)) (PairMade outer inner) w.0.0))
all_free s (StatementLine f ∷ ls) w = (w.0.1, all_free s ls w.1)
all_free s (GzzLine g (OpenGzz inner kind place r classes title) ∷ ls) w =
    let act : GzzAct = OpenGzz inner kind place r classes title in
    let read = line_reading s (stated ls) (written (GzzLine g act)) (GzzLine g act) w.0 in
    let tested = gzz_passed (told (stated ls)) g act read.tested in
    still_free (told (stated ls)).names (told (stated ls)).pairs (record { outer = g; inner = inner }) ls (new_names (told (stated ls)) g inner tested.new) (layers_named s ls w.1) (all_free s ls w.1)
all_free s (GzzLine g (BoxGzz r) ∷ ls) w = all_free s ls w.1
all_free s (GzzLine g FrontGzz ∷ ls) w = all_free s ls w.1
all_free s (GzzLine g BehindGzz ∷ ls) w = all_free s ls w.1
all_free s (GzzLine g (InFrontGzz m) ∷ ls) w = all_free s ls w.1
all_free s (GzzLine g CloseGzz ∷ ls) w = all_free s ls w.1
