-- What is known of a reader below which a line can be added.
use Rattle.std.proofs.Common.{◌≡◌, ℕ, ◌+◌, ◌<◌, ◌≤◌, ◌==◌, true, false, ◌&&◌, nat_le, cond, List, ◌∷◌, length, ℤ, pos, bytes_eq, sym, ap, ◌∙◌, to_z, of_z, w64, arith}
use Rattle.std.specs.List.{list_any}
use Rattle.lw_region.specs.Rectangle.{within}
use Rattle.lw_planes.specs.Bitmap.{row_bytes}
use Rattle.lw_grammar.specs.Statements.{Statement, ScreenLine, GlyphLine, BitmapLine, RowLine, PatternLine, TaskLine, CallLine, UnlockLine, ReleaseLine, Act, layers_of, version_at_screen, are_sizes_in_range, bitmap_size_limit, is_act_in_range}
use Rattle.lw_grammar.specs.Told.{makes_super, told}
use Rattle.lw_grammar.specs.Script.{is_lock_on, is_hold, pattern_limit, super_limit}
use Rattle.lw_grammar.specs.GoodLines.{IsStatementHere}
use Rattle.lw_calls.specs.Limits.{limits_of, task_limit, bitmap_limit}
use Rattle.lw_calls.proofs.LimitLaws.{screen_at_most, names_at_most, calls_at_most}
use Rattle.lw_grammar.proofs.ScriptSizes.{IsStatementTested, here, tests, counted}
use Rattle.lw_words.specs.Cuts.{targets}
use Rattle.lw_words.proofs.Targets.{length_targets}
use Rattle.lw_reader.specs.declared.state.Reader.{Reader}
use Rattle.lw_reader.specs.Represents.{CanAdd, IsBitmapBegun}
use Rattle.lw_line_additions.proofs.Passing.{none_due}
use Rattle.std.proofs.lemmas.Int.{ints}
use Rattle.std.proofs.lemmas.Bool.Decides.{nat_tests}
use Rattle.std.proofs.lemmas.Bool.{eqb-false, leb-true, ltb-true, and_parts}

-- what the line is good for, and its tests
pub here_of : (r : Reader) (f : Statement) (c : CanAdd r f) → IsStatementHere c.0 c.1 f
here_of r f c = here c.0 c.1 f c.3

pub tests_of : (r : Reader) (f : Statement) (c : CanAdd r f) → IsStatementTested c.0 c.1 f
tests_of r f c = tests c.0 c.1 f c.3

-- no row is due where the line isn't one
pub due_of : (r : Reader) (f : Statement) (c : CanAdd r f) → ((told c.1).rows_due == 0) ≡ true → r.assets.due ≡ 0
due_of r f c e = none_due c.0 r c.1 c.2 e

-- three sizes in their ranges, of which two have this limit
pub record AreRanged (limit : ℕ) (w h d : ℤ) : Type 0 where
  pub width : within (pos 1) w (pos limit) ≡ true
  pub height : within (pos 1) h (pos limit) ≡ true
  pub depth : within (pos 1) d (pos 8) ≡ true

sizes_ranged : (limit : ℕ) (w h d : ℤ) → are_sizes_in_range limit w h d ≡ true → AreRanged limit w h d
sizes_ranged limit w h d e =
    let halves = and_parts (within (pos 1) w (pos limit) && within (pos 1) h (pos limit)) _ e in
    let sides = and_parts (within (pos 1) w (pos limit)) _ halves.0 in
    record { width = sides.0; height = sides.1; depth = halves.1 }

-- a number up to a lower limit is one up to a higher
within_more : (z : ℤ) (m n : ℕ) → m ≤ n → within (pos 1) z (pos m) ≡ true → within (pos 1) z (pos n) ≡ true
unfolding within
within_more z m n h e = grind (arith, ints, nat_tests)

-- the screen's line, in any version
pub screen_ranged : (r : Reader) (w h d : ℤ) → CanAdd r (ScreenLine w h d) → AreRanged 2048 w h d
screen_ranged r w h d c =
    let version = version_at_screen (told c.1).version in
    let e = sizes_ranged (limits_of version).screen w h d (tests_of r (ScreenLine w h d) c).range in
    record {
      width = within_more w _ 2048 (screen_at_most version) e.width;
      height = within_more h _ 2048 (screen_at_most version) e.height;
      depth = e.depth;
    }

-- a bitmap's
pub bitmap_ranged : (r : Reader) (name : List ℕ) (w h d : ℤ) → CanAdd r (BitmapLine name w h d) → AreRanged bitmap_size_limit w h d
bitmap_ranged r name w h d c = sizes_ranged bitmap_size_limit w h d (tests_of r (BitmapLine name w h d) c).range

pub bitmap_new : (r : Reader) (name : List ℕ) (w h d : ℤ) → CanAdd r (BitmapLine name w h d) → list_any (bytes_eq name) (targets r.assets.names.keys) ≡ false
bitmap_new r name w h d c = rw (c.2.assets.names) (tests_of r (BitmapLine name w h d) c).new

-- a glyph's code
pub code_ranged : (r : Reader) (code : ℕ) (rows : List ℕ) → CanAdd r (GlyphLine code rows) → (32 ≤ code) × (code ≤ 126)
code_ranged r code rows c =
    let t = and_parts (nat_le 32 code) _ (tests_of r (GlyphLine code rows) c).range in (leb-true _ _ t.0, leb-true _ _ t.1)

pub rows_8 : (r : Reader) (code : ℕ) (rows : List ℕ) → CanAdd r (GlyphLine code rows) → length rows ≡ 8
rows_8 r code rows c = (here_of r (GlyphLine code rows) c).2

-- a pattern
pub pattern_new : (r : Reader) (name words : List ℕ) → CanAdd r (PatternLine name words) → list_any (bytes_eq name) (targets r.assets.pattern_names.keys) ≡ false
pattern_new r name words c = rw (c.2.assets.pattern_names) (tests_of r (PatternLine name words) c).new

-- a row
pub row_due : (r : Reader) (bytes : List ℕ) → CanAdd r (RowLine bytes) → 0 < r.assets.due
row_due r bytes c = go (told c.1).rows_due (here_of r (RowLine bytes) c).0 c.2.assets.due
  where
    go : (n : ℕ) → (n == 0) ≡ false → r.assets.due ≡ n → 0 < r.assets.due
    go n e d = omega (arith, eqb-false n 0 e, d)

pub row_long : (r : Reader) (bytes : List ℕ) → CanAdd r (RowLine bytes) → length bytes ≡ row_bytes r.assets.width
row_long r bytes c = (here_of r (RowLine bytes) c).1 ∙ ap row_bytes (sym c.2.assets.width)

pub row_begun : (r : Reader) (bytes : List ℕ) → CanAdd r (RowLine bytes) → IsBitmapBegun r.assets
row_begun r bytes c = c.2.assets.begun (row_due r bytes c)

-- a task's name
pub task_new : (r : Reader) (name : List ℕ) → CanAdd r (TaskLine name) → list_any (bytes_eq name) (targets r.tasks.task_names.keys) ≡ false
task_new r name c = rw (c.2.tasks.tasks) (tests_of r (TaskLine name) c).new

-- how many names there are
pub few_names : (r : Reader) (f : Statement) → CanAdd r f → length r.tasks.layer_names.keys < 4294967294
few_names r f c =
    let few : length (told c.1).names ≤ (limits_of (told c.1).version).names = (counted c.0 c.1 (c.3).1).names in
    let most = names_at_most (told c.1).version in
    let same : length (targets r.tasks.layer_names.keys) ≡ length (told c.1).names = ap length c.2.tasks.names in
    let all = length_targets r.tasks.layer_names.keys in
    omega (arith, few, most, same, all)

pub few_bitmaps : (r : Reader) (f : Statement) → CanAdd r f → length r.assets.names.keys ≤ 16
few_bitmaps r f c =
    let few : length (told c.1).bitmap_names ≤ 16 = (counted c.0 c.1 (c.3).1).bitmaps in
    let same : length (targets r.assets.names.keys) ≡ length (told c.1).bitmap_names = ap length c.2.assets.names in
    let all = length_targets r.assets.names.keys in
    omega (arith, few, same, all)

-- a group's end stands after a call
pub some_unlocked : (r : Reader) (name : List ℕ) → CanAdd r (UnlockLine name) → 0 < r.tasks.calls_in_task
some_unlocked r name c =
    let t = and_parts (is_lock_on name (told c.1).group) _ (tests_of r (UnlockLine name) c).group in
    let lt : (told c.1).calls_before_group < (told c.1).calls_in_task = ltb-true _ _ t.1 in
    let same = c.2.tasks.calls_in_task in
    omega (arith, lt, same)

pub some_released : (r : Reader) → CanAdd r ReleaseLine → 0 < r.tasks.calls_in_task
some_released r c =
    let t = and_parts (is_hold (told c.1).group) _ (tests_of r ReleaseLine c).group in
    let lt : (told c.1).calls_before_group < (told c.1).calls_in_task = ltb-true _ _ t.1 in
    let same = c.2.tasks.calls_in_task in
    omega (arith, lt, same)

-- a call
pub call_ranged : (r : Reader) (layers : List (List ℕ)) (act : Act) → CanAdd r (CallLine layers act) → is_act_in_range act ≡ true
call_ranged r layers act c = (tests_of r (CallLine layers act) c).range

pub call_made : (r : Reader) (layers : List (List ℕ)) (act : Act) → CanAdd r (CallLine layers act) → length layers ≡ layers_of act
call_made r layers act c = ((here_of r (CallLine layers act) c).2).0

pub call_room : (r : Reader) (layers : List (List ℕ)) (act : Act) → CanAdd r (CallLine layers act) → r.tasks.calls_in_task < 4294967295
call_room r layers act c =
    let few : (told c.1).calls_in_task + 1 ≤ (limits_of (told c.1).version).calls = (counted c.0 (CallLine layers act ∷ c.1) c.3).calls in
    let most = calls_at_most (told c.1).version in
    let same = c.2.tasks.calls_in_task in
    omega (arith, few, most, same)

pub call_supers : (r : Reader) (layers : List (List ℕ)) (act : Act) → CanAdd r (CallLine layers act) → r.tasks.supers ≤ 16
call_supers r layers act c =
    let f = CallLine layers act in
    let limits = limits_of (told c.1).version in
    let halves = and_parts ((nat_le (length (told (f ∷ c.1)).tasks) task_limit && (nat_le (length (told (f ∷ c.1)).bitmap_names) bitmap_limit && nat_le (length (told (f ∷ c.1)).pattern_names) pattern_limit)) && nat_le (length (told (f ∷ c.1)).names) limits.names) _ (tests_of r f c).few in
    let last = and_parts (nat_le (told (f ∷ c.1)).supers super_limit) _ halves.1 in
    let few : cond (makes_super f) 1 0 + (told c.1).supers ≤ 16 = leb-true _ _ last.0 in
    let same = c.2.tasks.supers in
    omega (arith, few, same)

-- a size in its range is read as it is
pub in_64 : (z : ℤ) (m : ℕ) → m ≤ 2048 → within (pos 1) z (pos m) ≡ true → to_z w64 (of_z w64 z) ≡ z
unfolding within
in_64 z m h e = grind (arith, ints, nat_tests)

-- and is a number that isn't negative, in 32 bits
pub count_64 : (z : ℤ) (m : ℕ) → m ≤ 2048 → within (pos 1) z (pos m) ≡ true → within (pos 0) (to_z w64 (of_z w64 z)) (pos 4294967295) ≡ true
unfolding within
count_64 z m h e = rw (in_64 z m h e) (grind (arith, ints, nat_tests))
