-- Which pixels of a draft's layer are kept and drawable, by its buffers, its clip region and its damage.
use Rattle.std.proofs.Common.{◌≡◌, ℕ, ◌+◌, ◌-◌, ◌==◌, ◌<◌, ◌≤◌, Bool, true, false, ◌&&◌, nat_lt, [], ◌∷◌, ◌++◌, length, get_or, Option, Some, None, ◌∙◌, sym, refl, ap, subst, arith, ℤ, pos, negsuc, ◌+ℤ◌, ◌-ℤ◌, ◌≤ℤ◌, length-append, unsigned_abs}
use Rattle.std.proofs.lemmas.Bool.Decides.{nat_tests}
use Rattle.std.proofs.lemmas.Int.{ints}
use Rattle.std.proofs.lemmas.List.{get_or_append_left, get_or_at, get_or-append-add}
use Rattle.std.proofs.Math.Bool.{and-false}
use Rattle.std.proofs.lemmas.Bool.{and_parts, and_from}
use Rattle.lw_region.specs.Rectangle.{Rectangle, within, has_pixel, IsOrdered, width, height}
use Rattle.lw_region.specs.Bands.{covers}
use Rattle.lw_region.proofs.Disjoint.{has_at}
use Rattle.lw_region.proofs.FindingLaws.{covers_none}
use Rattle.lw_region.proofs.Within.{within_low}
use Rattle.lw_planes.proofs.GridLaws.{grid_at}
use Rattle.lw_planes.specs.Bitmap.{Bitmap}
use Rattle.lw_calls.specs.Kinds.{is_super}
use Rattle.lw_calls.specs.declared.make.Kind.{Kind}
use Rattle.lw_calls.specs.declared.make.Kind.TheVariants.{Simple, Smart, SuperBitmap}
use Rattle.lw_cliprects.specs.Parts.{hidden_of, AreDivided}
use Rattle.lw_machine.specs.Kept.{is_kept, is_drawable, holds_at}
use Rattle.lw_layer.specs.View.{keeps, draws}
use Rattle.lw_layer.specs.Pieces.{Layout, buffered, buffer_rectangle, rest_as, rest_of, whole_of, across, down, found_in, buffer_at, line_in, in_line}
use Rattle.lw_layer.specs.Drafts.{IsLiveDraft, IsRest, width_of, height_of, layout, live_view}
use Rattle.lw_layer.specs.Runs.{IsRun}
use Rattle.lw_layer.specs.Code.{HasPlace, IsReach, IsKeptReach, lets_draw}
use Rattle.lw_layer.specs.declared.draft.LiveDraft.{LiveDraft}
use Rattle.lw_layer.proofs.FoundLaws.{in_bits_found, whole_has}
use Rattle.lw_layer.proofs.Positions.{none_passes}
use Rattle.lw_layer.proofs.ViewLaws.{has_place}
use Rattle.lw_layer.proofs.ReachLaws.{simple_number}

-- a pixel of the bits is kept as its kind says
pub kept_in_bits : (d : LiveDraft) (x y : ℕ) (kind : Kind) → d.kind ≡ kind → x < (layout d).width → y < (layout d).height → (kind ≡ Simple → covers d.parts.visible (across (layout d) x) (down (layout d) y) ≡ true) → keeps (live_view d) x y ≡ true
unfolding keeps is_kept
kept_in_bits d x y Simple is left low shown =
    let column : nat_lt x (layout d).width ≡ true = grind (arith, nat_tests) in
    let row : nat_lt y (layout d).height ≡ true = grind (arith, nat_tests) in
    rw (is, column, row) (shown refl)
kept_in_bits d x y Smart is left low shown =
    let column : nat_lt x (layout d).width ≡ true = grind (arith, nat_tests) in
    let row : nat_lt y (layout d).height ≡ true = grind (arith, nat_tests) in
    rw (is, column, row) refl
kept_in_bits d x y SuperBitmap is left low shown =
    let column : nat_lt x (layout d).width ≡ true = grind (arith, nat_tests) in
    let row : nat_lt y (layout d).height ≡ true = grind (arith, nat_tests) in
    rw (is, column, row) refl

-- a pixel whose pen is in a buffer is kept
pub keeps_found : (d : LiveDraft) (x y n : ℕ) → buffer_at (layout d) x y ≡ Some n → keeps (live_view d) x y ≡ true
keeps_found d x y n found =
    let l = layout d in
    let place = has_place l x y n found in
    kept_in_bits d x y d.kind refl place.left place.low
    (λ simple.
    let shown : n < length d.parts.visible = simple_number l n simple place.there in
    let here : buffer_rectangle l n ≡ get_or l.visible n l.bounds = get_or_append_left l.visible (rest_of l) l.bounds n shown in
    let P : Rectangle → Type 0 = λ r. has_pixel r (across l x) (down l y) ≡ true in
    has_at l.visible n l.bounds (across l x) (down l y) shown (subst P here place.has))

-- of a pixel of the bits, drawable is what is kept and may be drawn
pub drawable_is : (d : LiveDraft) (x y : ℕ) → x < (layout d).width → y < (layout d).height → draws (live_view d) x y ≡ (keeps (live_view d) x y && lets_draw d y x)
unfolding draws keeps is_drawable
drawable_is d x y left low =
    let damaged = grid_at (layout d).width (layout d).height (λ i j. covers d.damage.rects (pos i) (pos j)) false x y left low in
    rw damaged refl

-- no pixel off the bits is kept, nor drawable
pub off_bits : (d : LiveDraft) (x y : ℕ) → (nat_lt x (layout d).width && nat_lt y (layout d).height) ≡ false → keeps (live_view d) x y ≡ false
unfolding keeps is_kept
off_bits d x y off = rw off refl

pub unkept_undrawn : (d : LiveDraft) (x y : ℕ) → keeps (live_view d) x y ≡ false → draws (live_view d) x y ≡ false
unfolding draws keeps is_drawable
unkept_undrawn d x y off = rw off refl

-- how far a column lies in its buffer
column_step : (edge left : ℤ) (scroll x u bit : ℕ) → left ≤ℤ ((edge +ℤ pos x) -ℤ pos scroll) → x ≤ u → pos bit ≡ (((edge +ℤ pos x) -ℤ pos scroll) -ℤ left) → unsigned_abs (((edge +ℤ pos u) -ℤ pos scroll) -ℤ left) + x ≡ bit + u
column_step edge left scroll x u bit inside later is = omega (arith, ints)

pub distance_is : (edge place : ℤ) (n : ℕ) → pos n ≡ place -ℤ edge → unsigned_abs (place -ℤ edge) ≡ n
distance_is edge place n is = omega (arith, ints)

-- a run of pixels for which a test holds
run_of : (d : LiveDraft) (test : ℕ → ℕ → Bool) (x y n kept len bit line : ℕ) → buffer_at (layout d) x y ≡ Some n → IsKeptReach (layout d) n x y kept → len ≤ kept → ((u : ℕ) → x ≤ u → u < x + len → test u y ≡ true) → 0 < len → pos bit ≡ across (layout d) x -ℤ (buffer_rectangle (layout d) n).min_x → pos line ≡ down (layout d) y -ℤ (buffer_rectangle (layout d) n).min_y → IsRun (live_view d) test x y (record { buffer = n; line = line; bit = bit; len = len })
unfolding in_line
run_of d test x y n kept len bit line found reach upto holds some is_bit is_line =
    let l = layout d in
    let place = has_place l x y n found in
    let halves = and_parts _ _ place.has in
    let left = within_low _ _ _ halves.0 in
    let at_line : line_in l n y ≡ line = distance_is (buffer_rectangle l n).min_y (down l y) line is_line in
    let end : ℕ = x + (len - 1) in
    let last = has_place l end y n (reach.found end (omega arith) (omega (arith, upto))) in
    let last_step = column_step l.bounds.min_x (buffer_rectangle l n).min_x l.scroll_x x end bit left (omega arith) is_bit in
    let last_inside : bit + len ≤ width (buffer_rectangle l n) = omega (arith, last.column, last_step) in
    record {
      some = some;
      there = record { buffer = place.there; below = omega (arith, place.line) };
      holds = holds;
      inside =
          λ u later before.
          let here = reach.found u later (omega (arith, upto)) in
          let same : (n == n) ≡ true = grind (arith, nat_tests) in
          let even : (line_in l n y == line) ≡ true = grind (arith, nat_tests) in
          rw (here, same, even) refl;
      fits = last_inside;
      bits = λ u later before. column_step l.bounds.min_x (buffer_rectangle l n).min_x l.scroll_x x u bit left later is_bit;
    }

-- a run that is drawn
pub run_some : (d : LiveDraft) (x y n kept len bit line : ℕ) → buffer_at (layout d) x y ≡ Some n → IsKeptReach (layout d) n x y kept → IsReach (lets_draw d y) x kept len → 0 < len → pos bit ≡ across (layout d) x -ℤ (buffer_rectangle (layout d) n).min_x → pos line ≡ down (layout d) y -ℤ (buffer_rectangle (layout d) n).min_y → IsRun (live_view d) (λ i j. draws (live_view d) i j) x y (record { buffer = n; line = line; bit = bit; len = len })
run_some d x y n kept len bit line found reach drawn some is_bit is_line =
    run_of d (λ i j. draws (live_view d) i j) x y n kept len bit line found reach drawn.upto
    (λ u later before.
    let here = reach.found u later (omega (arith, drawn.upto)) in
    let spot = has_place (layout d) u y n here in
    drawable_is d u y spot.left spot.low ∙ and_from _ _ (keeps_found d u y n here) (drawn.holds u later before))
    some is_bit is_line

-- a run that is kept
pub kept_run : (d : LiveDraft) (x y n len bit line : ℕ) → buffer_at (layout d) x y ≡ Some n → IsKeptReach (layout d) n x y len → pos bit ≡ across (layout d) x -ℤ (buffer_rectangle (layout d) n).min_x → pos line ≡ down (layout d) y -ℤ (buffer_rectangle (layout d) n).min_y → IsRun (live_view d) (λ i j. keeps (live_view d) i j) x y (record { buffer = n; line = line; bit = bit; len = len })
kept_run d x y n len bit line found reach is_bit is_line =
    run_of d (λ i j. keeps (live_view d) i j) x y n len len bit line found reach (omega arith) (λ u later before. keeps_found d u y n (reach.found u later before)) reach.some is_bit is_line

-- a pixel that isn't drawn
pub run_none : (d : LiveDraft) (x y n kept len : ℕ) → buffer_at (layout d) x y ≡ Some n → IsKeptReach (layout d) n x y kept → IsReach (lets_draw d y) x kept len → len ≡ 0 → draws (live_view d) x y ≡ false
run_none d x y n kept len found reach drawn nothing =
    let place = has_place (layout d) x y n found in
    let off : lets_draw d y x ≡ false = drawn.none nothing reach.some in
    drawable_is d x y place.left place.low ∙ (rw off (and-false _))

-- the bounds of a layer without an own bitmap have all its pixels
bounds_within : (least greatest : ℤ) (scroll x : ℕ) → scroll ≡ 0 → least ≤ℤ greatest → x < unsigned_abs ((greatest +ℤ pos 1) -ℤ least) → within least ((least +ℤ pos x) -ℤ pos scroll) greatest ≡ true
unfolding within
bounds_within least greatest scroll x still ordered inside = grind (arith, ints)

-- the bits of a layer without an own bitmap have the size of its bounds
pub plain_size : (kind : Kind) (hidden covered : ℕ) (own : Option Bitmap) (bounds : Rectangle) → is_super kind ≡ false → IsRest kind hidden covered own → (width_of own bounds ≡ width bounds) × (height_of own bounds ≡ height bounds)
plain_size Simple hidden covered own bounds plain rest = (ap (λ o. width_of o bounds) rest.1, ap (λ o. height_of o bounds) rest.1)
plain_size Smart hidden covered own bounds plain rest = (ap (λ o. width_of o bounds) rest.1, ap (λ o. height_of o bounds) rest.1)
plain_size SuperBitmap hidden covered own bounds plain rest = absurd (cc plain)

in_bounds : (d : LiveDraft) (x y : ℕ) → d.kind ≡ Smart → IsLiveDraft d → IsOrdered d.bounds → x < (layout d).width → y < (layout d).height → has_pixel d.bounds (across (layout d) x) (down (layout d) y) ≡ true
in_bounds d x y is ok ordered left low =
    let plain : is_super d.kind ≡ false = ap is_super is in
    let size = plain_size d.kind _ _ d.superbits d.bounds plain ok.buffers.rest in
    let still_x = ok.place.scrolled.left plain in
    let still_y = ok.place.scrolled.upper plain in
    let column : x < width d.bounds = omega (arith, size.0) in
    let row : y < height d.bounds = omega (arith, size.1) in
    and_from _ _ (bounds_within d.bounds.min_x d.bounds.max_x (layout d).scroll_x x still_x ordered.columns column) (bounds_within d.bounds.min_y d.bounds.max_y (layout d).scroll_y y still_y ordered.rows row)

-- a pixel of the bits that has no buffer isn't kept
pub keeps_missing : (d : LiveDraft) (x y : ℕ) (kind : Kind) → d.kind ≡ kind → IsLiveDraft d → IsOrdered d.bounds → AreDivided d.bounds d.parts.visible (hidden_of d.bounds d.parts.visible) → x < (layout d).width → y < (layout d).height → buffer_at (layout d) x y ≡ None → keeps (live_view d) x y ≡ false
unfolding keeps is_kept
keeps_missing d x y Simple is ok ordered divided left low none =
    let l = layout d in
    let nowhere : found_in l (buffered l) x y ≡ None = sym (in_bits_found l x y left low) ∙ none in
    let long = length-append l.visible (rest_of l) in
    let free : covers l.visible (across l x) (down l y) ≡ false =
    covers_none l.visible l.bounds (across l x) (down l y)
    (λ k inside. sym (ap (λ r. has_pixel r (across l x) (down l y)) (get_or_append_left l.visible (rest_of l) l.bounds k inside)) ∙ none_passes (λ r. has_pixel r (across l x) (down l y)) (buffered l) k l.bounds nowhere (omega arith))
    in
    let column : nat_lt x l.width ≡ true = grind (arith, nat_tests) in
    let row : nat_lt y l.height ≡ true = grind (arith, nat_tests) in
    rw (is, column, row) free
keeps_missing d x y Smart is ok ordered divided left low none =
    let l = layout d in
    let hidden = hidden_of l.bounds l.visible in
    let all : buffered l ≡ l.visible ++ hidden = ap (λ q. l.visible ++ rest_as q hidden (whole_of l)) is in
    let nowhere : found_in l (l.visible ++ hidden) x y ≡ None = ap (λ q. found_in l q x y) (sym all) ∙ (sym (in_bits_found l x y left low) ∙ none) in
    let long = length-append l.visible hidden in
    let test : Rectangle → Bool = λ r. has_pixel r (across l x) (down l y) in
    let shown : covers l.visible (across l x) (down l y) ≡ false =
    covers_none l.visible l.bounds (across l x) (down l y)
    (λ k inside. sym (ap test (get_or_append_left l.visible hidden l.bounds k inside)) ∙ none_passes test (l.visible ++ hidden) k l.bounds nowhere (omega arith))
    in
    let covered : covers hidden (across l x) (down l y) ≡ false =
    covers_none hidden l.bounds (across l x) (down l y)
    (λ k inside. sym (ap test (get_or-append-add l.visible hidden k l.bounds)) ∙ none_passes test (l.visible ++ hidden) (length l.visible + k) l.bounds nowhere (omega arith))
    in
    let inside : has_pixel l.bounds (across l x) (down l y) ≡ true = in_bounds d x y is ok ordered left low in
    let split = divided.cover (across l x) (down l y) in
    absurd (cc (rw (shown, covered) at split))
keeps_missing d x y SuperBitmap is ok ordered divided left low none =
    let l = layout d in
    let nowhere : found_in l (buffered l) x y ≡ None = sym (in_bits_found l x y left low) ∙ none in
    let rest : rest_of l ≡ whole_of l ∷ [] = ap (λ q. rest_as q (hidden_of l.bounds l.visible) (whole_of l)) is in
    let long : length (buffered l) ≡ length l.visible + 1 = length-append l.visible (rest_of l) ∙ ap (λ q. length l.visible + length q) rest in
    let last : buffer_rectangle l (length l.visible) ≡ whole_of l = ap (λ q. get_or (l.visible ++ q) (length l.visible) l.bounds) rest ∙ get_or_at l.visible (whole_of l) [] l.bounds (length l.visible) refl in
    let has = whole_has l x y left low in
    let hasnt = none_passes (λ r. has_pixel r (across l x) (down l y)) (buffered l) (length l.visible) l.bounds nowhere (omega arith) in
    let P : Rectangle → Type 0 = λ r. has_pixel r (across l x) (down l y) ≡ false in
    let none_there = subst P last hasnt in
    absurd (cc)

-- a pixel with a column or a row that the bits haven't isn't kept, nor drawable
pub column_off : (d : LiveDraft) (x y : ℕ) → (layout d).width ≤ x → keeps (live_view d) x y ≡ false
column_off d x y past = let off : nat_lt x (layout d).width ≡ false = grind (arith, nat_tests) in off_bits d x y (rw off refl)

row_off : (d : LiveDraft) (x y : ℕ) → (layout d).height ≤ y → keeps (live_view d) x y ≡ false
row_off d x y past = let off : nat_lt y (layout d).height ≡ false = grind (arith, nat_tests) in off_bits d x y (rw off (and-false _))

pub columns_off : (d : LiveDraft) (x y : ℤ) → ((u : ℕ) → x ≡ pos u → (layout d).width ≤ u) → holds_at (λ i j. keeps (live_view d) i j) x y ≡ false
columns_off d (pos x) (pos y) off = column_off d x y (off x refl)
columns_off d (pos x) (negsuc y) off = refl
columns_off d (negsuc x) y off = refl

pub rows_off : (d : LiveDraft) (x y : ℤ) → ((v : ℕ) → y ≡ pos v → (layout d).height ≤ v) → holds_at (λ i j. keeps (live_view d) i j) x y ≡ false
rows_off d (pos x) (pos y) off = row_off d x y (off y refl)
rows_off d (pos x) (negsuc y) off = refl
rows_off d (negsuc x) y off = refl

pub columns_undrawn : (d : LiveDraft) (x y : ℤ) → ((u : ℕ) → x ≡ pos u → (layout d).width ≤ u) → holds_at (λ i j. draws (live_view d) i j) x y ≡ false
columns_undrawn d (pos x) (pos y) off = unkept_undrawn d x y (column_off d x y (off x refl))
columns_undrawn d (pos x) (negsuc y) off = refl
columns_undrawn d (negsuc x) y off = refl

pub rows_undrawn : (d : LiveDraft) (x y : ℤ) → ((v : ℕ) → y ≡ pos v → (layout d).height ≤ v) → holds_at (λ i j. draws (live_view d) i j) x y ≡ false
rows_undrawn d (pos x) (pos y) off = unkept_undrawn d x y (row_off d x y (off y refl))
rows_undrawn d (pos x) (negsuc y) off = refl
rows_undrawn d (negsuc x) y off = refl

-- a pixel isn't left of its rectangle, nor above it
pub left_of_pixel : (l : Layout) (x y n : ℕ) → HasPlace l x y n → (buffer_rectangle l n).min_x ≤ℤ across l x
left_of_pixel l x y n place = within_low (buffer_rectangle l n).min_x (across l x) (buffer_rectangle l n).max_x ((and_parts _ _ place.has).0)

pub above_pixel : (l : Layout) (x y n : ℕ) → HasPlace l x y n → (buffer_rectangle l n).min_y ≤ℤ down l y
above_pixel l x y n place = within_low (buffer_rectangle l n).min_y (down l y) (buffer_rectangle l n).max_y ((and_parts _ _ place.has).1)
