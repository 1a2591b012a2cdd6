-- Bounds that the windows of a pair may have.
use Rattle.std.proofs.Common.{◌≡◌, ℕ, Bool, true, false, ℤ, pos, negsuc, ◌+ℤ◌, ◌-ℤ◌, ◌≤ℤ◌, refl, sym, ap, ◌∙◌, arith, subst}
use Rattle.std.specs.Prelude.{if◌then◌else◌}
use Rattle.std.proofs.lemmas.Bool.{and_from, false≢true}
use Rattle.std.proofs.lemmas.Int.{ints}
use Rattle.lw_region.specs.Rectangle.{Rectangle, IsWord, columns_of, rows_of}
use Rattle.lw_region.proofs.Within.{within_true}
use Rattle.lw_region.proofs.Columns.{le_true}
use Rattle.lw_calls.specs.declared.sizes.Sizes.{Sizes}
use Rattle.lw_calls.specs.declared.make.Kind.{Kind}
use Rattle.lw_calls.specs.Kinds.{is_super}
use Rattle.lw_calls.specs.Limits.{may_leave_screen}
use Rattle.lw_machine.specs.Layer.{Slot, Unopened, Live, Closed, is_live, layer_is, is_framed}
use Rattle.lw_machine.specs.Shapes.{box_at}
use Rattle.lw_machine.specs.Arrangement.{is_on_screen, has_coordinates, is_no_larger, may_lie_at, is_at_least, may_have_bounds}
use Rattle.lw_machine.specs.Arrangement.{layer_may_have_bounds}
use Rattle.lw_gzz.specs.Together.{inner_rectangle, IsPairBox}

-- along one axis, from z on for n columns or rows
record IsAxis (z n least limit : ℤ) : Type 0 where
  low : IsWord z
  high : IsWord ((z +ℤ n) -ℤ pos 1)
  some : least ≤ℤ ((((z +ℤ n) -ℤ pos 1) +ℤ pos 1) -ℤ z)
  few : ((((z +ℤ n) -ℤ pos 1) +ℤ pos 1) -ℤ z) ≤ℤ limit

axis : (z n least limit : ℤ) → negsuc 32767 ≤ℤ z → ((z +ℤ n) -ℤ pos 1) ≤ℤ pos 32767 → pos 1 ≤ℤ least → least ≤ℤ n → n ≤ℤ limit
    → IsAxis z n least limit
axis z n least limit low high one some few =
    record {
      low = (low, omega (arith, ints));
      high = (omega (arith, ints), high);
      some = omega (arith, ints);
      few = omega (arith, ints);
    }

-- the same of the inner rectangle, which begins later and is smaller
inner_axis : (z n by less limit : ℤ) → negsuc 32767 ≤ℤ z → ((z +ℤ n) -ℤ pos 1) ≤ℤ pos 32767 → pos 0 ≤ℤ by → by ≤ℤ less
    → (less +ℤ pos 1) ≤ℤ n → n ≤ℤ limit → IsAxis (z +ℤ by) (n -ℤ less) (pos 1) limit
inner_axis z n by less limit low high some less_than room few =
    axis (z +ℤ by) (n -ℤ less) (pos 1) limit (omega (arith, ints)) (omega (arith, ints)) (omega (arith, ints))
    (omega (arith, ints)) (omega (arith, ints))

-- what is at least a number is at least a smaller one
more : (a b z : ℤ) → a ≤ℤ b → b ≤ℤ z → a ≤ℤ z
more a b z low high = omega (arith, ints)

large : (w h : ℤ) (r : Rectangle) → w ≤ℤ columns_of r → h ≤ℤ rows_of r → is_at_least w h r ≡ true
unfolding is_at_least
large w h r wide high = and_from _ _ (le_true _ _ wide) (le_true _ _ high)

-- a layer may lie along these axes, on the screen or off it
lies : (s : Sizes) (x y w h least_w least_h : ℤ) → may_leave_screen s.version ≡ true → IsAxis x w least_w (pos s.width)
    → IsAxis y h least_h (pos s.height) → may_lie_at s (box_at x y w h) ≡ true
unfolding may_lie_at has_coordinates is_no_larger
lies s x y w h least_w least_h leaves a b =
    and_from _ _
    (and_from _ _ (and_from _ _ (within_true _ _ _ a.low.0 a.low.1) (within_true _ _ _ b.low.0 b.low.1))
    (and_from _ _ (within_true _ _ _ a.high.0 a.high.1) (within_true _ _ _ b.high.0 b.high.1)))
    (ap (λ t. if t then is_no_larger s (box_at x y w h) else is_on_screen s (box_at x y w h)) leaves ∙
    and_from _ _ (le_true _ _ a.few) (le_true _ _ b.few))

-- tests that are made where another holds, and where another doesn't
where_made : (a p : Bool) → p ≡ true → (if a then p else true) ≡ true
where_made true p is = is
where_made false p is = refl

unmade : (a p : Bool) → a ≡ false → (if a then p else true) ≡ true
unmade a p is = ap (λ t. if t then p else true) is

pub outer_may : (s : Sizes) (framed : Bool) (kind : Kind) (left upper own_w own_h : ℕ) (x y w h : ℤ)
    → may_leave_screen s.version ≡ true → is_super kind ≡ false → IsPairBox s x y w h
    → may_have_bounds s framed kind left upper own_w own_h (box_at x y w h) ≡ true
outer_may s framed kind left upper own_w own_h x y w h leaves plain b =
    let across = axis x w (pos 9) (pos s.width) b.left b.right (omega (arith, ints)) b.least_columns b.columns in
    let down = axis y h (pos 14) (pos s.height) b.upper b.lower (omega (arith, ints)) b.least_rows b.rows in
    let one_column : pos 1 ≤ℤ columns_of (box_at x y w h) = more (pos 1) (pos 9) _ (omega (arith, ints)) across.some in
    let one_row : pos 1 ≤ℤ rows_of (box_at x y w h) = more (pos 1) (pos 14) _ (omega (arith, ints)) down.some in
    and_from _ _
    (and_from _ _ (lies s x y w h (pos 9) (pos 14) leaves across down)
    (large (pos 1) (pos 1) (box_at x y w h) one_column one_row))
    (and_from _ _ (where_made framed _ (large (pos 9) (pos 14) (box_at x y w h) across.some down.some))
    (unmade (is_super kind) _ plain))

pub inner_may : (s : Sizes) (kind : Kind) (left upper own_w own_h : ℕ) (x y w h : ℤ) → may_leave_screen s.version ≡ true
    → is_super kind ≡ false → IsPairBox s x y w h
    → may_have_bounds s false kind left upper own_w own_h (box_at (x +ℤ pos 4) (y +ℤ pos 11) (w -ℤ pos 8) (h -ℤ pos 13)) ≡ true
inner_may s kind left upper own_w own_h x y w h leaves plain b =
    let r : Rectangle = box_at (x +ℤ pos 4) (y +ℤ pos 11) (w -ℤ pos 8) (h -ℤ pos 13) in
    let across =
    inner_axis x w (pos 4) (pos 8) (pos s.width) b.left b.right (omega (arith, ints)) (omega (arith, ints)) b.least_columns
    b.columns in
    let down =
    inner_axis y h (pos 11) (pos 13) (pos s.height) b.upper b.lower (omega (arith, ints)) (omega (arith, ints)) b.least_rows
    b.rows in
    and_from _ _
    (and_from _ _ (lies s (x +ℤ pos 4) (y +ℤ pos 11) (w -ℤ pos 8) (h -ℤ pos 13) (pos 1) (pos 1) leaves across down)
    (large (pos 1) (pos 1) r across.some down.some))
    (and_from _ _ refl (unmade (is_super kind) _ plain))

-- the layers of live slots
pub outer_slot : (s : Sizes) (x y w h : ℤ) (slot : Slot) → may_leave_screen s.version ≡ true → IsPairBox s x y w h
    → is_live slot ≡ true → layer_is (λ l. is_super l.kind) slot ≡ false
    → layer_is (λ l. layer_may_have_bounds s l (box_at x y w h)) slot ≡ true
outer_slot s x y w h Unopened leaves box live plain = absurd (false≢true live)
outer_slot s x y w h (Live l) leaves box live plain = outer_may s _ l.kind _ _ _ _ x y w h leaves plain box
outer_slot s x y w h Closed leaves box live plain = absurd (false≢true live)

pub inner_slot : (s : Sizes) (x y w h : ℤ) (slot : Slot) → may_leave_screen s.version ≡ true → IsPairBox s x y w h
    → is_live slot ≡ true → layer_is (λ l. is_super l.kind) slot ≡ false → layer_is (λ l. is_framed l.window) slot ≡ false
    → layer_is (λ l. layer_may_have_bounds s l (box_at (x +ℤ pos 4) (y +ℤ pos 11) (w -ℤ pos 8) (h -ℤ pos 13))) slot ≡ true
inner_slot s x y w h Unopened leaves box live plain frameless = absurd (false≢true live)
inner_slot s x y w h (Live l) leaves box live plain frameless =
    subst (λ framed. may_have_bounds s framed l.kind l.scroll_x l.scroll_y l.bits.width l.bits.height
    (box_at (x +ℤ pos 4) (y +ℤ pos 11) (w -ℤ pos 8) (h -ℤ pos 13)) ≡ true) (sym frameless)
    (inner_may s l.kind l.scroll_x l.scroll_y l.bits.width l.bits.height x y w h leaves plain box)
inner_slot s x y w h Closed leaves box live plain frameless = absurd (false≢true live)

-- the inner box has the inner rectangle
last_edge : (z n by less on : ℤ) → by +ℤ on ≡ less → ((z +ℤ by) +ℤ (n -ℤ less)) -ℤ pos 1 ≡ ((z +ℤ n) -ℤ pos 1) -ℤ on
last_edge z n by less on is = omega (arith, ints)

pub inner_is : (x y w h : ℤ)
    → box_at (x +ℤ pos 4) (y +ℤ pos 11) (w -ℤ pos 8) (h -ℤ pos 13) ≡ inner_rectangle (box_at x y w h)
inner_is x y w h = λ i. record {
  min_x = x +ℤ pos 4;
  min_y = y +ℤ pos 11;
  max_x = last_edge x w (pos 4) (pos 8) (pos 4) refl i;
  max_y = last_edge y h (pos 11) (pos 13) (pos 2) refl i;
}
