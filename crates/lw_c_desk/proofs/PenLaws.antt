-- Pens and planes of a rectangle of the screen.
use Rattle.std.proofs.Common.{◌≡◌, ℕ, ◌*◌, Bool, true, ◌&&◌, if◌then◌else◌, List, ◌++◌, length, take, drop, ℤ, pos, ◌-ℤ◌, ◌≤ℤ◌, ◌<ℤ◌, refl, ap, sym, ◌∙◌, arith}
use Rattle.std.specs.Prelude.{int_le, int_lt, nat_le}
use Rattle.std.proofs.lemmas.List.{take_at, drop_at}
use Rattle.std.proofs.lemmas.Int.{ints}
use Rattle.std.proofs.lemmas.Bool.{and_parts, and_from}
use Rattle.lw_region.specs.Rectangle.{Rectangle, within, width, height}
use Rattle.lw_region.proofs.Within.{within_true, within_low, within_high}
use Rattle.lw_region.proofs.Numbers.{le_of, lt_of}
use Rattle.lw_planes.specs.Bitmap.{Bitmap, row_bytes}
use Rattle.lw_planes.specs.Storage.{IsStored, stored}
use Rattle.lw_strips.specs.Strips.{IsSizeOf}
use Rattle.lw_strips.specs.Laying.{LiesIn}
use Rattle.lw_calls.specs.declared.sizes.Sizes.{Sizes}
use Rattle.lw_machine.specs.Screen.{screen_bounds}
use Rattle.lw_c_rectangles.specs.declared.bounds.Bounds.{Bounds}
use Rattle.lw_c_rectangles.specs.Bounds.{rectangle_of, is_ordered}
use Rattle.lw_c_desk.specs.Answered.{done, bad_rectangle, no_room, outside}
use Rattle.lw_c_desk.specs.Pens.{lies_on, pen_count, plane_bytes, part_answer, pens_in}

-- along one axis, a number from one to another, of which the one isn't below 0 and the other below an end
inside : (low z high : ℤ) (end : ℕ) → int_le (pos 0) low ≡ true → int_lt high (pos end) ≡ true → within low z high ≡ true
    → within (pos 0) z (pos end -ℤ pos 1) ≡ true
inside low z high end a b t =
    let first : pos 0 ≤ℤ low = le_of (pos 0) low a in
    let last : high <ℤ pos end = lt_of high (pos end) b in
    let from : low ≤ℤ z = within_low low z high t in
    let to : z ≤ℤ high = within_high low z high t in
    within_true (pos 0) z (pos end -ℤ pos 1) (omega (arith, ints)) (omega (arith, ints))

-- a rectangle that lies on a screen of these sizes
pub lies_in : (s : Sizes) (b : Bounds) → lies_on s b ≡ true → LiesIn (rectangle_of b) (screen_bounds s)
lies_in s b h x y t =
    let parts = and_parts (int_le (pos 0) b.min_x && int_le (pos 0) b.min_y) (int_lt b.max_x (pos s.width) && int_lt b.max_y (pos s.height)) h in
    let low = and_parts (int_le (pos 0) b.min_x) (int_le (pos 0) b.min_y) parts.0 in
    let high = and_parts (int_lt b.max_x (pos s.width)) (int_lt b.max_y (pos s.height)) parts.1 in
    let within_both = and_parts (within b.min_x x b.max_x) (within b.min_y y b.max_y) t in
    and_from (within (pos 0) x (pos s.width -ℤ pos 1)) (within (pos 0) y (pos s.height -ℤ pos 1))
    (inside b.min_x x b.max_x s.width low.0 high.0 within_both.0) (inside b.min_y y b.max_y s.height low.1 high.1 within_both.1)

-- the answer where nothing is amiss
pub part_done : (s : Sizes) (b : Bounds) (due room : ℕ) → is_ordered b ≡ true → lies_on s b ≡ true → nat_le due room ≡ true
    → part_answer s b due room ≡ done
part_done s b due room o l r = pick (is_ordered b) (lies_on s b) (nat_le due room) o l r
  where
    pick : (o l r : Bool) → o ≡ true → l ≡ true → r ≡ true
        → (if o then (if l then (if r then done else no_room) else outside) else bad_rectangle) ≡ done
    pick o l r a b c = rw (a, b, c) refl

-- an array that begins with the pens of a rectangle's bitmap
pub pens_written : (part : Bounds) (r : Rectangle) (b shown : Bitmap) (old new : List ℕ) → r ≡ rectangle_of part → b ≡ shown → IsSizeOf r b
    → new ≡ pens_in b ++ drop (b.height * b.width) old → new ≡ pens_in shown ++ drop (pen_count part) old
pens_written part r b shown old new is same size written =
    written ∙ (ap (λ z. pens_in z ++ drop (b.height * b.width) old) same ∙ ap (λ n. pens_in shown ++ drop n old) count)
  where
    count : b.height * b.width ≡ height (rectangle_of part) * width (rectangle_of part)
    count = ap (λ n. n * b.width) (size.rows ∙ ap height is) ∙ ap (λ n. height (rectangle_of part) * n) (size.columns ∙ ap width is)

-- how many bytes the planes of a rectangle's bitmap have
pub planes_long : (part : Bounds) (r : Rectangle) (b : Bitmap) (depth : ℕ) (bytes : List ℕ) → r ≡ rectangle_of part → IsSizeOf r b
    → b.depth ≡ depth → IsStored b.width b.height b.depth bytes → length bytes ≡ plane_bytes depth part
planes_long part r b depth bytes is size deep are =
    are.long ∙ (ap (λ n. n * b.height * row_bytes b.width) deep ∙ (ap (λ n. depth * n * row_bytes b.width) (size.rows ∙ ap height is)
    ∙ ap (λ n. depth * height (rectangle_of part) * row_bytes n) (size.columns ∙ ap width is)))

-- an array that begins with them
pub planes_written : (part : Bounds) (r : Rectangle) (b shown : Bitmap) (depth : ℕ) (bytes old new : List ℕ) → r ≡ rectangle_of part
    → IsSizeOf r b → b.depth ≡ depth → b ≡ shown → b ≡ stored b.width b.height b.depth bytes → length bytes ≡ plane_bytes depth part
    → new ≡ bytes ++ drop (length bytes) old
    → stored (width (rectangle_of part)) (height (rectangle_of part)) depth (take (plane_bytes depth part) new) ≡ shown
planes_written part r b shown depth bytes old new is size deep same are long written =
    let front : take (plane_bytes depth part) new ≡ bytes =
    ap (take (plane_bytes depth part)) written ∙ take_at bytes (drop (length bytes) old) (plane_bytes depth part) long in
    let wide : width (rectangle_of part) ≡ b.width = sym (size.columns ∙ ap width is) in
    let high : height (rectangle_of part) ≡ b.height = sym (size.rows ∙ ap height is) in
    ap (stored (width (rectangle_of part)) (height (rectangle_of part)) depth) front
    ∙ (ap (λ n. stored n (height (rectangle_of part)) depth bytes) wide
    ∙ (ap (λ n. stored b.width n depth bytes) high ∙ (ap (λ n. stored b.width b.height n bytes) (sym deep) ∙ (sym are ∙ same))))

pub planes_rest : (n : ℕ) (bytes old new : List ℕ) → length bytes ≡ n → new ≡ bytes ++ drop (length bytes) old → drop n new ≡ drop n old
planes_rest n bytes old new long written =
    ap (drop n) written ∙ (drop_at bytes (drop (length bytes) old) n long ∙ ap (λ k. drop k old) long)
