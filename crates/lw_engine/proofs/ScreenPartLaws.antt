-- A part of the screen, laid layer by layer from the front.
use Rattle.std.proofs.Common.{◌≡◌, ℕ, ◌+◌, ◌<◌, ◌≤◌, ◌==◌, Bool, true, false, ◌&&◌, ◌||◌, List, [], ◌∷◌, length, take, get_or, ℤ, pos, negsuc, ◌+ℤ◌, ◌-ℤ◌, ◌≤ℤ◌, unsigned_abs, Option, Some, None, find, inl, inr, ◌∙◌, sym, refl, ap, subst, arith}
use Rattle.std.specs.Prelude.{if◌then◌else◌}
use Rattle.std.specs.List.{All, list_any}
use Rattle.std.proofs.lemmas.Bool.{false≢true, eq-eqb, or_right}
use Rattle.std.proofs.lemmas.Int.{ints}
use Rattle.std.proofs.lemmas.List.{take_all}
use Rattle.std.proofs.lemmas.List.Elements.{All-nil}
use Rattle.std.proofs.lemmas.List.Folds.{list_any_more}
use Rattle.lw_region.specs.Rectangle.{Rectangle, has_pixel, within, IsOrdered, width, height}
use Rattle.lw_region.specs.Order.{natural}
use Rattle.lw_region.specs.Bands.{covers}
use Rattle.lw_region.proofs.Canonical.{covers_nil}
use Rattle.lw_planes.specs.Bitmap.{Bitmap, bitmap, pen_at}
use Rattle.lw_planes.specs.Sizes.{AreSizes}
use Rattle.lw_planes.proofs.BitmapLaws.{pen_at_bitmap, bitmap_same}
use Rattle.lw_strips.specs.Strips.{StripView, IsSizeOf, rects_of, pen_in}
use Rattle.lw_strips.specs.Laying.{LiesIn, with_strips}
use Rattle.lw_strips.proofs.OverlapLaws.{in_rectangle}
use Rattle.lw_strips.proofs.LayingLaws.{lies_edges, extent_inside}
use Rattle.lw_calls.specs.declared.sizes.Sizes.{Sizes}
use Rattle.lw_calls.specs.Limits.{IsWithinLimits}
use Rattle.lw_machine.specs.Desk.{Desk, is_the}
use Rattle.lw_machine.specs.Screen.{bounds_have, screen_bounds, top, is_shown, pen_of_top, screen}
use Rattle.lw_layer.specs.View.{CellView}
use Rattle.lw_stack.specs.Stack.{Stack, bounds_at, is_top_in, IsStack}
use Rattle.lw_stack.proofs.ListLaws.{shown_is_top, entries_are_slots}
use Rattle.lw_stack.proofs.FirstLaws.{not_top}
use Rattle.lw_stack.proofs.DesktopLaws.{columns_most, rows_most}
use Rattle.lw_engine.specs.Desks.{cell_at, AreOfDesk}
use Rattle.lw_engine.specs.ScreenParts.{screen_part}
use Rattle.lw_engine.specs.PartsMade.{pen_among, part_among, AreStripsNear}
use Rattle.lw_engine.proofs.OwnersLaws.{slot_is, slot_pens}
use Rattle.lw_engine.proofs.FinishedScreen.{extent, slot_deep}

-- a rectangle of the screen may be a bitmap
pub part_may : (sizes : Sizes) (r : Rectangle) (w h depth : ℕ) → w ≡ width r → h ≡ height r → depth ≡ sizes.depth
    → IsWithinLimits sizes → IsOrdered r → LiesIn r (screen_bounds sizes) → AreSizes w h depth
part_may sizes r w h depth is_width is_height is_depth limits ordered inside =
    let edges = lies_edges r (screen_bounds sizes) ordered inside in
    let Some_columns : ℕ → Type 0 = λ n. (1 ≤ n) × (n ≤ 2048) in
    let Planes_may : ℕ → Type 0 = λ n. (1 ≤ n) × (n ≤ 8) in
    record {
      columns = subst Some_columns (sym is_width) (extent_inside r.min_x r.max_x (pos 0) (pos sizes.width -ℤ pos 1) sizes.width
          ordered.columns edges.0 edges.2 (extent sizes.width) (columns_most sizes limits));
      rows = subst Some_columns (sym is_height) (extent_inside r.min_y r.max_y (pos 0) (pos sizes.height -ℤ pos 1) sizes.height
          ordered.rows edges.1 edges.3 (extent sizes.height) (rows_most sizes limits));
      planes = subst Planes_may (sym is_depth) (limits.some_planes, limits.planes);
    }

-- each entry of the list is the number of a cell
pub entry_inside : (v : Stack) (cells : List CellView) (order : List ℕ) (n : ℕ) → IsStack v → order ≡ v.front_to_back
    → length cells ≡ v.sizes.slots → n < length order → get_or order n 0 < length cells
entry_inside v cells order n stack listed many below =
    let All_in : List ℕ → Type 0 = λ slots. All (λ s. s < v.sizes.slots) slots in
    let low = subst All_in (sym listed) (entries_are_slots v stack) n 0 below in
    omega (arith, low, many)

-- where no layer was laid
pub part_none : (d : Desk) (r : Rectangle) (w h depth : ℕ) (planes : Bitmap) → w ≡ width r → h ≡ height r → depth ≡ d.sizes.depth
    → planes ≡ bitmap w h depth (λ _ _. 0) → planes ≡ part_among d r []
part_none d r w h depth planes is_width is_height is_depth is =
    is
    ∙ (ap (λ n. bitmap n h depth (λ _ _. 0)) is_width
    ∙ (ap (λ n. bitmap (width r) n depth (λ _ _. 0)) is_height ∙ ap (λ n. bitmap (width r) (height r) n (λ _ _. 0)) is_depth))

-- what is made of some layers has the size and the planes of the part
pub part_size : (d : Desk) (r : Rectangle) (slots : List ℕ) (planes : Bitmap) → planes ≡ part_among d r slots → IsSizeOf r planes
part_size d r slots planes is =
    let P : Bitmap → Type 0 = λ b. IsSizeOf r b in
    subst P (sym is) (record { columns = refl; rows = refl })

pub near_deep : (v : Stack) (cells : List CellView) (d : Desk) (r : Rectangle) (slots : List ℕ) (bounds : Option Rectangle) (k : ℕ) (c : CellView)
    (strips : List StripView) (planes : Bitmap) → AreOfDesk v cells d → k < v.sizes.slots → c ≡ cell_at cells k → AreStripsNear r bounds c strips
    → planes ≡ part_among d r slots → All (λ s. s.planes.depth ≡ planes.depth) strips
near_deep v cells d r slots bounds k c strips planes stands below is near so_far =
    elim near [
      | inl told ↦
          slot_deep v cells d k c strips planes.depth stands below is told
          (ap (λ (b : Bitmap). b.depth) so_far ∙ ap (λ (z : Sizes). z.depth) stands.sizes)
      | inr off ↦
          let P : List StripView → Type 0 = λ ss. All (λ s. s.planes.depth ≡ planes.depth) ss in
          subst P (sym off.0) (All-nil (λ (s : StripView). s.planes.depth ≡ planes.depth))
    ]

-- The strips have the place exactly where the slot's layer is on top of it, and then the pen that the screen shows.
record AreShown (d : Desk) (s : ℕ) (strips : List StripView) (x y : ℤ) : Type 0 where
  on_top : covers (rects_of strips) x y ≡ is_shown d s x y
  pens : covers (rects_of strips) x y ≡ true → pen_in strips x y ≡ pen_of_top d (top d x y) x y

strips_shown : (v : Stack) (cells : List CellView) (d : Desk) (r : Rectangle) (bounds : Option Rectangle) (s : ℕ) (strips : List StripView)
    → AreOfDesk v cells d → s < v.sizes.slots → bounds ≡ bounds_at v.bounds s → AreStripsNear r bounds (cell_at cells s) strips
    → (x y : ℕ) → has_pixel r (pos x) (pos y) ≡ true → AreShown d s strips (pos x) (pos y)
strips_shown v cells d r bounds s strips stands below is_bounds near x y inside =
    elim near [
      | inl told ↦ record {
        on_top = (slot_is v cells d stands s strips below told).1 (pos x) (pos y) ∙ sym listed;
        pens = slot_pens v cells d stands s strips below told x y;
      }
      | inr off ↦
          let bare : covers (rects_of strips) (pos x) (pos y) ≡ false = ap (λ ss. covers (rects_of ss) (pos x) (pos y)) off.0 ∙ covers_nil (pos x) (pos y) in
          let outside : bounds_have (bounds_at v.bounds s) (pos x) (pos y) ≡ false =
          ap (λ b. bounds_have b (pos x) (pos y)) (sym is_bounds)
          ∙ (ap (λ t. t && bounds_have bounds (pos x) (pos y)) (sym inside) ∙ off.1 (pos x) (pos y)) in
          record {
            on_top = bare ∙ sym (listed ∙ not_top v s (pos x) (pos y) outside);
            pens = λ has. absurd (false≢true (sym bare ∙ has));
          }
    ]
  where
    listed : is_shown d s (pos x) (pos y) ≡ is_top_in v s (pos x) (pos y)
    listed = shown_is_top v d stands.sizes stands.info s (pos x) (pos y)

-- a column or a row of the rectangle, on the screen
place_is : (low : ℤ) (x : ℕ) → pos 0 ≤ℤ low → low +ℤ pos x ≡ pos (natural low + x)
place_is (pos m) x right = omega (arith, ints)
place_is (negsuc m) x right = absurd (omega (arith, ints))

place_below : (low high : ℤ) (x n whole : ℕ) → pos 0 ≤ℤ low → low ≤ℤ high → high ≤ℤ (pos whole -ℤ pos 1)
    → n ≡ unsigned_abs ((high +ℤ pos 1) -ℤ low) → x < n → natural low + x < whole
place_below (pos m) high x n whole right ordered last long below = omega (arith, ints)
place_below (negsuc m) high x n whole right ordered last long below = absurd (omega (arith, ints))

-- a pen that is laid, or was laid before
laid_or_before : (t before after : Bool) (laid pen : ℕ) → after ≡ (before || t) → (t ≡ true → laid ≡ pen)
    → (if t then laid else (if before then pen else 0)) ≡ (if after then pen else 0)
laid_or_before true before after laid pen is same = same refl ∙ sym (ap (λ b. if b then pen else 0) (is ∙ or_right before true refl))
laid_or_before false true after laid pen is same = sym (ap (λ b. if b then pen else 0) is)
laid_or_before false false after laid pen is same = sym (ap (λ b. if b then pen else 0) is)

-- one layer more
pub part_more : (v : Stack) (cells : List CellView) (d : Desk) (r : Rectangle) (order : List ℕ) (n : ℕ) (bounds : Option Rectangle) (c : CellView)
    (strips : List StripView) (old new : Bitmap) → AreOfDesk v cells d → IsOrdered r → LiesIn r (screen_bounds v.sizes) → n < length order
    → get_or order n 0 < v.sizes.slots → bounds ≡ bounds_at v.bounds (get_or order n 0) → c ≡ cell_at cells (get_or order n 0)
    → AreStripsNear r bounds c strips → old ≡ part_among d r (take n order) → new ≡ with_strips r strips old
    → new ≡ part_among d r (take (n + 1) order)
part_more v cells d r order n bounds c strips old new stands ordered inside below low is_bounds is_cell near so_far is =
    is
    ∙ (ap (with_strips r strips) so_far
    ∙ bitmap_same (width r) (height r) d.sizes.depth _ _ at_pixel)
  where
    s : ℕ
    s = get_or order n 0

    front : List ℕ
    front = take n order

    edges : (pos 0 ≤ℤ r.min_x) × (pos 0 ≤ℤ r.min_y) × (r.max_x ≤ℤ (pos v.sizes.width -ℤ pos 1)) × (r.max_y ≤ℤ (pos v.sizes.height -ℤ pos 1))
    edges = lies_edges r (screen_bounds v.sizes) ordered inside

    own : AreStripsNear r bounds (cell_at cells s) strips
    own = subst (λ q. AreStripsNear r bounds q strips) is_cell near

    at_place : (x y : ℕ) → has_pixel r (pos x) (pos y) ≡ true
        → (if covers (rects_of strips) (pos x) (pos y) then pen_in strips (pos x) (pos y) else pen_among d front (pos x) (pos y))
        ≡ pen_among d (take (n + 1) order) (pos x) (pos y)
    at_place x y has =
        let shown = strips_shown v cells d r bounds s strips stands low is_bounds own x y has in
        laid_or_before (covers (rects_of strips) (pos x) (pos y)) (list_any (is_the (top d (pos x) (pos y))) front)
        (list_any (is_the (top d (pos x) (pos y))) (take (n + 1) order)) (pen_in strips (pos x) (pos y))
        (pen_of_top d (top d (pos x) (pos y)) (pos x) (pos y))
        (list_any_more (is_the (top d (pos x) (pos y))) order n 0 below
        ∙ ap (λ t. list_any (is_the (top d (pos x) (pos y))) front || t) (sym shown.on_top)) shown.pens

    at_pixel : (x y : ℕ) → x < width r → y < height r
        → (if covers (rects_of strips) (r.min_x +ℤ pos x) (r.min_y +ℤ pos y) then pen_in strips (r.min_x +ℤ pos x) (r.min_y +ℤ pos y) else pen_at (part_among d r front) x y)
        ≡ pen_among d (take (n + 1) order) (r.min_x +ℤ pos x) (r.min_y +ℤ pos y)
    at_pixel x y left above =
        let columns = in_rectangle x (width r) r.min_x r.max_x ordered.columns refl left in
        let rows = in_rectangle y (height r) r.min_y r.max_y ordered.rows refl above in
        let here : has_pixel r (r.min_x +ℤ pos x) (r.min_y +ℤ pos y) ≡ true = ap (λ t. t && within r.min_y (r.min_y +ℤ pos y) r.max_y) columns ∙ rows in
        let P : ℤ → ℤ → Type 0 = λ u w. has_pixel r u w ≡ true
        → (if covers (rects_of strips) u w then pen_in strips u w else pen_among d front u w) ≡ pen_among d (take (n + 1) order) u w in
        let placed : P (pos (natural r.min_x + x)) (pos (natural r.min_y + y)) = at_place (natural r.min_x + x) (natural r.min_y + y) in
        let across : P (r.min_x +ℤ pos x) (pos (natural r.min_y + y)) = subst (λ u. P u (pos (natural r.min_y + y))) (sym (place_is r.min_x x edges.0)) placed in
        let both : P (r.min_x +ℤ pos x) (r.min_y +ℤ pos y) = subst (λ w. P (r.min_x +ℤ pos x) w) (sym (place_is r.min_y y edges.1)) across in
        ap (λ p. if covers (rects_of strips) (r.min_x +ℤ pos x) (r.min_y +ℤ pos y) then pen_in strips (r.min_x +ℤ pos x) (r.min_y +ℤ pos y) else p)
        (pen_at_bitmap (width r) (height r) d.sizes.depth (λ i j. pen_among d front (r.min_x +ℤ pos i) (r.min_y +ℤ pos j)) x y left above)
        ∙ both here

-- what is found in a list is one of it
found_listed : (test : ℕ → Bool) (slots : List ℕ) (s : ℕ) → find test slots ≡ Some s → list_any (is_the (Some s)) slots ≡ true
found_listed test [] s is = let none : None ≡ Some s = is in absurd (cc)
found_listed test (t ∷ slots) s is = by_test (test t) is (found_listed test slots s)
  where
    by_test : (b : Bool) → (if b then Some t else find test slots) ≡ Some s
        → (find test slots ≡ Some s → list_any (is_the (Some s)) slots ≡ true) → ((s == t) || list_any (is_the (Some s)) slots) ≡ true
    by_test true is others =
        let same : s ≡ t = let told : Some t ≡ Some s = is in cc in
        ap (λ b. b || list_any (is_the (Some s)) slots) (eq-eqb s t same)
    by_test false is others = or_right (s == t) _ (others is)

-- so the top layer is one of the desk's list
top_listed : (d : Desk) (x y : ℤ) (s : ℕ) → top d x y ≡ Some s → list_any (is_the (Some s)) d.front_to_back ≡ true
unfolding top
top_listed d x y s is = by_screen (has_pixel (screen_bounds d.sizes) x y) is
  where
    test : ℕ → Bool
    test t = bounds_have (d.bounds t) x y

    by_screen : (on : Bool) → (if on then find test d.front_to_back else None) ≡ Some s → list_any (is_the (Some s)) d.front_to_back ≡ true
    by_screen true is = found_listed test d.front_to_back s is
    by_screen false is = let none : None ≡ Some s = is in absurd (cc)

-- all layers of the desk show what the screen shows
all_shown : (d : Desk) (x y : ℤ) → pen_among d d.front_to_back x y ≡ pen_of_top d (top d x y) x y
all_shown d x y = by_top (top d x y) refl
  where
    either : (b : Bool) (pen : ℕ) → (if b then pen else pen) ≡ pen
    either true pen = refl
    either false pen = refl

    by_top : (o : Option ℕ) → top d x y ≡ o → (if list_any (is_the o) d.front_to_back then pen_of_top d o x y else 0) ≡ pen_of_top d o x y
    by_top None is = either (list_any (is_the None) d.front_to_back) 0
    by_top (Some s) is = ap (λ b. if b then pen_of_top d (Some s) x y else 0) (top_listed d x y s is)

-- the part that all layers make is the screen's
pub part_whole : (v : Stack) (cells : List CellView) (d : Desk) (r : Rectangle) (order : List ℕ) (n : ℕ) (planes : Bitmap) → AreOfDesk v cells d → IsOrdered r
    → LiesIn r (screen_bounds v.sizes) → order ≡ v.front_to_back → length order ≤ n → planes ≡ part_among d r (take n order) → planes ≡ screen_part d r
unfolding screen
part_whole v cells d r order n planes stands ordered inside listed past so_far =
    so_far
    ∙ (ap (part_among d r) (take_all n order past ∙ (listed ∙ sym stands.info.front_to_back))
    ∙ bitmap_same (width r) (height r) d.sizes.depth _ _ at_pixel)
  where
    edges : (pos 0 ≤ℤ r.min_x) × (pos 0 ≤ℤ r.min_y) × (r.max_x ≤ℤ (pos d.sizes.width -ℤ pos 1)) × (r.max_y ≤ℤ (pos d.sizes.height -ℤ pos 1))
    edges = lies_edges r (screen_bounds d.sizes) ordered (subst (λ (z : Sizes). LiesIn r (screen_bounds z)) (sym stands.sizes) inside)

    at_pixel : (x y : ℕ) → x < width r → y < height r
        → pen_among d d.front_to_back (r.min_x +ℤ pos x) (r.min_y +ℤ pos y) ≡ pen_at (screen d) (natural r.min_x + x) (natural r.min_y + y)
    at_pixel x y left above =
        all_shown d (r.min_x +ℤ pos x) (r.min_y +ℤ pos y)
        ∙ (ap (λ u. pen_of_top d (top d u (r.min_y +ℤ pos y)) u (r.min_y +ℤ pos y)) (place_is r.min_x x edges.0)
        ∙ (ap (λ w. pen_of_top d (top d (pos (natural r.min_x + x)) w) (pos (natural r.min_x + x)) w) (place_is r.min_y y edges.1)
        ∙ sym (pen_at_bitmap d.sizes.width d.sizes.height d.sizes.depth (λ i j. pen_of_top d (top d (pos i) (pos j)) (pos i) (pos j))
        (natural r.min_x + x) (natural r.min_y + y)
        (place_below r.min_x r.max_x x (width r) d.sizes.width edges.0 ordered.columns edges.2 refl left)
        (place_below r.min_y r.max_y y (height r) d.sizes.height edges.1 ordered.rows edges.3 refl above))))
