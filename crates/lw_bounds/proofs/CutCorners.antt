-- The rectangles of what is visible, and of what is hidden, have their corners at cuts.
use Rattle.std.proofs.Common.{◌≡◌, ℕ, suc, ◌+◌, ◌*◌, ◌≤◌, Bool, true, false, not, ◌&&◌, ◌||◌, List, [], ◌∷◌, ◌++◌, length, ℤ, pos}
use Rattle.std.proofs.Common.{◌-ℤ◌, ◌≤ℤ◌, refl, sym, ap, subst, ◌∙◌, arith}
use Rattle.std.specs.Prelude.{get_or}
use Rattle.std.specs.List.{All}
use Rattle.std.specs.Ordering.{int_eq}
use Rattle.std.proofs.lemmas.Int.{ints, by_lt_z}
use Rattle.std.proofs.lemmas.Bool.{false≢true, and_parts, and_from}
use Rattle.std.proofs.lemmas.Bool.Decides.{Decides-int_eq}
use Rattle.std.proofs.lemmas.List.{length-append}
use Rattle.std.proofs.lemmas.List.Elements.{All-append, All-map, All-head, All-tail}
use Rattle.lw_region.specs.Rectangle.{Rectangle, within, has_pixel}
use Rattle.lw_region.specs.Pixels.{pixels_of}
use Rattle.lw_region.specs.Bands.{Run, Band, band_rectangles, covers}
use Rattle.lw_region.specs.Banded.{IsCanonical, in_bands, AreBands, flat}
use Rattle.lw_region.proofs.Canonical.{flat_nil, flat_cons, covers_flat, bands_flat, band_list, are_band_list}
use Rattle.lw_region.proofs.Within.{within_true, within_low, within_high}
use Rattle.lw_cliprects.specs.Parts.{hidden_of}
use Rattle.lw_cliprects.proofs.HiddenLaws.{divided, covers_hidden, canonical_hidden}
use Rattle.lw_bounds.specs.Cuts.{is_cut, ChangesAt, RectanglesUnderCutsAreFew}
use Rattle.lw_bounds.proofs.BandCorners.{Begins, runs_begin, IsTopRow, top_rows}
use Rattle.lw_bounds.proofs.CornerCount.{IsCornered, corners_few}

-- a place that isn't the least one has one before it
pub past_least : (a b : ℤ) → a ≤ℤ b → (b ≡ a → ⊥) → a ≤ℤ (b -ℤ pos 1)
past_least a b below differ = by_lt_z a b (λ less. omega (arith, ints)) (λ more. absurd (differ (omega (arith, ints))))

-- the place before one that isn't the least lies between the same two
within_before : (low z high : ℤ) → within low z high ≡ true → int_eq z low ≡ false → within low (z -ℤ pos 1) high ≡ true
within_before low z high is other =
    let greatest = within_high low z high is in
    within_true low (z -ℤ pos 1) high
    (past_least low z (within_low low z high is) (λ same. false≢true (sym other ∙ (Decides-int_eq z low).1 same)))
    (omega (arith, ints))

-- Bands of what is visible, or of what is hidden, of some bounds.
module _ (bounds : Rectangle) (columns rows : List ℤ) (test : ℤ → ℤ → Bool) (changes : ChangesAt columns rows test)
    (bs : List Band) (are : AreBands bs) (pixels : (x y : ℤ) → in_bands bs x y ≡ (has_pixel bounds x y && test x y)) where
  abbrev pub Cornered : Rectangle → Type 0
  Cornered r = IsCornered (bounds.min_x ∷ columns) (bounds.min_y ∷ rows) r

  -- the rectangle of a run in a band
  corner : (b : Band) → IsTopRow bs b → (r : Run) → Begins b.runs r
      → Cornered (record { min_x = r.first; min_y = b.top; max_x = r.last; max_y = b.bottom })
  corner b is r begins = record {
    wide = begins.some;
    high = is.band.rows;
    column = in_column (int_eq r.first bounds.min_x) refl (is_cut columns r.first) refl;
    row = in_row (int_eq b.top bounds.min_y) refl (is_cut rows b.top) refl;
  }
    where
      here : (has_pixel bounds r.first b.top && test r.first b.top) ≡ true
      here = sym (pixels r.first b.top) ∙ (is.row r.first ∙ begins.first)

      inside : (within bounds.min_x r.first bounds.max_x && within bounds.min_y b.top bounds.max_y) ≡ true
      inside = (and_parts (has_pixel bounds r.first b.top) (test r.first b.top) here).0

      across : within bounds.min_x r.first bounds.max_x ≡ true
      across = (and_parts (within bounds.min_x r.first bounds.max_x) (within bounds.min_y b.top bounds.max_y) inside).0

      down : within bounds.min_y b.top bounds.max_y ≡ true
      down = (and_parts (within bounds.min_x r.first bounds.max_x) (within bounds.min_y b.top bounds.max_y) inside).1

      holds : test r.first b.top ≡ true
      holds = (and_parts (has_pixel bounds r.first b.top) (test r.first b.top) here).1

      in_column : (a : Bool) → int_eq r.first bounds.min_x ≡ a → (c : Bool) → is_cut columns r.first ≡ c
          → (int_eq r.first bounds.min_x || is_cut columns r.first) ≡ true
      in_column true e c f = ap (λ t. t || is_cut columns r.first) e
      in_column false e true f = ap (λ t. int_eq r.first bounds.min_x || t) f ∙ ap (λ t. t || true) e
      in_column false e false f =
          let before = r.first -ℤ pos 1 in
          let has : in_bands bs before b.top ≡ true =
          pixels before b.top ∙ and_from _ _ (and_from _ _ (within_before bounds.min_x r.first bounds.max_x across e) down)
          (sym (changes.across r.first b.top f) ∙ holds) in
          absurd (false≢true (sym begins.before ∙ (sym (is.row before) ∙ has)))

      in_row : (a : Bool) → int_eq b.top bounds.min_y ≡ a → (c : Bool) → is_cut rows b.top ≡ c
          → (int_eq b.top bounds.min_y || is_cut rows b.top) ≡ true
      in_row true e c f = ap (λ t. t || is_cut rows b.top) e
      in_row false e true f = ap (λ t. int_eq b.top bounds.min_y || t) f ∙ ap (λ t. t || true) e
      in_row false e false f =
          let above = b.top -ℤ pos 1 in
          let both : within bounds.min_y b.top bounds.max_y ≡ within bounds.min_y above bounds.max_y =
          down ∙ sym (within_before bounds.min_y b.top bounds.max_y down e) in
          absurd (is.differs (λ x.
          pixels x b.top ∙
          (ap (λ t. (within bounds.min_x x bounds.max_x && t) && test x b.top) both ∙
          (ap (λ t. (within bounds.min_x x bounds.max_x && within bounds.min_y above bounds.max_y) && t)
          (changes.down x b.top f) ∙ sym (pixels x above)))))

  -- the rectangles of some of the bands
  flat_corners : (cs : List Band) → All (IsTopRow bs) cs → All Cornered (flat cs)
  flat_corners [] rows_of = rw flat_nil (λ i d low. absurd (omega arith))
  flat_corners (c ∷ cs) rows_of =
      let top = All-head (IsTopRow bs) c cs rows_of in
      rw (flat_cons c cs)
      (All-append Cornered (band_rectangles c) (flat cs)
      (All-map Cornered (λ (r : Run). record { min_x = r.first; min_y = c.top; max_x = r.last; max_y = c.bottom }) c.runs
      (λ i d low. corner c top (get_or c.runs i d) (runs_begin c.runs top.band.runs i d low)))
      (flat_corners cs (All-tail (IsTopRow bs) c cs rows_of)))

  pub all_corners : All Cornered (flat bs)
  all_corners = flat_corners bs (top_rows bs are)

-- the rectangles of a canonical list
list_corners : (bounds : Rectangle) (columns rows : List ℤ) (test : ℤ → ℤ → Bool) (rects : List Rectangle)
    → ChangesAt columns rows test → IsCanonical rects → ((x y : ℤ) → covers rects x y ≡ (has_pixel bounds x y && test x y))
    → All (IsCornered (bounds.min_x ∷ columns) (bounds.min_y ∷ rows)) rects
list_corners bounds columns rows test rects changes canonical pixels =
    let bs = band_list (pixels_of rects) in
    let same : flat bs ≡ rects = sym (bands_flat (pixels_of rects)) ∙ canonical in
    subst (λ q. All (IsCornered (bounds.min_x ∷ columns) (bounds.min_y ∷ rows)) q) same
    (all_corners bounds columns rows test changes bs (are_band_list (pixels_of rects))
    (λ x y. sym (covers_flat bs x y) ∙ (ap (λ q. covers q x y) same ∙ pixels x y)))

-- what the visible pixels leave of the bounds
left_of : (a t : Bool) → (a && not (a && t)) ≡ (a && not t)
left_of true t = refl
left_of false t = refl

pub few_under_cuts : RectanglesUnderCutsAreFew
few_under_cuts bounds columns rows test visible changes is =
    let hidden = hidden_of bounds visible in
    let xs = bounds.min_x ∷ columns in
    let ys = bounds.min_y ∷ rows in
    let turned : ChangesAt columns rows (λ x y. not (test x y)) =
    record { across = λ x y e. ap not (changes.across x y e); down = λ x y e. ap not (changes.down x y e) } in
    let parts =
    divided bounds visible hidden refl
    (λ x y has. (and_parts (has_pixel bounds x y) (test x y) (sym (is.pixels x y) ∙ has)).0) is.canonical in
    let seen = list_corners bounds columns rows test visible changes is.canonical is.pixels in
    let unseen = list_corners bounds columns rows (λ x y. not (test x y)) hidden turned (canonical_hidden bounds visible)
    (λ x y. covers_hidden bounds visible x y ∙
    (ap (λ t. has_pixel bounds x y && not t) (is.pixels x y) ∙ left_of (has_pixel bounds x y) (test x y))) in
    let few = corners_few xs ys (visible ++ hidden) (All-append (IsCornered xs ys) visible hidden seen unseen) parts.apart in
    let long : length (visible ++ hidden) ≡ length visible + length hidden = length-append visible hidden in
    subst (λ n. n ≤ (length columns + 1) * (length rows + 1)) long
    (suc_both (length columns) (length rows) (length (visible ++ hidden)) few)
  where
    suc_both : (c r n : ℕ) → n ≤ suc c * suc r → n ≤ (c + 1) * (r + 1)
    suc_both c r n h = let e : suc c ≡ c + 1 = omega arith in let f : suc r ≡ r + 1 = omega arith in rw (e, f) at h
