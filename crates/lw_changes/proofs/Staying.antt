-- What an arrangement leaves of the pens of a layer that stays where it is.
use Rattle.std.proofs.Common.{◌≡◌, ℕ, ◌+◌, ◌<◌, ◌==◌, Bool, true, false, not, ◌&&◌, ◌||◌, nat_lt, List, [], ◌∷◌, ℤ, pos, ◌+ℤ◌}
use Rattle.std.proofs.Common.{◌-ℤ◌, ◌≤ℤ◌, unsigned_abs, Option, Some, None, refl, sym, ap, subst, ◌∙◌, ◌⊎◌, ⊎_elim, arith, lt-ltb}
use Rattle.std.specs.Prelude.{if◌then◌else◌}
use Rattle.std.specs.List.{list_any, range_with_len}
use Rattle.std.proofs.lemmas.Bool.{and_from, and_parts, or_from, eq-eqb}
use Rattle.std.proofs.lemmas.Int.{ints}
use Rattle.lw_region.specs.Rectangle.{Rectangle, has_pixel, width, height}
use Rattle.lw_region.proofs.Within.{within_low, within_high}
use Rattle.lw_planes.specs.Bitmap.{pen_at}
use Rattle.lw_planes.proofs.BitmapLaws.{pen_at_bitmap}
use Rattle.lw_calls.specs.declared.sizes.Sizes.{Sizes}
use Rattle.lw_calls.specs.declared.make.Kind.{Kind}
use Rattle.lw_calls.specs.declared.make.Kind.TheVariants.{Simple, Smart, SuperBitmap}
use Rattle.lw_calls.specs.Kinds.{is_super}
use Rattle.lw_machine.specs.Layer.{Layer, Window, Live, is_framed}
use Rattle.lw_machine.specs.Screen.{distance, pen_on}
use Rattle.lw_machine.specs.Kept.{screen_place, visible_within, is_kept, kept_as, in_inner}
use Rattle.lw_machine.specs.Shapes.{differ}
use Rattle.lw_machine.specs.Reveal.{Across, has_bounds, was_live, is_resized, is_inner, width_in, height_in}
use Rattle.lw_machine.specs.Reveal.{counts_as_kept, at_new_size, keeps, fills, fill_pen, some_pixel, framed_by}
use Rattle.lw_machine.specs.Reveal.{with_frame, frame_is_due, with_messages, with_due_frame, settled_layer}
use Rattle.lw_machine.specs.Sound.{IsBounded}
use Rattle.lw_machine.proofs.RevealSound.{shows}
use Rattle.lw_machine.proofs.Settling.{revealed_in, revealed_plain, revealed_super, settled_is}

-- a layer with the same bounds before and after
pub record Stays (sizes : Sizes) (c : Across) (l : Layer) (r : Rectangle) : Type 0 where
  pub was : c.bounds ≡ Some r
  pub is : c.new_bounds ≡ Some r
  pub bounded : IsBounded sizes l r
  pub frameless : is_super l.kind ≡ true → is_framed l.window ≡ false

-- the pixels that it shows before
abbrev pub showed : Across → Layer → ℕ → ℕ → Bool
showed c l x y = visible_within c.shown c.bounds l.scroll_x l.scroll_y x y

-- Its frame isn't painted: it has none, or its activity stays and it keeps no pixel that it didn't keep before.
pub record IsCalm (c : Across) (l : Layer) : Type 0 where
  pub active : differ c.active c.new_active ≡ false
  pub kept : (x y : ℕ) → kept_as l.kind (shows c l x y) ≡ true → kept_as l.kind (showed c l x y) ≡ true

abbrev pub IsUnpainted : Across → Layer → Type 0
IsUnpainted c l = (is_framed l.window ≡ false) ⊎ IsCalm c l

-- each kind keeps what is visible
pub kept_visible : (k : Kind) (visible : Bool) → visible ≡ true → kept_as k visible ≡ true
kept_visible Simple visible is = is
kept_visible Smart visible is = refl
kept_visible SuperBitmap visible is = refl

-- and keeps what it kept, where it shows no more
pub kept_still : (k : Kind) (before after : Bool) → (after ≡ true → before ≡ true) → kept_as k after ≡ true
    → kept_as k before ≡ true
kept_still Simple before after still is = still is
kept_still Smart before after still is = refl
kept_still SuperBitmap before after still is = refl

-- a layer within the same bounds shows no more where it is shown on no more places
pub shown_still : (before after : ℤ → ℤ → Bool) (o : Option Rectangle) (scroll_x scroll_y x y : ℕ)
    → ((u v : ℤ) → after u v ≡ true → before u v ≡ true) → visible_within after o scroll_x scroll_y x y ≡ true
    → visible_within before o scroll_x scroll_y x y ≡ true
shown_still before after None scroll_x scroll_y x y still is = is
shown_still before after (Some r) scroll_x scroll_y x y still is = still _ _ is

-- the pixel on a place lies on that place
place_there : (edge place : ℤ) (scroll : ℕ) → edge ≤ℤ place → screen_place edge scroll (distance edge place + scroll) ≡ place
place_there edge place scroll right = omega (arith, ints)

-- and in the bits, where they have the bounds' size and aren't scrolled
place_within : (edge place last : ℤ) (scroll : ℕ) → edge ≤ℤ place → place ≤ℤ last → scroll ≡ 0
    → distance edge place + scroll < unsigned_abs ((last +ℤ pos 1) -ℤ edge)
place_within edge place last scroll right left still = omega (arith, ints)

-- no pixel of a table is such where none is
any_none : (test : ℕ → Bool) (xs : List ℕ) → ((x : ℕ) → test x ≡ false) → list_any test xs ≡ false
any_none test [] off = refl
any_none test (x ∷ xs) off = or_from (test x) (list_any test xs) (off x) (any_none test xs off)

no_pixel : (w h : ℕ) (test : ℕ → ℕ → Bool) → ((x y : ℕ) → test x y ≡ false) → some_pixel w h test ≡ false
unfolding some_pixel
no_pixel w h test off =
    any_none (λ y. list_any (λ x. test x y) (range_with_len 0 w)) (range_with_len 0 h)
    (λ y. any_none (λ x. test x y) (range_with_len 0 w) (λ x. off x y))

-- a window without a frame gets none
unframed : (glyphs : List (List ℕ)) (kept : ℕ → ℕ → Bool) (active : Bool) (o : Option Window) (l : Layer) → is_framed o ≡ false
    → framed_by glyphs kept active o l ≡ l
unframed glyphs kept active None l bare = refl
unframed glyphs kept active (Some w) l bare = ap (λ b. framed_by glyphs kept active (Some (record w { framed = b })) l) bare

maybe_unframed : (t : Bool) (glyphs : List (List ℕ)) (kept : ℕ → ℕ → Bool) (active : Bool) (l : Layer)
    → is_framed l.window ≡ false → (if t then with_frame glyphs kept active l else l) ≡ l
maybe_unframed true glyphs kept active l bare = unframed glyphs kept active l.window l bare
maybe_unframed false glyphs kept active l bare = refl

module _ (sizes : Sizes) (c : Across) (l : Layer) (r : Rectangle) (stays : Stays sizes c l r) where
  abbrev pub same_bounds : c.bounds ≡ c.new_bounds
  same_bounds = stays.was ∙ sym stays.is

  live : was_live c ≡ true
  live = ap has_bounds stays.was

  -- a pixel that it keeps after counts as kept before, where it kept it
  counts : (x y : ℕ) → is_super l.kind ≡ false → (kept_as l.kind (shows c l x y) ≡ true → kept_as l.kind (showed c l x y) ≡ true)
      → keeps c (at_new_size c l) x y ≡ true → counts_as_kept c l x y ≡ true
  unfolding counts_as_kept is_kept
  counts x y plain before now =
      let parts = and_parts (nat_lt x (width_in c.new_bounds) && nat_lt y (height_in c.new_bounds)) _ now in
      let wide : l.bits.width ≡ width_in c.new_bounds = stays.bounded.columns plain ∙ ap width_in (sym stays.is) in
      let high : l.bits.height ≡ height_in c.new_bounds = stays.bounded.rows plain ∙ ap height_in (sym stays.is) in
      let bits : (nat_lt x l.bits.width && nat_lt y l.bits.height) ≡ true =
      ap (λ w. nat_lt x w && nat_lt y l.bits.height) wide
      ∙ (ap (λ h. nat_lt x (width_in c.new_bounds) && nat_lt y h) high ∙ parts.0) in
      and_from _ _ (and_from _ _ live (and_from _ _ bits (before parts.1)))
      (ap (λ o. in_inner (is_framed l.window) (width_in o) (height_in o) x y || not (is_framed l.window && is_inner c l x y))
      same_bounds ∙ either (is_inner c l x y) (is_framed l.window))
    where
      either : (b f : Bool) → (b || not (f && b)) ≡ true
      either true f = refl
      either false true = refl
      either false false = refl

  -- so it fills none where it is calm
  filled_none : (x y : ℕ) → is_super l.kind ≡ false → IsCalm c l
      → (fills c l (revealed_in c l) x y && not (is_inner c l x y)) ≡ false
  unfolding is_kept
  filled_none x y plain calm = go (keeps c (at_new_size c l) x y) (counts x y plain (calm.kept x y))
    where
      go : (b : Bool) → (b ≡ true → counts_as_kept c l x y ≡ true)
          → ((b && not (counts_as_kept c l x y)) && not (is_inner c l x y)) ≡ false
      go true all = ap (λ t. (true && not t) && not (is_inner c l x y)) (all refl)
      go false all = refl

  same_size : is_resized c ≡ false
  same_size =
      ap (λ o. was_live c && not ((width_in o == width_in c.new_bounds) && (height_in o == height_in c.new_bounds))) same_bounds
      ∙ (ap (λ t. was_live c && not (t && (height_in c.new_bounds == height_in c.new_bounds)))
      (eq-eqb (width_in c.new_bounds) (width_in c.new_bounds) refl)
      ∙ (ap (λ t. was_live c && not t) (eq-eqb (height_in c.new_bounds) (height_in c.new_bounds) refl) ∙ never (was_live c)))
    where
      never : (b : Bool) → (b && false) ≡ false
      never true = refl
      never false = refl

  undue : is_super l.kind ≡ false → IsCalm c l → frame_is_due c l (revealed_in c l) ≡ false
  undue plain calm =
      or_from _ _ (or_from _ _ (ap not live) same_size)
      (or_from _ _ calm.active
      (no_pixel (width_in c.new_bounds) (height_in c.new_bounds)
      (λ x y. fills c l (revealed_in c l) x y && not (is_inner c l x y)) (λ x y. filled_none x y plain calm)))

  -- what is revealed of it gets no frame
  frame_left : is_super l.kind ≡ false → (glyphs : List (List ℕ)) → IsUnpainted c l
      → with_due_frame glyphs c l (revealed_in c l) ≡ revealed_in c l
  frame_left plain glyphs unpainted =
      let q = revealed_in c l in
      ⊎_elim (λ bare. maybe_unframed (frame_is_due c l q) glyphs (keeps c q) c.new_active q bare)
      (λ calm. ap (λ t. if t then with_frame glyphs (keeps c q) c.new_active q else q) (undue plain calm)) unpainted

  -- On a place on which it is shown before and after, it shows the same pen.
  module _ (x y : ℤ) (has : has_pixel r x y ≡ true) (before : c.shown x y ≡ true) (after : c.new_shown x y ≡ true) where
    abbrev pub column : ℕ
    column = distance r.min_x x + l.scroll_x

    abbrev pub row : ℕ
    row = distance r.min_y y + l.scroll_y

    on : (shown : ℤ → ℤ → Bool) (o : Option Rectangle) → o ≡ Some r → shown x y ≡ true
        → visible_within shown o l.scroll_x l.scroll_y column row ≡ true
    on shown o is seen =
        let sides = and_parts _ _ has in
        ap (λ b. visible_within shown b l.scroll_x l.scroll_y column row) is
        ∙ (ap (λ z. shown z (screen_place r.min_y l.scroll_y row))
        (place_there r.min_x x l.scroll_x (within_low r.min_x x r.max_x sides.0))
        ∙ (ap (shown x) (place_there r.min_y y l.scroll_y (within_low r.min_y y r.max_y sides.1)) ∙ seen))

    kept_now : is_super l.kind ≡ false → (column < width_in c.new_bounds) → (row < height_in c.new_bounds)
        → keeps c (at_new_size c l) column row ≡ true
    unfolding is_kept
    kept_now plain left low =
        and_from _ _ (and_from _ _ (lt-ltb _ _ left) (lt-ltb _ _ low))
        (kept_visible l.kind _ (on c.new_shown c.new_bounds stays.is after))

    revealed_pen : is_super l.kind ≡ false → pen_at (revealed_in c l).bits column row ≡ pen_at l.bits column row
    revealed_pen plain =
        let sides = and_parts _ _ has in
        let left : column < width r =
        place_within r.min_x x r.max_x l.scroll_x (within_low r.min_x x r.max_x sides.0) (within_high r.min_x x r.max_x sides.0)
        (stays.bounded.left plain) in
        let low : row < height r =
        place_within r.min_y y r.max_y l.scroll_y (within_low r.min_y y r.max_y sides.1) (within_high r.min_y y r.max_y sides.1)
        (stays.bounded.upper plain) in
        let left_now : column < width_in c.new_bounds = subst (λ o. column < width_in o) (sym stays.is) left in
        let low_now : row < height_in c.new_bounds = subst (λ o. row < height_in o) (sym stays.is) low in
        let now : keeps c (at_new_size c l) column row ≡ true = kept_now plain left_now low_now in
        let kept : counts_as_kept c l column row ≡ true =
        counts column row plain (λ _. kept_visible l.kind _ (on c.shown c.bounds stays.was before)) now in
        pen_at_bitmap (width_in c.new_bounds) (height_in c.new_bounds) l.bits.depth _ column row left_now low_now
        ∙ (ap (λ t. if t then (if counts_as_kept c l column row then pen_at l.bits column row
        else fill_pen l.bits.depth l.hook column row) else 0) now
        ∙ ap (λ t. if t then pen_at l.bits column row else fill_pen l.bits.depth l.hook column row) kept)

    pub same_pen : (glyphs : List (List ℕ)) → IsUnpainted c l
        → pen_on (Some r) (Live (settled_layer glyphs c l)) x y ≡ pen_on (Some r) (Live l) x y
    same_pen glyphs unpainted = go (is_super l.kind) refl
      where
        go : (b : Bool) → is_super l.kind ≡ b
            → pen_on (Some r) (Live (settled_layer glyphs c l)) x y ≡ pen_on (Some r) (Live l) x y
        go true own =
            ap (λ q. pen_on (Some r) (Live q) x y) (settled_is glyphs c l l (revealed_super c l own))
            ∙ ap (λ q. pen_on (Some r) (Live (with_messages c q)) x y)
            (maybe_unframed (frame_is_due c l l) glyphs (keeps c l) c.new_active l (stays.frameless own))
        go false plain =
            ap (λ q. pen_on (Some r) (Live q) x y) (settled_is glyphs c l (revealed_in c l) (revealed_plain c l plain))
            ∙ (ap (λ q. pen_on (Some r) (Live (with_messages c q)) x y) (frame_left plain glyphs unpainted) ∙ revealed_pen plain)
