-- What the strips of all owners are: each place of the screen is in one of them, and the screen shows their pens.
use Rattle.std.proofs.Common.{◌≡◌, ℕ, zero, suc, ◌+◌, ◌<◌, ◌≤◌, ◌==◌, Bool, true, false, not, ◌&&◌, ◌||◌, nat_le, nat_lt, if◌then◌else◌, List, [], ◌∷◌, ◌++◌, length, get_or, ℤ, pos, ◌-ℤ◌, Option, Some, None, inl, inr, ◌∙◌, sym, refl, ap, subst, arith}
use Rattle.std.specs.List.{All}
use Rattle.std.specs.Option.{is_some}
use Rattle.std.proofs.lemmas.Bool.{false≢true, true_from_ne_false, cases_lt, cases_eq, eq-eqb, ne_eqb}
use Rattle.std.proofs.lemmas.Bool.Decides.{nat_tests}
use Rattle.std.proofs.lemmas.List.{append-nil, length-map, get_or-map, get_or_default, get_or_past}
use Rattle.std.proofs.lemmas.List.Sums.{sum_by-cons, sum_by-append}
use Rattle.lw_region.specs.Rectangle.{Rectangle, has_pixel}
use Rattle.lw_region.specs.Order.{natural}
use Rattle.lw_region.specs.Bands.{covers}
use Rattle.lw_region.specs.Banded.{IsCanonical}
use Rattle.lw_region.proofs.Canonical.{covers_nil, covers_cons}
use Rattle.lw_region.proofs.Disjoint.{canonical_disjoint}
use Rattle.lw_planes.specs.Row.{bit_of}
use Rattle.lw_planes.specs.Bitmap.{pen_at}
use Rattle.lw_planes.proofs.BitmapLaws.{bitmap_same}
use Rattle.lw_strips.specs.Strips.{StripView, blank_planes, strip_pen, rects_of, pen_in}
use Rattle.lw_strips.specs.Laying.{screen as screen_rectangle, assembled, AreDisjoint}
use Rattle.lw_strips.proofs.LayingLaws.{pen_in_nil, pen_in_cons}
use Rattle.lw_strips.proofs.OverlapLaws.{blank_pen}
use Rattle.lw_cliprects.specs.Parts.{hidden_of, LieIn}
use Rattle.lw_cliprects.proofs.HiddenLaws.{covers_hidden, divided}
use Rattle.lw_calls.specs.declared.make.Kind.{Kind}
use Rattle.lw_calls.specs.declared.make.Kind.TheVariants.{Simple, Smart, SuperBitmap}
use Rattle.lw_calls.specs.declared.sizes.Sizes.{Sizes}
use Rattle.lw_machine.specs.Layer as layer
use Rattle.lw_machine.specs.Desk.{Desk, is_the}
use Rattle.lw_machine.specs.Screen.{bounds_have, screen_bounds, top, pen_on, pen_of_top, screen}
use Rattle.lw_machine.specs.Parts.{slot_part}
use Rattle.lw_machine.specs.Sound.{IsSlot}
use Rattle.lw_machine.proofs.Seen.{the_one}
use Rattle.lw_layer.specs.View.{State, LiveView, CellView}
use Rattle.lw_layer.specs.View as view
use Rattle.lw_layer.specs.declared.draft.LiveDraft.{LiveDraft}
use Rattle.lw_layer.specs.Drafts.{IsLiveDraft, live_view}
use Rattle.lw_layer.specs.Pieces.{rest_as, layout_of, whole_of}
use Rattle.lw_layer.specs.StandsFor.{IsLivePart, IsPartOf}
use Rattle.lw_stack.specs.Stack.{Stack, top_in, is_top_in}
use Rattle.lw_stack.proofs.ListLaws.{top_is_listed, shown_is_top}
use Rattle.lw_stack.proofs.FirstLaws.{not_top, top_off_screen}
use Rattle.lw_arrange.specs.Pieces.{is_owner, owner_has}
use Rattle.lw_arrange.proofs.PieceLaws.{first_is_top}
use Rattle.lw_engine.specs.Desks.{cell_at, AreOfDesk}
use Rattle.lw_engine.specs.Owners.{AreStripsOfLayer, AreStripsIn, AreStripsOf, AreLent, all_strips, strips_at, HaveBuffers, without_hook, IsMadeOf, IsCutUp, AreWhole}

-- no strip has the place
none_at : (strips : List StripView) (x y : ℤ)
    → ((j : ℕ) (e : StripView) → j < length strips → has_pixel (get_or strips j e).rect x y ≡ false) → strips_at strips x y ≡ 0
none_at [] x y each = refl
none_at (s ∷ rest) x y each =
    let first = sum_by-cons (λ (t : StripView). bit_of (has_pixel t.rect x y)) s rest in
    let off : bit_of (has_pixel s.rect x y) ≡ 0 = ap bit_of (each 0 s (omega arith)) in
    let others = none_at rest x y (λ j e below. each (suc j) e (omega arith)) in
    omega (arith, first, off, others)

-- of disjoint strips one has a place that they have, and none another one
one_at : (strips : List StripView) → AreDisjoint strips → (x y : ℤ) → strips_at strips x y ≡ bit_of (covers (rects_of strips) x y)
one_at [] disjoint x y = sym (ap bit_of (covers_nil x y))
one_at (s ∷ rest) disjoint x y =
    sum_by-cons (λ (t : StripView). bit_of (has_pixel t.rect x y)) s rest
    ∙ (by_test (has_pixel s.rect x y) refl
    (one_at rest (λ i j e before below. disjoint (suc i) (suc j) e (omega arith) (omega arith)) x y)
    ∙ sym (ap bit_of (covers_cons s.rect (rects_of rest) x y)))
  where
    by_test : (t : Bool) → has_pixel s.rect x y ≡ t → strips_at rest x y ≡ bit_of (covers (rects_of rest) x y)
        → bit_of t + strips_at rest x y ≡ bit_of (t || covers (rects_of rest) x y)
    by_test true has others =
        let none = none_at rest x y (λ j e below.
        sym (ap (λ t. t && has_pixel (get_or rest j e).rect x y) has) ∙ disjoint 0 (suc j) e (omega arith) (omega arith) x y) in
        omega (arith, none)
    by_test false off others = omega (arith, others)

-- strips of a canonical list are disjoint
canonical_strips : (strips : List StripView) → IsCanonical (rects_of strips) → AreDisjoint strips
canonical_strips strips canonical i j e before below x y =
    let rect_at : (k : ℕ) → k < length strips → (get_or strips k e).rect ≡ get_or (rects_of strips) k e.rect =
    λ k inside. sym (get_or-map (λ (s : StripView). s.rect) strips k e e.rect inside) in
    ap (λ (r : Rectangle). has_pixel r x y && has_pixel (get_or strips j e).rect x y) (rect_at i (omega (arith, before, below)))
    ∙ (ap (λ (r : Rectangle). has_pixel (get_or (rects_of strips) i e.rect) x y && has_pixel r x y) (rect_at j below)
    ∙ canonical_disjoint (rects_of strips) canonical i j e.rect before (omega (arith, below, length-map strips (λ (s : StripView). s.rect))) x y)

-- the number that is told is one of n numbers from j on
abbrev names_one : Option ℕ → ℕ → ℕ → Bool
names_one None j n = false
names_one (Some s) j n = nat_le j s && nat_lt s (j + n)

names_none : (o : Option ℕ) (j : ℕ) → bit_of (names_one o j 0) ≡ 0
names_none None j = refl
names_none (Some s) j = let off : (nat_le j s && nat_lt s (j + 0)) ≡ false = grind (arith, nat_tests) in ap bit_of off

names_more : (o : Option ℕ) (j n : ℕ) → bit_of (is_the o j) + bit_of (names_one o (j + 1) n) ≡ bit_of (names_one o j (suc n))
names_more None j n = refl
names_more (Some s) j n =
    elim (cases_eq s j) [
      | inl same ↦
          let here : (s == j) ≡ true = eq-eqb s j same in
          let past : (nat_le (j + 1) s && nat_lt s ((j + 1) + n)) ≡ false = grind (arith, nat_tests) in
          let among : (nat_le j s && nat_lt s (j + suc n)) ≡ true = grind (arith, nat_tests) in
          omega (arith, ap bit_of here, ap bit_of past, ap bit_of among)
      | inr other ↦
          let there : (s == j) ≡ false = ne_eqb s j other in
          let still : (nat_le (j + 1) s && nat_lt s ((j + 1) + n)) ≡ (nat_le j s && nat_lt s (j + suc n)) = grind (arith, nat_tests) in
          omega (arith, ap bit_of there, ap bit_of still)
    ]

-- how many of all strips have a place, where of the slots that from j on stand in the list the one that is told has one there
count_all : (layers : List (List StripView)) (desktop : List StripView) (x y : ℤ) (o : Option ℕ) (j : ℕ)
    → ((k : ℕ) → k < length layers → strips_at (get_or layers k []) x y ≡ bit_of (is_the o (j + k)))
    → strips_at (all_strips layers desktop) x y ≡ bit_of (names_one o j (length layers)) + strips_at desktop x y
count_all [] desktop x y o j each = let none = names_none o j in omega (arith, none)
count_all (strips ∷ rest) desktop x y o j each =
    let both = sum_by-append (λ (t : StripView). bit_of (has_pixel t.rect x y)) strips (all_strips rest desktop) in
    let first : strips_at strips x y ≡ bit_of (is_the o j) =
    (let start : j + 0 ≡ j = omega arith in each 0 (omega arith) ∙ ap (λ n. bit_of (is_the o n)) start) in
    let others = count_all rest desktop x y o (j + 1)
    (λ k below. let next : j + suc k ≡ (j + 1) + k = omega arith in each (suc k) (omega arith) ∙ ap (λ n. bit_of (is_the o n)) next) in
    let more = names_more o j (length rest) in
    omega (arith, both, first, others, more)

-- the pen at a place of strips before others
pens_before : (a b : List StripView) (x y : ℤ) (pen : ℕ) → (covers (rects_of a) x y ≡ true → pen_in a x y ≡ pen)
    → (covers (rects_of a) x y ≡ false → pen_in b x y ≡ pen) → pen_in (a ++ b) x y ≡ pen
pens_before [] b x y pen here behind = behind (covers_nil x y)
pens_before (s ∷ a) b x y pen here behind =
    pen_in_cons s (a ++ b) x y ∙ by_test (has_pixel s.rect x y) refl (pens_before a b x y pen)
  where
    whole : (t : Bool) → has_pixel s.rect x y ≡ t → covers (rects_of (s ∷ a)) x y ≡ (t || covers (rects_of a) x y)
    whole t is = covers_cons s.rect (rects_of a) x y ∙ ap (λ u. u || covers (rects_of a) x y) is

    pen_is : (t : Bool) → has_pixel s.rect x y ≡ t → pen_in (s ∷ a) x y ≡ (if t then strip_pen s x y else pen_in a x y)
    pen_is t is = pen_in_cons s a x y ∙ ap (λ u. if u then strip_pen s x y else pen_in a x y) is

    by_test : (t : Bool) → has_pixel s.rect x y ≡ t
        → ((covers (rects_of a) x y ≡ true → pen_in a x y ≡ pen) → (covers (rects_of a) x y ≡ false → pen_in b x y ≡ pen)
        → pen_in (a ++ b) x y ≡ pen)
        → (if t then strip_pen s x y else pen_in (a ++ b) x y) ≡ pen
    by_test true is rest = sym (pen_is true is) ∙ here (whole true is)
    by_test false is rest = rest (λ has. sym (pen_is false is) ∙ here (whole false is ∙ has)) (λ none. behind (whole false is ∙ none))

-- the pen at a place of all strips, where each slot's that have it have this pen there, and the desktop's where these haven't it
pens_of_all : (layers : List (List StripView)) (desktop : List StripView) (x y : ℤ) (pen : ℕ)
    → ((k : ℕ) → k < length layers → covers (rects_of (get_or layers k [])) x y ≡ true → pen_in (get_or layers k []) x y ≡ pen)
    → (((k : ℕ) → k < length layers → covers (rects_of (get_or layers k [])) x y ≡ false) → pen_in desktop x y ≡ pen)
    → pen_in (all_strips layers desktop) x y ≡ pen
pens_of_all [] desktop x y pen each last = last (λ k below. absurd (omega (arith, below)))
pens_of_all (strips ∷ rest) desktop x y pen each last =
    pens_before strips (all_strips rest desktop) x y pen (each 0 (omega arith))
    (λ none. pens_of_all rest desktop x y pen (λ k below. each (suc k) (omega arith)) (λ others. last (first none others)))
  where
    first : covers (rects_of strips) x y ≡ false → ((k : ℕ) → k < length rest → covers (rects_of (get_or rest k [])) x y ≡ false)
        → (k : ℕ) → k < length (strips ∷ rest) → covers (rects_of (get_or (strips ∷ rest) k [])) x y ≡ false
    first none others zero below = none
    first none others (suc k) below = others k (omega (arith, below))

-- strips without a pen
blank_pens : (depth : ℕ) (strips : List StripView) → All (λ s. s.planes ≡ blank_planes s.rect depth) strips → (x y : ℤ)
    → pen_in strips x y ≡ 0
blank_pens depth [] all x y = pen_in_nil x y
blank_pens depth (s ∷ rest) all x y =
    pen_in_cons s rest x y
    ∙ by_test (has_pixel s.rect x y) (ap (λ b. pen_at b column row) (all 0 s (omega arith)) ∙ blank_pen s.rect depth column row)
    (blank_pens depth rest (λ j e below. all (suc j) e (omega arith)) x y)
  where
    column : ℕ
    column = natural (x -ℤ s.rect.min_x)

    row : ℕ
    row = natural (y -ℤ s.rect.min_y)

    by_test : (t : Bool) → strip_pen s x y ≡ 0 → pen_in rest x y ≡ 0 → (if t then strip_pen s x y else pen_in rest x y) ≡ 0
    by_test true one others = one
    by_test false one others = others

-- which rectangles of a layer have a buffer, by its kind
have_buffers : (k : Kind) (c : LiveView) → c.layer.kind ≡ k → HaveBuffers k c
have_buffers Simple c is = ap (λ q. c.visible ++ rest_as q (hidden_of c.bounds c.visible) (whole_of (layout_of c))) is ∙ append-nil c.visible
have_buffers Smart c is = ap (λ q. c.visible ++ rest_as q (hidden_of c.bounds c.visible) (whole_of (layout_of c))) is
have_buffers SuperBitmap c is = ap (λ q. c.visible ++ rest_as q (hidden_of c.bounds c.visible) (whole_of (layout_of c))) is

-- and what a draft has that is the layer
is_made_of : (c : LiveView) (draft : LiveDraft) → IsLiveDraft draft → live_view draft ≡ without_hook c → IsMadeOf c draft
is_made_of c draft sound is =
    let P : LiveView → Type 0 = λ k. IsMadeOf k draft in
    let own : P (live_view draft) = record { strips = sound.buffers.shown; hidden = sound.buffers.rest; sizes = sound.buffers.sized } in
    let bare : P (without_hook c) = subst P is own in
    record { strips = bare.strips; hidden = bare.hidden; sizes = bare.sizes }

-- Where a list of layers and cells stand for a desk.
module _ (v : Stack) (cells : List CellView) (d : Desk) (stands : AreOfDesk v cells d) where
  -- a slot without bounds is on top of no place
  never_top : (k : ℕ) (x y : ℤ) → d.bounds k ≡ None → is_top_in v k x y ≡ false
  never_top k x y none = not_top v k x y (ap (λ o. bounds_have o x y) (sym (stands.info.bounds k) ∙ none))

  -- the top is one of the slots that there are
  top_below : (s : ℕ) (x y : ℤ) → top_in v x y ≡ Some s → s < v.sizes.slots
  top_below s x y is =
      elim (cases_lt s v.sizes.slots) [
        | inl below ↦ below
        | inr past ↦
            let idle : d.bounds s ≡ None = subst (IsSlot d s)
            (stands.sound.beyond s (omega (arith, past, ap (λ (z : Sizes). z.slots) stands.sizes))) (stands.sound.slots s) in
            absurd (false≢true (sym (never_top s x y idle) ∙ (ap (λ o. is_the o s) is ∙ eq-eqb s s refl)))
      ]

  -- what the strips of a slot are
  pub slot_is : (k : ℕ) (strips : List StripView) → k < v.sizes.slots → AreStripsOf (cell_at cells k) strips
      → AreDisjoint strips × ((x y : ℤ) → covers (rects_of strips) x y ≡ is_top_in v k x y)
  slot_is k strips below told =
      by_state (cell_at cells k).state (cell_at cells k).live strips (stands.slots k below) told
    where
      idle : (strips : List StripView) → d.bounds k ≡ None → strips ≡ []
          → AreDisjoint strips × ((x y : ℤ) → covers (rects_of strips) x y ≡ is_top_in v k x y)
      idle strips none empty = (
        subst AreDisjoint (sym empty) (λ i j e before inside. absurd (omega (arith, inside))),
        λ x y. ap (λ ss. covers (rects_of ss) x y) empty ∙ (covers_nil x y ∙ sym (never_top k x y none)),
      )

      by_state : (s : State) (c : LiveView) (strips : List StripView) → IsPartOf s c (slot_part d k) → AreStripsIn s c strips
          → AreDisjoint strips × ((x y : ℤ) → covers (rects_of strips) x y ≡ is_top_in v k x y)
      by_state view.Unopened c strips part empty = idle strips part.1 empty
      by_state view.Closed c strips part empty = idle strips part.1 empty
      by_state view.Live c strips part told = (
        canonical_strips strips (subst IsCanonical (sym told.rects) told.canonical),
        λ x y. ap (λ rs. covers rs x y) told.rects ∙ (sym (part.shown x y) ∙ shown_is_top v d stands.sizes stands.info k x y),
      )

  -- and their pens are those that the screen shows
  pub slot_pens : (k : ℕ) (strips : List StripView) → k < v.sizes.slots → AreStripsOf (cell_at cells k) strips → (x y : ℕ)
      → covers (rects_of strips) (pos x) (pos y) ≡ true
      → pen_in strips (pos x) (pos y) ≡ pen_of_top d (top d (pos x) (pos y)) (pos x) (pos y)
  slot_pens k strips below told x y has =
      by_state (cell_at cells k).state (cell_at cells k).live strips (stands.slots k below) told has
    where
      nothing : (strips : List StripView) → strips ≡ [] → covers (rects_of strips) (pos x) (pos y) ≡ true → ⊥
      nothing strips empty has =
          false≢true (sym (ap (λ ss. covers (rects_of ss) (pos x) (pos y)) empty ∙ covers_nil (pos x) (pos y)) ∙ has)

      by_state : (s : State) (c : LiveView) (strips : List StripView) → IsPartOf s c (slot_part d k) → AreStripsIn s c strips
          → covers (rects_of strips) (pos x) (pos y) ≡ true
          → pen_in strips (pos x) (pos y) ≡ pen_of_top d (top d (pos x) (pos y)) (pos x) (pos y)
      by_state view.Unopened c strips part empty has = absurd (nothing strips empty has)
      by_state view.Closed c strips part empty has = absurd (nothing strips empty has)
      by_state view.Live c strips part told has =
          let visible : covers c.visible (pos x) (pos y) ≡ true = sym (ap (λ rs. covers rs (pos x) (pos y)) told.rects) ∙ has in
          let on_top : top d (pos x) (pos y) ≡ Some k = the_one (top d (pos x) (pos y)) k (part.shown (pos x) (pos y) ∙ visible) in
          told.shown.pens x y visible
          ∙ (ap (λ b. pen_on b (layer.Live c.layer) (pos x) (pos y)) (sym part.bounds)
          ∙ (ap (λ s. pen_on (d.bounds k) s (pos x) (pos y)) (sym part.slot)
          ∙ sym (ap (λ o. pen_of_top d o (pos x) (pos y)) on_top)))

-- And these are the strips of all owners.
module _ (v : Stack) (cells : List CellView) (d : Desk) (layers : List (List StripView)) (desktop : List StripView)
    (many : length cells ≡ v.sizes.slots) (stands : AreOfDesk v cells d) (lent : AreLent v cells layers desktop) where
  as_many : length layers ≡ v.sizes.slots
  as_many = lent.slots.many ∙ many

  lent_at : (k : ℕ) → k < v.sizes.slots → AreStripsOf (cell_at cells k) (get_or layers k [])
  lent_at k below = lent.slots.each k (omega (arith, below, many))

  lent_is : (k : ℕ) → k < v.sizes.slots
      → AreDisjoint (get_or layers k []) × ((x y : ℤ) → covers (rects_of (get_or layers k [])) x y ≡ is_top_in v k x y)
  lent_is k below = slot_is v cells d stands k (get_or layers k []) below (lent_at k below)

  slot_at : (k : ℕ) → k < v.sizes.slots → (x y : ℤ) → strips_at (get_or layers k []) x y ≡ bit_of (is_top_in v k x y)
  slot_at k below x y = let is = lent_is k below in one_at (get_or layers k []) is.0 x y ∙ ap bit_of (is.1 x y)

  -- and those of the desktop
  desktop_at : (x y : ℤ) → strips_at desktop x y
      ≡ bit_of (has_pixel (screen_bounds v.sizes) x y && not (is_some (top_in v x y)))
  desktop_at x y =
      one_at desktop lent.bare.disjoint x y
      ∙ ap bit_of (lent.bare.places x y
      ∙ first_is_top v x y (has_pixel (screen_bounds v.sizes) x y) (λ o. not (is_some o)) (λ on. on))

  -- the list of layers has the machine's top
  told_top : (x y : ℤ) → top_in v x y ≡ top d x y
  told_top x y = sym (top_is_listed v d stands.sizes stands.info x y)

  -- each place of the screen is in one strip
  once : (x y : ℤ) → strips_at (all_strips layers desktop) x y ≡ bit_of (has_pixel (screen_bounds v.sizes) x y)
  once x y =
      let all = count_all layers desktop x y (top_in v x y) 0
      (λ k below. let same : k ≡ 0 + k = omega arith in
      slot_at k (omega (arith, below, as_many)) x y ∙ ap (λ n. bit_of (is_top_in v n x y)) same) in
      let bare = desktop_at x y in
      let whole = by_top (has_pixel (screen_bounds v.sizes) x y) (top_in v x y) (top_off_screen v x y)
      (λ s is. omega (arith, as_many, top_below v cells d stands s x y is)) in
      omega (arith, all, bare, whole)
    where
      by_top : (on : Bool) (o : Option ℕ) → (on ≡ false → o ≡ None) → ((s : ℕ) → o ≡ Some s → s < length layers)
          → bit_of (names_one o 0 (length layers)) + bit_of (on && not (is_some o)) ≡ bit_of on
      by_top true None off low = refl
      by_top true (Some s) off low =
          let below : s < length layers = low s refl in
          let named : (nat_le 0 s && nat_lt s (0 + length layers)) ≡ true = grind (arith, nat_tests) in
          omega (arith, ap bit_of named)
      by_top false None off low = refl
      by_top false (Some s) off low = let none : Some s ≡ None = off refl in absurd (cc)

  -- whose it is
  whose : (k : ℕ) (x y : ℤ) → k ≤ v.sizes.slots → strips_at (get_or layers k desktop) x y ≡ bit_of (owner_has v k x y)
  whose k x y most =
      elim (cases_lt k v.sizes.slots) [
        | inl below ↦
            ap (λ ss. strips_at ss x y) (get_or_default layers k desktop [] (omega (arith, below, as_many)))
            ∙ (slot_at k below x y ∙ ap (λ t. bit_of (if t then bare else is_top_in v k x y))
            (sym (ne_eqb k v.sizes.slots (λ same. absurd (omega (arith, below, same))))))
        | inr past ↦
            ap (λ ss. strips_at ss x y) (get_or_past layers k desktop (omega (arith, past, as_many)))
            ∙ (desktop_at x y ∙ ap (λ t. bit_of (if t then bare else is_top_in v k x y))
            (sym (eq-eqb k v.sizes.slots (omega (arith, past, most)))))
      ]
    where
      bare : Bool
      bare = has_pixel (screen_rectangle v.sizes.width v.sizes.height) x y && not (is_some (top_in v x y))

  -- the pen that the screen shows at a place
  pen_shown_at : (x y : ℕ) → pen_in (all_strips layers desktop) (pos x) (pos y) ≡ pen_of_top d (top d (pos x) (pos y)) (pos x) (pos y)
  pen_shown_at x y = pens_of_all layers desktop (pos x) (pos y) _ each last
    where
      each : (k : ℕ) → k < length layers → covers (rects_of (get_or layers k [])) (pos x) (pos y) ≡ true
          → pen_in (get_or layers k []) (pos x) (pos y) ≡ pen_of_top d (top d (pos x) (pos y)) (pos x) (pos y)
      each k below has =
          let low : k < v.sizes.slots = omega (arith, below, as_many) in
          slot_pens v cells d stands k (get_or layers k []) low (lent_at k low) x y has

      last : ((k : ℕ) → k < length layers → covers (rects_of (get_or layers k [])) (pos x) (pos y) ≡ false)
          → pen_in desktop (pos x) (pos y) ≡ pen_of_top d (top d (pos x) (pos y)) (pos x) (pos y)
      last none =
          blank_pens v.sizes.depth desktop lent.bare.pens (pos x) (pos y)
          ∙ sym (by_top (top d (pos x) (pos y)) (sym (top_is_listed v d stands.sizes stands.info (pos x) (pos y))))
        where
          by_top : (o : Option ℕ) → top_in v (pos x) (pos y) ≡ o → pen_of_top d o (pos x) (pos y) ≡ 0
          by_top None is = refl
          by_top (Some s) is =
              let below = top_below v cells d stands s (pos x) (pos y) is in
              absurd (false≢true (sym (none s (omega (arith, below, as_many)))
              ∙ ((lent_is s below).1 (pos x) (pos y) ∙ (ap (λ o. is_the o s) is ∙ eq-eqb s s refl))))

  -- the screen is assembled of all strips
  planes : screen d ≡ assembled d.sizes.width d.sizes.height d.sizes.depth (all_strips layers desktop)
  unfolding screen
  planes = bitmap_same d.sizes.width d.sizes.height d.sizes.depth _ _ (λ x y left low. sym (pen_shown_at x y))

  -- each live layer is cut up
  cut : (s : ℕ) → s < v.sizes.slots → (cell_at cells s).state ≡ view.Live → IsCutUp d s (cell_at cells s).live
  cut s below live =
      record {
        divided = divided c.bounds c.visible (hidden_of c.bounds c.visible) refl inside told.canonical;
        visible = λ x y. sym (part.shown x y);
        hidden = λ x y. covers_hidden c.bounds c.visible x y ∙ ap (λ t. has_pixel c.bounds x y && not t) (sym (part.shown x y));
        buffers = have_buffers c.layer.kind c refl;
        made = is_made_of c;
      }
    where
      c : LiveView
      c = (cell_at cells s).live

      part : IsLivePart c (slot_part d s)
      part = subst (λ q. IsPartOf q c (slot_part d s)) live (stands.slots s below)

      told : AreStripsOfLayer c (get_or layers s [])
      told = subst (λ q. AreStripsIn q c (get_or layers s [])) live (lent.slots.each s (omega (arith, below, many)))

      shown : (x y : ℤ) → covers c.visible x y ≡ is_top_in v s x y
      shown x y = sym (part.shown x y) ∙ shown_is_top v d stands.sizes stands.info s x y

      inside : LieIn c.bounds c.visible
      inside x y has =
          true_from_ne_false (has_pixel c.bounds x y) (λ off.
          false≢true (sym (not_top v s x y (ap (λ o. bounds_have o x y) (sym (stands.info.bounds s) ∙ part.bounds) ∙ off))
          ∙ (sym (shown x y) ∙ has)))

  pub are_whole : AreWhole d cells layers desktop
  are_whole =
      record {
        once = λ x y. once x y ∙ ap (λ (z : Sizes). bit_of (has_pixel (screen_bounds z) x y)) (sym stands.sizes);
        whose = λ k x y most.
            whose k x y (omega (arith, most, slots)) ∙ ap (λ o. bit_of (is_owner v.sizes.slots (has_pixel (screen_bounds v.sizes) x y) o k)) (told_top x y)
            ∙ ap (λ (z : Sizes). bit_of (is_owner z.slots (has_pixel (screen_bounds z) x y) (top d x y) k)) (sym stands.sizes);
        planes = planes;
        cut = λ s below. cut s (omega (arith, below, slots));
      }
    where
      slots : d.sizes.slots ≡ v.sizes.slots
      slots = ap (λ (z : Sizes). z.slots) stands.sizes
