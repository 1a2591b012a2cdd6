-- The screen, assembled slot by slot from the last one to the first.
use Rattle.std.proofs.Common.{◌≡◌, ℕ, zero, suc, ◌+◌, ◌<◌, ◌≤◌, List, [], ◌∷◌, ◌++◌, length, drop, get_or, pos, ◌+ℤ◌, ◌-ℤ◌, unsigned_abs, Option, ◌∙◌, sym, refl, ap, subst, arith}
use Rattle.std.specs.List.{All}
use Rattle.std.proofs.lemmas.Int.{ints}
use Rattle.std.proofs.lemmas.List.{drop_all, drop_more}
use Rattle.std.proofs.lemmas.List.Elements.{All-nil}
use Rattle.lw_region.specs.Rectangle.{Rectangle}
use Rattle.lw_region.specs.Banded.{IsCanonical}
use Rattle.lw_planes.specs.Bitmap.{Bitmap}
use Rattle.lw_planes.specs.Sizes.{AreSizes}
use Rattle.lw_strips.specs.Strips.{StripView, IsSizeOf, blank_planes, rects_of}
use Rattle.lw_strips.specs.Laying.{with_strips, screen, assembled}
use Rattle.lw_strips.proofs.PlaceLaws.{laying}
use Rattle.lw_calls.specs.declared.sizes.Sizes.{Sizes}
use Rattle.lw_calls.specs.Limits.{IsWithinLimits}
use Rattle.lw_machine.specs.Hook.{Hook}
use Rattle.lw_machine.specs.Layer as layer
use Rattle.lw_machine.specs.Desk.{Desk}
use Rattle.lw_machine.specs.Parts.{slot_part}
use Rattle.lw_machine.specs.Sound.{IsSlot}
use Rattle.lw_layer.specs.View.{State, LiveView, CellView, hooked}
use Rattle.lw_layer.specs.View as view
use Rattle.lw_layer.specs.StandsFor.{IsPartOf}
use Rattle.lw_layer.specs.Copied.{HaveShown}
use Rattle.lw_stack.specs.Stack.{Stack}
use Rattle.lw_stack.specs.Desktop.{IsDesktop}
use Rattle.lw_stack.proofs.DesktopLaws.{columns_most, rows_most}
use Rattle.lw_engine.specs.Desks.{no_cell, cell_at, AreOfDesk}
use Rattle.lw_engine.specs.Arranging.{ForEach}
use Rattle.lw_engine.specs.Owners.{AreStripsIn, AreStripsOf, all_strips, IsAssembled}

-- what a cell lends are the strips of its slot
pub strips_lent : (h : Option Hook) (c : CellView) (l : LiveView) (strips : List StripView) (visible : List Rectangle) → c.state ≡ view.Live
    → l ≡ c.live → rects_of strips ≡ l.visible → visible ≡ l.visible → IsCanonical visible → HaveShown l strips
    → AreStripsOf (hooked h c) strips
strips_lent h c l strips visible live is rects value canonical shown =
    let P : State → Type 0 = λ s. AreStripsIn s (hooked h c).live strips in
    let Shown : LiveView → Type 0 = λ q. HaveShown q strips in
    let told = subst Shown is shown in
    let same : l.visible ≡ c.live.visible = ap (λ (q : LiveView). q.visible) is in
    subst P (sym live) (record {
      rects = rects ∙ same;
      canonical = subst IsCanonical (value ∙ same) canonical;
      shown = record { solid = told.solid; planes = told.planes; pens = told.pens };
    })

-- the strips of a slot and of the desktop have the screen's planes
pub slot_deep : (v : Stack) (cells : List CellView) (d : Desk) (k : ℕ) (c : CellView) (strips : List StripView) (depth : ℕ)
    → AreOfDesk v cells d → k < v.sizes.slots → c ≡ cell_at cells k → AreStripsOf c strips → depth ≡ v.sizes.depth
    → All (λ s. s.planes.depth ≡ depth) strips
slot_deep v cells d k c strips depth stands below is told deep =
    by_state c.state c.live strips (subst (λ (q : CellView). IsPartOf q.state q.live (slot_part d k)) (sym is) (stands.slots k below)) told
  where
    none : (strips : List StripView) → strips ≡ [] → All (λ s. s.planes.depth ≡ depth) strips
    none strips empty =
        let P : List StripView → Type 0 = λ ss. All (λ s. s.planes.depth ≡ depth) ss in
        subst P (sym empty) (All-nil (λ (s : StripView). s.planes.depth ≡ depth))

    by_state : (s : State) (c : LiveView) (strips : List StripView) → IsPartOf s c (slot_part d k) → AreStripsIn s c strips
        → All (λ s. s.planes.depth ≡ depth) strips
    by_state view.Unopened c strips part empty = none strips empty
    by_state view.Closed c strips part empty = none strips empty
    by_state view.Live c strips part told =
        let slot : IsSlot d k (layer.Live c.layer) = subst (IsSlot d k) part.slot (stands.sound.slots k) in
        λ n e inside. told.shown.planes n e inside ∙ (slot.1.planes ∙ (ap (λ (z : Sizes). z.depth) stands.sizes ∙ sym deep))

pub desktop_deep : (v : Stack) (strips : List StripView) (depth : ℕ) → IsDesktop v strips → depth ≡ v.sizes.depth
    → All (λ s. s.planes.depth ≡ depth) strips
desktop_deep v strips depth bare deep = λ n e inside. ap (λ (b : Bitmap). b.depth) (bare.pens n e inside) ∙ sym deep

-- a screen may be assembled
pub screen_may : (sizes : Sizes) → IsWithinLimits sizes → AreSizes sizes.width sizes.height sizes.depth
screen_may sizes limits = record {
  columns = (limits.some_columns, columns_most sizes limits);
  rows = (limits.some_rows, rows_most sizes limits);
  planes = (limits.some_planes, limits.planes);
}

-- strips laid on what was assembled of others
laid_before : (w h depth : ℕ) (strips rest : List StripView) (old new : Bitmap) → old ≡ assembled w h depth rest
    → new ≡ with_strips (screen w h) strips old → new ≡ assembled w h depth (strips ++ rest)
laid_before w h depth strips rest old new was is =
    is
    ∙ (ap (with_strips (screen w h) strips) (was ∙ sym (laid rest))
    ∙ (laying.twice (screen w h) strips rest (blank_planes (screen w h) depth) ∙ laid (strips ++ rest)))
  where
    laid : (ss : List StripView) → with_strips (screen w h) ss (blank_planes (screen w h) depth) ≡ assembled w h depth ss
    laid ss = laying.blank (screen w h) depth ss ∙ laying.whole w h depth ss

-- what is assembled has the size and the planes of the screen
pub extent : (n : ℕ) → n ≡ unsigned_abs (((pos n -ℤ pos 1) +ℤ pos 1) -ℤ pos 0)
extent n = omega (arith, ints)

pub laid_size : (v : Stack) (cells : List CellView) (planes : Bitmap) (window : Rectangle) → window ≡ screen v.sizes.width v.sizes.height
    → IsAssembled v cells planes → IsSizeOf window planes
laid_size v cells planes window is laid =
    let P : Rectangle → Type 0 = λ r. IsSizeOf r planes in
    let Q : Bitmap → Type 0 = λ b. IsSizeOf (screen v.sizes.width v.sizes.height) b in
    subst P (sym is) (subst Q (sym laid.whole) (record { columns = extent v.sizes.width; rows = extent v.sizes.height }))

pub laid_depth : (v : Stack) (cells : List CellView) (planes : Bitmap) → IsAssembled v cells planes → planes.depth ≡ v.sizes.depth
laid_depth v cells planes laid = ap (λ (b : Bitmap). b.depth) laid.whole

-- the desktop alone, before the last slot
pub laid_none : (v : Stack) (cells : List CellView) (n : ℕ) (desktop : List StripView) (planes : Bitmap) → length cells ≤ n
    → IsDesktop v desktop → planes ≡ assembled v.sizes.width v.sizes.height v.sizes.depth desktop → IsAssembled v (drop n cells) planes
laid_none v cells n desktop planes past bare is =
    subst (λ cs. IsAssembled v cs planes) (sym (drop_all n cells past)) (record {
      layers = [];
      desktop = desktop;
      lent = record { slots = record { many = refl; each = λ k below. absurd (omega (arith, below)) }; bare = bare };
      whole = is;
    })

for_cons : (c : CellView) (cells : List CellView) (strips : List StripView) (layers : List (List StripView)) → AreStripsOf c strips
    → ForEach AreStripsOf no_cell [] cells layers → ForEach AreStripsOf no_cell [] (c ∷ cells) (strips ∷ layers)
for_cons c cells strips layers told all = record { many = ap suc all.many; each = each }
  where
    each : (n : ℕ) → n < length (c ∷ cells) → AreStripsOf (get_or (c ∷ cells) n no_cell) (get_or (strips ∷ layers) n [])
    each zero below = told
    each (suc n) below = all.each n (omega (arith, below))

-- one slot more
pub laid_more : (v : Stack) (cells : List CellView) (k next : ℕ) (c : CellView) (strips : List StripView) (old new : Bitmap)
    (window : Rectangle) → k < length cells → next ≡ k + 1 → c ≡ get_or cells k c → AreStripsOf c strips
    → window ≡ screen v.sizes.width v.sizes.height → IsAssembled v (drop next cells) old → new ≡ with_strips window strips old
    → IsAssembled v (drop k cells) new
laid_more v cells k next c strips old new window inside is_next is_cell told is_screen so_far is =
    let list : drop k cells ≡ c ∷ drop next cells =
    drop_more cells k c inside ∙ (ap (λ q. q ∷ drop (k + 1) cells) (sym is_cell) ∙ ap (λ n. c ∷ drop n cells) (sym is_next)) in
    subst (λ cs. IsAssembled v cs new) (sym list) (record {
      layers = strips ∷ so_far.layers;
      desktop = so_far.desktop;
      lent = record { slots = for_cons c (drop next cells) strips so_far.layers told so_far.lent.slots; bare = so_far.lent.bare };
      whole = laid_before v.sizes.width v.sizes.height v.sizes.depth strips (all_strips so_far.layers so_far.desktop) old new so_far.whole
          (is ∙ ap (λ r. with_strips r strips old) is_screen);
    })
