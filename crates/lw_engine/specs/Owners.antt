-- The strips of which the screen is made. Their owners are the slots by their numbers, and the desktop by the number of slots.
use Rattle.std.specs.Prelude.{◌≡◌, ℕ, ◌<◌, ◌≤◌, Bool, not, ◌&&◌, if◌then◌else◌, List, [], ◌∷◌, ◌++◌, length, count_by, ℤ, None}
use Rattle.std.specs.List.{slice_index_or}
use Rattle.lw_region.specs.Rectangle.{has_pixel}
use Rattle.lw_region.specs.Bands.{covers}
use Rattle.lw_region.specs.Banded.{IsCanonical}
use Rattle.lw_planes.specs.Bitmap.{Bitmap}
use Rattle.lw_strips.specs.Strips.{StripView, rects_of}
use Rattle.lw_strips.specs.Laying.{assembled}
use Rattle.lw_cliprects.specs.Parts.{hidden_of, AreDivided}
use Rattle.lw_calls.specs.Assets.{Assets}
use Rattle.lw_calls.specs.declared.make.Kind.{Kind}
use Rattle.lw_calls.specs.declared.make.Kind.TheVariants.{Simple, Smart, SuperBitmap}
use Rattle.lw_calls.specs.declared.sizes.Sizes.{Sizes}
use Rattle.lw_machine.specs.Desk.{Desk}
use Rattle.lw_machine.specs.Screen.{screen_bounds, top, is_shown, screen}
use Rattle.lw_layer.specs.View.{State, LiveView, CellView, with_layer}
use Rattle.lw_layer.specs.View as view
use Rattle.lw_layer.specs.Copied.{HaveShown}
use Rattle.lw_layer.specs.declared.draft.LiveDraft.{LiveDraft}
use Rattle.lw_layer.specs.Drafts.{IsLiveDraft, IsRest, AreBuffers, live_view, buffers_of}
use Rattle.lw_layer.specs.Pieces.{layout_of, buffered, whole_of}
use Rattle.lw_stack.specs.Stack.{Stack}
use Rattle.lw_stack.specs.Desktop.{IsDesktop}
use Rattle.lw_arrange.specs.Pieces.{is_owner}
use Rattle.lw_engine.specs.Desks.{no_cell, cell_at}
use Rattle.lw_engine.specs.Arranging.{ForEach}
use Rattle.lw_engine.specs.Layers.{InfoView, AreLayers}

-- The strips of a live layer: one for each visible rectangle, which are a canonical list, in their order, with the pens that the
-- layer shows.
pub record AreStripsOfLayer (c : LiveView) (strips : List StripView) : Type 0 where
  pub rects : rects_of strips ≡ c.visible
  pub canonical : IsCanonical c.visible
  pub shown : HaveShown c strips

-- the strips of a slot, by what it holds; one that isn't live has none
abbrev pub AreStripsIn : State → LiveView → List StripView → Type 0
AreStripsIn view.Unopened c strips = strips ≡ []
AreStripsIn view.Live c strips = AreStripsOfLayer c strips
AreStripsIn view.Closed c strips = strips ≡ []

abbrev pub AreStripsOf : CellView → List StripView → Type 0
AreStripsOf c strips = AreStripsIn c.state c.live strips

-- The strips of all owners: by slot, and the desktop's.
pub record AreLent (v : Stack) (cells : List CellView) (layers : List (List StripView)) (desktop : List StripView) : Type 0 where
  pub slots : ForEach AreStripsOf no_cell [] cells layers
  pub bare : IsDesktop v desktop

-- all of them in one list, those of the slots in rising number before the desktop's
abbrev pub all_strips : List (List StripView) → List StripView → List StripView
all_strips [] desktop = desktop
all_strips (strips ∷ layers) desktop = strips ++ all_strips layers desktop

-- how many of the strips have the place at column x and row y of the screen
abbrev pub strips_at : List StripView → ℤ → ℤ → ℕ
strips_at strips x y = count_by (λ s. has_pixel s.rect x y) strips

-- The bitmap is assembled of the strips of all owners, and of nothing else.
pub record IsAssembled (v : Stack) (cells : List CellView) (planes : Bitmap) : Type 0 where
  pub layers : List (List StripView)
  pub desktop : List StripView
  pub lent : AreLent v cells layers desktop
  pub whole : planes ≡ assembled v.sizes.width v.sizes.height v.sizes.depth (all_strips layers desktop)

-- who has a place of the screen: the layer that is on top there, or the desktop where none is
abbrev pub has_place : Desk → ℕ → ℤ → ℤ → Bool
has_place d k x y = is_owner d.sizes.slots (has_pixel (screen_bounds d.sizes) x y) (top d x y) k

-- The rectangles of a layer that have a buffer, in the order in which buffers are lent by number: the visible ones; and of the
-- hidden ones, by the layer's kind, none, each one, or none but in their place all of the layer's own bitmap.
abbrev pub HaveBuffers : Kind → LiveView → Type 0
HaveBuffers Simple c = buffered (layout_of c) ≡ c.visible
HaveBuffers Smart c = buffered (layout_of c) ≡ c.visible ++ hidden_of c.bounds c.visible
HaveBuffers SuperBitmap c = buffered (layout_of c) ≡ c.visible ++ (whole_of (layout_of c) ∷ [])

-- the layer without its hook, which lies beside its cell
abbrev pub without_hook : LiveView → LiveView
without_hook c = with_layer (λ l. record l { hook = None }) c

-- A draft that is the layer, such as a cell hands back, has one strip for each visible rectangle, in their order; and hidden
-- buffers by the layer's kind: none, exactly one for each hidden rectangle, or its one bitmap. Each buffer has its rectangle's
-- size and the layer's planes.
pub record IsMadeOf (c : LiveView) (d : LiveDraft) : Type 0 where
  pub strips : rects_of d.strips.items ≡ c.visible
  pub hidden : IsRest c.layer.kind (length (hidden_of c.bounds c.visible)) (length d.covered.items) d.superbits
  pub sizes : AreBuffers c.layer.bits.depth (buffered (layout_of c)) (buffers_of d) c.bounds

-- A live layer in slot s is cut up: no two of its rectangles have a place in common, and together they have its bounds; the
-- visible ones have the places where it is on top, and the hidden ones all others; which of them have a buffer goes by its kind.
pub record IsCutUp (d : Desk) (s : ℕ) (c : LiveView) : Type 0 where
  pub divided : AreDivided c.bounds c.visible (hidden_of c.bounds c.visible)
  pub visible : (x y : ℤ) → covers c.visible x y ≡ is_shown d s x y
  pub hidden : (x y : ℤ) → covers (hidden_of c.bounds c.visible) x y ≡ (has_pixel c.bounds x y && not (is_shown d s x y))
  pub buffers : HaveBuffers c.layer.kind c
  pub made : (draft : LiveDraft) → IsLiveDraft draft → live_view draft ≡ without_hook c → IsMadeOf c draft

-- What the strips of all owners are: each place of the screen is in one of them, and no other place in any; it is one of the
-- layer that is on top there, or of the desktop where none is; and what the screen shows is assembled of them. All live layers
-- are cut up.
pub record AreWhole (d : Desk) (cells : List CellView) (layers : List (List StripView)) (desktop : List StripView) : Type 0 where
  pub once : (x y : ℤ) → strips_at (all_strips layers desktop) x y ≡ (if has_pixel (screen_bounds d.sizes) x y then 1 else 0)
  pub whose : (k : ℕ) (x y : ℤ) → k ≤ d.sizes.slots
      → strips_at (slice_index_or layers k desktop) x y ≡ (if has_place d k x y then 1 else 0)
  pub planes : screen d ≡ assembled d.sizes.width d.sizes.height d.sizes.depth (all_strips layers desktop)
  pub cut : (s : ℕ) → s < d.sizes.slots → (cell_at cells s).state ≡ view.Live → IsCutUp d s (cell_at cells s).live

-- So it is where LayerInfo and the slots stand for a desk: before the first call, after each call and after each that ran out of
-- memory, and once the desk is closed.
abbrev pub StripsMakeTheScreen : Type 0
StripsMakeTheScreen =
    (sizes : Sizes) (assets : Assets) (i : InfoView) (cells : List CellView) (d : Desk) (layers : List (List StripView))
    (desktop : List StripView) → AreLayers sizes assets i cells d → AreLent i.stack cells layers desktop
    → AreWhole d cells layers desktop
