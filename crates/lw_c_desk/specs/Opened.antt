-- What opening a desk answers and leaves.
use Rattle.std.specs.Prelude.{◌≡◌, ◌↔◌, ℕ, ◌<◌, Bool, true, false, is_some, List, [], ℤ, Option, Some}
use Rattle.lw_planes.specs.Bitmap.{Bitmap}
use Rattle.lw_calls.specs.Assets.{Assets}
use Rattle.lw_calls.specs.declared.sizes.Sizes.{Sizes}
use Rattle.lw_calls.specs.Limits.{IsWithinLimits}
use Rattle.lw_machine.specs.Hook.{Hook}
use Rattle.lw_machine.specs.Desk.{empty_desk, shelf_of}
use Rattle.lw_program_desk.specs.Views.{DeskView, StandsFor}
use Rattle.lw_c_desk.specs.declared.opening.OpenWords.{OpenWords}
use Rattle.lw_c_desk.specs.declared.opening.Glyphs.{Glyphs}
use Rattle.lw_c_desk.specs.Answered.{done, no_memory, bad_sizes, is_open, bad_bitmap, bad_hook}

-- a desk of version 3 with one task, and without hooks and bitmaps
abbrev pub sizes_of : OpenWords → Sizes
sizes_of w = record {
  version = 3;
  width = w.width;
  height = w.height;
  depth = w.depth;
  slots = w.slots;
  tasks = 1;
  hooks = 0;
  bitmaps = 0;
}

abbrev pub assets_of : Glyphs → Assets
assets_of g = record { glyphs = g.rows; bitmaps = [] }

-- the same with so many hooks and bitmaps
abbrev pub sizes_with : OpenWords → ℕ → ℕ → Sizes
sizes_with w hooks bitmaps = record (sizes_of w) { hooks = hooks; bitmaps = bitmaps }

abbrev pub assets_with : Glyphs → List Bitmap → Assets
assets_with g bitmaps = record { glyphs = g.rows; bitmaps = bitmaps }

-- the handle has a desk with these sizes that stands for the machine's empty desk, and has changed nowhere
pub record IsNew (sizes : Sizes) (assets : Assets) (hooks : List Hook) (new : Option DeskView) : Type 0 where
  pub desk : DeskView
  pub held : new ≡ Some desk
  pub has_sizes : desk.sizes ≡ sizes
  pub stands : StandsFor desk (empty_desk sizes assets (shelf_of hooks))
  pub unchanged : desk.changes ≡ []

-- It answers that there is a desk exactly where the handle has one, and that the sizes are no desk's exactly where it has none
-- and the limits don't hold. Otherwise all is done unless memory runs out. The handle is as before where not all was done.
pub record IsOpened (sizes : Sizes) (assets : Assets) (hooks : List Hook) (old new : Option DeskView) (answer : ℤ) : Type 0 where
  pub there : answer ≡ is_open ↔ (is_some old ≡ true)
  pub bad : answer ≡ bad_sizes ↔ ((is_some old ≡ false) × (IsWithinLimits sizes → ⊥))
  pub answered : is_some old ≡ false → IsWithinLimits sizes → (answer ≡ no_memory → ⊥) → answer ≡ done
  pub made : answer ≡ done → IsNew sizes assets hooks new
  pub kept : (answer ≡ done → ⊥) → new ≡ old

-- a desk may have these sizes, and there are no more hooks than 32 bits count
abbrev pub MayOpen : Sizes → Type 0
MayOpen sizes = IsWithinLimits sizes × (sizes.hooks < 4294967296)

-- The same with bitmaps and hooks. Where the sizes are a desk's, it answers that a bitmap's numbers describe none exactly where
-- those of some bitmap do, and that a hook's do exactly where those of all bitmaps fit and those of some hook don't.
pub record IsOpenedWith (sizes : Sizes) (assets : Assets) (hooks : List Hook) (bitmaps_fit hooks_fit : Bool)
    (old new : Option DeskView) (answer : ℤ) : Type 0 where
  pub there : answer ≡ is_open ↔ (is_some old ≡ true)
  pub bad : answer ≡ bad_sizes ↔ ((is_some old ≡ false) × (MayOpen sizes → ⊥))
  pub no_bitmap : answer ≡ bad_bitmap ↔ ((is_some old ≡ false) × MayOpen sizes × (bitmaps_fit ≡ false))
  pub no_hook : answer ≡ bad_hook ↔ ((is_some old ≡ false) × MayOpen sizes × (bitmaps_fit ≡ true) × (hooks_fit ≡ false))
  pub answered : is_some old ≡ false → MayOpen sizes → bitmaps_fit ≡ true → hooks_fit ≡ true
      → (answer ≡ no_memory → ⊥) → answer ≡ done
  pub made : answer ≡ done → IsNew sizes assets hooks new
  pub kept : (answer ≡ done → ⊥) → new ≡ old
