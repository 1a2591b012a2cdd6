-- A plan with a pair of windows, for a worked case.
use Rattle.std.specs.Prelude.{true, false, [], ◌∷◌, pos, neg_ℤ, codes}
use Rattle.lw_calls.specs.declared.make.Kind.TheVariants.{Smart}
use Rattle.lw_calls.specs.declared.make.Place.TheVariants.{Front}
use Rattle.lw_calls.specs.declared.call.Call.TheVariants.{OpenWindow, InFrontOf, Fill}
use Rattle.lw_calls.specs.declared.group.Hold.TheVariants.{All as AllLayers}
use Rattle.lw_calls.specs.Plan.{Plan, no_assets}
use Rattle.lw_gzz.specs.Words.{plain_make}

-- One task opens a pair over all of a screen of 16 by 20 and then fills more than the inner window.
abbrev pub filled_pair : Plan
filled_pair = record {
  sizes = record { version = 2; width = 16; height = 20; depth = 1; slots = 2; tasks = 1; bitmaps = 0; hooks = 0 };
  slot_names = codes "g" ∷ codes "i" ∷ [];
  task_names = codes "a" ∷ [];
  bitmap_names = [];
  calls =
      (OpenWindow 0 (plain_make Smart Front (pos 0) (pos 0) (pos 16) (pos 20)) true false 0 []
      ∷ OpenWindow 1 (plain_make Smart Front (pos 4) (pos 11) (pos 8) (pos 7)) false false 0 []
      ∷ InFrontOf 1 0
      ∷ Fill 1 (record { min_x = neg_ℤ (pos 5); min_y = neg_ℤ (pos 5); max_x = pos 30; max_y = pos 30 })
      ∷ [])
      ∷ [];
  groups = (record { first = 0; last = 2; hold = AllLayers } ∷ []) ∷ [];
  pairs = record { outer = 0; inner = 1 } ∷ [];
  assets = no_assets;
}
