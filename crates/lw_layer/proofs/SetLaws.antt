-- A draft stays one where its clip region or its raster state is replaced.
use Rattle.std.proofs.Common.{◌≡◌, ◌<◌, true, ℤ, List, Option}
use Rattle.lw_region.specs.Rectangle.{Rectangle}
use Rattle.lw_machine.specs.Kept.{is_kept, holds_at}
use Rattle.lw_layer.specs.View.{keeps}
use Rattle.lw_region.specs.Bands.{covers}
use Rattle.lw_damage.specs.Damaged.{Damaged}
use Rattle.lw_layer.specs.Pieces.{inner_in}
use Rattle.lw_layer.specs.Drafts.{IsLiveDraft, live_view}
use Rattle.lw_layer.specs.declared.raster.Raster.{Raster}
use Rattle.lw_layer.specs.declared.draft.LiveDraft.{LiveDraft}

pub clip_replaced : (d : LiveDraft) (clip : Option (List Rectangle)) → IsLiveDraft d → IsLiveDraft (record d { clip = clip })
unfolding keeps is_kept
clip_replaced d clip ok = record {
  place = ok.place;
  mode = ok.mode;
  buffers = ok.buffers;
  damage = ok.damage;
  frame = ok.frame;
}

pub raster_replaced : (d : LiveDraft) (raster : Raster) → raster.mode < 8 → IsLiveDraft d → IsLiveDraft (record d { raster = raster })
unfolding keeps is_kept
raster_replaced d raster mode ok = record {
  place = ok.place;
  mode = mode;
  buffers = ok.buffers;
  damage = ok.damage;
  frame = ok.frame;
}

pub damage_replaced : (d : LiveDraft) (damage : Damaged) → damage.inner ≡ inner_in (live_view d) → ((x y : ℤ) → covers damage.rects x y ≡ true → holds_at (λ i j. keeps (live_view d) i j) x y ≡ true) → IsLiveDraft d → IsLiveDraft (record d { damage = damage })
unfolding keeps is_kept
damage_replaced d damage inner kept ok = record {
  place = ok.place;
  mode = ok.mode;
  buffers = ok.buffers;
  damage = record { inner = inner; kept = kept };
  frame = ok.frame;
}
