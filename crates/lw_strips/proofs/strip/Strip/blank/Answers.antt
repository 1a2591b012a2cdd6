use Rattle.std.proofs.Common.{refl}
use Rattle.lw_planes.proofs.BitmapLaws.{IsBitmap_bitmap}
use Rattle.std.proofs.lemmas.Nat.{pow_pos}
use Rattle.lw_region.specs.Rectangle.{width, height}
use Rattle.lw_strips.proofs.strip.Strip.blank.Goals as goal

pub invariant_of-result : goal.invariant_of-result
invariant_of-result c = (
  record {
    ordered = c.min_x.ensures.ordered;
    size = record { columns = refl; rows = refl };
    sound = record {
      bitmap = IsBitmap_bitmap (width c.args.rect) (height c.args.rect) c.args.depth (λ _ _. 0) (λ _ _ _ _. pow_pos c.args.depth);
      sizes = c.requires;
    };
    blank = λ _. refl;
  },
  refl,
)
