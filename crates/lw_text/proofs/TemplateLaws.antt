-- Laws of painting a template.
use Rattle.std.proofs.Common.{◌≡◌, ℕ, ◌+◌, ◌-◌, ◌==◌, ◌<◌, Bool, true, ◌&&◌, List, ◌∙◌, sym, ap, arith}
use Rattle.std.proofs.lemmas.Bool.Decides.{nat_tests}
use Rattle.lw_planes.specs.Minterm.{minterm_bit}
use Rattle.lw_planes.proofs.RowLaws.{row_bit_lt}
use Rattle.lw_machine.specs.Layer.{Raster}
use Rattle.lw_machine.specs.Paint.{candidate_bit, has_inversvid}
use Rattle.lw_machine.specs.Shapes.{differ}
use Rattle.lw_machine.proofs.DrawingSound.{candidate_bit_lt}
use Rattle.lw_kernels.specs.Kernel.{place_in}
use Rattle.lw_layer.specs.View.{LiveView}
use Rattle.lw_draw.specs.Drawn.{drawn, GivesBits}
use Rattle.lw_draw.specs.Blocks.{in_block}
use Rattle.lw_draw.specs.Combined.{over_bit, combined_over}
use Rattle.lw_draw.specs.declared.blocks.Block.{Block}
use Rattle.lw_draw.specs.declared.overlay.Overlay.{Overlay}
use Rattle.lw_draw.proofs.PaintLaws.{layer_alike}
use Rattle.lw_text.specs.Templates.{stamped_bit, rows_have}

pub stamps_bits : (raster : Raster) (has : ℕ → ℕ → Bool) → GivesBits (stamped_bit raster has)
stamps_bits raster has p x y old small = candidate_bit_lt raster (differ (has_inversvid raster) (has x y)) p old small

-- the plane of a pixel that is on it
the_plane : (p k : ℕ) (inside : Bool) → (p == k && inside) ≡ true → p ≡ k
the_plane p k inside on = grind (arith, nat_tests)

-- A plane of a block that is painted with a template's rows by such a minterm is stamped with it.
pub plane_stamped : (v w : LiveView) (raster : Raster) (k m : ℕ) (s : Block) (bits : List ℕ) (o : Overlay) → ((b d : ℕ) → b < 2 → d < 2 → minterm_bit m b d ≡ candidate_bit raster (differ (has_inversvid raster) (b == 1)) k d) → w ≡ drawn (λ p i j. p == k && in_block s i j) (combined_over m bits o) v → w ≡ drawn (λ p i j. p == k && in_block s i j) (stamped_bit raster (rows_have bits o)) v
plane_stamped v w raster k m s bits o values is =
    layer_alike v w (λ p i j. p == k && in_block s i j) (combined_over m bits o) (stamped_bit raster (rows_have bits o)) is
    (λ p x y b _ _ _ on small.
    values (over_bit bits o x y) b (row_bit_lt bits (place_in o.step (y - o.row) (o.bit + (x - o.column)))) small ∙
    ap (λ q. candidate_bit raster (differ (has_inversvid raster) (over_bit bits o x y == 1)) q b) (sym (the_plane p k (in_block s x y) on)))
