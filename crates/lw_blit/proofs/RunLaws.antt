-- Laws of painting pixels plane by plane.
use Rattle.std.proofs.Common.{◌≡◌, ℕ, ◌+◌, ◌==◌, ◌<◌, ◌≤◌, Bool, true, false, ◌&&◌, arith}
use Rattle.std.specs.Int.{bit_at}
use Rattle.lw_planes.specs.Bitmap.{IsBitmap}
use Rattle.lw_planes.proofs.ChosenLaws.{no_plane, all_planes}
use Rattle.lw_layer.specs.View.{LiveView}
use Rattle.lw_draw.specs.Drawn.{drawn, GivesBits}
use Rattle.lw_draw.proofs.PaintLaws.{layer_nowhere, layer_same, layer_more, next_plane, left_plane}
use Rattle.lw_blit.specs.Blitting.{in_planes, planes_before}

-- no plane so far
pub no_planes : (v : LiveView) (mask : ℕ) (inside : ℕ → ℕ → Bool) (new : ℕ → ℕ → ℕ → ℕ → ℕ) → IsBitmap v.layer.bits → v ≡ drawn (planes_before mask 0 inside) new v
no_planes v mask inside new ok = layer_nowhere v (planes_before mask 0 inside) new ok (λ p i j. no_plane p (in_planes mask inside p i j))

-- one plane more
pub plane_painted : (v w u : LiveView) (mask k : ℕ) (inside : ℕ → ℕ → Bool) (new : ℕ → ℕ → ℕ → ℕ → ℕ) → GivesBits new → (bit_at mask k == 1) ≡ true → w ≡ drawn (planes_before mask k inside) new v → u ≡ drawn (λ p i j. p == k && inside i j) new w → u ≡ drawn (planes_before mask (k + 1) inside) new v
plane_painted v w u mask k inside new gives has was is =
    layer_more v w u (planes_before mask k inside) (λ p i j. p == k && inside i j) (planes_before mask (k + 1) inside) new gives
    (next_plane v (λ p. bit_at mask p == 1) k inside has) was is

pub plane_left : (v w : LiveView) (mask k : ℕ) (inside : ℕ → ℕ → Bool) (new : ℕ → ℕ → ℕ → ℕ → ℕ) → (bit_at mask k == 1) ≡ false → w ≡ drawn (planes_before mask k inside) new v → w ≡ drawn (planes_before mask (k + 1) inside) new v
plane_left v w mask k inside new has was =
    layer_same v w (planes_before mask k inside) (planes_before mask (k + 1) inside) new was (λ p i j _. left_plane (λ q. bit_at mask q == 1) k (inside i j) p has)

-- all planes
pub planes_done : (v w : LiveView) (mask k : ℕ) (inside : ℕ → ℕ → Bool) (new : ℕ → ℕ → ℕ → ℕ → ℕ) → v.layer.bits.depth ≤ k → w ≡ drawn (planes_before mask k inside) new v → w ≡ drawn (in_planes mask inside) new v
planes_done v w mask k inside new enough was =
    layer_same v w (planes_before mask k inside) (in_planes mask inside) new was
    (λ p i j deep. let below : p < k = omega (arith, deep, enough) in all_planes p k (in_planes mask inside p i j) below)
