-- Laws of layers whose clip region and update are set aside while the pixels that they keep are painted.
use Rattle.std.proofs.Common.{◌≡◌, ℕ, Bool, true, false, not, ◌&&◌, ◌||◌, List, Option, None, ◌∙◌, sym, ap}
use Rattle.std.proofs.Math.Bool.{and-true}
use Rattle.lw_region.specs.Pixels.{Pixel}
use Rattle.lw_planes.specs.Grid.{at}
use Rattle.lw_planes.specs.Bitmap.{Bitmap}
use Rattle.lw_machine.specs.Kept.{is_kept, in_clip, is_drawable}
use Rattle.lw_machine.specs.Paint.{with_pens}
use Rattle.lw_machine.specs.Step.{end_update}
use Rattle.lw_layer.specs.View.{LiveView, keeps, draws, with_layer}

-- without limits the drawable pixels are those that are kept
within_no_limits : (kept damaged updating : Bool) (clip : Option (List Pixel)) (x y : ℕ) → clip ≡ None → updating ≡ false → (kept && (in_clip clip x y && (not updating || damaged))) ≡ kept
within_no_limits kept damaged updating clip x y unclipped idle =
    ap (λ o. kept && (in_clip o x y && (not updating || damaged))) unclipped ∙
    (ap (λ u. kept && (true && (not u || damaged))) idle ∙ and-true kept)

pub all_drawable : (c : LiveView) (x y : ℕ) → c.layer.clip ≡ None → c.layer.updating ≡ false → draws c x y ≡ keeps c x y
unfolding draws keeps is_drawable
all_drawable c x y unclipped idle = within_no_limits (keeps c x y) (at false c.layer.damage x y) c.layer.updating c.layer.clip x y unclipped idle

-- The layer with new pens on pixels that its layer keeps; which ones and what pens may depend on its bits.
abbrev pub repenned : (Bitmap → ℕ → ℕ → Bool) → (Bitmap → ℕ → ℕ → ℕ) → LiveView → LiveView
repenned on pen v = with_layer (λ l. with_pens (λ x y. keeps v x y && on l.bits x y) (λ x y. pen l.bits x y) l) v

-- A layer that was painted while its update was lifted is painted, and updating again.
pub update_back : (v lifted painted back : LiveView) (on : Bitmap → ℕ → ℕ → Bool) (pen : Bitmap → ℕ → ℕ → ℕ) → v.layer.updating ≡ true → lifted ≡ with_layer (λ l. end_update false l) v → painted ≡ repenned on pen lifted → back ≡ with_layer (λ l. record l { updating = true }) painted → back ≡ repenned on pen v
unfolding keeps is_kept with_pens
update_back v lifted painted back on pen was first then_ last =
    last ∙
    (ap (λ c. with_layer (λ l. record l { updating = true }) c) then_ ∙
    (ap (λ q. with_layer (λ l. record l { updating = true }) (repenned on pen q)) first ∙
    ap (λ u. with_layer (λ l. record l { updating = u }) (repenned on pen v)) (sym was)))

-- And so is one whose clip region was taken away and is put back.
pub clip_back : (v unclipped painted back : LiveView) (on : Bitmap → ℕ → ℕ → Bool) (pen : Bitmap → ℕ → ℕ → ℕ) (clip : Option (List Pixel)) → clip ≡ v.layer.clip → unclipped ≡ with_layer (λ l. record l { clip = None }) v → painted ≡ repenned on pen unclipped → back ≡ with_layer (λ l. record l { clip = clip }) painted → back ≡ repenned on pen v
unfolding keeps is_kept with_pens
clip_back v unclipped painted back on pen clip was first then_ last =
    last ∙
    (ap (λ c. with_layer (λ l. record l { clip = clip }) c) then_ ∙
    (ap (λ q. with_layer (λ l. record l { clip = clip }) (repenned on pen q)) first ∙
    ap (λ o. with_layer (λ l. record l { clip = o }) (repenned on pen v)) was))
