-- What a ScrollRaster hurts, in words of its own.
use Rattle.std.proofs.Common.{◌≡◌, ℕ, ◌==◌, Bool, true, false, not, ◌&&◌, ◌||◌, refl, ap}
use Rattle.std.specs.Prelude.{if◌then◌else◌, ℤ, pos, negsuc, ◌+ℤ◌, unsigned_abs}
use Rattle.lw_machine.specs.Kept.{is_visible, is_kept, holds_at}
use Rattle.lw_machine.specs.Blits.{in_scroll_area, in_rectangle, brought_if, brought_mark}
use Rattle.lw_machine.specs.Paint.{is_drawn}
use Rattle.lw_history.specs.Laws.{ScrollsHurtWhatTheyBring}

-- what is brought marks a pixel, by whether it comes from the rectangle and was kept
marked : (mark : ℕ → ℕ → Bool) (x y u v : ℕ) (area kept : Bool)
    → brought_mark mark x y (brought_if area kept u v) ≡ (if area then not kept || mark u v else mark x y)
marked mark x y u v true true = refl
marked mark x y u v true false = refl
marked mark x y u v false kept = refl

-- the same at signed coordinates
brought : (mark area kept : ℕ → ℕ → Bool) (x y : ℕ) (scrolled : Bool) (z w : ℤ)
    → (if scrolled then brought_mark mark x y
    (brought_if (holds_at area z w) (holds_at kept z w) (unsigned_abs z) (unsigned_abs w)) else mark x y)
    ≡ (if scrolled && holds_at area z w then holds_at (λ u v. not (kept u v) || mark u v) z w else mark x y)
brought mark area kept x y false z w = refl
brought mark area kept x y true (pos u) (pos v) = marked mark x y u v (area u v) (kept u v)
brought mark area kept x y true (pos u) (negsuc v) = refl
brought mark area kept x y true (negsuc u) w = refl

pub scrolls_hurt : ScrollsHurtWhatTheyBring
scrolls_hurt d e s slot l dx dy rect hurt x y =
    ap (λ b. if slot == s then b else hurt x y)
    (brought hurt (in_scroll_area rect l) (is_kept (is_visible d s l) l) x y
    (is_drawn (is_visible d s l) (in_rectangle rect) l x y) (pos x +ℤ dx) (pos y +ℤ dy))
