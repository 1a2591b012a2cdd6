use Rattle.std.proofs.Common.{◌&&◌, ◌||◌, not, [], ◌∷◌, ap, ◌∙◌}
use Rattle.lw_region.specs.Rectangle.{has_pixel}
use Rattle.lw_region.specs.Bands.{covers}
use Rattle.lw_region.proofs.Canonical.{covers_nil}
use Rattle.lw_example.proofs.left_visible.Goals as goal

pub returns : goal.returns
returns c = λ x y.
    let law = c.combined_lists_law.ensures in
    let window = c.args.window.now in
    let front = c.args.front.now in
    let all = law.unions c.new-seen.result (window ∷ []) c.or_rect.new.self c.in_ok-or_rect.ensures.list in
    let left = law.differences c.or_rect.new.self (front ∷ []) c.clear_rect.new.self c.in_ok-clear_rect.ensures.list in
    let some = ap (λ l. covers l x y || covers (window ∷ []) x y) c.new-seen.ensures
    ∙ (ap (λ w. w || covers (window ∷ []) x y) (covers_nil x y) ∙ law.single window x y) in
    left.pixels x y ∙ (ap (λ w. w && not (covers (front ∷ []) x y)) (all.pixels x y ∙ some) ∙ ap (λ w. has_pixel window x y && not w) (law.single front x y))
