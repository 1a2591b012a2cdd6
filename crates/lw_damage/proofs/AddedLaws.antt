-- What is added to a damage: the pixels of a region that are in the inner rectangle.
use Rattle.std.proofs.Common.{◌≡◌, Bool, true, false, ◌&&◌, ◌||◌, ◌⊎◌, inl, inr, List, [], ◌∷◌, ℤ, Option, Some, ap, sym, ◌∙◌}
use Rattle.std.proofs.lemmas.Bool.{or_cases, and_parts}
use Rattle.lw_region.specs.Rectangle.{Rectangle}
use Rattle.lw_region.specs.Pixels.{pixels_of, union, intersection}
use Rattle.lw_region.specs.Bands.{bands, covers}
use Rattle.lw_region.specs.Regions.{rectangle_set}
use Rattle.lw_region.proofs.Canonical.{covers_nil}
use Rattle.lw_region.proofs.SetOps.{combined_lists}
use Rattle.lw_damage.specs.Damaged.{Damaged, IsDamageWith, may_lie, with_more}

-- the damage with the pixels of a region that are in the inner rectangle
pub record IsAdded (inner : Option Rectangle) (rects more new : List Rectangle) : Type 0 where
  pub pixels : (x y : ℤ) → covers new x y ≡ (covers rects x y || (covers more x y && may_lie inner x y))
  pub list : new ≡ with_more inner rects more

pub added : (r : Rectangle) (rects more inside new : List Rectangle) → inside ≡ bands (intersection (pixels_of more) (rectangle_set r))
    → new ≡ bands (union (pixels_of rects) (pixels_of inside)) → IsAdded (Some r) rects more new
added r rects more inside new e f = record {
  pixels = λ x y. (combined_lists.unions rects inside new f).pixels x y
      ∙ ap (λ w. covers rects x y || w) ((combined_lists.intersections more (r ∷ []) inside e).pixels x y ∙ ap (λ w. covers more x y && w) (combined_lists.single r x y));
  list = f ∙ ap (λ s. bands (union (pixels_of rects) s)) (combined_lists.intersections more (r ∷ []) inside e).set;
}

-- what is added lies where damage may lie
pub added_inside : (inner : Option Rectangle) (rects more new : List Rectangle) → IsAdded inner rects more new → ((x y : ℤ) → covers rects x y ≡ true → may_lie inner x y ≡ true)
    → (x y : ℤ) → covers new x y ≡ true → may_lie inner x y ≡ true
added_inside inner rects more new is inside x y h =
    by_case (or_cases (covers rects x y) (covers more x y && may_lie inner x y) (sym (is.pixels x y) ∙ h))
  where
    by_case : (covers rects x y ≡ true) ⊎ ((covers more x y && may_lie inner x y) ≡ true) → may_lie inner x y ≡ true
    by_case (inl e) = inside x y e
    by_case (inr e) = (and_parts (covers more x y) (may_lie inner x y) e).1

-- damage to which rectangles were added, where there was none
pub added_alone : (inner : Option Rectangle) (due : List Rectangle) (old new : Damaged)
    → old ≡ record { inner = inner; rects = []; updating = false }
    → ((x y : ℤ) → covers new.rects x y ≡ (covers old.rects x y || (covers due x y && may_lie old.inner x y)))
    → new ≡ record old { rects = with_more old.inner old.rects due } → IsDamageWith inner due false new
added_alone inner due old new is pixels set = record {
  inner = ap (λ (d : Damaged). d.inner) set ∙ ap (λ (d : Damaged). d.inner) is;
  pixels = λ x y. pixels x y
      ∙ (ap (λ (d : Damaged). covers d.rects x y || (covers due x y && may_lie d.inner x y)) is
      ∙ ap (λ w. w || (covers due x y && may_lie inner x y)) (covers_nil x y));
  updating = ap (λ (d : Damaged). d.updating) set ∙ ap (λ (d : Damaged). d.updating) is;
}

-- the same where an update was begun
pub begun_with : (inner : Option Rectangle) (due : List Rectangle) (on : Bool) (d begun : Damaged) → on ≡ true
    → begun ≡ record d { updating = true } → IsDamageWith inner due false d
    → IsDamageWith inner due on begun
begun_with inner due on d begun asked changed is = record {
  inner = ap (λ (e : Damaged). e.inner) changed ∙ is.inner;
  pixels = λ x y. ap (λ (e : Damaged). covers e.rects x y) changed ∙ is.pixels x y;
  updating = ap (λ (e : Damaged). e.updating) changed ∙ sym asked;
}
