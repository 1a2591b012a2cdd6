-- What an owner gives up and gets, piece by piece.
use Rattle.std.proofs.Common.{◌≡◌, ℕ, ◌+◌, ◌<◌, ◌≤◌, ◌==◌, Bool, true, false, cond, List, [], ◌∷◌, ◌++◌, map, take, length, get_or, ◌≤ℤ◌, pos, ◌-ℤ◌, None, refl, sym, ap, ◌∙◌, arith}
use Rattle.std.specs.List.{filter}
use Rattle.std.proofs.lemmas.Int.{ints}
use Rattle.std.proofs.lemmas.Nat.{pow_pos}
use Rattle.std.proofs.lemmas.List.{map-append}
use Rattle.std.proofs.lemmas.List.Elements.{filter_more}
use Rattle.lw_region.specs.Rectangle.{Rectangle, IsOrdered, width, height}
use Rattle.lw_planes.specs.Sizes.{AreSizes}
use Rattle.lw_planes.proofs.BitmapLaws.{IsBitmap_bitmap}
use Rattle.lw_calls.specs.declared.sizes.Sizes.{Sizes}
use Rattle.lw_calls.specs.Limits.{IsWithinLimits}
use Rattle.lw_strips.specs.Strips.{StripView, strip_of}
use Rattle.lw_strips.specs.Laying.{screen, LiesIn}
use Rattle.lw_strips.specs.Exchange.{lost_rects, gained_rects}
use Rattle.lw_strips.specs.declared.piece.Piece.{Piece}
use Rattle.lw_strips.proofs.LayingLaws.{part_sizes}
use Rattle.lw_stack.proofs.DesktopLaws.{screen_may}

-- a rectangle of the screen may be a strip
screen_ordered : (n : ℕ) → 1 ≤ n → pos 0 ≤ℤ (pos n -ℤ pos 1)
screen_ordered n some = omega (arith, ints)

pub piece_sizes : (sizes : Sizes) (r : Rectangle) → IsWithinLimits sizes → IsOrdered r → LiesIn r (screen sizes.width sizes.height)
    → AreSizes (width r) (height r) sizes.depth
piece_sizes sizes r limits ordered inside =
    let whole : Rectangle = screen sizes.width sizes.height in
    part_sizes (strip_of whole sizes.depth None) r sizes.depth
    (record {
      ordered = record { columns = screen_ordered sizes.width limits.some_columns; rows = screen_ordered sizes.height limits.some_rows };
      size = record { columns = refl; rows = refl };
      sound = record {
        bitmap = IsBitmap_bitmap (width whole) (height whole) sizes.depth (λ _ _. 0) (λ _ _ _ _. pow_pos sizes.depth);
        sizes = screen_may sizes whole refl limits;
      };
      blank = λ _. refl;
    }) ordered inside refl

-- one piece more
rect_if : (t : Bool) (p : Piece) → map (λ q. q.rect) (cond t (p ∷ []) []) ≡ cond t (p.rect ∷ []) []
rect_if true p = refl
rect_if false p = refl

rects_more : (test : Piece → Bool) (pieces : List Piece) (k : ℕ) (p : Piece) → k < length pieces → p ≡ get_or pieces k p
    → map (λ q. q.rect) (filter test (take (k + 1) pieces)) ≡ map (λ q. q.rect) (filter test (take k pieces)) ++ cond (test p) (p.rect ∷ []) []
rects_more test pieces k p inside is =
    ap (map (λ q. q.rect)) (filter_more test pieces k p inside ∙ ap (λ (q : Piece). filter test (take k pieces) ++ cond (test q) (q ∷ []) []) (sym is))
    ∙ (map-append (λ q. q.rect) (filter test (take k pieces)) (cond (test p) (p ∷ []) [])
    ∙ ap (λ l. map (λ q. q.rect) (filter test (take k pieces)) ++ l) (rect_if (test p) p))

pub gained_more : (owner : ℕ) (pieces : List Piece) (k : ℕ) (p : Piece) (old new : List Rectangle) → k < length pieces → p ≡ get_or pieces k p
    → old ≡ gained_rects owner (take k pieces) → new ≡ old ++ cond (p.to == owner) (p.rect ∷ []) []
    → new ≡ gained_rects owner (take (k + 1) pieces)
gained_more owner pieces k p old new inside is so_far step =
    step ∙ (ap (λ l. l ++ cond (p.to == owner) (p.rect ∷ []) []) so_far ∙ sym (rects_more (λ q. q.to == owner) pieces k p inside is))

blank_if : (depth : ℕ) (t : Bool) (r : Rectangle) → map (λ q. strip_of q depth None) (cond t (r ∷ []) []) ≡ cond t (strip_of r depth None ∷ []) []
blank_if depth true r = refl
blank_if depth false r = refl

pub lost_more : (owner depth : ℕ) (pieces : List Piece) (k : ℕ) (p : Piece) (old new : List StripView) → k < length pieces → p ≡ get_or pieces k p
    → old ≡ map (λ r. strip_of r depth None) (lost_rects owner (take k pieces))
    → new ≡ old ++ cond (p.from == owner) (strip_of p.rect depth None ∷ []) []
    → new ≡ map (λ r. strip_of r depth None) (lost_rects owner (take (k + 1) pieces))
lost_more owner depth pieces k p old new inside is so_far step =
    let blank : Rectangle → StripView = λ r. strip_of r depth None in
    let before = lost_rects owner (take k pieces) in
    step
    ∙ (ap (λ l. l ++ cond (p.from == owner) (blank p.rect ∷ []) []) so_far
    ∙ (ap (λ l. map blank before ++ l) (sym (blank_if depth (p.from == owner) p.rect))
    ∙ (sym (map-append blank before (cond (p.from == owner) (p.rect ∷ []) []))
    ∙ ap (map blank) (sym (rects_more (λ q. q.from == owner) pieces k p inside is)))))
