-- The text of lines that stand one after another.
use Rattle.std.proofs.Common.{◌≡◌, ℕ, List, [], ◌∷◌, ◌++◌, append_assoc, append-nil, map, ◌∙◌, sym, refl, ap}
use Rattle.std.specs.List.{flat_map, range_with_len}
use Rattle.std.proofs.lemmas.Grind.{flat_map-append}
use Rattle.lw_planes.specs.Bitmap.{Bitmap, plane_row}
use Rattle.lw_calls.specs.Assets.{Assets}
use Rattle.lw_calls.specs.Written.{line_of, hex_byte}
use Rattle.lw_grammar.specs.Statements.{Statement, RowLine, Line, StatementLine}
use Rattle.lw_canonical.specs.Spelling.{spelled, written}
use Rattle.lw_text_output.proofs.Pieces.{pieces_same}
use Rattle.lw_print.specs.Behind.{text_of_lines, text_of}

-- The text of what stands one after another, each said so.
module _ {X : Type 0} (say : X → List ℕ) where
  abbrev text : List X → List ℕ
  text xs = flat_map (λ x. line_of (say x)) xs

  -- lines after lines
  pub text_append : (fs gs : List X) → text (fs ++ gs) ≡ text fs ++ text gs
  text_append fs gs = flat_map-append (λ x. line_of (say x)) fs gs

  -- some lines are written, and then others
  pub more_lines : (fs gs : List X) (start p q : List ℕ) → p ≡ start ++ text fs → q ≡ p ++ text gs → q ≡ start ++ text (fs ++ gs)
  more_lines fs gs start p q e f =
      f ∙ (ap (λ xs. xs ++ text gs) e ∙ (append_assoc start (text fs) (text gs) ∙ ap (λ xs. start ++ xs) (sym (text_append fs gs))))

  -- one line is written
  pub line_written : (f : X) (start p : List ℕ) → p ≡ start ++ line_of (say f) → p ≡ start ++ text (f ∷ [])
  line_written f start p e = e ∙ ap (λ xs. start ++ xs) (sym (append-nil (line_of (say f))))

  -- the lines that are still to be written, where some more have been written
  pub fewer_lines : (all these others : List X) (start was now : List ℕ) → was ++ text all ≡ start → now ≡ was ++ text these → all ≡ these ++ others → now ++ text others ≡ start
  fewer_lines all these others start was now before step split =
      ap (λ xs. xs ++ text others) step ∙
      (append_assoc was (text these) (text others) ∙
      (ap (λ xs. was ++ xs) (sym (text_append these others)) ∙
      (ap (λ fs. was ++ text fs) (sym split) ∙ before)))

  -- the text of lines that are given piece by piece
  pub text_pieces : {Y : Type 0} (f : Y → List X) (ys : List Y) → text (flat_map f ys) ≡ flat_map (λ y. text (f y)) ys
  text_pieces f [] = refl
  text_pieces f (y ∷ ys) = text_append (f y) (flat_map f ys) ∙ ap (λ zs. text (f y) ++ zs) (text_pieces f ys)

  -- the text of lines that were written piece by piece
  pub pieces_text : (f : ℕ → List X) (n m : ℕ) (start p : List ℕ) → n ≡ m → p ≡ start ++ flat_map (λ i. text (f i)) (range_with_len 0 n) → p ≡ start ++ text (flat_map f (range_with_len 0 m))
  pieces_text f n m start p end e =
      e ∙ (ap (λ k. start ++ flat_map (λ i. text (f i)) (range_with_len 0 k)) end ∙ ap (λ xs. start ++ xs) (sym (text_pieces f (range_with_len 0 m))))

-- the text of lines that are given one by one
pub text_each : {X : Type 0} (f : X → Statement) (xs : List X) → text_of_lines (map f xs) ≡ flat_map (λ x. line_of (spelled (f x))) xs
text_each f [] = refl
text_each f (x ∷ xs) = ap (λ ys. line_of (spelled (f x)) ++ ys) (text_each f xs)

-- the text of a bitmap's rows plane by plane
pub planes_text : (b : Bitmap) → text_of_lines (flat_map (λ k. map (λ y. RowLine (plane_row b k y)) (range_with_len 0 b.height)) (range_with_len 0 b.depth)) ≡ flat_map (λ k. flat_map (λ y. line_of (flat_map hex_byte (plane_row b k y))) (range_with_len 0 b.height)) (range_with_len 0 b.depth)
planes_text b =
    text_pieces spelled (λ k. map (λ y. RowLine (plane_row b k y)) (range_with_len 0 b.height)) (range_with_len 0 b.depth) ∙
    pieces_same b.depth (λ k. text_of_lines (map (λ y. RowLine (plane_row b k y)) (range_with_len 0 b.height))) (λ k. flat_map (λ y. line_of (flat_map hex_byte (plane_row b k y))) (range_with_len 0 b.height))
    (λ k below. text_each (λ y. RowLine (plane_row b k y)) (range_with_len 0 b.height))

-- glyphs and bitmaps are written as their type shows them
pub viewed_written : (gs hs : Assets → List Statement) (s t : Assets) (o p q : List ℕ) → s ≡ t → p ≡ o ++ text_of_lines (gs s) → q ≡ p ++ text_of_lines (hs s) → q ≡ o ++ text_of_lines (gs t ++ hs t)
viewed_written gs hs s t o p q e f h = rw (← e) (more_lines spelled (gs s) (hs s) o p q f h)

-- the text of statements as lines
text_stated : (fs : List Statement) → text_of (map (λ f. StatementLine f) fs) ≡ text_of_lines fs
text_stated [] = refl
text_stated (f ∷ fs) = ap (λ xs. line_of (spelled f) ++ xs) (text_stated fs)

-- statements are written, then one, then others in two parts, and then lines
pub parts_written : (vs : List Statement) (f : Statement) (gs hs : List Statement) (ks : List Line) (o n p q r : List ℕ) → o ≡ [] → n ≡ o ++ text_of_lines vs → p ≡ n ++ line_of (spelled f) → q ≡ p ++ text_of_lines (gs ++ hs) → r ≡ q ++ text_of ks → r ≡ text_of (map (λ f. StatementLine f) (vs ++ f ∷ gs ++ hs) ++ ks)
parts_written vs f gs hs ks o n p q r none first d e g =
    let same : (vs ++ f ∷ []) ++ (gs ++ hs) ≡ vs ++ f ∷ gs ++ hs = simp append_assoc in
    let one = more_lines spelled vs (f ∷ []) [] n p (first ∙ ap (λ xs. xs ++ text_of_lines vs) none) (line_written spelled f n p d) in
    let above : q ≡ text_of_lines (vs ++ f ∷ gs ++ hs) = more_lines spelled (vs ++ f ∷ []) (gs ++ hs) [] p q one e ∙ ap (λ fs. text_of_lines fs) same in
    g ∙ (ap (λ xs. xs ++ text_of ks) (above ∙ sym (text_stated (vs ++ f ∷ gs ++ hs))) ∙ sym (text_append written (map (λ f. StatementLine f) (vs ++ f ∷ gs ++ hs)) ks))
