-- What a register has after a region was put into it.
use Rattle.std.proofs.Common.{◌≡◌, ◌≢◌, ℕ, ◌<◌, Bool, true, false, not, if◌then◌else◌, nat_le, List, [], length, get_or, set, None, ◌∙◌, sym, refl, ap, ⊎_elim}
use Rattle.std.proofs.lemmas.Bool.{cases_eq, eq-eqb, ne_eqb}
use Rattle.std.proofs.lemmas.List.{get_or-set_same, get_or-set_other}
use Rattle.lw_region.specs.Rectangle.{Rectangle}
use Rattle.lw_region.specs.Order.{IsInOrder}
use Rattle.lw_region.specs.Pixels.{Pixel, precedes, pixels_of}
use Rattle.lw_region.specs.Bands.{bands}
use Rattle.lw_region.proofs.Reading.{ordered_pixels, ordered_union, ordered_intersection, ordered_difference, ordered_symmetric}
use Rattle.lw_region.proofs.SetOps.{bands_of_nil}
use Rattle.lw_calls.specs.declared.operation.RectOp.{RectOp}
use Rattle.lw_calls.specs.declared.operation.RectOp.TheVariants.{Or as OrRect, And as AndRect, Xor as XorRect, Clear as ClearRect}
use Rattle.lw_calls.specs.declared.operation.PairOp.{PairOp}
use Rattle.lw_calls.specs.declared.operation.PairOp.TheVariants.{Or as OrPair, And as AndPair, Xor as XorPair}
use Rattle.lw_calls.specs.declared.reply.Reply.{Reply}
use Rattle.lw_calls.specs.declared.reply.Reply.TheVariants.{Done, TooManyRects}
use Rattle.lw_machine.specs.Desk.{with_value}
use Rattle.lw_machine.specs.Registers.{rect_result, pair_result, has_too_many, rect_limit}
use Rattle.lw_machine.specs.Step.{refuse, reply_or}
use Rattle.lw_layer_calls.specs.Registers.{with_set, set_reply, is_short}

-- a function with a value at n, and a list with a value at n, that agree elsewhere
pub value_after_set : {A B : Type 0} (g : B → A) (n k : ℕ) (v : A) (f : ℕ → A) (xs : List B) (x d : B) → n < length xs → v ≡ g x → f k ≡ g (get_or xs k d) → with_value n v f k ≡ g (get_or (set xs n x) k d)
value_after_set g n k v f xs x d low here there =
    ⊎_elim
    (λ (same : k ≡ n).
    ap (λ t. if t then v else f k) (eq-eqb k n same) ∙
    (here ∙ ap g (sym (get_or-set_same xs n x d low) ∙ ap (λ j. get_or (set xs n x) j d) (sym same))))
    (λ (other : k ≢ n).
    ap (λ t. if t then v else f k) (ne_eqb k n other) ∙ (there ∙ ap g (sym (get_or-set_other xs n k x d other))))
    (cases_eq k n)

-- a choice by a test, and by its opposite
choice_not : {A : Type 0} (t : Bool) (a b : A) → (if t then a else b) ≡ (if not t then b else a)
choice_not true a b = refl
choice_not false a b = refl

-- what is answered where the canonical list of a set is put into a register
pub put_reply : (made : List Rectangle) (s : List Pixel) (r : Reply) → made ≡ bands s → r ≡ (if is_short made then Done else TooManyRects) → r ≡ set_reply s
unfolding has_too_many
put_reply made s r e is =
    is ∙ (ap (λ m. if is_short m then Done else TooManyRects) e ∙ choice_not (is_short (bands s)) Done TooManyRects)

-- what the registers have then
pub put_set : (made : List Rectangle) (s : List Pixel) (old new : List (List Rectangle)) (reg : ℕ) → made ≡ bands s → new ≡ (if is_short made then set old reg made else old) → new ≡ with_set old reg s
unfolding has_too_many
put_set made s old new reg e is =
    is ∙ (ap (λ m. if is_short m then set old reg m else old) e ∙ choice_not (is_short (bands s)) (set old reg (bands s)) old)

-- what is joined to a register is a set in reading order
pub ordered_rect_result : (op : RectOp) (rects : List Rectangle) (r : Rectangle) → IsInOrder precedes (rect_result op (pixels_of rects) r)
ordered_rect_result OrRect rects r = ordered_union _ _
ordered_rect_result AndRect rects r = ordered_intersection _ _ (ordered_pixels rects)
ordered_rect_result XorRect rects r = ordered_symmetric _ _
ordered_rect_result ClearRect rects r = ordered_difference _ _ (ordered_pixels rects)

pub ordered_pair_result : (op : PairOp) (source into : List Rectangle) → IsInOrder precedes (pair_result op (pixels_of source) (pixels_of into))
ordered_pair_result OrPair source into = ordered_union _ _
ordered_pair_result AndPair source into = ordered_intersection _ _ (ordered_pixels into)
ordered_pair_result XorPair source into = ordered_symmetric _ _

-- the empty set has not too many rectangles
pub few_nil : has_too_many [] ≡ false
unfolding has_too_many
few_nil = ap (λ rects. not (nat_le (length rects) rect_limit)) bands_of_nil

-- what an emptied register leaves
pub cleared : (regions : List (List Rectangle)) (reg : ℕ) → set regions reg [] ≡ with_set regions reg []
cleared regions reg =
    ap (λ rects. set regions reg rects) (sym bands_of_nil) ∙ ap (λ many. if many then regions else set regions reg (bands [])) (sym few_nil)

-- a refusal by a test, or an answer
pub refuse_or_done : (many : Bool) → (if many then TooManyRects else Done) ≡ reply_or (refuse many TooManyRects None) Done
refuse_or_done true = refl
refuse_or_done false = refl
