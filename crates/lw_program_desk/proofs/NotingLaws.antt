-- What is noted of places of the screen, one list of rectangles after another.
use Rattle.std.proofs.Common.{◌≡◌, ◌∙◌, ℕ, ◌<◌, ◌+◌, Bool, true, false, ◌&&◌, List, [], ◌∷◌, ◌++◌, length}
use Rattle.std.proofs.Common.{get_or, take, ℤ, pos, ◌-ℤ◌, Option, Some, None, refl, sym, ap, subst, arith}
use Rattle.std.specs.List.{flat_map, list_any, All}
use Rattle.std.proofs.lemmas.Bool.{false≢true, and_from, and_parts, or_from}
use Rattle.std.proofs.lemmas.Int.{ints}
use Rattle.std.proofs.lemmas.List.{take_more}
use Rattle.std.proofs.lemmas.List.Elements.{All-cons, All-append}
use Rattle.lw_region.specs.Rectangle.{Rectangle, IsOrdered, within, has_pixel}
use Rattle.lw_region.specs.Bands.{covers}
use Rattle.lw_region.proofs.Canonical.{covers_nil, covers_append}
use Rattle.lw_region.proofs.Within.{within_true}
use Rattle.lw_calls.specs.declared.sizes.Sizes.{Sizes}
use Rattle.lw_calls.specs.declared.call.Call.{Call}
use Rattle.lw_calls.specs.declared.reply.Reply.{Reply}
use Rattle.lw_planes.specs.Bitmap.{Bitmap, pen_at}
use Rattle.lw_machine.specs.Desk.{Desk}
use Rattle.lw_machine.specs.Screen.{bounds_have, screen_bounds}
use Rattle.lw_machine.specs.Step.{after, reply}
use Rattle.lw_machine.specs.Sound.{IsDesk}
use Rattle.lw_changes.specs.declared.touched.Frames.{Frames}
use Rattle.std.specs.Prelude.{if◌then◌else◌, nat_lt, not, is_some}
use Rattle.lw_machine.specs.Layer.{layer_is}
use Rattle.lw_changes.specs.Touched.{touched_slot, bounds_list, bounds_on, bounds_meet, may_repaint_frame, repainted_in}
use Rattle.lw_changes.specs.Touched.{frames_of, frame_places, touched}
use Rattle.lw_changes.specs.Refusing.{is_refusal}
use Rattle.lw_changes.specs.Changed.{is_inside, has_all, hull, hull_of, with_rect}
use Rattle.lw_changes.proofs.Places.{covers_bounds, covers_neither}
use Rattle.lw_changes.proofs.Hulls.{with_rect_covers, hull_ordered}
use Rattle.lw_changes.proofs.Insides.{with_rect_stays, pixels_inside}
use Rattle.lw_changes.proofs.Calls.{changes_where_it_lies, others_leave}
use Rattle.lw_changes.proofs.Refusals.{refused_leaves}
use Rattle.lw_program_desk.specs.Views.{DeskView}
use Rattle.lw_program_desk.specs.Noting.{AreNoted, AreOnScreen, StayOn, RestIsTheSame}

-- nothing is noted of no rectangle
pub none_noted : (sizes : Sizes) (old : List Rectangle) → AreNoted sizes [] old old
none_noted sizes old x y on off = (off, covers_nil x y)

-- what is noted one after the other is noted
pub both_noted : (sizes : Sizes) (rs ss old mid new : List Rectangle) → AreNoted sizes rs old mid → AreNoted sizes ss mid new
    → AreNoted sizes (rs ++ ss) old new
both_noted sizes rs ss old mid new first second x y on off =
    let b = second x y on off in
    let a = first x y on b.0 in
    (a.0, covers_append rs ss x y ∙ or_from (covers rs x y) (covers ss x y) a.1 b.1)

-- of bounds, what of them lies on the screen
there : (on has : Bool) → on ≡ true → false ≡ (on && has) → has ≡ false
there true has is none = sym none
there false has is none = absurd (cc)

pub off_noted : (sizes : Sizes) (o : Option Rectangle) (old : List Rectangle)
    → ((x y : ℤ) → false ≡ (has_pixel (screen_bounds sizes) x y && bounds_have o x y)) → AreNoted sizes (bounds_list o) old old
off_noted sizes o old none x y on off =
    (off, covers_bounds o x y ∙ there (has_pixel (screen_bounds sizes) x y) (bounds_have o x y) on (none x y))

pub part_noted : (sizes : Sizes) (o : Option Rectangle) (part : Rectangle) (old new : List Rectangle)
    → ((x y : ℤ) → has_pixel part x y ≡ (has_pixel (screen_bounds sizes) x y && bounds_have o x y)) → new ≡ with_rect old part
    → AreNoted sizes (bounds_list o) old new
part_noted sizes o part old new is grown x y on off =
    let parts = with_rect_covers old part x y (ap (λ rects. covers rects x y) (sym grown) ∙ off) in (
      parts.0,
      covers_bounds o x y ∙ there (has_pixel (screen_bounds sizes) x y) (bounds_have o x y) on (sym parts.1 ∙ is x y),
    )

-- a list that grows stays ordered
hull_of_ordered : (rects : List Rectangle) (r : Rectangle) → IsOrdered r → IsOrdered (hull_of rects r)
hull_of_ordered [] r is = is
hull_of_ordered (q ∷ rects) r is = hull_of_ordered rects (hull r q) (hull_ordered r q is)

one_ordered : (r : Rectangle) → IsOrdered r → All IsOrdered (r ∷ [])
one_ordered r is = All-cons IsOrdered r [] is (λ i d low. absurd (omega arith))

grown_ordered : (rects : List Rectangle) (r : Rectangle) → All IsOrdered rects → IsOrdered r → All IsOrdered (with_rect rects r)
grown_ordered rects r all is = by_inside (list_any (is_inside r) rects)
  where
    by_room : (b : Bool) → All IsOrdered (if b then rects ++ (r ∷ []) else hull_of rects r ∷ [])
    by_room true = All-append IsOrdered rects (r ∷ []) all (one_ordered r is)
    by_room false = one_ordered (hull_of rects r) (hull_of_ordered rects r is)

    by_inside : (b : Bool)
        → All IsOrdered (if b then rects else if nat_lt (length rects) 16 then rects ++ (r ∷ []) else hull_of rects r ∷ [])
    by_inside true = all
    by_inside false = by_room (nat_lt (length rects) 16)

-- and that part lies there
pub part_stays : (sizes : Sizes) (o : Option Rectangle) (part : Rectangle) (old new : List Rectangle) → IsOrdered part
    → ((x y : ℤ) → has_pixel part x y ≡ (has_pixel (screen_bounds sizes) x y && bounds_have o x y)) → new ≡ with_rect old part
    → StayOn sizes old new
part_stays sizes o part old new ordered is grown all = record {
  inside = ap (has_all (screen_bounds sizes)) grown
      ∙ with_rect_stays old part (screen_bounds sizes) all.inside
      (pixels_inside part (screen_bounds sizes) ordered
      (λ x y has. (and_parts (has_pixel (screen_bounds sizes) x y) (bounds_have o x y) (sym (is x y) ∙ has)).0));
  ordered = subst (λ (list : List Rectangle). All IsOrdered list) (sym grown) (grown_ordered old part all.ordered ordered);
}

pub stays_on : (given sizes : Sizes) (old new : List Rectangle) → given ≡ sizes → StayOn given old new → StayOn sizes old new
stays_on given sizes old new same stay = subst (λ (z : Sizes). StayOn z old new) same stay

-- the lists of all slots, one after another
list_end : (f : ℕ → List Rectangle) (us : List ℕ) (s : ℕ) (x y : ℤ) → covers (flat_map f us) x y ≡ false
    → covers (f s) x y ≡ false → covers (flat_map f (us ++ (s ∷ []))) x y ≡ false
list_end f [] s x y off last = covers_append (f s) [] x y ∙ or_from (covers (f s) x y) (covers [] x y) last (covers_nil x y)
list_end f (u ∷ us) s x y off last =
    let parts = covers_neither (f u) (flat_map f us) x y off in
    covers_append (f u) (flat_map f (us ++ (s ∷ []))) x y
    ∙ or_from (covers (f u) x y) (covers (flat_map f (us ++ (s ∷ []))) x y) parts.0 (list_end f us s x y parts.1 last)

pub more_noted : (sizes : Sizes) (f : ℕ → List Rectangle) (us : List ℕ) (i : ℕ) (old mid new : List Rectangle) → i < length us
    → AreNoted sizes (flat_map f (take i us)) old mid → AreNoted sizes (f (get_or us i 0)) mid new
    → AreNoted sizes (flat_map f (take (i + 1) us)) old new
more_noted sizes f us i old mid new low first second x y on off =
    let b = second x y on off in
    let a = first x y on b.0 in
    let P : List ℕ → Type 0 = λ list. covers (flat_map f list) x y ≡ false in
    (a.0, subst P (sym (take_more us i 0 low)) (list_end f (take i us) (get_or us i 0) x y a.1 b.1))

-- the same on the same screen
pub noted_on : (given sizes : Sizes) (rects old new : List Rectangle) → given ≡ sizes → AreNoted given rects old new
    → AreNoted sizes rects old new
noted_on given sizes rects old new same noted = subst (λ (z : Sizes). AreNoted z rects old new) same noted

-- what a call touches is noted of the machine's screen
on_screen : (sizes : Sizes) (x y : ℕ) → x < sizes.width → y < sizes.height → has_pixel (screen_bounds sizes) (pos x) (pos y) ≡ true
on_screen sizes x y left above = and_from _ _ (axis x sizes.width left) (axis y sizes.height above)
  where
    axis : (z end : ℕ) → z < end → within (pos 0) (pos z) (pos end -ℤ pos 1) ≡ true
    axis z end low = within_true (pos 0) (pos z) (pos end -ℤ pos 1) (omega (arith, ints)) (omega (arith, ints))

pub rest_shown : (sizes : Sizes) (d : Desk) (call : Call) (old new : List Rectangle) → IsDesk d
    → AreNoted sizes (touched d call (after d 0 call)) old new → RestIsTheSame sizes old new d (after d 0 call)
rest_shown sizes d call old new sound noted x y left above off =
    let there = noted (pos x) (pos y) (on_screen sizes x y left above) off in
    (there.0, changes_where_it_lies d 0 call x y sound there.1)

-- what is noted in a copy of a desk's list stays on its screen
pub copy_stays : (v w : DeskView) (copied new : List Rectangle) → v ≡ w → copied ≡ v.changes
    → AreOnScreen v.sizes v.changes → StayOn w.sizes copied new → AreOnScreen v.sizes new
copy_stays v w copied new same copy there stay =
    stays_on w.sizes v.sizes copied new (sym (ap (λ (u : DeskView). u.sizes) same)) stay
    (subst (λ (list : List Rectangle). AreOnScreen v.sizes list) (sym copy) there)

-- a call that is refused changes nothing there, and nothing is noted of it
pub refused_shows : (sizes : Sizes) (d : Desk) (call : Call) (r : Reply) (old new : List Rectangle) → r ≡ reply d 0 call
    → is_refusal r ≡ true → new ≡ old → RestIsTheSame sizes old new d (after d 0 call)
refused_shows sizes d call r old new is refused same =
    let still : after d 0 call ≡ d = refused_leaves d 0 call (ap is_refusal (sym is) ∙ refused) in
    subst (λ (e : Desk). RestIsTheSame sizes old new d e) (sym still)
    (λ x y left above off. (ap (λ rects. covers rects (pos x) (pos y)) (sym same) ∙ off, refl))

-- an option of which `is_none` says so
pub none_of : (o : Option ℕ) (none : Bool) → is_some o ≡ not none → none ≡ true → o ≡ None
none_of None none is here = refl
none_of (Some s) none is here = absurd (false≢true (ap not (sym here) ∙ sym is))

-- nor does one that touches no layer
pub untouched_shows : (sizes : Sizes) (d : Desk) (call : Call) (old new : List Rectangle) → touched_slot call ≡ None → new ≡ old
    → RestIsTheSame sizes old new d (after d 0 call)
untouched_shows sizes d call old new none same x y left above off = (
  ap (λ rects. covers rects (pos x) (pos y)) (sym same) ∙ off,
  ap (λ (b : Bitmap). pen_at b x y) (others_leave d 0 call none),
)

-- all that a call touches
pub touched_noted : (sizes : Sizes) (d e : Desk) (call : Call) (own is : Option Rectangle) (f : Frames)
    (old mid next new : List Rectangle) → bounds_list own ≡ bounds_on d (touched_slot call)
    → bounds_list is ≡ bounds_on e (touched_slot call) → f ≡ frames_of call
    → AreNoted sizes (bounds_list own) old mid → AreNoted sizes (bounds_list is) mid next
    → AreNoted sizes (frame_places d e f (bounds_list own ++ bounds_list is)) next new
    → AreNoted sizes (touched d call e) old new
touched_noted sizes d e call own is f old mid next new was now framed first second third =
    let places = bounds_list own ++ bounds_list is in
    let before = bounds_on d (touched_slot call) in
    let P : List Rectangle → Type 0 = λ rects. AreNoted sizes rects old new in
    let same : (places ++ frame_places d e f places) ≡ touched d call e =
    ap (λ g. places ++ frame_places d e g places) framed
    ∙ (ap (λ rects. (rects ++ bounds_list is) ++ frame_places d e (frames_of call) (rects ++ bounds_list is)) was
    ∙ ap (λ rects. (before ++ rects) ++ frame_places d e (frames_of call) (before ++ rects)) now) in
    subst P same
    (both_noted sizes places (frame_places d e f places) old next new
    (both_noted sizes (bounds_list own) (bounds_list is) old mid next first second) third)

-- nothing is noted of a slot whose frame isn't painted
pub left_noted : (sizes : Sizes) (rects : List Rectangle) (e : Desk) (slot : ℕ) (old : List Rectangle)
    → (layer_is may_repaint_frame (e.slot slot) && bounds_meet rects (e.bounds slot)) ≡ false
    → AreNoted sizes (repainted_in e rects slot) old old
left_noted sizes rects e slot old off =
    let P : List Rectangle → Type 0 = λ list. AreNoted sizes list old old in
    subst P (sym (ap (λ b. if b then bounds_list (e.bounds slot) else []) off)) (none_noted sizes old)
