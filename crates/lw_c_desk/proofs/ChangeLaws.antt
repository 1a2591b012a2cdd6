-- What a desk's list tells after calls and readings.
use Rattle.std.proofs.Common.{◌≡◌, ℕ, ◌+◌, ◌<◌, Bool, true, false, if◌then◌else◌, List, [], ◌∷◌, ◌++◌, map, length}
use Rattle.std.proofs.Common.{take, drop, pos, Option, Some, None, refl, sym, ap, ◌∙◌, subst}
use Rattle.std.specs.Prelude.{nat_le}
use Rattle.std.specs.List.{list_any}
use Rattle.std.specs.Ordering.{int_eq}
use Rattle.std.proofs.lemmas.Bool.{false≢true, or_parts}
use Rattle.std.proofs.lemmas.Bool.Decides.{Decides-int_eq}
use Rattle.std.proofs.lemmas.List.{take_at, length-map}
use Rattle.lw_region.specs.Rectangle.{Rectangle}
use Rattle.lw_region.specs.Bands.{covers}
use Rattle.lw_calls.specs.declared.call.Call.{Call}
use Rattle.lw_calls.specs.declared.sizes.Sizes.{Sizes}
use Rattle.lw_machine.specs.Desk.{Desk, empty_desk, shelf_of}
use Rattle.lw_machine.specs.Step.{after}
use Rattle.lw_machine.specs.History.{machine}
use Rattle.lw_program_desk.specs.Views.{DeskView, StandsFor, with_changes}
use Rattle.lw_program_desk.specs.Noting.{RestIsTheSame}
use Rattle.lw_c_rectangles.specs.declared.bounds.Bounds.{Bounds}
use Rattle.lw_c_rectangles.specs.Bounds.{rectangle_of, bounds_of}
use Rattle.lw_c_calls.specs.declared.replies.ReplyWords.{ReplyWords}
use Rattle.lw_c_desk.specs.Answered.{done, no_room, IsDone, IsMade}
use Rattle.lw_c_desk.specs.Laws.{MadeCall, MadeReading, Link, empties, IsLink, AreLinked, before_others, steps_done}
use Rattle.lw_c_desk.specs.Laws.{ReadingsTellWhatChanged}
use Rattle.lw_c_desk.specs.Laws.{Called, Read}
use Rattle.lw_c_desk.proofs.HandleLaws.{held_desk, all_linked}

-- a list that stays leaves what it left out, and one after the other leaves what both leave
rest_still : (sizes : Sizes) (list : List Rectangle) (d : Desk) → RestIsTheSame sizes list list d d
rest_still sizes list d x y left above off = (off, refl)

rest_on : (sizes : Sizes) (old mid new : List Rectangle) (d e f : Desk) → RestIsTheSame sizes old mid d e
    → RestIsTheSame sizes mid new e f → RestIsTheSame sizes old new d f
rest_on sizes old mid new d e f first second x y left above off =
    let b = second x y left above off in
    let a = first x y left above b.0 in
    (a.0, b.1 ∙ a.1)

-- after a call that was done, and the rest
done_more : (n : ℕ) (call : Option Call) (rest : List Link) (v u last : DeskView) (d : Desk) (reply : ReplyWords)
    (old new : List Bounds) → IsDone call v u reply old new → StandsFor v d
    → ((k : ℕ) (e : Desk) → StandsFor u e → RestIsTheSame v.sizes u.changes last.changes e (machine e (steps_done k rest)))
    → RestIsTheSame v.sizes v.changes last.changes d (machine d (before_others n call (λ k. steps_done k rest)))
done_more n None rest v u last d reply old new is stands more = absurd is
done_more n (Some call) rest v u last d reply old new is stands more =
    rest_on v.sizes v.changes u.changes last.changes d (after d 0 call)
    (machine d (before_others n (Some call) (λ k. steps_done k rest))) (is.noted d stands)
    (more (n + 1) (after d 0 call) (is.step d stands).1)

-- after any call, and the rest
one_more : (n : ℕ) (m : MadeCall) (rest : List Link) (v u last : DeskView) (d : Desk) (t : Bool) → int_eq m.answer done ≡ t
    → IsMade m.call v u m.old_reply m.new_reply m.old_rects m.new_rects m.answer → StandsFor v d
    → ((k : ℕ) (e : Desk) → StandsFor u e → RestIsTheSame v.sizes u.changes last.changes e (machine e (steps_done k rest)))
    → RestIsTheSame v.sizes v.changes last.changes d
    (machine d (if t then before_others n m.call (λ k. steps_done k rest) else steps_done n rest))
one_more n m rest v u last d true e made stands more =
    done_more n m.call rest v u last d m.new_reply m.old_rects m.new_rects (made.step ((Decides-int_eq m.answer done).0 e)) stands
    more
one_more n m rest v u last d false e made stands more =
    let kept = made.kept (λ is. false≢true (sym e ∙ (Decides-int_eq m.answer done).1 is)) in
    subst (λ (list : List Rectangle). RestIsTheSame v.sizes list last.changes d (machine d (steps_done n rest))) kept.changes
    (more n d (kept.desk d stands))

-- a reading without room leaves the list, and the sizes stay
read_changes : (v u : DeskView) (r : MadeReading) → int_eq r.answer done ≡ false → IsLink (Read r) v u → u ≡ v
read_changes v u r e is = held_desk u v (is.kept (λ same. false≢true (sym e ∙ (Decides-int_eq r.answer done).1 same)))

read_sizes : (v u : DeskView) (r : MadeReading) (t : Bool) → int_eq r.answer done ≡ t → IsLink (Read r) v u → u.sizes ≡ v.sizes
read_sizes v u r true e is =
    ap (λ (w : DeskView). w.sizes) (held_desk u (with_changes v []) (is.emptied ((Decides-int_eq r.answer done).0 e)))
read_sizes v u r false e is = ap (λ (w : DeskView). w.sizes) (read_changes v u r e is)

linked_sizes : (links : List Link) (v last : DeskView) → AreLinked links v last → last.sizes ≡ v.sizes
linked_sizes [] v last is = ap (λ (w : DeskView). w.sizes) is
linked_sizes (Called m ∷ rest) v last is = linked_sizes rest is.0 last is.2 ∙ is.1.sizes
linked_sizes (Read r ∷ rest) v last is =
    linked_sizes rest is.0 last is.2 ∙ read_sizes v is.0 r (int_eq r.answer done) refl is.1

-- links none of which empties the list
none_emptied : (n : ℕ) (links : List Link) (v last : DeskView) (d : Desk) → StandsFor v d → AreLinked links v last
    → list_any empties links ≡ false → RestIsTheSame v.sizes v.changes last.changes d (machine d (steps_done n links))
none_emptied n [] v last d stands is none =
    subst (λ (w : DeskView). RestIsTheSame v.sizes v.changes w.changes d d) (sym is) (rest_still v.sizes v.changes d)
none_emptied n (Called m ∷ rest) v last d stands is none =
    one_more n m rest v is.0 last d (int_eq m.answer done) refl is.1 stands
    (λ k e s. subst (λ (sizes : Sizes). RestIsTheSame sizes is.0.changes last.changes e (machine e (steps_done k rest)))
    is.1.sizes (none_emptied k rest is.0 last e s is.2 none))
none_emptied n (Read r ∷ rest) v last d stands is none =
    let parts = or_parts (int_eq r.answer done) (list_any empties rest) none in
    let same : is.0 ≡ v = read_changes v is.0 r parts.0 is.1 in
    none_emptied n rest v last d stands (subst (λ (w : DeskView). AreLinked rest w last) same is.2) parts.1

-- the array begins with the list that was read
was_done : (b : Bool) → done ≡ (if b then done else no_room) → b ≡ true
was_done true is = refl
was_done false is = absurd (cc)

rectangles_back : (list : List Rectangle) → map rectangle_of (map bounds_of list) ≡ list
rectangles_back [] = refl
rectangles_back (r ∷ list) = ap (λ rest. r ∷ rest) (rectangles_back list)

array_read : (list : List Rectangle) (old new : List Bounds) (count : ℕ) (b : Bool) → b ≡ true → count ≡ length list
    → new ≡ (if b then map bounds_of list ++ drop (length list) old else old) → map rectangle_of (take count new) ≡ list
array_read list old new count true has long is =
    ap (λ array. map rectangle_of (take count array)) is
    ∙ (ap (map rectangle_of) (take_at (map bounds_of list) (drop (length list) old) count (length-map list bounds_of ∙ sym long))
    ∙ rectangles_back list)
array_read list old new count false has long is = absurd (false≢true has)

pub readings_tell : ReadingsTellWhatChanged
readings_tell sizes assets hooks opened before since moment last new old_out new_out count x y first are more none taken left above off =
    let listed = taken.listed in
    let read = array_read last.changes old_out new_out count (nat_le (length last.changes) (length old_out))
    (was_done (nat_le (length last.changes) (length old_out)) listed.answered) listed.count listed.array in
    let d = machine (empty_desk sizes assets (shelf_of hooks)) (steps_done 0 before) in
    let same : moment.sizes ≡ sizes = linked_sizes before first.desk moment are ∙ first.has_sizes in
    (none_emptied 0 since moment last d
    (all_linked 0 before first.desk moment (empty_desk sizes assets (shelf_of hooks)) first.stands are) more none x y
    (subst (λ (z : Sizes). x < z.width) (sym same) left) (subst (λ (z : Sizes). y < z.height) (sym same) above)
    (ap (λ rects. covers rects (pos x) (pos y)) (sym read) ∙ off)).1
