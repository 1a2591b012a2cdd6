-- Laws of telling a window what it is due: its messages one after another, and whether it was asked to refresh.
use Rattle.std.proofs.Common.{◌≡◌, ℕ, ◌-◌, ◌==◌, Bool, true, false, not, ◌&&◌, ◌||◌, nat_lt, List, ◌++◌, length, length-append, append_assoc, Option, Some, None, ◌∙◌, sym, refl, ap, subst, arith, ℤ, pos, negsuc}
use Rattle.std.proofs.lemmas.Bool.{and_parts, ltb-true, both_ways, false_from_ne_true}
use Rattle.std.proofs.Math.Bool.{or-false}
use Rattle.lw_region.specs.Rectangle.{Rectangle}
use Rattle.lw_region.specs.Bands.{covers}
use Rattle.lw_region.specs.Banded.{IsCanonical}
use Rattle.lw_planes.specs.Grid.{at}
use Rattle.lw_planes.proofs.GridLaws.{grid_at}
use Rattle.lw_calls.specs.declared.message.Message.{Message}
use Rattle.lw_damage.specs.Damaged.{Damaged}
use Rattle.lw_machine.specs.Layer.{Layer, Window, changed_window}
use Rattle.lw_machine.specs.Kept.{holds_at, is_kept}
use Rattle.lw_machine.specs.Reveal.{Across, is_damaged, messages_due, refresh_is_put}
use Rattle.lw_layer.specs.View.{LiveView, keeps}
use Rattle.lw_layer.specs.Pieces.{IsDamageOf}
use Rattle.lw_layer.proofs.PixelTests.{some_covered}
use Rattle.lw_windows.specs.Messages.{listed}
use Rattle.lw_windows.specs.declared.messages.Classes.{Classes}
use Rattle.lw_frames.specs.Telling.{IsDueOf, with_put, as_asked}

-- the room that is left
room_left : (r : ℕ) (a b : List Message) → (r - length a) - length b ≡ r - length (a ++ b)
room_left r a b = let long = length-append a b in omega (arith, long)

-- the port of a window with messages, and then more
port_more : (a b : List Message) (o : Option Window)
    → changed_window (λ w. record w { port = w.port ++ b }) (changed_window (λ w. record w { port = w.port ++ a }) o)
    ≡ changed_window (λ w. record w { port = w.port ++ (a ++ b) }) o
port_more a b None = refl
port_more a b (Some w) = ap (λ p. Some (record w { port = p })) (append_assoc w.port a b)

put_more : (a b : List Message) (k : LiveView) → with_put b (with_put a k) ≡ with_put (a ++ b) k
put_more a b k =
    ap (λ n. record (with_put b (with_put a k)) { room = n }) (room_left k.room a b)
    ∙ ap (λ o. record k { room = k.room - length (a ++ b); layer = record k.layer { window = o } }) (port_more a b k.layer.window)

-- a window that isn't asked to refresh, and one that is
not_asked : (o : Option Window) → changed_window (λ w. record w { asked = w.asked || false }) o ≡ o
not_asked None = refl
not_asked (Some w) = ap (λ t. Some (record w { asked = t })) (or-false w.asked)

pub as_unasked : (k : LiveView) → k ≡ as_asked false k
as_unasked k = ap (λ o. record k { layer = record k.layer { window = o } }) (sym (not_asked k.layer.window))

-- five messages or fewer, one after another
pub five_put : (v u1 u2 u3 u4 u5 : LiveView) (a b c d e : List Message) → u1 ≡ with_put a v → u2 ≡ with_put b u1
    → u3 ≡ with_put c u2 → u4 ≡ with_put d u3 → u5 ≡ with_put e u4
    → u5 ≡ with_put (a ++ b ++ c ++ d ++ e) v
five_put v u1 u2 u3 u4 u5 a b c d e first second third fourth fifth =
    next u4 u5 (a ++ b ++ c ++ d) e (next u3 u4 (a ++ b ++ c) d (next u2 u3 (a ++ b) c (next u1 u2 a b first second) third) fourth) fifth
  where
    next : (u w : LiveView) (m n : List Message) → u ≡ with_put m v → w ≡ with_put n u → w ≡ with_put (m ++ n) v
    next u w m n one two = two ∙ (ap (with_put n) one ∙ put_more m n v)

-- what is due of a window is what is due of its layer
pub due_of : (q : Across) (l : Layer) (w : Window) (due : Classes) → l.window ≡ Some w → listed due ≡ messages_due q l w → due.refresh ≡ refresh_is_put l w
    → IsDueOf q l l.window due
due_of q l w due is messages refresh = let P : Option Window → Type 0 = λ o. IsDueOf q l o due in subst P (sym is) (messages, refresh)

-- a pixel is damaged where a rectangle of the damage has it
damaged_at : (k : LiveView) (d : Damaged) → IsDamageOf k d → (x y : ℕ) (t : Bool) → (nat_lt x k.layer.bits.width && nat_lt y k.layer.bits.height) ≡ t
    → covers d.rects (pos x) (pos y) ≡ (t && at false k.layer.damage x y)
unfolding keeps is_kept
damaged_at k d is x y true inside =
    let place = and_parts (nat_lt x k.layer.bits.width) (nat_lt y k.layer.bits.height) inside in
    sym (ap (λ rows. at false rows x y) is.pixels
    ∙ grid_at k.layer.bits.width k.layer.bits.height (λ i j. covers d.rects (pos i) (pos j)) false x y
    (ltb-true x k.layer.bits.width place.0) (ltb-true y k.layer.bits.height place.1))
damaged_at k d is x y false outside =
    false_from_ne_true (covers d.rects (pos x) (pos y))
    (λ has. both_ways (nat_lt x k.layer.bits.width && nat_lt y k.layer.bits.height) outside (and_parts _ _ (is.kept (pos x) (pos y) has)).0)

-- a layer has some damage exactly where its damage has a rectangle
pub some_damage : (k : LiveView) (d : Damaged) (rects : List Rectangle) → IsDamageOf k d → rects ≡ d.rects → IsCanonical rects
    → not (length rects == 0) ≡ is_damaged k.layer
unfolding is_damaged
some_damage k d rects is same canonical =
    let w = k.layer.bits.width in
    let h = k.layer.bits.height in
    some_covered w h (λ x y. at false k.layer.damage x y) rects canonical
    (λ x y. ap (λ l. covers l x y) same ∙ everywhere x y)
  where
    everywhere : (x y : ℤ) → covers d.rects x y ≡ holds_at (λ i j. (nat_lt i k.layer.bits.width && nat_lt j k.layer.bits.height) && at false k.layer.damage i j) x y
    everywhere (pos x) (pos y) = damaged_at k d is x y (nat_lt x k.layer.bits.width && nat_lt y k.layer.bits.height) refl
    everywhere (pos x) (negsuc y) = false_from_ne_true (covers d.rects (pos x) (negsuc y)) (λ has. absurd (cc (is.kept (pos x) (negsuc y) has)))
    everywhere (negsuc x) y = false_from_ne_true (covers d.rects (negsuc x) y) (λ has. absurd (cc (is.kept (negsuc x) y has)))
