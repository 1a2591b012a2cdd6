-- What keeps the two windows of a pair together (this project's own).
use Rattle.std.specs.Prelude.{◌≡◌, ℕ, ◌<◌, ◌==◌, Bool, true, false, ◌||◌, ◌⊎◌, List, [], ◌∷◌, ◌++◌, ℤ, pos, negsuc, ◌+ℤ◌, ◌-ℤ◌}
use Rattle.std.specs.Prelude.{◌≤ℤ◌, Some}
use Rattle.lw_region.specs.Rectangle.{Rectangle, has_pixel, IsOrdered, width, height}
use Rattle.lw_region.specs.Pixels.{Pixel}
use Rattle.lw_planes.specs.Bitmap.{pen_at}
use Rattle.lw_calls.specs.declared.sizes.Sizes.{Sizes}
use Rattle.lw_calls.specs.declared.make.Kind.{Kind}
use Rattle.lw_calls.specs.declared.make.Place.{Place}
use Rattle.lw_calls.specs.declared.pair.Pair.{Pair}
use Rattle.lw_calls.specs.declared.call.Call.{Call}
use Rattle.lw_calls.specs.declared.call.Call.TheVariants.{Create, OpenWindow, Close, ToFront, ToBack, InFrontOf, MoveBy, SizeBy}
use Rattle.lw_calls.specs.declared.call.Call.TheVariants.{SetBox, Activate}
use Rattle.lw_calls.specs.declared.reply.Reply.{Reply}
use Rattle.lw_calls.specs.declared.reply.Reply.TheVariants.{Done}
use Rattle.lw_calls.specs.declared.touch.CallClass.{CallClass}
use Rattle.lw_calls.specs.declared.touch.CallClass.TheVariants.{OnLayer, OnLayers}
use Rattle.lw_calls.specs.declared.group.Hold.TheVariants.{All as AllLayers}
use Rattle.lw_calls.specs.Kinds.{is_super}
use Rattle.lw_calls.specs.Limits.{may_leave_screen}
use Rattle.lw_calls.specs.Touches.{class_of, touch_of}
use Rattle.lw_calls.specs.Orders.{meets}
use Rattle.lw_machine.specs.Layer.{Slot, may_open, is_live, layer_is, is_framed, is_foreign}
use Rattle.lw_machine.specs.Desk.{Desk}
use Rattle.lw_machine.specs.Screen.{bounds_have, screen}
use Rattle.lw_machine.specs.Kept.{in_inner, holds_at}
use Rattle.lw_machine.specs.Step.{after, reply}
use Rattle.lw_gzz.specs.declared.word.GzzWord.{GzzWord}
use Rattle.lw_gzz.specs.declared.word.GzzWord.TheVariants.{Open, SetBox as GiveBox, InFrontOf as PutInFront}
use Rattle.lw_gzz.specs.Words.{expansion, has_kind}

-- the inner slot stands in the list directly in front of the outer one
pub record StandsBefore (inner outer : ℕ) (slots : List ℕ) : Type 0 where
  pub front : List ℕ
  pub behind : List ℕ
  pub list : slots ≡ front ++ inner ∷ outer ∷ behind

-- The inner rectangle of a window with a frame and these bounds, in screen coordinates: a frame takes 4 columns on each side, 11
-- rows at the top and 2 at the bottom.
abbrev pub inner_rectangle : Rectangle → Rectangle
inner_rectangle r = record {
  min_x = r.min_x +ℤ pos 4;
  min_y = r.min_y +ℤ pos 11;
  max_x = r.max_x -ℤ pos 4;
  max_y = r.max_y -ℤ pos 2;
}

-- That of bounds in order has the places of the screen on which the pixels of an unscrolled window lie that its frame leaves.
abbrev pub FrameLeavesInnerRectangle : Type 0
FrameLeavesInnerRectangle =
    (r : Rectangle) (x y : ℤ) → IsOrdered r
    → has_pixel (inner_rectangle r) x y ≡ holds_at (in_inner true (width r) (height r)) (x -ℤ r.min_x) (y -ℤ r.min_y)

-- What the slots of an outer and an inner window have: both are live or neither is, and both may be opened or neither may;
-- neither window is a backdrop or a super-bitmap layer, the outer one has a frame and the inner one has none, and one task opened
-- both: they are foreign to the same tasks, so that the inner one is a window too.
pub record AreMates (outer inner : Slot) : Type 0 where
  pub lives : is_live inner ≡ is_live outer
  pub opens : (version : ℕ) → may_open version inner ≡ may_open version outer
  pub outer_plain : layer_is (λ l. l.backdrop) outer ≡ false
  pub inner_plain : layer_is (λ l. l.backdrop) inner ≡ false
  pub outer_own : layer_is (λ l. is_super l.kind) outer ≡ false
  pub inner_own : layer_is (λ l. is_super l.kind) inner ≡ false
  pub framed : layer_is (λ l. is_framed l.window) outer ≡ is_live outer
  pub frameless : layer_is (λ l. is_framed l.window) inner ≡ false
  pub owner : (task : ℕ) → layer_is (λ l. is_foreign task l.window) inner ≡ layer_is (λ l. is_foreign task l.window) outer

-- The inner window's bounds are the outer one's inner rectangle, and it stands directly in front of the outer one.
pub record AreTogether (d : Desk) (p : Pair) : Type 0 where
  pub bounds : Rectangle
  pub outer_bounds : d.bounds p.outer ≡ Some bounds
  pub inner_bounds : d.bounds p.inner ≡ Some (inner_rectangle bounds)
  pub order : StandsBefore p.inner p.outer d.front_to_back

-- The two windows of a pair: both are live or neither is, and where they are live they are together.
pub record IsPaired (d : Desk) (p : Pair) : Type 0 where
  pub mates : AreMates (d.slot p.outer) (d.slot p.inner)
  pub together : is_live (d.slot p.outer) ≡ true → AreTogether d p

-- the slot is one of the pair's
abbrev pub is_of : Pair → ℕ → Bool
is_of p slot = (slot == p.outer) || (slot == p.inner)

-- The call arranges one window of the pair by itself, puts a layer in front of one, or makes the inner one active.
abbrev pub may_part : Pair → Call → Bool
may_part p (Create slot make) = is_of p slot
may_part p (OpenWindow slot make framed nocare asks title) = is_of p slot
may_part p (Close slot) = is_of p slot
may_part p (ToFront slot) = is_of p slot
may_part p (ToBack slot) = is_of p slot
may_part p (InFrontOf slot other) = is_of p slot || is_of p other
may_part p (MoveBy slot dx dy) = is_of p slot
may_part p (SizeBy slot dw dh) = is_of p slot
may_part p (SetBox slot x y w h) = is_of p slot
may_part p (Activate slot) = slot == p.inner
may_part p call = false

-- Any other call leaves the windows paired.
abbrev pub OtherCallsKeepPairsTogether : Type 0
OtherCallsKeepPairsTogether =
    (d : Desk) (task : ℕ) (call : Call) (p : Pair) → may_part p call ≡ false → IsPaired d p → IsPaired (after d task call) p

-- Within a group that holds all layers the calls of other tasks leave all of the desk but registers.
abbrev pub CallsBetweenLeaveTheLayers : Type 0
CallsBetweenLeaveTheLayers =
    (d : Desk) (task : ℕ) (call : Call) → meets AllLayers (touch_of task call) ≡ false
    → (registers : ℕ → ℕ → List Pixel) × (after d task call ≡ record d { registers = registers })

-- the desk after these calls of a task, one after another, and the replies to them
abbrev pub after_all : Desk → ℕ → List Call → Desk
after_all d task [] = d
after_all d task (c ∷ cs) = after_all (after d task c) task cs

abbrev pub replies_to : Desk → ℕ → List Call → List Reply
replies_to d task [] = []
replies_to d task (c ∷ cs) = reply d task c ∷ replies_to (after d task c) task cs

-- The box that a pair may have: its first and last column and row are coordinates, it has room for a frame, and it is no wider
-- and no higher than the screen.
pub record IsPairBox (s : Sizes) (x y w h : ℤ) : Type 0 where
  pub left : negsuc 32767 ≤ℤ x
  pub right : ((x +ℤ w) -ℤ pos 1) ≤ℤ pos 32767
  pub upper : negsuc 32767 ≤ℤ y
  pub lower : ((y +ℤ h) -ℤ pos 1) ≤ℤ pos 32767
  pub least_columns : pos 9 ≤ℤ w
  pub columns : w ≤ℤ pos s.width
  pub least_rows : pos 14 ≤ℤ h
  pub rows : h ≤ℤ pos s.height

-- the box of the word, if it has one, is one that a pair may have
abbrev pub HasPairBox : Sizes → GzzWord → Type 0
HasPairBox s (Open kind place x y w h asks title) = IsPairBox s x y w h
HasPairBox s (GiveBox x y w h) = IsPairBox s x y w h
HasPairBox s word = Unit {0}

-- the word puts its pair directly in front of the slot
abbrev pub puts_before : ℕ → GzzWord → Bool
puts_before slot (PutInFront other) = other == slot
puts_before slot word = false

-- no slot is one of both pairs
abbrev pub AreDisjoint : Pair → Pair → Type 0
AreDisjoint p q = (is_of q p.outer ≡ false) × (is_of q p.inner ≡ false)

-- From version 2 on the calls of a word with such a box leave its pair paired, and any pair of other slots before whose outer
-- window they don't put theirs, also where some of them are refused.
abbrev pub GroupsKeepPairsTogether : Type 0
GroupsKeepPairsTogether =
    (d : Desk) (task : ℕ) (p q : Pair) (word : GzzWord) → may_leave_screen d.sizes.version ≡ true → (p.inner == p.outer) ≡ false
    → has_kind word ≡ true → HasPairBox d.sizes word → puts_before q.outer word ≡ false → (p ≡ q) ⊎ AreDisjoint p q → IsPaired d q
    → IsPaired (after_all d task (expansion p word)) q

-- From version 2 on no call that opens a pair with such a box is refused where both slots may be opened, and they leave it open
-- and paired.
pub record IsOpened (d : Desk) (task : ℕ) (p : Pair) (word : GzzWord) : Type 0 where
  pub replies : replies_to d task (expansion p word) ≡ Done ∷ Done ∷ Done ∷ []
  pub live : is_live ((after_all d task (expansion p word)).slot p.outer) ≡ true
  pub paired : IsPaired (after_all d task (expansion p word)) p

abbrev pub PairsAreOpened : Type 0
PairsAreOpened =
    (d : Desk) (task : ℕ) (p : Pair) (kind : Kind) (place : Place) (x y w h : ℤ) (asks : ℕ) (title : List ℕ)
    → may_leave_screen d.sizes.version ≡ true → (p.inner == p.outer) ≡ false → may_open d.sizes.version (d.slot p.outer) ≡ true
    → may_open d.sizes.version (d.slot p.inner) ≡ true → is_super kind ≡ false → IsPairBox d.sizes x y w h
    → IsOpened d task p (Open kind place x y w h asks title)

-- The calls that close a pair are answered alike.
abbrev pub BothAreClosedAlike : Type 0
BothAreClosedAlike =
    (d : Desk) (task : ℕ) (p : Pair) → (p.inner == p.outer) ≡ false → AreMates (d.slot p.outer) (d.slot p.inner)
    → reply (after d task (Close p.outer)) task (Close p.inner) ≡ reply d task (Close p.outer)

-- the class is that of calls that draw on the layer in slot s alone
abbrev pub draws_on : ℕ → CallClass → Bool
draws_on s (OnLayer slot) = slot == s
draws_on s (OnLayers source slot) = slot == s
draws_on s class = false

-- A call on a layer, and a blit into it from another one, leaves the screen's pens outside the layer's bounds.
abbrev pub DrawingStaysInside : Type 0
DrawingStaysInside =
    (d : Desk) (task : ℕ) (call : Call) (s x y : ℕ) → draws_on s (class_of call) ≡ true → x < d.sizes.width
    → y < d.sizes.height → bounds_have (d.bounds s) (pos x) (pos y) ≡ false
    → pen_at (screen (after d task call)) x y ≡ pen_at (screen d) x y
