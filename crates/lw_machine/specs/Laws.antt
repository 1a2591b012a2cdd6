-- What the machine's definitions promise.
use Rattle.std.specs.Prelude.{◌≡◌, ℕ, ◌<◌, Bool, true, false, List, pos, Option, Some, All, IsTrue}
use Rattle.lw_region.specs.Rectangle.{Rectangle}
use Rattle.lw_planes.specs.Bitmap.{pen_at}
use Rattle.lw_calls.specs.declared.sizes.Sizes.{Sizes}
use Rattle.lw_calls.specs.declared.make.Kind.TheVariants.{Smart, SuperBitmap}
use Rattle.lw_calls.specs.declared.call.Call.{Call}
use Rattle.lw_calls.specs.declared.reply.Reply.{Reply}
use Rattle.lw_calls.specs.declared.reply.Reply.TheVariants.{Done, Pen, Outside, Nothing, Layer as LayerFound, Rects, Got, NotOpen}
use Rattle.lw_calls.specs.declared.reply.Reply.TheVariants.{AlreadyOpen, NotWindow, NotOwner, Backdrop, NotSuper, InUpdate}
use Rattle.lw_calls.specs.declared.reply.Reply.TheVariants.{NotInUpdate, OutOfBounds, TooManyRects}
use Rattle.lw_calls.specs.declared.entry.Entry.{Entry}
use Rattle.lw_calls.specs.declared.touch.Role.{Role}
use Rattle.lw_calls.specs.Limits.{IsWithinLimits, call_fits}
use Rattle.lw_machine.specs.Hook.{Hook}
use Rattle.lw_machine.specs.Layer.{Layer, Live}
use Rattle.lw_machine.specs.Desk.{Desk, empty_desk}
use Rattle.lw_calls.specs.Assets.{Assets}
use Rattle.lw_machine.specs.Screen.{top, screen, pen_of_top}
use Rattle.lw_machine.specs.Kept.{is_visible, is_inside, screen_place}
use Rattle.lw_machine.specs.Step.{after, reply}
use Rattle.lw_calls.specs.Touches.{touch_of, touches_role, slots_of}
use Rattle.lw_calls.specs.Plan.{is_all}
use Rattle.lw_machine.specs.History.{machine}
use Rattle.lw_machine.specs.Parts.{HaveSame, AgreeOn}
use Rattle.lw_machine.specs.Sound.{IsDesk}

-- Topmost: the screen has at each place the pen of the top layer's pixel there, or 0 where there is no layer.
abbrev pub ScreenShowsTheTop : Type 0
ScreenShowsTheTop =
    (d : Desk) (x y : ℕ) → x < d.sizes.width → y < d.sizes.height
    → pen_at (screen d) x y ≡ pen_of_top d (top d (pos x) (pos y)) (pos x) (pos y)

-- A visible pixel of a layer lies on a place of the screen, which shows its pen: bounds and scroll say on which.
pub record IsSeenAt (d : Desk) (l : Layer) (r : Rectangle) (x y column row : ℕ) : Type 0 where
  pub across : screen_place r.min_x l.scroll_x x ≡ pos column
  pub down : screen_place r.min_y l.scroll_y y ≡ pos row
  pub left : column < d.sizes.width
  pub low : row < d.sizes.height
  pub pen : pen_at (screen d) column row ≡ pen_at l.bits x y

abbrev pub VisiblePixelsAreSeen : Type 0
VisiblePixelsAreSeen =
    (d : Desk) (s : ℕ) (l : Layer) (r : Rectangle) (x y : ℕ) → IsDesk d → d.slot s ≡ Live l → d.bounds s ≡ Some r
    → IsTrue (is_visible d s l x y) → (column : ℕ) × (row : ℕ) × IsSeenAt d l r x y column row

-- A call that touches all layers leaves of a smart layer the pen of each pixel that lies in its inner rectangle both before and
-- after, and of a super-bitmap layer all.
pub record IsLossless (l m : Layer) : Type 0 where
  pub smart : l.kind ≡ Smart → (x y : ℕ) → IsTrue (is_inside l x y) → IsTrue (is_inside m x y)
      → pen_at m.bits x y ≡ pen_at l.bits x y
  pub super_bitmap : l.kind ≡ SuperBitmap → m.bits ≡ l.bits

abbrev pub NothingIsLost : Type 0
NothingIsLost =
    (d : Desk) (task : ℕ) (call : Call) (s : ℕ) (l m : Layer) → IsDesk d → IsTrue (is_all (slots_of call)) → d.slot s ≡ Live l
    → (after d task call).slot s ≡ Live m → IsLossless l m

-- Every desk that a history of calls that fit reaches is sound.
abbrev pub ReachedDesksAreSound : Type 0
ReachedDesksAreSound =
    (sizes : Sizes) (assets : Assets) (shelf : ℕ → Option Hook) (es : List Entry) → IsWithinLimits sizes
    → All (λ e. IsTrue (call_fits sizes e.call)) es → IsDesk (machine (empty_desk sizes assets shelf) es)

-- A step leaves each part that its call doesn't touch.
abbrev pub StepsLeaveTheRest : Type 0
StepsLeaveTheRest =
    (d : Desk) (task : ℕ) (call : Call) (r : Role) → touches_role (touch_of task call) r ≡ false
    → HaveSame r d (after d task call)

-- Where two desks agree on what a call touches, the call answers the same on both, and they agree on it afterwards: the reply
-- and the touched parts are functions of the touched parts before.
pub record IsSameStep (task : ℕ) (call : Call) (d e : Desk) : Type 0 where
  pub replies : reply d task call ≡ reply e task call
  pub parts : AgreeOn (touch_of task call) (after d task call) (after e task call)

abbrev pub StepsAreLocal : Type 0
StepsAreLocal =
    (d e : Desk) (task : ℕ) (call : Call) → IsDesk d → IsDesk e → IsTrue (call_fits d.sizes call)
    → AgreeOn (touch_of task call) d e → IsSameStep task call d e

-- the reply refuses the call
abbrev pub is_refusing : Reply → Bool
is_refusing Done = false
is_refusing (Pen n) = false
is_refusing Outside = false
is_refusing Nothing = false
is_refusing (LayerFound s) = false
is_refusing (Rects rects) = false
is_refusing (Got m) = false
is_refusing NotOpen = true
is_refusing AlreadyOpen = true
is_refusing NotWindow = true
is_refusing NotOwner = true
is_refusing Backdrop = true
is_refusing NotSuper = true
is_refusing InUpdate = true
is_refusing NotInUpdate = true
is_refusing OutOfBounds = true
is_refusing TooManyRects = true

-- A refused call changes nothing.
abbrev pub RefusedCallsChangeNothing : Type 0
RefusedCallsChangeNothing =
    (d : Desk) (task : ℕ) (call : Call) → IsTrue (is_refusing (reply d task call)) → after d task call ≡ d
