-- A call changes the screen only where its layer lies, and where a frame is painted.
use Rattle.std.specs.Prelude.{◌≡◌, ℕ, true, false, List, ℤ, pos, None, All, IsTrue}
use Rattle.lw_region.specs.Bands.{covers}
use Rattle.lw_planes.specs.Bitmap.{pen_at}
use Rattle.lw_calls.specs.declared.call.Call.{Call}
use Rattle.lw_calls.specs.declared.entry.Entry.{Entry}
use Rattle.lw_calls.specs.Limits.{call_fits}
use Rattle.lw_machine.specs.Desk.{Desk}
use Rattle.lw_machine.specs.Screen.{screen}
use Rattle.lw_machine.specs.Step.{reply, after}
use Rattle.lw_machine.specs.History.{machine}
use Rattle.lw_machine.specs.Sound.{IsDesk}
use Rattle.lw_region.specs.Rectangle.{Rectangle, has_pixel}
use Rattle.lw_changes.specs.Changed.{is_inside, has_all, with_rect}
use Rattle.lw_changes.specs.Refusing.{is_refusal}
use Rattle.lw_changes.specs.Touched.{touched_slot, touched, touched_since}

-- Whatever a call does to a sound desk, each pixel of the screen that lies in none of the rectangles that it touches shows the
-- same pen before and after it.
abbrev pub CallsChangeWhatTheyTouch : Type 0
CallsChangeWhatTheyTouch =
    (d : Desk) (task : ℕ) (call : Call) (x y : ℕ) → IsDesk d
    → covers (touched d call (after d task call)) (pos x) (pos y) ≡ false
    → pen_at (screen (after d task call)) x y ≡ pen_at (screen d) x y

-- A call that touches no layer leaves the screen as it is.
abbrev pub OtherCallsLeaveTheScreen : Type 0
OtherCallsLeaveTheScreen =
    (d : Desk) (task : ℕ) (call : Call) → touched_slot call ≡ None → screen (after d task call) ≡ screen d

-- A call whose reply refuses it leaves the whole desk.
abbrev pub RefusalsLeaveTheDesk : Type 0
RefusalsLeaveTheDesk = (d : Desk) (task : ℕ) (call : Call) → is_refusal (reply d task call) ≡ true → after d task call ≡ d

-- Of all steps of a history of calls that fit: what the screen shows in none of the rectangles that were touched since a
-- moment is what it showed then.
abbrev pub RunsChangeWhatTheyTouch : Type 0
RunsChangeWhatTheyTouch =
    (d : Desk) (es : List Entry) (x y : ℕ) → IsDesk d → All (λ e. IsTrue (call_fits d.sizes e.call)) es
    → covers (touched_since d es) (pos x) (pos y) ≡ false
    → pen_at (screen (machine d es)) x y ≡ pen_at (screen d) x y

-- A place that the grown list leaves out, the list before left out, and the added rectangle doesn't have it.
abbrev pub GrownListsCover : Type 0
GrownListsCover =
    (rects : List Rectangle) (r : Rectangle) (x y : ℤ) → covers (with_rect rects r) x y ≡ false
    → (covers rects x y ≡ false) × (has_pixel r x y ≡ false)

-- And where a rectangle has all of a list and one more, it has all of the list with that one.
abbrev pub GrownListsStay : Type 0
GrownListsStay =
    (rects : List Rectangle) (r frame : Rectangle) → has_all frame rects ≡ true → is_inside r frame ≡ true
    → has_all frame (with_rect rects r) ≡ true
