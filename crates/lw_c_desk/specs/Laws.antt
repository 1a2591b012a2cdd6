-- What a handle's desk stands for after any calls and readings of its list, and what that list tells.
use Rattle.std.specs.Prelude.{◌≡◌, ℕ, ◌+◌, ◌<◌, Bool, false, if◌then◌else◌, List, [], ◌∷◌, map, take, ℤ, pos, Option, Some, None}
use Rattle.std.specs.List.{list_any}
use Rattle.std.specs.Ordering.{int_eq}
use Rattle.lw_region.specs.Bands.{covers}
use Rattle.lw_planes.specs.Bitmap.{pen_at}
use Rattle.lw_calls.specs.Assets.{Assets}
use Rattle.lw_calls.specs.declared.call.Call.{Call}
use Rattle.lw_calls.specs.declared.entry.Entry.{Entry}
use Rattle.lw_calls.specs.declared.sizes.Sizes.{Sizes}
use Rattle.lw_machine.specs.Hook.{Hook}
use Rattle.lw_machine.specs.Desk.{empty_desk, shelf_of}
use Rattle.lw_machine.specs.Screen.{screen}
use Rattle.lw_machine.specs.History.{machine}
use Rattle.lw_program_desk.specs.Views.{DeskView, StandsFor}
use Rattle.lw_c_rectangles.specs.declared.bounds.Bounds.{Bounds}
use Rattle.lw_c_rectangles.specs.Bounds.{rectangle_of}
use Rattle.lw_c_calls.specs.declared.replies.ReplyWords.{ReplyWords}
use Rattle.lw_c_desk.specs.Answered.{done, IsMade}
use Rattle.lw_c_desk.specs.Opened.{IsNew}
use Rattle.lw_c_desk.specs.Changed.{AreTaken}

-- A call on a handle with a desk: which one the numbers mean, what was in the reply and the array before and afterwards, and the
-- answer.
pub record MadeCall : Type 0 where
  pub call : Option Call
  pub old_reply : ReplyWords
  pub new_reply : ReplyWords
  pub old_rects : List Bounds
  pub new_rects : List Bounds
  pub answer : ℤ

-- A reading of where its screen changed: what was in the array before and afterwards, the count and the answer.
pub record MadeReading : Type 0 where
  pub old_out : List Bounds
  pub new_out : List Bounds
  pub count : ℕ
  pub answer : ℤ

-- one of them: a link of the chain of all that may change a handle's desk
pub data Link : Type 0 where
  Called : MadeCall → Link
  Read : MadeReading → Link

-- a reading that was done, which empties the list
abbrev pub empties : Link → Bool
empties (Called m) = false
empties (Read r) = int_eq r.answer done

-- it left of the desk what `lw_desk_call` promises, or `lw_desk_changed`
abbrev pub IsLink : Link → DeskView → DeskView → Type 0
IsLink (Called m) v w = IsMade m.call v w m.old_reply m.new_reply m.old_rects m.new_rects m.answer
IsLink (Read r) v w = AreTaken v (Some w) r.old_out r.new_out r.count r.answer

-- such links one after another, from one desk to another
abbrev pub AreLinked : List Link → DeskView → DeskView → Type 0
AreLinked [] v w = w ≡ v
AreLinked (link ∷ rest) v w = (u : DeskView) × IsLink link v u × AreLinked rest u w

-- the calls that were done, as steps of a history of one task
abbrev pub before_others : ℕ → Option Call → (ℕ → List Entry) → List Entry
before_others n None others = others n
before_others n (Some call) others = record { task = 0; seq = n; call = call } ∷ others (n + 1)

abbrev pub steps_done : ℕ → List Link → List Entry
steps_done n [] = []
steps_done n (Called m ∷ rest) =
    if int_eq m.answer done then before_others n m.call (λ k. steps_done k rest) else steps_done n rest
steps_done n (Read r ∷ rest) = steps_done n rest

-- The desk of a handle that was opened stands after any calls and readings for the machine's desk after the calls that were done:
-- so there always is a desk for which it stands.
abbrev pub HandlesStandForTheMachine : Type 0
HandlesStandForTheMachine =
    (sizes : Sizes) (assets : Assets) (hooks : List Hook) (opened : Option DeskView) (links : List Link) (last : DeskView)
    → (new : IsNew sizes assets hooks opened) → AreLinked links new.desk last
    → StandsFor last (machine (empty_desk sizes assets (shelf_of hooks)) (steps_done 0 links))

-- From any moment on, and over calls and over readings for which there was no room, up to a reading that is done: a pixel of the
-- screen that none of the rectangles then written has shows the pen that it showed at that moment. So it does since the last
-- reading that was done before, and since the opening where there was none.
abbrev pub ReadingsTellWhatChanged : Type 0
ReadingsTellWhatChanged =
    (sizes : Sizes) (assets : Assets) (hooks : List Hook) (opened : Option DeskView) (before since : List Link)
    (moment last : DeskView) (new : Option DeskView) (old_out new_out : List Bounds) (count x y : ℕ)
    → (first : IsNew sizes assets hooks opened) → AreLinked before first.desk moment
    → AreLinked since moment last → list_any empties since ≡ false → AreTaken last new old_out new_out count done
    → x < sizes.width → y < sizes.height → covers (map rectangle_of (take count new_out)) (pos x) (pos y) ≡ false
    → let d = machine (empty_desk sizes assets (shelf_of hooks)) (steps_done 0 before) in
    pen_at (screen (machine d (steps_done 0 since))) x y ≡ pen_at (screen d) x y
