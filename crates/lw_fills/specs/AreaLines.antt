-- What the line of an area gives its task: fills that are one drawing.
use Rattle.std.specs.Prelude.{◌≡◌, ℕ, zero, suc, ◌+◌, is_none, if◌then◌else◌, List, [], ◌∷◌, length, Option}
use Rattle.lw_area.specs.declared.point.Point.{Point}
use Rattle.lw_area.specs.Areas.{is_in_area, area_rectangles}
use Rattle.lw_calls.specs.declared.call.Call.{Call}
use Rattle.lw_calls.specs.declared.group.Hold.TheVariants.{Slot}
use Rattle.lw_calls.specs.declared.group.Group.{Group}
use Rattle.lw_grammar.specs.Statements.{AreaLine}
use Rattle.lw_grammar.specs.Told.{Told, and_name, place_among, onto_last, area_words, stands_for, told_all}
use Rattle.lw_machine.specs.Desk.{Desk}
use Rattle.lw_machine.specs.Step.{drawn_on}
use Rattle.lw_machine.specs.Sound.{IsDesk}
use Rattle.lw_gzz.specs.Together.{after_all}
use Rattle.lw_fills.specs.Fills.{fills, area_fill}

-- the calls of tasks with further ones of the last task
abbrev pub with_calls : List Call → List (List Call) → List (List Call)
with_calls [] calls = calls
with_calls (c ∷ cs) calls = with_calls cs (onto_last c calls)

-- the slot of a layer that a line names
abbrev pub slot_on : Told → List ℕ → ℕ
slot_on t layer = place_among (and_name t.names layer) layer

-- The groups of tasks after so many fills of a layer: in no group they are one group, which holds the layer. No fill makes none.
abbrev pub groups_after : Told → ℕ → ℕ → List (List Group)
groups_after t slot zero = t.groups
groups_after t slot (suc n) =
    if is_none t.group
    then onto_last (record { first = t.calls_in_task; last = t.calls_in_task + n; hold = Slot slot }) t.groups
    else t.groups

-- Below lines that tell this, an area on a layer gives the task fills, grouped so, and on each desk these are one drawing of the
-- area's pixels.
pub record IsOneDrawing (t : Told) (layer : List ℕ) (pattern : Option (List ℕ)) (points : List Point) : Type 0 where
  pub calls : (told_all (stands_for t (AreaLine layer pattern points)) t).calls
      ≡ with_calls (fills (slot_on t layer) (area_rectangles points (area_words t pattern))) t.calls
  pub groups : (told_all (stands_for t (AreaLine layer pattern points)) t).groups
      ≡ groups_after t (slot_on t layer) (length (area_rectangles points (area_words t pattern)))
  pub drawing : (d : Desk) (task : ℕ) → IsDesk d
      → after_all d task (fills (slot_on t layer) (area_rectangles points (area_words t pattern)))
      ≡ drawn_on d (slot_on t layer) (area_fill (is_in_area points (area_words t pattern)))

-- every area is one drawing
abbrev pub AreaLinesAreOneDrawing : Type 0
AreaLinesAreOneDrawing =
    (t : Told) (layer : List ℕ) (pattern : Option (List ℕ)) (points : List Point) → IsOneDrawing t layer pattern points
