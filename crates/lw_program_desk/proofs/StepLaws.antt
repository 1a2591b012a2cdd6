-- What a call leaves of the desk, by what it leaves of the parts.
use Rattle.std.proofs.Common.{◌≡◌, refl, ◌∙◌, sym, subst, List, Some, Ok, Err, Result, IfOk, OnErr}
use Rattle.lw_region.specs.Rectangle.{Rectangle}
use Rattle.lw_calls.specs.declared.call.Call.{Call}
use Rattle.lw_calls.specs.declared.reply.Reply.{Reply}
use Rattle.lw_machine.specs.Desk.{Desk}
use Rattle.lw_machine.specs.Step.{after, reply}
use Rattle.lw_program_desk.specs.Views.{DeskView, PartsView, PartsAre, StandsFor, IsKept, with_changes}
use Rattle.lw_program_desk.specs.Standing.{IsStep, StandsStill}
use Rattle.lw_program_desk.specs.Noting.{AreOnScreen}

same_parts : (a b : PartsView) → Some a ≡ Some b → a ≡ b
same_parts a b e = cc

-- the desk with other parts
abbrev pub with_parts : DeskView → PartsView → DeskView
with_parts v new = record { sizes = v.sizes; assets = v.assets; held = Some new; changes = v.changes }

pub old_stand : (v : DeskView) (old : PartsView) → v.held ≡ Some old → (d : Desk) → StandsFor v d → PartsAre v.sizes v.assets old d
old_stand v old held d s =
    let same : s.parts ≡ old = same_parts s.parts old (sym s.held ∙ held) in
    subst (λ p. PartsAre v.sizes v.assets p d) same s.stand

new_stand : (v : DeskView) (new : PartsView) (d : Desk) → PartsAre v.sizes v.assets new d → StandsFor (with_parts v new) d
new_stand v new d h = record { parts = new; held = refl; stand = h }

pub kept_after : {E : Type 0} (v : DeskView) (call : Call) (old new : PartsView) (told : Result Reply E) → v.held ≡ Some old → IsKept v
    → IfOk told (λ r. (d : Desk) → PartsAre v.sizes v.assets old d → (r ≡ reply d 0 call) × PartsAre v.sizes v.assets new (after d 0 call))
    → OnErr told ((d : Desk) → PartsAre v.sizes v.assets old d → PartsAre v.sizes v.assets new d)
    → IsKept (with_parts v new)
kept_after v call old new (Ok r) held k step still =
    let next = after k.desk 0 call in
    record {
      desk = next;
      stands = new_stand v new next (step k.desk (old_stand v old held k.desk k.stands)).1;
      limits = k.limits;
      task = k.task;
      on_screen = k.on_screen;
      ordered = k.ordered;
    }
kept_after v call old new (Err e) held k step still =
    record {
      desk = k.desk;
      stands = new_stand v new k.desk (still k.desk (old_stand v old held k.desk k.stands));
      limits = k.limits;
      task = k.task;
      on_screen = k.on_screen;
      ordered = k.ordered;
    }

pub still_after : {E : Type 0} (v : DeskView) (old new : PartsView) (told : Result Reply E) → v.held ≡ Some old
    → OnErr told ((d : Desk) → PartsAre v.sizes v.assets old d → PartsAre v.sizes v.assets new d)
    → OnErr told (StandsStill v (with_parts v new))
still_after v old new (Ok r) held still = tt
still_after v old new (Err e) held still = λ d s. new_stand v new d (still d (old_stand v old held d s))

-- whatever it notes, it stands for the same
pub stands_with : (v : DeskView) (changes : List Rectangle) (d : Desk) → StandsFor v d → StandsFor (with_changes v changes) d
stands_with v changes d s = record { parts = s.parts; held = s.held; stand = s.stand }

pub kept_with : (v : DeskView) (changes : List Rectangle) → AreOnScreen v.sizes changes → IsKept v
    → IsKept (with_changes v changes)
kept_with v changes there k = record {
  desk = k.desk;
  stands = stands_with v changes k.desk k.stands;
  limits = k.limits;
  task = k.task;
  on_screen = there.inside;
  ordered = there.ordered;
}

-- so after a step
pub step_with : (old stepped new : DeskView) (call : Call) (r : Reply) → IsStep old call r stepped
    → new ≡ with_changes stepped new.changes → IsStep old call r new
step_with old stepped new call r step is = λ d s. (
  (step d s).0,
  subst (λ (w : DeskView). StandsFor w (after d 0 call)) (sym is)
      (stands_with stepped new.changes (after d 0 call) (step d s).1),
)
