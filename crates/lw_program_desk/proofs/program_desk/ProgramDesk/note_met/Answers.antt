use Rattle.std.proofs.Common.{◌≡◌, ◌∙◌, ◌++◌, List, ℕ, subst, take}
use Rattle.std.specs.List.{flat_map}
use Rattle.std.proofs.lemmas.List.{take_all}
use Rattle.lw_changes.specs.Touched.{bounds_list, repainted_in}
use Rattle.lw_program_desk.specs.Noting.{AreNoted}
use Rattle.lw_program_desk.proofs.NotingLaws.{none_noted, more_noted}
use Rattle.lw_program_desk.proofs.program_desk.ProgramDesk.note_met.Goals as goal

pub loop-slot-init : goal.loop-slot-init
loop-slot-init c = ((λ e stands. none_noted c.args.self.now.sizes c.args.changes.now), λ all. all)

pub loop-slot-preserved : goal.loop-slot-preserved
loop-slot-preserved c = (
  (λ e stands.
      let f = repainted_in e (bounds_list c.args.own.now ++ bounds_list c.args.is.now) in
      more_noted c.args.self.now.sizes f c.layers-slots.result.now c.loop-slot.slot-index _ _ _
      c.loop-slot-test.true (c.loop-slot.invariant.0 e stands) (c.note_if_met.ensures.noted e stands)),
  λ all. c.note_if_met.ensures.on_screen (c.loop-slot.invariant.1 all),
)

pub returns-clause-noted : goal.returns-clause-noted
returns-clause-noted c = λ e stands.
    let f = repainted_in e (bounds_list c.args.own.now ++ bounds_list c.args.is.now) in
    let P : List ℕ → Type 0 = λ list. AreNoted c.args.self.now.sizes (flat_map f list) c.args.changes.now c.loop-slot.changes in
    let all : take c.loop-slot.slot-index c.layers-slots.result.now ≡ e.front_to_back =
    take_all c.loop-slot.slot-index c.layers-slots.result.now c.loop-slot-test.false ∙ c.layers-slots.ensures e stands in
    subst P all (c.loop-slot.invariant.0 e stands)

pub returns-clause-on_screen : goal.returns-clause-on_screen
returns-clause-on_screen c = c.loop-slot.invariant.1
