-- What a handle's desk stands for after calls and readings, and which calls on it take no memory.
use Rattle.std.proofs.Common.{◌≡◌, ℕ, ◌+◌, Bool, true, false, ◌&&◌, if◌then◌else◌, List, [], ◌∷◌, Option, Some, None}
use Rattle.std.proofs.Common.{unwrap_or, refl, sym, ap, ◌∙◌, subst}
use Rattle.std.specs.Ordering.{int_eq}
use Rattle.std.proofs.lemmas.Bool.{false≢true, or_parts}
use Rattle.std.proofs.lemmas.Bool.Decides.{Decides-int_eq}
use Rattle.lw_calls.specs.declared.call.Call.{Call}
use Rattle.lw_calls.specs.declared.sizes.Sizes.{Sizes}
use Rattle.lw_calls.specs.Limits.{call_fits}
use Rattle.lw_machine.specs.Desk.{Desk, empty_desk, shelf_of}
use Rattle.lw_machine.specs.Step.{after}
use Rattle.lw_machine.specs.History.{machine}
use Rattle.lw_engine_trait.specs.Memory.{takes_memory}
use Rattle.lw_program_desk.specs.Views.{DeskView, StandsFor, with_changes}
use Rattle.lw_c_rectangles.specs.declared.bounds.Bounds.{Bounds}
use Rattle.lw_c_calls.specs.declared.replies.ReplyWords.{ReplyWords}
use Rattle.lw_c_calls.specs.Meant.{has_text, copies_text}
use Rattle.lw_c_desk.specs.Answered.{done, takes_some, IsDone, IsMade}
use Rattle.lw_c_desk.specs.Laws.{MadeCall, MadeReading, Link, IsLink, AreLinked, before_others, steps_done}
use Rattle.lw_c_desk.specs.Laws.{HandlesStandForTheMachine}
use Rattle.lw_c_desk.specs.Laws.{Called, Read}

-- a call that takes no memory copies no text, and takes none as it is made
pub no_text : (sizes : Sizes) (call : Option Call) → takes_some sizes call ≡ false → copies_text call ≡ false
no_text sizes None h = refl
no_text sizes (Some call) h = (or_parts (has_text call) (call_fits sizes call && takes_memory call) h).0

pub no_memory_taken : (sizes : Sizes) (call : Call) → call_fits sizes call ≡ true → takes_some sizes (Some call) ≡ false
    → takes_memory call ≡ false
no_memory_taken sizes call fits h =
    both (call_fits sizes call) (takes_memory call) fits (or_parts (has_text call) (call_fits sizes call && takes_memory call) h).1
  where
    both : (a b : Bool) → a ≡ true → (a && b) ≡ false → b ≡ false
    both true b e k = k
    both false b e k = absurd (false≢true e)

-- after a call that was done, and the rest
done_more : (n : ℕ) (call : Option Call) (rest : List Link) (v u last : DeskView) (d : Desk) (reply : ReplyWords) (old new : List Bounds)
    → IsDone call v u reply old new → StandsFor v d
    → ((k : ℕ) (e : Desk) → StandsFor u e → StandsFor last (machine e (steps_done k rest)))
    → StandsFor last (machine d (before_others n call (λ k. steps_done k rest)))
done_more n None rest v u last d reply old new is stands more = absurd is
done_more n (Some call) rest v u last d reply old new is stands more = more (n + 1) (after d 0 call) (is.step d stands).1

-- after any call, and the rest
one_more : (n : ℕ) (m : MadeCall) (rest : List Link) (v u last : DeskView) (d : Desk) (t : Bool) → int_eq m.answer done ≡ t
    → IsMade m.call v u m.old_reply m.new_reply m.old_rects m.new_rects m.answer → StandsFor v d
    → ((k : ℕ) (e : Desk) → StandsFor u e → StandsFor last (machine e (steps_done k rest)))
    → StandsFor last (machine d (if t then before_others n m.call (λ k. steps_done k rest) else steps_done n rest))
one_more n m rest v u last d true e made stands more =
    done_more n m.call rest v u last d m.new_reply m.old_rects m.new_rects (made.step ((Decides-int_eq m.answer done).0 e)) stands more
one_more n m rest v u last d false e made stands more =
    more n d ((made.kept (λ is. false≢true (sym e ∙ (Decides-int_eq m.answer done).1 is))).desk d stands)

-- after a reading
pub held_desk : (w u : DeskView) → Some w ≡ Some u → w ≡ u
held_desk w u same = ap (λ (o : Option DeskView). unwrap_or o w) same

read_stands : (v u : DeskView) (r : MadeReading) (d : Desk) (t : Bool) → int_eq r.answer done ≡ t → IsLink (Read r) v u
    → StandsFor v d → StandsFor u d
read_stands v u r d true e is stands =
    subst (λ (w : DeskView). StandsFor w d) (sym (held_desk u (with_changes v []) (is.emptied ((Decides-int_eq r.answer done).0 e))))
    (is.desk d stands)
read_stands v u r d false e is stands =
    subst (λ (w : DeskView). StandsFor w d)
    (sym (held_desk u v (is.kept (λ same. false≢true (sym e ∙ (Decides-int_eq r.answer done).1 same))))) stands

pub all_linked : (n : ℕ) (links : List Link) (v last : DeskView) (d : Desk) → StandsFor v d → AreLinked links v last
    → StandsFor last (machine d (steps_done n links))
all_linked n [] v last d stands is = subst (λ w. StandsFor w d) (sym is) stands
all_linked n (Called m ∷ rest) v last d stands is =
    one_more n m rest v is.0 last d (int_eq m.answer done) refl is.1 stands (λ k e s. all_linked k rest is.0 last e s is.2)
all_linked n (Read r ∷ rest) v last d stands is =
    all_linked n rest is.0 last d (read_stands v is.0 r d (int_eq r.answer done) refl is.1 stands) is.2

pub stand_for_the_machine : HandlesStandForTheMachine
stand_for_the_machine sizes assets hooks opened links last new are =
    all_linked 0 links new.desk last (empty_desk sizes assets (shelf_of hooks)) new.stands are
