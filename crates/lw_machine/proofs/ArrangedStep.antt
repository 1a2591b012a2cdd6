-- An arrangement that isn't refused settles the desk that it arranged.
use Rattle.std.proofs.Common.{◌≡◌, ℕ, true, None, refl, ap, ◌∙◌}
use Rattle.std.proofs.lemmas.Bool.{false≢true}
use Rattle.lw_calls.specs.declared.call.Call.{Call}
use Rattle.lw_calls.specs.declared.call.Call.TheVariants.{Create, OpenWindow, Close, ToFront, ToBack, InFrontOf, MoveBy, SizeBy}
use Rattle.lw_calls.specs.declared.call.Call.TheVariants.{SetBox, Activate}
use Rattle.lw_calls.specs.Touches.{is_arrangement}
use Rattle.lw_machine.specs.Desk.{Desk}
use Rattle.lw_machine.specs.Arrangement.{arranged}
use Rattle.lw_machine.specs.Reveal.{settled}
use Rattle.lw_machine.specs.Step.{refusal, effect, after, changed_unless}

-- what an arrangement does
pub effect_is : (d : Desk) (task : ℕ) (call : Call) → is_arrangement call ≡ true
    → effect d task call ≡ settled d (arranged d task call)
effect_is d task (Create slot make) all = refl
effect_is d task (OpenWindow slot make framed nocare asks title) all = refl
effect_is d task (Close slot) all = refl
effect_is d task (ToFront slot) all = refl
effect_is d task (ToBack slot) all = refl
effect_is d task (InFrontOf slot other) all = refl
effect_is d task (MoveBy slot dx dy) all = refl
effect_is d task (SizeBy slot dw dh) all = refl
effect_is d task (SetBox slot x y w h) all = refl
effect_is d task (Activate slot) all = refl
effect_is d task call all = absurd (false≢true all)

-- the desk after it
pub after_is : (d : Desk) (task : ℕ) (call : Call) → is_arrangement call ≡ true → refusal d task call ≡ None
    → after d task call ≡ settled d (arranged d task call)
unfolding after
after_is d task call all done = ap (λ o. changed_unless o d (effect d task call)) done ∙ effect_is d task call all
