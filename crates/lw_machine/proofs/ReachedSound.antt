-- Every desk that a history of calls that fit reaches is sound.
use Rattle.std.proofs.Common.{◌≡◌, ℕ, ◌==◌, Bool, true, false, List, [], ◌∷◌, All, Option, Some, None, IsTrue, refl, sym, subst}
use Rattle.std.specs.Prelude.{if◌then◌else◌}
use Rattle.std.proofs.lemmas.List.Elements.{All-head, All-tail}
use Rattle.lw_calls.specs.declared.sizes.Sizes.{Sizes}
use Rattle.lw_calls.specs.declared.call.Call.{Call}
use Rattle.lw_calls.specs.declared.call.Call.TheVariants.{InFrontOf}
use Rattle.lw_calls.specs.declared.entry.Entry.{Entry}
use Rattle.lw_calls.specs.declared.reply.Reply.{Reply}
use Rattle.lw_machine.specs.Hook.{Hook}
use Rattle.lw_machine.specs.Desk.{Desk, empty_desk}
use Rattle.lw_calls.specs.Assets.{Assets}
use Rattle.lw_calls.specs.Limits.{IsWithinLimits, call_fits}
use Rattle.lw_machine.specs.Arrangement.{without, put_before}
use Rattle.lw_machine.specs.Step.{refusal, changed_unless, effect, after}
use Rattle.lw_calls.specs.Touches.{is_arrangement}
use Rattle.lw_machine.specs.History.{machine}
use Rattle.lw_machine.specs.Sound.{IsDesk}
use Rattle.lw_machine.specs.Laws.{ReachedDesksAreSound}
use Rattle.lw_machine.proofs.ArrangementSound.{arrangement_sound}
use Rattle.lw_machine.proofs.LayerCallSound.{layer_call_sound}

-- a desk before the first call is sound
empty_sound : (sizes : Sizes) (assets : Assets) (shelf : ℕ → Option Hook) → IsWithinLimits sizes
    → IsDesk (empty_desk sizes assets shelf)
empty_sound sizes assets shelf limits =
    record {
      limits = limits;
      beyond = λ s past. refl;
      listed = λ s. refl;
      backdrops = refl;
      slots = λ s. refl;
      active = refl;
    }

-- no arrangement changes the sizes
same_sizes : (b : Bool) (d e : Desk) → e.sizes ≡ d.sizes → (if b then d else e).sizes ≡ d.sizes
same_sizes true d e same = refl
same_sizes false d e same = same

-- no call changes the sizes
effect_sizes : (d : Desk) (task : ℕ) (call : Call) → (effect d task call).sizes ≡ d.sizes
effect_sizes d task (InFrontOf slot other) =
    same_sizes (slot == other) d
    (record d { front_to_back = put_before (λ t. t == other) slot (without slot d.front_to_back) }) refl
effect_sizes d task call = refl

unless_refused_sizes : (o : Option Reply) (d e : Desk) → e.sizes ≡ d.sizes → (changed_unless o d e).sizes ≡ d.sizes
unless_refused_sizes None d e same = same
unless_refused_sizes (Some r) d e same = refl

pub after_sizes : (d : Desk) (task : ℕ) (call : Call) → (after d task call).sizes ≡ d.sizes
unfolding after
after_sizes d task call = unless_refused_sizes (refusal d task call) d (effect d task call) (effect_sizes d task call)

-- A call that fits leaves a sound desk sound.
pub step_sound : (d : Desk) (task : ℕ) (call : Call) → IsDesk d → IsTrue (call_fits d.sizes call) → IsDesk (after d task call)
step_sound d task call ok fits = go (is_arrangement call) refl
  where
    go : (b : Bool) → is_arrangement call ≡ b → IsDesk (after d task call)
    go true e = arrangement_sound d task call ok fits e
    go false e = layer_call_sound d task call ok fits e

-- after each step of a history the desk is sound
pub machine_sound : (es : List Entry) (d : Desk) → IsDesk d → All (λ e. IsTrue (call_fits d.sizes e.call)) es
    → IsDesk (machine d es)
machine_sound [] d ok fit = ok
machine_sound (e ∷ es) d ok fit =
    let fits : IsTrue (call_fits d.sizes e.call) = All-head (λ e. IsTrue (call_fits d.sizes e.call)) e es fit in
    let rest : All (λ e. IsTrue (call_fits d.sizes e.call)) es = All-tail (λ e. IsTrue (call_fits d.sizes e.call)) e es fit in
    let P : Sizes → Type 0 = λ sizes. All (λ e. IsTrue (call_fits sizes e.call)) es in
    machine_sound es (after d e.task e.call) (step_sound d e.task e.call ok fits)
    (subst P (sym (after_sizes d e.task e.call)) rest)

-- Every desk that a history of calls that fit reaches is sound.
pub reached_sound : ReachedDesksAreSound
reached_sound sizes assets shelf es limits fit =
    machine_sound es (empty_desk sizes assets shelf) (empty_sound sizes assets shelf limits) fit
