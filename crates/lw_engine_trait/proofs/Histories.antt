-- The machine after a history, by the history's parts.
use Rattle.std.proofs.Common.{◌≡◌, List, [], ◌∷◌, ◌++◌, refl, sym, subst, ◌∙◌}
use Rattle.std.specs.Prelude.{All, IsTrue}
use Rattle.lw_calls.specs.declared.entry.Entry.{Entry}
use Rattle.lw_calls.specs.Limits.{IsWithinLimits, call_fits}
use Rattle.lw_machine.specs.Desk.{Desk, empty_desk}
use Rattle.lw_machine.specs.History.{machine}
use Rattle.lw_machine.specs.Sound.{IsDesk}
use Rattle.lw_machine.specs.Step.{after}
use Rattle.lw_machine.proofs.Locality.{after_assets}
use Rattle.lw_machine.proofs.ReachedSound.{after_sizes, reached_sound}
use Rattle.lw_engine_trait.specs.Steps.{IsDeskOf}

-- the machine takes one history after another
pub machine_append : (d : Desk) (es fs : List Entry) → machine d (es ++ fs) ≡ machine (machine d es) fs
machine_append d [] fs = refl
machine_append d (x ∷ es) fs = machine_append (after d x.task x.call) es fs

-- and one step more
pub machine_push : (d : Desk) (es : List Entry) (e : Entry) → machine d (es ++ e ∷ []) ≡ after (machine d es) e.task e.call
machine_push d es e = machine_append d es (e ∷ [])

-- what was handed in stays
pub machine_assets : (d : Desk) (es : List Entry) → (machine d es).assets ≡ d.assets
machine_assets d [] = refl
machine_assets d (x ∷ es) = machine_assets (after d x.task x.call) es ∙ after_assets d x.task x.call

-- and so do the sizes
pub machine_sizes : (d : Desk) (es : List Entry) → (machine d es).sizes ≡ d.sizes
machine_sizes d [] = refl
machine_sizes d (x ∷ es) = machine_sizes (after d x.task x.call) es ∙ after_sizes d x.task x.call

-- from an empty desk a history of calls that fit reaches a sound one, with the same sizes and assets
pub reached : (d : Desk) (es : List Entry) → d ≡ empty_desk d.sizes d.assets d.shelf → IsWithinLimits d.sizes → All (λ e. IsTrue (call_fits d.sizes e.call)) es → IsDeskOf d.sizes d.assets (machine d es)
reached d es empty limits fits =
    record {
      sound = subst (λ e. IsDesk (machine e es)) (sym empty) (reached_sound d.sizes d.assets d.shelf es limits fits);
      sizes = machine_sizes d es;
      assets = machine_assets d es;
    }
