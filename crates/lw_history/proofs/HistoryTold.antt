-- Each step, and so each history, leaves just that damaged of each simple layer which is hurt after it.
use Rattle.std.proofs.Common.{◌≡◌, ℕ, Bool, true, false, ◌&&◌, List, [], ◌∷◌, ◌++◌, All, Option, Some, None, IsTrue, refl, sym}
use Rattle.std.proofs.Common.{ap, subst, ◌∙◌}
use Rattle.std.specs.Prelude.{if◌then◌else◌}
use Rattle.std.proofs.lemmas.Bool.{and_parts, and_from}
use Rattle.std.proofs.lemmas.List.Elements.{All-nil, All-head, All-tail}
use Rattle.lw_planes.specs.Grid.{at}
use Rattle.lw_calls.specs.declared.sizes.Sizes.{Sizes}
use Rattle.lw_calls.specs.declared.make.Kind.TheVariants.{Simple}
use Rattle.lw_calls.specs.declared.call.Call.{Call}
use Rattle.lw_calls.specs.declared.entry.Entry.{Entry}
use Rattle.lw_calls.specs.declared.reply.Reply.{Reply}
use Rattle.lw_calls.specs.Limits.{call_fits}
use Rattle.lw_calls.specs.Touches.{is_arrangement}
use Rattle.lw_machine.specs.Layer.{Layer, Live, layer_is}
use Rattle.lw_machine.specs.Desk.{Desk, empty_desk}
use Rattle.lw_machine.specs.Kept.{is_visible, is_kept, is_inside}
use Rattle.lw_machine.specs.Step.{refusal, effect, after, changed_unless}
use Rattle.lw_machine.specs.History.{machine}
use Rattle.lw_machine.specs.Sound.{IsKeeping, IsSlot, IsDesk}
use Rattle.lw_machine.specs.Hurt.{Hurts, is_not_refused, hurt_in_slot, hurt_after_step, hurt_after_history}
use Rattle.lw_machine.proofs.ArrangedStep.{effect_is}
use Rattle.lw_machine.proofs.ReachedSound.{after_sizes, step_sound, reached_sound}
use Rattle.lw_history.specs.Laws.{DamageIsItsHistory, TheLastEntryTells}
use Rattle.lw_history.proofs.Told.{IsTold, guarded}
use Rattle.lw_history.proofs.CallTold.{call_told}
use Rattle.lw_history.proofs.ArrangementTold.{arrangement_told}

-- what a call leaves of a layer in slot s at a pixel that it keeps in its inner rectangle, by whether it was refused
abbrev Leaves : Desk → Call → Hurts → ℕ → Layer → ℕ → ℕ → Desk → Option Reply → Type 0
Leaves d call hurt s m x y e refused =
    IsDesk e → e.slot s ≡ Live m → m.kind ≡ Simple → is_kept (is_visible e s m) m x y ≡ true → is_inside m x y ≡ true
    → at false m.damage x y ≡ (if is_not_refused refused then hurt_in_slot d e s (d.slot s) call (hurt s) x y else hurt s x y)

step_leaves : (d : Desk) (task : ℕ) (call : Call) (hurt : Hurts) (s : ℕ) (m : Layer) (x y : ℕ) → IsDesk d → IsTold d hurt
    → Leaves d call hurt s m x y (after d task call) (refusal d task call)
unfolding after
step_leaves d task call hurt s m x y ok told = by_refusal (refusal d task call) refl
  where
    done : (b : Bool) → is_arrangement call ≡ b → refusal d task call ≡ None
        → Leaves d call hurt s m x y (effect d task call) None
    done true arranges none =
        subst (λ e. Leaves d call hurt s m x y e None) (sym (effect_is d task call arranges))
        (λ sound is simple kept inside. arrangement_told d task call hurt ok told arranges none sound s m x y is simple kept
        inside)
    done false plain none =
        λ sound is simple kept inside. call_told d task call hurt (effect d task call) told plain s m x y is simple inside

    by_refusal : (o : Option Reply) → refusal d task call ≡ o
        → Leaves d call hurt s m x y (changed_unless o d (effect d task call)) o
    by_refusal None none = done (is_arrangement call) refl none
    by_refusal (Some r) refused = λ sound is simple kept inside. told s m x y is simple

-- a step on a sound desk
step_told : (d : Desk) (task : ℕ) (call : Call) (hurt : Hurts) → IsDesk d → IsTrue (call_fits d.sizes call) → IsTold d hurt
    → IsTold (after d task call) (hurt_after_step d task call hurt)
step_told d task call hurt ok fits told s m x y is simple =
    guarded (at false m.damage x y) (is_kept (is_visible e s m) m x y && is_inside m x y) v
    (λ has. and_from _ _ (keeping.damage_kept x y has) ((and_parts _ (is_inside m x y) (keeping.damage_inner x y has)).1))
    (λ on. let parts =
    and_parts (is_kept (is_visible e s m) m x y) (is_inside m x y) on in
    step_leaves d task call hurt s m x y ok told sound is simple parts.0 parts.1) ∙
    ap (λ q. layer_is (λ l. is_kept (is_visible e s l) l x y && is_inside l x y) q && v) (sym is)
  where
    e : Desk
    e = after d task call

    sound : IsDesk e
    sound = step_sound d task call ok fits

    keeping : IsKeeping e.sizes.depth (is_visible e s m) m
    keeping = let slot_is : IsSlot e s (Live m) = subst (λ q. IsSlot e s q) is (sound.slots s) in slot_is.1

    v : Bool
    v = if is_not_refused (refusal d task call) then hurt_in_slot d e s (d.slot s) call (hurt s) x y else hurt s x y

-- a history from a sound desk on
pub history_told : (es : List Entry) (d : Desk) (hurt : Hurts) → IsDesk d → All (λ e. IsTrue (call_fits d.sizes e.call)) es
    → IsTold d hurt → IsTold (machine d es) (hurt_after_history d es hurt)
history_told [] d hurt ok fit told = told
history_told (e ∷ es) d hurt ok fit told =
    let fits : IsTrue (call_fits d.sizes e.call) = All-head (λ e. IsTrue (call_fits d.sizes e.call)) e es fit in
    let rest : All (λ e. IsTrue (call_fits d.sizes e.call)) es = All-tail (λ e. IsTrue (call_fits d.sizes e.call)) e es fit in
    let P : Sizes → Type 0 = λ sizes. All (λ e. IsTrue (call_fits sizes e.call)) es in
    history_told es (after d e.task e.call) (hurt_after_step d e.task e.call hurt) (step_sound d e.task e.call ok fits)
    (subst P (sym (after_sizes d e.task e.call)) rest)
    (step_told d e.task e.call hurt ok fits told)

pub damage_is_history : DamageIsItsHistory
damage_is_history sizes assets shelf es s l x y limits fit is simple =
    history_told es (empty_desk sizes assets shelf) (λ _ _ _. false)
    (reached_sound sizes assets shelf [] limits (All-nil (λ e. IsTrue (call_fits sizes e.call)))) fit
    (λ _ _ _ _ was _. absurd (cc was)) s l x y is simple

-- the last entry of a history, whatever was hurt before it
last_entry : (d : Desk) (es : List Entry) (e : Entry) (hurt : Hurts)
    → hurt_after_history d (es ++ e ∷ []) hurt ≡ hurt_after_step (machine d es) e.task e.call (hurt_after_history d es hurt)
last_entry d [] e hurt = refl
last_entry d (f ∷ es) e hurt = last_entry (after d f.task f.call) es e (hurt_after_step d f.task f.call hurt)

pub last_entry_tells : TheLastEntryTells
last_entry_tells d es e = last_entry d es e (λ _ _ _. false)
