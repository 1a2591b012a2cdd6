-- The steps of all tasks on one desk, and those of one task alone on another that is alike to it.
use Rattle.std.proofs.Common.{◌≡◌, ℕ, ◌==◌, Bool, true, false, List, [], ◌∷◌, All, Option, Some, None, IsTrue, refl, sym, ap, ap₂}
use Rattle.std.proofs.Common.{subst, ◌∙◌}
use Rattle.std.specs.Prelude.{if◌then◌else◌}
use Rattle.std.proofs.lemmas.Bool.{eqb-true, eqb-false, ne_eqb}
use Rattle.std.proofs.lemmas.List.Elements.{All-head, All-tail}
use Rattle.lw_calls.specs.declared.sizes.Sizes.{Sizes}
use Rattle.lw_calls.specs.declared.call.Call.{Call}
use Rattle.lw_calls.specs.declared.call.Call.TheVariants.{Create, ToFront, SetA, ReadPixel, Fill}
use Rattle.lw_calls.specs.declared.entry.Entry.{Entry}
use Rattle.lw_calls.specs.declared.reply.Reply.{Reply}
use Rattle.lw_calls.specs.Limits.{call_fits}
use Rattle.lw_machine.specs.Layer.{Live}
use Rattle.lw_machine.specs.Desk.{Desk}
use Rattle.lw_machine.specs.Arrangement.{bounds_of, new_layer, hook_from, has_backdrop, arranged}
use Rattle.lw_machine.specs.Step.{refusal, effect, changed_unless, reply_or, after, reply}
use Rattle.lw_machine.specs.History.{machine, replies_of}
use Rattle.lw_machine.specs.Sound.{IsDesk}
use Rattle.lw_machine.proofs.CreatedSound.{other_value}
use Rattle.lw_machine.proofs.ReachedSound.{step_sound, after_sizes}
use Rattle.lw_apart.specs.TaskSteps.{steps_of}
use Rattle.lw_apart.specs.Apart.{Shares, IsOwn}
use Rattle.lw_apart.proofs.SlotLists.{other_placed, other_front}
use Rattle.lw_apart.proofs.Slots.{bare_slot, listed_before}
use Rattle.lw_apart.proofs.Shared.{IsShared, created_ordinary, shared_after}
use Rattle.lw_apart.proofs.Alike.{IsAlike, settled_beside, effect_alike, refused_alike, answered_alike}

-- what a step leaves, by its refusal
after_done : (d : Desk) (task : ℕ) (call : Call) → refusal d task call ≡ None → after d task call ≡ effect d task call
unfolding after
after_done d task call is = ap (λ o. changed_unless o d (effect d task call)) is

after_refused : (d : Desk) (task : ℕ) (call : Call) (r : Reply) → refusal d task call ≡ Some r → after d task call ≡ d
unfolding after
after_refused d task call r is = ap (λ o. changed_unless o d (effect d task call)) is

module _ (shares : Shares) (task : ℕ) where
  -- a step of the task on both desks
  step_alike : (d e : Desk) (mover : ℕ) (call : Call) → mover ≡ task → IsTrue (call_fits d.sizes call) → IsOwn shares mover call
      → IsShared shares d → IsShared shares e → IsAlike shares task d e
      → IsAlike shares task (after d mover call) (after e mover call)
  step_alike d e mover call ours fits own ok other alike = go (refusal d mover call) refl
    where
      same : refusal d mover call ≡ refusal e mover call
      same = refused_alike shares task d e mover call ours own alike

      fits_too : IsTrue (call_fits e.sizes call)
      fits_too = subst (λ (s : Sizes). IsTrue (call_fits s call)) alike.sizes fits

      go : (o : Option Reply) → refusal d mover call ≡ o → IsAlike shares task (after d mover call) (after e mover call)
      go None is =
          let left = after_done d mover call is in
          let right = after_done e mover call (sym same ∙ is) in
          let sound : IsDesk (effect d mover call) = subst IsDesk left (step_sound d mover call ok.sound fits) in
          let other_sound : IsDesk (effect e mover call) = subst IsDesk right (step_sound e mover call other.sound fits_too) in
          let done = effect_alike shares task d e mover call ours own ok other sound other_sound alike in
          subst (λ f. IsAlike shares task f (after e mover call)) (sym left)
          (subst (IsAlike shares task (effect d mover call)) (sym right) done)
      go (Some r) is =
          subst (λ f. IsAlike shares task f (after e mover call)) (sym (after_refused d mover call r is))
          (subst (IsAlike shares task d) (sym (after_refused e mover call r (sym same ∙ is))) alike)

  -- it is answered alike
  reply_alike : (d e : Desk) (mover : ℕ) (call : Call) → mover ≡ task → IsOwn shares mover call → IsShared shares d
      → IsAlike shares task d e → reply d mover call ≡ reply e mover call
  unfolding reply
  reply_alike d e mover call ours own ok alike =
      ap₂ reply_or (refused_alike shares task d e mover call ours own alike)
      (answered_alike shares task d e mover call ours own ok.ordinary alike)

  -- a slot of another task isn't one of this task's
  another : (slot mover s : ℕ) → shares.slot slot ≡ mover → (mover ≡ task → ⊥) → (shares.slot s == task) ≡ true
      → (s == slot) ≡ false
  another slot mover s of other mine =
      ne_eqb s slot (λ same. other (sym of ∙ (ap shares.slot (sym same) ∙ eqb-true (shares.slot s) task mine)))

  not_mine : (slot mover : ℕ) → shares.slot slot ≡ mover → (mover ≡ task → ⊥) → (shares.slot slot == task) ≡ false
  not_mine slot mover of other = ne_eqb (shares.slot slot) task (λ is. other (sym of ∙ is))

  -- the effect of another task's call on the desk of all
  effect_beside : (d e : Desk) (mover : ℕ) (call : Call) → (mover ≡ task → ⊥) → IsOwn shares mover call → IsShared shares d
      → IsShared shares e → IsDesk (effect d mover call) → IsAlike shares task d e
      → IsAlike shares task (effect d mover call) e
  effect_beside d e mover (Create slot make) theirs own ok other sound alike =
      let a : Desk = arranged d mover (Create slot make) in
      settled_beside shares task d e a ok.ordinary (created_ordinary shares d mover slot make own ok.ordinary) other alike
      (record {
        sizes = alike.sizes;
        list = alike.list ∙ sym
            (other_placed (λ s. shares.slot s == task) (has_backdrop d) make.backdrop make.place slot d.front_to_back
            (not_mine slot mover own.0 theirs));
        bounds = λ s mine. other_value slot s (Some (bounds_of make)) d.bounds (another slot mover s own.0 theirs mine) ∙
            alike.bounds s mine;
        slots = λ s mine. ap bare_slot
            (other_value slot s (Live (new_layer d.sizes.depth make (hook_from d.shelf make.hook) None)) d.slot
            (another slot mover s own.0 theirs mine)) ∙ alike.slots s mine;
      }) (λ s. listed_before d a s sound)
  effect_beside d e mover (ToFront slot) theirs own ok other sound alike =
      let a : Desk = arranged d mover (ToFront slot) in
      settled_beside shares task d e a ok.ordinary
      (record { columns = ok.ordinary.columns; plain = ok.ordinary.plain }) other alike
      (record {
        sizes = alike.sizes;
        list = alike.list ∙ sym (other_front (λ s. shares.slot s == task) slot d.front_to_back (not_mine slot mover own theirs));
        bounds = alike.bounds;
        slots = alike.slots;
      }) (λ s. listed_before d a s sound)
  effect_beside d e mover (SetA slot pen) theirs own ok other sound alike = record {
    sizes = alike.sizes;
    list = alike.list;
    bounds = alike.bounds;
    slots = λ s mine. ap bare_slot (other_value slot s _ d.slot (another slot mover s own theirs mine)) ∙ alike.slots s mine;
  }
  effect_beside d e mover (Fill slot rect) theirs own ok other sound alike = record {
    sizes = alike.sizes;
    list = alike.list;
    bounds = alike.bounds;
    slots = λ s mine. ap bare_slot (other_value slot s _ d.slot (another slot mover s own theirs mine)) ∙ alike.slots s mine;
  }
  effect_beside d e mover (ReadPixel slot x y) theirs own ok other sound alike = alike
  effect_beside d e mover call theirs own ok other sound alike = absurd own

  step_beside : (d e : Desk) (mover : ℕ) (call : Call) → (mover ≡ task → ⊥) → IsTrue (call_fits d.sizes call)
      → IsOwn shares mover call → IsShared shares d → IsShared shares e → IsAlike shares task d e
      → IsAlike shares task (after d mover call) e
  step_beside d e mover call theirs fits own ok other alike = go (refusal d mover call) refl
    where
      go : (o : Option Reply) → refusal d mover call ≡ o → IsAlike shares task (after d mover call) e
      go None is =
          let left = after_done d mover call is in
          let sound : IsDesk (effect d mover call) = subst IsDesk left (step_sound d mover call ok.sound fits) in
          subst (λ f. IsAlike shares task f e) (sym left) (effect_beside d e mover call theirs own ok other sound alike)
      go (Some r) is = subst (λ f. IsAlike shares task f e) (sym (after_refused d mover call r is)) alike

  -- What is alike after all steps on the one desk, and the task's alone on the other: the desks, and the task's replies.
  pub record RunsAlike (d e : Desk) (es : List Entry) : Type 0 where
    pub desks : IsAlike shares task (machine d es) (machine e (steps_of task es))
    pub shared : IsShared shares (machine d es)
    pub replies : replies_of d task es ≡ replies_of e task (steps_of task es)

  pub runs_alike : (es : List Entry) (d e : Desk) → All (λ x. IsOwn shares x.task x.call) es
      → All (λ x. IsTrue (call_fits d.sizes x.call)) es → IsShared shares d → IsShared shares e → IsAlike shares task d e
      → RunsAlike d e es
  runs_alike [] d e own fit ok other alike = record { desks = alike; shared = ok; replies = refl }
  runs_alike (x ∷ es) d e own fit ok other alike =
      step (x.task == task) refl
      (λ f. runs_alike es (after d x.task x.call) f (All-tail (λ y. IsOwn shares y.task y.call) x es own) fit_after)
    where
      owns : IsOwn shares x.task x.call
      owns = All-head (λ y. IsOwn shares y.task y.call) x es own

      fits : IsTrue (call_fits d.sizes x.call)
      fits = All-head (λ y. IsTrue (call_fits d.sizes y.call)) x es fit

      fit_after : All (λ y. IsTrue (call_fits (after d x.task x.call).sizes y.call)) es
      fit_after =
          subst (λ (s : Sizes). All (λ y. IsTrue (call_fits s y.call)) es) (sym (after_sizes d x.task x.call))
          (All-tail (λ y. IsTrue (call_fits d.sizes y.call)) x es fit)

      fits_too : IsTrue (call_fits e.sizes x.call)
      fits_too = subst (λ (s : Sizes). IsTrue (call_fits s x.call)) alike.sizes fits

      now : IsShared shares (after d x.task x.call)
      now = shared_after shares d x.task x.call fits owns ok

      step : (b : Bool) → (x.task == task) ≡ b
          → ((f : Desk) → IsShared shares (after d x.task x.call) → IsShared shares f
          → IsAlike shares task (after d x.task x.call) f → RunsAlike (after d x.task x.call) f es)
          → RunsAlike d e (x ∷ es)
      step true is rest =
          let ours : x.task ≡ task = eqb-true x.task task is in
          let f : Desk = after e x.task x.call in
          let left =
          rest f now (shared_after shares e x.task x.call fits_too owns other)
          (step_alike d e x.task x.call ours fits owns ok other alike) in
          let first = reply_alike d e x.task x.call ours owns ok alike in
          record {
            desks = subst (λ l. IsAlike shares task (machine d (x ∷ es)) (machine e l))
                (sym (ap (λ t. if t then x ∷ steps_of task es else steps_of task es) is)) left.desks;
            shared = left.shared;
            replies =
                ap (λ t. if t then reply d x.task x.call ∷ replies_of (after d x.task x.call) task es
                else replies_of (after d x.task x.call) task es) is
                ∙ ((λ i. first i ∷ left.replies i)
                ∙ sym (ap (λ t. replies_of e task (if t then x ∷ steps_of task es else steps_of task es)) is
                ∙ ap (λ t. if t then reply e x.task x.call ∷ replies_of f task (steps_of task es)
                else replies_of f task (steps_of task es)) is));
          }
      step false is rest =
          let theirs : x.task ≡ task → ⊥ = eqb-false x.task task is in
          let left = rest e now other (step_beside d e x.task x.call theirs fits owns ok other alike) in
          record {
            desks = subst (λ l. IsAlike shares task (machine d (x ∷ es)) (machine e l))
                (sym (ap (λ t. if t then x ∷ steps_of task es else steps_of task es) is)) left.desks;
            shared = left.shared;
            replies =
                ap (λ t. if t then reply d x.task x.call ∷ replies_of (after d x.task x.call) task es
                else replies_of (after d x.task x.call) task es) is
                ∙ (left.replies ∙ sym (ap (λ t. replies_of e task (if t then x ∷ steps_of task es else steps_of task es)) is));
          }
