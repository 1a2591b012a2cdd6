-- The final state of a run, and its report, have the damage that the history tells.
use Rattle.std.proofs.Common.{◌≡◌, ℕ, ◌<◌, ◌≤◌, false, List, [], ◌∷◌, ◌++◌, length, All, Option, Some, None, IsTrue, refl, sym}
use Rattle.std.proofs.Common.{ap, subst, ⊎_elim}
use Rattle.std.specs.Prelude.{map}
use Rattle.std.specs.List.{slice_get, range_with_len}
use Rattle.std.proofs.lemmas.Bool.{cases_lt}
use Rattle.std.proofs.lemmas.List.{get_or_past}
use Rattle.std.proofs.lemmas.List.Elements.{All-nil, All-cons, All-append, All-get_or}
use Rattle.std.proofs.lemmas.Option.{slice_get_within, get_or_from_slice_get}
use Rattle.lw_region.specs.Bands.{bands}
use Rattle.lw_region.specs.Pixels.{Pixel}
use Rattle.lw_planes.specs.Grid.{at}
use Rattle.lw_calls.specs.declared.call.Call.{Call}
use Rattle.lw_calls.specs.declared.entry.Entry.{Entry}
use Rattle.lw_calls.specs.declared.last.Seen.{Seen}
use Rattle.lw_calls.specs.declared.make.Kind.{Kind}
use Rattle.lw_calls.specs.declared.make.Kind.TheVariants.{Simple, Smart, SuperBitmap}
use Rattle.lw_calls.specs.Entries.{count_of, next_entry, entries}
use Rattle.lw_calls.specs.Limits.{call_fits}
use Rattle.lw_calls.specs.Plan.{Plan, IsPlan, task_calls}
use Rattle.lw_machine.specs.Layer.{Layer, Slot, Unopened, Live, Closed}
use Rattle.lw_machine.specs.Desk.{Desk, shelf_of}
use Rattle.lw_machine.specs.History.{machine}
use Rattle.lw_machine.specs.Finals.{pixels_where, shown_set, damage_set, port_of, seen_of, opening_desk, run_final}
use Rattle.lw_machine.specs.Hurt.{Hurts, is_hurt}
use Rattle.lw_machine.specs.Report.{report}
use Rattle.lw_history.specs.ByHistory.{damage_as, hurt_set, seen_by_history, final_by_history}
use Rattle.lw_history.specs.Laws.{RunsTellDamageByHistory}
use Rattle.lw_history.proofs.Told.{IsTold}
use Rattle.lw_history.proofs.HistoryTold.{damage_is_history}

-- the calls of a plan's task fit, also of a task that the plan hasn't got
task_fits : (plan : Plan) (task : ℕ) → IsPlan plan → All (λ c. IsTrue (call_fits plan.sizes c)) (task_calls plan task)
task_fits plan task is = ⊎_elim inside outside (cases_lt task (length plan.calls))
  where
    Fits : List Call → Type 0
    Fits cs = All (λ c. IsTrue (call_fits plan.sizes c)) cs

    inside : task < length plan.calls → Fits (task_calls plan task)
    inside below = All-get_or Fits plan.calls task [] below is.fit

    outside : length plan.calls ≤ task → Fits (task_calls plan task)
    outside past = subst Fits (sym (get_or_past plan.calls task [] past)) (All-nil (λ c. IsTrue (call_fits plan.sizes c)))

-- the call of each entry of a history fits
pub entries_fit : (plan : Plan) (past : List Entry) (order : List ℕ) → IsPlan plan
    → All (λ e. IsTrue (call_fits plan.sizes e.call)) (entries plan past order)
entries_fit plan past [] is = All-nil (λ e. IsTrue (call_fits plan.sizes e.call))
entries_fit plan past (task ∷ tasks) is =
    let next = next_entry task (count_of task past) (slice_get (task_calls plan task) (count_of task past)) in
    All-append (λ e. IsTrue (call_fits plan.sizes e.call)) next (entries plan (past ++ next) tasks)
    (fits_next (slice_get (task_calls plan task) (count_of task past)) refl) (entries_fit plan (past ++ next) tasks is)
  where
    fits_next : (o : Option Call) → slice_get (task_calls plan task) (count_of task past) ≡ o
        → All (λ e. IsTrue (call_fits plan.sizes e.call)) (next_entry task (count_of task past) o)
    fits_next None at_none = All-nil (λ e. IsTrue (call_fits plan.sizes e.call))
    fits_next (Some c) at_some =
        let n = count_of task past in
        let cs = task_calls plan task in
        let fits : IsTrue (call_fits plan.sizes c) =
        subst (λ q. IsTrue (call_fits plan.sizes q)) (get_or_from_slice_get cs n c c at_some)
        (All-get_or (λ q. IsTrue (call_fits plan.sizes q)) cs n c (slice_get_within cs n c at_some) (task_fits plan task is))
        in
        All-cons (λ e. IsTrue (call_fits plan.sizes e.call)) _ [] fits (All-nil (λ e. IsTrue (call_fits plan.sizes e.call)))

-- the damage of a layer, by its kind
damage_told : (hurt : Hurts) (s : ℕ) (l : Layer) (k : Kind) → l.kind ≡ k
    → (l.kind ≡ Simple → (x y : ℕ) → at false l.damage x y ≡ hurt s x y)
    → damage_set l ≡ damage_as k (hurt_set hurt s l) (damage_set l)
unfolding damage_set
damage_told hurt s l Simple is told =
    let marks : at false l.damage ≡ hurt s = λ i. λ x y. told is x y i in
    ap (λ test. pixels_where l.bits.width l.bits.height test) marks
damage_told hurt s l Smart is told = refl
damage_told hurt s l SuperBitmap is told = refl

-- what is seen of a slot
seen_told : (d : Desk) (hurt : Hurts) → IsTold d hurt → (s : ℕ) (x : Slot) → d.slot s ≡ x
    → seen_of d s x ≡ seen_by_history d hurt s x
seen_told d hurt told s Unopened is = refl
seen_told d hurt told s (Live l) is =
    ap (λ (set : List Pixel). Some (record { visible = bands (shown_set d s); damage = bands set; messages = port_of l.window }))
    (damage_told hurt s l l.kind refl (λ simple x y. told s l x y is simple))
seen_told d hurt told s Closed is = refl

pub runs_tell_damage : RunsTellDamageByHistory
runs_tell_damage plan hooks order is = record { last = last; text = ap (report plan order) last }
  where
    d : Desk
    d = opening_desk plan hooks

    es : List Entry
    es = entries plan [] order

    end : Desk
    end = machine d es

    told : IsTold end (is_hurt d es)
    told s l x y at_slot simple =
        damage_is_history plan.sizes plan.assets (shelf_of hooks) es s l x y is.limits
        (entries_fit plan [] order is) at_slot simple

    here : ℕ → Option Seen
    here s = seen_of end s (end.slot s)

    by_history : ℕ → Option Seen
    by_history s = seen_by_history end (is_hurt d es) s (end.slot s)

    seen : here ≡ by_history
    seen = λ i. λ s. seen_told end (is_hurt d es) told s (end.slot s) refl i

    last : run_final plan hooks order ≡ final_by_history plan hooks order
    last = ap
        (λ (f : ℕ → Option Seen). record (run_final plan hooks order) { slots = map f (range_with_len 0 end.sizes.slots) }) seen
