-- What a call on all layers makes of LayerInfo and the cells, in every desk for which they stand.
use Rattle.std.proofs.Common.{◌≡◌, ℕ, ◌<◌, ◌==◌, Bool, true, false, List, length, map, Option, Some, None, Result, Ok, Err, IfOk, OnErr, IsTrue, refl, sym, ap, subst, ◌∙◌, arith}
use Rattle.std.specs.Prelude.{if◌then◌else◌}
use Rattle.std.specs.List.{slice_index_or}
use Rattle.std.proofs.lemmas.Bool.{and_parts, ltb-true, eqb-true, false≢true}
use Rattle.lw_region.specs.Rectangle.{Rectangle}
use Rattle.lw_calls.specs.declared.call.Call.{Call}
use Rattle.lw_calls.specs.declared.call.Call.TheVariants.{Create, OpenWindow, Close, ToFront, ToBack, InFrontOf, MoveBy, SizeBy, SetBox, Activate}
use Rattle.lw_calls.specs.declared.reply.Reply.{Reply}
use Rattle.lw_calls.specs.declared.reply.Reply.TheVariants.{Done}
use Rattle.lw_calls.specs.declared.sizes.Sizes.{Sizes}
use Rattle.lw_calls.specs.Limits.{call_fits}
use Rattle.lw_calls.specs.Touches.{is_arrangement}
use Rattle.lw_calls.specs.declared.make.Make.{Make}
use Rattle.lw_machine.specs.Layer.{may_open, is_live}
use Rattle.lw_machine.specs.Desk.{Desk, is_the}
use Rattle.lw_machine.specs.Hook.{Hook}
use Rattle.lw_machine.specs.Arrangement.{bounds_of, hook_from, without, put_before, arranged}
use Rattle.lw_machine.specs.Arrangement as machine
use Rattle.lw_machine.specs.Reveal.{settled}
use Rattle.lw_machine.specs.Parts.{SlotPart, slot_part, info_part}
use Rattle.lw_machine.specs.Step.{refusal, answer, after, reply, changed_unless, reply_or, effect}
use Rattle.lw_machine.specs.Sound.{IsDesk}
use Rattle.lw_machine.proofs.ArrangedStep.{after_is}
use Rattle.lw_machine.proofs.LayerCallSound.{not_refused}
use Rattle.lw_machine.proofs.ReachedSound.{step_sound, after_sizes}
use Rattle.lw_layer.specs.View.{State, CellView}
use Rattle.lw_layer.specs.View as view
use Rattle.lw_layer.specs.Looks.{IsLookAt}
use Rattle.lw_layer.specs.StandsFor.{slot_of, IsPartOf, StandsFor, IsSound}
use Rattle.lw_layer.proofs.SoundLaws.{slot_told}
use Rattle.lw_layer.specs.Windows.{without_room, HasRoom}
use Rattle.lw_layer.specs.declared.look.Look.{Look}
use Rattle.lw_stack.specs.Stack.{Stack, bounds_at, IsStack, StandsForInfo}
use Rattle.lw_arrange.specs.Arrangements.{ArrangementView, IsArrangement}
use Rattle.lw_arrange.specs.declared.arrangement.Step.{Step}
use Rattle.lw_arrange.specs.declared.arrangement.Step.TheVariants.{Arranged}
use Rattle.lw_arrange.specs.Arranged.{IsTold, IsFresh, AreOf, IsArrangementOf, IsStepOf}
use Rattle.lw_arrange.specs.Steps.{KeepsSizes}
use Rattle.lw_arrange.specs.Prepared.{created_by, without_layer}
use Rattle.lw_arrange.specs.Areas.{HasArea}
use Rattle.lw_arrange.specs.Pieces.{ArePieces}
use Rattle.lw_arrange.specs.Filled.{hook_asked}
use Rattle.lw_arrange.specs.Settled.{settled_with, settled_by}
use Rattle.lw_arrange.proofs.StandLaws.{IsDone, IsHookAsked, there, idle_slot, slot_stands}
use Rattle.lw_backfill.proofs.ShelfLaws.{shelf_after as without_one}
use Rattle.lw_arrange.proofs.MayLaws.{may_prepare}
use Rattle.lw_arrange.proofs.ElsewhereLaws.{shown_elsewhere, shown_unless_exchanged}
use Rattle.lw_engine.specs.Desks.{cell_at, hook_at, AreNumbered, AreOfDesk, AreAsBefore, AreOnShelf}
use Rattle.lw_engine.specs.Slots.{hook_in, bare, asked_hook, shelf_without, shelf_after, slot_after, MayBeReady}
use Rattle.lw_engine.specs.Arranging.{AreLooks, IsFreshSlot, AreChanged, DropHooks}
use Rattle.lw_engine.proofs.RoomLaws.{same_cell, same_length}

-- what is told of a cell is told of the slot for which it stands
told_slot : (d : Desk) (s : ℕ) (c : CellView) (k : Option Look) → StandsFor c (slot_part d s) → IsLookAt c.state c.live k → IsTold d s k
told_slot d s c k stands look = go c.state k stands look
  where
    go : (q : State) (k : Option Look) → IsPartOf q c.live (slot_part d s) → IsLookAt q c.live k → IsTold d s k
    go view.Unopened None part look = (ap is_live part.0, part.1)
    go view.Unopened (Some k) part look = absurd (cc look)
    go view.Live None part look = absurd look
    go view.Live (Some k) part look = (
      c.live.layer,
      part.slot,
      record {
        kind = look.kind;
        backdrop = look.backdrop;
        bounds = part.bounds ∙ ap Some (sym look.bounds);
        scroll_x = look.scroll_x;
        scroll_y = look.scroll_y;
        bits_w = look.bits_w;
        bits_h = look.bits_h;
        framed = look.framed;
        owner = look.owner;
      },
    )
    go view.Closed None part look = (ap is_live part.0, part.1)
    go view.Closed (Some k) part look = absurd (cc look)

-- what a cell says of its slot being free is so
free_slot : (d : Desk) (s : ℕ) (c : CellView) (version : ℕ) (fresh : Bool) → d.sizes.version ≡ version → StandsFor c (slot_part d s)
    → fresh ≡ may_open version (slot_of c.state c.live) → fresh ≡ may_open d.sizes.version (d.slot s)
free_slot d s c version fresh same stands says =
    says ∙ (ap (may_open version) (sym (slot_told c.state c.live (slot_part d s) stands)) ∙ ap (λ n. may_open n (d.slot s)) (sym same))

fresh_call : (d : Desk) (v : Stack) (cells : List CellView) (call : Call) (fresh : Bool) → AreOfDesk v cells d → IsTrue (call_fits v.sizes call)
    → IsFreshSlot v.sizes.version cells call fresh → IsFresh d call fresh
fresh_call d v cells (Create slot make) fresh are fits says =
    free_slot d slot (cell_at cells slot) v.sizes.version fresh (ap (λ (z : Sizes). z.version) are.sizes)
    (are.slots slot (ltb-true slot v.sizes.slots (and_parts _ _ fits).0)) says
fresh_call d v cells (OpenWindow slot make framed nocare asks title) fresh are fits says =
    free_slot d slot (cell_at cells slot) v.sizes.version fresh (ap (λ (z : Sizes). z.version) are.sizes)
    (are.slots slot (ltb-true slot v.sizes.slots (and_parts _ _ fits).0)) says
fresh_call d v cells call fresh are fits says = tt

-- Planning reads what is of the desk.
pub told_desk : (d : Desk) (v : Stack) (cells : List CellView) (looks : List (Option Look)) (fresh : Bool) (call : Call) → AreOfDesk v cells d → AreNumbered v.sizes.slots cells → AreLooks cells looks → IsFreshSlot v.sizes.version cells call fresh → IsTrue (call_fits v.sizes call) → AreOf d v looks fresh call
told_desk d v cells looks fresh call are numbered truth says fits =
    record {
      sizes = are.sizes;
      info = are.info;
      looks = λ s below. told_slot d s (cell_at cells s) (slice_index_or looks s None) (are.slots s below) (truth.each s (omega (arith, numbered.many, below))).look;
      fresh = fresh_call d v cells call fresh are fits says;
    }

-- A plan of the desk may be done there.
pub done_desk : (d : Desk) (v : Stack) (cells : List CellView) (task : ℕ) (call : Call) (a : ArrangementView) → AreOfDesk v cells d → is_arrangement call ≡ true → IsTrue (call_fits v.sizes call) → refusal d task call ≡ None → IsArrangementOf d task call a → IsArrangement a → a.stack.sizes ≡ v.sizes
    → IsDone d task call a
done_desk d v cells task call a are all fits unrefused plan planned sizes =
    let here : IsTrue (call_fits d.sizes call) = ap (λ z. call_fits z call) are.sizes ∙ fits in
    record {
      sound = are.sound;
      settled = subst IsDesk (after_is d task call all unrefused) (step_sound d task call are.sound here);
      fits = here;
      all = all;
      unrefused = unrefused;
      planned = planned;
      plan = plan;
      sizes = sizes ∙ sym are.sizes;
    }

-- an arrangement that is done answers so
answers_done : (d : Desk) (task : ℕ) (call : Call) → is_arrangement call ≡ true → answer d task call ≡ Done
answers_done d task (Create slot make) all = refl
answers_done d task (OpenWindow slot make framed nocare asks title) all = refl
answers_done d task (Close slot) all = refl
answers_done d task (ToFront slot) all = refl
answers_done d task (ToBack slot) all = refl
answers_done d task (InFrontOf slot other) all = refl
answers_done d task (MoveBy slot dx dy) all = refl
answers_done d task (SizeBy slot dw dh) all = refl
answers_done d task (SetBox slot x y w h) all = refl
answers_done d task (Activate slot) all = refl
answers_done d task call all = absurd (false≢true all)

reply_done : (d : Desk) (task : ℕ) (call : Call) → is_arrangement call ≡ true → refusal d task call ≡ None → Done ≡ reply d task call
unfolding reply
reply_done d task call all unrefused = sym (ap (λ o. reply_or o (answer d task call)) unrefused ∙ answers_done d task call all)

-- A refused call leaves all as it was.
pub refused_step : (d : Desk) (v : Stack) (shelf : List (Option Hook)) (cells : List CellView) (task : ℕ) (call : Call) (r : Reply) → AreOfDesk v cells d → AreOnShelf shelf d → refusal d task call ≡ Some r
    → (r ≡ reply d task call) × AreOfDesk v cells (after d task call) × AreOnShelf shelf (after d task call)
unfolding reply after
refused_step d v shelf cells task call r are hooks refused =
    let P : Desk → Type 0 = λ e. AreOfDesk v cells e in
    let Q : Desk → Type 0 = λ e. AreOnShelf shelf e in
    let same = sym (ap (λ o. changed_unless o d (effect d task call)) refused) in
    (sym (ap (λ o. reply_or o (answer d task call)) refused), subst P same are, subst Q same hooks)

-- the hooks that are asked for, of the desk and of the shelf
from_shelf : (shelf : List (Option Hook)) (d : Desk) (n : Option ℕ) → AreOnShelf shelf d → hook_from (hook_at shelf) n ≡ hook_from d.shelf n
from_shelf shelf d None hooks = refl
from_shelf shelf d (Some n) hooks = sym (hooks n)

-- a slot that gets bounds is the one of the call's new layer
made_here : (here : Bool) (given before : Option Rectangle) (r : Rectangle) → before ≡ None → (if here then given else before) ≡ Some r → here ≡ true
made_here true given before r none some = refl
made_here false given before r none some = absurd (cc (none, some))

asked_at : (d : Desk) (shelf : List (Option Hook)) (slot n : ℕ) (make : Make) (r : Rectangle) → AreOnShelf shelf d → d.bounds n ≡ None
    → (if n == slot then Some (bounds_of make) else d.bounds n) ≡ Some r
    → (if n == slot then hook_from (hook_at shelf) make.hook else None) ≡ hook_from d.shelf make.hook
asked_at d shelf slot n make r hooks none some =
    ap (λ t. if t then hook_from (hook_at shelf) make.hook else None) (made_here (n == slot) (Some (bounds_of make)) (d.bounds n) r none some)
    ∙ from_shelf shelf d make.hook hooks

asked_same : (d : Desk) (task : ℕ) (call : Call) (shelf : List (Option Hook)) (n : ℕ) (r : Rectangle) → AreOnShelf shelf d → d.bounds n ≡ None
    → (arranged d task call).bounds n ≡ Some r → asked_hook shelf call n ≡ hook_asked d.shelf (created_by task call)
asked_same d task (Create slot make) shelf n r hooks none some = asked_at d shelf slot n make r hooks none some
asked_same d task (OpenWindow slot make framed nocare asks title) shelf n r hooks none some = asked_at d shelf slot n make r hooks none some
asked_same d task call shelf n r hooks none some = refl

-- a slot of which the cell isn't live has no layer and no bounds
pub idle_part : (c : CellView) (p : SlotPart) → (c.state ≡ view.Live → ⊥) → StandsFor c p → (is_live p.slot ≡ false) × (p.bounds ≡ None)
idle_part c p idle stands = go c.state idle stands
  where
    go : (q : State) → (q ≡ view.Live → ⊥) → IsPartOf q c.live p → (is_live p.slot ≡ false) × (p.bounds ≡ None)
    go view.Unopened idle part = (ap is_live part.0, part.1)
    go view.Live idle part = absurd (idle refl)
    go view.Closed idle part = (ap is_live part.0, part.1)

-- so it is with the hook of a slot that is opened
asked_of_slot : (d : Desk) (task : ℕ) (call : Call) (a : ArrangementView) (shelf : List (Option Hook)) (c : CellView) → IsDone d task call a → AreOnShelf shelf d
    → StandsFor c (slot_part d c.number) → IsHookAsked d a c (asked_hook shelf a.call c.number)
asked_of_slot d task call a shelf c done hooks stands idle has =
    let n = c.number in
    let none : d.bounds n ≡ None = (idle_part c (slot_part d n) idle stands).1 in
    let place = there (bounds_at a.stack.bounds n) has in
    let made : created_by task call ≡ created_by a.task a.call = ap (λ t. created_by t call) (sym done.plan.task) ∙ ap (created_by a.task) (sym done.plan.call) in
    ap (λ q. asked_hook shelf q n) done.plan.call
    ∙ (asked_same d task call shelf n place.0 hooks none (done.plan.info.bounds n ∙ place.1) ∙ ap (hook_asked d.shelf) made)

-- The shelf after a planned arrangement.
pub taken_stands : (d : Desk) (shelf : List (Option Hook)) (o : Option ℕ) → AreOnShelf shelf d → (n : ℕ) → machine.shelf_without o d.shelf n ≡ hook_at (shelf_without o shelf) n
taken_stands d shelf None hooks n = hooks n
taken_stands d shelf (Some k) hooks n = ap (λ q. if n == k then None else q) (hooks n) ∙ sym (without_one shelf k n)

shelf_stands : (d : Desk) (task : ℕ) (call : Call) (shelf : List (Option Hook)) → AreOnShelf shelf d → AreOnShelf (shelf_after call shelf) (arranged d task call)
shelf_stands d task (Create slot make) shelf hooks n = taken_stands d shelf make.hook hooks n
shelf_stands d task (OpenWindow slot make framed nocare asks title) shelf hooks n = taken_stands d shelf make.hook hooks n
shelf_stands d task (InFrontOf slot other) shelf hooks n = either_way (slot == other)
  where
    either_way : (same : Bool) → (if same then d else record d { front_to_back = put_before (λ t. t == other) slot (without slot d.front_to_back) }).shelf n ≡ hook_at shelf n
    either_way true = hooks n
    either_way false = hooks n
shelf_stands d task call shelf hooks n = hooks n

-- Once everything is settled, LayerInfo, the slots and the shelf stand for the parts of the desk after the call.
pub done_step : (d : Desk) (v : Stack) (shelf : List (Option Hook)) (cells new : List CellView) (task : ℕ) (call : Call) (a : ArrangementView) → AreOfDesk v cells d
    → AreOnShelf shelf d → AreNumbered v.sizes.slots cells → IsDone d task call a → a.stack.sizes ≡ v.sizes
    → AreChanged (slot_after d.assets.glyphs a shelf) cells new
    → (Done ≡ reply d task call) × AreOfDesk a.stack new (after d task call) × AreOnShelf (shelf_after a.call shelf) (after d task call)
done_step d v shelf cells new task call a are hooks numbered done sizes changed =
    let e = settled d (arranged d task call) in
    let P : Desk → Type 0 = λ q. AreOfDesk a.stack new q in
    let H : Desk → Type 0 = λ q. AreOnShelf (shelf_after a.call shelf) q in
    let G : Call → Type 0 = λ q. AreOnShelf (shelf_after q shelf) e in
    let info : StandsForInfo a.stack (info_part e) =
    record { front_to_back = done.plan.info.front_to_back; bounds = done.plan.info.bounds; active = done.plan.info.active } in
    let later : e.sizes ≡ a.stack.sizes =
    sym (ap (λ (q : Desk). q.sizes) (after_is d task call done.all done.unrefused)) ∙ (after_sizes d task call ∙ (are.sizes ∙ sym sizes))
    in (
      reply_done d task call done.all done.unrefused,
      subst P (sym (after_is d task call done.all done.unrefused))
          (record {
            sound = done.settled;
            sizes = later;
            info = info;
            slots = λ s below. slot_then s (omega (arith, ap (λ (z : Sizes). z.slots) sizes, below));
          }),
      subst H (sym (after_is d task call done.all done.unrefused)) (subst G (sym done.plan.call) (shelf_stands d task call shelf hooks)),
    )
  where
    slot_then : (s : ℕ) → s < v.sizes.slots → StandsFor (cell_at new s) (slot_part (settled d (arranged d task call)) s)
    slot_then s low =
        let c = cell_at cells s in
        let number : c.number ≡ s = numbered.numbers s low in
        let below : s < length cells = omega (arith, numbered.many, low) in
        let before : StandsFor c (slot_part d c.number) =
        let P : ℕ → Type 0 = λ n. StandsFor c (slot_part d n) in subst P (sym number) (are.slots s low) in
        let stands = slot_stands d task call a c (asked_hook shelf a.call c.number) done before (asked_of_slot d task call a shelf c done hooks before) in
        let Q : ℕ → Type 0 = λ n. StandsFor (slot_after d.assets.glyphs a shelf c) (slot_part (settled d (arranged d task call)) n) in
        let R : CellView → Type 0 = λ q. StandsFor q (slot_part (settled d (arranged d task call)) s) in
        subst R (sym (changed.each s below)) (subst Q number stands)

-- no slot without a layer becomes the active window
idle_either : (d : Desk) (same : Bool) (order : List ℕ) (n : ℕ) → is_the d.active n ≡ false
    → is_the (if same then d else record d { front_to_back = order }).active n ≡ false
idle_either d true order n idle = idle
idle_either d false order n idle = idle

idle_without : (slot n : ℕ) (active : Option ℕ) (t : Bool) → is_the active n ≡ false → is_the (if t then None else active) n ≡ false
idle_without slot n active true idle = refl
idle_without slot n active false idle = idle

idle_arranged : (d : Desk) (task : ℕ) (call : Call) (n : ℕ) → is_arrangement call ≡ true → refusal d task call ≡ None → is_live (d.slot n) ≡ false
    → is_the d.active n ≡ false → is_the (arranged d task call).active n ≡ false
idle_arranged d task (Create slot make) n all done dead idle = idle
idle_arranged d task (OpenWindow slot make framed nocare asks title) n all done dead idle = idle
idle_arranged d task (Close slot) n all done dead idle = idle_without slot n d.active (is_the d.active slot) idle
idle_arranged d task (ToFront slot) n all done dead idle = idle
idle_arranged d task (ToBack slot) n all done dead idle = idle
idle_arranged d task (InFrontOf slot other) n all done dead idle = idle_either d (slot == other) _ n idle
idle_arranged d task (MoveBy slot dx dy) n all done dead idle = idle
idle_arranged d task (SizeBy slot dw dh) n all done dead idle = idle
idle_arranged d task (SetBox slot x y w h) n all done dead idle = idle
idle_arranged d task (Activate slot) n all done dead idle = apart (slot == n) refl
  where
    live : is_live (d.slot slot) ≡ true
    live = (not_refused (is_live (d.slot slot)) _ _ done).0

    apart : (t : Bool) → (slot == n) ≡ t → t ≡ false
    apart true is = absurd (cc (ap (λ k. is_live (d.slot k)) (eqb-true slot n is), live, dead))
    apart false is = refl
idle_arranged d task call n all done dead idle = absurd (false≢true all)

-- Each slot's cell may be made ready.
pub cells_may : (d : Desk) (v : Stack) (cells : List CellView) (task : ℕ) (call : Call) (a : ArrangementView) → AreOfDesk v cells d → AreNumbered v.sizes.slots cells
    → IsDone d task call a → HasArea v a → ArePieces v a.stack a.pieces → IsStack v → IsStack a.stack → a.stack.sizes ≡ v.sizes
    → ((s : ℕ) → s < length cells → (cell_at cells s).state ≡ view.Live → IsSound (bare (cell_at cells s)).live)
    → ((s : ℕ) → s < length cells → HasRoom 5 (cell_at cells s)) → (s : ℕ) → s < length cells → MayBeReady a (cell_at cells s)
cells_may d v cells task call a are numbered done has pieces stack after sizes sound room s below =
    let c = cell_at cells s in
    let low : s < v.sizes.slots = omega (arith, numbered.many, below) in
    let number : c.number ≡ s = numbered.numbers s low in
    let before : StandsFor c (slot_part d c.number) = let P : ℕ → Type 0 = λ n. StandsFor c (slot_part d n) in subst P (sym number) (are.slots s low) in
    record {
      prepare = may_prepare d task call a (bare c) (hook_in c) done before (sound s below);
      elsewhere = shown_elsewhere d v a (bare c) (hook_in c) are.sizes are.info has before;
      unexchanged =
          shown_unless_exchanged d v a (bare c) (hook_in c) are.sizes are.info sizes stack.many after.many pieces (omega (arith, number, low)) before;
      idle =
          λ idle.
          let dead : is_live (d.slot c.number) ≡ false = (idle_part c (slot_part d c.number) idle before).0 in
          ap (λ o. is_the o c.number) (sym done.plan.info.active)
          ∙ idle_arranged d task call c.number done.all done.unrefused dead (idle_slot d c.number done.sound dead);
      room = room s below;
    }

-- A slot that was live and is closed has dropped its hook.
dropped_slot : (glyphs : List (List ℕ)) (a : ArrangementView) (shelf : List (Option Hook)) (c : CellView) → c.state ≡ view.Live
    → (slot_after glyphs a shelf c).state ≡ view.Closed → hook_in (slot_after glyphs a shelf c) ≡ None
dropped_slot glyphs a shelf c live closed = by_bounds (bounds_at a.stack.bounds c.number) refl
  where
    n : ℕ
    n = c.number

    h : Option Hook
    h = asked_hook shelf a.call n

    by_bounds : (o : Option Rectangle) → bounds_at a.stack.bounds n ≡ o → hook_in (slot_after glyphs a shelf c) ≡ None
    by_bounds None bounds = ap hook_in (ap (settled_by glyphs a h c) bounds ∙ ap (without_layer c) live)
    by_bounds (Some r) bounds =
        let is : slot_after glyphs a shelf c ≡ settled_with glyphs a h c r view.Live =
        ap (settled_by glyphs a h c) bounds ∙ ap (settled_with glyphs a h c r) live in
        absurd (cc (ap (λ (v : CellView). v.state) is, closed))

pub dropped_after : {E : Type 0} (glyphs : List (List ℕ)) (a : ArrangementView) (shelf left : List (Option Hook)) (v w : Stack) (cells roomy new : List CellView)
    (r : Result Reply E) → AreAsBefore cells roomy → IfOk r (λ q. AreChanged (slot_after glyphs a shelf) roomy new)
    → OnErr r ((w ≡ v) × (left ≡ shelf) × (new ≡ roomy)) → DropHooks cells new
dropped_after glyphs a shelf left v w cells roomy new (Ok q) before changed same =
    λ s below live closed.
    let c = cell_at roomy s in
    let is = changed.each s (omega (arith, same_length cells roomy before, below)) in
    let was : c.state ≡ view.Live = ap (λ (u : CellView). u.state) (same_cell cells roomy s before below) ∙ live in
    let P : CellView → Type 0 = λ u. u.state ≡ view.Closed in
    ap hook_in is ∙ dropped_slot glyphs a shelf c was (subst P is closed)
dropped_after glyphs a shelf left v w cells roomy new (Err e) before changed same =
    λ s below live closed.
    absurd (cc (ap (λ (u : CellView). u.state) (same_cell cells roomy s before below), ap (λ l. (cell_at l s).state) same.2, live, closed))

-- and so it is where no call was done
pub dropped_none : (cells new : List CellView) → AreAsBefore cells new → DropHooks cells new
dropped_none cells new same =
    λ s below live closed. absurd (cc (ap (λ (u : CellView). u.state) (same_cell cells new s same below), live, closed))

-- after a failure the slots are as before, whatever room ports have
pub kept_after : {E : Type 0} (v w : Stack) (shelf left : List (Option Hook)) (cells roomy new : List CellView) (r : Result Reply E)
    → AreAsBefore cells roomy → OnErr r ((w ≡ v) × (left ≡ shelf) × (new ≡ roomy)) → OnErr r ((w ≡ v) × (left ≡ shelf) × AreAsBefore cells new)
kept_after v w shelf left cells roomy new (Ok q) before same = tt
kept_after v w shelf left cells roomy new (Err e) before same = (same.0, same.1, ap (map without_room) same.2 ∙ before)

-- an arrangement leaves a slot's number
number_after : (glyphs : List (List ℕ)) (a : ArrangementView) (shelf : List (Option Hook)) (c : CellView) → (slot_after glyphs a shelf c).number ≡ c.number
number_after glyphs a shelf c = by_bounds (bounds_at a.stack.bounds c.number)
  where
    h : Option Hook
    h = asked_hook shelf a.call c.number

    dead : (s : State) → (without_layer c s).number ≡ c.number
    dead view.Unopened = refl
    dead view.Live = refl
    dead view.Closed = refl

    live : (r : Rectangle) (s : State) → (settled_with glyphs a h c r s).number ≡ c.number
    live r view.Unopened = refl
    live r view.Live = refl
    live r view.Closed = refl

    by_bounds : (o : Option Rectangle) → (settled_by glyphs a h c o).number ≡ c.number
    by_bounds None = dead c.state
    by_bounds (Some r) = live r c.state

-- The slots are still all slots, whether all was settled or nothing was.
pub numbered_after : {E : Type 0} (glyphs : List (List ℕ)) (a : ArrangementView) (shelf left : List (Option Hook)) (v w : Stack) (cells new : List CellView)
    (r : Result Reply E) → AreNumbered v.sizes.slots cells → a.stack.sizes ≡ v.sizes → IfOk r (λ q. w ≡ a.stack)
    → IfOk r (λ q. AreChanged (slot_after glyphs a shelf) cells new) → OnErr r ((w ≡ v) × (left ≡ shelf) × (new ≡ cells)) → AreNumbered w.sizes.slots new
numbered_after glyphs a shelf left v w cells new (Ok q) numbered sizes info changed same =
    let slots : w.sizes.slots ≡ v.sizes.slots = ap (λ (s : Stack). s.sizes.slots) info ∙ ap (λ (z : Sizes). z.slots) sizes in
    record {
      many = changed.many ∙ (numbered.many ∙ sym slots);
      numbers =
          λ s below.
          let low : s < v.sizes.slots = omega (arith, slots, below) in
          ap (λ (c : CellView). c.number) (changed.each s (omega (arith, numbered.many, low)))
          ∙ (number_after glyphs a shelf (cell_at cells s) ∙ numbered.numbers s low);
    }
numbered_after glyphs a shelf left v w cells new (Err e) numbered sizes info changed same =
    let P : Stack → Type 0 = λ s. AreNumbered s.sizes.slots new in
    let Q : List CellView → Type 0 = λ l. AreNumbered v.sizes.slots l in
    subst P (sym same.0) (subst Q (sym same.2) numbered)

-- What holds of a call that is done holds of its answer.
pub step_after : {E : Type 0} (glyphs : List (List ℕ)) (a : ArrangementView) (w : Stack) (shelf left : List (Option Hook)) (cells new : List CellView) (r : Result Reply E) (R : Reply → Stack → List (Option Hook) → Type 0) → IfOk r (λ q. q ≡ Done) → IfOk r (λ q. w ≡ a.stack) → IfOk r (λ q. left ≡ shelf_after a.call shelf) → IfOk r (λ q. AreChanged (slot_after glyphs a shelf) cells new)
    → (AreChanged (slot_after glyphs a shelf) cells new → R Done a.stack (shelf_after a.call shelf)) → IfOk r (λ q. R q w left)
step_after glyphs a w shelf left cells new (Ok q) R reply info taken changed holds =
    let P : Reply → Type 0 = λ p. R p w left in
    let Q : Stack → Type 0 = λ s. R Done s left in
    let L : List (Option Hook) → Type 0 = λ l. R Done a.stack l in
    subst P (sym reply) (subst Q (sym info) (subst L (sym taken) (holds changed)))
step_after glyphs a w shelf left cells new (Err e) R reply info taken changed holds = tt

-- What planning answered is done where it is a plan.
pub plan_done : (d : Desk) (v : Stack) (cells : List CellView) (looks : List (Option Look)) (fresh : Bool) (task : ℕ) (call : Call) (q : Step) (a : ArrangementView) → AreOfDesk v cells d → AreNumbered v.sizes.slots cells → AreLooks cells looks → IsFreshSlot v.sizes.version cells call fresh
    → is_arrangement call ≡ true → IsTrue (call_fits v.sizes call) → ((e : Desk) → AreOf e v looks fresh call → IsStepOf e task call q) → KeepsSizes v.sizes q → q ≡ Arranged a → IsArrangement a → IsDone d task call a
plan_done d v cells looks fresh task call q a are numbered truth says all fits step sizes is planned =
    let P : Step → Type 0 = λ p. IsStepOf d task call p in
    let Q : Step → Type 0 = λ p. KeepsSizes v.sizes p in
    let parts = subst P is (step d (told_desk d v cells looks fresh call are numbered truth says fits)) in
    done_desk d v cells task call a are all fits parts.0 parts.1 planned (subst Q is sizes)
