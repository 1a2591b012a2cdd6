-- What a planned arrangement makes of a cell stands for what the machine makes of its slot.
use Rattle.std.proofs.Common.{◌≡◌, ℕ, ◌==◌, Bool, true, false, not, List, Option, Some, None, refl, sym, ap, ◌∙◌, ◌⊎◌, inl, inr}
use Rattle.std.specs.Prelude.{if◌then◌else◌, option_and_then}
use Rattle.std.proofs.lemmas.Bool.{eqb-true, false≢true}
use Rattle.lw_region.specs.Rectangle.{Rectangle, moved_by}
use Rattle.lw_calls.specs.declared.call.Call.{Call}
use Rattle.lw_calls.specs.declared.call.Call.TheVariants.{Create, OpenWindow, Close, ToFront, ToBack, InFrontOf, MoveBy, SizeBy, SetBox, Activate}
use Rattle.lw_calls.specs.Touches.{is_arrangement}
use Rattle.lw_calls.specs.declared.reply.Reply.TheVariants.{AlreadyOpen, OutOfBounds}
use Rattle.lw_machine.specs.Layer.{Live, Closed, may_open, is_live, is_framed}
use Rattle.lw_machine.specs.Desk.{Desk}
use Rattle.lw_machine.specs.Shapes.{box_at}
use Rattle.lw_machine.specs.Arrangement.{bounds_of, hook_from, new_layer, new_window, sized_by, may_have_bounds, create_layer, change_bounds, arranged}
use Rattle.lw_machine.specs.Reveal.{has_bounds}
use Rattle.lw_machine.specs.Step.{refuse, creation_refusal, refusal}
use Rattle.lw_machine.proofs.ArrangementSound.{idle}
use Rattle.lw_machine.proofs.LayerCallSound.{not_refused}
use Rattle.lw_arrange.specs.Prepared.{Created, created_by}

-- What an arrangement does to one slot before the layers are settled: it leaves its layer, or opens it, with the hook from the
-- shelf that is asked for, or closes it.
pub record Stays (d a : Desk) (s : ℕ) : Type 0 where
  pub slot : a.slot s ≡ d.slot s
  pub bounds : has_bounds (a.bounds s) ≡ has_bounds (d.bounds s)

pub record Opens (d a : Desk) (task : ℕ) (call : Call) (s : ℕ) : Type 0 where
  pub created : Created
  pub asked : created_by task call ≡ Some created
  pub free : is_live (d.slot s) ≡ false
  pub slot : a.slot s ≡ Live (new_layer d.sizes.depth created.make (hook_from d.shelf created.make.hook) created.window)
  pub bounds : a.bounds s ≡ Some (bounds_of created.make)
  pub may : may_have_bounds d.sizes (is_framed created.window) created.make.kind 0 0 created.make.bits_w created.make.bits_h (bounds_of created.make) ≡ true

pub record Closes (d a : Desk) (s : ℕ) : Type 0 where
  pub was : is_live (d.slot s) ≡ true
  pub slot : a.slot s ≡ Closed
  pub bounds : a.bounds s ≡ None

abbrev pub Becomes : Desk → Desk → ℕ → Call → ℕ → Type 0
Becomes d a task call s = Stays d a s ⊎ (Opens d a task call s ⊎ Closes d a s)

-- a changed slot's bounds are there as before
changed_there : (b : Bool) (o p : Option Rectangle) (change : Rectangle → Rectangle) → (b ≡ true → o ≡ p) → has_bounds (if b then option_and_then (λ r. Some (change r)) o else p) ≡ has_bounds p
changed_there true None p change same = ap has_bounds (same refl)
changed_there true (Some r) p change same = ap has_bounds (same refl)
changed_there false o p change same = refl

bounds_there : (d : Desk) (slot s : ℕ) (change : Rectangle → Rectangle) → has_bounds ((change_bounds d slot change).bounds s) ≡ has_bounds (d.bounds s)
bounds_there d slot s change = changed_there (s == slot) (d.bounds slot) (d.bounds s) change (λ e. ap d.bounds (sym (eqb-true s slot e)))

-- a layer put in front of another, or left where it is, stays
either_way : (d : Desk) (same : Bool) (order : List ℕ) (s : ℕ) → Stays d (if same then d else record d { front_to_back = order }) s
either_way d true order s = record { slot = refl; bounds = refl }
either_way d false order s = record { slot = refl; bounds = refl }

opens : (d : Desk) (task slot s : ℕ) (call : Call) (n : Created) → created_by task call ≡ Some n
    → creation_refusal d slot n.make (is_framed n.window) ≡ None
    → Becomes d (create_layer d slot n.make n.window) task call s
opens d task slot s call n asked done = go (s == slot) refl
  where
    first : (may_open d.sizes.version (d.slot slot) ≡ true) × (refuse (not (may_have_bounds d.sizes (is_framed n.window) n.make.kind 0 0 n.make.bits_w n.make.bits_h (bounds_of n.make))) OutOfBounds None ≡ None)
    first = not_refused (may_open d.sizes.version (d.slot slot)) AlreadyOpen _ done

    go : (b : Bool) → (s == slot) ≡ b → Becomes d (create_layer d slot n.make n.window) task call s
    go true e =
        inr (inl (record {
          created = n;
          asked = asked;
          free = ap (λ n. is_live (d.slot n)) (eqb-true s slot e) ∙ idle d.sizes.version (d.slot slot) first.0;
          slot = rw e refl;
          bounds = rw e refl;
          may = (not_refused (may_have_bounds d.sizes (is_framed n.window) n.make.kind 0 0 n.make.bits_w n.make.bits_h (bounds_of n.make)) OutOfBounds None first.1).0;
        }))
    go false e = inl (record { slot = rw e refl; bounds = rw e refl })

closes : (d : Desk) (task slot s : ℕ) → refusal d task (Close slot) ≡ None → Becomes d (arranged d task (Close slot)) task (Close slot) s
closes d task slot s done = go (s == slot) refl
  where
    live : is_live (d.slot slot) ≡ true
    live = (not_refused (is_live (d.slot slot)) _ _ done).0

    go : (b : Bool) → (s == slot) ≡ b → Becomes d (arranged d task (Close slot)) task (Close slot) s
    go true e = inr (inr (record { was = ap (λ n. is_live (d.slot n)) (eqb-true s slot e) ∙ live; slot = rw e refl; bounds = rw e refl }))
    go false e = inl (record { slot = rw e refl; bounds = rw e refl })

-- each slot stays, is opened or is closed
pub slot_becomes : (d : Desk) (task : ℕ) (call : Call) (s : ℕ) → is_arrangement call ≡ true → refusal d task call ≡ None → Becomes d (arranged d task call) task call s
slot_becomes d task (Create slot make) s all done = opens d task slot s (Create slot make) (record { make = make; window = None }) refl done
slot_becomes d task (OpenWindow slot make framed nocare asks title) s all done =
    opens d task slot s (OpenWindow slot make framed nocare asks title)
    (record { make = make; window = Some (new_window task framed nocare asks title) }) refl done
slot_becomes d task (Close slot) s all done = closes d task slot s done
slot_becomes d task (ToFront slot) s all done = inl (record { slot = refl; bounds = refl })
slot_becomes d task (ToBack slot) s all done = inl (record { slot = refl; bounds = refl })
slot_becomes d task (InFrontOf slot other) s all done = inl (either_way d (slot == other) _ s)
slot_becomes d task (MoveBy slot dx dy) s all done = inl (record { slot = refl; bounds = bounds_there d slot s (λ r. moved_by r dx dy) })
slot_becomes d task (SizeBy slot dw dh) s all done = inl (record { slot = refl; bounds = bounds_there d slot s (λ r. sized_by r dw dh) })
slot_becomes d task (SetBox slot x y w h) s all done = inl (record { slot = refl; bounds = bounds_there d slot s (λ r. box_at x y w h) })
slot_becomes d task (Activate slot) s all done = inl (record { slot = refl; bounds = refl })
slot_becomes d task call s all done = absurd (false≢true all)
