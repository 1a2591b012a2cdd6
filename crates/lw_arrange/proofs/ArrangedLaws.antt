-- What planning makes of LayerInfo stands for what the machine makes of it.
use Rattle.std.proofs.Common.{◌≡◌, ℕ, ◌<◌, ◌==◌, Bool, true, false, ◌&&◌, List, ◌∷◌, length, Option, Some, None, IsTrue, refl, sym, ap, ◌∙◌, arith}
use Rattle.std.specs.Prelude.{if◌then◌else◌}
use Rattle.std.specs.List.{slice_index_or, slice_set}
use Rattle.std.proofs.lemmas.Bool.{ltb-true, false≢true}
use Rattle.lw_region.specs.Rectangle.{Rectangle}
use Rattle.lw_calls.specs.declared.make.Make.{Make}
use Rattle.lw_calls.specs.declared.call.Call.{Call}
use Rattle.lw_calls.specs.declared.call.Call.TheVariants.{Create, OpenWindow, Close, ToFront, ToBack, InFrontOf, MoveBy, SizeBy, SetBox, Activate}
use Rattle.lw_calls.specs.Limits.{call_fits, make_fits, coordinates_fit, is_extent, window_fits}
use Rattle.lw_calls.specs.Orders.{occurrences}
use Rattle.lw_calls.specs.Touches.{is_arrangement}
use Rattle.lw_machine.specs.Layer.{Window}
use Rattle.lw_machine.specs.Desk.{Desk, with_value}
use Rattle.lw_machine.specs.Parts.{info_part}
use Rattle.lw_machine.specs.Arrangement.{bounds_of, without, put_before, placed, has_backdrop, new_window, create_layer, delete_layer, change_bounds, upfront_layer, behind_layer, move_layer_in_front_of, active_without, arranged}
use Rattle.lw_machine.proofs.ListSound.{place_same, put_before_same}
use Rattle.lw_layer.specs.declared.look.Look.{Look}
use Rattle.lw_stack.specs.Stack.{Stack, bounds_at, IsStack, StandsForInfo}
use Rattle.lw_arrange.specs.Arranged.{AreOf}
use Rattle.lw_arrange.specs.AskedBounds.{changed_by}
use Rattle.lw_arrange.specs.Planning.{is_backdrop_at, changed_bounds, with_new, without_slot, with_order, with_change, with_front, with_back, with_pair, stack_after}
use Rattle.lw_arrange.proofs.RefusalLaws.{told_backdrop}
use Rattle.lw_arrange.proofs.StackLaws.{listed_is_slot, stands_without}
use Rattle.lw_arrange.proofs.SoundLaws.{bounds_set, entry_low}

-- the bounds with those of a slot changed, as the desk has them
set_is : (d : Desk) (v : Stack) (s : ℕ) (b b' : Option Rectangle) → StandsForInfo v (info_part d) → s < length v.bounds
    → b ≡ b' → (t : ℕ) → with_value s b d.bounds t ≡ bounds_at (slice_set v.bounds s b') t
set_is d v s b b' stands low e t = by_test (t == s) ∙ sym (bounds_set v.bounds s t b' low)
  where
    by_test : (same : Bool) → (if same then b else d.bounds t) ≡ (if same then b' else bounds_at v.bounds t)
    by_test true = e
    by_test false = stands.bounds t

-- the slots with backdrop layers are those that are told
backdrops_told : (d : Desk) (v : Stack) (looks : List (Option Look)) (fresh : Bool) (call : Call) → IsStack v
    → AreOf d v looks fresh call → (t : ℕ) → 0 < occurrences t v.front_to_back → has_backdrop d t ≡ is_backdrop_at looks t
backdrops_told d v looks fresh call ok are t stands =
    sym (told_backdrop d t (slice_index_or looks t None) (are.looks t (listed_is_slot v ok t stands)))

-- a new layer
new_stands : (d : Desk) (v : Stack) (looks : List (Option Look)) (fresh : Bool) (call : Call) (s : ℕ) (make : Make)
    (window : Option Window) → IsStack v → AreOf d v looks fresh call → s < length v.bounds
    → StandsForInfo (with_new v looks s make) (info_part (create_layer d s make window))
new_stands d v looks fresh call s make window ok are low =
    record {
      front_to_back =
          ap (placed (has_backdrop d) make.backdrop make.place s) are.info.front_to_back
          ∙ place_same (has_backdrop d) (is_backdrop_at looks) make.backdrop make.place s v.front_to_back
          (backdrops_told d v looks fresh call ok are);
      bounds = set_is d v s (Some (bounds_of make)) (Some (bounds_of make)) are.info low refl;
      active = are.info.active;
    }

-- one layer less
without_stands : (d : Desk) (v : Stack) (s : ℕ) → StandsForInfo v (info_part d) → s < length v.bounds
    → StandsForInfo (without_slot v s) (info_part (delete_layer d s))
without_stands d v s stands low =
    record {
      front_to_back = ap (without s) stands.front_to_back;
      bounds = set_is d v s None None stands low refl;
      active = ap (active_without s) stands.active;
    }

-- the list in another order
order_stands : (d : Desk) (v : Stack) (order order' : List ℕ) → StandsForInfo v (info_part d) → order ≡ order'
    → StandsForInfo (with_order v order') (info_part (record d { front_to_back = order }))
order_stands d v order order' stands e = record { front_to_back = e; bounds = stands.bounds; active = stands.active }

front_stands : (d : Desk) (v : Stack) (s : ℕ) → StandsForInfo v (info_part d)
    → StandsForInfo (with_front v s) (info_part (upfront_layer d s))
front_stands d v s stands =
    order_stands d v (s ∷ without s d.front_to_back) (s ∷ without s v.front_to_back) stands
    (ap (λ l. s ∷ without s l) stands.front_to_back)

back_stands : (d : Desk) (v : Stack) (looks : List (Option Look)) (fresh : Bool) (call : Call) (s : ℕ) → IsStack v
    → AreOf d v looks fresh call → StandsForInfo (with_back v looks s) (info_part (behind_layer d s))
back_stands d v looks fresh call s ok are =
    order_stands d v (put_before (has_backdrop d) s (without s d.front_to_back))
    (put_before (is_backdrop_at looks) s (without s v.front_to_back)) are.info
    (ap (λ l. put_before (has_backdrop d) s (without s l)) are.info.front_to_back
    ∙ put_before_same (has_backdrop d) (is_backdrop_at looks) s (without s v.front_to_back)
    (λ t stands. backdrops_told d v looks fresh call ok are t (stands_without s t v.front_to_back stands)))

pair_stands : (d : Desk) (v : Stack) (s other : ℕ) → StandsForInfo v (info_part d)
    → StandsForInfo (with_pair v s other) (info_part (move_layer_in_front_of d s other))
pair_stands d v s other stands = by_test (s == other)
  where
    by_test : (b : Bool)
        → StandsForInfo (if b then v else with_order v (put_before (λ t. t == other) s (without s v.front_to_back)))
        (info_part (if b then d else record d { front_to_back = put_before (λ t. t == other) s (without s d.front_to_back) }))
    by_test true = stands
    by_test false =
        order_stands d v (put_before (λ t. t == other) s (without s d.front_to_back))
        (put_before (λ t. t == other) s (without s v.front_to_back)) stands
        (ap (λ l. put_before (λ t. t == other) s (without s l)) stands.front_to_back)

-- other bounds of a layer
change_stands : (d : Desk) (v : Stack) (s : ℕ) (call : Call) → StandsForInfo v (info_part d) → s < length v.bounds
    → StandsForInfo (with_change v s call) (info_part (change_bounds d s (changed_by call)))
change_stands d v s call stands low =
    record {
      front_to_back = stands.front_to_back;
      bounds =
          set_is d v s (changed_bounds call (d.bounds s)) (changed_bounds call (bounds_at v.bounds s)) stands low
          (ap (changed_bounds call) (stands.bounds s));
      active = stands.active;
    }

-- What planning makes of LayerInfo stands for what the machine makes of it.
pub after_stands : (d : Desk) (v : Stack) (looks : List (Option Look)) (fresh : Bool) (task : ℕ) (call : Call) → IsStack v
    → is_arrangement call ≡ true → IsTrue (call_fits v.sizes call) → AreOf d v looks fresh call
    → StandsForInfo (stack_after v looks call) (info_part (arranged d task call))
after_stands d v looks fresh task (Create slot make) ok all fits are =
    new_stands d v looks fresh (Create slot make) slot make None ok are (entry_low v slot (make_fits v.sizes make) ok fits)
after_stands d v looks fresh task (OpenWindow slot make framed nocare asks title) ok all fits are =
    new_stands d v looks fresh (OpenWindow slot make framed nocare asks title) slot make
    (Some (new_window task framed nocare asks title)) ok are
    (entry_low v slot (make_fits v.sizes make && window_fits make framed asks) ok fits)
after_stands d v looks fresh task (Close slot) ok all fits are =
    without_stands d v slot are.info (let low = ltb-true slot v.sizes.slots fits in omega (arith, low, ok.many))
after_stands d v looks fresh task (ToFront slot) ok all fits are = front_stands d v slot are.info
after_stands d v looks fresh task (ToBack slot) ok all fits are = back_stands d v looks fresh (ToBack slot) slot ok are
after_stands d v looks fresh task (InFrontOf slot other) ok all fits are = pair_stands d v slot other are.info
after_stands d v looks fresh task (MoveBy slot dx dy) ok all fits are =
    change_stands d v slot (MoveBy slot dx dy) are.info (entry_low v slot (coordinates_fit dx dy) ok fits)
after_stands d v looks fresh task (SizeBy slot dw dh) ok all fits are =
    change_stands d v slot (SizeBy slot dw dh) are.info (entry_low v slot (coordinates_fit dw dh) ok fits)
after_stands d v looks fresh task (SetBox slot x y w h) ok all fits are =
    change_stands d v slot (SetBox slot x y w h) are.info (entry_low v slot (coordinates_fit x y && (is_extent w && is_extent h)) ok fits)
after_stands d v looks fresh task (Activate slot) ok all fits are =
    record { front_to_back = are.info.front_to_back; bounds = are.info.bounds; active = refl }
after_stands d v looks fresh task call ok all fits are = absurd (false≢true all)
