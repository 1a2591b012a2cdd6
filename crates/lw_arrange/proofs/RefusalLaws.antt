-- What planning refuses is what the machine refuses.
use Rattle.std.proofs.Common.{◌≡◌, ℕ, ◌<◌, Bool, true, false, not, ◌&&◌, nat_lt, ℤ, pos, List, Option, Some, None, IsTrue, refl, sym, ap, ◌∙◌}
use Rattle.std.specs.Prelude.{if◌then◌else◌}
use Rattle.std.specs.List.{slice_index_or}
use Rattle.std.proofs.lemmas.Bool.{and_parts, ltb-true, false≢true}
use Rattle.lw_region.specs.Rectangle.{Rectangle}
use Rattle.lw_calls.specs.declared.sizes.Sizes.{Sizes}
use Rattle.lw_calls.specs.declared.make.Kind.{Kind}
use Rattle.lw_calls.specs.declared.make.Kind.TheVariants.{Simple, Smart, SuperBitmap}
use Rattle.lw_calls.specs.declared.make.Make.{Make}
use Rattle.lw_calls.specs.declared.call.Call.{Call}
use Rattle.lw_calls.specs.declared.call.Call.TheVariants.{Create, OpenWindow, Close, ToFront, ToBack, InFrontOf, MoveBy, SizeBy, SetBox, Activate}
use Rattle.lw_calls.specs.declared.reply.Reply.{Reply}
use Rattle.lw_calls.specs.declared.reply.Reply.TheVariants.{NotOpen, AlreadyOpen, NotWindow, NotOwner, Backdrop, OutOfBounds}
use Rattle.lw_calls.specs.Kinds.{is_super}
use Rattle.lw_calls.specs.Limits.{call_fits, make_fits, coordinates_fit, is_extent, window_fits}
use Rattle.lw_calls.specs.Touches.{is_arrangement}
use Rattle.lw_calls.proofs.LimitLaws.{first_low}
use Rattle.lw_machine.specs.Layer.{Layer, Window, Slot, Unopened, Live, Closed, may_open, is_live, layer_is, is_window, is_foreign, is_framed}
use Rattle.lw_machine.specs.Desk.{Desk}
use Rattle.lw_machine.specs.Reveal.{has_bounds}
use Rattle.lw_machine.specs.Arrangement.{may_lie_at, is_at_least, portion_fits, may_have_bounds, layer_may_have_bounds, bounds_of}
use Rattle.lw_machine.specs.Step.{refuse, refuse_not_open, refuse_not_owner, refuse_not_window, refuse_backdrop, may_change_bounds, change_refusal, creation_refusal, refusal}
use Rattle.lw_layer.specs.Looks.{owner_of}
use Rattle.lw_layer.specs.declared.look.Look.{Look}
use Rattle.lw_stack.specs.Stack.{Stack, bounds_at}
use Rattle.lw_arrange.specs.Arranged.{IsLookOf, IsTold, AreOf}
use Rattle.lw_arrange.specs.AskedBounds.{may_lie, needs_of, changed_by}
use Rattle.lw_arrange.specs.Planning.{look_is, placed_look, live_at, is_free_at, is_of_other, has_owner, may_change, creation_refused, closing_refused, reordering_refused, pair_refused, change_refused, activation_refused, refused}

-- refusals with equal tests, before equal others
refuse_same : (t t' : Bool) (r : Reply) (next next' : Option Reply) → t ≡ t' → next ≡ next' → refuse t r next ≡ refuse t' r next'
refuse_same t t' r next next' e f = ap (λ b. refuse b r next) e ∙ ap (λ n. refuse t' r n) f

-- no slot that isn't live has such a layer
none_is : (test : Layer → Bool) (x : Slot) → is_live x ≡ false → layer_is test x ≡ false
none_is test Unopened e = refl
none_is test (Live l) e = absurd (false≢true (sym e))
none_is test Closed e = refl

-- a test of what is told of a slot, and the test of its layer that says the same
pub told_same : (d : Desk) (s : ℕ) (k : Option Look) (test : Look → Bool) (layer_test : Layer → Bool)
    → ((l : Layer) (look : Look) → IsLookOf l (d.bounds s) look → test look ≡ layer_test l) → IsTold d s k
    → look_is test k ≡ layer_is layer_test (d.slot s)
told_same d s None test layer_test same told = sym (none_is layer_test (d.slot s) told.0)
told_same d s (Some k) test layer_test same told = same told.0 k told.2 ∙ sym (ap (layer_is layer_test) told.1)

-- a slot is live where something is told of it
told_live : (d : Desk) (s : ℕ) (k : Option Look) → IsTold d s k → look_is (λ l. true) k ≡ is_live (d.slot s)
told_live d s None told = sym told.0
told_live d s (Some k) told = sym (ap is_live told.1)

-- whose window it is
foreign_same : (task : ℕ) (w : Option Window) → is_of_other task (owner_of w) ≡ is_foreign task w
foreign_same task None = refl
foreign_same task (Some w) = refl

window_same : (w : Option Window) → has_owner (owner_of w) ≡ is_window w
window_same None = refl
window_same (Some w) = refl

told_foreign : (d : Desk) (s task : ℕ) (k : Option Look) → IsTold d s k
    → look_is (λ l. is_of_other task l.owner) k ≡ layer_is (λ l. is_foreign task l.window) (d.slot s)
told_foreign d s task k told =
    told_same d s k (λ l. is_of_other task l.owner) (λ l. is_foreign task l.window)
    (λ l look is. ap (is_of_other task) is.owner ∙ foreign_same task l.window) told

told_window : (d : Desk) (s : ℕ) (k : Option Look) → IsTold d s k
    → look_is (λ l. has_owner l.owner) k ≡ layer_is (λ l. is_window l.window) (d.slot s)
told_window d s k told =
    told_same d s k (λ l. has_owner l.owner) (λ l. is_window l.window)
    (λ l look is. ap has_owner is.owner ∙ window_same l.window) told

pub told_backdrop : (d : Desk) (s : ℕ) (k : Option Look) → IsTold d s k
    → look_is (λ l. l.backdrop) k ≡ layer_is (λ l. l.backdrop) (d.slot s)
told_backdrop d s k told = told_same d s k (λ l. l.backdrop) (λ l. l.backdrop) (λ l look is. is.backdrop) told

-- a super-bitmap layer's bitmap has the size that is told, and no other layer is asked for it
bits_same : (kind : Kind) (x y : ℤ) (w h w' h' : ℕ) (r : Rectangle) → w ≡ (if is_super kind then w' else 0)
    → h ≡ (if is_super kind then h' else 0)
    → (if is_super kind then portion_fits x y w h r else true) ≡ (if is_super kind then portion_fits x y w' h' r else true)
bits_same Simple x y w h w' h' r ew eh = refl
bits_same Smart x y w h w' h' r ew eh = refl
bits_same SuperBitmap x y w h w' h' r ew eh = ap (λ n. portion_fits x y n h r) ew ∙ ap (λ n. portion_fits x y w' n r) eh

-- the bounds that a layer may have, by what is told of it
may_same : (s : Sizes) (l : Layer) (place : Option Rectangle) (k : Look) (r : Rectangle) → IsLookOf l place k
    → may_lie s (needs_of k) r ≡ layer_may_have_bounds s l r
may_same s l place k r is =
    let on : Bool = may_lie_at s r && is_at_least (pos 1) (pos 1) r in
    let frame : Bool → Bool = λ f. if f then is_at_least (pos 9) (pos 14) r else true in
    let own : Kind → ℤ → ℤ → ℕ → ℕ → Bool = λ kind x y w h. if is_super kind then portion_fits x y w h r else true in
    ap (λ f. on && (frame f && own k.kind k.scroll_x k.scroll_y k.bits_w k.bits_h)) is.framed
    ∙ ap (λ b. on && (frame (is_framed l.window) && b))
    (ap (λ kind. own kind k.scroll_x k.scroll_y k.bits_w k.bits_h) is.kind
    ∙ (ap (λ x. own l.kind x k.scroll_y k.bits_w k.bits_h) is.scroll_x
    ∙ (ap (λ y. own l.kind (pos l.scroll_x) y k.bits_w k.bits_h) is.scroll_y
    ∙ bits_same l.kind (pos l.scroll_x) (pos l.scroll_y) k.bits_w k.bits_h l.bits.width l.bits.height r is.bits_w is.bits_h)))

-- what is told of a slot that has its place among the others
told_placed : (d : Desk) (s : ℕ) (b : Option Rectangle) (k : Option Look) → d.bounds s ≡ b → IsTold d s k
    → IsTold d s (placed_look b k)
told_placed d s None None e told = told
told_placed d s None (Some k) e told = absurd (false≢true (ap has_bounds (sym e ∙ told.2.bounds)))
told_placed d s (Some r) k e told = told

-- what planning takes to be told of a live slot
pub told_at : (d : Desk) (v : Stack) (looks : List (Option Look)) (fresh : Bool) (call : Call) (s : ℕ)
    → AreOf d v looks fresh call → s < v.sizes.slots → IsTold d s (live_at v looks s)
told_at d v looks fresh call s are low =
    told_placed d s (bounds_at v.bounds s) (slice_index_or looks s None) (are.info.bounds s) (are.looks s low)

-- a change of bounds that a layer may have, by what is told
change_same : (d : Desk) (v : Stack) (k : Option Look) (s : ℕ) (call : Call) (b : Option Rectangle) → d.sizes ≡ v.sizes
    → IsTold d s k → may_change v k call b ≡ may_change_bounds d s (changed_by call) b
change_same d v k s call None e told = refl
change_same d v k s call (Some r) e told =
    told_same d s k (λ l. may_lie v.sizes (needs_of l) (changed_by call r))
    (λ l. layer_may_have_bounds d.sizes l (changed_by call r))
    (λ l look is. may_same v.sizes l (d.bounds s) look (changed_by call r) is
    ∙ ap (λ sizes. layer_may_have_bounds sizes l (changed_by call r)) (sym e))
    told

-- a change is refused as the machine refuses it
pub change_is : (d : Desk) (v : Stack) (looks : List (Option Look)) (fresh : Bool) (call : Call) (s : ℕ)
    → AreOf d v looks fresh call → s < v.sizes.slots
    → change_refused v looks s call ≡ refuse_not_open (d.slot s) (change_refusal d s (changed_by call))
change_is d v looks fresh call s are low =
    let k = live_at v looks s in
    let told = told_at d v looks fresh call s are low in
    let may : may_change v k call (bounds_at v.bounds s) ≡ may_change_bounds d s (changed_by call) (d.bounds s) =
    change_same d v k s call (bounds_at v.bounds s) are.sizes told
    ∙ ap (may_change_bounds d s (changed_by call)) (sym (are.info.bounds s)) in
    refuse_same _ _ NotOpen _ _ (ap not (told_live d s k told))
    (refuse_same _ _ Backdrop _ _ (told_backdrop d s k told) (refuse_same _ _ OutOfBounds None None (ap not may) refl))

-- a slot in which a layer may be created has no bounds
free_same : (d : Desk) (v : Stack) (looks : List (Option Look)) (fresh : Bool) (call : Call) (s : ℕ)
    → AreOf d v looks fresh call → s < v.sizes.slots → fresh ≡ may_open d.sizes.version (d.slot s)
    → is_free_at v fresh s ≡ may_open d.sizes.version (d.slot s)
free_same d v looks fresh call s are low e = go fresh (slice_index_or looks s None) e (are.looks s low)
  where
    go : (f : Bool) (k : Option Look) → f ≡ may_open d.sizes.version (d.slot s) → IsTold d s k
        → (f && not (has_bounds (bounds_at v.bounds s))) ≡ may_open d.sizes.version (d.slot s)
    go false k is told = is
    go true None is told = rw (sym (are.info.bounds s) ∙ told.1) is
    go true (Some k) is told = absurd (false≢true (sym (ap (may_open d.sizes.version) told.1) ∙ sym is))

-- a creation is refused as the machine refuses it
creation_is : (d : Desk) (v : Stack) (looks : List (Option Look)) (fresh : Bool) (call : Call) (s : ℕ) (make : Make)
    (framed : Bool) → AreOf d v looks fresh call → s < v.sizes.slots → fresh ≡ may_open d.sizes.version (d.slot s)
    → creation_refused v fresh s make framed ≡ creation_refusal d s make framed
creation_is d v looks fresh call s make framed are low e =
    refuse_same _ _ AlreadyOpen _ _ (ap not (free_same d v looks fresh call s are low e))
    (refuse_same _ _ OutOfBounds None None
    (ap (λ sizes. not (may_have_bounds sizes framed make.kind 0 0 make.bits_w make.bits_h (bounds_of make))) (sym are.sizes))
    refl)

-- so are a closing, a change of the order, and an activation
closing_is : (d : Desk) (v : Stack) (looks : List (Option Look)) (fresh : Bool) (call : Call) (task s : ℕ)
    → AreOf d v looks fresh call → s < v.sizes.slots
    → closing_refused v looks task s ≡ refuse_not_open (d.slot s) (refuse_not_owner task (d.slot s) None)
closing_is d v looks fresh call task s are low =
    let k = live_at v looks s in
    let told = told_at d v looks fresh call s are low in
    refuse_same _ _ NotOpen _ _ (ap not (told_live d s k told))
    (refuse_same _ _ NotOwner None None (told_foreign d s task k told) refl)

reordering_is : (d : Desk) (v : Stack) (looks : List (Option Look)) (fresh : Bool) (call : Call) (s : ℕ)
    → AreOf d v looks fresh call → s < v.sizes.slots
    → reordering_refused v looks s ≡ refuse_not_open (d.slot s) (refuse_backdrop (d.slot s) None)
reordering_is d v looks fresh call s are low =
    let k = live_at v looks s in
    let told = told_at d v looks fresh call s are low in
    refuse_same _ _ NotOpen _ _ (ap not (told_live d s k told))
    (refuse_same _ _ Backdrop None None (told_backdrop d s k told) refl)

pair_is : (d : Desk) (v : Stack) (looks : List (Option Look)) (fresh : Bool) (call : Call) (s t : ℕ)
    → AreOf d v looks fresh call → s < v.sizes.slots → t < v.sizes.slots
    → pair_refused v looks s t
    ≡ refuse_not_open (d.slot s) (refuse_not_open (d.slot t) (refuse_backdrop (d.slot s) (refuse_backdrop (d.slot t) None)))
pair_is d v looks fresh call s t are low also =
    let k = live_at v looks s in
    let m = live_at v looks t in
    let told = told_at d v looks fresh call s are low in
    let other = told_at d v looks fresh call t are also in
    refuse_same _ _ NotOpen _ _ (ap not (told_live d s k told))
    (refuse_same _ _ NotOpen _ _ (ap not (told_live d t m other))
    (refuse_same _ _ Backdrop _ _ (told_backdrop d s k told) (refuse_same _ _ Backdrop None None (told_backdrop d t m other) refl)))

activation_is : (d : Desk) (v : Stack) (looks : List (Option Look)) (fresh : Bool) (call : Call) (s : ℕ)
    → AreOf d v looks fresh call → s < v.sizes.slots
    → activation_refused v looks s ≡ refuse_not_open (d.slot s) (refuse_not_window (d.slot s) None)
activation_is d v looks fresh call s are low =
    let k = live_at v looks s in
    let told = told_at d v looks fresh call s are low in
    refuse_same _ _ NotOpen _ _ (ap not (told_live d s k told))
    (refuse_same _ _ NotWindow None None (ap not (told_window d s k told)) refl)

-- Planning refuses a call as the machine does.
pub refused_is_refusal : (d : Desk) (v : Stack) (looks : List (Option Look)) (fresh : Bool) (task : ℕ) (call : Call)
    → is_arrangement call ≡ true → IsTrue (call_fits v.sizes call) → AreOf d v looks fresh call
    → refused v looks fresh task call ≡ refusal d task call
refused_is_refusal d v looks fresh task (Create slot make) all fits are =
    creation_is d v looks fresh (Create slot make) slot make false are
    (first_low slot v.sizes.slots (make_fits v.sizes make) fits) are.fresh
refused_is_refusal d v looks fresh task (OpenWindow slot make framed nocare asks title) all fits are =
    creation_is d v looks fresh (OpenWindow slot make framed nocare asks title) slot make framed are
    (first_low slot v.sizes.slots (make_fits v.sizes make && window_fits make framed asks) fits) are.fresh
refused_is_refusal d v looks fresh task (Close slot) all fits are =
    closing_is d v looks fresh (Close slot) task slot are (ltb-true slot v.sizes.slots fits)
refused_is_refusal d v looks fresh task (ToFront slot) all fits are =
    reordering_is d v looks fresh (ToFront slot) slot are (ltb-true slot v.sizes.slots fits)
refused_is_refusal d v looks fresh task (ToBack slot) all fits are =
    reordering_is d v looks fresh (ToBack slot) slot are (ltb-true slot v.sizes.slots fits)
refused_is_refusal d v looks fresh task (InFrontOf slot other) all fits are =
    let parts = and_parts (nat_lt slot v.sizes.slots) (nat_lt other v.sizes.slots) fits in
    pair_is d v looks fresh (InFrontOf slot other) slot other are (ltb-true slot v.sizes.slots parts.0)
    (ltb-true other v.sizes.slots parts.1)
refused_is_refusal d v looks fresh task (MoveBy slot dx dy) all fits are =
    change_is d v looks fresh (MoveBy slot dx dy) slot are (first_low slot v.sizes.slots (coordinates_fit dx dy) fits)
refused_is_refusal d v looks fresh task (SizeBy slot dw dh) all fits are =
    change_is d v looks fresh (SizeBy slot dw dh) slot are (first_low slot v.sizes.slots (coordinates_fit dw dh) fits)
refused_is_refusal d v looks fresh task (SetBox slot x y w h) all fits are =
    change_is d v looks fresh (SetBox slot x y w h) slot are
    (first_low slot v.sizes.slots (coordinates_fit x y && (is_extent w && is_extent h)) fits)
refused_is_refusal d v looks fresh task (Activate slot) all fits are =
    activation_is d v looks fresh (Activate slot) slot are (ltb-true slot v.sizes.slots fits)
refused_is_refusal d v looks fresh task call all fits are = absurd (false≢true all)
