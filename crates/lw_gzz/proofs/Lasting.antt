-- What stays of a slot as long as no layer is created or deleted in it.
use Rattle.std.proofs.Common.{◌≡◌, ℕ, ◌==◌, Bool, true, false, not, List, Option, Some, None, refl, ap, ◌∙◌, ⊎_elim}
use Rattle.std.specs.Prelude.{if◌then◌else◌}
use Rattle.lw_calls.specs.declared.area.Area.{Area}
use Rattle.lw_calls.specs.declared.make.Kind.{Kind}
use Rattle.lw_calls.specs.declared.call.Call.{Call}
use Rattle.lw_calls.specs.declared.call.Call.TheVariants.{RegRect, RegPair, RegClear, Create, OpenWindow, Close, ToFront, ToBack}
use Rattle.lw_calls.specs.declared.call.Call.TheVariants.{InFrontOf, MoveBy, SizeBy, SetBox, Activate, Which, ReadPixel, Blit}
use Rattle.lw_calls.specs.declared.call.Call.TheVariants.{EndRefresh, SetTitle, TakeMessage}
use Rattle.lw_calls.specs.Kinds.{is_super}
use Rattle.lw_machine.specs.Layer.{Layer, Slot, Unopened, Live, Closed, Window, may_open, is_live, layer_is, is_framed}
use Rattle.lw_machine.specs.Layer.{is_foreign, change_layer, changed_window}
use Rattle.lw_machine.specs.Desk.{Desk, with_value, is_the}
use Rattle.lw_machine.specs.Kept.{is_visible}
use Rattle.lw_machine.specs.Paint.{with_pens}
use Rattle.lw_machine.specs.Arrangement.{without, put_before, arranged}
use Rattle.lw_machine.specs.Reveal.{Across, across, at_new_size, with_revealed, revealed, framed_by, with_frame, frame_is_due}
use Rattle.lw_machine.specs.Reveal.{keeps, window_with_messages, with_due_frame, settled_layer, settled}
use Rattle.lw_machine.specs.Step.{on_layer, clip_blit_from, end_update, set_window_titles, refusal, effect, after}
use Rattle.lw_machine.proofs.LayerCallSound.{with_value_all}
use Rattle.lw_machine.proofs.Settling.{changed_or_not}
use Rattle.lw_machine.proofs.Untouched.{differ_back, if_in_front}
use Rattle.lw_gzz.proofs.Order.{unless}

-- What stays of a layer: its place among backdrops, its kind, and of its window whether it has a frame and whose it is.
pub record Lasting : Type 0 where
  pub backdrop : Bool
  pub kind : Kind
  pub framed : Bool
  pub foreign : ℕ → Bool

abbrev pub lasting : Layer → Lasting
lasting l = record {
  backdrop = l.backdrop;
  kind = l.kind;
  framed = is_framed l.window;
  foreign = λ task. is_foreign task l.window;
}

-- a test of slots that no change of such a layer changes
pub record IsStable (f : Slot → Bool) : Type 0 where
  pub stays : (change : Layer → Layer) → ((l : Layer) → lasting (change l) ≡ lasting l) → (x : Slot)
      → f (change_layer change x) ≡ f x

pub test_stable : (g : Lasting → Bool) → IsStable (layer_is (λ l. g (lasting l)))
test_stable g = record { stays = same }
  where
    same : (change : Layer → Layer) → ((l : Layer) → lasting (change l) ≡ lasting l) → (x : Slot)
        → layer_is (λ l. g (lasting l)) (change_layer change x) ≡ layer_is (λ l. g (lasting l)) x
    same change left Unopened = refl
    same change left (Live l) = ap g (left l)
    same change left Closed = refl

pub live_stable : IsStable is_live
live_stable = record { stays = same }
  where
    same : (change : Layer → Layer) → ((l : Layer) → lasting (change l) ≡ lasting l) → (x : Slot)
        → is_live (change_layer change x) ≡ is_live x
    same change left Unopened = refl
    same change left (Live l) = refl
    same change left Closed = refl

pub open_stable : (version : ℕ) → IsStable (may_open version)
open_stable version = record { stays = same }
  where
    same : (change : Layer → Layer) → ((l : Layer) → lasting (change l) ≡ lasting l) → (x : Slot)
        → may_open version (change_layer change x) ≡ may_open version x
    same change left Unopened = refl
    same change left (Live l) = refl
    same change left Closed = refl

-- a slot is as another one for each such test
abbrev pub Lasts : Slot → Slot → Type 0
Lasts x y = (f : Slot → Bool) → IsStable f → f y ≡ f x

-- a window changed, which keeps its owner and its frame
window_left : (change : Window → Window) (o : Option Window) (l : Layer) → ((w : Window) → (change w).owner ≡ w.owner)
    → ((w : Window) → (change w).framed ≡ w.framed)
    → lasting (record l { window = changed_window change o }) ≡ lasting (record l { window = o })
window_left change None l owner framed = refl
window_left change (Some w) l owner framed = λ i. record {
  backdrop = l.backdrop;
  kind = l.kind;
  framed = framed w i;
  foreign = λ task. not (owner w i == task);
}

-- a painted frame
painted_left : (t : Bool) (on : ℕ → ℕ → Bool) (pen : ℕ → ℕ → ℕ) (l : Layer)
    → lasting (if t then with_pens on pen l else l) ≡ lasting l
unfolding with_pens
painted_left true on pen l = refl
painted_left false on pen l = refl

framed_left : (glyphs : List (List ℕ)) (kept : ℕ → ℕ → Bool) (active : Bool) (o : Option Window) (l : Layer)
    → lasting (framed_by glyphs kept active o l) ≡ lasting l
framed_left glyphs kept active None l = refl
framed_left glyphs kept active (Some w) l = painted_left w.framed _ _ l

due_left : (t : Bool) (glyphs : List (List ℕ)) (kept : ℕ → ℕ → Bool) (active : Bool) (l : Layer)
    → lasting (if t then with_frame glyphs kept active l else l) ≡ lasting l
due_left true glyphs kept active l = framed_left glyphs kept active l.window l
due_left false glyphs kept active l = refl

-- what is revealed, and what is settled
shown_left : (t : Bool) (c : Across) (l : Layer) → lasting (if t then l else with_revealed c l (at_new_size c l)) ≡ lasting l
shown_left true c l = refl
shown_left false c l = refl

settled_left : (glyphs : List (List ℕ)) (c : Across) (l : Layer) → lasting (settled_layer glyphs c l) ≡ lasting l
unfolding settled_layer revealed
settled_left glyphs c l =
    let q : Layer = with_due_frame glyphs c l (revealed c l) in
    window_left (window_with_messages c q) q.window q (λ w. refl) (λ w. refl) ∙
    (due_left (frame_is_due c l (revealed c l)) glyphs (keeps c (revealed c l)) c.new_active (revealed c l) ∙
    shown_left (is_super l.kind) c l)

pub settled_lasts : (d a : Desk) (s : ℕ) → Lasts (a.slot s) ((settled d a).slot s)
settled_lasts d a s f stable =
    ⊎_elim (λ p. ap f p ∙ stable.stays _ (settled_left d.assets.glyphs (across d a s)) (a.slot s)) (λ p. ap f p)
    (changed_or_not a.front_to_back (λ k x. change_layer (settled_layer d.assets.glyphs (across d a k)) x) a.slot s)

-- calls on a layer
blit_left : (x : Slot) (source_visible : Layer → ℕ → ℕ → Bool) (visible : ℕ → ℕ → Bool) (area : Area) (l : Layer)
    → lasting (clip_blit_from x source_visible visible area l) ≡ lasting l
unfolding with_pens
blit_left Unopened source_visible visible area l = refl
blit_left (Live source) source_visible visible area l = refl
blit_left Closed source_visible visible area l = refl

ended_left : (full : Bool) (l : Layer) → lasting (end_update full l) ≡ lasting l
ended_left false l = refl
ended_left true l = window_left (λ w. record w { asked = false }) l.window l (λ w. refl) (λ w. refl)

titled_left : (glyphs : List (List ℕ)) (visible : ℕ → ℕ → Bool) (active : Bool) (title : List ℕ) (l : Layer)
    → lasting (set_window_titles glyphs visible active title l) ≡ lasting l
titled_left glyphs visible active title l =
    framed_left glyphs _ active _ _ ∙ window_left (λ w. record w { title = title }) l.window l (λ w. refl) (λ w. refl)

on_layer_lasts : (d : Desk) (slot s : ℕ) (change : Layer → Layer) → ((l : Layer) → lasting (change l) ≡ lasting l)
    → Lasts (d.slot s) ((on_layer d slot change).slot s)
on_layer_lasts d slot s change left f stable =
    with_value_all (λ k x. f x ≡ f (d.slot k)) slot (change_layer change (d.slot slot)) d.slot
    (stable.stays change left (d.slot slot)) (λ k. refl) s

-- the call creates a layer in the slot, or deletes it
abbrev pub remakes : ℕ → Call → Bool
remakes s (Create slot make) = slot == s
remakes s (OpenWindow slot make framed nocare asks title) = slot == s
remakes s (Close slot) = slot == s
remakes s call = false

-- another slot has another value than before
pub elsewhere : {A B : Type 0} (f : A → B) (slot s : ℕ) (v : A) (g : ℕ → A) → (slot == s) ≡ false
    → f (with_value slot v g s) ≡ f (g s)
elsewhere f slot s v g differ = ap (λ b. f (if b then v else g s)) (differ_back slot s differ)

effect_lasts : (d : Desk) (task : ℕ) (call : Call) (s : ℕ) → remakes s call ≡ false
    → Lasts (d.slot s) ((effect d task call).slot s)
unfolding with_pens
effect_lasts d task (RegRect op register rect) s other f stable = refl
effect_lasts d task (RegPair op source into) s other f stable = refl
effect_lasts d task (RegClear register) s other f stable = refl
effect_lasts d task (Create slot make) s other f stable =
    settled_lasts d (arranged d task (Create slot make)) s f stable ∙ elsewhere f slot s _ d.slot other
effect_lasts d task (OpenWindow slot make framed nocare asks title) s other f stable =
    settled_lasts d (arranged d task (OpenWindow slot make framed nocare asks title)) s f stable ∙
    elsewhere f slot s _ d.slot other
effect_lasts d task (Close slot) s other f stable =
    settled_lasts d (arranged d task (Close slot)) s f stable ∙ elsewhere f slot s _ d.slot other
effect_lasts d task (ToFront slot) s other f stable = settled_lasts d (arranged d task (ToFront slot)) s f stable
effect_lasts d task (ToBack slot) s other f stable = settled_lasts d (arranged d task (ToBack slot)) s f stable
effect_lasts d task (InFrontOf slot m) s other f stable =
    let order : List ℕ = put_before (λ t. t == m) slot (without slot d.front_to_back) in
    if_in_front (λ a. f (a.slot s) ≡ f (d.slot s)) d order (slot == m) (settled_lasts d d s f stable)
    (settled_lasts d (record d { front_to_back = order }) s f stable)
effect_lasts d task (MoveBy slot dx dy) s other f stable = settled_lasts d (arranged d task (MoveBy slot dx dy)) s f stable
effect_lasts d task (SizeBy slot dw dh) s other f stable = settled_lasts d (arranged d task (SizeBy slot dw dh)) s f stable
effect_lasts d task (SetBox slot x y w h) s other f stable = settled_lasts d (arranged d task (SetBox slot x y w h)) s f stable
effect_lasts d task (Activate slot) s other f stable = settled_lasts d (arranged d task (Activate slot)) s f stable
effect_lasts d task (Which x y) s other f stable = refl
effect_lasts d task (ReadPixel slot x y) s other f stable = refl
effect_lasts d task (Blit source slot area) s other f stable =
    on_layer_lasts d slot s _
    (λ l. blit_left (d.slot source) (is_visible d source) (is_visible d slot l) area l) f stable
effect_lasts d task (EndRefresh slot full) s other f stable = on_layer_lasts d slot s _ (ended_left full) f stable
effect_lasts d task (SetTitle slot title) s other f stable =
    on_layer_lasts d slot s _
    (λ l. titled_left d.assets.glyphs (is_visible d slot l) (is_the d.active slot) title l) f stable
effect_lasts d task (TakeMessage slot) s other f stable =
    on_layer_lasts d slot s _ (λ l. window_left _ l.window l (λ w. refl) (λ w. refl)) f stable
effect_lasts d task call s other f stable = on_layer_lasts d _ s _ (λ l. refl) f stable

-- A call that neither creates nor deletes a layer in a slot leaves all that lasts of it.
pub after_lasts : (d : Desk) (task : ℕ) (call : Call) (s : ℕ) → remakes s call ≡ false
    → Lasts (d.slot s) ((after d task call).slot s)
unfolding after
after_lasts d task call s other f stable =
    unless (λ a. f (a.slot s) ≡ f (d.slot s)) (refusal d task call) d (effect d task call) refl
    (effect_lasts d task call s other f stable)
