-- Each arrangement that isn't refused arranges a sound desk as it should be.
use Rattle.std.proofs.Common.{◌≡◌, ℕ, ◌==◌, Bool, true, false, ◌&&◌, List, ◌∷◌, Option, Some, None, option_and_then, refl, sym}
use Rattle.std.proofs.Common.{ap, subst, ◌∙◌, arith}
use Rattle.std.specs.Prelude.{if◌then◌else◌}
use Rattle.std.proofs.lemmas.Bool.{eqb-true, false≢true}
use Rattle.lw_region.specs.Rectangle.{Rectangle}
use Rattle.lw_calls.specs.declared.sizes.Sizes.{Sizes}
use Rattle.lw_machine.specs.Layer.{Layer, Slot, Unopened, Live, Closed, is_live, layer_is, is_window}
use Rattle.lw_calls.specs.Kinds.{is_super}
use Rattle.lw_machine.specs.Desk.{Desk}
use Rattle.lw_machine.specs.Kept.{is_visible, in_bits, is_kept}
use Rattle.lw_machine.specs.Arrangement.{without, put_before, has_backdrop, layer_may_have_bounds, change_bounds}
use Rattle.lw_calls.specs.Orders.{occurrences}
use Rattle.lw_machine.specs.Step.{may_change_bounds}
use Rattle.lw_machine.specs.Sound.{IsKeeping, IsPlaced, IsSlot, IsDesk, backdrops_last}
use Rattle.lw_machine.proofs.LayerCallSound.{active_stays, kept_same}
use Rattle.lw_machine.proofs.ListSound.{occurrences_put_before, occurrences_without_other, occurrences_moved, last_without}
use Rattle.lw_machine.proofs.ListSound.{last_front, last_before_backdrops, last_before_one}
use Rattle.lw_machine.proofs.RevealSound.{may_at}
use Rattle.lw_machine.proofs.SettledSound.{IsReadySlot, IsArranged}

is_kept_own : (v w : ℕ → ℕ → Bool) (l : Layer) (x y : ℕ) → is_super l.kind ≡ true → is_kept v l x y ≡ is_kept w l x y
unfolding is_kept
is_kept_own v w l x y own = ap (λ b. in_bits l x y && b) (kept_same l.kind (v x y) (w x y) own)

-- so it keeps what it should, whatever it shows
own_keeping : (depth : ℕ) (v w : ℕ → ℕ → Bool) (l : Layer) → is_super l.kind ≡ true → IsKeeping depth v l → IsKeeping depth w l
own_keeping depth v w l own k =
    record {
      bitmap = k.bitmap;
      planes = k.planes;
      frameless = k.frameless;
      off_kept = λ x y off. k.off_kept x y (is_kept_own v w l x y own ∙ off);
      damage_kept = λ x y has. is_kept_own w v l x y own ∙ k.damage_kept x y has;
      damage_inner = k.damage_inner;
    }

-- a layer that is placed may have its bounds
placed_may : (sizes : Sizes) (l : Layer) (b : Option Rectangle) → IsPlaced sizes l b → may_at sizes l b ≡ true
placed_may sizes l None placed = absurd placed
placed_may sizes l (Some r) placed = placed.may

-- a layer that is placed, and isn't a super-bitmap layer, isn't scrolled
placed_left : (sizes : Sizes) (l : Layer) (b : Option Rectangle) → IsPlaced sizes l b → is_super l.kind ≡ false → l.scroll_x ≡ 0
placed_left sizes l None placed = absurd placed
placed_left sizes l (Some r) placed = placed.left

placed_upper : (sizes : Sizes) (l : Layer) (b : Option Rectangle) → IsPlaced sizes l b → is_super l.kind ≡ false → l.scroll_y ≡ 0
placed_upper sizes l None placed = absurd placed
placed_upper sizes l (Some r) placed = placed.upper

-- a slot that is as it should be is ready for an arrangement
ready_slot : (d : Desk) (s : ℕ) (x : Slot) → IsSlot d s x → IsReadySlot d.sizes (d.bounds s) x
ready_slot d s Unopened ok = ok
ready_slot d s (Live l) ok =
    record {
      may = placed_may d.sizes l (d.bounds s) ok.0;
      bitmap = ok.1.bitmap;
      planes = ok.1.planes;
      frameless = ok.1.frameless;
      left = placed_left d.sizes l (d.bounds s) ok.0;
      upper = placed_upper d.sizes l (d.bounds s) ok.0;
      own = λ own visible. own_keeping d.sizes.depth (is_visible d s l) visible l own ok.1;
    }
ready_slot d s Closed ok = ok

-- A sound desk is arranged as it should be.
pub desk_arranged : (d : Desk) → IsDesk d → IsArranged d
desk_arranged d ok =
    record {
      limits = ok.limits;
      beyond = ok.beyond;
      listed = ok.listed;
      backdrops = ok.backdrops;
      slots = λ s. ready_slot d s (d.slot s) (ok.slots s);
      active = ok.active;
    }

-- with the same slots in another order, all backdrops last, a desk is arranged as it should be
pub reordered : (d : Desk) (order : List ℕ) → IsArranged d → ((t : ℕ) → occurrences t order ≡ occurrences t d.front_to_back)
    → backdrops_last (has_backdrop d) order ≡ true → IsArranged (record d { front_to_back = order })
reordered d order ok same last =
    record {
      limits = ok.limits;
      beyond = ok.beyond;
      listed = λ s. same s ∙ ok.listed s;
      backdrops = last;
      slots = ok.slots;
      active = active_stays d (record d { front_to_back = order }) d.active (λ s. refl) ok.active;
    }

-- a live slot stands in the list once
once : (d : Desk) (s : ℕ) → IsArranged d → is_live (d.slot s) ≡ true → occurrences s d.front_to_back ≡ 1
once d s ok live = ok.listed s ∙ ap (λ b. if b then 1 else 0) live

-- put elsewhere, each slot stands in the list as often as before
moved : (d : Desk) (test : ℕ → Bool) (s t : ℕ) → IsArranged d → is_live (d.slot s) ≡ true
    → occurrences t (put_before test s (without s d.front_to_back)) ≡ occurrences t d.front_to_back
moved d test s t ok live =
    occurrences_put_before test s t (without s d.front_to_back) ∙ occurrences_moved s t d.front_to_back (once d s ok live)

-- The list with a slot in front, with one before the backdrops, and with one before another.
pub front_arranged : (d : Desk) (s : ℕ) → IsArranged d → is_live (d.slot s) ≡ true → has_backdrop d s ≡ false
    → IsArranged (record d { front_to_back = s ∷ without s d.front_to_back })
front_arranged d s ok live other =
    reordered d (s ∷ without s d.front_to_back) ok (λ t. occurrences_moved s t d.front_to_back (once d s ok live))
    (last_front (has_backdrop d) s (without s d.front_to_back) other
    (last_without (has_backdrop d) s d.front_to_back ok.backdrops))

pub back_arranged : (d : Desk) (s : ℕ) → IsArranged d → is_live (d.slot s) ≡ true
    → IsArranged (record d { front_to_back = put_before (has_backdrop d) s (without s d.front_to_back) })
back_arranged d s ok live =
    reordered d (put_before (has_backdrop d) s (without s d.front_to_back)) ok (λ t. moved d (has_backdrop d) s t ok live)
    (last_before_backdrops (has_backdrop d) s (without s d.front_to_back)
    (last_without (has_backdrop d) s d.front_to_back ok.backdrops))

pub before_arranged : (d : Desk) (s m : ℕ) → IsArranged d → is_live (d.slot s) ≡ true → is_live (d.slot m) ≡ true
    → has_backdrop d s ≡ false → has_backdrop d m ≡ false
    → IsArranged (if s == m then d else record d { front_to_back = put_before (λ t. t == m) s (without s d.front_to_back) })
before_arranged d s m ok live other_live plain other_plain = go (s == m) refl
  where
    go : (b : Bool) → (s == m) ≡ b
        → IsArranged (if b then d else record d { front_to_back = put_before (λ t. t == m) s (without s d.front_to_back) })
    go true e = ok
    go false e =
        let there : occurrences m (without s d.front_to_back) ≡ 1 =
        occurrences_without_other s m d.front_to_back e ∙ once d m ok other_live in
        reordered d (put_before (λ t. t == m) s (without s d.front_to_back)) ok (λ t. moved d (λ u. u == m) s t ok live)
        (last_before_one (has_backdrop d) s m (without s d.front_to_back) plain other_plain (omega (arith, there))
        (last_without (has_backdrop d) s d.front_to_back ok.backdrops))

-- Another live window is active.
pub activated : (d : Desk) (s : ℕ) → IsArranged d → layer_is (λ l. is_window l.window) (d.slot s) ≡ true
    → IsArranged (record d { active = Some s })
activated d s ok window =
    record {
      limits =
          ok.limits;
      beyond = ok.beyond;
      listed = ok.listed;
      backdrops = ok.backdrops;
      slots = ok.slots;
      active = window;
    }

-- a slot whose layer may have its bounds changed so is ready for it
ready_changed : (d : Desk) (s : ℕ) (change : Rectangle → Rectangle) (b : Option Rectangle) (x : Slot) → d.slot s ≡ x
    → IsReadySlot d.sizes b x → may_change_bounds d s change b ≡ true
    → IsReadySlot d.sizes (option_and_then (λ r. Some (change r)) b) x
ready_changed d s change None x is ready may = absurd (false≢true may)
ready_changed d s change (Some r) Unopened is ready may = absurd (cc)
ready_changed d s change (Some r) (Live l) is ready may =
    record {
      may = sym (ap (layer_is (λ k. layer_may_have_bounds d.sizes k (change r))) is) ∙ may;
      bitmap = ready.bitmap;
      planes = ready.planes;
      frameless = ready.frameless;
      left = ready.left;
      upper = ready.upper;
      own = ready.own;
    }
ready_changed d s change (Some r) Closed is ready may = absurd (cc)

-- Bounds changed as a layer may have them.
pub bounds_arranged : (d : Desk) (s : ℕ) (change : Rectangle → Rectangle) → IsArranged d
    → may_change_bounds d s change (d.bounds s) ≡ true → IsArranged (change_bounds d s change)
bounds_arranged d s change ok may =
    record {
      limits = ok.limits;
      beyond = ok.beyond;
      listed = ok.listed;
      backdrops = ok.backdrops;
      slots = λ t. go t (t == s) refl;
      active = active_stays d (change_bounds d s change) d.active (λ t. refl) ok.active;
    }
  where
    go : (t : ℕ) (b : Bool) → (t == s) ≡ b
        → IsReadySlot d.sizes (if b then option_and_then (λ r. Some (change r)) (d.bounds s) else d.bounds t) (d.slot t)
    go t true e =
        subst (λ k. IsReadySlot d.sizes (option_and_then (λ r. Some (change r)) (d.bounds s)) (d.slot k)) (sym (eqb-true t s e))
        (ready_changed d s change (d.bounds s) (d.slot s) refl (ok.slots s) may)
    go t false e = ok.slots t
