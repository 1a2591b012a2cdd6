-- Calls that leave the windows of a pair paired.
use Rattle.std.proofs.Common.{◌≡◌, ℕ, ◌==◌, Bool, false, List, refl, sym, ◌∙◌}
use Rattle.std.proofs.lemmas.Bool.{or_parts, or_from}
use Rattle.lw_region.specs.Pixels.{Pixel}
use Rattle.lw_calls.specs.declared.pair.Pair.{Pair}
use Rattle.lw_calls.specs.declared.call.Call.{Call}
use Rattle.lw_calls.specs.declared.call.Call.TheVariants.{Create, OpenWindow, Close, InFrontOf, MoveBy, SizeBy, SetBox, Activate}
use Rattle.lw_calls.specs.Kinds.{is_super}
use Rattle.lw_machine.specs.Layer.{Slot, may_open, is_live}
use Rattle.lw_machine.specs.Desk.{Desk}
use Rattle.lw_machine.specs.Arrangement.{without, put_before}
use Rattle.lw_machine.specs.Step.{refusal, effect, after}
use Rattle.lw_machine.proofs.Untouched.{if_in_front}
use Rattle.lw_gzz.specs.Together.{AreMates, IsPaired, is_of, may_part, OtherCallsKeepPairsTogether}
use Rattle.lw_gzz.proofs.Order.{disturbs, unless, order_kept}
use Rattle.lw_gzz.proofs.Lasting.{Lasts, test_stable, live_stable, open_stable, remakes, elsewhere, after_lasts}

-- slots that are as mates for each test that lasts are mates
pub mates_last : (x y v w : Slot) → AreMates x y → Lasts x v → Lasts y w → AreMates v w
mates_last x y v w h outer inner =
    record {
      lives = inner is_live live_stable ∙ (h.lives ∙ sym (outer is_live live_stable));
      opens = λ version. inner (may_open version) (open_stable version) ∙
          (h.opens version ∙ sym (outer (may_open version) (open_stable version)));
      outer_plain = outer _ (test_stable (λ n. n.backdrop)) ∙ h.outer_plain;
      inner_plain = inner _ (test_stable (λ n. n.backdrop)) ∙ h.inner_plain;
      outer_own = outer _ (test_stable (λ n. is_super n.kind)) ∙ h.outer_own;
      inner_own = inner _ (test_stable (λ n. is_super n.kind)) ∙ h.inner_own;
      framed = outer _ (test_stable (λ n. n.framed)) ∙ (h.framed ∙ sym (outer is_live live_stable));
      frameless = inner _ (test_stable (λ n. n.framed)) ∙ h.frameless;
      owner = λ task. inner _ (test_stable (λ n. n.foreign task)) ∙
          (h.owner task ∙ sym (outer _ (test_stable (λ n. n.foreign task))));
    }

-- the call creates or deletes the layer in the slot, or changes its bounds
abbrev pub alters : ℕ → Call → Bool
alters s (Create slot make) = slot == s
alters s (OpenWindow slot make framed nocare asks title) = slot == s
alters s (Close slot) = slot == s
alters s (MoveBy slot dx dy) = slot == s
alters s (SizeBy slot dw dh) = slot == s
alters s (SetBox slot x y w h) = slot == s
alters s call = false

pub not_remade : (s : ℕ) (call : Call) → alters s call ≡ false → remakes s call ≡ false
not_remade s (Create slot make) other = other
not_remade s (OpenWindow slot make framed nocare asks title) other = other
not_remade s (Close slot) other = other
not_remade s call other = refl

-- a call that doesn't alter a slot leaves its bounds
effect_bounds : (d : Desk) (task : ℕ) (call : Call) (s : ℕ) → alters s call ≡ false → (effect d task call).bounds s ≡ d.bounds s
effect_bounds d task (Create slot make) s other = elsewhere (λ b. b) slot s _ d.bounds other
effect_bounds d task (OpenWindow slot make framed nocare asks title) s other = elsewhere (λ b. b) slot s _ d.bounds other
effect_bounds d task (Close slot) s other = elsewhere (λ b. b) slot s _ d.bounds other
effect_bounds d task (InFrontOf slot m) s other =
    if_in_front (λ a. a.bounds s ≡ d.bounds s) d (put_before (λ t. t == m) slot (without slot d.front_to_back)) (slot == m)
    refl refl
effect_bounds d task (MoveBy slot dx dy) s other = elsewhere (λ b. b) slot s _ d.bounds other
effect_bounds d task (SizeBy slot dw dh) s other = elsewhere (λ b. b) slot s _ d.bounds other
effect_bounds d task (SetBox slot x y w h) s other = elsewhere (λ b. b) slot s _ d.bounds other
effect_bounds d task call s other = refl

pub bounds_stay : (d : Desk) (task : ℕ) (call : Call) (s : ℕ) → alters s call ≡ false → (after d task call).bounds s ≡ d.bounds s
unfolding after
bounds_stay d task call s other =
    unless (λ a. a.bounds s ≡ d.bounds s) (refusal d task call) d (effect d task call) refl (effect_bounds d task call s other)

-- a call that doesn't disturb a pair alters neither slot
unaltered : (p : Pair) (call : Call) → disturbs p call ≡ false → (alters p.outer call ≡ false) × (alters p.inner call ≡ false)
unaltered p (Create slot make) other = or_parts (slot == p.outer) (slot == p.inner) other
unaltered p (OpenWindow slot make framed nocare asks title) other = or_parts (slot == p.outer) (slot == p.inner) other
unaltered p (Close slot) other = or_parts (slot == p.outer) (slot == p.inner) other
unaltered p (MoveBy slot dx dy) other = or_parts (slot == p.outer) (slot == p.inner) other
unaltered p (SizeBy slot dw dh) other = or_parts (slot == p.outer) (slot == p.inner) other
unaltered p (SetBox slot x y w h) other = or_parts (slot == p.outer) (slot == p.inner) other
unaltered p call other = (refl, refl)

pub kept : (d : Desk) (task : ℕ) (call : Call) (p : Pair) → disturbs p call ≡ false → IsPaired d p
    → IsPaired (after d task call) p
kept d task call p other h =
    let slots = unaltered p call other in
    let outer : Lasts (d.slot p.outer) ((after d task call).slot p.outer) =
    after_lasts d task call p.outer (not_remade p.outer call slots.0) in
    record {
      mates = mates_last _ _ _ _ h.mates outer (after_lasts d task call p.inner (not_remade p.inner call slots.1));
      together = λ live. let t = h.together (sym (outer is_live live_stable) ∙ live) in
          record {
            bounds = t.bounds;
            outer_bounds = bounds_stay d task call p.outer slots.0 ∙ t.outer_bounds;
            inner_bounds = bounds_stay d task call p.inner slots.1 ∙ t.inner_bounds;
            order = order_kept d task call p other h.mates.outer_plain t.order;
          };
    }

-- a call that may not part a pair doesn't disturb it
undisturbed : (p : Pair) (call : Call) → may_part p call ≡ false → disturbs p call ≡ false
undisturbed p (InFrontOf slot other) free =
    let both = or_parts (is_of p slot) (is_of p other) free in
    or_from (is_of p slot) (other == p.outer) both.0 (or_parts (other == p.outer) (other == p.inner) both.1).0
undisturbed p (Activate slot) free = refl
undisturbed p call free = free

pub others_keep : OtherCallsKeepPairsTogether
others_keep d task call p free h = kept d task call p (undisturbed p call free) h

-- registers don't matter
pub paired_swapped : (d : Desk) (registers : ℕ → ℕ → List Pixel) (p : Pair) → IsPaired d p
    → IsPaired (record d { registers = registers }) p
paired_swapped d registers p h =
    record {
      mates = h.mates;
      together = λ live. let t = h.together live in
          record { bounds = t.bounds; outer_bounds = t.outer_bounds; inner_bounds = t.inner_bounds; order = t.order };
    }
