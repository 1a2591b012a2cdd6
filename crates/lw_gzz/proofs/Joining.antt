-- Calls that put the windows of a pair elsewhere in the list.
use Rattle.std.proofs.Common.{◌≡◌, ℕ, ◌+◌, ◌<◌, ◌==◌, Bool, true, false, not, List, ◌∷◌, Some, None, refl, sym, ap, subst, ◌∙◌}
use Rattle.std.proofs.Common.{arith}
use Rattle.std.specs.Prelude.{if◌then◌else◌}
use Rattle.std.proofs.lemmas.Bool.{eq-eqb, false≢true}
use Rattle.lw_calls.specs.declared.pair.Pair.{Pair}
use Rattle.lw_calls.specs.declared.call.Call.{Call}
use Rattle.lw_calls.specs.declared.call.Call.TheVariants.{ToFront, ToBack, InFrontOf}
use Rattle.lw_calls.specs.declared.reply.Reply.TheVariants.{NotOpen, Backdrop}
use Rattle.lw_calls.specs.Orders.{occurrences}
use Rattle.lw_machine.specs.Layer.{is_live}
use Rattle.lw_machine.specs.Desk.{Desk}
use Rattle.lw_machine.specs.Arrangement.{without, put_before, has_backdrop}
use Rattle.lw_machine.specs.Reveal.{settled}
use Rattle.lw_machine.specs.Step.{refusal, effect, after}
use Rattle.lw_machine.proofs.ArrangedStep.{after_is}
use Rattle.lw_machine.proofs.ListSound.{occurrences_put_before, occurrences_without_other, put_before_same}
use Rattle.lw_machine.proofs.Untouched.{differ_back, if_in_front}
use Rattle.lw_gzz.specs.Together.{StandsBefore}
use Rattle.lw_gzz.proofs.Lists.{outer_listed, brought, both_front, both_behind}
use Rattle.lw_gzz.proofs.Order.{unless}
use Rattle.lw_gzz.proofs.Lasting.{test_stable, live_stable, remakes, after_lasts}

-- The two windows of a pair are open, and neither of them has a backdrop layer.
pub record AreOpen (d : Desk) (p : Pair) : Type 0 where
  pub differ : (p.inner == p.outer) ≡ false
  pub outer_live : is_live (d.slot p.outer) ≡ true
  pub inner_live : is_live (d.slot p.inner) ≡ true
  pub outer_plain : has_backdrop d p.outer ≡ false
  pub inner_plain : has_backdrop d p.inner ≡ false

-- so they are after a call that neither creates nor deletes one
still_open : (d : Desk) (task : ℕ) (call : Call) (p : Pair) → ((s : ℕ) → remakes s call ≡ false) → AreOpen d p
    → AreOpen (after d task call) p
still_open d task call p spared h =
    record {
      differ = h.differ;
      outer_live = after_lasts d task call p.outer (spared p.outer) is_live live_stable ∙ h.outer_live;
      inner_live = after_lasts d task call p.inner (spared p.inner) is_live live_stable ∙ h.inner_live;
      outer_plain = after_lasts d task call p.outer (spared p.outer) _ (test_stable (λ n. n.backdrop)) ∙ h.outer_plain;
      inner_plain = after_lasts d task call p.inner (spared p.inner) _ (test_stable (λ n. n.backdrop)) ∙ h.inner_plain;
    }

-- a live layer that is no backdrop may be put in front of all others, and behind them
may_move : (live plain : Bool) → live ≡ true → plain ≡ false
    → (if not live then Some NotOpen else (if plain then Some Backdrop else None)) ≡ None
may_move live plain is other = λ i. if not (is i) then Some NotOpen else (if other i then Some Backdrop else None)

list_front : (d : Desk) (task s : ℕ) → is_live (d.slot s) ≡ true → has_backdrop d s ≡ false
    → (after d task (ToFront s)).front_to_back ≡ s ∷ without s d.front_to_back
list_front d task s live plain =
    ap (λ a. a.front_to_back) (after_is d task (ToFront s) refl (may_move (is_live (d.slot s)) (has_backdrop d s) live plain))

list_behind : (d : Desk) (task s : ℕ) → is_live (d.slot s) ≡ true → has_backdrop d s ≡ false
    → (after d task (ToBack s)).front_to_back ≡ put_before (has_backdrop d) s (without s d.front_to_back)
list_behind d task s live plain =
    ap (λ a. a.front_to_back) (after_is d task (ToBack s) refl (may_move (is_live (d.slot s)) (has_backdrop d s) live plain))

-- the inner window may be put in front of the outer one
pub may_join : (d : Desk) (task : ℕ) (p : Pair) → AreOpen d p → refusal d task (InFrontOf p.inner p.outer) ≡ None
may_join d task p h =
    λ i. if not (h.inner_live i) then Some NotOpen
    else (if not (h.outer_live i) then Some NotOpen
    else (if h.inner_plain i then Some Backdrop else (if h.outer_plain i then Some Backdrop else None)))

pub list_joined : (d : Desk) (task : ℕ) (p : Pair) → AreOpen d p
    → (after d task (InFrontOf p.inner p.outer)).front_to_back
    ≡ put_before (λ t. t == p.outer) p.inner (without p.inner d.front_to_back)
list_joined d task p h =
    ap (λ a. a.front_to_back) (after_is d task (InFrontOf p.inner p.outer) refl (may_join d task p h)) ∙
    ap (λ t. (settled d (if t then d
    else record d { front_to_back = put_before (λ t. t == p.outer) p.inner (without p.inner d.front_to_back) })).front_to_back)
    h.differ

-- a slot is listed after it was put in front of another one, or wasn't
listed_put : (d : Desk) (o m : ℕ) → 0 < occurrences o (put_before (λ t. t == m) o (without o d.front_to_back))
listed_put d o m =
    subst (λ n. 0 < n) (sym (occurrences_put_before (λ t. t == m) o o (without o d.front_to_back)))
    (step (o == o) (eq-eqb o o refl))
  where
    step : (b : Bool) → b ≡ true → 0 < (if b then 1 else 0) + occurrences o (without o d.front_to_back)
    step true is = omega arith
    step false is = absurd (false≢true is)

still_listed : (d : Desk) (task o m : ℕ) → 0 < occurrences o d.front_to_back
    → 0 < occurrences o (after d task (InFrontOf o m)).front_to_back
unfolding after
still_listed d task o m has =
    unless (λ a. 0 < occurrences o a.front_to_back) (refusal d task (InFrontOf o m)) d (effect d task (InFrontOf o m)) has
    (if_in_front (λ a. 0 < occurrences o a.front_to_back) d (put_before (λ t. t == m) o (without o d.front_to_back)) (o == m) has
    (listed_put d o m))

-- and it is listed where another one is taken out
pub still_without : (o i : ℕ) (slots : List ℕ) → (i == o) ≡ false → 0 < occurrences o slots → 0 < occurrences o (without i slots)
still_without o i slots differ has =
    let same : occurrences o (without i slots) ≡ occurrences o slots = occurrences_without_other i o slots differ in
    omega (arith, same, has)

-- the inner window put in front of the outer one
pub joined_order : (d : Desk) (task : ℕ) (p : Pair) → AreOpen d p → 0 < occurrences p.outer d.front_to_back
    → StandsBefore p.inner p.outer (after d task (InFrontOf p.inner p.outer)).front_to_back
joined_order d task p h has =
    subst (λ l. StandsBefore p.inner p.outer l) (sym (list_joined d task p h))
    (brought p.inner p.outer (without p.inner d.front_to_back) (still_without p.outer p.inner d.front_to_back h.differ has))

-- the order of the pair after each group that puts both elsewhere
pub front_order : (d : Desk) (task : ℕ) (p : Pair) → AreOpen d p
    → StandsBefore p.inner p.outer (after (after d task (ToFront p.outer)) task (ToFront p.inner)).front_to_back
front_order d task p h =
    let e : Desk = after d task (ToFront p.outer) in
    let open_e : AreOpen e p = still_open d task (ToFront p.outer) p (λ s. refl) h in
    let first : e.front_to_back ≡ p.outer ∷ without p.outer d.front_to_back =
    list_front d task p.outer h.outer_live h.outer_plain in
    let second : (after e task (ToFront p.inner)).front_to_back ≡ p.inner ∷ without p.inner e.front_to_back =
    list_front e task p.inner open_e.inner_live open_e.inner_plain in
    subst (λ l. StandsBefore p.inner p.outer l) (sym (second ∙ ap (λ l. p.inner ∷ without p.inner l) first))
    (both_front p.inner p.outer (without p.outer d.front_to_back) (differ_back p.inner p.outer h.differ))

pub behind_order : (d : Desk) (task : ℕ) (p : Pair) → AreOpen d p
    → StandsBefore p.inner p.outer (after (after d task (ToBack p.inner)) task (ToBack p.outer)).front_to_back
behind_order d task p h =
    let e : Desk = after d task (ToBack p.inner) in
    let open_e : AreOpen e p = still_open d task (ToBack p.inner) p (λ s. refl) h in
    let first : e.front_to_back ≡ put_before (has_backdrop d) p.inner (without p.inner d.front_to_back) =
    list_behind d task p.inner h.inner_live h.inner_plain in
    let same : (s : ℕ) → has_backdrop d s ≡ has_backdrop e s =
    λ s. sym (after_lasts d task (ToBack p.inner) s refl _ (test_stable (λ n. n.backdrop))) in
    let second : (after e task (ToBack p.outer)).front_to_back
    ≡ put_before (has_backdrop e) p.outer (without p.outer e.front_to_back) =
    list_behind e task p.outer open_e.outer_live open_e.outer_plain in
    subst (λ l. StandsBefore p.inner p.outer l)
    (sym (second ∙ ap (λ l. put_before (has_backdrop e) p.outer (without p.outer l))
    (first ∙ put_before_same (has_backdrop d) (has_backdrop e) p.inner (without p.inner d.front_to_back) (λ t _. same t))))
    (both_behind (has_backdrop e) p.inner p.outer (without p.inner d.front_to_back) open_e.inner_plain open_e.outer_plain
    h.differ)

pub put_order : (d : Desk) (task m : ℕ) (p : Pair) → AreOpen d p → StandsBefore p.inner p.outer d.front_to_back
    → StandsBefore p.inner p.outer
    (after (after d task (InFrontOf p.outer m)) task (InFrontOf p.inner p.outer)).front_to_back
put_order d task m p h order =
    joined_order (after d task (InFrontOf p.outer m)) task p (still_open d task (InFrontOf p.outer m) p (λ s. refl) h)
    (still_listed d task p.outer m (outer_listed p.inner p.outer d.front_to_back order))
