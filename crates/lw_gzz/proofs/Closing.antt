-- The windows of a pair are closed with one answer.
use Rattle.std.proofs.Common.{◌≡◌, ℕ, ◌==◌, Bool, false, not, Option, Some, None, refl, sym, ap, subst, ◌∙◌}
use Rattle.std.specs.Prelude.{if◌then◌else◌}
use Rattle.std.proofs.lemmas.Bool.{eq-eqb, both_ways}
use Rattle.lw_calls.specs.declared.pair.Pair.{Pair}
use Rattle.lw_calls.specs.declared.call.Call.{Call}
use Rattle.lw_calls.specs.declared.call.Call.TheVariants.{Close}
use Rattle.lw_calls.specs.declared.reply.Reply.{Reply}
use Rattle.lw_calls.specs.declared.reply.Reply.TheVariants.{Done, NotOpen, NotOwner}
use Rattle.lw_machine.specs.Layer.{Closed, is_live, layer_is, is_foreign}
use Rattle.lw_machine.specs.Desk.{Desk}
use Rattle.lw_machine.specs.Arrangement.{delete_layer}
use Rattle.lw_machine.specs.Step.{refusal, effect, reply_or, changed_unless, after, reply}
use Rattle.lw_machine.proofs.ArrangedStep.{after_is}
use Rattle.lw_machine.proofs.Untouched.{differ_back}
use Rattle.lw_gzz.specs.Together.{AreMates, IsPaired, BothAreClosedAlike}
use Rattle.lw_gzz.proofs.Lasting.{Lasts, test_stable, live_stable, settled_lasts, after_lasts}
use Rattle.lw_gzz.proofs.Pairs.{mates_last}

-- the refusal of a window's closing, by what its slot has
abbrev closing : Bool → Bool → Option Reply
closing live foreign = if not live then Some NotOpen else (if foreign then Some NotOwner else None)

-- where two slots have the same, the refusals are the same
refused_alike : (d e : Desk) (task s t : ℕ) → is_live (d.slot s) ≡ is_live (e.slot t)
    → layer_is (λ l. is_foreign task l.window) (d.slot s) ≡ layer_is (λ l. is_foreign task l.window) (e.slot t)
    → refusal d task (Close s) ≡ refusal e task (Close t)
refused_alike d e task s t lives owner = λ i. closing (lives i) (owner i)

-- the second closing is refused as the first one
second_alike : (d : Desk) (task : ℕ) (p : Pair) → (p.inner == p.outer) ≡ false → AreMates (d.slot p.outer) (d.slot p.inner)
    → refusal (after d task (Close p.outer)) task (Close p.inner) ≡ refusal d task (Close p.outer)
second_alike d task p differ mates =
    let inner : Lasts (d.slot p.inner) ((after d task (Close p.outer)).slot p.inner) =
    after_lasts d task (Close p.outer) p.inner (differ_back p.inner p.outer differ) in
    refused_alike (after d task (Close p.outer)) d task p.inner p.outer (inner is_live live_stable ∙ mates.lives)
    (inner _ (test_stable (λ n. n.foreign task)) ∙ mates.owner task)

pub closed_alike : BothAreClosedAlike
unfolding reply
closed_alike d task p differ mates = ap (λ o. reply_or o Done) (second_alike d task p differ mates)

-- a slot whose layer is closed
closes : (d : Desk) (task s : ℕ) → refusal d task (Close s) ≡ None → Lasts Closed ((after d task (Close s)).slot s)
closes d task s allowed f stable =
    ap (λ a. f (a.slot s)) (after_is d task (Close s) refl allowed) ∙
    (settled_lasts d (delete_layer d s) s f stable ∙ ap (λ b. f (if b then Closed else d.slot s)) (eq-eqb s s refl))

closed_mates : AreMates Closed Closed
closed_mates = record {
  lives = refl;
  opens = λ _. refl;
  outer_plain = refl;
  inner_plain = refl;
  outer_own = refl;
  inner_own = refl;
  framed = refl;
  frameless = refl;
  owner = λ _. refl;
}

-- what a refused call leaves
pub refused_left : (d : Desk) (task : ℕ) (call : Call) (r : Reply) → refusal d task call ≡ Some r → after d task call ≡ d
unfolding after
refused_left d task call r refused = ap (λ o. changed_unless o d (effect d task call)) refused

-- both calls leave a pair paired
pub closed : (d : Desk) (task : ℕ) (p : Pair) → (p.inner == p.outer) ≡ false → IsPaired d p
    → IsPaired (after (after d task (Close p.outer)) task (Close p.inner)) p
closed d task p differ h = step (refusal d task (Close p.outer)) refl
  where
    e : Desk
    e = after d task (Close p.outer)

    step : (o : Option Reply) → refusal d task (Close p.outer) ≡ o → IsPaired (after e task (Close p.inner)) p
    step None allowed =
        let outer : Lasts Closed ((after e task (Close p.inner)).slot p.outer) =
        λ f stable. after_lasts e task (Close p.inner) p.outer differ f stable ∙ closes d task p.outer allowed f stable in
        record {
          mates = mates_last _ _ _ _ closed_mates outer
              (closes e task p.inner (second_alike d task p differ h.mates ∙ allowed));
          together = λ live. absurd (both_ways _ (outer is_live live_stable) live);
        }
    step (Some r) refused =
        subst (λ a. IsPaired a p)
        (sym (refused_left e task (Close p.inner) r (second_alike d task p differ h.mates ∙ refused) ∙
        refused_left d task (Close p.outer) r refused)) h
