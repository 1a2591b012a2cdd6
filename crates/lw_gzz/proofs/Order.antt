-- Calls that leave the inner window of a pair directly in front of the outer one.
use Rattle.std.proofs.Common.{◌≡◌, ℕ, ◌==◌, Bool, false, List, Option, Some, None}
use Rattle.std.specs.Prelude.{◌||◌}
use Rattle.std.proofs.lemmas.Bool.{or_parts}
use Rattle.lw_calls.specs.declared.pair.Pair.{Pair}
use Rattle.lw_calls.specs.declared.call.Call.{Call}
use Rattle.lw_calls.specs.declared.call.Call.TheVariants.{Create, OpenWindow, Close, ToFront, ToBack, InFrontOf, MoveBy, SizeBy}
use Rattle.lw_calls.specs.declared.call.Call.TheVariants.{SetBox}
use Rattle.lw_calls.specs.declared.reply.Reply.{Reply}
use Rattle.lw_machine.specs.Desk.{Desk}
use Rattle.lw_machine.specs.Arrangement.{without, put_before, has_backdrop}
use Rattle.lw_machine.specs.Step.{refusal, effect, changed_unless, after}
use Rattle.lw_machine.proofs.Untouched.{differ_back, if_in_front}
use Rattle.lw_gzz.specs.Together.{StandsBefore, is_of}
use Rattle.lw_gzz.proofs.Lists.{front_keeps, without_keeps, put_keeps, placed_keeps}

-- the call creates, deletes, moves, resizes or reorders a window of the pair, or puts a layer directly in front of the outer one
abbrev pub disturbs : Pair → Call → Bool
disturbs p (Create slot make) = is_of p slot
disturbs p (OpenWindow slot make framed nocare asks title) = is_of p slot
disturbs p (Close slot) = is_of p slot
disturbs p (ToFront slot) = is_of p slot
disturbs p (ToBack slot) = is_of p slot
disturbs p (InFrontOf slot other) = is_of p slot || (other == p.outer)
disturbs p (MoveBy slot dx dy) = is_of p slot
disturbs p (SizeBy slot dw dh) = is_of p slot
disturbs p (SetBox slot x y w h) = is_of p slot
disturbs p call = false

-- a list without another slot
other_without : (p : Pair) (s : ℕ) (slots : List ℕ) → is_of p s ≡ false → StandsBefore p.inner p.outer slots
    → StandsBefore p.inner p.outer (without s slots)
other_without p s slots other h =
    let both = or_parts (s == p.outer) (s == p.inner) other in
    without_keeps s p.inner p.outer slots (differ_back s p.inner both.1) (differ_back s p.outer both.0) h

-- what the call does
effect_keeps : (d : Desk) (task : ℕ) (call : Call) (p : Pair) → disturbs p call ≡ false → has_backdrop d p.outer ≡ false
    → StandsBefore p.inner p.outer d.front_to_back → StandsBefore p.inner p.outer (effect d task call).front_to_back
effect_keeps d task (Create slot make) p other plain h =
    placed_keeps (has_backdrop d) make.backdrop make.place slot p.inner p.outer d.front_to_back plain h
effect_keeps d task (OpenWindow slot make framed nocare asks title) p other plain h =
    placed_keeps (has_backdrop d) make.backdrop make.place slot p.inner p.outer d.front_to_back plain h
effect_keeps d task (Close slot) p other plain h = other_without p slot d.front_to_back other h
effect_keeps d task (ToFront slot) p other plain h =
    front_keeps slot p.inner p.outer (without slot d.front_to_back) (other_without p slot d.front_to_back other h)
effect_keeps d task (ToBack slot) p other plain h =
    put_keeps (has_backdrop d) slot p.inner p.outer (without slot d.front_to_back) plain
    (other_without p slot d.front_to_back other h)
effect_keeps d task (InFrontOf slot m) p other plain h =
    let both = or_parts (is_of p slot) (m == p.outer) other in
    if_in_front (λ a. StandsBefore p.inner p.outer a.front_to_back) d
    (put_before (λ t. t == m) slot (without slot d.front_to_back)) (slot == m) h
    (put_keeps (λ t. t == m) slot p.inner p.outer (without slot d.front_to_back) (differ_back m p.outer both.1)
    (other_without p slot d.front_to_back both.0 h))
effect_keeps d task call p other plain h = h

-- what holds of a desk and of the desk after a call's effect holds of the one after the call
pub unless : (P : Desk → Type 0) (refused : Option Reply) (d a : Desk) → P d → P a → P (changed_unless refused d a)
unless P None d a h k = k
unless P (Some reply) d a h k = h

pub order_kept : (d : Desk) (task : ℕ) (call : Call) (p : Pair) → disturbs p call ≡ false → has_backdrop d p.outer ≡ false
    → StandsBefore p.inner p.outer d.front_to_back → StandsBefore p.inner p.outer (after d task call).front_to_back
unfolding after
order_kept d task call p other plain h =
    unless (λ a. StandsBefore p.inner p.outer a.front_to_back) (refusal d task call) d (effect d task call) h
    (effect_keeps d task call p other plain h)
