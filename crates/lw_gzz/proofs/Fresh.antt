-- No layer was created in a pair's slots before the group that opens it.
use Rattle.std.proofs.Common.{◌≡◌, ℕ, ◌+◌, ◌-◌, ◌<◌, ◌≤◌, ◌==◌, Bool, true, false, not, ◌&&◌, ◌||◌, List, [], ◌∷◌, ◌++◌, length}
use Rattle.std.proofs.Common.{take, drop, get_or, All, Contains, Some, None, refl, sym, ap, subst, ◌∙◌, ⊎_elim, arith}
use Rattle.std.proofs.Common.{get_or-take, get_or-drop, length-take-le, length-drop, slice_index_or}
use Rattle.std.specs.Prelude.{if◌then◌else◌}
use Rattle.std.specs.List.{list_all, slice_get}
use Rattle.std.proofs.lemmas.Bool.{and_parts, and_from, or_left, or_right, or_cases, both_ways, false_from_ne_true}
use Rattle.std.proofs.lemmas.Bool.{true_from_ne_false, eqb-true, eq-eqb, not-true, false≢true, cases_eq}
use Rattle.std.proofs.lemmas.Option.{slice_get-get_or}
use Rattle.std.proofs.lemmas.List.{get_or_default}
use Rattle.std.proofs.lemmas.List.Elements.{All-contains}
use Rattle.std.proofs.lemmas.List.Folds.{list_all_at}
use Rattle.lw_calls.specs.declared.sizes.Sizes.{Sizes}
use Rattle.lw_calls.specs.declared.pair.Pair.{Pair}
use Rattle.lw_calls.specs.declared.call.Call.{Call}
use Rattle.lw_calls.specs.declared.call.Call.TheVariants.{Create, OpenWindow, Close}
use Rattle.lw_calls.specs.declared.group.Group.{Group}
use Rattle.lw_calls.specs.declared.reply.Reply.TheVariants.{NotOpen, NotOwner}
use Rattle.lw_calls.specs.Kinds.{is_super}
use Rattle.lw_calls.specs.Limits.{may_leave_screen}
use Rattle.lw_calls.specs.Plan.{Plan, IsPlan, task_calls, group_calls}
use Rattle.lw_calls.specs.Orders.{occurrences, may_come}
use Rattle.lw_calls.specs.Entries.{entries}
use Rattle.lw_calls.proofs.OrderGroups.{ends_within}
use Rattle.lw_calls.proofs.OrdersComplete.{occurs_again, occurs_as_before}
use Rattle.lw_machine.specs.Layer.{Slot, Unopened, Live, Closed, may_open, is_live, layer_is, is_foreign}
use Rattle.lw_machine.specs.Desk.{Desk}
use Rattle.lw_machine.specs.Step.{refusal, after}
use Rattle.lw_machine.specs.History.{machine}
use Rattle.lw_machine.specs.Finals.{opening_desk}
use Rattle.lw_machine.proofs.ArrangementSound.{idle}
use Rattle.lw_machine.proofs.ReachedSound.{after_sizes}
use Rattle.lw_gzz.specs.declared.word.GzzWord.{GzzWord}
use Rattle.lw_gzz.specs.declared.word.GzzWord.TheVariants.{Open, SetBox, Front, Behind, InFrontOf, Close as CloseBoth}
use Rattle.lw_gzz.specs.Words.{expansion}
use Rattle.lw_gzz.specs.Together.{is_of, may_part, AreDisjoint, IsPairBox, IsOpened}
use Rattle.lw_gzz.specs.Apart.{StandsForWord, IsInPairGroup, opens_pair, IsOpenedOnce, IsApart, OpeningsAreNotRefused}
use Rattle.lw_gzz.proofs.Lasting.{open_stable, after_lasts}
use Rattle.lw_gzz.proofs.Closing.{refused_left}
use Rattle.lw_gzz.proofs.Opening.{opened}
use Rattle.lw_gzz.proofs.PairGroups.{outer_of, inner_of, one_or_disjoint}
use Rattle.lw_gzz.proofs.Starts.{at_each_start}
use Rattle.lw_gzz.proofs.Runs.{fits, leaves}

-- the call creates a layer in the slot, if it isn't refused
abbrev opens : ℕ → Call → Bool
opens s (Create slot make) = slot == s
opens s (OpenWindow slot make framed nocare asks title) = slot == s
opens s call = false

-- no other call makes anything of a slot in which no layer was created
fresh_stays : (d : Desk) (task : ℕ) (call : Call) (s : ℕ) → opens s call ≡ false → may_open 1 (d.slot s) ≡ true
    → may_open 1 ((after d task call).slot s) ≡ true
fresh_stays d task (Create slot make) s other fresh = after_lasts d task (Create slot make) s other _ (open_stable 1) ∙ fresh
fresh_stays d task (OpenWindow slot make framed nocare asks title) s other fresh =
    after_lasts d task (OpenWindow slot make framed nocare asks title) s other _ (open_stable 1) ∙ fresh
fresh_stays d task (Close slot) s other fresh = step (slot == s) refl
  where
    closing : (slot == s) ≡ true → refusal d task (Close slot) ≡ Some NotOpen
    closing e =
        let dead : is_live (d.slot slot) ≡ false = ap (λ n. is_live (d.slot n)) (eqb-true slot s e) ∙ idle 1 (d.slot s) fresh in
        λ i. if not (dead i) then Some NotOpen
        else (if layer_is (λ l. is_foreign task l.window) (d.slot slot) then Some NotOwner else None)

    step : (b : Bool) → (slot == s) ≡ b → may_open 1 ((after d task (Close slot)).slot s) ≡ true
    step true e = ap (λ a. may_open 1 (a.slot s)) (refused_left d task (Close slot) NotOpen (closing e)) ∙ fresh
    step false e = after_lasts d task (Close slot) s e _ (open_stable 1) ∙ fresh
fresh_stays d task call s other fresh = after_lasts d task call s refl _ (open_stable 1) ∙ fresh

-- in such a slot a layer may be created in any version
fresh_opens : (version : ℕ) (x : Slot) → may_open 1 x ≡ true → may_open version x ≡ true
fresh_opens version Unopened fresh = refl
fresh_opens version (Live l) fresh = absurd (false≢true fresh)
fresh_opens version Closed fresh = absurd (false≢true fresh)

-- a call that creates a layer in a pair's slot may part it
opening_parts : (p : Pair) (s : ℕ) (call : Call) → is_of p s ≡ true → opens s call ≡ true → may_part p call ≡ true
opening_parts p s (Create slot make) own is = ap (is_of p) (eqb-true slot s is) ∙ own
opening_parts p s (OpenWindow slot make framed nocare asks title) own is = ap (is_of p) (eqb-true slot s is) ∙ own
opening_parts p s call own is = absurd (false≢true is)

-- Of the calls of a word those create layers that open its pair, and in its own slots.
abbrev opens_own : ℕ → Pair → GzzWord → Call → Bool
opens_own s q word call = not (opens s call) || (opens_pair word && is_of q s)

word_opens : (s : ℕ) (q : Pair) (word : GzzWord) → list_all (opens_own s q word) (expansion q word) ≡ true
word_opens s q (Open kind place x y w h asks title) =
    and_from _ _ (own q.outer (λ e. or_left (s == q.outer) (s == q.inner) (eq-eqb s q.outer (sym e))))
    (and_from _ _ (own q.inner (λ e. or_right (s == q.outer) (s == q.inner) (eq-eqb s q.inner (sym e)))) refl)
  where
    step : (a : ℕ) → (a ≡ s → is_of q s ≡ true) → (b : Bool) → (a == s) ≡ b → (not b || is_of q s) ≡ true
    step a has true e = has (eqb-true a s e)
    step a has false e = refl

    own : (a : ℕ) → (a ≡ s → is_of q s ≡ true) → (not (a == s) || is_of q s) ≡ true
    own a has = step a has (a == s) refl
word_opens s q (SetBox x y w h) = refl
word_opens s q Front = refl
word_opens s q Behind = refl
word_opens s q (InFrontOf other) = refl
word_opens s q CloseBoth = refl

-- a test that all calls of a group pass
passes_in : (test : Call → Bool) (calls : List Call) (g : Group) (n : ℕ) (c : Call) → list_all test (group_calls calls g) ≡ true
    → g.first ≤ n → n ≤ g.last → g.last < length calls → slice_get calls n ≡ Some c → test c ≡ true
passes_in test calls g n c all low high within at =
    let there : Some c ≡ Some (get_or calls n c) = sym at ∙ slice_get-get_or calls n c (omega (arith, high, within)) in
    let of_c : c ≡ get_or calls n c = cc in
    let place : g.first + (n - g.first) ≡ n = omega (arith, low) in
    let dropped : length (drop g.first calls) ≡ length calls - g.first = length-drop g.first calls in
    let taken : length (take ((g.last + 1) - g.first) (drop g.first calls)) ≡ (g.last + 1) - g.first =
    length-take-le ((g.last + 1) - g.first) (drop g.first calls) (omega (arith, dropped, within, low, high)) in
    let is : get_or (group_calls calls g) (n - g.first) c ≡ c =
    get_or-take ((g.last + 1) - g.first) (drop g.first calls) (n - g.first) c (omega (arith, low, high)) ∙
    (get_or-drop g.first calls (n - g.first) c ∙ (ap (λ k. get_or calls k c) place ∙ sym of_c)) in
    true_from_ne_false (test c)
    (λ off. both_ways _
    (list_all_at test (group_calls calls g) (n - g.first) c (omega (arith, taken, low, high)) (ap test is ∙ off)) all)

-- pairs that have a slot in common aren't disjoint
in_common : (p q : Pair) (s : ℕ) → is_of p s ≡ true → is_of q s ≡ true → AreDisjoint q p → ⊥
in_common p q s own has apart =
    ⊎_elim (λ (e : (s == q.outer) ≡ true). both_ways _ apart.0 (ap (is_of p) (sym (eqb-true s q.outer e)) ∙ own))
    (λ (e : (s == q.inner) ≡ true). both_ways _ apart.1 (ap (is_of p) (sym (eqb-true s q.inner e)) ∙ own))
    (or_cases (s == q.outer) (s == q.inner) has)

-- what holds until the group that opens the pair begins
record IsFresh (plan : Plan) (p : Pair) (task : ℕ) (group : Group) (past : List ℕ) (d : Desk) : Type 0 where
  sizes : d.sizes ≡ plan.sizes
  fresh : occurrences task past ≤ group.first → (s : ℕ) → is_of p s ≡ true → may_open 1 (d.slot s) ≡ true

module _ (plan : Plan) (ok : IsPlan plan) (apart : IsApart plan) (p : Pair) (has : Contains plan.pairs p) (task : ℕ)
    (group : Group) (word : GzzWord) (stands : StandsForWord plan task group p word) (opening : opens_pair word ≡ true) where
  -- the group that opens the pair is the only one
  the_only : (t : ℕ) (g : Group) (w : GzzWord) → StandsForWord plan t g p w → opens_pair w ≡ true → (t ≡ task) × (g ≡ group)
  the_only t g w s is =
      let once : IsOpenedOnce plan p = All-contains (IsOpenedOnce plan) plan.pairs p apart.opened has in
      let this = once.only task group word stands opening in
      let that = once.only t g w s is in
      (that.0 ∙ sym this.0, that.1 ∙ sym this.1)

  -- a call that creates a layer in one of its slots is one of that group
  of_group : (past : List ℕ) (t : ℕ) (c : Call) (s : ℕ) → slice_get (task_calls plan t) (occurrences t past) ≡ Some c
      → is_of p s ≡ true → opens s c ≡ true → (t ≡ task) × (group.first ≤ occurrences t past)
  of_group past t c s at own is = ⊎_elim free inside (apart.calls t (occurrences t past) c at)
    where
      free : All (λ q. may_part q c ≡ false) plan.pairs → (t ≡ task) × (group.first ≤ occurrences t past)
      free spared =
          absurd (both_ways _ (All-contains (λ q. may_part q c ≡ false) plan.pairs p spared has) (opening_parts p s c own is))

      inside : IsInPairGroup plan t (occurrences t past) → (t ≡ task) × (group.first ≤ occurrences t past)
      inside i =
          let r = i.pair_group in
          let q : Pair = r.pair in
          let last = ends_within (task_calls plan t) i.group (fits plan ok apart t i.group r.stands.listed) in
          let passes : opens_own s q r.word c ≡ true =
          passes_in (opens_own s q r.word) (task_calls plan t) i.group (occurrences t past) c
          (subst (λ cs. list_all (opens_own s q r.word) cs ≡ true) r.stands.spells.1 (word_opens s q r.word)) i.low i.high
          last at in
          let opened_own = and_parts (opens_pair r.word) (is_of q s)
          (subst (λ b. (not b || (opens_pair r.word && is_of q s)) ≡ true) is passes) in
          let read : slice_index_or plan.pairs has.0 q ≡ p = get_or_default plan.pairs has.0 q p has.1 ∙ has.2 in
          let same : q ≡ p =
          ⊎_elim (λ (e : q ≡ slice_index_or plan.pairs has.0 q). e ∙ read)
          (λ (far : AreDisjoint q (slice_index_or plan.pairs has.0 q)).
          absurd (in_common p q s own opened_own.1 (subst (λ x. AreDisjoint q x) read far)))
          (one_or_disjoint plan.pairs q r.of_plan.0 has.0 apart.disjoint r.of_plan.1 r.of_plan.2 has.1) in
          let only = the_only t i.group r.word (subst (λ x. StandsForWord plan t i.group x r.word) same r.stands) opened_own.0 in
          let low : i.group.first ≤ occurrences t past = i.low in
          (only.0, subst (λ (g : Group). g.first ≤ occurrences t past) only.1 low)

  keeps_fresh : (past : List ℕ) (d : Desk) (t : ℕ) (c : Call) → slice_get (task_calls plan t) (occurrences t past) ≡ Some c
      → may_come plan past t (Some c) ≡ true → IsFresh plan p task group past d
      → IsFresh plan p task group (past ++ t ∷ []) (after d t c)
  keeps_fresh past d t c at may h =
      record {
        sizes = after_sizes d t c ∙ h.sizes;
        fresh = λ low s own. fresh_stays d t c s
            (false_from_ne_true _ (λ is. let of = of_group past t c s at own is in
            let again : occurrences task (past ++ t ∷ []) ≡ occurrences t past + 1 =
            ap (λ u. occurrences u (past ++ t ∷ [])) (sym of.0) ∙ occurs_again t past in
            let first : group.first ≤ occurrences t past = of.1 in
            omega (arith, again, first, low)))
            (h.fresh (earlier low) s own);
      }
    where
      earlier : occurrences task (past ++ t ∷ []) ≤ group.first → occurrences task past ≤ group.first
      earlier low =
          ⊎_elim
          (λ (same : t ≡ task). let again : occurrences task (past ++ t ∷ []) ≡ occurrences task past + 1 =
          ap (λ u. occurrences task (past ++ u ∷ [])) same ∙ occurs_again task past in omega (arith, again, low))
          (λ (other : t ≡ task → ⊥). let before : occurrences task (past ++ t ∷ []) ≡ occurrences task past =
          occurs_as_before task t past other in omega (arith, before, low))
          (cases_eq t task)

  -- so its calls are not refused
  opened_at : (past : List ℕ) (d : Desk) → IsFresh plan p task group past d → occurrences task past ≡ group.first
      → IsOpened d task p word
  opened_at past d h next = by_word word stands opening
    where
      free : (s : ℕ) → is_of p s ≡ true → may_open d.sizes.version (d.slot s) ≡ true
      free s own = fresh_opens d.sizes.version (d.slot s) (h.fresh (omega (arith, next)) s own)

      by_word : (w : GzzWord) → StandsForWord plan task group p w → opens_pair w ≡ true → IsOpened d task p w
      by_word (Open kind place x y columns rows asks title) s is =
          opened d task p kind place x y columns rows asks title
          (ap (λ (z : Sizes). may_leave_screen z.version) h.sizes ∙ leaves plan ok apart p has)
          (All-contains (λ p. (p.inner == p.outer) ≡ false) plan.pairs p apart.slots has)
          (free p.outer (outer_of p)) (free p.inner (inner_of p)) (not-true (is_super kind) s.spells.0)
          (subst (λ (z : Sizes). IsPairBox z x y columns rows) (sym h.sizes) (apart.boxes task group p _ has s))
      by_word w s is = absurd (false≢true is)

pub not_refused : OpeningsAreNotRefused
not_refused plan hooks past task group p word ok apart begins has stands opening next =
    opened_at plan ok apart p has task group word stands opening past (machine (opening_desk plan hooks) (entries plan [] past))
    (at_each_start plan (IsFresh plan p task group)
    (keeps_fresh plan ok apart p has task group word stands opening) hooks past
    (record { sizes = refl; fresh = λ low s own. refl }) begins) next
