-- Plans whose pairs of windows stay together in every run (this project's own).
use Rattle.std.specs.Prelude.{◌≡◌, ℕ, ◌≤◌, ◌==◌, Bool, true, false, ◌⊎◌, List, [], All, AllPairs, Contains, Some}
use Rattle.std.specs.List.{slice_get}
use Rattle.lw_calls.specs.declared.pair.Pair.{Pair}
use Rattle.lw_calls.specs.declared.call.Call.{Call}
use Rattle.lw_calls.specs.declared.group.Group.{Group}
use Rattle.lw_calls.specs.declared.group.Hold.TheVariants.{All as AllLayers}
use Rattle.lw_calls.specs.Plan.{Plan, IsPlan, task_calls, task_groups, group_calls}
use Rattle.lw_calls.specs.Orders.{occurrences, is_open, Begins}
use Rattle.lw_calls.specs.Entries.{entries}
use Rattle.lw_machine.specs.Hook.{Hook}
use Rattle.lw_machine.specs.History.{machine}
use Rattle.lw_machine.specs.Finals.{opening_desk}
use Rattle.lw_gzz.specs.declared.word.GzzWord.{GzzWord}
use Rattle.lw_gzz.specs.declared.word.GzzWord.TheVariants.{Open}
use Rattle.lw_gzz.specs.Words.{Spells}
use Rattle.lw_gzz.specs.Together.{IsPaired, may_part, HasPairBox, puts_before, AreDisjoint, IsOpened}

-- A group of a task stands for a word that is done with a pair: it holds all layers, and its calls are the word's.
pub record StandsForWord (plan : Plan) (task : ℕ) (group : Group) (p : Pair) (word : GzzWord) : Type 0 where
  pub listed : Contains (task_groups plan task) group
  pub holds : group.hold ≡ AllLayers
  pub spells : Spells p word (group_calls (task_calls plan task) group)

-- the group stands for a word that is done with a pair of the plan
pub record IsPairGroup (plan : Plan) (task : ℕ) (group : Group) : Type 0 where
  pub pair : Pair
  pub word : GzzWord
  pub of_plan : Contains plan.pairs pair
  pub stands : StandsForWord plan task group pair word

-- a task's call of this number stands in such a group
pub record IsInPairGroup (plan : Plan) (task number : ℕ) : Type 0 where
  pub group : Group
  pub pair_group : IsPairGroup plan task group
  pub low : group.first ≤ number
  pub high : number ≤ group.last

-- the word opens a pair
abbrev pub opens_pair : GzzWord → Bool
opens_pair (Open kind place x y w h asks title) = true
opens_pair word = false

-- Just one group opens the pair.
pub record IsOpenedOnce (plan : Plan) (p : Pair) : Type 0 where
  pub task : ℕ
  pub group : Group
  pub word : GzzWord
  pub stands : StandsForWord plan task group p word
  pub opens : opens_pair word ≡ true
  pub only : (other : ℕ) (further : Group) (again : GzzWord) → StandsForWord plan other further p again → opens_pair again ≡ true
      → (other ≡ task) × (further ≡ group)

-- A plan whose pairs are kept apart from all else. It has version 2 or no pair. No slot stands twice in its pairs: those of one
-- pair differ, and two pairs have none in common. Each pair is opened once. Every call that arranges a window of a pair by
-- itself, puts a layer in front of one or makes an inner one active stands in a group that stands for a word done with a pair.
-- Such a word has a box that a pair may have, and puts its pair before no outer window.
pub record IsApart (plan : Plan) : Type 0 where
  pub version : (plan.sizes.version ≡ 2) ⊎ (plan.pairs ≡ [])
  pub slots : All (λ p. (p.inner == p.outer) ≡ false) plan.pairs
  pub disjoint : AllPairs AreDisjoint plan.pairs
  pub opened : All (IsOpenedOnce plan) plan.pairs
  pub calls : (task number : ℕ) (call : Call) → slice_get (task_calls plan task) number ≡ Some call
      → All (λ p. may_part p call ≡ false) plan.pairs ⊎ IsInPairGroup plan task number
  pub boxes : (task : ℕ) (group : Group) (p : Pair) (word : GzzWord) → Contains plan.pairs p
      → StandsForWord plan task group p word → HasPairBox plan.sizes word
  pub places : (task : ℕ) (group : Group) (p : Pair) (word : GzzWord) → Contains plan.pairs p
      → StandsForWord plan task group p word → All (λ q. puts_before q.outer word ≡ false) plan.pairs

-- After these numbers of tasks no such group was begun that isn't at its end.
abbrev pub IsOutside : Plan → List ℕ → Type 0
IsOutside plan past = (task : ℕ) (group : Group) → IsPairGroup plan task group → is_open (occurrences task past) group ≡ false

-- In every run of such a plan in a legal order, each pair is paired on every desk that isn't inside such a group.
abbrev pub PairsStayTogether : Type 0
PairsStayTogether =
    (plan : Plan) (hooks : List Hook) (past : List ℕ) → IsPlan plan → IsApart plan → Begins plan past → IsOutside plan past
    → All (IsPaired (machine (opening_desk plan hooks) (entries plan [] past))) plan.pairs

-- And wherever a group that opens a pair is next, none of its calls is refused.
abbrev pub OpeningsAreNotRefused : Type 0
OpeningsAreNotRefused =
    (plan : Plan) (hooks : List Hook) (past : List ℕ) (task : ℕ) (group : Group) (p : Pair) (word : GzzWord) → IsPlan plan
    → IsApart plan → Begins plan past → Contains plan.pairs p → StandsForWord plan task group p word → opens_pair word ≡ true
    → occurrences task past ≡ group.first → IsOpened (machine (opening_desk plan hooks) (entries plan [] past)) task p word
