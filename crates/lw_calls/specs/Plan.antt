-- What a plan holds, as contracts see it.
use Rattle.std.specs.Prelude.{◌≡◌, ℕ, ◌+◌, ◌-◌, ◌≤◌, ◌==◌, Bool, true, false, not, ◌&&◌, ◌||◌, nat_lt, nat_le, List, [], ◌∷◌}
use Rattle.std.specs.Prelude.{length, take, drop, replicate, All, IsTrue}
use Rattle.std.specs.List.{slice_index_or, list_all}
use Rattle.lw_planes.specs.Sizes.{IsPlanes}
use Rattle.lw_calls.specs.declared.sizes.Sizes.{Sizes}
use Rattle.lw_calls.specs.declared.call.Call.{Call}
use Rattle.lw_calls.specs.declared.call.Call.TheVariants.{BeginRefresh, EndRefresh}
use Rattle.lw_calls.specs.declared.touch.Slots.{Slots}
use Rattle.lw_calls.specs.declared.touch.Slots.TheVariants.{Nothing, One, Two, All as AllSlots}
use Rattle.lw_calls.specs.declared.group.Hold.{Hold}
use Rattle.lw_calls.specs.declared.group.Hold.TheVariants.{Slot, All as AllLayers}
use Rattle.lw_calls.specs.declared.group.Group.{Group}
use Rattle.lw_calls.specs.declared.pair.Pair.{Pair}
use Rattle.lw_calls.specs.Assets.{Assets}
use Rattle.lw_calls.specs.Limits.{IsWithinLimits, limits_of, call_fits}
use Rattle.lw_calls.specs.Touches.{slots_of}

-- The sizes, the names of the layers by slot, of the tasks and of the bitmaps by number, each task's calls in their order
-- and its groups in theirs, the windows of two layers, and what the script hands in.
pub record Plan : Type 0 where
  pub sizes : Sizes
  pub slot_names : List (List ℕ)
  pub task_names : List (List ℕ)
  pub bitmap_names : List (List ℕ)
  pub calls : List (List Call)
  pub groups : List (List Group)
  pub pairs : List Pair
  pub assets : Assets

-- the calls of a task, and none of a task that the plan hasn't got
abbrev pub task_calls : Plan → ℕ → List Call
task_calls p task = slice_index_or p.calls task []

-- the groups of a task, and none of a task that the plan hasn't got
abbrev pub task_groups : Plan → ℕ → List Group
task_groups p task = slice_index_or p.groups task []

-- these are one slot, this one
abbrev pub is_one : ℕ → Slots → Bool
is_one s Nothing = false
is_one s (One a) = a == s
is_one s (Two a b) = false
is_one s AllSlots = false

-- these are all slots
abbrev pub is_all : Slots → Bool
is_all Nothing = false
is_all (One a) = false
is_all (Two a b) = false
is_all AllSlots = true

-- the call begins an update, or ends one
abbrev pub begins_update : Call → Bool
begins_update (BeginRefresh slot) = true
begins_update call = false

abbrev pub ends_update : Call → Bool
ends_update (EndRefresh slot full) = true
ends_update call = false

-- the call is one on the layer in slot s, and neither begins an update nor ends one
abbrev pub may_be_locked : ℕ → Call → Bool
may_be_locked s call = is_one s (slots_of call) && (not (begins_update call) && not (ends_update call))

-- the calls of a lock on one layer: some, and each of them may be locked
abbrev pub are_locked : ℕ → List Call → Bool
are_locked s [] = false
are_locked s (c ∷ cs) = list_all (may_be_locked s) (c ∷ cs)

-- the calls of an update after its beginning: the end comes last, and each other may be locked
abbrev pub end_an_update : ℕ → List Call → Bool
end_an_update s [] = false
end_an_update s (c ∷ []) = is_one s (slots_of c) && ends_update c
end_an_update s (c ∷ d ∷ cs) = may_be_locked s c && end_an_update s (d ∷ cs)

-- the calls of an update of the layer in slot s, from its beginning to its end
abbrev pub are_an_update : ℕ → List Call → Bool
are_an_update s [] = false
are_an_update s (c ∷ cs) = (is_one s (slots_of c) && begins_update c) && end_an_update s cs

-- A group that holds this allows these calls: calls on the one layer, which are locked or an update of it; or calls that touch
-- all layers.
abbrev pub hold_allows : Hold → List Call → Bool
hold_allows (Slot s) calls = are_locked s calls || are_an_update s calls
hold_allows AllLayers calls = list_all (λ c. is_all (slots_of c)) calls

-- the calls of a group among those of its task
abbrev pub group_calls : List Call → Group → List Call
group_calls calls g = take ((g.last + 1) - g.first) (drop g.first calls)

-- The group has a first and a last call, and allows its calls.
abbrev pub group_fits : List Call → Group → Bool
group_fits calls g = (nat_le g.first g.last && nat_lt g.last (length calls)) && hold_allows g.hold (group_calls calls g)

-- The groups of a task: each fits, and they stand in rising order with no call in two of them.
abbrev pub groups_fit : List Call → List Group → Bool
groups_fit calls [] = true
groups_fit calls (g ∷ []) = group_fits calls g
groups_fit calls (g ∷ h ∷ gs) = (group_fits calls g && nat_lt g.last h.first) && groups_fit calls (h ∷ gs)

-- What a script hands in that has neither glyphs nor bitmaps: each code has the empty glyph.
abbrev pub no_assets : Assets
no_assets = record { glyphs = replicate 95 (replicate 8 0); bitmaps = [] }

-- Assets of a plan, as their types have them: a glyph of 8 rows for each code from 0x20 to 0x7e, and bitmaps.
pub record AreAssets (assets : Assets) : Type 0 where
  pub glyphs : length assets.glyphs ≡ 95
  pub rows : All (λ g. length g ≡ 8) assets.glyphs
  pub bitmaps : All IsPlanes assets.bitmaps

-- A plan that may be run: its lists are as long as its sizes say, no task has too many calls, every call fits, and each
-- task's groups fit. Nothing is asked of its windows of two layers.
pub record IsPlan (p : Plan) : Type 0 where
  pub limits : IsWithinLimits p.sizes
  pub slots : length p.slot_names ≡ p.sizes.slots
  pub tasks : length p.task_names ≡ p.sizes.tasks
  pub bitmaps : length p.bitmap_names ≡ p.sizes.bitmaps
  pub lists : length p.calls ≡ p.sizes.tasks
  pub group_lists : length p.groups ≡ p.sizes.tasks
  pub supplied : length p.assets.bitmaps ≡ p.sizes.bitmaps
  pub assets : AreAssets p.assets
  pub few : All (λ cs. length cs ≤ (limits_of p.sizes.version).calls) p.calls
  pub fit : All (λ cs. All (λ c. IsTrue (call_fits p.sizes c)) cs) p.calls
  pub groups : (task : ℕ) → IsTrue (groups_fit (task_calls p task) (task_groups p task))
