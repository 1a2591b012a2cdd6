-- Below good lines each task's calls fit, and so do its groups.
use Rattle.std.proofs.Common.{◌≡◌, ℕ, zero, suc, ◌+◌, ◌-◌, ◌<◌, ◌≤◌, Bool, true, false, not, ◌&&◌, ◌||◌, List, [], ◌∷◌, ◌++◌, length, map, drop, bytes_eq, Option, Some, None, is_none, IsTrue, All, refl, sym, ap, subst, ◌∙◌, arith, length-append, length-drop, ltb-true}
use Rattle.std.specs.List.{list_any, list_all, AllZip, slice_index_or}
use Rattle.lw_calls.specs.declared.sizes.Sizes.{Sizes}
use Rattle.lw_calls.specs.declared.call.Call.{Call}
use Rattle.lw_calls.specs.declared.group.Hold.{Hold}
use Rattle.lw_calls.specs.declared.group.Hold.TheVariants.{Slot, All as AllLayers}
use Rattle.lw_calls.specs.declared.group.Group.{Group}
use Rattle.lw_calls.specs.Limits.{limits_of, call_fits}
use Rattle.lw_calls.specs.Touches.{slots_of}
use Rattle.lw_calls.specs.Plan.{is_one, is_all, begins_update, ends_update, may_be_locked, hold_allows, group_fits, groups_fit}
use Rattle.lw_grammar.specs.declared.verb.BareVerb.TheVariants.{Refresh as RefreshVerb}
use Rattle.lw_grammar.specs.Statements.{Act, BareAct, NumberAct, PairAct, TextAct, EndRefreshAct, Statement, LayersLine, ScreenLine, BitmapLine, TaskLine, EndLine, OrderLine, ReportLine, CallLine, LockLine, UnlockLine, HoldLine, ReleaseLine, layers_of}
use Rattle.lw_grammar.specs.Told.{Section, ScreenIsDue, AssetsAreDue, CallsAreDue, TasksAreDue, NumbersAreDue, NothingIsDue, OpenGroup, Locked, Updating, Held, and_names, place_among, onto_last, spelled_call, call_below, hook_on, left_open_by, group_from, told}
use Rattle.lw_grammar.specs.Script.{Setting, are_assets_due, are_calls_due, are_tasks_due, is_beginning, is_ending, is_on_one, group_allows, is_lock_on, is_hold, is_no_hook}
use Rattle.lw_grammar.specs.GoodLines.{is_known_act, AreGoodLines}
use Rattle.lw_grammar.proofs.ScriptNames.{equal_names, names_grow, any_kept, place_kept, all_named, places_below}
use Rattle.lw_grammar.proofs.ScriptCalls.{act_fits}
use Rattle.lw_grammar.proofs.ScriptGroups.{begins_so, ends_so, number_plain, pair_plain, text_plain, touches_all, on_one, EndBefore, end_later, end_pushed, groups_kept, groups_pushed, to_the_end, all_pushed, update_stands, locked_stands, drop_pushed}
use Rattle.lw_grammar.proofs.ScriptSizes.{here, tests, counted, has_begun, in_screen, in_calls, in_tasks, version_first}
use Rattle.std.proofs.lemmas.Bool.{true≢false, false≢true, eq-eqb, and_parts, and_from}
use Rattle.std.proofs.lemmas.List.{drop_all, drop_at}
use Rattle.std.proofs.lemmas.List.Elements.{All-nil, All-cons, All-push}

-- what lines tell of the tasks: their calls and groups, and of the nearest task how many calls it has, the group that is
-- open and where that began; and the layers' names
pub record View : Type 0 where
  pub calls : List (List Call)
  pub groups : List (List Group)
  pub calls_in_task : ℕ
  pub group : Option OpenGroup
  pub calls_before_group : ℕ
  pub names : List (List ℕ)

abbrev pub view_of : List Statement → View
view_of above =
    record {
      calls = (told above).calls;
      groups = (told above).groups;
      calls_in_task = (told above).calls_in_task;
      group = (told above).group;
      calls_before_group = (told above).calls_before_group;
      names = (told above).names;
    }

-- the calls of one task fit, and so do its groups
pub record IsTaskFit (z : Sizes) (calls : List Call) (groups : List Group) : Type 0 where
  pub few : length calls ≤ (limits_of z.version).calls
  pub fit : All (λ c. IsTrue (call_fits z c)) calls
  pub grouped : groups_fit calls groups ≡ true

-- an open group began after the groups before it
pub record IsOpen (calls_in_task calls_before_group : ℕ) (groups : List Group) : Type 0 where
  pub before : EndBefore groups calls_before_group
  pub order : calls_before_group ≤ calls_in_task

-- the calls of an open update: its beginning, and calls on its layer
abbrev pub IsUpdating : ℕ → List Call → Type 0
IsUpdating s [] = ⊥
IsUpdating s (b ∷ cs) = ((is_one s (slots_of b) && begins_update b) ≡ true) × (list_all (may_be_locked s) cs ≡ true)

-- the calls of an open hold
abbrev pub are_held : List Call → Bool
are_held calls = list_all (λ c. is_all (slots_of c)) calls

-- what is known of the open group of a task with so many calls so far
abbrev pub OpenState : Option OpenGroup → ℕ → ℕ → List (List ℕ) → List Call → List Group → Type 0
OpenState None calls_in_task calls_before_group names calls groups = EndBefore groups calls_in_task
OpenState (Some (Locked l)) calls_in_task calls_before_group names calls groups =
    IsOpen calls_in_task calls_before_group groups × (list_any (bytes_eq l) names ≡ true) × (list_all (may_be_locked (place_among names l)) (drop calls_before_group calls) ≡ true)
OpenState (Some (Updating l)) calls_in_task calls_before_group names calls groups = IsOpen calls_in_task calls_before_group groups × (list_any (bytes_eq l) names ≡ true) × IsUpdating (place_among names l) (drop calls_before_group calls)
OpenState (Some Held) calls_in_task calls_before_group names calls groups = IsOpen calls_in_task calls_before_group groups × (are_held (drop calls_before_group calls) ≡ true)

-- the nearest task fits so far
pub record IsNow (z : Sizes) (v : View) (calls : List Call) (groups : List Group) : Type 0 where
  pub long : length calls ≡ v.calls_in_task
  pub fits : IsTaskFit z calls groups
  pub state : OpenState v.group v.calls_in_task v.calls_before_group v.names calls groups

-- all tasks fit, the nearest of them so far
pub record HaveBegun (z : Sizes) (v : View) : Type 0 where
  pub done : List (List Call)
  pub done_groups : List (List Group)
  pub calls : List Call
  pub groups : List Group
  pub all_are : v.calls ≡ done ++ calls ∷ []
  pub groups_are : v.groups ≡ done_groups ++ groups ∷ []
  pub done_fit : AllZip (IsTaskFit z) done done_groups
  pub now : IsNow z v calls groups

-- the same where tasks have begun, and else there are none
abbrev pub TasksAre : Bool → Sizes → View → Type 0
TasksAre true z v = HaveBegun z v
TasksAre false z v = (v.calls ≡ []) × (v.groups ≡ [])

-- no group is open but in a task
pub record AreTasks (z : Sizes) (c : Section) (v : View) : Type 0 where
  pub closed : are_calls_due c ≡ false → v.group ≡ None
  pub tasks : TasksAre (has_begun c) z v

-- a list's last one with something put at its end
pub onto_pushed : {A : Type 0} (a : A) (lists : List (List A)) (list : List A) → onto_last a (lists ++ list ∷ []) ≡ lists ++ (list ++ a ∷ []) ∷ []
onto_pushed a [] list = refl
onto_pushed a (x ∷ []) list = refl
onto_pushed a (x ∷ y ∷ ys) list = ap (λ rest. x ∷ rest) (onto_pushed a (y ∷ ys) list)

-- there are as many
length_onto : {A : Type 0} (a : A) (lists : List (List A)) → length (onto_last a lists) ≡ length lists
length_onto a [] = refl
length_onto a (x ∷ []) = refl
length_onto a (x ∷ y ∷ ys) = ap suc (length_onto a (y ∷ ys))

-- a pair at the end of two lists
zip_pushed : {A B : Type 0} (R : A → B → Type 0) (xs : List A) (ys : List B) (x : A) (y : B) → AllZip R xs ys → R x y → AllZip R (xs ++ x ∷ []) (ys ++ y ∷ [])
zip_pushed R [] [] x y h k = (k, tt)
zip_pushed R [] (b ∷ bs) x y h k = absurd h
zip_pushed R (a ∷ as') [] x y h k = absurd h
zip_pushed R (a ∷ as') (b ∷ bs) x y h k = (h.0, zip_pushed R as' bs x y h.1 k)

-- a missing group
pub none_open : (o : Option OpenGroup) → is_none o ≡ true → o ≡ None
none_open None h = refl
none_open (Some g) h = absurd (false≢true h)

-- no calls fit
pub nothing_fits : (z : Sizes) → IsTaskFit z [] []
nothing_fits z = record { few = omega arith; fit = All-nil _; grouped = refl }

-- no calls have been made in a task that has just begun
task_now : (z : Sizes) (v : View) → v.calls_in_task ≡ 0 → v.group ≡ None → IsNow z v [] []
task_now z v e n =
    let P : Option OpenGroup → Type 0 = λ g. OpenState g v.calls_in_task v.calls_before_group v.names [] [] in
    record { long = sym e; fits = nothing_fits z; state = subst P (sym n) tt }

-- a task begins after others
task_more : (z : Sizes) (v : View) (w : View) → w.calls ≡ v.calls ++ [] ∷ [] → w.groups ≡ v.groups ++ [] ∷ [] → w.calls_in_task ≡ 0 → w.group ≡ None → HaveBegun z v → HaveBegun z w
task_more z v w a g e n b =
    record {
      done = b.done ++ b.calls ∷ [];
      done_groups = b.done_groups ++ b.groups ∷ [];
      calls = [];
      groups = [];
      all_are = a ∙ ap (λ lists. lists ++ [] ∷ []) b.all_are;
      groups_are = g ∙ ap (λ lists. lists ++ [] ∷ []) b.groups_are;
      done_fit = zip_pushed (IsTaskFit z) b.done b.done_groups b.calls b.groups b.done_fit b.now.fits;
      now = task_now z w e n;
    }

-- the first task begins
task_first : (z : Sizes) (v : View) (w : View) → w.calls ≡ v.calls ++ [] ∷ [] → w.groups ≡ v.groups ++ [] ∷ [] → w.calls_in_task ≡ 0 → w.group ≡ None → (v.calls ≡ []) × (v.groups ≡ []) → HaveBegun z w
task_first z v w a g e n h =
    record {
      done = [];
      done_groups = [];
      calls = [];
      groups = [];
      all_are = a ∙ ap (λ lists. lists ++ [] ∷ []) h.0;
      groups_are = g ∙ ap (λ lists. lists ++ [] ∷ []) h.1;
      done_fit = tt;
      now = task_now z w e n;
    }

-- a task begins
task_begins : (z : Sizes) (c : Section) (v w : View) → (are_assets_due c || are_tasks_due c) ≡ true → w.calls ≡ v.calls ++ [] ∷ [] → w.groups ≡ v.groups ++ [] ∷ [] → w.calls_in_task ≡ 0 → w.group ≡ v.group → AreTasks z c v → HaveBegun z w
task_begins z ScreenIsDue v w p a g e n h = absurd (false≢true p)
task_begins z AssetsAreDue v w p a g e n h = task_first z v w a g e (n ∙ h.closed refl) h.tasks
task_begins z CallsAreDue v w p a g e n h = absurd (false≢true p)
task_begins z TasksAreDue v w p a g e n h = task_more z v w a g e (n ∙ h.closed refl) h.tasks
task_begins z NumbersAreDue v w p a g e n h = absurd (false≢true p)
task_begins z NothingIsDue v w p a g e n h = absurd (false≢true p)

-- what happens inside a task
inside : (z : Sizes) (c : Section) (v w : View) → c ≡ CallsAreDue → (HaveBegun z v → HaveBegun z w) → AreTasks z c v → AreTasks z c w
inside z c v w e f h =
    let P : Section → Type 0 = λ k. AreTasks z k v in
    let Q : Section → Type 0 = λ k. AreTasks z k w in
    let at : AreTasks z CallsAreDue v = subst P e h in
    subst Q (sym e) (record { closed = λ d. absurd (true≢false d); tasks = f at.tasks })

-- more calls leave an open group open
open_later : (m n calls_before_group : ℕ) (groups : List Group) → m ≤ n → IsOpen m calls_before_group groups → IsOpen n calls_before_group groups
open_later m n calls_before_group groups h o = record { before = o.before; order = omega (arith, o.order, h) }

-- what is known by a layer's slot is known by its slot among more names
slot_later : (P : ℕ → Type 0) (names ns : List (List ℕ)) (l : List ℕ) → list_any (bytes_eq l) names ≡ true → P (place_among names l) → P (place_among (and_names names ns) l)
slot_later P names ns l h p = subst P (sym (place_kept (bytes_eq l) names ns h)) p

-- more names leave the state of a group as it was
names_later : (o : Option OpenGroup) (calls_in_task calls_before_group : ℕ) (names ns : List (List ℕ)) (calls : List Call) (groups : List Group) → OpenState o calls_in_task calls_before_group names calls groups → OpenState o calls_in_task calls_before_group (and_names names ns) calls groups
names_later None calls_in_task calls_before_group names ns calls groups h = h
names_later (Some (Locked l)) calls_in_task calls_before_group names ns calls groups h =
    (h.0, any_kept (bytes_eq l) names ns h.1, slot_later (λ s. list_all (may_be_locked s) (drop calls_before_group calls) ≡ true) names ns l h.1 h.2)
names_later (Some (Updating l)) calls_in_task calls_before_group names ns calls groups h =
    (h.0, any_kept (bytes_eq l) names ns h.1, slot_later (λ s. IsUpdating s (drop calls_before_group calls)) names ns l h.1 h.2)
names_later (Some Held) calls_in_task calls_before_group names ns calls groups h = h

-- a call on the one layer may be locked
locked_call : (bitmaps names : List (List ℕ)) (l : List ℕ) (layers : List (List ℕ)) (act : Act) → length layers ≡ layers_of act → is_on_one l layers act ≡ true → is_beginning act ≡ false → is_ending act ≡ false → may_be_locked (place_among names l) (spelled_call bitmaps act (map (place_among names) layers)) ≡ true
locked_call bitmaps names l layers act n on begins ends =
    let slots : List ℕ = map (place_among names) layers in
    and_from _ _ (on_one bitmaps names l layers act n on) (and_from _ _ (ap not (begins_so bitmaps act slots ∙ begins)) (ap not (ends_so bitmaps act slots ∙ ends)))

-- a further call of an update
updating_more : (s : ℕ) (cs : List Call) (c : Call) → IsUpdating s cs → may_be_locked s c ≡ true → IsUpdating s (cs ++ c ∷ [])
updating_more s [] c h k = absurd h
updating_more s (b ∷ cs) c h k = (h.0, all_pushed (may_be_locked s) cs c h.1 k)

-- A call that neither begins nor ends an update leaves the open group open.
plain_state : (o : Option OpenGroup) (calls_in_task calls_before_group : ℕ) (names layers : List (List ℕ)) (act : Act) (bitmaps : List (List ℕ)) (calls : List Call) (groups : List Group) → length calls ≡ calls_in_task → length layers ≡ layers_of act → is_beginning act ≡ false → is_ending act ≡ false → group_allows o layers act ≡ true → OpenState o calls_in_task calls_before_group (and_names names layers) calls groups → OpenState o (calls_in_task + 1) calls_before_group (and_names names layers) (calls ++ spelled_call bitmaps act (map (place_among (and_names names layers)) layers) ∷ []) groups
plain_state None calls_in_task calls_before_group names layers act bitmaps calls groups long n begins ends stands h = end_later groups calls_in_task (calls_in_task + 1) h (omega arith)
plain_state (Some (Locked l)) calls_in_task calls_before_group names layers act bitmaps calls groups long n begins ends stands h =
    let more : List (List ℕ) = and_names names layers in
    let c : Call = spelled_call bitmaps act (map (place_among more) layers) in
    let fits = locked_call bitmaps more l layers act n (and_parts (is_on_one l layers act) _ stands).0 begins ends in
    let P : List Call → Type 0 = λ cs. list_all (may_be_locked (place_among more l)) cs ≡ true in
    (open_later calls_in_task (calls_in_task + 1) calls_before_group groups (omega arith) h.0, h.1, subst P (sym (drop_pushed calls c calls_before_group (omega (arith, long, h.0.order)))) (all_pushed (may_be_locked (place_among more l)) (drop calls_before_group calls) c h.2 fits))
plain_state (Some (Updating l)) calls_in_task calls_before_group names layers act bitmaps calls groups long n begins ends stands h =
    let more : List (List ℕ) = and_names names layers in
    let c : Call = spelled_call bitmaps act (map (place_among more) layers) in
    let fits = locked_call bitmaps more l layers act n (and_parts (is_on_one l layers act) _ stands).0 begins ends in
    let P : List Call → Type 0 = λ cs. IsUpdating (place_among more l) cs in
    (open_later calls_in_task (calls_in_task + 1) calls_before_group groups (omega arith) h.0, h.1, subst P (sym (drop_pushed calls c calls_before_group (omega (arith, long, h.0.order)))) (updating_more (place_among more l) (drop calls_before_group calls) c h.2 fits))
plain_state (Some Held) calls_in_task calls_before_group names layers act bitmaps calls groups long n begins ends stands h =
    let slots : List ℕ = map (place_among (and_names names layers)) layers in
    let c : Call = spelled_call bitmaps act slots in
    let P : List Call → Type 0 = λ cs. are_held cs ≡ true in
    (open_later calls_in_task (calls_in_task + 1) calls_before_group groups (omega arith) h.0, subst P (sym (drop_pushed calls c calls_before_group (omega (arith, long, h.0.order)))) (all_pushed (λ c. is_all (slots_of c)) (drop calls_before_group calls) c h.1 (touches_all bitmaps act slots stands)))

-- one call more fits
task_longer : (z : Sizes) (calls : List Call) (groups : List Group) (c : Call) → length calls + 1 ≤ (limits_of z.version).calls → call_fits z c ≡ true → IsTaskFit z calls groups → IsTaskFit z (calls ++ c ∷ []) groups
task_longer z calls groups c few fits h =
    record {
      few = omega (arith, few, length-append calls (c ∷ []));
      fit = All-push (λ c. IsTrue (call_fits z c)) calls c h.fit fits;
      grouped = groups_kept calls c groups h.grouped;
    }

-- one group more fits
task_grouped : (z : Sizes) (calls : List Call) (groups : List Group) (g : Group) → EndBefore groups g.first → group_fits calls g ≡ true → IsTaskFit z calls groups → IsTaskFit z calls (groups ++ g ∷ [])
task_grouped z calls groups g before fits h =
    record { few = h.few; fit = h.fit; grouped = groups_pushed calls groups g h.grouped before fits }

-- what a line that is no beginning and no end leaves of groups
pub plain_groups : (above : List Statement) (layers : List (List ℕ)) (act : Act) → is_beginning act ≡ false → is_ending act ≡ false → ((told (CallLine layers act ∷ above)).groups ≡ (told above).groups) × (left_open_by layers act (told above).group ≡ (told above).group) × ((told (CallLine layers act ∷ above)).calls_before_group ≡ (told above).calls_before_group)
plain_groups above [] (BareAct RefreshVerb) b e = absurd (true≢false b)
plain_groups above (l ∷ []) (BareAct RefreshVerb) b e = absurd (true≢false b)
plain_groups above (l ∷ m ∷ ms) (BareAct RefreshVerb) b e = absurd (true≢false b)
plain_groups above [] (EndRefreshAct full) b e = absurd (true≢false e)
plain_groups above (l ∷ []) (EndRefreshAct full) b e = absurd (true≢false e)
plain_groups above (l ∷ m ∷ ms) (EndRefreshAct full) b e = absurd (true≢false e)
plain_groups above layers act b e = (refl, refl, refl)

-- the call of a good line fits
call_sound : (z : Sizes) (s : Setting) (above : List Statement) (layers : List (List ℕ)) (act : Act) → AreGoodLines s (CallLine layers act ∷ above) → z.version ≡ (told above).version → z.hooks ≡ s.hooks → length (told (CallLine layers act ∷ above)).names ≤ z.slots → length (told above).bitmap_names ≤ z.bitmaps → call_fits z (call_below (told above) layers act) ≡ true
call_sound z s above layers act g version hooks slots bitmaps =
    let h = here s above (CallLine layers act) g in
    let t = tests s above (CallLine layers act) g in
    let more : List (List ℕ) = and_names (told above).names layers in
    let low = places_below more layers (all_named (told above).names layers) in
    let P : ℕ → Type 0 = λ n. is_no_hook n (hook_on (CallLine layers act)) ≡ false in
    let Q : ℕ → Type 0 = λ v. is_known_act v act ≡ true in
    act_fits z (told above).bitmap_names bitmaps (map (place_among more) layers) layers act h.2.1 (subst Q (sym version) h.3) t.range t.named (subst P (sym hooks) t.hook) (λ i k. omega (arith, low i (omega (arith, h.2.0, k)), slots))

-- the tasks with a call and groups more in the nearest one
module _ (z : Sizes) (s : Setting) (above : List Statement) (layers : List (List ℕ)) (act : Act) (good : AreGoodLines s (CallLine layers act ∷ above)) (version : z.version ≡ (told above).version) (hooks : z.hooks ≡ s.hooks) (slots : length (told (CallLine layers act ∷ above)).names ≤ z.slots) (bitmaps : length (told above).bitmap_names ≤ z.bitmaps) where
  -- the call
  abbrev the_call : Call
  the_call = call_below (told above) layers act

  -- the nearest task's calls with it
  call_fits_now : (calls : List Call) (groups : List Group) → length calls ≡ (told above).calls_in_task → IsTaskFit z calls groups → IsTaskFit z (calls ++ the_call ∷ []) groups
  call_fits_now calls groups long h =
      let sound = call_sound z s above layers act good version hooks slots bitmaps in
      let P : ℕ → Type 0 = λ v. (told above).calls_in_task + 1 ≤ (limits_of v).calls in
      let few : P z.version = subst P (sym version) (counted s (CallLine layers act ∷ above) good).calls in
      task_longer z calls groups the_call (omega (arith, few, long)) sound h

  -- the tasks with it
  with_call : (b : HaveBegun z (view_of above)) (groups : List Group) → (told (CallLine layers act ∷ above)).groups ≡ b.done_groups ++ groups ∷ [] → IsTaskFit z (b.calls ++ the_call ∷ []) groups → OpenState (told (CallLine layers act ∷ above)).group ((told above).calls_in_task + 1) (told (CallLine layers act ∷ above)).calls_before_group (and_names (told above).names layers) (b.calls ++ the_call ∷ []) groups → HaveBegun z (view_of (CallLine layers act ∷ above))
  with_call b groups are fits state =
      record {
        done = b.done;
        done_groups = b.done_groups;
        calls = b.calls ++ the_call ∷ [];
        groups = groups;
        all_are = ap (onto_last the_call) b.all_are ∙ onto_pushed the_call b.done b.calls;
        groups_are = are;
        done_fit = b.done_fit;
        now = record { long = length-append b.calls (the_call ∷ []) ∙ ap (λ k. k + 1) b.now.long; fits = fits; state = state };
      }

  -- a call that neither begins nor ends an update
  plain_call : is_beginning act ≡ false → is_ending act ≡ false → HaveBegun z (view_of above) → HaveBegun z (view_of (CallLine layers act ∷ above))
  plain_call begins ends b =
      let h = here s above (CallLine layers act) good in
      let t = tests s above (CallLine layers act) good in
      let e = plain_groups above layers act begins ends in
      let more : List (List ℕ) = and_names (told above).names layers in
      let calls : List Call = b.calls ++ the_call ∷ [] in
      let later = names_later (told above).group (told above).calls_in_task (told above).calls_before_group (told above).names layers b.calls b.groups b.now.state in
      let plain = plain_state (told above).group (told above).calls_in_task (told above).calls_before_group (told above).names layers act (told above).bitmap_names b.calls b.groups b.now.long h.2.0 begins ends t.group later in
      let P : Option OpenGroup → Type 0 = λ o. OpenState o ((told above).calls_in_task + 1) (told (CallLine layers act ∷ above)).calls_before_group more calls b.groups in
      let Q : ℕ → Type 0 = λ k. OpenState (told above).group ((told above).calls_in_task + 1) k more calls b.groups in
      with_call b b.groups (e.0 ∙ b.groups_are) (call_fits_now b.calls b.groups b.now.long b.now.fits) (subst P (sym e.1) (subst Q (sym e.2) plain))

-- an update begins where no group is open
pub opens_none : (o : Option OpenGroup) (l : List ℕ) → group_allows o (l ∷ []) (BareAct RefreshVerb) ≡ true → o ≡ None
opens_none None l h = refl
opens_none (Some (Locked m)) l h = absurd (false≢true (and_parts (is_on_one m (l ∷ []) (BareAct RefreshVerb)) _ h).1)
opens_none (Some (Updating m)) l h = absurd (false≢true (and_parts (is_on_one m (l ∷ []) (BareAct RefreshVerb)) _ h).1)
opens_none (Some Held) l h = absurd (false≢true h)

-- an update ends on its layer
pub ends_same : (o : Option OpenGroup) (l : List ℕ) (full : Bool) → group_allows o (l ∷ []) (EndRefreshAct full) ≡ true → o ≡ Some (Updating l)
ends_same None l full h = absurd (false≢true h)
ends_same (Some (Locked m)) l full h = absurd (false≢true (and_parts (is_on_one m (l ∷ []) (EndRefreshAct full)) _ h).1)
ends_same (Some (Updating m)) l full h =
    let on = and_parts (is_on_one m (l ∷ []) (EndRefreshAct full)) _ h in
    let same = equal_names m l (and_parts (bytes_eq m l) _ (and_parts (bytes_eq m l && true) _ on.0).0).0 in
    ap (λ (k : List ℕ). Some (Updating k)) same
ends_same (Some Held) l full h = absurd (false≢true h)

-- the calls of an update with its end may stand in its group
update_whole : (slot : ℕ) (cs : List Call) (c : Call) → IsUpdating slot cs → (is_one slot (slots_of c) && ends_update c) ≡ true → hold_allows (Slot slot) (cs ++ c ∷ []) ≡ true
update_whole slot [] c h k = absurd h
update_whole slot (b ∷ cs) c h k = update_stands slot b cs c h.0 h.1 k

-- an update begins
refresh_call : (z : Sizes) (s : Setting) (above : List Statement) (l : List ℕ) → AreGoodLines s (CallLine (l ∷ []) (BareAct RefreshVerb) ∷ above) → z.version ≡ (told above).version → z.hooks ≡ s.hooks → length (told (CallLine (l ∷ []) (BareAct RefreshVerb) ∷ above)).names ≤ z.slots → length (told above).bitmap_names ≤ z.bitmaps → HaveBegun z (view_of above) → HaveBegun z (view_of (CallLine (l ∷ []) (BareAct RefreshVerb) ∷ above))
refresh_call z s above l g version hooks slots bitmaps b =
    let t = tests s above (CallLine (l ∷ []) (BareAct RefreshVerb)) g in
    let calls_in_task : ℕ = (told above).calls_in_task in
    let more : List (List ℕ) = and_names (told above).names (l ∷ []) in
    let c : Call = call_below (told above) (l ∷ []) (BareAct RefreshVerb) in
    let P : Option OpenGroup → Type 0 = λ o. OpenState o calls_in_task (told above).calls_before_group (told above).names b.calls b.groups in
    let before : EndBefore b.groups calls_in_task = subst P (opens_none (told above).group l t.group) b.now.state in
    let Q : List Call → Type 0 = λ cs. IsUpdating (place_among more l) cs in
    let alone : drop calls_in_task (b.calls ++ c ∷ []) ≡ c ∷ [] = drop_at b.calls (c ∷ []) calls_in_task b.now.long in
    let begun : IsUpdating (place_among more l) (c ∷ []) = (and_from _ _ (eq-eqb (place_among more l) _ refl) refl, refl) in
    with_call z s above (l ∷ []) (BareAct RefreshVerb) g version hooks slots bitmaps b b.groups b.groups_are (call_fits_now z s above (l ∷ []) (BareAct RefreshVerb) g version hooks slots bitmaps b.calls b.groups b.now.long b.now.fits)
    (record { before = before; order = omega arith }, (all_named (told above).names (l ∷ [])).0, subst Q (sym alone) begun)

-- an update ends
endrefresh_call : (z : Sizes) (s : Setting) (above : List Statement) (l : List ℕ) (full : Bool) → AreGoodLines s (CallLine (l ∷ []) (EndRefreshAct full) ∷ above) → z.version ≡ (told above).version → z.hooks ≡ s.hooks → length (told (CallLine (l ∷ []) (EndRefreshAct full) ∷ above)).names ≤ z.slots → length (told above).bitmap_names ≤ z.bitmaps → HaveBegun z (view_of above) → HaveBegun z (view_of (CallLine (l ∷ []) (EndRefreshAct full) ∷ above))
endrefresh_call z s above l full g version hooks slots bitmaps b =
    let t = tests s above (CallLine (l ∷ []) (EndRefreshAct full)) g in
    let calls_in_task : ℕ = (told above).calls_in_task in
    let calls_before_group : ℕ = (told above).calls_before_group in
    let slot : ℕ = place_among (told above).names l in
    let c : Call = call_below (told above) (l ∷ []) (EndRefreshAct full) in
    let calls : List Call = b.calls ++ c ∷ [] in
    let group : Group = group_from (told above) (Slot slot) (calls_in_task + 1) in
    let P : Option OpenGroup → Type 0 = λ o. OpenState o calls_in_task calls_before_group (told above).names b.calls b.groups in
    let state : OpenState (Some (Updating l)) calls_in_task calls_before_group (told above).names b.calls b.groups = subst P (ends_same (told above).group l full t.group) b.now.state in
    let long : length calls ≡ calls_in_task + 1 = length-append b.calls (c ∷ []) ∙ ap (λ k. k + 1) b.now.long in
    let same : place_among (and_names (told above).names (l ∷ [])) l ≡ slot = place_kept (bytes_eq l) (told above).names (l ∷ []) state.1 in
    let ends : (is_one slot (slots_of c) && ends_update c) ≡ true = and_from _ _ (eq-eqb _ slot same) refl in
    let whole = update_whole slot (drop calls_before_group b.calls) c state.2 ends in
    let stands : hold_allows (Slot slot) (drop calls_before_group calls) ≡ true = ap (hold_allows (Slot slot)) (drop_pushed b.calls c calls_before_group (omega (arith, b.now.long, state.0.order))) ∙ whole in
    let fits : group_fits calls group ≡ true = to_the_end calls calls_before_group ((calls_in_task + 1) - 1) (Slot slot) (omega (arith, state.0.order)) (omega (arith, long)) stands in
    with_call z s above (l ∷ []) (EndRefreshAct full) g version hooks slots bitmaps b (b.groups ++ group ∷ []) (ap (onto_last group) b.groups_are ∙ onto_pushed group b.done_groups b.groups) (task_grouped z calls b.groups group state.0.before fits (call_fits_now z s above (l ∷ []) (EndRefreshAct full) g version hooks slots bitmaps b.calls b.groups b.now.long b.now.fits))
    (end_pushed b.groups group (calls_in_task + 1) (omega arith))

-- any call
any_call : (z : Sizes) (s : Setting) (above : List Statement) (layers : List (List ℕ)) (act : Act) → AreGoodLines s (CallLine layers act ∷ above) → z.version ≡ (told above).version → z.hooks ≡ s.hooks → length (told (CallLine layers act ∷ above)).names ≤ z.slots → length (told above).bitmap_names ≤ z.bitmaps → HaveBegun z (view_of above) → HaveBegun z (view_of (CallLine layers act ∷ above))
any_call z s above [] (BareAct RefreshVerb) g version hooks slots bitmaps b = absurd (cc ((here s above (CallLine [] (BareAct RefreshVerb)) g).2.0))
any_call z s above (l ∷ []) (BareAct RefreshVerb) g version hooks slots bitmaps b = refresh_call z s above l g version hooks slots bitmaps b
any_call z s above (l ∷ m ∷ ms) (BareAct RefreshVerb) g version hooks slots bitmaps b = absurd (omega (arith, (here s above (CallLine (l ∷ m ∷ ms) (BareAct RefreshVerb)) g).2.0))
any_call z s above [] (EndRefreshAct full) g version hooks slots bitmaps b = absurd (cc ((here s above (CallLine [] (EndRefreshAct full)) g).2.0))
any_call z s above (l ∷ []) (EndRefreshAct full) g version hooks slots bitmaps b = endrefresh_call z s above l full g version hooks slots bitmaps b
any_call z s above (l ∷ m ∷ ms) (EndRefreshAct full) g version hooks slots bitmaps b = absurd (omega (arith, (here s above (CallLine (l ∷ m ∷ ms) (EndRefreshAct full)) g).2.0))
any_call z s above layers (NumberAct verb n) g version hooks slots bitmaps b =
    let p = number_plain verb n in plain_call z s above layers (NumberAct verb n) g version hooks slots bitmaps p.0 p.1 b
any_call z s above layers (PairAct verb x y) g version hooks slots bitmaps b =
    let p = pair_plain verb x y in plain_call z s above layers (PairAct verb x y) g version hooks slots bitmaps p.0 p.1 b
any_call z s above layers (TextAct verb text) g version hooks slots bitmaps b =
    let p = text_plain verb text in plain_call z s above layers (TextAct verb text) g version hooks slots bitmaps p.0 p.1 b
any_call z s above layers act g version hooks slots bitmaps b = plain_call z s above layers act g version hooks slots bitmaps refl refl b

-- the tasks with no further call, and these groups in the nearest one
grouped : (z : Sizes) (v w : View) (b : HaveBegun z v) (groups : List Group) → w.calls ≡ v.calls → w.calls_in_task ≡ v.calls_in_task → w.groups ≡ b.done_groups ++ groups ∷ [] → IsTaskFit z b.calls groups → OpenState w.group w.calls_in_task w.calls_before_group w.names b.calls groups → HaveBegun z w
grouped z v w b groups all calls_in_task are fits state =
    record {
      done = b.done;
      done_groups = b.done_groups;
      calls = b.calls;
      groups = groups;
      all_are = all ∙ b.all_are;
      groups_are = are;
      done_fit = b.done_fit;
      now = record { long = b.now.long ∙ sym calls_in_task; fits = fits; state = state };
    }

-- no call stands in a group that has just begun
none_behind : (z : Sizes) (v : View) (b : HaveBegun z v) → drop v.calls_in_task b.calls ≡ []
none_behind z v b = drop_all v.calls_in_task b.calls (omega (arith, b.now.long))

-- a group begins where none is open
lock_begins : (z : Sizes) (s : Setting) (above : List Statement) (name : List ℕ) → AreGoodLines s (LockLine name ∷ above) → HaveBegun z (view_of above) → HaveBegun z (view_of (LockLine name ∷ above))
lock_begins z s above name g b =
    let t = tests s above (LockLine name) g in
    let calls_in_task : ℕ = (told above).calls_in_task in
    let more : List (List ℕ) = and_names (told above).names (name ∷ []) in
    let P : Option OpenGroup → Type 0 = λ o. OpenState o calls_in_task (told above).calls_before_group (told above).names b.calls b.groups in
    let before : EndBefore b.groups calls_in_task = subst P (none_open (told above).group t.group) b.now.state in
    let Q : List Call → Type 0 = λ cs. list_all (may_be_locked (place_among more name)) cs ≡ true in
    grouped z (view_of above) (view_of (LockLine name ∷ above)) b b.groups refl refl b.groups_are b.now.fits
    (record { before = before; order = omega arith }, (all_named (told above).names (name ∷ [])).0, subst Q (sym (none_behind z (view_of above) b)) refl)

hold_begins : (z : Sizes) (s : Setting) (above : List Statement) → AreGoodLines s (HoldLine ∷ above) → HaveBegun z (view_of above) → HaveBegun z (view_of (HoldLine ∷ above))
hold_begins z s above g b =
    let t = tests s above HoldLine g in
    let calls_in_task : ℕ = (told above).calls_in_task in
    let P : Option OpenGroup → Type 0 = λ o. OpenState o calls_in_task (told above).calls_before_group (told above).names b.calls b.groups in
    let before : EndBefore b.groups calls_in_task = subst P (none_open (told above).group t.group) b.now.state in
    let Q : List Call → Type 0 = λ cs. are_held cs ≡ true in
    grouped z (view_of above) (view_of (HoldLine ∷ above)) b b.groups refl refl b.groups_are b.now.fits (record { before = before; order = omega arith }, subst Q (sym (none_behind z (view_of above) b)) refl)

-- a lock ends on its layer, and a hold ends
pub unlocks_same : (o : Option OpenGroup) (l : List ℕ) → is_lock_on l o ≡ true → o ≡ Some (Locked l)
unlocks_same None l h = absurd (false≢true h)
unlocks_same (Some (Locked m)) l h = ap (λ (k : List ℕ). Some (Locked k)) (sym (equal_names l m h))
unlocks_same (Some (Updating m)) l h = absurd (false≢true h)
unlocks_same (Some Held) l h = absurd (false≢true h)

pub releases_held : (o : Option OpenGroup) → is_hold o ≡ true → o ≡ Some Held
releases_held None h = absurd (false≢true h)
releases_held (Some (Locked m)) h = absurd (false≢true h)
releases_held (Some (Updating m)) h = absurd (false≢true h)
releases_held (Some Held) h = refl

-- the group that ends with the last call
ended_group : (z : Sizes) (above : List Statement) (b : HaveBegun z (view_of above)) (hold : Hold) → (told above).calls_before_group < (told above).calls_in_task → EndBefore b.groups (told above).calls_before_group → hold_allows hold (drop (told above).calls_before_group b.calls) ≡ true → IsTaskFit z b.calls (b.groups ++ group_from (told above) hold (told above).calls_in_task ∷ [])
ended_group z above b hold some before stands =
    let fits = to_the_end b.calls (told above).calls_before_group ((told above).calls_in_task - 1) hold (omega arith) (omega (arith, b.now.long, some)) stands in
    task_grouped z b.calls b.groups (group_from (told above) hold (told above).calls_in_task) before fits b.now.fits

unlock_ends : (z : Sizes) (s : Setting) (above : List Statement) (name : List ℕ) → AreGoodLines s (UnlockLine name ∷ above) → HaveBegun z (view_of above) → HaveBegun z (view_of (UnlockLine name ∷ above))
unlock_ends z s above name g b =
    let t = and_parts (is_lock_on name (told above).group) _ (tests s above (UnlockLine name) g).group in
    let some : (told above).calls_before_group < (told above).calls_in_task = ltb-true _ _ t.1 in
    let slot : ℕ = place_among (told above).names name in
    let group : Group = group_from (told above) (Slot slot) (told above).calls_in_task in
    let P : Option OpenGroup → Type 0 = λ o. OpenState o (told above).calls_in_task (told above).calls_before_group (told above).names b.calls b.groups in
    let state : OpenState (Some (Locked name)) (told above).calls_in_task (told above).calls_before_group (told above).names b.calls b.groups = subst P (unlocks_same (told above).group name t.0) b.now.state in
    let long : length (drop (told above).calls_before_group b.calls) ≡ length b.calls - (told above).calls_before_group = length-drop (told above).calls_before_group b.calls in
    let stands = locked_stands slot (drop (told above).calls_before_group b.calls) (omega (arith, long, some, b.now.long)) state.2 in
    grouped z (view_of above) (view_of (UnlockLine name ∷ above)) b (b.groups ++ group ∷ []) refl refl (ap (onto_last group) b.groups_are ∙ onto_pushed group b.done_groups b.groups) (ended_group z above b (Slot slot) some state.0.before stands)
    (end_pushed b.groups group (told above).calls_in_task (omega (arith, some)))

release_ends : (z : Sizes) (s : Setting) (above : List Statement) → AreGoodLines s (ReleaseLine ∷ above) → HaveBegun z (view_of above) → HaveBegun z (view_of (ReleaseLine ∷ above))
release_ends z s above g b =
    let t = and_parts (is_hold (told above).group) _ (tests s above ReleaseLine g).group in
    let some : (told above).calls_before_group < (told above).calls_in_task = ltb-true _ _ t.1 in
    let group : Group = group_from (told above) AllLayers (told above).calls_in_task in
    let P : Option OpenGroup → Type 0 = λ o. OpenState o (told above).calls_in_task (told above).calls_before_group (told above).names b.calls b.groups in
    let state : OpenState (Some Held) (told above).calls_in_task (told above).calls_before_group (told above).names b.calls b.groups = subst P (releases_held (told above).group t.0) b.now.state in
    grouped z (view_of above) (view_of (ReleaseLine ∷ above)) b (b.groups ++ group ∷ []) refl refl (ap (onto_last group) b.groups_are ∙ onto_pushed group b.done_groups b.groups) (ended_group z above b AllLayers some state.0.before state.1)
    (end_pushed b.groups group (told above).calls_in_task (omega (arith, some)))

-- before the screen line there are no tasks, whatever the sizes
before_screen : (y z : Sizes) (c : Section) (v : View) → c ≡ ScreenIsDue → AreTasks y c v → AreTasks z ScreenIsDue v
before_screen y z c v e h =
    let P : Section → Type 0 = λ k. AreTasks y k v in
    let at : AreTasks y ScreenIsDue v = subst P e h in
    record { closed = at.closed; tasks = at.tasks }

-- a task ends where no group is open
end_tasks : (z : Sizes) (c : Section) (v : View) → are_calls_due c ≡ true → v.group ≡ None → AreTasks z c v → AreTasks z TasksAreDue v
end_tasks z c v e n h =
    let P : Section → Type 0 = λ k. AreTasks z k v in
    let at : AreTasks z CallsAreDue v = subst P (in_calls c e) h in
    record { closed = λ d. n; tasks = at.tasks }

-- an order or a report leaves the tasks
after_tasks : (z : Sizes) (c : Section) (v : View) → are_tasks_due c ≡ true → AreTasks z c v → AreTasks z NumbersAreDue v × AreTasks z NothingIsDue v
after_tasks z c v e h =
    let P : Section → Type 0 = λ k. AreTasks z k v in
    let at : AreTasks z TasksAreDue v = subst P (in_tasks c e) h in
    (record { closed = λ d. at.closed refl; tasks = at.tasks }, record { closed = λ d. at.closed refl; tasks = at.tasks })

-- Good lines give tasks whose calls and groups fit sizes that have their names.
pub tasks_fit : (z : Sizes) (s : Setting) (above : List Statement) → AreGoodLines s above → z.version ≡ (told above).version → z.hooks ≡ s.hooks → length (told above).names ≤ z.slots → length (told above).bitmap_names ≤ z.bitmaps → AreTasks z (told above).section (view_of above)
tasks_fit z s [] g version hooks slots bitmaps = record { closed = λ d. refl; tasks = (refl, refl) }
tasks_fit z s (LayersLine ∷ above) g version hooks slots bitmaps =
    let y : Sizes = record z { version = (told above).version } in
    let first = version_first s above g in
    let P : Section → Type 0 = λ k. AreTasks z k (view_of above) in
    subst P (sym first) (before_screen y z (told above).section (view_of above) first (tasks_fit y s above g.1 refl hooks slots bitmaps))
tasks_fit z s (ScreenLine w h d ∷ above) g version hooks slots bitmaps =
    let y : Sizes = record z { version = (told above).version } in
    let first = before_screen y z (told above).section (view_of above) (in_screen (told above).section (here s above (ScreenLine w h d) g).1) (tasks_fit y s above g.1 refl hooks slots bitmaps) in
    record { closed = λ d. first.closed refl; tasks = first.tasks }
tasks_fit z s (BitmapLine name w h d ∷ above) g version hooks slots bitmaps =
    tasks_fit z s above g.1 version hooks slots (omega (arith, length-append (told above).bitmap_names (name ∷ []), bitmaps))
tasks_fit z s (TaskLine name ∷ above) g version hooks slots bitmaps =
    record {
      closed = λ d. absurd (true≢false d);
      tasks = task_begins z (told above).section (view_of above) (view_of (TaskLine name ∷ above)) (here s above (TaskLine name) g).1 refl refl refl refl (tasks_fit z s above g.1 version hooks slots bitmaps);
    }
tasks_fit z s (EndLine ∷ above) g version hooks slots bitmaps =
    end_tasks z (told above).section (view_of above) (here s above EndLine g).1 (none_open (told above).group (tests s above EndLine g).group) (tasks_fit z s above g.1 version hooks slots bitmaps)
tasks_fit z s (OrderLine ∷ above) g version hooks slots bitmaps =
    (after_tasks z (told above).section (view_of above) (and_parts (are_tasks_due (told above).section) _ (here s above OrderLine g).1).0 (tasks_fit z s above g.1 version hooks slots bitmaps)).0
tasks_fit z s (ReportLine ∷ above) g version hooks slots bitmaps =
    (after_tasks z (told above).section (view_of above) (and_parts (are_tasks_due (told above).section) _ (here s above ReportLine g).1).0 (tasks_fit z s above g.1 version hooks slots bitmaps)).1
tasks_fit z s (CallLine layers act ∷ above) g version hooks slots bitmaps =
    inside z (told above).section (view_of above) (view_of (CallLine layers act ∷ above)) (in_calls (told above).section (here s above (CallLine layers act) g).1) (any_call z s above layers act g version hooks slots bitmaps) (tasks_fit z s above g.1 version hooks (omega (arith, names_grow (told above).names layers, slots)) bitmaps)
tasks_fit z s (LockLine name ∷ above) g version hooks slots bitmaps =
    inside z (told above).section (view_of above) (view_of (LockLine name ∷ above)) (in_calls (told above).section (here s above (LockLine name) g).1) (lock_begins z s above name g) (tasks_fit z s above g.1 version hooks (omega (arith, names_grow (told above).names (name ∷ []), slots)) bitmaps)
tasks_fit z s (UnlockLine name ∷ above) g version hooks slots bitmaps =
    inside z (told above).section (view_of above) (view_of (UnlockLine name ∷ above)) (in_calls (told above).section (here s above (UnlockLine name) g).1) (unlock_ends z s above name g) (tasks_fit z s above g.1 version hooks (omega (arith, names_grow (told above).names (name ∷ []), slots)) bitmaps)
tasks_fit z s (HoldLine ∷ above) g version hooks slots bitmaps =
    inside z (told above).section (view_of above) (view_of (HoldLine ∷ above)) (in_calls (told above).section (here s above HoldLine g).1) (hold_begins z s above g) (tasks_fit z s above g.1 version hooks slots bitmaps)
tasks_fit z s (ReleaseLine ∷ above) g version hooks slots bitmaps =
    inside z (told above).section (view_of above) (view_of (ReleaseLine ∷ above)) (in_calls (told above).section (here s above ReleaseLine g).1) (release_ends z s above g) (tasks_fit z s above g.1 version hooks slots bitmaps)
tasks_fit z s (f ∷ above) g version hooks slots bitmaps = tasks_fit z s above g.1 version hooks slots bitmaps

-- there are as many lists of calls as tasks, and as many lists of groups
pub calls_listed : (above : List Statement) → length (told above).calls ≡ length (told above).tasks
calls_listed [] = refl
calls_listed (TaskLine name ∷ above) = length-append (told above).calls ([] ∷ []) ∙ ap (λ k. k + 1) (calls_listed above) ∙ sym (length-append (told above).tasks (name ∷ []))
calls_listed (CallLine layers act ∷ above) = length_onto (call_below (told above) layers act) (told above).calls ∙ calls_listed above
calls_listed (f ∷ above) = calls_listed above

pub groups_listed : (above : List Statement) → length (told above).groups ≡ length (told above).tasks
groups_listed [] = refl
groups_listed (TaskLine name ∷ above) = length-append (told above).groups ([] ∷ []) ∙ ap (λ k. k + 1) (groups_listed above) ∙ sym (length-append (told above).tasks (name ∷ []))
groups_listed (UnlockLine name ∷ above) = length_onto _ (told above).groups ∙ groups_listed above
groups_listed (ReleaseLine ∷ above) = length_onto _ (told above).groups ∙ groups_listed above
groups_listed (CallLine (l ∷ []) (EndRefreshAct full) ∷ above) = length_onto _ (told above).groups ∙ groups_listed above
groups_listed (f ∷ above) = groups_listed above

-- what holds of each pair holds at each place, and of each first one
pub zip_at : {A B : Type 0} (R : A → B → Type 0) (xs : List A) (ys : List B) (d : A) (e : B) → AllZip R xs ys → R d e → (i : ℕ) → R (slice_index_or xs i d) (slice_index_or ys i e)
zip_at R [] [] d e h k i = k
zip_at R [] (y ∷ ys) d e h k i = absurd h
zip_at R (x ∷ xs) [] d e h k i = absurd h
zip_at R (x ∷ xs) (y ∷ ys) d e h k zero = h.0
zip_at R (x ∷ xs) (y ∷ ys) d e h k (suc i) = zip_at R xs ys d e h.1 k i

pub zip_first : {A B : Type 0} (R : A → B → Type 0) (P : A → Type 0) (xs : List A) (ys : List B) → ((x : A) (y : B) → R x y → P x) → AllZip R xs ys → All P xs
zip_first R P [] ys f h = All-nil P
zip_first R P (x ∷ xs) [] f h = absurd h
zip_first R P (x ∷ xs) (y ∷ ys) f h = All-cons P x xs (f x y h.0) (zip_first R P xs ys f h.1)

-- every task of tasks that have begun fits
pub every_task : (z : Sizes) (v : View) → HaveBegun z v → AllZip (IsTaskFit z) v.calls v.groups
every_task z v b =
    let P : List (List Call) → Type 0 = λ lists. AllZip (IsTaskFit z) lists v.groups in
    let Q : List (List Group) → Type 0 = λ lists. AllZip (IsTaskFit z) (b.done ++ b.calls ∷ []) lists in
    subst P (sym b.all_are) (subst Q (sym b.groups_are) (zip_pushed (IsTaskFit z) b.done b.done_groups b.calls b.groups b.done_fit b.now.fits))
