-- The groups of a task grow with its calls, and the calls that may stand in them.
use Rattle.std.proofs.Common.{◌≡◌, ℕ, zero, suc, ◌+◌, ◌-◌, ◌<◌, ◌≤◌, ◌==◌, Bool, true, false, ◌&&◌, nat_le, nat_lt, List, [], ◌∷◌, ◌++◌, length, map, take, drop, slice_index, ℤ, bytes_eq, refl, sym, ap, ◌∙◌, arith, length-append, length-drop}
use Rattle.std.specs.List.{list_all}
use Rattle.lw_calls.specs.declared.call.Call.{Call}
use Rattle.lw_calls.specs.declared.group.Hold.{Hold}
use Rattle.lw_calls.specs.declared.group.Hold.TheVariants.{Slot}
use Rattle.lw_calls.specs.declared.group.Group.{Group}
use Rattle.lw_calls.specs.Touches.{slots_in, slots_of}
use Rattle.lw_calls.proofs.BlitClass.{blit_class}
use Rattle.lw_calls.specs.Plan.{is_one, is_all, begins_update, ends_update, may_be_locked, end_an_update, hold_allows, group_calls, group_fits, groups_fit}
use Rattle.lw_grammar.specs.declared.verb.BareVerb.TheVariants.{Close as CloseVerb, Front as FrontVerb, Behind as BehindVerb, Activate as ActivateVerb, Refresh as RefreshVerb}
use Rattle.lw_grammar.specs.declared.verb.NumberVerb.{NumberVerb}
use Rattle.lw_grammar.specs.declared.verb.NumberVerb.TheVariants.{APen as APenVerb, Hook as HookVerb}
use Rattle.lw_grammar.specs.declared.verb.PairVerb.{PairVerb}
use Rattle.lw_grammar.specs.declared.verb.PairVerb.TheVariants.{Move as MoveVerb, Size as SizeVerb}
use Rattle.lw_grammar.specs.declared.verb.TextVerb.{TextVerb}
use Rattle.lw_grammar.specs.declared.verb.TextVerb.TheVariants.{Text as TextOf}
use Rattle.lw_grammar.specs.Statements.{Act, BareAct, NumberAct, PairAct, TextAct, RegRectAct, RegPairAct, RegClearAct, CreateAct, OpenAct, InFrontAct, BoxAct, WhichAct, BlitAct, EndRefreshAct, layers_of}
use Rattle.lw_grammar.specs.Told.{place_among, spelled_call}
use Rattle.lw_grammar.specs.Script.{is_on_all, is_beginning, is_ending, are_all, is_on_one}
use Rattle.lw_grammar.proofs.ScriptNames.{equal_names}
use Rattle.std.proofs.lemmas.Bool.{true≢false, false≢true, lt-ltb, le-leb, ltb-true, leb-true, eq-eqb, and_parts, and_from, or_left, or_right, not-true}
use Rattle.std.proofs.lemmas.List.Folds.{list_all-append}
use Rattle.std.proofs.lemmas.List.{take_all, take-append-le, drop-append-le}

-- an act begins an update, or ends one, just where its call does
pub begins_so : (bitmaps : List (List ℕ)) (act : Act) (slots : List ℕ) → begins_update (spelled_call bitmaps act slots) ≡ is_beginning act
begins_so bitmaps (BareAct RefreshVerb) slots = refl
begins_so bitmaps (NumberAct APenVerb z) slots = refl
begins_so bitmaps (PairAct MoveVerb x y) slots = refl
begins_so bitmaps (TextAct TextOf text) slots = refl
begins_so bitmaps act slots = refl

pub ends_so : (bitmaps : List (List ℕ)) (act : Act) (slots : List ℕ) → ends_update (spelled_call bitmaps act slots) ≡ is_ending act
ends_so bitmaps (EndRefreshAct full) slots = refl
ends_so bitmaps (BareAct RefreshVerb) slots = refl
ends_so bitmaps (NumberAct APenVerb z) slots = refl
ends_so bitmaps (PairAct MoveVerb x y) slots = refl
ends_so bitmaps (TextAct TextOf text) slots = refl
ends_so bitmaps act slots = refl

-- an act of these kinds does neither
pub number_plain : (verb : NumberVerb) (z : ℤ) → (is_beginning (NumberAct verb z) ≡ false) × (is_ending (NumberAct verb z) ≡ false)
number_plain APenVerb z = (refl, refl)
number_plain verb z = (refl, refl)

pub pair_plain : (verb : PairVerb) (x y : ℤ) → (is_beginning (PairAct verb x y) ≡ false) × (is_ending (PairAct verb x y) ≡ false)
pair_plain MoveVerb x y = (refl, refl)
pair_plain verb x y = (refl, refl)

pub text_plain : (verb : TextVerb) (text : List ℕ) → (is_beginning (TextAct verb text) ≡ false) × (is_ending (TextAct verb text) ≡ false)
text_plain TextOf text = (refl, refl)
text_plain verb text = (refl, refl)

-- a call on all layers touches them all, whichever layer it names
pub touches_all : (bitmaps : List (List ℕ)) (act : Act) (slots : List ℕ) → is_on_all act ≡ true → is_all (slots_of (spelled_call bitmaps act slots)) ≡ true
touches_all bitmaps (CreateAct rect a) slots h = refl
touches_all bitmaps (OpenAct at a framed nocare classes title) slots h = refl
touches_all bitmaps (BareAct CloseVerb) slots h = refl
touches_all bitmaps (BareAct FrontVerb) slots h = refl
touches_all bitmaps (BareAct BehindVerb) slots h = refl
touches_all bitmaps InFrontAct slots h = refl
touches_all bitmaps (PairAct MoveVerb dx dy) slots h = refl
touches_all bitmaps (PairAct SizeVerb dw dh) slots h = refl
touches_all bitmaps (BoxAct r) slots h = refl
touches_all bitmaps (BareAct ActivateVerb) slots h = refl
touches_all bitmaps (NumberAct HookVerb z) slots h = refl
touches_all bitmaps (NumberAct APenVerb z) slots h = absurd (false≢true h)
touches_all bitmaps (TextAct TextOf text) slots h = absurd (false≢true h)
touches_all bitmaps act slots h = absurd (false≢true h)

-- a call that names layers, all of them in slot s, and is none on all layers touches that slot alone
pub touches_one : (bitmaps : List (List ℕ)) (act : Act) (slots : List ℕ) (s : ℕ) → is_on_all act ≡ false → 0 < layers_of act → ((i : ℕ) → i < layers_of act → slice_index slots i ≡ s) → is_one s (slots_of (spelled_call bitmaps act slots)) ≡ true
touches_one bitmaps (RegRectAct op r rect) slots s h k e = absurd (omega arith)
touches_one bitmaps (RegPairAct op q r) slots s h k e = absurd (omega arith)
touches_one bitmaps (RegClearAct r) slots s h k e = absurd (omega arith)
touches_one bitmaps (WhichAct x y) slots s h k e = absurd (omega arith)
touches_one bitmaps (CreateAct rect a) slots s h k e = absurd (true≢false h)
touches_one bitmaps (OpenAct at a framed nocare classes title) slots s h k e = absurd (true≢false h)
touches_one bitmaps (BareAct CloseVerb) slots s h k e = absurd (true≢false h)
touches_one bitmaps (BareAct FrontVerb) slots s h k e = absurd (true≢false h)
touches_one bitmaps (BareAct BehindVerb) slots s h k e = absurd (true≢false h)
touches_one bitmaps InFrontAct slots s h k e = absurd (true≢false h)
touches_one bitmaps (PairAct MoveVerb dx dy) slots s h k e = absurd (true≢false h)
touches_one bitmaps (PairAct SizeVerb dw dh) slots s h k e = absurd (true≢false h)
touches_one bitmaps (BoxAct r) slots s h k e = absurd (true≢false h)
touches_one bitmaps (BareAct ActivateVerb) slots s h k e = absurd (true≢false h)
touches_one bitmaps (BlitAct b) slots s h k e =
    let first = e 0 (omega arith) in
    let second = e 1 (omega arith) in
    step (slice_index slots 0 == slice_index slots 1) (eq-eqb _ _ (first ∙ sym second)) (eq-eqb _ s second)
  where
    step : (t : Bool) → t ≡ true → (slice_index slots 1 == s) ≡ true → is_one s (slots_in (blit_class t (slice_index slots 0) (slice_index slots 1))) ≡ true
    step true e d = d
    step false e d = absurd (false≢true e)
touches_one bitmaps (NumberAct HookVerb z) slots s h k e = absurd (true≢false h)
touches_one bitmaps (NumberAct APenVerb z) slots s h k e = eq-eqb _ s (e 0 (omega arith))
touches_one bitmaps (TextAct TextOf text) slots s h k e = eq-eqb _ s (e 0 (omega arith))
touches_one bitmaps act slots s h k e = eq-eqb _ s (e 0 (omega arith))

-- layers that are all this one have its slot
all_there : (names : List (List ℕ)) (l : List ℕ) (layers : List (List ℕ)) → list_all (bytes_eq l) layers ≡ true → (i : ℕ) → i < length layers → slice_index (map (place_among names) layers) i ≡ place_among names l
all_there names l [] h i low = absurd (omega arith)
all_there names l (m ∷ ms) h zero low = ap (place_among names) (sym (equal_names l m (and_parts _ _ h).0))
all_there names l (m ∷ ms) h (suc i) low = all_there names l ms (and_parts (bytes_eq l m) _ h).1 i (omega arith)

-- some layer is among layers that are all this one
some_layer : (l : List ℕ) (layers : List (List ℕ)) → are_all l layers ≡ true → (0 < length layers) × (list_all (bytes_eq l) layers ≡ true)
some_layer l [] h = absurd (false≢true h)
some_layer l (m ∷ ms) h = (omega arith, h)

-- a call on the one layer touches its slot alone
pub on_one : (bitmaps names : List (List ℕ)) (l : List ℕ) (layers : List (List ℕ)) (act : Act) → length layers ≡ layers_of act → is_on_one l layers act ≡ true → is_one (place_among names l) (slots_of (spelled_call bitmaps act (map (place_among names) layers))) ≡ true
on_one bitmaps names l layers act n h =
    let halves = and_parts (are_all l layers) _ h in
    let all = some_layer l layers halves.0 in
    touches_one bitmaps act _ (place_among names l) (not-true _ halves.1) (omega (arith, all.0, n)) (λ i low. all_there names l layers all.1 i (omega (arith, n, low)))

-- the last group, if there is one, ends before this call
abbrev pub EndBefore : List Group → ℕ → Type 0
EndBefore [] n = Unit {0}
EndBefore (g ∷ []) n = g.last < n
EndBefore (g ∷ h ∷ gs) n = EndBefore (h ∷ gs) n

-- it ends before each later call too
pub end_later : (gs : List Group) (m n : ℕ) → EndBefore gs m → m ≤ n → EndBefore gs n
end_later [] m n h k = tt
end_later (g ∷ []) m n h k = omega (arith, h)
end_later (g ∷ j ∷ gs) m n h k = end_later (j ∷ gs) m n h k

-- a further group is the last one
pub end_pushed : (gs : List Group) (g : Group) (n : ℕ) → g.last < n → EndBefore (gs ++ g ∷ []) n
end_pushed [] g n h = h
end_pushed (f ∷ []) g n h = h
end_pushed (f ∷ j ∷ gs) g n h = end_pushed (j ∷ gs) g n h

-- the calls of a group are the same among more calls
calls_kept : (calls : List Call) (c : Call) (g : Group) → (nat_le g.first g.last && nat_lt g.last (length calls)) ≡ true → group_calls (calls ++ c ∷ []) g ≡ group_calls calls g
calls_kept calls c g h =
    let bounds = and_parts (nat_le g.first g.last) _ h in
    let order : g.first ≤ g.last = leb-true _ _ bounds.0 in
    let inside : g.last < length calls = ltb-true _ _ bounds.1 in
    let front : drop g.first (calls ++ c ∷ []) ≡ drop g.first calls ++ c ∷ [] = drop-append-le g.first calls (c ∷ []) (omega arith) in
    let long : length (drop g.first calls) ≡ length calls - g.first = length-drop g.first calls in
    ap (take ((g.last + 1) - g.first)) front ∙ take-append-le ((g.last + 1) - g.first) (drop g.first calls) (c ∷ []) (omega (arith, long))

-- so a group that fits still does
group_kept : (calls : List Call) (c : Call) (g : Group) → group_fits calls g ≡ true → group_fits (calls ++ c ∷ []) g ≡ true
group_kept calls c g h =
    let halves = and_parts (nat_le g.first g.last && nat_lt g.last (length calls)) _ h in
    let bounds = and_parts (nat_le g.first g.last) _ halves.0 in
    let inside : g.last < length calls = ltb-true _ _ bounds.1 in
    and_from _ _ (and_from _ _ bounds.0 (lt-ltb _ _ (omega (arith, length-append calls (c ∷ []))))) (ap (hold_allows g.hold) (calls_kept calls c g halves.0) ∙ halves.1)

pub groups_kept : (calls : List Call) (c : Call) (gs : List Group) → groups_fit calls gs ≡ true → groups_fit (calls ++ c ∷ []) gs ≡ true
groups_kept calls c [] h = refl
groups_kept calls c (g ∷ []) h = group_kept calls c g h
groups_kept calls c (g ∷ j ∷ gs) h =
    let halves = and_parts (group_fits calls g && nat_lt g.last j.first) _ h in
    let front = and_parts (group_fits calls g) _ halves.0 in
    and_from _ _ (and_from _ _ (group_kept calls c g front.0) front.1) (groups_kept calls c (j ∷ gs) halves.1)

-- a further group after the last one
pub groups_pushed : (calls : List Call) (gs : List Group) (g : Group) → groups_fit calls gs ≡ true → EndBefore gs g.first → group_fits calls g ≡ true → groups_fit calls (gs ++ g ∷ []) ≡ true
groups_pushed calls [] g h before fits = fits
groups_pushed calls (f ∷ []) g h before fits = and_from _ _ (and_from _ _ h (lt-ltb _ _ before)) fits
groups_pushed calls (f ∷ j ∷ gs) g h before fits =
    let halves = and_parts (group_fits calls f && nat_lt f.last j.first) _ h in
    and_from _ _ halves.0 (groups_pushed calls (j ∷ gs) g halves.1 before fits)

-- a group up to the last call has all calls from its first on
pub to_the_end : (calls : List Call) (first last : ℕ) (hold : Hold) → first ≤ last → suc last ≡ length calls → hold_allows hold (drop first calls) ≡ true → group_fits calls (record { first = first; last = last; hold = hold }) ≡ true
to_the_end calls first last hold order end stands =
    let long : length (drop first calls) ≡ length calls - first = length-drop first calls in
    let whole : take ((last + 1) - first) (drop first calls) ≡ drop first calls = take_all ((last + 1) - first) (drop first calls) (omega (arith, long)) in
    and_from _ _ (and_from _ _ (le-leb _ _ order) (lt-ltb _ _ (omega arith))) (ap (hold_allows hold) whole ∙ stands)

-- of all calls and one more each passes
pub all_pushed : (p : Call → Bool) (cs : List Call) (c : Call) → list_all p cs ≡ true → p c ≡ true → list_all p (cs ++ c ∷ []) ≡ true
all_pushed p cs c h k = list_all-append p cs (c ∷ []) ∙ and_from _ _ h (and_from _ _ k refl)

-- calls that may be locked and then an end of the update end it
update_ends : (s : ℕ) (cs : List Call) (c : Call) → list_all (may_be_locked s) cs ≡ true → (is_one s (slots_of c) && ends_update c) ≡ true → end_an_update s (cs ++ c ∷ []) ≡ true
update_ends s [] c h k = k
update_ends s (d ∷ []) c h k = and_from _ _ (and_parts (may_be_locked s d) _ h).0 k
update_ends s (d ∷ e ∷ ds) c h k =
    let halves = and_parts (may_be_locked s d) _ h in
    and_from _ _ halves.0 (update_ends s (e ∷ ds) c halves.1 k)

-- the calls of an update may stand under a lock of its layer
pub update_stands : (s : ℕ) (b : Call) (cs : List Call) (c : Call) → (is_one s (slots_of b) && begins_update b) ≡ true → list_all (may_be_locked s) cs ≡ true → (is_one s (slots_of c) && ends_update c) ≡ true → hold_allows (Slot s) (b ∷ cs ++ c ∷ []) ≡ true
update_stands s b cs c begins inside ends = or_right _ _ (and_from _ _ begins (update_ends s cs c inside ends))

-- so may locked calls, if there are some
pub locked_stands : (s : ℕ) (cs : List Call) → 0 < length cs → list_all (may_be_locked s) cs ≡ true → hold_allows (Slot s) cs ≡ true
locked_stands s [] some h = absurd (omega arith)
locked_stands s (c ∷ cs) some h = or_left _ _ h

-- after so many calls a further one stands alone, and after fewer it stands at the end
pub drop_pushed : (calls : List Call) (c : Call) (n : ℕ) → n ≤ length calls → drop n (calls ++ c ∷ []) ≡ drop n calls ++ c ∷ []
drop_pushed calls c n h = drop-append-le n calls (c ∷ []) h
