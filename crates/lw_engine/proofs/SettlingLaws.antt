-- What is ready for a slot makes of it what the arrangement says.
use Rattle.std.proofs.Common.{◌≡◌, ℕ, zero, suc, ◌+◌, ◌-◌, ◌*◌, ◌==◌, Bool, true, false, not, ◌&&◌, ◌||◌, ℤ, pos, List, [], ◌∷◌, length, get_or, replicate, Option, Some, None, refl, sym, ap, subst, ◌∙◌, arith}
use Rattle.std.specs.Global.{Box}
use Rattle.std.proofs.lemmas.Bool.{false≢true}
use Rattle.std.proofs.lemmas.Bool.Decides.{nat_tests}
use Rattle.std.proofs.Math.Path.{fun_ext}
use Rattle.std.proofs.lemmas.Nat.{pow_pos}
use Rattle.std.proofs.Math.Bool.{and-false}
use Rattle.lw_region.specs.Rectangle.{Rectangle}
use Rattle.lw_region.specs.Bands.{covers}
use Rattle.lw_region.proofs.Canonical.{covers_nil}
use Rattle.lw_planes.specs.Bitmap.{IsBitmap}
use Rattle.lw_planes.proofs.PenLaws.{pen_same}
use Rattle.lw_calls.specs.Kinds.{is_super}
use Rattle.lw_machine.specs.Hook.{Hook, tile_place, hook_pen}
use Rattle.lw_machine.specs.Paint.{with_pens, pen_within}
use Rattle.lw_backfill.specs.Hooks.{solid}
use Rattle.lw_machine.specs.Layer.{Layer, Window, is_framed, changed_window}
use Rattle.lw_machine.specs.Desk.{is_the}
use Rattle.lw_machine.specs.Reveal.{Across, was_live, is_resized, same_bounds, window_with_messages}
use Rattle.lw_layer.specs.View.{State, LiveView, CellView, keeps, with_layer, with_live, hooked}
use Rattle.lw_layer.specs.View as view
use Rattle.lw_layer.specs.Drafts.{no_layer}
use Rattle.lw_layer.specs.StandsFor.{IsSound}
use Rattle.lw_layer.specs.Windows.{due_count}
use Rattle.lw_layer.specs.declared.draft.LiveDraft.{LiveDraft}
use Rattle.lw_frames.specs.Framing.{with_own_frame}
use Rattle.lw_stack.specs.Stack.{bounds_at}
use Rattle.lw_arrange.specs.declared.preparing.Becomes.{Becomes}
use Rattle.lw_arrange.specs.declared.preparing.Becomes.TheVariants.{Stays, Closes, Opens, Changes}
use Rattle.lw_arrange.specs.Arrangements.{ArrangementView}
use Rattle.lw_arrange.specs.Prepared.{Created, created_by, created_live, becomes, with_bounds, without_layer, shown_at, cell_after, MayBecome, MayBe, MayOpen}
use Rattle.lw_arrange.specs.Made.{IsPrepared}
use Rattle.lw_arrange.specs.Areas.{IsUnaffected}
use Rattle.lw_arrange.specs.Filled.{keeps_if_live, counts_if_live, is_inside, gains, gains_some}
use Rattle.lw_arrange.specs.Settled.{new_of, settled_new, settled_with, settled_by}
use Rattle.lw_layer.proofs.PixelTests.{none_within}
use Rattle.lw_arrange.proofs.FilledLaws.{unfilled}
use Rattle.lw_arrange.proofs.GainsLaws.{stayed}
use Rattle.lw_engine.specs.declared.window_after.WindowAfter.{WindowAfter}
use Rattle.lw_engine.specs.Slots.{hook_in, bare, asked_hook, due_hook, filled_from, slot_after, filled_as, across_live, IsWindowAfter, MayBeReady, IsLeft, IsStill, IsSettledBy, followed}
use Rattle.lw_engine.proofs.SettledLaws.{live_settled, new_settled, live_filled, new_filled, new_undamaged}

-- a cell that was read has no hook of its own
no_hook : (c : CellView) → (c.state ≡ view.Live → IsSound c.live) → ((c.state ≡ view.Live → ⊥) → c.live ≡ no_layer) → c.live.layer.hook ≡ None
no_hook c sound idle = go c.state refl
  where
    go : (s : State) → c.state ≡ s → c.live.layer.hook ≡ None
    go view.Unopened is = ap (λ q. q.layer.hook) (idle (λ live. cc (is, live)))
    go view.Live is = (sound is).hook
    go view.Closed is = ap (λ q. q.layer.hook) (idle (λ live. cc (is, live)))

pub bare_cell : (c : CellView) → (c.state ≡ view.Live → IsSound c.live) → ((c.state ≡ view.Live → ⊥) → c.live ≡ no_layer) → c ≡ hooked None c
bare_cell c sound idle = ap (λ h. hooked h c) (no_hook c sound idle)

-- nothing is filled where the cell stays
never_twice : (own kept counts : Bool) → (kept ≡ true → counts ≡ true) → (not own && (kept && not counts)) ≡ false
never_twice true kept counts all = refl
never_twice false true counts all = rw (all refl) refl
never_twice false false counts all = refl

-- what is kept counts as kept where the layer stays
all_count : (s : State) (c : CellView) (x y : ℕ) → keeps_if_live s c.live x y ≡ true → counts_if_live s c.live c.live x y ≡ true
all_count view.Unopened c x y kept = kept
all_count view.Live c x y kept = rw kept (either (is_inside c.live x y) (is_framed c.live.layer.window))
  where
    either : (inside framed : Bool) → (inside || not (framed && inside)) ≡ true
    either true framed = refl
    either false true = refl
    either false false = refl
all_count view.Closed c x y kept = kept

pub stays_filled : (c : CellView) → IsBitmap c.live.layer.bits → filled_from (bare c) (hook_in c) (bare c) ≡ c
stays_filled c ok =
    let b : CellView = bare c in
    let none : (x y : ℕ) → gains b b x y ≡ false =
    λ x y. never_twice (is_super c.live.layer.kind) (keeps_if_live b.state b.live x y) (counts_if_live b.state b.live b.live x y) (all_count b.state b x y)
    in
    let never : gains_some b b ≡ false = none_within b.live.layer.bits.width b.live.layer.bits.height (λ x y. gains b b x y) (λ x y _ _. none x y) in
    ap (λ (q : Layer). record c { live = record c.live { layer = q } })
    (unfilled b.live.layer (hook_in c) (λ x y. gains b b x y) (gains_some b b) ok none never)

-- no rectangle
none_listed : (rects : List Rectangle) → (length rects == 0) ≡ true → rects ≡ []
none_listed [] none = refl
none_listed (r ∷ rs) none = absurd (let some : (length (r ∷ rs) == 0) ≡ false = grind (arith, nat_tests) in cc (none, some))

-- where no pixel is gained, nothing is filled
pub none_filled : (c : LiveView) (h : Option Hook) (gained : List Rectangle) → IsBitmap c.layer.bits → (length gained == 0) ≡ true
    → with_layer (λ l. record l { hook = h }) c ≡ filled_as h gained c
none_filled c h gained ok none =
    let on : ℕ → ℕ → Bool = λ x y. keeps c x y && covers gained (pos x) (pos y) in
    let off : (x y : ℕ) → on x y ≡ false =
    λ x y.
    ap (λ l. keeps c x y && covers l (pos x) (pos y)) (none_listed gained none)
    ∙ (ap (λ t. keeps c x y && t) (covers_nil (pos x) (pos y)) ∙ and-false (keeps c x y))
    in
    ap (λ (q : Layer). record c { layer = q }) (sym (unfilled c.layer h on (not (length gained == 0)) ok off (ap not none)))

-- a hook of pen 0 has that pen everywhere
zeros : (n k : ℕ) → get_or (replicate n zero) k zero ≡ zero
zeros zero k = refl
zeros (suc n) zero = refl
zeros (suc n) (suc k) = zeros n k

zero_pen : (x y : ℤ) → hook_pen (solid 0) x y ≡ 0
unfolding hook_pen
zero_pen x y = zeros 64 (8 * tile_place y + tile_place x)

-- what is filled with pen 0
pub zero_filled : (c e : LiveView) (gained : List Rectangle) (h : Hook) → h ≡ solid 0
    → e ≡ with_layer (λ l. with_pens (λ x y. keeps c x y && covers gained (pos x) (pos y))
    (λ x y. pen_within l.bits.depth (hook_pen h (pos x) (pos y))) l) c
    → with_layer (λ l. record l { hook = None }) e ≡ filled_as None gained c
zero_filled c e gained h solid_is is =
    let l : Layer = c.layer in
    let on : ℕ → ℕ → Bool = λ x y. keeps c x y && covers gained (pos x) (pos y) in
    let Painted : (ℕ → ℕ → ℕ) → LiveView = λ f. record c { layer = record (with_pens on f l) { hook = None } } in
    let zero : (x y : ℕ) → pen_within l.bits.depth (hook_pen h (pos x) (pos y)) ≡ 0 =
    λ x y.
    ap (λ k. pen_within l.bits.depth (hook_pen k (pos x) (pos y))) solid_is
    ∙ (ap (pen_within l.bits.depth) (zero_pen (pos x) (pos y)) ∙ pen_same l.bits.depth 0 (pow_pos l.bits.depth))
    in
    ap (with_layer (λ l. record l { hook = None })) is ∙ ap Painted (fun_ext (λ x. fun_ext (λ y. zero x y)))

-- what a cell becomes, by its bounds and its state
abbrev pub cell_as : ArrangementView → CellView → Option Rectangle → State → CellView
cell_as a c None s = without_layer (bare c) s
cell_as a c (Some r) s = with_bounds (created_by a.task a.call) a.stack.sizes.depth r (shown_at a c.number) (bare c) s

pub cell_is : (a : ArrangementView) (c : CellView) (o : Option Rectangle) (s : State) → bounds_at a.stack.bounds c.number ≡ o → c.state ≡ s
    → cell_after a (bare c) ≡ cell_as a c o s
cell_is a c None s bounds state =
    ap (becomes (created_by a.task a.call) a.stack.sizes.depth (shown_at a c.number) (bare c)) bounds ∙ ap (without_layer (bare c)) state
cell_is a c (Some r) s bounds state =
    ap (becomes (created_by a.task a.call) a.stack.sizes.depth (shown_at a c.number) (bare c)) bounds
    ∙ ap (with_bounds (created_by a.task a.call) a.stack.sizes.depth r (shown_at a c.number) (bare c)) state

-- a slot without a layer that has bounds afterwards has a new layer
pub cell_opened : (a : ArrangementView) (c : CellView) (r : Rectangle) → bounds_at a.stack.bounds c.number ≡ Some r → (c.state ≡ view.Live → ⊥)
    → cell_after a (bare c)
    ≡ record { number = c.number; state = view.Live; live = created_live (created_by a.task a.call) a.stack.sizes.depth r (shown_at a c.number) }
cell_opened a c r bounds idle = by_state c.state refl
  where
    by_state : (s : State) → c.state ≡ s → cell_after a (bare c)
        ≡ record { number = c.number; state = view.Live; live = created_live (created_by a.task a.call) a.stack.sizes.depth r (shown_at a c.number) }
    by_state view.Unopened state = cell_is a c (Some r) view.Unopened bounds state
    by_state view.Live state = absurd (idle state)
    by_state view.Closed state = cell_is a c (Some r) view.Closed bounds state

-- and that one has the hook that is asked for
due_asked : (a : ArrangementView) (shelf : List (Option Hook)) (c : CellView) (s : State) → (s ≡ view.Live → ⊥)
    → due_hook a shelf c s ≡ asked_hook shelf a.call c.number
due_asked a shelf c view.Unopened idle = refl
due_asked a shelf c view.Live idle = absurd (idle refl)
due_asked a shelf c view.Closed idle = refl

pub state_of_cell : (u v : CellView) → u ≡ v → u.state ≡ v.state
state_of_cell u v is = ap (λ (q : CellView). q.state) is

-- what holds of a slot with bounds afterwards
pub may_become : (a : ArrangementView) (c : CellView) → MayBeReady a c → (r : Rectangle) (s : State) → bounds_at a.stack.bounds c.number ≡ Some r
    → c.state ≡ s → MayBecome (created_by a.task a.call) a.stack.sizes.depth r (shown_at a c.number) (bare c) s
may_become a c may r s bounds state =
    let P : Option Rectangle → Type 0 = λ o. MayBe (created_by a.task a.call) a.stack.sizes.depth (shown_at a c.number) (bare c) o in
    let Q : State → Type 0 = λ t. MayBecome (created_by a.task a.call) a.stack.sizes.depth r (shown_at a c.number) (bare c) t in
    subst Q state (subst P bounds may.prepare)

-- a layer that stays live is revealed as it is, where its cell stays
pub stays_settled : (glyphs : List (List ℕ)) (a : ArrangementView) (shelf : List (Option Hook)) (c : CellView) (r : Rectangle) (w : WindowAfter)
    → c.state ≡ view.Live → IsSound (bare c).live → bounds_at a.stack.bounds c.number ≡ Some r → cell_after a (bare c) ≡ bare c
    → IsWindowAfter a c r w → slot_after glyphs a shelf c ≡ with_live (followed glyphs w (across_live a c r)) c
stays_settled glyphs a shelf c r w live sound bounds stays after =
    let h = asked_hook shelf a.call c.number in
    let b = bare c in
    ap (settled_by glyphs a h c) bounds
    ∙ (ap (settled_with glyphs a h c r) live
    ∙ live_settled glyphs a c r w c
    (sym (stays_filled c sound.bits.bitmap)
    ∙ (ap (filled_from b (hook_in c)) (sym stays ∙ cell_is a c (Some r) view.Live bounds live) ∙ live_filled a c r live sound))
    after)

-- one that is no window is told nothing
untold : (q : Across) (k : LiveView) (o : Option Window) → o ≡ None
    → record k { room = k.room - due_count q k.layer o; layer = record k.layer { window = changed_window (window_with_messages q k.layer) o } }
    ≡ record k { layer = record k.layer { window = o } }
untold q k None plain = let same : k.room - 0 ≡ k.room = omega arith in ap (λ n. record k { room = n; layer = record k.layer { window = None } }) same
untold q k (Some w) plain = absurd (cc (plain))

-- A layer that is no window and stays where it is, neither loses nor gains a piece, and is as active as it was, is left as it is.
pub slot_left : (a : ArrangementView) (c : CellView) → IsSound (bare c).live → IsUnaffected a (bare c) → c.live.layer.window ≡ None
    → c.live.active ≡ is_the a.stack.active c.number → IsLeft a c
slot_left a c sound stays plain active =
    let r = c.live.bounds in
    let q = across_live a c r in
    let w : WindowAfter = record {
      frame = false;
      active = c.live.active;
      change = record {
        sized = is_resized q;
        changed = was_live q && not (same_bounds q.bounds q.new_bounds);
        deactivated = q.active && not q.new_active;
        activated = q.new_active && not q.active;
        damaged = false;
      };
    } in
    let after : IsWindowAfter a c r w = record {
      active = active;
      done = record { sized = refl; changed = refl; deactivated = refl; activated = refl };
      frame = λ framed. absurd (false≢true (sym (ap is_framed plain) ∙ framed));
    } in
    record {
      still = λ glyphs shelf.
          stays_settled glyphs a shelf c r w stays.live sound stays.bounds stays.same after
          ∙ ap (λ k. record c { live = k }) (untold q c.live c.live.layer.window plain);
      unexchanged = stays.unexchanged;
    }

-- what is ready for a slot by its bounds and its state
pub ready_settled : (glyphs : List (List ℕ)) (a : ArrangementView) (shelf : List (Option Hook)) (c : CellView) (p : Becomes) (gained : List Rectangle)
    (w : WindowAfter) → MayBeReady a c → (c.state ≡ view.Live → IsSound (bare c).live)
    → IsPrepared (bare c) (cell_after a (bare c)) p
    → ((cell_after a (bare c)).state ≡ view.Live
    → filled_from (bare c) (due_hook a shelf c c.state) (cell_after a (bare c)) ≡ with_live (filled_as (due_hook a shelf c c.state) gained) (cell_after a (bare c)))
    → (c.state ≡ view.Live → (r : Rectangle) → bounds_at a.stack.bounds c.number ≡ Some r → IsWindowAfter a c r w)
    → IsSettledBy glyphs c (slot_after glyphs a shelf c) gained (asked_hook shelf a.call c.number) w p
ready_settled glyphs a shelf c p gained w may sound ready filled after = by_cases (bounds_at a.stack.bounds c.number) refl c.state refl p ready
  where
    n : ℕ
    n = c.number

    b : CellView
    b = bare c

    e : CellView
    e = cell_after a b

    h : Option Hook
    h = asked_hook shelf a.call n

    -- the slot afterwards, by the bounds and the state
    slot_as : (o : Option Rectangle) (s : State) → CellView
    slot_as None s = without_layer c s
    slot_as (Some r) s = settled_with glyphs a h c r s

    slot_is : (o : Option Rectangle) (s : State) → bounds_at a.stack.bounds n ≡ o → c.state ≡ s → slot_after glyphs a shelf c ≡ slot_as o s
    slot_is None s bounds state = ap (settled_by glyphs a h c) bounds ∙ ap (without_layer c) state
    slot_is (Some r) s bounds state = ap (settled_by glyphs a h c) bounds ∙ ap (settled_with glyphs a h c r) state

    -- a layer that stays live, and is what it was once what it gains is filled
    followed_live : (r : Rectangle) (f : CellView) → bounds_at a.stack.bounds n ≡ Some r → c.state ≡ view.Live
        → f ≡ filled_from b (hook_in c) (stayed r (shown_at a n) b)
        → slot_after glyphs a shelf c ≡ with_live (followed glyphs w (across_live a c r)) f
    followed_live r f bounds live is =
        slot_is (Some r) view.Live bounds live
        ∙ live_settled glyphs a c r w f (is ∙ live_filled a c r live (sound live)) (after live r bounds)

    -- a new layer
    slot_opened : (r : Rectangle) (s : State) → bounds_at a.stack.bounds n ≡ Some r → c.state ≡ s → (s ≡ view.Live → ⊥)
        → slot_after glyphs a shelf c
        ≡ record { number = n; state = view.Live; live = settled_new glyphs a n r (new_of (created_by a.task a.call) a.stack.sizes.depth h) }
    slot_opened r view.Unopened bounds state idle = slot_is (Some r) view.Unopened bounds state
    slot_opened r view.Live bounds state idle = absurd (idle refl)
    slot_opened r view.Closed bounds state idle = slot_is (Some r) view.Closed bounds state

    opened_new : (r : Rectangle) (o : Option Created) → bounds_at a.stack.bounds n ≡ Some r → (c.state ≡ view.Live → ⊥)
        → created_by a.task a.call ≡ o → MayOpen o a.stack.sizes.depth r → e.state ≡ view.Live
        → slot_after glyphs a shelf c ≡ with_live (λ k. with_own_frame glyphs false (filled_as h gained k)) e
    opened_new r None bounds idle new may_open live = absurd may_open
    opened_new r (Some k) bounds idle new may_open live =
        let depth = a.stack.sizes.depth in
        let made : CellView = record { number = n; state = view.Live; live = created_live (Some k) depth r (shown_at a n) } in
        let cell : e ≡ made =
        cell_opened a c r bounds idle ∙ ap (λ o. record { number = n; state = view.Live; live = created_live o depth r (shown_at a n) }) new
        in
        let layer = new_of (Some k) depth h in
        let P : Option Hook → Type 0 = λ k. filled_from b k e ≡ with_live (filled_as k gained) e in
        let right : filled_from b h e ≡ with_live (filled_as h gained) e = subst P (due_asked a shelf c c.state idle) (filled live) in
        let place = may_open.size.place in
        slot_opened r c.state bounds refl idle
        ∙ (ap (λ o. record { number = n; state = view.Live; live = settled_new glyphs a n r (new_of o depth h) }) new
        ∙ new_settled glyphs a n r layer (with_live (filled_as h gained) e) (may.idle idle)
        (sym right ∙ (ap (filled_from b h) cell ∙ new_filled a c r k.make k.window depth h idle place))
        (new_undamaged a c r k.make k.window depth h idle place))

    opened : (r : Rectangle) (d : Box LiveDraft) → IsPrepared b e (Opens d) → bounds_at a.stack.bounds n ≡ Some r
        → MayOpen (created_by a.task a.call) a.stack.sizes.depth r → IsSettledBy glyphs c (slot_after glyphs a shelf c) gained h w (Opens d)
    opened r d ready bounds may_open = (
      ready.0,
      ready.1,
      opened_new r (created_by a.task a.call) bounds ready.0 refl may_open (state_of_cell _ _ ready.2)
          ∙ ap (λ v. with_live (λ k. with_own_frame glyphs false (filled_as h gained k)) v) ready.2,
    )

    still : (s : State) → c.state ≡ s → IsStill glyphs c (slot_after glyphs a shelf c) w s → IsSettledBy glyphs c (slot_after glyphs a shelf c) gained h w Stays
    still s state is = let P : State → Type 0 = λ t. IsStill glyphs c (slot_after glyphs a shelf c) w t in subst P (sym state) is

    by_cases : (o : Option Rectangle) → bounds_at a.stack.bounds n ≡ o → (s : State) → c.state ≡ s → (p : Becomes) → IsPrepared b e p
        → IsSettledBy glyphs c (slot_after glyphs a shelf c) gained h w p
    by_cases None bounds view.Unopened state Stays ready = still view.Unopened state (slot_is None view.Unopened bounds state)
    by_cases None bounds view.Unopened state Closes ready = absurd (cc (state, ready.0))
    by_cases None bounds view.Unopened state (Opens d) ready = absurd (cc (state_of_cell e b (cell_is a c None view.Unopened bounds state), state, state_of_cell _ _ ready.2))
    by_cases None bounds view.Unopened state (Changes k) ready = absurd (cc (state, ready.0))
    by_cases None bounds view.Live state Stays ready = absurd (cc (state_of_cell _ _ (cell_is a c None view.Live bounds state), state))
    by_cases None bounds view.Live state Closes ready = (state, slot_is None view.Live bounds state)
    by_cases None bounds view.Live state (Opens d) ready = absurd (ready.0 state)
    by_cases None bounds view.Live state (Changes k) ready = absurd (cc (state_of_cell _ _ (cell_is a c None view.Live bounds state), state, state_of_cell _ _ ready.2))
    by_cases None bounds view.Closed state Stays ready = still view.Closed state (slot_is None view.Closed bounds state)
    by_cases None bounds view.Closed state Closes ready = absurd (cc (state, ready.0))
    by_cases None bounds view.Closed state (Opens d) ready = absurd (cc (state_of_cell e b (cell_is a c None view.Closed bounds state), state, state_of_cell _ _ ready.2))
    by_cases None bounds view.Closed state (Changes k) ready = absurd (cc (state, ready.0))
    by_cases (Some r) bounds view.Unopened state Stays ready = absurd (cc (state_of_cell _ _ (cell_is a c (Some r) view.Unopened bounds state), state))
    by_cases (Some r) bounds view.Unopened state Closes ready = absurd (cc (state, ready.0))
    by_cases (Some r) bounds view.Unopened state (Opens d) ready = opened r d ready bounds (may_become a c may r view.Unopened bounds state)
    by_cases (Some r) bounds view.Unopened state (Changes k) ready = absurd (cc (state, ready.0))
    by_cases (Some r) bounds view.Live state Stays ready =
        still view.Live state (
          may.room,
          across_live a c r,
          (after state r bounds).done,
          stays_settled glyphs a shelf c r w state (sound state) bounds ready (after state r bounds),
        )
    by_cases (Some r) bounds view.Live state Closes ready =
        absurd (cc (state_of_cell _ _ (cell_is a c (Some r) view.Live bounds state), state, state_of_cell _ _ ready.1))
    by_cases (Some r) bounds view.Live state (Opens d) ready = absurd (ready.0 state)
    by_cases (Some r) bounds view.Live state (Changes k) ready =
        let live : e.state ≡ view.Live = state_of_cell _ _ ready.2 ∙ state in
        let P : State → Type 0 = λ s. filled_from b (due_hook a shelf c s) e ≡ with_live (filled_as (due_hook a shelf c s) gained) e in
        let right : filled_from b (hook_in c) e ≡ with_live (filled_as (hook_in c) gained) e = subst P state (filled live) in (
          state,
          may.room,
          ready.1,
          across_live a c r,
          (after state r bounds).done,
          followed_live r _ bounds state
              (ap (with_live (filled_as (hook_in c) gained)) (sym ready.2)
              ∙ (sym right ∙ ap (filled_from b (hook_in c)) (cell_is a c (Some r) view.Live bounds state))),
        )
    by_cases (Some r) bounds view.Closed state Stays ready = absurd (cc (state_of_cell _ _ (cell_is a c (Some r) view.Closed bounds state), state))
    by_cases (Some r) bounds view.Closed state Closes ready = absurd (cc (state, ready.0))
    by_cases (Some r) bounds view.Closed state (Opens d) ready = opened r d ready bounds (may_become a c may r view.Closed bounds state)
    by_cases (Some r) bounds view.Closed state (Changes k) ready = absurd (cc (state, ready.0))
