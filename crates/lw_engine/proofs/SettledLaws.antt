-- What becomes of a slot step by step, revealed, framed and told, is what the machine settles.
use Rattle.std.proofs.Common.{◌≡◌, ℕ, ◌-◌, Bool, true, false, not, ◌&&◌, ◌||◌, List, [], ◌∷◌, ◌++◌, append-nil, Option, Some, None, ◌∙◌, sym, refl, ap, subst, ⊎_elim, arith}
use Rattle.std.specs.Prelude.{if◌then◌else◌}
use Rattle.std.proofs.lemmas.Bool.{cases_Bool}
use Rattle.std.proofs.Math.Bool.{or-false}
use Rattle.lw_region.specs.Rectangle.{Rectangle}
use Rattle.lw_region.specs.Bands.{covers}
use Rattle.lw_planes.specs.Grid.{grid, at}
use Rattle.lw_planes.proofs.GridLaws.{grid_at}
use Rattle.lw_calls.specs.declared.make.Make.{Make}
use Rattle.lw_calls.specs.declared.message.Message.TheVariants.{Refresh}
use Rattle.lw_calls.specs.Kinds.{is_super}
use Rattle.lw_machine.specs.Hook.{Hook}
use Rattle.lw_machine.specs.Layer.{Layer, Window, is_framed, changed_window, wants}
use Rattle.lw_machine.specs.Paint.{with_pens, pen_within}
use Rattle.lw_machine.specs.Desk.{is_the}
use Rattle.lw_machine.specs.Arrangement.{bounds_of, new_layer}
use Rattle.lw_machine.specs.Reveal.{Across, at_new_size, with_revealed, revealed, frame_is_due, in_frame, framing_pen, framed_by, with_frame, with_due_frame, is_damaged, messages_due, refresh_is_put, window_with_messages, with_messages, settled_layer}
use Rattle.lw_machine.specs.Reveal as reveal
use Rattle.lw_machine.proofs.RevealSound.{frameless_by}
use Rattle.lw_layer.specs.View.{LiveView, CellView, keeps, with_live}
use Rattle.lw_layer.specs.View as view
use Rattle.lw_layer.specs.Drafts.{no_layer}
use Rattle.lw_layer.specs.StandsFor.{IsSound}
use Rattle.lw_layer.specs.Windows.{due_count}
use Rattle.lw_layer.proofs.PixelTests.{none_within}
use Rattle.lw_frames.specs.Framing.{with_own_frame}
use Rattle.lw_frames.specs.Telling.{with_window_told}
use Rattle.lw_arrange.specs.Arrangements.{ArrangementView}
use Rattle.lw_arrange.specs.Prepared.{shown_at}
use Rattle.lw_arrange.specs.Settled.{across_arrangement, settled_across, settled_live, settled_new}
use Rattle.lw_arrange.proofs.GainsLaws.{stayed, live_revealed}
use Rattle.lw_arrange.proofs.OpenedLaws.{created, new_revealed}
use Rattle.lw_engine.specs.declared.window_after.WindowAfter.{WindowAfter}
use Rattle.lw_engine.specs.Slots.{hook_in, bare, filled_from, across_live, IsWindowAfter, with_activity, with_frame_if, followed}

-- what is revealed of a layer has its window
revealed_window : (q : Across) (l : Layer) → (revealed q l).window ≡ l.window
unfolding revealed
revealed_window q l = go (is_super l.kind)
  where
    go : (b : Bool) → (if b then l else with_revealed q l (at_new_size q l)).window ≡ l.window
    go true = refl
    go false = refl

frameless : (glyphs : List (List ℕ)) (kept : ℕ → ℕ → Bool) (active t : Bool) (l : Layer) → is_framed l.window ≡ false
    → (if t then with_frame glyphs kept active l else l) ≡ l
frameless glyphs kept active true l none = frameless_by glyphs kept active l.window l none
frameless glyphs kept active false l none = refl

-- the frame of a layer that has one is painted where it is due
due_frame : (glyphs : List (List ℕ)) (q : Across) (l : Layer) (t : Bool)
    → (is_framed l.window ≡ true → t ≡ frame_is_due q l (revealed q l))
    → (if t then with_frame glyphs (reveal.keeps q (revealed q l)) q.new_active (revealed q l) else revealed q l)
    ≡ with_due_frame glyphs q l (revealed q l)
due_frame glyphs q l t due =
    let r = revealed q l in
    ⊎_elim
    (λ (has : is_framed l.window ≡ true). ap (λ b. if b then with_frame glyphs (reveal.keeps q r) q.new_active r else r) (due has))
    (λ (none : is_framed l.window ≡ false).
    let bare : is_framed r.window ≡ false = ap is_framed (revealed_window q l) ∙ none in
    frameless glyphs (reveal.keeps q r) q.new_active t r bare
    ∙ sym (frameless glyphs (reveal.keeps q r) q.new_active (frame_is_due q l r) r bare))
    (cases_Bool (is_framed l.window))

-- a slot with these bounds after the arrangement, and this layer
abbrev placed : ArrangementView → ℕ → Bool → Rectangle → ℕ → Layer → CellView
placed a n active r room l = record {
  number = n;
  state = view.Live;
  live = record { bounds = r; visible = shown_at a n; active = active; room = room; layer = l };
}

-- its frame
framed_placed : (glyphs : List (List ℕ)) (a : ArrangementView) (n : ℕ) (before : Option Rectangle) (c : LiveView) (r : Rectangle) (room : ℕ) (l : Layer) (t : Bool)
    → with_live (with_frame_if t glyphs (is_the a.stack.active n)) (placed a n (is_the a.stack.active n) r room l)
    ≡ placed a n (is_the a.stack.active n) r room
    (if t then with_frame glyphs (reveal.keeps (across_arrangement a n before c r) l) (is_the a.stack.active n) l else l)
unfolding keeps
framed_placed glyphs a n before c r room l true = refl
framed_placed glyphs a n before c r room l false = refl

-- A live slot that was revealed, then followed, is what the machine settles.
pub live_settled : (glyphs : List (List ℕ)) (a : ArrangementView) (c : CellView) (r : Rectangle) (w : WindowAfter) (f : CellView)
    → f ≡ placed a c.number c.live.active r c.live.room (revealed (across_live a c r) c.live.layer)
    → IsWindowAfter a c r w
    → record { number = c.number; state = view.Live; live = settled_live glyphs a c.number c.live r } ≡ with_live (followed glyphs w (across_live a c r)) f
unfolding settled_layer
live_settled glyphs a c r w f revealed_is after =
    let n = c.number in
    let q = across_live a c r in
    let l = c.live.layer in
    let active = is_the a.stack.active n in
    let Followed : Bool → CellView → CellView = λ t u. with_live (λ k. with_window_told q (with_frame_if w.frame glyphs t (with_activity t k))) u in
    let Told : Layer → CellView = λ k. with_live (with_window_told q) (placed a n active r c.live.room k) in
    sym
    (ap (Followed w.active) revealed_is
    ∙ (ap (λ t. Followed t (placed a n c.live.active r c.live.room (revealed q l))) after.active
    ∙ (ap (with_live (with_window_told q)) (framed_placed glyphs a n (Some c.live.bounds) c.live r c.live.room (revealed q l) w.frame)
    ∙ ap Told (due_frame glyphs q l w.frame after.frame))))

-- a layer without damage
undamaged : (l : Layer) → l.damage ≡ grid l.bits.width l.bits.height (λ x y. false) → is_damaged l ≡ false
unfolding is_damaged
undamaged l none =
    none_within l.bits.width l.bits.height _
    (λ x y left low.
    ap (λ rows. at false rows x y) none
    ∙ grid_at l.bits.width l.bits.height (λ i j. false) false x y left low)

framed_undamaged : (glyphs : List (List ℕ)) (kept : ℕ → ℕ → Bool) (active : Bool) (o : Option Window) (l : Layer)
    → l.damage ≡ grid l.bits.width l.bits.height (λ x y. false) → is_damaged (framed_by glyphs kept active o l) ≡ false
unfolding with_pens
framed_undamaged glyphs kept active None l none = undamaged l none
framed_undamaged glyphs kept active (Some w) l none = either w.framed
  where
    Painted : Layer
    Painted = with_pens (λ x y. kept x y && in_frame l.bits.width l.bits.height x y) (λ x y. pen_within l.bits.depth (framing_pen glyphs w.title active l.bits.width x y)) l

    either : (t : Bool) → is_damaged (if t then Painted else l) ≡ false
    either true = undamaged Painted none
    either false = undamaged l none

-- a new layer, across the arrangement that creates it, after which it isn't the active window
abbrev created_across : ArrangementView → ℕ → Rectangle → Bool → Across
created_across a n r active = record (across_arrangement a n None no_layer r) { new_active = active }

-- Its window is due no message, where it isn't damaged.
untold : (a : ArrangementView) (n : ℕ) (r : Rectangle) (l : Layer) (o : Option Window) → is_damaged l ≡ false
    → changed_window (window_with_messages (created_across a n r false) l) o ≡ o
untold a n r l None none = refl
untold a n r l (Some w) none =
    let q = created_across a n r false in
    let put : refresh_is_put l w ≡ false = ap (λ t. (t && not w.asked) && (wants w Refresh && not w.nocare)) none in
    let none_due : messages_due q l w ≡ [] = ap (λ t. if t then Refresh ∷ [] else []) put in
    ap (λ ms. Some (record w { port = w.port ++ ms; asked = w.asked || refresh_is_put l w })) none_due
    ∙ (ap (λ p. Some (record w { port = p; asked = w.asked || refresh_is_put l w })) (append-nil w.port)
    ∙ (ap (λ t. Some (record w { asked = w.asked || t })) put ∙ ap (λ t. Some (record w { asked = t })) (or-false w.asked)))

-- A new slot that was revealed, then framed, is what the machine settles.
pub new_settled : (glyphs : List (List ℕ)) (a : ArrangementView) (n : ℕ) (r : Rectangle) (new : Layer) (f : CellView)
    → is_the a.stack.active n ≡ false → f ≡ placed a n false r 0 (revealed (created_across a n r false) new)
    → (revealed (created_across a n r false) new).damage
    ≡ grid (revealed (created_across a n r false) new).bits.width (revealed (created_across a n r false) new).bits.height (λ x y. false)
    → record { number = n; state = view.Live; live = settled_new glyphs a n r new } ≡ with_live (with_own_frame glyphs false) f
unfolding settled_layer keeps
new_settled glyphs a n r new f idle revealed_is undamaged_is =
    let q = created_across a n r false in
    let l = revealed q new in
    let framed = with_frame glyphs (reveal.keeps q l) false l in
    let Settled : Bool → CellView =
    λ t. record { number = n; state = view.Live; live = settled_across glyphs a n (created_across a n r t) r 0 new } in
    let none : is_damaged framed ≡ false = framed_undamaged glyphs (reveal.keeps q l) false l.window l undamaged_is in
    let left : 0 - due_count q framed framed.window ≡ 0 = omega arith in
    ap Settled idle
    ∙ (ap (λ room. placed a n false r room (with_messages q framed)) left
    ∙ (ap (λ o. placed a n false r 0 (record framed { window = o })) (untold a n r framed framed.window none)
    ∙ ap (with_live (with_own_frame glyphs false)) (sym revealed_is)))

-- What is filled of a layer that stays live is what the machine reveals of it.
pub live_filled : (a : ArrangementView) (c : CellView) (r : Rectangle) → c.state ≡ view.Live → IsSound (bare c).live
    → filled_from (bare c) (hook_in c) (stayed r (shown_at a c.number) (bare c))
    ≡ placed a c.number c.live.active r c.live.room (revealed (across_live a c r) c.live.layer)
live_filled a c r live sound =
    let b = bare c in
    let e = stayed r (shown_at a c.number) b in
    let Filled : Layer → CellView = λ l. record e { live = record e.live { layer = l } } in
    ap Filled
    (sym (live_revealed b r (shown_at a c.number) (hook_in c) c.live.active (is_the a.stack.active c.number) live sound))
    ∙ ap (λ s. record { number = c.number; state = s; live = record e.live { layer = revealed (across_live a c r) c.live.layer } }) live

-- And so it is with a new layer.
pub new_filled : (a : ArrangementView) (c : CellView) (r : Rectangle) (make : Make) (window : Option Window) (depth : ℕ) (h : Option Hook) → (c.state ≡ view.Live → ⊥)
    → r ≡ bounds_of make
    → filled_from (bare c) h (created (bare c) make depth r (shown_at a c.number) window)
    ≡ placed a c.number false r 0 (revealed (created_across a c.number r false) (new_layer depth make h window))
new_filled a c r make window depth h idle place =
    let b = bare c in
    let e = created b make depth r (shown_at a c.number) window in
    let Filled : Layer → CellView = λ l. record e { live = record e.live { layer = l } } in
    let Bounds : Rectangle → Layer = λ s. revealed (record (created_across a c.number r false) { new_bounds = Some s }) (new_layer depth make h window) in
    ap Filled
    (sym (new_revealed b make depth r (shown_at a c.number) window h (λ x y. covers no_layer.visible x y) false false idle place)
    ∙ ap Bounds (sym place))

-- its damage is that of the new layer
pub new_undamaged : (a : ArrangementView) (c : CellView) (r : Rectangle) (make : Make) (window : Option Window) (depth : ℕ) (h : Option Hook) → (c.state ≡ view.Live → ⊥)
    → r ≡ bounds_of make
    → (revealed (created_across a c.number r false) (new_layer depth make h window)).damage
    ≡ grid (revealed (created_across a c.number r false) (new_layer depth make h window)).bits.width
    (revealed (created_across a c.number r false) (new_layer depth make h window)).bits.height (λ x y. false)
unfolding with_pens
new_undamaged a c r make window depth h idle place =
    let P : CellView → Type 0 = λ v. v.live.layer.damage ≡ grid v.live.layer.bits.width v.live.layer.bits.height (λ x y. false) in
    subst P (new_filled a c r make window depth h idle place) refl
