-- What the calls on a window answer and leave, in every desk whose slot has the layer.
use Rattle.std.proofs.Common.{◌≡◌, ℕ, ◌+◌, ◌-◌, ◌/◌, ◌%◌, ◌<◌, ◌≤◌, ◌==◌, Bool, true, false, not, ◌&&◌, nat_le, nat_lt, if◌then◌else◌, List, [], ◌∷◌, length, take, min, Option, Some, None, ◌∙◌, sym, refl, ap, subst, arith}
use Rattle.std.specs.List.{slice_index_or}
use Rattle.std.proofs.Math.Path.{fun_ext}
use Rattle.std.proofs.lemmas.Bool.{false≢true, eq-eqb, ne_eqb}
use Rattle.std.proofs.lemmas.Bool.Decides.{nat_tests}
use Rattle.std.proofs.lemmas.List.{length-take, get_or-take}
use Rattle.lw_region.specs.Rectangle.{Rectangle}
use Rattle.lw_calls.specs.Assets.{Assets}
use Rattle.lw_calls.specs.declared.call.Call.{Call}
use Rattle.lw_calls.specs.declared.call.Call.TheVariants.{SetTitle, TakeMessage}
use Rattle.lw_calls.specs.declared.message.Message.{Message}
use Rattle.lw_calls.specs.declared.reply.Reply.{Reply}
use Rattle.lw_calls.specs.declared.reply.Reply.TheVariants.{Done, NotWindow, NotOwner}
use Rattle.lw_calls.specs.declared.touch.CallClass.TheVariants.{OnLayer}
use Rattle.lw_calls.specs.Touches.{class_of}
use Rattle.lw_machine.specs.Layer.{Layer, Slot, Window, is_window, is_framed, is_foreign, changed_window, change_window}
use Rattle.lw_machine.specs.Layer as layer
use Rattle.lw_machine.specs.Desk.{Desk, is_the}
use Rattle.lw_machine.specs.Kept.{is_kept}
use Rattle.lw_machine.specs.Paint.{with_pens, pen_within}
use Rattle.lw_machine.specs.Shapes.{glyph_has}
use Rattle.lw_machine.specs.Reveal.{in_frame, in_title, frame_pen, title_pen, framing_pen, framed_by}
use Rattle.lw_machine.specs.Step.{refuse, refuse_not_owner, refuse_not_window, further_refusal, set_window_titles, get_msg, from_layer, message_answer, window_answer}
use Rattle.lw_ports.specs.Ports.{oldest}
use Rattle.lw_layer.specs.View.{LiveView, shows, keeps, with_layer}
use Rattle.lw_layer.specs.Looks.{owner_of, IsLook}
use Rattle.lw_layer.specs.Windows.{oldest_of}
use Rattle.lw_layer.specs.declared.look.Look.{Look}
use Rattle.lw_frames.specs.Framing.{framed}
use Rattle.lw_layer_calls.specs.Open.{IsLiveStep, IsTaskStep, IsLentStep}
use Rattle.lw_layer_calls.specs.Windows.{is_other, got}
use Rattle.lw_layer_calls.proofs.OneLayerLaws.{further_step, open_refusal, changed_step, drawn_step}

-- whether a window is another task's, by its owner
other_told : (task : ℕ) (w : Option Window) → is_foreign task w ≡ is_other task (owner_of w)
other_told task None = refl
other_told task (Some w) = refl

pub foreign_told : (task : ℕ) (c : LiveView) (k : Look) (r foreign : Bool) → IsLook c k → r ≡ is_other task k.owner → r ≡ foreign → is_foreign task c.layer.window ≡ foreign
foreign_told task c k r foreign looks is told = other_told task c.layer.window ∙ (ap (is_other task) (sym looks.owner) ∙ (sym is ∙ told))

-- the refusal of a call on a window, by its owner
abbrev pub by_owner : ℕ → Option ℕ → Option Reply
by_owner task None = Some NotWindow
by_owner task (Some owner) = refuse (not (owner == task)) NotOwner None

window_told : (task : ℕ) (w : Option Window) → refuse (not (is_window w)) NotWindow (refuse (is_foreign task w) NotOwner None) ≡ by_owner task (owner_of w)
window_told task None = refl
window_told task (Some w) = refl

-- both calls on a window have this further refusal
abbrev pub of_window : ℕ → Slot → Option Reply
of_window task s = refuse_not_window s (refuse_not_owner task s None)

window_refusal : (task : ℕ) (s : Slot) (c : LiveView) (k : Look) → s ≡ layer.Live c.layer → IsLook c k → of_window task s ≡ by_owner task k.owner
window_refusal task s c k is looks = ap (of_window task) is ∙ (window_told task c.layer.window ∙ ap (by_owner task) (sym looks.owner))

pub window_refused : (task slot : ℕ) (c : LiveView) (k : Look) (call : Call) (r : Reply) → class_of call ≡ OnLayer slot → ((d : Desk) → further_refusal d task call ≡ of_window task (d.slot slot)) → IsLook c k → by_owner task k.owner ≡ Some r → IsTaskStep task slot c call r c
window_refused task slot c k call r class whose looks refused =
    further_step task slot c call r class (λ d live. whose d ∙ (window_refusal task (d.slot slot) c k live.slot looks ∙ refused))

pub is_own : (task owner : ℕ) (o : Option ℕ) → o ≡ Some owner → owner ≡ task → by_owner task o ≡ None
is_own task owner o is same = ap (by_owner task) is ∙ ap (λ t. refuse (not t) NotOwner None) (eq-eqb owner task same)

pub is_anothers : (task owner : ℕ) (o : Option ℕ) → o ≡ Some owner → (owner ≡ task → ⊥) → by_owner task o ≡ Some NotOwner
is_anothers task owner o is other = ap (by_owner task) is ∙ ap (λ t. refuse (not t) NotOwner None) (ne_eqb owner task other)

-- a layer with an owner is a window
pub owned_window : (c : LiveView) (k : Look) (owner : ℕ) → IsLook c k → k.owner ≡ Some owner → is_window c.layer.window ≡ true
owned_window c k owner looks is = go c.layer.window (sym looks.owner ∙ is)
  where
    go : (w : Option Window) → owner_of w ≡ Some owner → is_window w ≡ true
    go None h = absurd (cc h)
    go (Some w) h = refl

-- no pixel right of a title's end is one of the title's
never : (left row inside has inside_too has_too : Bool) → ((((left && false) && row) && inside) && has) ≡ ((((left && false) && row) && inside_too) && has_too)
never true row inside has inside_too has_too = refl
never false row inside has inside_too has_too = refl

-- a character that can be seen is one of the first
is_early : (x w : ℕ) → w ≤ 2048 → nat_lt (x + 4) w ≡ true → (x - 4) / 8 < 256
is_early x w wide is = grind (arith, nat_tests)

has_early : (i n m : ℕ) → i < 256 → m ≡ min 256 n → nat_lt i m ≡ nat_lt i n
has_early i n m early is = grind (arith, nat_tests)

pub few : (title shown : List ℕ) → shown ≡ take 256 title → length shown ≤ 256
few title shown is = rw is rw (length-take 256 title) (grind (arith))

-- what is seen of a title is seen of its beginning
title_cut : (glyphs : List (List ℕ)) (title : List ℕ) (w x y : ℕ) → w ≤ 2048 → in_title glyphs (take 256 title) w x y ≡ in_title glyphs title w x y
unfolding in_title
title_cut glyphs title w x y wide = go (nat_lt (x + 4) w) refl
  where
    tested : Bool → Bool → ℕ → Bool
    tested before inside code = (((nat_le 4 x && before) && (nat_le 2 y && nat_le y 9)) && inside) && glyph_has glyphs code ((x - 4) % 8) (y - 2)

    go : (before : Bool) → nat_lt (x + 4) w ≡ before → tested before (nat_lt ((x - 4) / 8) (length (take 256 title))) (slice_index_or (take 256 title) ((x - 4) / 8) 0) ≡ tested before (nat_lt ((x - 4) / 8) (length title)) (slice_index_or title ((x - 4) / 8) 0)
    go true is =
        let early : (x - 4) / 8 < 256 = is_early x w wide is in
        ap (λ b. tested true b (slice_index_or (take 256 title) ((x - 4) / 8) 0)) (has_early ((x - 4) / 8) (length title) (length (take 256 title)) early (length-take 256 title)) ∙
        ap (tested true (nat_lt ((x - 4) / 8) (length title))) (get_or-take 256 title ((x - 4) / 8) 0 early)
    go false is = never (nat_le 4 x) (nat_le 2 y && nat_le y 9) _ _ _ _

-- the layer with another title, and before that its frame painted, if it has one, with the title's beginning
abbrev retitled : List (List ℕ) → LiveView → List ℕ → Bool → List ℕ → Bool → LiveView
retitled glyphs c title has shown active =
    with_layer (λ l. change_window (λ w. record w { title = title }) l) (if has then framed glyphs shown active c else c)

-- and with its frame painted with that title
abbrev titled_where : List (List ℕ) → LiveView → List ℕ → Bool → LiveView
titled_where glyphs c title has =
    with_layer
    (λ l. if has
    then with_pens (λ x y. is_kept (λ i j. shows c i j) l x y && in_frame l.bits.width l.bits.height x y)
    (λ x y. pen_within l.bits.depth (framing_pen glyphs title c.active l.bits.width x y))
    (change_window (λ w. record w { title = title }) l)
    else change_window (λ w. record w { title = title }) l) c

painted_whole : (glyphs : List (List ℕ)) (c : LiveView) (title : List ℕ) (has : Bool) → c.layer.bits.width ≤ 2048 → retitled glyphs c title has (take 256 title) c.active ≡ titled_where glyphs c title has
unfolding with_pens keeps
painted_whole glyphs c title true wide =
    let l : Layer = c.layer in
    let pens : List ℕ → ℕ → ℕ → ℕ = λ t x y. pen_within l.bits.depth (framing_pen glyphs t c.active l.bits.width x y) in
    let made : (ℕ → ℕ → ℕ) → LiveView = λ pen. with_layer (λ k. with_pens (λ x y. is_kept (λ i j. shows c i j) l x y && in_frame l.bits.width l.bits.height x y) pen (change_window (λ w. record w { title = title }) k)) c in
    let same : (x y : ℕ) → pens (take 256 title) x y ≡ pens title x y = λ x y. ap (λ t. pen_within l.bits.depth (if t then title_pen c.active else frame_pen c.active)) (title_cut glyphs title l.bits.width x y wide) in
    ap made (fun_ext (λ x. fun_ext (λ y. same x y)))
painted_whole glyphs c title false wide = refl

-- SetWindowTitles, by whether there is a frame
named : (glyphs : List (List ℕ)) (c : LiveView) (title : List ℕ) (w : Option Window) → c.layer.window ≡ w → is_window w ≡ true → titled_where glyphs c title (is_framed w) ≡ with_layer (λ l. set_window_titles glyphs (λ x y. shows c x y) c.active title l) c
named glyphs c title None is there = absurd (false≢true there)
named glyphs c title (Some w) is there =
    let made : Option Window → LiveView = λ v. with_layer (λ l. framed_by glyphs (is_kept (λ x y. shows c x y) l) c.active (changed_window (λ u. record u { title = title }) v) (change_window (λ u. record u { title = title }) l)) c in
    ap made (sym is)

-- the window of a layer whose frame was painted
pub painted_window : (glyphs : List (List ℕ)) (c painted : LiveView) (shown : List ℕ) (has active : Bool) → painted ≡ (if has then framed glyphs shown active c else c) → is_window c.layer.window ≡ true → is_window painted.layer.window ≡ true
unfolding with_pens
painted_window glyphs c painted shown true active is there = ap (λ (v : LiveView). is_window v.layer.window) is ∙ there
painted_window glyphs c painted shown false active is there = ap (λ (v : LiveView). is_window v.layer.window) is ∙ there

-- a title that the layer took, once its frame was painted with the beginning
pub title_made : (glyphs : List (List ℕ)) (c painted new : LiveView) (k : Look) (title copy shown : List ℕ) → IsLook c k → is_window c.layer.window ≡ true → c.layer.bits.width ≤ 2048 → copy ≡ title → shown ≡ take 256 title → painted ≡ (if k.framed then framed glyphs shown k.active c else c) → new ≡ with_layer (λ l. change_window (λ w. record w { title = copy }) l) painted → new ≡ with_layer (λ l. set_window_titles glyphs (λ x y. shows c x y) c.active title l) c
title_made glyphs c painted new k title copy shown looks there wide copied begun paints leaves =
    let w : Option Window = c.layer.window in
    leaves ∙
    (ap (λ (v : LiveView). with_layer (λ l. change_window (λ u. record u { title = copy }) l) v) paints ∙
    (ap (λ t. retitled glyphs c t k.framed shown k.active) copied ∙
    (ap (λ b. retitled glyphs c title b shown k.active) looks.framed ∙
    (ap (λ t. retitled glyphs c title (is_framed w) t k.active) begun ∙
    (ap (retitled glyphs c title (is_framed w) (take 256 title)) looks.active ∙
    (painted_whole glyphs c title (is_framed w) wide ∙ named glyphs c title w refl there))))))

-- a window gets a title
pub title_step : (task : ℕ) (c new : LiveView) (k : Look) (assets : Assets) (title : List ℕ) → IsLook c k → by_owner task k.owner ≡ None → new ≡ with_layer (λ l. set_window_titles assets.glyphs (λ x y. shows c x y) c.active title l) c → (slot : ℕ) (regs : List (List Rectangle)) → IsLentStep task slot c regs assets (SetTitle slot title) Done new
title_step task c new k assets title looks passes leaves slot regs =
    λ d live registers handed.
    let made : List (List ℕ) → Bool → LiveView = λ glyphs active. with_layer (λ l. set_window_titles glyphs (λ x y. shows c x y) active title l) c in
    drawn_step d task slot (SetTitle slot title) Done c new (λ visible. set_window_titles d.assets.glyphs visible (is_the d.active slot) title) refl live
    (window_refusal task (d.slot slot) c k live.slot looks ∙ passes) refl refl
    (leaves ∙ (ap (made assets.glyphs) (sym live.active) ∙ ap (λ (a : Assets). made a.glyphs (is_the d.active slot)) (sym handed)))

-- what a message is answered with
answered : (w : Option Window) → is_window w ≡ true → got (oldest_of w) ≡ window_answer w
answered None there = absurd (false≢true there)
answered (Some w) there = go w.port
  where
    go : (port : List Message) → got (oldest port) ≡ message_answer port
    go [] = refl
    go (m ∷ ms) = refl

-- the oldest message of a window is taken; a step says nothing of the room in its port
pub message_step : (task slot : ℕ) (c new : LiveView) (k : Look) (room owner : ℕ) (r : Reply) → IsLook c k → k.owner ≡ Some owner → by_owner task k.owner ≡ None → r ≡ got (oldest_of c.layer.window) → new ≡ record c { room = room; layer = get_msg c.layer } → IsTaskStep task slot c (TakeMessage slot) r new
message_step task slot c new k room owner r looks owned passes says leaves =
    λ d live.
    let P : LiveView → Type 0 = IsLiveStep d task slot (TakeMessage slot) r in
    let step : P (with_layer get_msg c) =
    changed_step d task slot (TakeMessage slot) r c get_msg get_msg live
    (open_refusal d task slot (TakeMessage slot) c.layer refl live.slot ∙ (window_refusal task (d.slot slot) c k live.slot looks ∙ passes))
    (says ∙ (answered c.layer.window (owned_window c k owner looks owned) ∙ sym (ap (λ (s : Slot). from_layer (λ l. window_answer l.window) s) live.slot)))
    refl refl in
    subst P (sym leaves) (step.0, record { slot = step.1.slot; bounds = step.1.bounds; shown = step.1.shown; active = step.1.active })
