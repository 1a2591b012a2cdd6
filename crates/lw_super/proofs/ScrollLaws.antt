-- Which former draft may be scrolled.
use Rattle.std.proofs.Common.{◌≡◌, true, if◌then◌else◌, Some, ◌∙◌, refl, ap, ℤ, pos, ◌+ℤ◌}
use Rattle.lw_calls.specs.Kinds.{is_super}
use Rattle.lw_machine.specs.Arrangement.{portion_fits}
use Rattle.lw_machine.specs.Step.{may_scroll}
use Rattle.lw_layer.specs.View.{State, LiveView, CellView}
use Rattle.lw_layer.specs.View as view
use Rattle.lw_layer.specs.Drafts.{IsDraft, IsState, layout, live_of, cell_view}
use Rattle.lw_layer.specs.Looks.{IsLook, IsLookAt}
use Rattle.lw_layer.specs.declared.look.Look.{Look}
use Rattle.lw_layer.specs.declared.draft.Draft.{Draft}
use Rattle.lw_layer.specs.declared.draft.DraftState.{DraftState}
use Rattle.lw_layer.specs.declared.draft.DraftState.TheVariants.{Unopened, Closed, Live}
use Rattle.lw_super.specs.Shown.{MayScroll}
use Rattle.lw_super.proofs.WritingLaws.{scroll_is}

-- a slot's look is that of its layer
look_told : (s : State) (c : LiveView) (k : Look) → IsLookAt s c (Some k) → IsLook c k
look_told view.Unopened c k told = absurd (cc told)
look_told view.Live c k told = told
look_told view.Closed c k told = absurd (cc told)

-- The look of a super-bitmap layer tells how it may be scrolled.
pub fits_told : (c : CellView) (k : Look) (dx dy : ℤ) → is_super c.live.layer.kind ≡ true → IsLookAt c.state c.live (Some k)
    → portion_fits (k.scroll_x +ℤ dx) (k.scroll_y +ℤ dy) k.bits_w k.bits_h k.bounds ≡ may_scroll (Some c.live.bounds) dx dy c.live.layer
fits_told c k dx dy own told =
    let look = look_told c.state c.live k told in
    let w : k.bits_w ≡ c.live.layer.bits.width = look.bits_w ∙ ap (λ b. if b then c.live.layer.bits.width else 0) own in
    let h : k.bits_h ≡ c.live.layer.bits.height = look.bits_h ∙ ap (λ b. if b then c.live.layer.bits.height else 0) own in
    rw (look.scroll_x, look.scroll_y, w, h, look.bounds) refl

-- The former draft of a super-bitmap layer may be scrolled where the layer may.
pub scroll_may : (f : Draft) (c : CellView) (dx dy : ℤ) → IsDraft f → cell_view f ≡ c → is_super c.live.layer.kind ≡ true
    → may_scroll (Some c.live.bounds) dx dy c.live.layer ≡ true → MayScroll f.state dx dy
scroll_may f c dx dy ok is own fits = go f.state ok (ap (λ (v : CellView). v.live) is)
  where
    go : (s : DraftState) → IsState s → live_of s ≡ c.live → MayScroll s dx dy
    go Unopened ok same = absurd (cc (ap (λ (v : LiveView). is_super v.layer.kind) same ∙ own))
    go Closed ok same = absurd (cc (ap (λ (v : LiveView). is_super v.layer.kind) same ∙ own))
    go (Live d) ok same =
        let super : is_super d.kind ≡ true = ap (λ (v : LiveView). is_super v.layer.kind) same ∙ own in
        let x : d.scroll_x ≡ pos c.live.layer.scroll_x = scroll_is d.scroll_x ok.place.scroll_x ∙ ap (λ (v : LiveView). pos v.layer.scroll_x) same in
        let y : d.scroll_y ≡ pos c.live.layer.scroll_y = scroll_is d.scroll_y ok.place.scroll_y ∙ ap (λ (v : LiveView). pos v.layer.scroll_y) same in
        let w : (layout d).width ≡ c.live.layer.bits.width = ap (λ (v : LiveView). v.layer.bits.width) same in
        let h : (layout d).height ≡ c.live.layer.bits.height = ap (λ (v : LiveView). v.layer.bits.height) same in
        let r : d.bounds ≡ c.live.bounds = ap (λ (v : LiveView). v.bounds) same in
        (ok, super, rw (x, y, w, h, r) fits)
