-- What the cell of a slot says is what is seen of the slot on each desk for which the parts stand.
use Rattle.std.proofs.Common.{◌≡◌, ℕ, ◌<◌, false, List, get_or, ℤ, Option, Some, None, option_map, ◌∙◌, refl}
use Rattle.std.proofs.Common.{sym, ap, subst, arith}
use Rattle.std.proofs.lemmas.List.FromFn.{get_or-map-range_with_len}
use Rattle.lw_region.specs.Rectangle.{Rectangle}
use Rattle.lw_region.specs.Bands.{bands, covers}
use Rattle.lw_region.specs.Banded.{IsCanonical}
use Rattle.lw_calls.specs.Assets.{Assets}
use Rattle.lw_calls.specs.declared.sizes.Sizes.{Sizes}
use Rattle.lw_calls.specs.declared.last.Seen.{Seen}
use Rattle.lw_damage.specs.Damaged.{Damaged}
use Rattle.lw_machine.specs.Desk.{Desk}
use Rattle.lw_machine.specs.Layer.{layer_is}
use Rattle.lw_machine.specs.Parts.{slot_part}
use Rattle.lw_machine.specs.Finals.{damage_set, port_of, seen_of}
use Rattle.lw_layer.specs.View.{State, LiveView, CellView}
use Rattle.lw_layer.specs.View as view
use Rattle.lw_layer.specs.StandsFor.{IsPartOf, StandsFor as StandsForPart}
use Rattle.lw_layer.specs.Pieces.{IsDamageOf}
use Rattle.lw_changes.specs.Touched.{may_repaint_frame}
use Rattle.lw_layer.proofs.SoundLaws.{live_part}
use Rattle.lw_stack.specs.Stack.{Stack, is_top_in}
use Rattle.lw_stack.proofs.ListLaws.{shown_is_top}
use Rattle.lw_final_state.specs.Shown.{top_set, seen_as, seen_in}
use Rattle.lw_final_state.proofs.SeenLaws.{visible_top, damage_listed}
use Rattle.lw_engine.specs.Desks.{cell_at}
use Rattle.lw_engine.specs.Layers.{InfoView, AreLayers}
use Rattle.lw_engine.proofs.LayerLaws.{numbered_cells, layers_of_desk}
use Rattle.lw_engine.proofs.FinishedLast.{slots_stand}
use Rattle.lw_program_desk.specs.Views.{PartsView, PartsAre, IsLayerIn}
use Rattle.lw_program_desk.specs.Read.{seen_at, visible_in, damage_in, port_in, messages_in}

-- What is seen of a slot is told by its cell.
seen_told : (sizes : Sizes) (assets : Assets) (p : PartsView) (d : Desk) (slot : ℕ)
    → PartsAre sizes assets p d → slot < sizes.slots → seen_at d slot ≡ seen_in p.info.stack (cell_at p.cells slot)
seen_told sizes assets p d slot are low =
    let v = p.info.stack in
    let numbered = numbered_cells sizes assets p.info p.cells d are.layers in
    let desk = layers_of_desk sizes assets p.info p.cells d are.layers in
    let cells : ℕ → Option Seen = λ s. seen_in v (cell_at p.cells s) in
    let slots : ℕ → Option Seen = λ s. seen_of d s (d.slot s) in
    let here : slot < v.sizes.slots = subst (λ (z : Sizes). slot < z.slots) (sym are.layers.info.sizes) low in
    let there : slot < d.sizes.slots = subst (λ (z : Sizes). slot < z.slots) (sym desk.sizes) here in
    sym (get_or-map-range_with_len slots 0 d.sizes.slots slot slot None there (omega arith))
    ∙ (ap (λ all. get_or all slot None) (sym (slots_stand v p.cells d numbered desk))
    ∙ get_or-map-range_with_len cells 0 v.sizes.slots slot slot None here (omega arith))

-- of a cell without a layer nothing is seen
unseen : (v : Stack) (c : CellView) → (c.state ≡ view.Live → ⊥) → seen_in v c ≡ None
unseen v c idle = by_state c.state idle
  where
    by_state : (s : State) → (s ≡ view.Live → ⊥) → seen_as s (bands (top_set v c.number)) c.live ≡ None
    by_state view.Unopened idle = refl
    by_state view.Live idle = absurd (idle refl)
    by_state view.Closed idle = refl

-- and of a live one what its layer says, whose hook lies beside the cell
seen_layer : (v : Stack) (c : CellView) (l : LiveView) → IsLayerIn c l
    → seen_in v c ≡ Some (record {
      visible = bands (top_set v c.number);
      damage = bands (damage_set l.layer);
      messages = port_of l.layer.window;
    })
unfolding damage_set
seen_layer v c l is =
    ap (λ (s : State). seen_as s (bands (top_set v c.number)) c.live) is.live
    ∙ ap (λ (k : LiveView). seen_as view.Live (bands (top_set v c.number)) k) is.layer

-- The parts stand for a desk, which has this slot, and these are their cells.
module _ (sizes : Sizes) (assets : Assets) (p : PartsView) (d : Desk) (slot : ℕ) (cells : List CellView)
    (are : PartsAre sizes assets p d) (low : slot < sizes.slots) (same : cells ≡ p.cells) where
  told : seen_at d slot ≡ seen_in p.info.stack (cell_at cells slot)
  told =
      seen_told sizes assets p d slot are low
      ∙ ap (λ (all : List CellView). seen_in p.info.stack (cell_at all slot)) (sym same)

  pub none_seen : ((cell_at cells slot).state ≡ view.Live → ⊥) → seen_at d slot ≡ None
  none_seen idle = told ∙ unseen p.info.stack (cell_at cells slot) idle

  layer_seen : (l : LiveView) → IsLayerIn (cell_at cells slot) l
      → seen_at d slot ≡ Some (record {
        visible = bands (top_set p.info.stack (cell_at cells slot).number);
        damage = bands (damage_set l.layer);
        messages = port_of l.layer.window;
      })
  layer_seen l is = told ∙ seen_layer p.info.stack (cell_at cells slot) l is

  -- the slot's layer is shown where it is on top by the list
  top_places : (l : LiveView) → IsLayerIn (cell_at cells slot) l
      → (x y : ℤ) → covers l.visible x y ≡ is_top_in p.info.stack (cell_at cells slot).number x y
  top_places l is x y =
      let v = p.info.stack in
      let numbered = numbered_cells sizes assets p.info p.cells d are.layers in
      let desk = layers_of_desk sizes assets p.info p.cells d are.layers in
      let here : slot < v.sizes.slots = subst (λ (z : Sizes). slot < z.slots) (sym are.layers.info.sizes) low in
      let cell = ap (λ (all : List CellView). cell_at all slot) same in
      let live = ap (λ (c : CellView). c.state) (sym cell) ∙ is.live in
      let part = live_part (cell_at p.cells slot) (slot_part d slot) live (desk.slots slot here) in
      let number = ap (λ (c : CellView). c.number) cell ∙ numbered.numbers slot here in
      ap (λ (k : LiveView). covers k.visible x y) (sym is.layer)
      ∙ (ap (λ (c : CellView). covers c.live.visible x y) cell
      ∙ (sym (part.shown x y) ∙ (shown_is_top v d desk.sizes desk.info slot x y ∙ ap (λ n. is_top_in v n x y) (sym number))))

  pub visible_told : (l : LiveView) → IsLayerIn (cell_at cells slot) l → IsCanonical l.visible
      → visible_in d slot ≡ Some l.visible
  visible_told l is canonical =
      ap (λ (o : Option Seen). option_map (λ (it : Seen). it.visible) o) (layer_seen l is)
      ∙ ap (λ (rects : List Rectangle). Some rects)
      (sym (visible_top p.info.stack (cell_at cells slot).number l.visible canonical (top_places l is)))

  pub damage_told : (l : LiveView) (damage : Damaged) → IsLayerIn (cell_at cells slot) l → IsDamageOf l damage
      → IsCanonical damage.rects → damage_in d slot ≡ Some damage.rects
  damage_told l damage is of canonical =
      ap (λ (o : Option Seen). option_map (λ (it : Seen). it.damage) o) (layer_seen l is)
      ∙ ap (λ (rects : List Rectangle). Some rects) (sym (damage_listed l damage of canonical))

  pub messages_told : (l : LiveView) → IsLayerIn (cell_at cells slot) l → messages_in d slot ≡ port_of l.layer.window
  messages_told l is = ap port_in (layer_seen l is)

  -- whether its frame is painted whole
  cell_part : StandsForPart (cell_at p.cells slot) (slot_part d slot)
  cell_part =
      let desk = layers_of_desk sizes assets p.info p.cells d are.layers in
      desk.slots slot (subst (λ (z : Sizes). slot < z.slots) (sym are.layers.info.sizes) low)

  pub none_repainted : ((cell_at cells slot).state ≡ view.Live → ⊥) → layer_is may_repaint_frame (d.slot slot) ≡ false
  none_repainted idle =
      by_state (cell_at p.cells slot).state (cell_at p.cells slot).live
      (subst (λ (all : List CellView). (cell_at all slot).state ≡ view.Live → ⊥) same idle) cell_part
    where
      by_state : (s : State) (l : LiveView) → (s ≡ view.Live → ⊥) → IsPartOf s l (slot_part d slot)
          → layer_is may_repaint_frame (d.slot slot) ≡ false
      by_state view.Unopened l idle part = ap (layer_is may_repaint_frame) part.0
      by_state view.Live l idle part = absurd (idle refl)
      by_state view.Closed l idle part = ap (layer_is may_repaint_frame) part.0

  pub layer_repainted : (l : LiveView) → IsLayerIn (cell_at cells slot) l
      → may_repaint_frame l.layer ≡ layer_is may_repaint_frame (d.slot slot)
  layer_repainted l is =
      let cell = ap (λ (all : List CellView). cell_at all slot) same in
      let live = ap (λ (c : CellView). c.state) (sym cell) ∙ is.live in
      let part = live_part (cell_at p.cells slot) (slot_part d slot) live cell_part in
      sym (ap (layer_is may_repaint_frame) part.slot
      ∙ (ap (λ (c : CellView). may_repaint_frame c.live.layer) (sym cell) ∙ ap (λ (k : LiveView). may_repaint_frame k.layer) is.layer))

-- LayerInfo and the cells as they are lent
pub lent_layers : (sizes : Sizes) (assets : Assets) (p : PartsView) (d : Desk) (info : InfoView) (cells : List CellView)
    → PartsAre sizes assets p d → info ≡ p.info → cells ≡ p.cells → AreLayers sizes assets info cells d
lent_layers sizes assets p d info cells are told same =
    let P : List CellView → Type 0 = λ all. AreLayers sizes assets p.info all d in
    subst (λ (i : InfoView). AreLayers sizes assets i cells d) (sym told) (subst P (sym same) are.layers)
