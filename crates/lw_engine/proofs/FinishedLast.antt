-- What a run leaves of a desk that the list of layers and the cells stand for.
use Rattle.std.proofs.Common.{◌≡◌, ℕ, ◌+◌, ◌<◌, pos, List, [], ◌∷◌, ◌++◌, length, get_or, map, ◌∙◌, sym, ap, zero-add}
use Rattle.std.specs.List.{range_with_len}
use Rattle.std.proofs.lemmas.List.{get_or_default}
use Rattle.std.proofs.lemmas.List.FromFn.{fill_by_all, map-range_with_len_more}
use Rattle.lw_region.specs.Pixels.{Pixel}
use Rattle.lw_region.specs.Bands.{bands}
use Rattle.lw_planes.specs.Bitmap.{Bitmap}
use Rattle.lw_planes.proofs.GridLaws.{map_range_same}
use Rattle.lw_calls.specs.declared.reply.Reply.{Reply}
use Rattle.lw_calls.specs.declared.sizes.Sizes.{Sizes}
use Rattle.lw_machine.specs.Desk.{Desk}
use Rattle.lw_machine.specs.Screen.{is_shown, screen}
use Rattle.lw_machine.specs.Parts.{slot_part}
use Rattle.lw_machine.specs.Finals.{pixels_where, shown_set, seen_of}
use Rattle.lw_layer.specs.View.{State, LiveView, CellView}
use Rattle.lw_layer.specs.View as view
use Rattle.lw_layer.specs.StandsFor.{IsPartOf}
use Rattle.lw_stack.specs.Stack.{Stack, is_top_in}
use Rattle.lw_stack.proofs.ListLaws.{shown_is_top}
use Rattle.lw_final_state.specs.Shown.{top_set, seen_as, seen_in}
use Rattle.lw_engine.specs.Desks.{cell_at, AreNumbered, AreOfDesk}
use Rattle.lw_strips.specs.Laying.{assembled}
use Rattle.lw_engine.specs.Owners.{all_strips, IsAssembled}
use Rattle.lw_engine.proofs.OwnersLaws.{are_whole}

-- a slot's layer is shown where it is on top by the list
pub top_shown : (v : Stack) (cells : List CellView) (d : Desk) (s : ℕ) → AreOfDesk v cells d → top_set v s ≡ shown_set d s
unfolding top_set shown_set
top_shown v cells d s stands =
    let same : (λ x y. is_top_in v s (pos x) (pos y)) ≡ (λ x y. is_shown d s (pos x) (pos y)) = λ i. λ x y. (sym (shown_is_top v d stands.sizes stands.info s (pos x) (pos y))) i in
    ap (λ test. pixels_where v.sizes.width v.sizes.height test) same
    ∙ ap (λ (z : Sizes). pixels_where z.width z.height (λ x y. is_shown d s (pos x) (pos y))) (sym stands.sizes)

-- what is seen of a slot, by what its cell says of it
seen_by : (d : Desk) (n : ℕ) (s : State) (c : LiveView) (shown : List Pixel) → shown ≡ shown_set d n → IsPartOf s c (slot_part d n) → seen_as s (bands shown) c ≡ seen_of d n (d.slot n)
seen_by d n view.Unopened c shown same part = ap (seen_of d n) (sym part.0)
seen_by d n view.Closed c shown same part = ap (seen_of d n) (sym part.0)
seen_by d n view.Live c shown same part = ap (λ set. seen_as view.Live (bands set) c) same ∙ ap (seen_of d n) (sym part.slot)

-- what is seen of each slot of the desk
pub slots_stand : (v : Stack) (cells : List CellView) (d : Desk) → AreNumbered v.sizes.slots cells → AreOfDesk v cells d
    → map (λ s. seen_in v (cell_at cells s)) (range_with_len 0 v.sizes.slots) ≡ map (λ s. seen_of d s (d.slot s)) (range_with_len 0 d.sizes.slots)
slots_stand v cells d numbered stands =
    map_range_same v.sizes.slots (λ s. seen_in v (cell_at cells s)) (λ s. seen_of d s (d.slot s))
    (λ s low.
    let c = cell_at cells s in
    seen_by d s c.state c.live (top_set v c.number) (ap (top_set v) (numbered.numbers s low) ∙ top_shown v cells d s stands) (stands.slots s low))
    ∙ ap (λ (z : Sizes). map (λ s. seen_of d s (d.slot s)) (range_with_len 0 z.slots)) (sym stands.sizes)

-- the replies of each task
pub replies_stand : (v : Stack) (cells : List CellView) (d : Desk) (rs : ℕ → List Reply) (replies : List (List Reply)) → length replies ≡ v.sizes.tasks → ((t : ℕ) → t < v.sizes.tasks → get_or replies t [] ≡ rs t) → AreOfDesk v cells d → replies ≡ map rs (range_with_len 0 d.sizes.tasks)
replies_stand v cells d rs replies long each stands =
    fill_by_all rs replies v.sizes.tasks [] long each ∙ ap (λ (z : Sizes). map rs (range_with_len 0 z.tasks)) (sym stands.sizes)

-- what is assembled of the strips of all owners is what the screen shows
pub screen_stands : (v : Stack) (cells : List CellView) (d : Desk) (planes : Bitmap) → length cells ≡ v.sizes.slots → AreOfDesk v cells d
    → IsAssembled v cells planes → planes ≡ screen d
screen_stands v cells d planes many stands made =
    made.whole
    ∙ (ap (λ (z : Sizes). assembled z.width z.height z.depth (all_strips made.layers made.desktop)) (sym stands.sizes)
    ∙ sym (are_whole v cells d made.layers made.desktop many stands made.lent).planes)

-- one value more
pub more_mapped : {X : Type 0} (f : ℕ → X) (now new : List X) (n : ℕ) (v : X) → now ≡ map f (range_with_len 0 n) → v ≡ f n
    → new ≡ now ++ v ∷ [] → new ≡ map f (range_with_len 0 (n + 1))
more_mapped f now new n v before is push =
    push
    ∙ (ap (λ l. l ++ v ∷ []) before
    ∙ (ap (λ u. map f (range_with_len 0 n) ++ u ∷ []) is ∙ sym (map-range_with_len_more f 0 n n (zero-add n))))

-- a cell that was read out of its list
pub cell_read : (cells : List CellView) (n : ℕ) (c : CellView) → n < length cells → c ≡ get_or cells n c → c ≡ cell_at cells n
cell_read cells n c inside is = is ∙ get_or_default cells n c _ inside
