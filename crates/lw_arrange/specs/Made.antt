-- What was prepared for a cell.
use Rattle.std.specs.Prelude.{◌≡◌}
use Rattle.lw_layer.specs.View.{CellView, with_live}
use Rattle.lw_layer.specs.View as view
use Rattle.lw_layer.specs.Drafts.{IsLiveDraft, live_view, no_layer}
use Rattle.lw_reveal.specs.Changed.{carried_to}
use Rattle.lw_reveal.specs.Changes.{IsChange}
use Rattle.lw_arrange.specs.declared.preparing.Becomes.{Becomes}
use Rattle.lw_arrange.specs.declared.preparing.Becomes.TheVariants.{Stays, Closes, Opens, Changes}

-- The one cell becomes the other by what was prepared.
abbrev pub IsPrepared : CellView → CellView → Becomes → Type 0
IsPrepared from to Stays = to ≡ from
IsPrepared from to Closes =
    (from.state ≡ view.Live) × (to ≡ record { number = from.number; state = view.Closed; live = no_layer })
IsPrepared from to (Opens d) =
    (from.state ≡ view.Live → ⊥) × IsLiveDraft d.value
    × (to ≡ record { number = from.number; state = view.Live; live = live_view d.value })
IsPrepared from to (Changes k) =
    (from.state ≡ view.Live) × IsChange from.live k.value
    × (to ≡ with_live (λ c. carried_to k.value.bounds k.value.parts.visible c) from)
