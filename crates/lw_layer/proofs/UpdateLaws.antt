-- A draft stays one where an update begins or ends, and which slot it then stands for.
use Rattle.std.proofs.Common.{◌≡◌, Bool, true, false, Option, ◌∙◌, sym, ap, subst}
use Rattle.lw_region.specs.Bands.{covers}
use Rattle.lw_machine.specs.Step.{end_update}
use Rattle.lw_damage.specs.Damaged.{Damaged, ended}
use Rattle.lw_machine.specs.Layer.{changed_window}
use Rattle.lw_layer.specs.View.{with_layer}
use Rattle.lw_layer.specs.Drafts.{IsLiveDraft, window_of, room_of, live_view}
use Rattle.lw_layer.specs.declared.windows.WindowDraft.{WindowDraft}
use Rattle.lw_layer.specs.declared.draft.LiveDraft.{LiveDraft}
use Rattle.lw_layer.proofs.SetLaws.{damage_replaced}

-- the beginning of an update
pub update_begun : (d : LiveDraft) (damage : Damaged) → damage ≡ record d.damage { updating = true } → IsLiveDraft d → IsLiveDraft (record d { damage = damage })
update_begun d damage is ok =
    let P : Damaged → Type 0 = λ m. IsLiveDraft (record d { damage = m }) in
    subst P (sym is) (damage_replaced d (record d.damage { updating = true }) ok.damage.inner ok.damage.kept ok)

-- the end of an update
end_kept : (d : LiveDraft) (full : Bool) → IsLiveDraft d → IsLiveDraft (record d { damage = ended d.damage full })
unfolding covers
end_kept d true ok = damage_replaced d (ended d.damage true) ok.damage.inner (λ x y covered. absurd (cc covered)) ok
end_kept d false ok = damage_replaced d (ended d.damage false) ok.damage.inner ok.damage.kept ok

pub update_ended : (d : LiveDraft) (damage : Damaged) (full : Bool) → damage ≡ ended d.damage full → IsLiveDraft d → IsLiveDraft (record d { damage = damage })
update_ended d damage full is ok =
    let P : Damaged → Type 0 = λ m. IsLiveDraft (record d { damage = m }) in
    subst P (sym is) (end_kept d full ok)

-- the layer after the full end of an update
pub full_end_viewed : (d : LiveDraft) (damage : Damaged) (w : Option WindowDraft) (full : Bool) → full ≡ true → damage ≡ ended d.damage full
    → window_of w ≡ changed_window (λ v. record v { asked = false }) (window_of d.window) → room_of w ≡ room_of d.window
    → live_view (record d { damage = damage; window = w }) ≡ with_layer (λ l. end_update full l) (live_view d)
unfolding covers
full_end_viewed d damage w false on is window room = absurd (cc on)
full_end_viewed d damage w true on is window room =
    ap (λ m. live_view (record d { damage = m; window = w })) is
    ∙ (ap (λ v. record (live_view (record d { damage = ended d.damage true; window = w })) { layer = record (live_view (record d { damage = ended d.damage true; window = w })).layer { window = v } }) window
    ∙ ap (λ n. record (with_layer (λ l. end_update true l) (live_view d)) { room = n }) room)
