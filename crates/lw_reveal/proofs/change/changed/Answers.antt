use Rattle.std.proofs.Common.{◌≡◌, ℕ, List, length, true, Option, ◌∙◌, sym, ap, subst, arith, rules}
use Rattle.std.specs.List.{All}
use Rattle.std.specs.Vec.{with_items}
use Rattle.std.proofs.lemmas.List.{with_items_is, places}
use Rattle.lw_strips.specs.Strips.{StripView, rects_of}
use Rattle.lw_layer.specs.declared.draft.LiveDraft.{LiveDraft}
use Rattle.lw_reveal.specs.declared.change.Change.{Change}
use Rattle.lw_reveal.specs.Changes.{held_in}
use Rattle.lw_reveal.specs.Handing.{handed_over, own_whole, HavePlaces}
use Rattle.lw_reveal.proofs.CarriedLaws.{AreParts}
use Rattle.lw_reveal.proofs.AppliedLaws.{IsMade}
use Rattle.lw_reveal.proofs.ChangedLaws.{former_planes, new_ones, handed_many, handed_places, made_from, applied_sound, applied_view, parts_told}
use Rattle.lw_reveal.proofs.change.changed.Goals as goal

pub hand_all-requires-clause-many : goal.hand_all-requires-clause-many
hand_all-requires-clause-many c =
    let is : c.write_whole.new.live ≡ record c.args.live { superbits = own_whole c.args.live.kind c.args.live } = c.write_whole.ensures in
    let shown = ap (λ (q : LiveDraft). length q.strips.items) is in
    let covered = ap (λ (q : LiveDraft). length q.covered.items) is in
    let all = handed_many c.args.live c.args.change c.requires.sound c.requires.change in
    omega (arith, ap length c.deref.ensures.value)

pub hand_all-requires-clause-solid : goal.hand_all-requires-clause-solid
hand_all-requires-clause-solid c =
    let is : c.write_whole.new.live ≡ record c.args.live { superbits = own_whole c.args.live.kind c.args.live } = c.write_whole.ensures in
    let P : LiveDraft → Type 0 = λ q. All (λ (s : StripView). s.solid ≡ true) q.strips.items in
    subst P (sym is) c.requires.sound.buffers.solid

pub hand_all-requires-clause-places : goal.hand_all-requires-clause-places
hand_all-requires-clause-places c =
    let d : LiveDraft = c.args.live in
    let k : Change = c.args.change in
    let is : c.write_whole.new.live ≡ record d { superbits = own_whole d.kind d } = c.write_whole.ensures in
    let was : AreParts d.bounds d.parts.visible = parts_told d.parts d.bounds c.hidden.result.now c.requires.sound.place.bounds c.hidden.ensures.value c.min_x.ensures.ordered c.visible.ensures.canonical c.hidden.ensures.divided in
    let H : List (Option ℕ) → Type 0 = λ q. HavePlaces q (former_planes c.write_whole.new.live) (rects_of c.deref_mut.result.now) (length c.deref_mut-2.result.now) in
    let D : LiveDraft → Type 0 = λ q. HavePlaces k.handed.items (former_planes q) (rects_of c.deref_mut.result.now) (length c.deref_mut-2.result.now) in
    let S : List StripView → Type 0 = λ q. HavePlaces k.handed.items (former_planes d) (rects_of q) (length c.deref_mut-2.result.now) in
    subst H (sym c.deref.ensures.value) (subst D (sym is) (subst S (sym c.deref_mut.ensures.value) (rw c.deref_mut-2.ensures.value (handed_places d k c.requires.sound c.requires.change was))))

-- the change once the bitmaps were handed over
abbrev after : goal.After-drop-change → Change
after c = record c.args.change { strips = with_items c.args.change.strips c.hand_all.new.strips; covered = with_items c.args.change.covered c.hand_all.new.covered }

made : (c : goal.After-drop-change) → IsMade c.args.live (after c)
made c =
    let d : LiveDraft = c.args.live in
    let k : Change = c.args.change in
    let first : (after c).strips.items ≡ c.hand_all.new.strips = with_items_is k.strips c.hand_all.new.strips (search (rules, places)) in
    let second : (after c).covered.items ≡ c.hand_all.new.covered = with_items_is k.covered c.hand_all.new.covered (search (rules, places)) in
    let is : c.write_whole.new.live ≡ record d { superbits = own_whole d.kind d } = c.write_whole.ensures in
    let was : AreParts d.bounds d.parts.visible = parts_told d.parts d.bounds c.hidden.result.now c.requires.sound.place.bounds c.hidden.ensures.value c.min_x.ensures.ordered c.visible.ensures.canonical c.hidden.ensures.divided in
    let now : AreParts k.bounds k.parts.visible = parts_told k.parts k.bounds c.hidden-2.result.now c.requires.change.cut c.hidden-2.ensures.value c.min_x-2.ensures.ordered c.visible-2.ensures.canonical c.hidden-2.ensures.divided in
    let over : new_ones (after c) ≡ handed_over k.handed.items (former_planes d) (new_ones k) =
    ap (λ q. held_in q (after c).covered.items) first ∙ (ap (λ q. held_in c.hand_all.new.strips q) second ∙
    (c.hand_all.ensures.held ∙ (ap (λ q. handed_over q (former_planes c.write_whole.new.live) (held_in c.deref_mut.result.now c.deref_mut-2.result.now)) c.deref.ensures.value ∙
    (ap (λ (q : LiveDraft). handed_over k.handed.items (former_planes q) (held_in c.deref_mut.result.now c.deref_mut-2.result.now)) is ∙
    (ap (λ q. handed_over k.handed.items (former_planes d) (held_in q c.deref_mut-2.result.now)) c.deref_mut.ensures.value ∙
    ap (λ q. handed_over k.handed.items (former_planes d) (held_in k.strips.items q)) c.deref_mut-2.ensures.value)))))
    in
    made_from d k (after c) c.requires.sound c.requires.change was now
    (ap (λ q. rects_of q) first ∙ (c.hand_all.ensures.rects ∙ ap (λ q. rects_of q) c.deref_mut.ensures.value))
    (ap (λ q. length q) second ∙ (c.hand_all.ensures.long ∙ ap (λ q. length q) c.deref_mut-2.ensures.value)) over

pub returns-clause-sound : goal.returns-clause-sound
returns-clause-sound c = applied_sound c.args.live c.write_whole.new.live (after c) c.requires.sound (made c) c.write_whole.ensures

pub returns-clause-layer : goal.returns-clause-layer
returns-clause-layer c = applied_view c.args.live c.write_whole.new.live (after c) c.requires.sound (made c) c.write_whole.ensures
