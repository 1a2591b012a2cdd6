use Rattle.std.proofs.Common.{◌*◌, [], ◌∷◌, length, ℤ, pos, subst, w32}
use Rattle.std.proofs.lemmas.Int.{to_z-of_z}
use Rattle.lw_layer.specs.Copied.{HasPlaces, area_of}
use Rattle.lw_layer.proofs.CopyingBuffers.{own_places}
use Rattle.lw_layer.proofs.draft.LiveDraft.copy_own.Goals as goal

pub returns : goal.returns
returns c =
    let own = c.in-Some.own in
    let P : ℤ → Type 0 = λ z. HasPlaces (area_of own ∷ []) (own ∷ []) c.args.plane z (pos c.args.y) (8 * length c.args.bits.now) c.copy_whole.new.bits c.copy_whole.new.kept in
    own_places c.args.self.now own c.args.plane c.args.x c.args.y (8 * length c.args.bits.now) c.copy_whole.new.bits c.copy_whole.new.kept c.requires.own c.in-Some.is c.requires.sound
    (subst P (to_z-of_z w32 c.args.x c.ranges.x) c.copy_whole.ensures)
