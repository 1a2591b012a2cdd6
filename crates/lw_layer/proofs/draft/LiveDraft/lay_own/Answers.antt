use Rattle.std.proofs.Common.{◌≡◌, ◌∙◌, ◌-ℤ◌, ℤ, sym, to_z, of_z, w16, w32, w64, rules, FitsSigned, arith}
use Rattle.std.proofs.lemmas.Int.{ints, to_z-of_z}
use Rattle.lw_buffers.specs.Lookup.{IsNear}
use Rattle.lw_layer.proofs.KeptLaid.{own_laid, own_deep, corner_is}
use Rattle.lw_layer.proofs.draft.LiveDraft.lay_own.Goals as goal

-- how far two places are apart
places_apart : (a b : ℤ) → IsNear a → IsNear b → to_z w64 (of_z w64 (to_z w64 (of_z w64 a) -ℤ to_z w64 (of_z w64 b))) ≡ a -ℤ b
places_apart a b near other = omega (arith, ints, near.0, near.1, other.0, other.1)

pub lay_bitmap-requires : goal.lay_bitmap-requires
lay_bitmap-requires c = own_deep c.args.self.now c.in-Some.own c.requires.own c.in-Some.is c.requires.sound ∙ sym c.requires.planes

pub returns : goal.returns
returns c =
    let d = c.args.self.now in
    let own = c.in-Some.own in
    let scroll_x : FitsSigned w32 d.scroll_x = search rules in
    let scroll_y : FitsSigned w32 d.scroll_y = search rules in
    let edge_x : to_z w16 (of_z w16 c.min_x.result) ≡ d.bounds.min_x = omega (arith, ints, c.min_x.ensures.value) in
    let edge_y : to_z w16 (of_z w16 c.min_y.result) ≡ d.bounds.min_y = omega (arith, ints, c.min_y.ensures.value) in
    let x : to_z w64 (of_z w64 (to_z w64 (of_z w64 c.start.result) -ℤ to_z w64 (of_z w64 c.args.left))) ≡ c.start.result -ℤ c.args.left =
    places_apart c.start.result c.args.left c.start.ensures.near c.requires.left in
    let y : to_z w64 (of_z w64 (to_z w64 (of_z w64 c.start-2.result) -ℤ to_z w64 (of_z w64 c.args.top))) ≡ c.start-2.result -ℤ c.args.top =
    places_apart c.start-2.result c.args.top c.start-2.ensures.near c.requires.top in
    own_laid d own c.args.left c.args.top _ _ c.args.to.now c.lay_bitmap.new.to c.requires.own c.in-Some.is c.requires.sound c.depth.ensures.planes.bitmap
    (x ∙ corner_is d.bounds.min_x c.start.result c.args.left d.scroll_x c.requires.sound.place.scroll_x (rw (edge_x, to_z-of_z w32 d.scroll_x scroll_x) at c.start.ensures.value))
    (y ∙ corner_is d.bounds.min_y c.start-2.result c.args.top d.scroll_y c.requires.sound.place.scroll_y (rw (edge_y, to_z-of_z w32 d.scroll_y scroll_y) at c.start-2.ensures.value))
    c.lay_bitmap.ensures
