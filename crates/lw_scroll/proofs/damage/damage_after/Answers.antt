use Rattle.std.proofs.Common.{pos, ◌∙◌, sym, refl, arith, w32}
use Rattle.std.proofs.lemmas.Int.{ints, to_z-of_z}
use Rattle.std.proofs.lemmas.Bool.{and_parts}
use Rattle.lw_scroll.specs.Blocks.{has_place, IsBrought}
use Rattle.lw_scroll.specs.Marks.{IsMovedDamage, AreShifted}
use Rattle.lw_scroll.proofs.BlockLaws.{leads_inside, leads_to_area, shifted_blocks, place_word}
use Rattle.lw_scroll.proofs.MarkLaws.{marks_stay, whole_stays, damage_moved}
use Rattle.lw_scroll.proofs.damage.damage_after.Goals as goal

pub returns-then-is_whole : goal.returns-then-is_whole
returns-then-is_whole c =
    whole_stays c.args.layer.now c.args.rect.now c.args.dx c.args.dy (c.if-is_whole.ensures.whole refl)

pub returns-in_default : goal.returns-in_default
returns-in_default c =
    let v = c.args.layer.now in
    let block = c.block_of-block.result in
    let target = c.brought_block.result in
    let are : IsBrought block c.args.dx c.args.dy target =
    rw (to_z-of_z w32 c.args.dx c.ranges.dx, to_z-of_z w32 c.args.dy c.ranges.dy) at c.brought_block.ensures
    in
    marks_stay v c.damage-former.result.now c.args.rect.now c.args.dx c.args.dy
    (c.if-is_whole.ensures.other refl) c.damage-former.ensures c.if-is_whole.ensures.inside
    (λ x y left low.
    sym (leads_to_area v c.args.rect.now block target c.args.dx c.args.dy c.block_of-block.ensures.has are x y left low)
    ∙ c.in_default.ensures (pos x) (pos y))

pub brought_block-requires-2-clause-right : goal.brought_block-requires-2-clause-right
brought_block-requires-2-clause-right c = let low = c.requires.left in omega (arith, ints)

pub brought_block-requires-2-clause-down : goal.brought_block-requires-2-clause-down
brought_block-requires-2-clause-down c = let low = c.requires.up in omega (arith, ints)

pub returns-in_default-rect_of : goal.returns-in_default-rect_of
returns-in_default-rect_of c =
    let v = c.args.layer.now in
    let block = c.block_of-block.result in
    let target = c.brought_block.result in
    let source = c.brought_block-2.result in
    let are : IsBrought block c.args.dx c.args.dy target =
    rw (to_z-of_z w32 c.args.dx c.ranges.dx, to_z-of_z w32 c.args.dy c.ranges.dy) at c.brought_block.ensures
    in
    marks_stay v c.damage-former.result.now c.args.rect.now c.args.dx c.args.dy
    (c.if-is_whole.ensures.other refl) c.damage-former.ensures c.if-is_whole.ensures.inside
    (λ x y left low.
    sym (leads_to_area v c.args.rect.now block target c.args.dx c.args.dy c.block_of-block.ensures.has are x y left low)
    ∙ (shifted_blocks block target source c.args.dx c.args.dy _ _ (omega (arith, ints))
    (omega (arith, ints)) are c.brought_block-2.ensures (pos x) (pos y)
    ∙ c.in_default-rect_of.ensures _ _))

pub moved_damage-requires-clause-shifted : goal.moved_damage-requires-clause-shifted
moved_damage-requires-clause-shifted c =
    let block = c.block_of-block.result in
    let target = c.brought_block.result in
    let source = c.brought_block-2.result in
    let are : IsBrought block c.args.dx c.args.dy target =
    rw (to_z-of_z w32 c.args.dx c.ranges.dx, to_z-of_z w32 c.args.dy c.ranges.dy) at c.brought_block.ensures
    in
    let shifted : AreShifted c.in-Some.target c.in-Some-rect_of.source c.args.dx c.args.dy = record {
      pixels = λ x y.
          c.in-Some.ensures x y
          ∙ (shifted_blocks block target source c.args.dx c.args.dy _ _ (omega (arith, ints))
          (omega (arith, ints)) are c.brought_block-2.ensures x y
          ∙ sym (c.in-Some-rect_of.ensures _ _));
      words = λ x y has.
          let inside =
          and_parts _ _ (sym (leads_inside block target c.args.dx c.args.dy are x y) ∙ (sym (c.in-Some.ensures x y) ∙ has))
          in
          let sides = and_parts (has_place block.columns x) (has_place block.rows y) inside.0 in
          let wide = c.block_of-block.ensures.wide in
          let high = c.block_of-block.ensures.high in
          let right = c.block_of-block.ensures.lies.right in
          let bottom = c.block_of-block.ensures.lies.bottom in (
            place_word block.columns x (omega (arith, wide, right)) sides.0,
            place_word block.rows y
                (omega (arith, high, bottom)) sides.1,
          );
    } in
    rw (to_z-of_z w32 c.args.dx c.ranges.dx, to_z-of_z w32 c.args.dy c.ranges.dy) shifted

pub returns : goal.returns
returns c =
    let v = c.args.layer.now in
    let block = c.block_of-block.result in
    let target = c.brought_block.result in
    let are : IsBrought block c.args.dx c.args.dy target =
    rw (to_z-of_z w32 c.args.dx c.ranges.dx, to_z-of_z w32 c.args.dy c.ranges.dy) at c.brought_block.ensures
    in
    let moved : IsMovedDamage v c.in-Some.target c.args.dx c.args.dy c.in_ok-damage.damage =
    rw (to_z-of_z w32 c.args.dx c.ranges.dx, to_z-of_z w32 c.args.dy c.ranges.dy) at c.in_ok-damage.ensures
    in
    damage_moved v c.damage-former.result.now c.in_ok-damage.damage c.args.rect.now c.in-Some.target c.args.dx c.args.dy
    (c.if-is_whole.ensures.other refl) c.damage-former.ensures
    (λ x y left low. c.in-Some.ensures (pos x) (pos y)
    ∙ leads_to_area v c.args.rect.now block target c.args.dx c.args.dy c.block_of-block.ensures.has are x y left low)
    moved
