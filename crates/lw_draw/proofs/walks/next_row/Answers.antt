use Rattle.std.proofs.Common.{◌≡◌, ℤ, pos, int_le, to_z, of_z, w16, ◌∙◌, sym, ap, subst, arith, rules}
use Rattle.lw_draw.specs.Walks.{wide, rows_before, IsFlatRow, IsSteepRow, IsWalk}
use Rattle.lw_draw.proofs.RowSpanLaws.{steps_between}
use Rattle.lw_draw.proofs.WalkLaws.{side_small, total_near, gain_back, quotient_next}
use Rattle.lw_draw.proofs.walks.next_row.Goals as goal

-- the same test of two numbers that were handed on
handed : (a b c d : ℤ) → a ≡ c → b ≡ d → int_le c d ≡ int_le a b
handed a b c d first last = ap (λ z. int_le z d) (sym first) ∙ ap (λ z. int_le a z) (sym last)

pub stepped-requires-clause-on : goal.stepped-requires-clause-on
stepped-requires-clause-on c down =
    let l = c.args.line in
    let is : IsFlatRow l (pos c.args.y) c.in-Flat.past = subst (λ w. IsWalk l (pos c.args.y) w) c.in-Flat.is c.requires.walk in
    let narrow = side_small l.x0 l.x1 (search rules) (search rules) in
    let low = side_small l.y0 l.y1 (search rules) (search rules) in
    let few = steps_between l.y0 l.y1 (pos c.args.y) c.requires.row in
    total_near (rows_before l (pos c.args.y)) (wide l) _ _ c.in-Flat.past (omega (arith, few, low)) narrow (omega (arith, narrow, low)) is.quotient

pub stepped-requires-clause-back : goal.stepped-requires-clause-back
stepped-requires-clause-back c up =
    let l = c.args.line in
    let y0 : to_z w16 (of_z w16 l.y0) ≡ l.y0 = search rules in
    let y1 : to_z w16 (of_z w16 l.y1) ≡ l.y1 = search rules in
    let is : IsFlatRow l (pos c.args.y) c.in-Flat.past = subst (λ w. IsWalk l (pos c.args.y) w) c.in-Flat.is c.requires.walk in
    gain_back l.y0 l.y1 c.args.y (wide l) _ _ c.in-Flat.past (handed _ _ _ _ y0 y1 ∙ up) (c.requires.more (omega arith)) is.quotient

pub stepped-requires-in-Steep-clause-on : goal.stepped-requires-in-Steep-clause-on
stepped-requires-in-Steep-clause-on c down =
    let l = c.args.line in
    let is : IsSteepRow l (pos c.args.y) c.in-Steep.moved = subst (λ w. IsWalk l (pos c.args.y) w) c.in-Steep.is c.requires.walk in
    let narrow = side_small l.x0 l.x1 (search rules) (search rules) in
    let low = side_small l.y0 l.y1 (search rules) (search rules) in
    let few = steps_between l.y0 l.y1 (pos c.args.y) c.requires.row in
    total_near (rows_before l (pos c.args.y)) (wide l) _ _ c.in-Steep.moved (omega (arith, few, low)) narrow (omega (arith, low)) is.quotient

pub stepped-requires-in-Steep-clause-back : goal.stepped-requires-in-Steep-clause-back
stepped-requires-in-Steep-clause-back c up =
    let l = c.args.line in
    let y0 : to_z w16 (of_z w16 l.y0) ≡ l.y0 = search rules in
    let y1 : to_z w16 (of_z w16 l.y1) ≡ l.y1 = search rules in
    let is : IsSteepRow l (pos c.args.y) c.in-Steep.moved = subst (λ w. IsWalk l (pos c.args.y) w) c.in-Steep.is c.requires.walk in
    gain_back l.y0 l.y1 c.args.y (wide l) _ _ c.in-Steep.moved (handed _ _ _ _ y0 y1 ∙ up) (c.requires.more (omega arith)) is.quotient

pub returns-in-Flat : goal.returns-in-Flat
returns-in-Flat c more =
    let l = c.args.line in
    let y0 : to_z w16 (of_z w16 l.y0) ≡ l.y0 = search rules in
    let y1 : to_z w16 (of_z w16 l.y1) ≡ l.y1 = search rules in
    let is : IsFlatRow l (pos c.args.y) c.in-Flat.past = subst (λ w. IsWalk l (pos c.args.y) w) c.in-Flat.is c.requires.walk in
    record {
      some = is.some;
      flat = is.flat;
      quotient = quotient_next l.y0 l.y1 c.args.y (wide l) _ _ c.in-Flat.past c.stepped.result _ (handed _ _ _ _ y0 y1) c.requires.row (c.requires.more more) is.quotient c.stepped.ensures;
    }

pub returns-in-Steep : goal.returns-in-Steep
returns-in-Steep c more =
    let l = c.args.line in
    let y0 : to_z w16 (of_z w16 l.y0) ≡ l.y0 = search rules in
    let y1 : to_z w16 (of_z w16 l.y1) ≡ l.y1 = search rules in
    let is : IsSteepRow l (pos c.args.y) c.in-Steep.moved = subst (λ w. IsWalk l (pos c.args.y) w) c.in-Steep.is c.requires.walk in
    record {
      steep = is.steep;
      quotient = quotient_next l.y0 l.y1 c.args.y (wide l) _ _ c.in-Steep.moved c.stepped-in-Steep.result _ (handed _ _ _ _ y0 y1) c.requires.row (c.requires.more more) is.quotient c.stepped-in-Steep.ensures;
    }
