use Rattle.std.proofs.Common.{◌∙◌, ◌++◌, true, false, sym, ap, arith, to_z, of_z, w16, length}
use Rattle.std.proofs.lemmas.Int.{ints}
use Rattle.std.proofs.lemmas.Bool.{eqb-true}
use Rattle.lw_region.specs.Columns.{columns, run_rectangles}
use Rattle.lw_region.proofs.Columns.{row_of_first, row_of_second, row_of_move, nothing_made}
use Rattle.lw_region.proofs.Merges.{is_none}
use Rattle.lw_region.proofs.row.append_row.Goals as goal

pub returns-then-holds : goal.returns-then-holds
returns-then-holds c =
    let top = to_z w16 (of_z w16 c.args.top) in
    let bottom = to_z w16 (of_z w16 c.args.bottom) in
    let a = c.args.a.now in
    let before = c.args.out.now.items in
    row_of_move c.args.operation a c.args.b.now top bottom before c.copy_row.new.out.items c.args.top c.args.bottom (omega (arith, ints)) (omega (arith, ints))
    (rw (is_none c.args.b.now (eqb-true (length c.args.b.now) 0 (sym c.is_empty.ensures ∙ c.if-is_empty.true)))
    (row_of_first c.args.operation top bottom before c.copy_row.new.out.items true a c.requires.columns_a (sym c.holds.ensures ∙ c.if-holds.true)
    (c.copy_row.ensures ∙ ap (λ w. w ++ run_rectangles top bottom (columns a)) c.reserve.ensures.items)))

pub returns-else-holds : goal.returns-else-holds
returns-else-holds c =
    let top = to_z w16 (of_z w16 c.args.top) in
    let bottom = to_z w16 (of_z w16 c.args.bottom) in
    let a = c.args.a.now in
    let before = c.args.out.now.items in
    row_of_move c.args.operation a c.args.b.now top bottom before c.reserve.new.self.items c.args.top c.args.bottom (omega (arith, ints)) (omega (arith, ints))
    (rw (is_none c.args.b.now (eqb-true (length c.args.b.now) 0 (sym c.is_empty.ensures ∙ c.if-is_empty.true)))
    (row_of_first c.args.operation top bottom before c.reserve.new.self.items false a c.requires.columns_a (sym c.holds.ensures ∙ c.if-holds.false)
    (nothing_made top bottom before c.reserve.new.self.items c.reserve.ensures.items)))

pub returns-then-holds-2 : goal.returns-then-holds-2
returns-then-holds-2 c =
    let top = to_z w16 (of_z w16 c.args.top) in
    let bottom = to_z w16 (of_z w16 c.args.bottom) in
    let b = c.args.b.now in
    let before = c.args.out.now.items in
    row_of_move c.args.operation c.args.a.now b top bottom before c.copy_row-then-holds-2.new.out.items c.args.top c.args.bottom (omega (arith, ints)) (omega (arith, ints))
    (rw (is_none c.args.a.now (eqb-true (length c.args.a.now) 0 (sym c.is_empty-2.ensures ∙ c.if-is_empty-2.true)))
    (row_of_second c.args.operation top bottom before c.copy_row-then-holds-2.new.out.items true b c.requires.columns_b (sym c.holds-then-is_empty-2.ensures ∙ c.if-holds-2.true)
    (c.copy_row-then-holds-2.ensures ∙ ap (λ w. w ++ run_rectangles top bottom (columns b)) c.reserve.ensures.items)))

pub returns-else-holds-2 : goal.returns-else-holds-2
returns-else-holds-2 c =
    let top = to_z w16 (of_z w16 c.args.top) in
    let bottom = to_z w16 (of_z w16 c.args.bottom) in
    let b = c.args.b.now in
    let before = c.args.out.now.items in
    row_of_move c.args.operation c.args.a.now b top bottom before c.reserve.new.self.items c.args.top c.args.bottom (omega (arith, ints)) (omega (arith, ints))
    (rw (is_none c.args.a.now (eqb-true (length c.args.a.now) 0 (sym c.is_empty-2.ensures ∙ c.if-is_empty-2.true)))
    (row_of_second c.args.operation top bottom before c.reserve.new.self.items false b c.requires.columns_b (sym c.holds-then-is_empty-2.ensures ∙ c.if-holds-2.false)
    (nothing_made top bottom before c.reserve.new.self.items c.reserve.ensures.items)))
