use Rattle.std.proofs.Common.{◌≡◌, ◌<ℤ◌, Bool, true, false, not, FitsSigned, w16, rules, refl, arith}
use Rattle.std.proofs.lemmas.Int.{ints, clamps, to_z-of_z}
use Rattle.lw_region.proofs.Meet.{apart_from_unordered}
use Rattle.lw_arrange.proofs.desktop.touch.Goals as goal

pub returns-then-ends_before : goal.returns-then-ends_before
returns-then-ends_before c = λ _.
    let a = c.args.a.now in
    let b = c.args.b.now in
    let last : FitsSigned w16 c.max_y.result = search rules in
    let first : FitsSigned w16 c.min_y.result = search rules in
    let ended : a.max_y <ℤ b.min_y = rw (to_z-of_z w16 c.max_y.result last, to_z-of_z w16 c.min_y.result first, c.max_y.ensures.value, c.min_y.ensures.value) at (c.ends_before.ensures c.if-ends_before.true) in
    apart_from_unordered a b (λ h. absurd (omega (arith, ints, clamps, h.rows, ended)))

pub returns-then-ends_before-2 : goal.returns-then-ends_before-2
returns-then-ends_before-2 c = λ _.
    let a = c.args.a.now in
    let b = c.args.b.now in
    let last : FitsSigned w16 c.max_y-2.result = search rules in
    let first : FitsSigned w16 c.min_y-2.result = search rules in
    let ended : b.max_y <ℤ a.min_y = rw (to_z-of_z w16 c.max_y-2.result last, to_z-of_z w16 c.min_y-2.result first, c.max_y-2.ensures.value, c.min_y-2.ensures.value) at (c.ends_before-2.ensures c.if-ends_before-2.true) in
    apart_from_unordered a b (λ h. absurd (omega (arith, ints, clamps, h.rows, ended)))

pub returns-then-ends_before-3 : goal.returns-then-ends_before-3
returns-then-ends_before-3 c = λ _.
    let a = c.args.a.now in
    let b = c.args.b.now in
    let last : FitsSigned w16 c.max_x.result = search rules in
    let first : FitsSigned w16 c.min_x.result = search rules in
    let ended : a.max_x <ℤ b.min_x = rw (to_z-of_z w16 c.max_x.result last, to_z-of_z w16 c.min_x.result first, c.max_x.ensures.value, c.min_x.ensures.value) at (c.ends_before-3.ensures c.if-ends_before-3.true) in
    apart_from_unordered a b (λ h. absurd (omega (arith, ints, clamps, h.columns, ended)))

is_true : (t : Bool) → not t ≡ false → t ≡ true
is_true true none = refl
is_true false none = absurd (cc none)

pub returns : goal.returns
returns c = λ none.
    let a = c.args.a.now in
    let b = c.args.b.now in
    let last : FitsSigned w16 c.max_x-2.result = search rules in
    let first : FitsSigned w16 c.min_x-2.result = search rules in
    let ended : b.max_x <ℤ a.min_x = rw (to_z-of_z w16 c.max_x-2.result last, to_z-of_z w16 c.min_x-2.result first, c.max_x-2.ensures.value, c.min_x-2.ensures.value) at (c.ends_before-4.ensures (is_true c.ends_before-4.result none)) in
    apart_from_unordered a b (λ h. absurd (omega (arith, ints, clamps, h.columns, ended)))
