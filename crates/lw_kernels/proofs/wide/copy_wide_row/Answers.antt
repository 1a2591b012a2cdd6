use Rattle.std.proofs.Common.{◌≡◌, ℕ, ◌+◌, ◌-◌, ◌*◌, ◌≤◌, if◌then◌else◌, ap, refl, ◌∙◌, arith}
use Rattle.std.specs.Int.{bit_at}
use Rattle.lw_planes.specs.Row.{row_bit}
use Rattle.lw_kernels.specs.Kernel.{is_between}
use Rattle.lw_kernels.specs.Words.{spot}
use Rattle.lw_kernels.proofs.RowWriting.{join_right}
use Rattle.lw_kernels.proofs.WideLaws.{done_within, between_moved, chosen_both}
use Rattle.lw_kernels.proofs.wide.copy_wide_row.Goals as goal

pub returns : goal.returns
returns c =
    let k = c.args.column in
    let is = c.requires.column in
    let at : ℕ = c.args.at in
    let from : ℕ = 8 * at + k.lead in
    let end : ℕ = 8 * at + k.lead + k.count in
    let old : ℕ → ℕ = λ x. row_bit c.args.to.now x in
    let new : ℕ → ℕ = λ x. row_bit c.args.source.now (8 * c.args.start + k.shift + (x - 8 * at)) in
    let inside : from + k.count ≤ 8 * (at + 8 + 8) = omega (arith, is.named) in
    done_within c.put_whole-2.new.to new old (8 * at) (8 * (at + 8 + 8)) from end (omega arith) inside
    (join_right c.put_whole.new.to c.put_whole-2.new.to (λ x. if is_between from end x then new x else old x)
    (λ x. bit_at c.new_word-first.result (spot (x - 8 * at))) (λ x. bit_at c.new_word-second.result (spot (x - 8 * (at + 8)))) old (8 * at) (8 * (at + 8)) (8 * (at + 8 + 8))
    (omega arith) (omega arith) c.put_whole.ensures c.put_whole-2.ensures
    (λ x late low.
    let j : ℕ = x - 8 * at in
    let place : 8 * at + j ≡ x = omega (arith, late) in
    c.new_word-first.ensures _ is.first j (omega (arith, low)) ∙
    chosen_both _ _ _ (new x) _ (old x) (between_moved k.lead k.count at j x place) refl (ap (row_bit c.args.to.now) place))
    (λ x late low.
    let j : ℕ = x - 8 * (at + 8) in
    let place : 8 * (at + 8) + j ≡ x = omega (arith, late) in
    let there : 8 * (c.args.start + 8) + k.shift + j ≡ 8 * c.args.start + k.shift + (x - 8 * at) = omega (arith, late) in
    c.new_word-second.ensures _ is.second j (omega (arith, low)) ∙
    chosen_both _ _ _ (new x) _ (old x) (between_moved k.lead k.count at (64 + j) x (omega (arith, late))) (ap (row_bit c.args.source.now) there) (ap (row_bit c.args.to.now) place)))
