use Rattle.std.proofs.Common.{◌≡◌, ℕ, ◌+◌, ◌-◌, ◌<◌, ◌≤◌, length, get_or, drop, ap, ◌∙◌, arith}
use Rattle.std.proofs.lemmas.List.{get_or-take, get_or-drop}
use Rattle.lw_kernels.proofs.CopiedBytes.{copied_bits, mid_inside, mid_below, mid_above}
use Rattle.lw_kernels.proofs.copying.copy_whole.Goals as goal
use borrow.Rule.Slice.PartMut.{put_mid}

pub returns : goal.returns
returns c =
    let first : ℕ = c.args.first in
    let count : ℕ = c.args.last - first in
    let start : ℕ = c.args.start in
    let part = c.copy_from_slice.new.self in
    let old = c.args.to.now in
    let source = c.args.source.now in
    let long : length part ≡ count = omega arith in
    let fits : first + count ≤ length old = omega arith in
    copied_bits (put_mid first count old part) old source first c.args.last start
    (λ i p q.
    let within : i < first + count = omega arith in
    let low : i - first < start + count - start = omega arith in
    mid_inside old part first count i long fits p within ∙
    (ap (λ ys. get_or ys (i - first) 0) c.copy_from_slice.ensures.after ∙
    (get_or-take (start + count - start) (drop start source) (i - first) 0 low ∙ get_or-drop start source (i - first) 0)))
    (λ i p. mid_below old part first count i fits p)
    (λ i p. let late : first + count ≤ i = omega arith in mid_above old part first count i long fits late)
