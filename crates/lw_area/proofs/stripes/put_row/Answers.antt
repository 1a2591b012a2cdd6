use Rattle.std.proofs.Common.{◌≡◌, true, false, ◌&&◌, [], ℤ, pos, ◌+ℤ◌, to_z, of_z, w16, ap, sym, ◌∙◌, arith, rules}
use Rattle.std.specs.Ordering.{int_eq}
use Rattle.std.proofs.lemmas.Int.{ints}
use Rattle.std.proofs.lemmas.List.{nil_from_length}
use Rattle.lw_region.specs.Bands.{same_runs}
use Rattle.lw_area.proofs.Stacked.{put_first, put_joined, put_other}
use Rattle.lw_area.proofs.stripes.put_row.Goals as goal

pub returns-in_default : goal.returns-in_default
returns-in_default c =
    let e : c.args.stripes.now.items ≡ [] = nil_from_length _ (search rules) in
    let f : c.pop.new.self.items ≡ [] = nil_from_length _ (search rules) in
    let row : to_z w16 (of_z w16 c.args.row) ≡ c.args.row = omega (arith, ints) in
    put_first c.args.row c.args.runs.items c.stripe_of.result c.args.stripes.now.items c.pop.new.self.items c.push.new.self.items e f
    (c.stripe_of.ensures ∙ ap (λ w. record { top = w; bottom = w; runs = c.args.runs.items }) row) c.in_ok-push.ensures.items

pub returns-then-goes_up_to : goal.returns-then-goes_up_to
returns-then-goes_up_to c =
    let row : to_z w16 (of_z w16 c.args.row) ≡ c.args.row = omega (arith, ints) in
    let t : (int_eq (c.args.row +ℤ pos 1) c.in-Some.below.top && same_runs c.args.runs.items c.in-Some.below.runs) ≡ true = search rules in
    put_joined c.args.row c.args.runs.items c.in-Some.below c.raised.result c.pop.new.self.items c.args.stripes.now.items c.push-then-goes_up_to.new.self.items c.in-Some.ensures.items t
    (c.raised.ensures ∙ ap (λ w. record { top = w; bottom = c.in-Some.below.bottom; runs = c.in-Some.below.runs }) row) c.in_ok-push-2.ensures.items

pub returns : goal.returns
returns c =
    let row : to_z w16 (of_z w16 c.args.row) ≡ c.args.row = omega (arith, ints) in
    let t : (int_eq (c.args.row +ℤ pos 1) c.in-Some.below.top && same_runs c.args.runs.items c.in-Some.below.runs) ≡ false = search rules in
    put_other c.args.row c.args.runs.items c.in-Some.below c.stripe_of-2.result c.pop.new.self.items c.args.stripes.now.items c.push-2.new.self.items c.push-3.new.self.items c.in-Some.ensures.items t
    (c.stripe_of-2.ensures ∙ ap (λ w. record { top = w; bottom = w; runs = c.args.runs.items }) row) c.in_ok-push-3.ensures.items c.in_ok-push-4.ensures.items
