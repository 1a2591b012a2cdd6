use Rattle.std.proofs.Common.{◌≡◌, ◌^◌, ◌<◌, ◌≤◌, min, ℕ, pos, to_z, w32, sym, ◌∙◌, ap, subst, arith, None}
use Rattle.std.proofs.lemmas.Int.{ints, to_z-of_z}
use Rattle.lw_layer.specs.View.{keeps}
use Rattle.lw_layer.specs.Drafts.{layout, live_view}
use Rattle.lw_layer.specs.Code.{IsFrom, IsBehind, IsFirstIn, IsNextIn}
use Rattle.lw_layer.proofs.KeptLaws.{rows_off}
use Rattle.lw_layer.proofs.StartLaws.{next_kept_some, next_kept_none}
use Rattle.lw_layer.proofs.draft.LiveDraft.next_kept_from.Goals as goal

pub returns-in_default : goal.returns-in_default
returns-in_default c =
    let off : (v : ℕ) → c.args.y ≡ pos v → (layout c.args.self.now).height ≤ v = λ v is. rw (sym c.height.ensures) (c.in_default.ensures v (to_z-of_z w32 c.args.y c.ranges.y ∙ is)) in
    λ u later upto. rows_off c.args.self.now u c.args.y off

pub returns-in-None : goal.returns-in-None
returns-in-None c =
    let d = c.args.self.now in
    let row : c.args.y ≡ pos c.in-Some.row = sym (to_z-of_z w32 c.args.y c.ranges.y) ∙ c.in-Some.ensures.0 in
    let same : c.min-end.result ≡ min c.behind_place.result (layout d).width = c.min-end.ensures ∙ ap (min c.behind_place.result) c.width.ensures in
    let M : ℕ → Type 0 = λ m. IsNextIn (λ u. keeps (live_view d) u c.in-Some.row) c.from_place-first.result m None in
    let from : IsFrom c.args.x c.from_place-first.result = rw (to_z-of_z w32 c.args.x c.ranges.x) at c.from_place-first.ensures in
    let behind : IsBehind c.args.last c.behind_place.result = rw (to_z-of_z w32 c.args.last c.ranges.last) at c.behind_place.ensures in
    rw row (next_kept_none d c.args.x c.args.last c.in-Some.row c.from_place-first.result c.behind_place.result from behind (subst M same c.in-None.ensures))

pub returns-in-Some-next_kept_in : goal.returns-in-Some-next_kept_in
returns-in-Some-next_kept_in c =
    let d = c.args.self.now in
    let row : c.args.y ≡ pos c.in-Some.row = sym (to_z-of_z w32 c.args.y c.ranges.y) ∙ c.in-Some.ensures.0 in
    let same : c.min-end.result ≡ min c.behind_place.result (layout d).width = c.min-end.ensures ∙ ap (min c.behind_place.result) c.width.ensures in
    let M : ℕ → Type 0 = λ m. IsFirstIn (λ u. keeps (live_view d) u c.in-Some.row) c.from_place-first.result m c.in-Some-next_kept_in.column in
    let from : IsFrom c.args.x c.from_place-first.result = rw (to_z-of_z w32 c.args.x c.ranges.x) at c.from_place-first.ensures in
    let behind : IsBehind c.args.last c.behind_place.result = rw (to_z-of_z w32 c.args.last c.ranges.last) at c.behind_place.ensures in
    let found : M (min c.behind_place.result (layout d).width) = subst M same c.in-Some-next_kept_in.ensures in
    let small : c.in-Some-next_kept_in.column < 2 ^ 31 = omega (arith, found.ends, c.requires.place.sizes.columns.1) in
    let cast : to_z w32 c.in-Some-next_kept_in.column ≡ pos c.in-Some-next_kept_in.column = omega (arith, ints) in
    rw (row, cast) (next_kept_some d c.args.x c.args.last c.in-Some.row c.from_place-first.result c.behind_place.result c.in-Some-next_kept_in.column from behind found)
