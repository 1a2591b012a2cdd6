use Rattle.std.proofs.Common.{◌≡◌, ℕ, true, set, sym, ap, subst, ◌∙◌, arith, w32}
use Rattle.std.proofs.lemmas.Int.{to_z-of_z}
use Rattle.std.proofs.lemmas.List.Edits.{map_over_more}
use Rattle.lw_strips.specs.Strips.{StripView}
use Rattle.lw_super.specs.Shown.{IsShown, refilled}
use Rattle.lw_super.proofs.ShownLaws.{still_shown}
use Rattle.lw_super.proofs.shown.read_shown.Goals as goal

pub read_out-requires : goal.read_out-requires
read_out-requires c =
    let left = to_z-of_z w32 c.args.left c.ranges.left in
    let top = to_z-of_z w32 c.args.top c.ranges.top in
    let P : StripView → Type 0 = λ s. (s.solid ≡ true) × IsShown c.args.own.now c.args.left c.args.top s.rect s.planes in
    let one =
    subst P c.index-strips-index.is
    (still_shown c.args.own.now c.args.left c.args.top c.args.strips.now c.loop-index.strips c.loop-index.index c.index-strips-index.result c.requires (omega (arith, c.loop-index-test.true))
    (rw (left, top) at c.loop-index.invariant) c.index-strips-index.is)
    in
    record { solid = one.0; shown = rw (left, top) one.1 }

pub loop-index-preserved : goal.loop-index-preserved
loop-index-preserved c =
    let left = to_z-of_z w32 c.args.left c.ranges.left in
    let top = to_z-of_z w32 c.args.top c.ranges.top in
    let f : StripView → StripView = λ s. refilled c.args.own.now c.args.left c.args.top s in
    let k : ℕ = c.loop-index.index in
    rw (left, top)
    (ap (λ q. set c.loop-index.strips k q) ((rw (left, top) at c.read_out.ensures) ∙ ap f (sym c.index-strips-index.is))
    ∙ map_over_more f c.args.strips.now c.loop-index.strips k c.index-strips-index.result (omega (arith, c.loop-index-test.true)) (rw (left, top) at c.loop-index.invariant) c.index-strips-index.is)
