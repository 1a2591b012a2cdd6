use Rattle.std.proofs.Common.{ℕ, sym, subst, List, Option, Some, None}
use Rattle.std.proofs.lemmas.Result.{IfOk-weaker}
use Rattle.lw_region.specs.Rectangle.{Rectangle}
use Rattle.lw_calls.specs.declared.make.Kind.{Kind}
use Rattle.lw_layer.specs.View as view
use Rattle.lw_layer.specs.Keeping.{AreKept}
use Rattle.lw_arrange.specs.Prepared.{Created, created_by, created_live, MayOpen, IsCreation}
use Rattle.lw_arrange.specs.Filled.{AreGained}
use Rattle.lw_arrange.proofs.GainedRegions.{IsMade, made_of, anew_gained}
use Rattle.lw_arrange.proofs.gaining.gained_anew.Goals as goal

pub created_kind-kind-requires : goal.created_kind-kind-requires
created_kind-kind-requires c =
    let a = c.args.arrangement.now in
    go (created_by a.task a.call) a.stack.sizes.depth c.args.bounds.now c.requires.may
  where
    go : (o : Option Created) (depth : ℕ) (bounds : Rectangle) → MayOpen o depth bounds → IsCreation o
    go None depth bounds may = may
    go (Some n) depth bounds may = tt

pub kept_region-requires-clause-wide : goal.kept_region-requires-clause-wide
kept_region-requires-clause-wide c =
    let a = c.args.arrangement.now in
    (made_of (created_by a.task a.call) a.stack.sizes.depth c.args.bounds.now c.created_kind-kind.result c.requires.may
    c.created_kind-kind.ensures).may.size.sizes.columns.1

pub kept_region-requires-clause-high : goal.kept_region-requires-clause-high
kept_region-requires-clause-high c =
    let a = c.args.arrangement.now in
    (made_of (created_by a.task a.call) a.stack.sizes.depth c.args.bounds.now c.created_kind-kind.result c.requires.may
    c.created_kind-kind.ensures).may.size.sizes.rows.1

pub returns : goal.returns
returns c =
    let a = c.args.arrangement.now in
    let cell = c.args.cell.now in
    let depth = a.stack.sizes.depth in
    let bounds = c.args.bounds.now in
    let visible = c.args.visible.now in
    let listed = c.rects.result.now in
    let kind = c.created_kind-kind.result in
    let made : IsMade (created_by a.task a.call) depth bounds kind =
    made_of (created_by a.task a.call) depth bounds kind c.requires.may c.created_kind-kind.ensures in
    let Q : Option Created → List Rectangle → Type 0 =
    λ o region. AreGained cell (record { number = cell.number; state = view.Live; live = created_live o depth bounds visible }) region in
    IfOk-weaker c.kept_region.result (λ region. AreKept kind bounds listed region) (λ region. Q (created_by a.task a.call) region)
    (λ region are.
    let R : Option Created → Type 0 = λ o. Q o region in
    let S : Kind → Type 0 = λ k. AreKept k bounds listed region in
    subst R (sym made.is)
    (anew_gained cell made.created depth bounds listed visible region c.requires.idle c.rects.ensures.value made.may.size
    c.kept_region.ensures.ordered c.requires.inside (subst S made.kind_is are)))
    c.kept_region.ensures.kept
