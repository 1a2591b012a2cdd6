use Rattle.std.proofs.Common.{◌≡◌, pos, int_le, to_z, of_z, w32, sym, ◌∙◌, ap, arith}
use Rattle.std.proofs.lemmas.Int.{ints}
use Rattle.lw_draw.proofs.SpanLaws.{between_edges, edges_ordered}
use Rattle.lw_draw.proofs.spans.span.Goals as goal

pub invariant_of-result : goal.invariant_of-result
invariant_of-result c =
    let same : to_z w32 (of_z w32 c.from.result) ≡ c.args.least = omega (arith, ints) in
    record { ordered = edges_ordered c.args.least c.args.greatest _ c.edge.result c.edge-2.result c.args.extent (omega (arith, ints)) c.requires.ordered c.edge.ensures.inside (λ u inside. ap (λ z. int_le z (pos u)) (sym same) ∙ c.edge.ensures.from u inside) c.edge-2.ensures.from }

pub returns-clause-has : goal.returns-clause-has
returns-clause-has c u inside =
    let same : to_z w32 (of_z w32 c.from.result) ≡ c.args.least = omega (arith, ints) in
    between_edges c.args.least c.args.greatest _ c.edge.result c.edge-2.result u (omega (arith, ints)) (ap (λ z. int_le z (pos u)) (sym same) ∙ c.edge.ensures.from u inside) (c.edge-2.ensures.from u inside)
