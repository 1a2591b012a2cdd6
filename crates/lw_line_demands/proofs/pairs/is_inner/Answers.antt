use Rattle.std.proofs.Common.{bytes_eq, sym, ap, ◌∙◌}
use Rattle.std.specs.List.{list_any}
use Rattle.lw_line_demands.proofs.NamedPairs.{any_meaning}
use Rattle.lw_line_demands.proofs.pairs.is_inner.Goals as goal

pub returns : goal.returns
returns c =
    c.has_inner.ensures ∙ ap (list_any (λ p. bytes_eq c.args.name.now p.inner.now)) c.as_slice.ensures.value ∙ sym (any_meaning (λ p. bytes_eq c.args.name.now p.inner) c.args.reader.now.tasks.pairs.items)
