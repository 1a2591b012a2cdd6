use Rattle.std.proofs.Common.{◌<◌, ◌∷◌, length, sym, ◌∙◌}
use Rattle.std.proofs.lemmas.List.Elements.{All-head, All-tail, All-same}
use Rattle.lw_screens.proofs.Owners.{read_off, owner_next}
use Rattle.lw_screens.proofs.bands.owner_of.Goals as goal

pub loop-number-preserved : goal.loop-number-preserved
loop-number-preserved c =
    let number = c.in-Some.number.now in
    let behind = c.in-Some.behind.now in
    let left = c.loop-number.left.now in
    let screens = c.args.screens.now in
    let all = All-same (λ k. k < length screens) (number ∷ behind) left (sym c.in-Some.ensures.cases.0) c.loop-number.invariant.all in
    record {
      same = owner_next screens left behind c.args.order.now number c.args.row c.in-Some.ensures.cases.0 c.loop-number.invariant.same
          (read_off screens number c.args.row _ (All-head (λ k. k < length screens) number behind all) (sym c.has_row.ensures ∙ c.if-has_row.false));
      all = All-tail (λ k. k < length screens) number behind all;
    }
