use Rattle.std.proofs.Common.{◌∙◌}
use Rattle.lw_reveal.proofs.GainedCounts.{none_of, one_of}
use Rattle.lw_reveal.proofs.damage.region_of.Goals as goal
use Rattle.lw_reveal.proofs.damage.region_of.Goals.{in-Some+in_ok-or_rect, in_default}

pub returns : goal.returns
returns c =
    elim c.match-place.branch [
      | in-Some+in_ok-or_rect w ↦ one_of c.args.place w.in-Some.rect c.new-region.result _ w.in-Some.is c.new-region.ensures (w.region-is ∙ w.in_ok-or_rect.ensures.list)
      | in_default w ↦ none_of c.args.place _ w.in_default.is (w.region-is ∙ c.new-region.ensures)
    ]
