use Rattle.std.proofs.Common.{bytes_eq, ap, ◌∙◌}
use Rattle.lw_words.specs.Cuts.{targets}
use Rattle.lw_words.proofs.Targets.{place_of_target}
use Rattle.lw_reader.proofs.NamesAdded.{targets_insert}
use Rattle.lw_reader.proofs.tasks.numbered.Goals as goal

pub returns-clause-names : goal.returns-clause-names
returns-clause-names c = ap targets c.in_ok-slot.ensures.keys ∙ targets_insert c.args.names.now.keys c.args.name

pub returns-clause-place : goal.returns-clause-place
returns-clause-place c = c.in_ok-slot.ensures.index ∙ place_of_target (bytes_eq c.args.name.now) c.args.names.now.keys
