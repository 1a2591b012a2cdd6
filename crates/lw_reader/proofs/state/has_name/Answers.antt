use Rattle.std.proofs.Common.{bytes_eq, ◌∙◌}
use Rattle.lw_words.proofs.Targets.{any_target}
use Rattle.lw_reader.proofs.state.has_name.Goals as goal

pub returns : goal.returns
returns c = c.contains.ensures ∙ any_target (bytes_eq c.args.name.now.now) c.args.names.now.keys
