use Rattle.std.proofs.Common.{bytes_eq, sym, ◌∙◌}
use Rattle.lw_reader.proofs.Places.{found, absent}
use Rattle.lw_reader.proofs.state.place_of_name.Goals as goal

pub returns-in-Some-clause-place : goal.returns-in-Some-clause-place
returns-in-Some-clause-place c =
    found (bytes_eq c.args.name.now.now) c.args.names.now.keys c.in-Some.place (sym c.get_index_of.ensures.index ∙ c.in-Some.is)

pub returns-in-None-clause-place : goal.returns-in-None-clause-place
returns-in-None-clause-place c =
    c.len.ensures.len ∙ absent (bytes_eq c.args.name.now.now) c.args.names.now.keys (sym c.get_index_of.ensures.index ∙ c.in-None.is)
