use Rattle.std.proofs.Common.{◌∷◌, [], sym, subst}
use Rattle.lw_grammar.specs.Statements.{Act, CallLine}
use Rattle.lw_reader.specs.Represents.{CanAdd, Represents}
use Rattle.lw_line_additions.proofs.Passing.{on_done}
use Rattle.lw_line_additions.proofs.areas.add_fill.Goals as goal

pub add_call-requires : goal.add_call-requires
add_call-requires c =
    let P : Act → Type 0 = λ act. CanAdd c.args.reader.now (CallLine (c.args.layer.now ∷ []) act) in
    subst P (sym c.fill_of.ensures) c.requires

pub returns : goal.returns
returns c = λ s above k.
    let P : Act → Type 0 = λ act. Represents s c.add_call.new.reader (CallLine (c.args.layer.now ∷ []) act ∷ above) in
    on_done c.add_call.result _ _ (subst P c.fill_of.ensures) (c.add_call.ensures s above k)
