use Rattle.std.proofs.Common.{List, ℕ, refl, subst}
use Rattle.lw_grammar.specs.Statements.{CallLine}
use Rattle.lw_words.specs.Cuts.{targets}
use Rattle.lw_statements.specs.StatementMeaning.{act_meaning, layers_meaning}
use Rattle.lw_statements.specs.CallMeaning.{IsBitmapAt}
use Rattle.lw_line_additions.proofs.Addable.{few_names, few_bitmaps, call_ranged, call_made, call_room, call_supers}
use Rattle.lw_reader.proofs.CallLines.{bitmap_stands}
use Rattle.lw_line_additions.proofs.Passing.{with_tasks, on_done}
use Rattle.lw_line_additions.proofs.adding.add_call.Goals as goal

pub bitmap_of-bitmap-requires : goal.bitmap_of-bitmap-requires
bitmap_of-bitmap-requires c = few_bitmaps c.args.reader.now _ c.requires

pub add_call-requires-clause-range : goal.add_call-requires-clause-range
add_call-requires-clause-range c = call_ranged c.args.reader.now (layers_meaning c.args.layers) (act_meaning c.args.act.now) c.requires

pub add_call-requires-clause-made : goal.add_call-requires-clause-made
add_call-requires-clause-made c = call_made c.args.reader.now (layers_meaning c.args.layers) (act_meaning c.args.act.now) c.requires

pub add_call-requires-clause-few : goal.add_call-requires-clause-few
add_call-requires-clause-few c = few_names c.args.reader.now _ c.requires

pub add_call-requires-clause-room : goal.add_call-requires-clause-room
add_call-requires-clause-room c = call_room c.args.reader.now (layers_meaning c.args.layers) (act_meaning c.args.act.now) c.requires

pub add_call-requires-clause-supers : goal.add_call-requires-clause-supers
add_call-requires-clause-supers c = call_supers c.args.reader.now (layers_meaning c.args.layers) (act_meaning c.args.act.now) c.requires

pub returns : goal.returns
returns c = λ s above k.
    let f = CallLine (layers_meaning c.args.layers) (act_meaning c.args.act.now) in
    let r = c.args.reader.now in
    let act = act_meaning c.args.act.now in
    let P : List (List ℕ) → Type 0 = λ ns. IsBitmapAt ns c.bitmap_of-bitmap.result act in
    let stands = subst P k.assets.names (bitmap_stands (targets r.assets.names.keys) c.bitmap_of-bitmap.result act c.bitmap_of-bitmap.ensures) in
    on_done c.add_call.result _ _ (with_tasks s r above f c.add_call.new.self refl refl k) (c.add_call.ensures above stands k.tasks)
