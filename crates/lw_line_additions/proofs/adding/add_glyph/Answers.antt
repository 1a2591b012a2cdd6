use Rattle.std.proofs.Common.{refl}
use Rattle.lw_grammar.specs.Statements.{GlyphLine}
use Rattle.lw_words.specs.Digits.{decoded}
use Rattle.lw_line_additions.proofs.Addable.{here_of, due_of, code_ranged, rows_8}
use Rattle.lw_line_additions.proofs.Passing.{with_assets}
use Rattle.lw_line_additions.proofs.adding.add_glyph.Goals as goal

pub add_glyph-requires-clause-code : goal.add_glyph-requires-clause-code
add_glyph-requires-clause-code c = code_ranged c.args.reader.now c.args.code (decoded c.args.digits.now.digits.now) c.requires

pub add_glyph-requires-clause-rows : goal.add_glyph-requires-clause-rows
add_glyph-requires-clause-rows c = rows_8 c.args.reader.now c.args.code (decoded c.args.digits.now.digits.now) c.requires

pub add_glyph-requires-clause-due : goal.add_glyph-requires-clause-due
add_glyph-requires-clause-due c =
    let f = GlyphLine c.args.code (decoded c.args.digits.now.digits.now) in
    due_of c.args.reader.now f c.requires (here_of c.args.reader.now f c.requires).0

pub returns : goal.returns
returns c = λ s above k.
    let f = GlyphLine c.args.code (decoded c.args.digits.now.digits.now) in
    with_assets s c.args.reader.now above f c.add_glyph.new.self refl refl k (c.add_glyph.ensures above k.assets)
