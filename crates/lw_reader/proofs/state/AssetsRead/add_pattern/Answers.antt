use Rattle.std.proofs.Common.{◌++◌, [], ◌∷◌, ap, ◌∙◌}
use Rattle.lw_words.specs.Cuts.{targets}
use Rattle.lw_reader.proofs.Found.{found_is}
use Rattle.lw_reader.proofs.NamesAdded.{name_added}
use Rattle.lw_reader.proofs.state.AssetsRead.add_pattern.Goals as goal

pub returns : goal.returns
returns c = λ above s.
    let a = c.args.self.now in
    let same = found_is c.new.result _ _ c.unwrap-pattern.result c.new.ensures c.unwrap-pattern.ensures ∙ c.words.ensures.value in
    record {
      has_glyph = s.has_glyph;
      glyphs = s.glyphs;
      names = s.names;
      width = s.width;
      narrow = s.narrow;
      due = s.due;
      begun = λ more. record { sizes = (s.begun more).sizes; long = (s.begun more).long };
      bitmaps = s.bitmaps;
      pattern_names = ap targets c.in_ok-insert.ensures.keys ∙ name_added a.pattern_names.keys c.args.name c.requires.new ∙ ap (λ ns. ns ++ c.args.name.now ∷ []) s.pattern_names;
      patterns = c.in_ok-push.ensures.items ∙ ap (λ words. a.patterns.items ++ words ∷ []) same ∙ ap (λ ps. ps ++ c.args.pattern.now ∷ []) s.patterns;
    }
