use Rattle.std.proofs.Common.{◌-◌, ◌++◌, ap, arith}
use Rattle.lw_planes.specs.Bitmap.{row_bytes}
use Rattle.lw_words.specs.Digits.{decoded}
use Rattle.lw_reader.proofs.AssetsAdded.{row_added, row_counted}
use Rattle.lw_reader.proofs.state.AssetsRead.add_row.Goals as goal

pub returns-else-self-eq0 : goal.returns-else-self-eq0
returns-else-self-eq0 c = λ above s.
    let a = c.args.self.now in
    let bytes = decoded c.args.digits.now.digits.now in
    let grown = c.in_ok-push_bytes.ensures in
    record {
      has_glyph = s.has_glyph;
      glyphs = s.glyphs;
      names = s.names;
      pattern_names = s.pattern_names;
      patterns = s.patterns;
      width = s.width;
      narrow = s.narrow;
      due = ap (λ n. n - 1) s.due;
      begun = λ more. record {
        sizes = c.requires.begun.sizes;
        long = row_counted a.due (row_bytes a.width) _ a.rows.items _ bytes c.requires.due grown c.requires.long c.requires.begun.long;
      };
      bitmaps = λ rows whole. row_added a.due a.width a.height a.depth a.rows.items _ bytes rows a.bitmaps.items _ c.if-self-eq0.false grown (s.bitmaps (bytes ++ rows) (λ none. absurd (omega (arith, none, c.requires.due))));
    }
