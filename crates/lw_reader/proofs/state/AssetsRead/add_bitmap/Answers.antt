use Rattle.std.proofs.Common.{◌*◌, ◌++◌, [], ◌∷◌, unsigned_abs, refl, ap, ◌∙◌}
use Rattle.lw_planes.specs.Bitmap.{row_bytes}
use Rattle.lw_words.specs.Cuts.{targets}
use Rattle.lw_reader.proofs.NamesAdded.{name_added}
use Rattle.lw_reader.proofs.AssetsAdded.{size_read, rows_fit, rows_some, rows_due_all, sizes_of, none_begun, bitmap_begun, same_bitmap}
use Rattle.lw_reader.proofs.state.AssetsRead.add_bitmap.Goals as goal

pub overflow_mul-self : goal.overflow_mul-self
overflow_mul-self c =
    let d = size_read c.args.depth _ 8 c.ranges.depth c.count-self-3.ensures c.requires.depth in
    let h = size_read c.args.height _ 1024 c.ranges.height c.count-self-2.ensures c.requires.height in
    rows_fit _ _ d.upper h.upper

pub returns : goal.returns
returns c = λ above s.
    let a = c.args.self.now in
    let ks = a.names.keys in
    let w = size_read c.args.width _ 1024 c.ranges.width c.count-self.ensures c.requires.width in
    let h = size_read c.args.height _ 1024 c.ranges.height c.count-self-2.ensures c.requires.height in
    let d = size_read c.args.depth _ 8 c.ranges.depth c.count-self-3.ensures c.requires.depth in
    let some = rows_some c.count-self-3.result c.count-self-2.result d.lower h.lower in
    record {
      has_glyph = s.has_glyph;
      glyphs = s.glyphs;
      names = ap targets c.in_ok-insert.ensures.keys ∙ name_added ks c.args.name c.requires.new ∙ ap (λ ns. ns ++ c.args.name.now ∷ []) s.names;
      pattern_names = s.pattern_names;
      patterns = s.patterns;
      width = w.is;
      narrow = w.upper;
      due = ap (λ n. n * c.count-self-2.result) d.is ∙ ap (λ n. unsigned_abs c.args.depth * n) h.is;
      begun = λ more. record {
        sizes = sizes_of _ _ _ _ _ _ w h d;
        long = rows_due_all (c.count-self-3.result * c.count-self-2.result) (row_bytes c.count-self.result) _ c.new.ensures.items;
      };
      bitmaps = λ rows whole.
          bitmap_begun _ _ _ _ _ rows _ _ some c.new.ensures.items (none_begun a.due _ _ _ c.requires.due (s.bitmaps [] (λ none. refl)))
          ∙ same_bitmap _ _ _ _ _ _ rows _ w.is h.is d.is;
    }
