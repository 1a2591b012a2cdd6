use Rattle.std.proofs.Common.{◌≡◌, ◌*◌, refl, sym, ◌∙◌, ap, subst, length}
use Rattle.lw_region.specs.Rectangle.{width}
use Rattle.lw_planes.specs.Bitmap.{row_bytes}
use Rattle.lw_layer.specs.View.{LiveView}
use Rattle.lw_layer.specs.Pieces.{HaveLines, HaveLinesBits, layout_of, buffer_rectangle, with_bytes}
use Rattle.lw_layer.proofs.BitsLaws.{layer_bits}
use Rattle.lw_layer.proofs.StateLaws.{lines_bits_of}
use Rattle.lw_layer.proofs.WrittenLaws.{written_line}
use Rattle.lw_layer.proofs.layer.Layer.lines_mut.Goals as goal

pub invariant_of-self-lent : goal.invariant_of-self-lent
invariant_of-self-lent c =
    let Q : LiveView → Type 0 = λ v. HaveLines (layout_of v) c.args.buffer c.args.line c.args.rows in
    let there = subst Q (sym c.self.view_is) c.requires.lines in
    λ w. (written_line c.self.inside.draft c.args.plane c.args.buffer c.args.line w c.self.invariant there.buffer).sound

pub returns : goal.returns
returns c =
    let d = c.self.inside.draft in
    let Q : LiveView → Type 0 = λ v. HaveLines (layout_of v) c.args.buffer c.args.line c.args.rows in
    let there = subst Q (sym c.self.view_is) c.requires.lines in
    let bytes = c.lines_mut.result.now in
    let L : LiveView → Type 0 = λ v. length bytes ≡ c.args.rows * row_bytes (width (buffer_rectangle (layout_of v) c.args.buffer)) in
    let B : LiveView → Type 0 = λ v. HaveLinesBits v c.args.plane c.args.buffer c.args.line c.args.rows bytes in (
      (refl, λ w. (written_line d c.args.plane c.args.buffer c.args.line w c.self.invariant there.buffer).view ∙ ap (λ v. with_bytes v c.args.plane c.args.buffer c.args.line w) c.self.view_is),
      record {
        writes_back = tt;
        long = subst L c.self.view_is c.lines_mut.ensures.long;
        near = c.lines_mut.ensures.near;
        bits = subst B c.self.view_is (lines_bits_of d c.args.plane c.args.buffer c.args.line c.args.rows bytes c.self.invariant c.lines_mut.ensures.bits);
        planes = layer_bits d c.args.self.now c.self.invariant c.self.view_is;
      },
    )
