use Rattle.std.proofs.Common.{◌≡◌, ℕ, ◌+◌, ◌*◌, ◌<◌, ◌≤◌, length, get_or, ap, sym, ◌∙◌, zero-add, arith}
use Rattle.std.proofs.lemmas.List.FromFn.{get_or-map-range_with_len}
use Rattle.lw_planes.specs.Pen.{pen_of}
use Rattle.lw_planes.specs.Row.{row_bit}
use Rattle.lw_planes.specs.Bitmap.{row_at, row_bytes}
use Rattle.lw_c_desk.proofs.ColumnLaws.{column_inside, column_pen, put_length, put_more, put_all}
use Rattle.lw_c_desk.proofs.columns.write_row.Goals as goal

pub eight_pens-pens-requires-clause-inside : goal.eight_pens-pens-requires-clause-inside
eight_pens-pens-requires-clause-inside c =
    let b = c.args.planes.now in
    let long : c.row_length-length.result ≡ row_bytes b.width =
    c.row_length-length.ensures ∙ ap row_bytes c.width.ensures.value in
    let first : c.args.y * c.row_length-length.result ≡ c.args.y * row_bytes b.width = ap (λ n. c.args.y * n) long in
    let step : c.height.result * c.row_length-length.result ≡ b.height * row_bytes b.width =
    ap (λ n. c.height.result * n) long ∙ ap (λ h. h * row_bytes b.width) c.height.ensures.value in
    let left : 8 * c.loop-column.column < b.width = omega (arith, c.loop-column-test.true, c.requires.long) in
    λ k deep. column_inside b.width b.height b.depth (length c.bytes.result.now) k c.loop-column.column c.args.y _ _ first step
    c.bytes.ensures.stored.long (omega (arith, deep, c.depth.ensures.value)) c.requires.inside left

pub loop-column-preserved : goal.loop-column-preserved
loop-column-preserved c =
    let b = c.args.planes.now in
    let row = c.loop-column.row in
    let bytes = c.bytes.result.now in
    let column : ℕ = c.loop-column.column in
    let first : ℕ = c.args.y * c.row_length-length.result in
    let step : ℕ = c.height.result * c.row_length-length.result in
    let pen : ℕ → ℕ = λ j. pen_of c.depth.result (λ k. row_bit bytes (8 * (first + column + k * step) + j)) in
    let long : c.row_length-length.result ≡ row_bytes b.width =
    c.row_length-length.ensures ∙ ap row_bytes c.width.ensures.value in
    let is_first : first ≡ c.args.y * row_bytes b.width = ap (λ n. c.args.y * n) long in
    let is_step : step ≡ b.height * row_bytes b.width =
    ap (λ n. c.height.result * n) long ∙ ap (λ h. h * row_bytes b.width) c.height.ensures.value in
    let wide : length row ≡ b.width = c.loop-column.invariant.long ∙ c.requires.long in
    let eight : length c.eight_pens-pens.result ≡ 8 = ap length c.eight_pens-pens.ensures in
    let low : 8 * column < length row = omega (arith, c.loop-column-test.true, c.loop-column.invariant.long) in
    let same = ap length c.put_eight.ensures ∙ put_length row c.eight_pens-pens.result (8 * column) eight low in
    record {
      long = same ∙ c.loop-column.invariant.long;
      written = λ x near inside.
          ap (λ r. get_or r x 0) c.put_eight.ensures
          ∙ put_more row c.eight_pens-pens.result (row_at b c.args.y) (8 * column) eight low c.loop-column.invariant.written
          (λ j few more.
          ap (λ pens. get_or pens j 0) c.eight_pens-pens.ensures
          ∙ (get_or-map-range_with_len pen 0 8 j j 0 few (zero-add j)
          ∙ (ap (λ d. pen_of d (λ k. row_bit bytes (8 * (first + column + k * step) + j))) c.depth.ensures.value
          ∙ column_pen b bytes column c.args.y j first step c.bytes.ensures.value is_first is_step c.requires.inside
          (omega (arith, more, wide)))))
          x (omega (arith, near)) (omega (arith, inside, same));
    }

pub returns : goal.returns
returns c =
    let b = c.args.planes.now in
    let row = row_at b c.args.y in
    let wide : length row ≡ b.width = c.width.ensures.planes.bitmap.columns c.args.y c.requires.inside in
    let long : length c.loop-column.row ≡ length c.args.row.now = c.loop-column.invariant.long in
    let past : length c.loop-column.row ≤ 8 * c.loop-column.column = omega (arith, long, c.loop-column-test.false) in
    put_all c.loop-column.row row (8 * c.loop-column.column) (long ∙ (c.requires.long ∙ sym wide)) past
    c.loop-column.invariant.written
