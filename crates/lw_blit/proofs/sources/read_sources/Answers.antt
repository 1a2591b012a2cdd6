use Rattle.std.proofs.Common.{◌≡◌, ◌==◌, Bool, ◌||◌, ◌∙◌, sym, refl, ap, subst, ℤ, to_z, of_z, w32, arith}
use Rattle.std.proofs.lemmas.Int.{ints}
use Rattle.lw_planes.specs.Row.{row_bit}
use Rattle.lw_blit.specs.Blitting.{taken_column, taken_row, AreSources}
use Rattle.lw_blit.specs.declared.sources.SourceRows.{SourceRows}
use Rattle.lw_blit.proofs.SourceLaws.{all_taken, sources_read}
use Rattle.lw_blit.proofs.sources.read_sources.Goals as goal
use Rattle.lw_blit.proofs.sources.read_sources.Goals.{then-transfer, else-transfer}

-- a number as the code has it
abbrev word : ℤ → ℤ
word z = to_z w32 (of_z w32 z)

pub returns : goal.returns
returns c =
    let live = c.args.source.now in
    let t = c.args.transfer in
    let from = c.args.columns.from in
    let end = c.args.columns.end in
    let y = c.args.y in
    let read = c.read_planes.new.rows in
    let column : word c.source_place-x.result ≡ taken_column t from = omega (arith, ints, c.source_place-x.ensures) in
    let row : word c.source_place-line.result ≡ taken_row t y = omega (arith, ints, c.source_place-line.ensures) in
    let P : SourceRows → Bool → Type 0 = λ r all. AreSources live t c.args.mask c.args.planes y from end (record { bits = r.bits; kept = r.kept; all = all }) in
    elim c.if-transfer.branch [
      | then-transfer w ↦ subst (λ r. P r c.if-transfer.rows2) (sym w.rows-is) (subst (λ all. P read all) (sym w.rows2-is) (sources_read live t c.args.mask c.args.planes y from end (word c.source_place-x.result) (word c.source_place-line.result) read read.kept t.clears column row c.read_planes.ensures (λ i low. refl) (λ i low. refl)))
      | else-transfer w ↦ subst (λ r. P r c.if-transfer.rows2) (sym w.rows-is) (subst (λ all. P (record read { kept = w.has_all-rows.new.row }) all) (sym w.rows2-is) (sources_read live t c.args.mask c.args.planes y from end (word c.source_place-x.result) (word c.source_place-line.result) read w.has_all-rows.new.row w.has_all-rows.result column row c.read_planes.ensures w.has_all-rows.ensures.same (λ i low. all_taken w.has_all-rows.result (row_bit w.has_all-rows.new.row i) (λ e. w.has_all-rows.ensures.all e i low) ∙ ap (λ q. q || row_bit w.has_all-rows.new.row i == 1) (sym w.if-transfer.false))))
    ]
