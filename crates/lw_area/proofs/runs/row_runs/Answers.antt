use Rattle.std.proofs.Common.{◌≡◌, ◌%◌, length, to_z, of_z, w32, sym, subst, arith}
use Rattle.std.proofs.lemmas.Int.{ints}
use Rattle.lw_area.specs.Rows.{AreColumns}
use Rattle.lw_area.proofs.Sweeps.{are_pairs}
use Rattle.lw_area.proofs.runs.row_runs.Goals as goal

pub runs_of-requires-clause-pairs : goal.runs_of-requires-clause-pairs
runs_of-requires-clause-pairs c =
    let same : to_z w32 (of_z w32 c.args.row) ≡ c.args.row = omega (arith, ints) in
    let s : AreColumns c.args.edges.now c.args.row c.put_columns.new.columns.items =
    subst (λ w. AreColumns c.args.edges.now w c.put_columns.new.columns.items) same c.in_ok-put_columns.ensures in
    subst (λ w. length w % 2 ≡ 0) (sym c.as_slice.ensures.value) (are_pairs c.args.edges.now c.args.row c.put_columns.new.columns.items s c.requires.closed)
