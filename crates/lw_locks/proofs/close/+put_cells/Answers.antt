-- Cells put in rising number.
use Rattle.std.proofs.Common.{vec_len, sym, ◌∙◌, arith, rules}
use Rattle.lw_locks.proofs.Closing.{taken_out, each_left, placed_more}
use Rattle.lw_locks.proofs.close.+put_cells.Goals as goal

pub put_cells-requires : goal.put_cells-requires
put_cells-requires g t c κs within =
    let whole = c.args.taken.now in
    let rest = c.remove-cell.new.self in
    let off = c.remove-cell.result in
    let found = c.place_of_slot-place.ensures in
    let less = c.remove-cell.ensures.len in
    let out = taken_out (λ one. one.0) c.as_slice.result.now whole.items rest.items off c.place_of_slot-place.result c.len-last.result (vec_len rest) (vec_len whole) c.as_slice.ensures.value found.place (found.slot off) c.len-last.ensures less
    c.remove-cell.ensures.value c.remove-cell.ensures.by_index.2 in
    let cells = c.requires.cells in
    let room = cells.1 in
    (search rules, (search rules, (each_left (λ one. one.0) whole.items rest.items off (vec_len rest) (vec_len whole) out less c.requires.each, (cells.0, omega (arith, less, room)))))

pub returns-clause-placed : goal.returns-clause-placed
returns-clause-placed g t c =
    let whole = c.args.taken.now in
    let rest = c.remove-cell.new.self in
    let off = c.remove-cell.result in
    let found = c.place_of_slot-place.ensures in
    let put = c.put_cells.new.cells in
    let out = taken_out (λ one. one.0) c.as_slice.result.now whole.items rest.items off c.place_of_slot-place.result c.len-last.result (vec_len rest) (vec_len whole) c.as_slice.ensures.value found.place (found.slot off) c.len-last.ensures c.remove-cell.ensures.len
    c.remove-cell.ensures.value c.remove-cell.ensures.by_index.2 in
    placed_more whole.items rest.items off (vec_len rest) put.items c.push_reserved.new.self.items out (sym c.put_cells.ensures.many.0 ∙ put.ok.0) c.put_cells.ensures.placed c.push_reserved.ensures.items
