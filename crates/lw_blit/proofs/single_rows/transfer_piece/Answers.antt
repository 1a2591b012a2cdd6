use Rattle.lw_blit.proofs.MoveLaws.{rows_moved}
use Rattle.lw_blit.proofs.single_rows.transfer_piece.Goals as goal

pub move_planes-requires : goal.move_planes-requires
move_planes-requires c = record { blocks = c.in-Some.ensures.move }

pub returns-in-Some : goal.returns-in-Some
returns-in-Some c =
    rows_moved c.args.layer.now c.move_planes.new.layer c.args.transfer c.args.mask c.args.rows c.args.columns c.in-Some.blocks c.in-Some.ensures c.move_planes.ensures
