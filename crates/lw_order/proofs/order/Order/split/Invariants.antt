use Rattle.lw_order.proofs.order.Order.split.Given as goal

abbrev pub ghosts-split_as : goal.ghosts-split_as
ghosts-split_as a = record { off = a.off }
