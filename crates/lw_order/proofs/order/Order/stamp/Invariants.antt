use Rattle.lw_order.proofs.order.Order.stamp.Given as goal

abbrev pub ghosts-stamp_as : goal.ghosts-stamp_as
ghosts-stamp_as a = record { sizes = a.self.now.sizes; task = a.task; call = a.call.now }
