use Rattle.lw_order.proofs.order.Order.join.Given as goal

abbrev pub ghosts-learn : goal.ghosts-learn
ghosts-learn a = record { sizes = a.self.now.sizes }
