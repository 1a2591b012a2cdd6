-- Laws of places between two edges.
use Rattle.std.proofs.Common.{◌≡◌, ℕ, ◌<◌, ◌≤◌, ℤ, pos, ◌+ℤ◌, ◌≤ℤ◌, int_le, ⊎_elim, arith}
use Rattle.std.proofs.lemmas.Bool.{cases_lt}
use Rattle.std.proofs.lemmas.Bool.Decides.{nat_tests}
use Rattle.std.proofs.lemmas.Int.{ints}
use Rattle.lw_region.specs.Rectangle.{within}
use Rattle.lw_kernels.specs.Kernel.{is_between}

-- the places between two edges
pub between_edges : (least greatest past : ℤ) (from end u : ℕ) → past ≡ greatest +ℤ pos 1 → int_le least (pos u) ≡ int_le (pos from) (pos u) → int_le past (pos u) ≡ int_le (pos end) (pos u) → within least (pos u) greatest ≡ is_between from end u
unfolding within
between_edges least greatest past from end u is first last = grind (arith, ints, nat_tests)

-- the edges are in their order
edges_cross : (least greatest past : ℤ) (from end : ℕ) → past ≡ greatest +ℤ pos 1 → least ≤ℤ greatest → end < from → int_le least (pos end) ≡ int_le (pos from) (pos end) → int_le past (pos end) ≡ int_le (pos end) (pos end) → from ≤ end
edges_cross least greatest past from end is ordered crossed first last = grind (arith, ints, nat_tests)

pub edges_ordered : (least greatest past : ℤ) (from end extent : ℕ) → past ≡ greatest +ℤ pos 1 → least ≤ℤ greatest → from ≤ extent → ((u : ℕ) → u < extent → int_le least (pos u) ≡ int_le (pos from) (pos u)) → ((u : ℕ) → u < extent → int_le past (pos u) ≡ int_le (pos end) (pos u)) → from ≤ end
edges_ordered least greatest past from end extent is ordered near first last =
    ⊎_elim
    (λ (crossed : end < from). let inside : end < extent = omega arith in edges_cross least greatest past from end is ordered crossed (first end inside) (last end inside))
    (λ (fine : from ≤ end). fine)
    (cases_lt end from)
