-- What a comparison of two rectangles, and of two lists of them, tells.
use Rattle.std.proofs.Common.{◌≡◌, Bool, true, ◌&&◌, List, ap}
use Rattle.std.specs.Bool.{Decides}
use Rattle.std.specs.Ordering.{int_eq}
use Rattle.std.specs.Cmp.Lexicographic.{pointwise}
use Rattle.std.proofs.lemmas.Bool.{and_from}
use Rattle.std.proofs.lemmas.Slice.Eq.{slice_eq-Decides}
use Rattle.lw_region.specs.Rectangle.{Rectangle}
use Rattle.lw_region.proofs.Numbers.{eq_true}
use Rattle.lw_reveal.proofs.PairingLaws.{edges_same}

-- the test of two rectangles, edge by edge
abbrev pub same_edges : Rectangle → Rectangle → Bool
same_edges r s = int_eq r.min_x s.min_x && (int_eq r.min_y s.min_y && (int_eq r.max_x s.max_x && int_eq r.max_y s.max_y))

pub edges_decide : (r s : Rectangle) → Decides (same_edges r s) (r ≡ s)
edges_decide r s = (
  edges_same r s,
  λ is. and_from _ _ (eq_true r.min_x s.min_x (ap (λ q. q.min_x) is)) (and_from _ _ (eq_true r.min_y s.min_y (ap (λ q. q.min_y) is))
      (and_from _ _ (eq_true r.max_x s.max_x (ap (λ q. q.max_x) is)) (eq_true r.max_y s.max_y (ap (λ q. q.max_y) is)))),
)

-- lists of rectangles that a comparison finds equal are
pub same_list : (shown listed : List Rectangle) (u : Bool) → u ≡ pointwise same_edges shown listed → u ≡ true → shown ≡ listed
same_list shown listed u u_is u_true = (slice_eq-Decides edges_decide shown listed u u_is).0 u_true
