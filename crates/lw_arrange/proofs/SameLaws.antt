-- What a comparison of the bounds of all slots tells, and which layers an arrangement leaves as they are.
use Rattle.std.proofs.Common.{◌≡◌, Bool, true, false, List, Option, Some, None, refl, sym, ap, subst, ◌∙◌, ℤ}
use Rattle.std.specs.Bool.{Decides}
use Rattle.std.specs.Option.{is_some, option_eq}
use Rattle.std.specs.Cmp.Lexicographic.{pointwise}
use Rattle.std.proofs.lemmas.Bool.{false≢true}
use Rattle.std.proofs.lemmas.Slice.Eq.{slice_eq-Decides}
use Rattle.lw_region.specs.Rectangle.{Rectangle}
use Rattle.lw_region.specs.Bands.{covers}
use Rattle.lw_layer.specs.View.{CellView, with_live}
use Rattle.lw_layer.specs.View as view
use Rattle.lw_layer.specs.Pieces.{IsDamageOf}
use Rattle.lw_layer.specs.StandsFor.{IsSound}
use Rattle.lw_damage.specs.Damaged.{Damaged, may_lie}
use Rattle.lw_stack.specs.Stack.{bounds_at}
use Rattle.lw_reveal.specs.Changed.{carried_to}
use Rattle.lw_reveal.proofs.SameRects.{same_edges, edges_decide}
use Rattle.lw_reveal.proofs.RevealLaws.{revealed_same}
use Rattle.lw_arrange.specs.Arrangements.{ArrangementView}
use Rattle.lw_arrange.specs.Prepared.{created_by, becomes, with_bounds, shown_at}
use Rattle.lw_arrange.specs.Areas.{IsShownUnlessExchanged, IsUnaffected}
use Rattle.lw_arrange.specs.Pieces.{exchanges}
use Rattle.lw_arrange.proofs.VisibleLaws.{unexchanged_shown}

-- two rectangles that may be none are compared, and lists of such
maybe_decide : (r s : Option Rectangle) → Decides (option_eq same_edges r s) (r ≡ s)
maybe_decide None None = (λ same. refl, λ is. refl)
maybe_decide None (Some s) = (λ same. absurd (false≢true same), λ is. absurd (false≢true (ap is_some is)))
maybe_decide (Some r) None = (λ same. absurd (false≢true same), λ is. absurd (false≢true (ap is_some (sym is))))
maybe_decide (Some r) (Some s) = let both = edges_decide r s in (λ same. ap Some (both.0 same), λ is. both.1 (cc is))

pub same_bounds_list : (before after : List (Option Rectangle)) (u : Bool) → u ≡ pointwise (option_eq same_edges) before after → u ≡ true
    → before ≡ after
same_bounds_list before after u u_is u_true = (slice_eq-Decides maybe_decide before after u u_is).0 u_true

-- A layer whose bounds and visible rectangles are the new ones is revealed as it is.
pub stays_same : (c : CellView) (d : Damaged) (bounds : Rectangle) (visible : List Rectangle) → IsSound c.live → IsDamageOf c.live d
    → ((x y : ℤ) → covers d.rects x y ≡ true → may_lie d.inner x y ≡ true) → c.live.bounds ≡ bounds → c.live.visible ≡ visible
    → with_live (λ q. carried_to bounds visible q) c ≡ c
stays_same c d bounds visible sound damage lies place list =
    ap (λ b. with_live (λ q. carried_to b visible q) c) (sym place) ∙
    (ap (λ v. with_live (λ q. carried_to c.live.bounds v q) c) (sym list) ∙ ap (λ q. record c { live = q }) (revealed_same c.live d sound damage lies))

-- A layer that stays where it is and neither loses nor gains a piece stays as it is.
pub unexchanged_same : (a : ArrangementView) (c : CellView) (d : Damaged) (bounds : Rectangle) → IsSound c.live → IsDamageOf c.live d
    → ((x y : ℤ) → covers d.rects x y ≡ true → may_lie d.inner x y ≡ true) → c.state ≡ view.Live
    → bounds_at a.stack.bounds c.number ≡ Some bounds → c.live.bounds ≡ bounds → exchanges c.number a.pieces ≡ false
    → IsShownUnlessExchanged a c → IsUnaffected a c
unexchanged_same a c d bounds sound damage lies live here place none shown_so_far =
    let new = created_by a.task a.call in
    let depth = a.stack.sizes.depth in
    let shown = shown_at a c.number in
    let Here : Rectangle → Type 0 = λ r. bounds_at a.stack.bounds c.number ≡ Some r in
    record {
      live = live;
      bounds = subst Here (sym place) here;
      unexchanged = none;
      same =
          ap (becomes new depth shown c) here
          ∙ (ap (with_bounds new depth bounds shown c) live
          ∙ stays_same c d bounds shown sound damage lies place (unexchanged_shown a c sound live none shown_so_far));
    }
