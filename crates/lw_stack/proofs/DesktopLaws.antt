-- The desktop of a screen without a layer.
use Rattle.std.proofs.Common.{◌≡◌, ◌≤◌, List, [], ◌∷◌, None, refl, sym, subst, ◌∙◌, arith}
use Rattle.std.proofs.lemmas.List.Elements.{All-nil, All-cons}
use Rattle.std.proofs.Math.Bool.{and-true}
use Rattle.lw_region.specs.Rectangle.{Rectangle, has_pixel, width, height}
use Rattle.lw_region.proofs.SetOps.{covers_one}
use Rattle.lw_planes.specs.Sizes.{AreSizes}
use Rattle.lw_calls.specs.declared.sizes.Sizes.{Sizes}
use Rattle.lw_calls.specs.Limits.{IsWithinLimits}
use Rattle.lw_calls.proofs.LimitLaws.{screen_at_most}
use Rattle.lw_machine.specs.Screen.{screen_bounds}
use Rattle.lw_strips.specs.Strips.{StripView, strip_of, blank_planes}
use Rattle.lw_strips.proofs.LayingLaws.{screen_sizes}
use Rattle.lw_stack.specs.Stack.{Stack, first_at}
use Rattle.lw_stack.specs.Desktop.{IsDesktop}

-- no screen has more than 2,048 columns or rows
pub columns_most : (sizes : Sizes) → IsWithinLimits sizes → sizes.width ≤ 2048
columns_most sizes limits = omega (arith, limits.columns, screen_at_most sizes.version)

pub rows_most : (sizes : Sizes) → IsWithinLimits sizes → sizes.height ≤ 2048
rows_most sizes limits = omega (arith, limits.rows, screen_at_most sizes.version)

-- a screen may be a strip
pub screen_may : (sizes : Sizes) (r : Rectangle) → r ≡ screen_bounds sizes → IsWithinLimits sizes
    → AreSizes (width r) (height r) sizes.depth
screen_may sizes r is limits =
    screen_sizes sizes.width sizes.height sizes.depth r is
    (record {
      columns = (limits.some_columns, columns_most sizes limits);
      rows = (limits.some_rows, rows_most sizes limits);
      planes = (limits.some_planes, limits.planes);
    })

-- one strip is the whole desktop
pub one_desktop : (v : Stack) (strips : List StripView) (r : Rectangle) → v.front_to_back ≡ []
    → r ≡ screen_bounds v.sizes → strips ≡ strip_of r v.sizes.depth None ∷ [] → IsDesktop v strips
unfolding first_at
one_desktop v strips r none is one =
    let P : List StripView → Type 0 = λ ss. IsDesktop v ss in
    let pens : StripView → Type 0 = λ s. s.planes ≡ blank_planes s.rect v.sizes.depth in
    subst P (sym one)
    (record {
      disjoint = λ i j d before below. absurd (omega arith);
      places = λ x y. covers_one r x y ∙ rw (is, none) (sym (and-true (has_pixel (screen_bounds v.sizes) x y)));
      pens = All-cons pens (strip_of r v.sizes.depth None) [] refl (All-nil pens);
    })
