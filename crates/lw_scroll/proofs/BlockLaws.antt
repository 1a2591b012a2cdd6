-- Laws of blocks of a layer's pixels.
use Rattle.std.proofs.Common.{◌≡◌, ℕ, ◌<◌, ◌≤◌, true, false, not, ◌&&◌, ℤ, pos, ◌+ℤ◌, ◌-ℤ◌, ◌<ℤ◌, ◌≤ℤ◌, int_le, inl, inr, Option, Some, None, MatchOption, ◌∙◌, sym, refl, ap, arith}
use Rattle.std.specs.Option.{SomeIff}
use Rattle.std.proofs.lemmas.Bool.{and_parts, lt-ltb, false_from_ne_true}
use Rattle.std.proofs.lemmas.Bool.Decides.{nat_tests}
use Rattle.std.proofs.lemmas.Int.{ints, by_lt_z}
use Rattle.std.proofs.Math.Bool.{and_comm}
use Rattle.lw_region.specs.Rectangle.{Rectangle, within, has_pixel, IsOrdered, IsWord}
use Rattle.lw_region.proofs.Meet.{and_swap}
use Rattle.lw_kernels.specs.Kernel.{is_between}
use Rattle.lw_machine.specs.Kept.{holds_at}
use Rattle.lw_machine.specs.Blits.{in_scroll_area}
use Rattle.lw_layer.specs.View.{LiveView}
use Rattle.lw_draw.specs.declared.spans.Places.{Places}
use Rattle.lw_scroll.specs.declared.block.Block.{Block}
use Rattle.lw_scroll.specs.Blocks.{has_place, in_block, IsBlockOf, IsAtSide, AreBrought, IsBrought}

-- a place from 0 on is one of some places
pub place_between : (p : Places) (u : ℕ) → has_place p (pos u) ≡ is_between p.from p.end u
place_between p u = grind (arith, ints, nat_tests)

-- The edges of the places that lead to one of some others a step further on.
pub record AreEdges (low high step first last : ℤ) : Type 0 where
  pub first_up : pos 0 ≤ℤ step → first ≡ low
  pub short_up : pos 0 ≤ℤ step → (high -ℤ step) ≤ℤ low → last ≡ low
  pub long_up : pos 0 ≤ℤ step → low ≤ℤ (high -ℤ step) → last ≡ high -ℤ step
  pub last_down : step <ℤ pos 0 → last ≡ high
  pub short_down : step <ℤ pos 0 → high ≤ℤ (low -ℤ step) → first ≡ high
  pub long_down : step <ℤ pos 0 → (low -ℤ step) ≤ℤ high → first ≡ low -ℤ step

-- a step on
steps_up : (low high first last step z : ℤ) → low ≤ℤ high → pos 0 ≤ℤ step → first ≡ low
    → ((high -ℤ step) ≤ℤ low → last ≡ low) → (low ≤ℤ (high -ℤ step) → last ≡ high -ℤ step)
    → (int_le first z && not (int_le last z))
    ≡ ((int_le low z && not (int_le high z)) && (int_le low (z +ℤ step) && not (int_le high (z +ℤ step))))
steps_up low high first last step z ordered up is short long = grind (arith, ints, nat_tests)

-- and a step back
steps_down : (low high first last step z : ℤ) → low ≤ℤ high → step <ℤ pos 0 → last ≡ high
    → (high ≤ℤ (low -ℤ step) → first ≡ high) → ((low -ℤ step) ≤ℤ high → first ≡ low -ℤ step)
    → (int_le first z && not (int_le last z))
    ≡ ((int_le low z && not (int_le high z)) && (int_le low (z +ℤ step) && not (int_le high (z +ℤ step))))
steps_down low high first last step z ordered down is short long = grind (arith, ints, nat_tests)

-- such places begin or end with the others
side_up : (p part : Places) (step first last : ℤ) → pos part.from ≡ first → pos part.end ≡ last → pos 0 ≤ℤ step
    → AreEdges (pos p.from) (pos p.end) step first last → IsAtSide p part
side_up p part step first last begins ends up are =
    let ordered = p.ordered in
    let low = are.first_up up in
    by_lt_z (pos p.end -ℤ step) (pos p.from)
    (λ a. let high = are.short_up up (omega (arith, ints)) in
    record {
      first = omega (arith, ints);
      last = omega (arith, ints);
      side = inl
          (omega (arith, ints));
    })
    (λ a. let high = are.long_up up a in
    record {
      first = omega (arith, ints);
      last = omega (arith, ints);
      side = inl
          (omega (arith, ints));
    })

side_down : (p part : Places) (step first last : ℤ) → pos part.from ≡ first → pos part.end ≡ last
    → step <ℤ pos 0
    → AreEdges (pos p.from) (pos p.end) step first last → IsAtSide p part
side_down p part step first last begins ends down are =
    let ordered = p.ordered in
    let high = are.last_down down in
    by_lt_z (pos p.end) (pos p.from -ℤ step)
    (λ a. let low = are.short_down down (omega (arith, ints)) in
    record {
      first = omega (arith, ints);
      last = omega (arith, ints);
      side = inr
          (omega (arith, ints));
    })
    (λ a. let low = are.long_down down a in
    record {
      first = omega (arith, ints);
      last = omega (arith, ints);
      side = inr
          (omega (arith, ints));
    })

pub brought_of : (p part : Places) (step first last : ℤ) → pos part.from ≡ first → pos part.end ≡ last
    → AreEdges (pos p.from) (pos p.end) step first last → AreBrought p step part
brought_of p part step first last begins ends are =
    let ordered = p.ordered in
    let in_order : pos p.from ≤ℤ pos p.end = omega (arith, ints) in
    by_lt_z step (pos 0)
    (λ down. record {
      at_side = side_down p part step first last begins ends down are;
      has = λ z. rw (begins, ends)
          (steps_down (pos p.from) (pos p.end) first last step z in_order down (are.last_down down) (are.short_down down)
          (are.long_down down));
    })
    (λ up. record {
      at_side = side_up p part step first last begins ends up are;
      has = λ z. rw (begins, ends)
          (steps_up (pos p.from) (pos p.end) first last step z in_order up (are.first_up up) (are.short_up up) (are.long_up up));
    })

-- the pixels of a block that lead to one of it
pub leads_inside : (b part : Block) (dx dy : ℤ) → IsBrought b dx dy part → (x y : ℤ)
    → in_block part x y ≡ (in_block b x y && in_block b (x +ℤ dx) (y +ℤ dy))
leads_inside b part dx dy are x y =
    rw (are.columns.has x, are.rows.has y)
    (and_swap (has_place b.columns x) (has_place b.columns (x +ℤ dx)) (has_place b.rows y) (has_place b.rows (y +ℤ dy)))

-- the same of a rectangle's pixels
pub leads_to_area : (c : LiveView) (rect : Rectangle) (b part : Block) (dx dy : ℤ) → IsBlockOf c rect b → IsBrought b dx dy part
    → (x y : ℕ) → x < c.layer.bits.width → y < c.layer.bits.height
    → in_block part (pos x) (pos y)
    ≡ (has_pixel rect (pos x) (pos y) && holds_at (λ i j. in_scroll_area rect c.layer i j) (pos x +ℤ dx) (pos y +ℤ dy))
leads_to_area c rect b part dx dy is are x y left low =
    leads_inside b part dx dy are (pos x) (pos y)
    ∙ (ap (λ t. t && in_block b (pos x +ℤ dx) (pos y +ℤ dy))
    (is (pos x) (pos y) ∙ rw (lt-ltb x c.layer.bits.width left, lt-ltb y c.layer.bits.height low) refl)
    ∙ ap (λ t. has_pixel rect (pos x) (pos y) && t) (is (pos x +ℤ dx) (pos y +ℤ dy)))

-- there and back
there_back : (z step back : ℤ) → back ≡ pos 0 -ℤ step → (z +ℤ step) +ℤ back ≡ z
there_back z step back is = omega (arith, ints, is)

-- the pixels that lead to one of a block, and those to which one leads
pub shifted_blocks : (b target source : Block) (dx dy back_x back_y : ℤ) → back_x ≡ pos 0 -ℤ dx → back_y ≡ pos 0 -ℤ dy
    → IsBrought b dx dy target → IsBrought b back_x back_y source → (x y : ℤ)
    → in_block target x y ≡ in_block source (x +ℤ dx) (y +ℤ dy)
shifted_blocks b target source dx dy back_x back_y left up are back x y =
    leads_inside b target dx dy are x y
    ∙ (and_comm (in_block b x y) (in_block b (x +ℤ dx) (y +ℤ dy))
    ∙ (ap (λ u. in_block b (x +ℤ dx) (y +ℤ dy) && in_block b u y) (sym (there_back x dx back_x left))
    ∙ (ap (λ v. in_block b (x +ℤ dx) (y +ℤ dy) && in_block b ((x +ℤ dx) +ℤ back_x) v) (sym (there_back y dy back_y up))
    ∙ sym (leads_inside b source back_x back_y back (x +ℤ dx) (y +ℤ dy)))))

-- the places of a layer are words
place_low : (p : Places) (z : ℤ) → has_place p z ≡ true → pos p.from ≤ℤ z
place_low p z has = grind (arith, ints)

place_high : (p : Places) (z : ℤ) → has_place p z ≡ true → (z +ℤ pos 1) ≤ℤ pos p.end
place_high p z has = grind (arith, ints)

pub place_word : (p : Places) (z : ℤ) → p.end ≤ 2048 → has_place p z ≡ true → IsWord z
place_word p z near has =
    let low = place_low p z has in
    let high = place_high p z has in
    (omega (arith, ints), omega (arith, ints))

-- some places between their edges
place_within : (p : Places) (low high z : ℤ) → low ≡ pos p.from → high +ℤ pos 1 ≡ pos p.end → within low z high ≡ has_place p z
unfolding within
place_within p low high z first last = grind (arith, ints)

edges_ordered : (p : Places) (low high z : ℤ) → low ≡ pos p.from → high +ℤ pos 1 ≡ pos p.end → has_place p z ≡ true
    → low ≤ℤ high
edges_ordered p low high z first last has =
    let before = place_low p z has in
    let behind = place_high p z has in
    omega (arith, ints)

-- a block as a rectangle, or as none
pub rect_made : (o : Option Rectangle) (b : Block) (left top right bottom : ℤ)
    → SomeIff o (IsOrdered (record { min_x = left; min_y = top; max_x = right; max_y = bottom }))
    (record { min_x = left; min_y = top; max_x = right; max_y = bottom })
    → left ≡ pos b.columns.from → right +ℤ pos 1 ≡ pos b.columns.end → top ≡ pos b.rows.from → bottom +ℤ pos 1 ≡ pos b.rows.end
    → MatchOption o ((x y : ℤ) → in_block b x y ≡ false) (λ r. (x y : ℤ) → has_pixel r x y ≡ in_block b x y)
rect_made None b left top right bottom made first last upper lower = λ x y.
    false_from_ne_true _ (λ has.
    let sides = and_parts _ _ has in
    made (record {
      columns = edges_ordered b.columns left right x first last sides.0;
      rows = edges_ordered b.rows top bottom y upper lower sides.1;
    }))
rect_made (Some r) b left top right bottom made first last upper lower = λ x y.
    ap (λ (q : Rectangle). has_pixel q x y) made.1
    ∙ rw (place_within b.columns left right x first last, place_within b.rows top bottom y upper lower) refl
