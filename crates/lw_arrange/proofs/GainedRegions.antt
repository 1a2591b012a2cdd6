-- The region of the pixels that an arrangement fills.
use Rattle.std.proofs.Common.{◌≡◌, ℕ, ◌==◌, Bool, true, false, not, ◌&&◌, ◌||◌, List, [], ◌∷◌, length, Option, Some, None, refl, sym, ap, subst, ◌∙◌, ⊎_elim, arith, ℤ, pos, negsuc, unsigned_abs}
use Rattle.std.proofs.Math.Path.{fun_ext}
use Rattle.std.proofs.lemmas.Bool.{cases_Bool, both_ways, false_from_ne_true, and_right}
use Rattle.std.proofs.lemmas.Bool.Decides.{nat_tests}
use Rattle.std.proofs.Math.Bool.{and-false}
use Rattle.lw_region.specs.Rectangle.{Rectangle, IsOrdered, width, height}
use Rattle.lw_region.specs.Bands.{covers}
use Rattle.lw_region.specs.Banded.{IsCanonical}
use Rattle.lw_region.proofs.Canonical.{covers_nil}
use Rattle.lw_region.proofs.SetOps.{canonical_empty}
use Rattle.lw_calls.specs.declared.make.Kind.{Kind}
use Rattle.lw_calls.specs.declared.make.Kind.TheVariants.{Simple, Smart, SuperBitmap}
use Rattle.lw_calls.specs.declared.make.Make.{Make}
use Rattle.lw_calls.specs.Kinds.{is_super}
use Rattle.lw_cliprects.specs.Parts.{LieIn}
use Rattle.lw_damage.specs.Damaged.{may_lie}
use Rattle.lw_machine.specs.Hook.{Hook}
use Rattle.lw_machine.specs.Layer.{Window, is_framed}
use Rattle.lw_machine.specs.Kept.{is_kept, holds_at}
use Rattle.lw_machine.specs.Reveal.{Across, counts_as_kept, at_new_size}
use Rattle.lw_machine.specs.Reveal as reveal
use Rattle.lw_layer.specs.View.{State, LiveView, CellView, keeps}
use Rattle.lw_layer.specs.View as view
use Rattle.lw_layer.specs.New.{IsNewSize, new_live}
use Rattle.lw_layer.specs.StandsFor.{IsSound}
use Rattle.lw_layer.specs.Keeping.{keeps_pixel, AreKept}
use Rattle.lw_layer.proofs.KeepingLaws.{IsPlain, kept_pixel}
use Rattle.lw_layer.proofs.PixelTests.{one_within, none_within}
use Rattle.lw_layer.proofs.NewDraftLaws.{box_extent}
use Rattle.lw_reveal.specs.Changed.{across_to}
use Rattle.lw_reveal.specs.Counted.{inner_with, counts_pixel, AreCounted}
use Rattle.lw_reveal.proofs.GainedView.{gained_view, gained_plain, carried_own}
use Rattle.lw_reveal.proofs.GainedCounts.{counted_pixel}
use Rattle.lw_stack.specs.Stack.{bounds_at}
use Rattle.lw_arrange.specs.Arrangements.{ArrangementView}
use Rattle.lw_arrange.specs.Prepared.{Created, created_by, kind_of, without_layer, becomes, shown_at, cell_after, MayBeNew, MayOpen}
use Rattle.lw_arrange.specs.Filled.{keeps_if_live, counts_if_live, gains, gains_some, AreGained, filled_by}
use Rattle.lw_arrange.proofs.GainsLaws.{stayed, none_gained, gains_stayed, gained_inside}
use Rattle.lw_arrange.proofs.OpenedLaws.{new_width, new_height, created, none_counted}

-- tests on layer pixels that are the same at each pixel are so at each place
pub same_at : (f g : ℕ → ℕ → Bool) → ((x y : ℕ) → f x y ≡ g x y) → (x y : ℤ) → holds_at f x y ≡ holds_at g x y
same_at f g same (pos x) (pos y) = same x y
same_at f g same (pos x) (negsuc y) = refl
same_at f g same (negsuc x) y = refl

never_at : (f : ℕ → ℕ → Bool) → ((x y : ℕ) → f x y ≡ false) → (x y : ℤ) → holds_at f x y ≡ false
never_at f none (pos x) (pos y) = none x y
never_at f none (pos x) (negsuc y) = refl
never_at f none (negsuc x) y = refl

-- of two tests, the one without the other
without_at : (f g : ℕ → ℕ → Bool) (x y : ℤ)
    → holds_at (λ i j. f i j && not (g i j)) x y ≡ (holds_at f x y && not (holds_at g x y))
without_at f g (pos x) (pos y) = refl
without_at f g (pos x) (negsuc y) = refl
without_at f g (negsuc x) y = refl

-- no pixel of a super-bitmap layer counts as kept
own_unkept : (kind : Kind) (bounds : Rectangle) (visible : List Rectangle) (x y : ℤ) → is_super kind ≡ true
    → keeps_pixel kind bounds visible x y ≡ false
own_unkept Simple bounds visible x y own = absurd (cc own)
own_unkept Smart bounds visible x y own = absurd (cc own)
own_unkept SuperBitmap bounds visible x y own = refl

-- No pixel is gained by a slot that isn't live afterwards.
pub dead_gained : (from to : CellView) → (to.state ≡ view.Live → ⊥) → AreGained from to []
dead_gained from to dead x y =
    covers_nil x y ∙ sym (never_at (λ i j. gains from to i j)
    (λ i j. and_right _ _ (ap (λ t. t && not (counts_if_live from.state from.live to.live i j)) (off i j))) x y)
  where
    by_state : (s : State) (i j : ℕ) → to.state ≡ s → keeps_if_live s to.live i j ≡ false
    by_state view.Unopened i j is = refl
    by_state view.Live i j is = absurd (dead is)
    by_state view.Closed i j is = refl

    off : (i j : ℕ) → keeps_if_live to.state to.live i j ≡ false
    off i j = by_state to.state i j refl

dead_without : (c : CellView) → (without_layer c c.state).state ≡ view.Live → ⊥
dead_without c = go c.state refl
  where
    go : (q : State) → c.state ≡ q → (without_layer c q).state ≡ view.Live → ⊥
    go view.Unopened is live = cc (is, live)
    go view.Live is live = cc live
    go view.Closed is live = cc (is, live)

-- So nothing is gained where a slot has no bounds afterwards.
pub unbounded_gained : (a : ArrangementView) (c : CellView) → bounds_at a.stack.bounds c.number ≡ None → AreGained c (cell_after a c) []
unbounded_gained a c none =
    let after : cell_after a c ≡ without_layer c c.state =
    ap (becomes (created_by a.task a.call) a.stack.sizes.depth (shown_at a c.number) c) none in
    let P : CellView → Type 0 = λ v. AreGained c v [] in
    subst P (sym after) (dead_gained c (without_layer c c.state) (dead_without c))

-- a new layer is laid out plainly
new_plain : (make : Make) (depth : ℕ) (bounds : Rectangle) (visible : List Rectangle) (window : Option Window)
    → is_super make.kind ≡ false → IsNewSize make depth bounds → IsOrdered bounds → LieIn bounds visible
    → IsPlain (new_live make depth bounds visible window 0)
new_plain make depth bounds visible window other size ordered inside = record {
  ordered = ordered;
  inside = inside;
  left = refl;
  upper = refl;
  wide =
      new_width make.kind depth make other
      ∙ (ap unsigned_abs (sym (box_extent make.x make.w)) ∙ ap width (sym size.place));
  high =
      new_height make.kind depth make other
      ∙ (ap unsigned_abs (sym (box_extent make.y make.h)) ∙ ap height (sym size.place));
}

-- what is gained where nothing was kept before
all_new : (own counted now : Bool) → own ≡ false → counted ≡ false → now ≡ (not own && (now && not counted))
all_new true counted now other none = absurd (cc other)
all_new false true now other none = absurd (cc none)
all_new false false true other none = refl
all_new false false false other none = refl

-- A new layer gains the pixels that it keeps, asked at any place.
new_at : (c : CellView) (n : Created) (depth : ℕ) (bounds : Rectangle) (visible : List Rectangle) (x y : ℤ)
    → (c.state ≡ view.Live → ⊥) → IsNewSize n.make depth bounds → IsOrdered bounds → LieIn bounds visible
    → keeps_pixel n.make.kind bounds visible x y
    ≡ holds_at (λ i j. gains c (created c n.make depth bounds visible n.window) i j) x y
new_at c n depth bounds visible x y dead size ordered inside = go (is_super n.make.kind) refl
  where
    kind : Kind
    kind = n.make.kind

    new : LiveView
    new = new_live n.make depth bounds visible n.window 0

    to : CellView
    to = created c n.make depth bounds visible n.window

    go : (own : Bool) → is_super kind ≡ own → keeps_pixel kind bounds visible x y ≡ holds_at (λ i j. gains c to i j) x y
    go true own =
        own_unkept kind bounds visible x y own ∙ sym (never_at (λ i j. gains c to i j) (λ i j. none_gained c to i j own) x y)
    go false own =
        kept_pixel new kind refl own (new_plain n.make depth bounds visible n.window own size ordered inside) x y
        ∙ same_at (λ i j. keeps new i j) (λ i j. gains c to i j)
        (λ i j. all_new (is_super kind) (counts_if_live c.state c.live new i j) (keeps new i j) own
        (none_counted c.state c.live new i j dead)) x y

-- what the carried layer keeps is what the machine's does
carried_keeps : (c : LiveView) (bounds : Rectangle) (visible : List Rectangle) (x y : ℕ)
    → keeps (gained_view bounds visible c) x y
    ≡ reveal.keeps (across_to c bounds visible) (at_new_size (across_to c bounds visible) c.layer) x y
unfolding keeps is_kept
carried_keeps c bounds visible x y = refl

-- A layer that stays live gains the pixels that it keeps afterwards and that don't count as kept before.
more_at : (c : CellView) (bounds : Rectangle) (visible : List Rectangle) (x y : ℤ) → c.state ≡ view.Live → IsSound c.live
    → IsOrdered bounds → LieIn bounds visible
    → (keeps_pixel c.live.layer.kind bounds visible x y && not (counts_pixel c.live bounds x y))
    ≡ holds_at (λ i j. gains c (stayed bounds visible c) i j) x y
more_at c bounds visible x y live sound ordered inside = go (is_super kind) refl
  where
    kind : Kind
    kind = c.live.layer.kind

    to : CellView
    to = stayed bounds visible c

    k : Across
    k = across_to c.live bounds visible

    go : (own : Bool) → is_super kind ≡ own
        → (keeps_pixel kind bounds visible x y && not (counts_pixel c.live bounds x y)) ≡ holds_at (λ i j. gains c to i j) x y
    go true own =
        let still : is_super to.live.layer.kind ≡ true =
        ap (λ (v : LiveView). is_super v.layer.kind) (carried_own c.live bounds visible own) ∙ own in
        ap (λ t. t && not (counts_pixel c.live bounds x y)) (own_unkept kind bounds visible x y own)
        ∙ sym (never_at (λ i j. gains c to i j) (λ i j. none_gained c to i j still) x y)
    go false own =
        let g = gained_view bounds visible c.live in
        let counted : ℕ → ℕ → Bool = λ i j. counts_as_kept k c.live.layer i j in
        let now : keeps_pixel kind bounds visible x y ≡ holds_at (λ i j. keeps g i j) x y =
        kept_pixel g kind refl own (gained_plain c.live bounds visible sound ordered inside own) x y in
        let was : counts_pixel c.live bounds x y ≡ holds_at counted x y = counted_pixel c.live bounds visible x y sound own in
        ap (λ t. t && not (counts_pixel c.live bounds x y)) now
        ∙ (ap (λ t. holds_at (λ i j. keeps g i j) x y && not t) was
        ∙ (sym (without_at (λ i j. keeps g i j) counted x y)
        ∙ same_at (λ i j. keeps g i j && not (counted i j)) (λ i j. gains c to i j)
        (λ i j.
        ap (λ t. t && not (counted i j)) (carried_keeps c.live bounds visible i j)
        ∙ sym (gains_stayed c bounds visible c.live.active c.live.active i j live own)) x y))

-- The pixels that a new layer keeps are those that it gains.
pub anew_gained : (c : CellView) (n : Created) (depth : ℕ) (bounds : Rectangle) (listed visible made : List Rectangle)
    → (c.state ≡ view.Live → ⊥) → listed ≡ visible → IsNewSize n.make depth bounds → IsOrdered bounds → LieIn bounds visible
    → AreKept n.make.kind bounds listed made
    → AreGained c (created c n.make depth bounds visible n.window) made
anew_gained c n depth bounds listed visible made dead lists size ordered inside are x y =
    are x y
    ∙ (ap (λ l. keeps_pixel n.make.kind bounds l x y) lists ∙ new_at c n depth bounds visible x y dead size ordered inside)

-- what a new layer asks, told of the one that is created
pub record IsMade (o : Option Created) (depth : ℕ) (bounds : Rectangle) (kind : Kind) : Type 0 where
  pub created : Created
  pub is : o ≡ Some created
  pub may : MayBeNew created depth bounds
  pub kind_is : kind ≡ created.make.kind

pub made_of : (o : Option Created) (depth : ℕ) (bounds : Rectangle) (kind : Kind) → MayOpen o depth bounds → kind_of o ≡ Some kind
    → IsMade o depth bounds kind
made_of None depth bounds kind may is = absurd may
made_of (Some n) depth bounds kind may is = record {
  created = n;
  is = refl;
  may = may;
  kind_is = sym (ap (λ o. kind_or o kind) is);
}
  where
    kind_or : Option Kind → Kind → Kind
    kind_or None k = k
    kind_or (Some j) k = j

-- what the code reads of a layer that stays live and of its new visible rectangles
pub record IsSeen (c : CellView) (kind : Kind) (listed visible : List Rectangle) : Type 0 where
  pub live : c.state ≡ view.Live
  pub sound : IsSound c.live
  pub kind_is : kind ≡ c.live.layer.kind
  pub listed_is : listed ≡ visible

-- The pixels that a layer keeps afterwards without those that count as kept before are those that it gains.
pub more_gained : (c : CellView) (kind : Kind) (bounds : Rectangle) (listed visible before after made : List Rectangle)
    → IsSeen c kind listed visible → IsOrdered bounds → LieIn bounds visible → AreCounted c.live bounds before
    → AreKept kind bounds listed after → ((x y : ℤ) → covers made x y ≡ (covers after x y && not (covers before x y)))
    → AreGained c (stayed bounds visible c) made
more_gained c kind bounds listed visible before after made seen ordered inside were are pixels x y =
    let own = c.live.layer.kind in
    let now : covers after x y ≡ keeps_pixel own bounds visible x y =
    are x y ∙ (ap (λ k. keeps_pixel k bounds listed x y) seen.kind_is ∙ ap (λ v. keeps_pixel own bounds v x y) seen.listed_is)
    in
    pixels x y
    ∙ (ap (λ t. t && not (covers before x y)) now
    ∙ (ap (λ t. keeps_pixel own bounds visible x y && not t) (were x y)
    ∙ more_at c bounds visible x y seen.live seen.sound ordered inside))

-- where the inner rectangle stays all counts
none_left : (kept frameless inner : Bool) → (kept && not (kept && (frameless || (inner || not inner)))) ≡ false
none_left true true inner = refl
none_left true false true = refl
none_left true false false = refl
none_left false frameless inner = refl

-- A layer whose bounds and visible rectangles stay gains nothing.
pub same_gained : (c : CellView) (bounds : Rectangle) (visible : List Rectangle) → c.state ≡ view.Live → IsSound c.live
    → c.live.bounds ≡ bounds → c.live.visible ≡ visible → LieIn bounds visible → AreGained c (stayed bounds visible c) []
same_gained c bounds visible live sound place list inside x y =
    let l = c.live in
    let kept : keeps_pixel l.layer.kind l.bounds l.visible x y ≡ keeps_pixel l.layer.kind bounds visible x y =
    ap (λ b. keeps_pixel l.layer.kind b l.visible x y) place ∙ ap (λ v. keeps_pixel l.layer.kind bounds v x y) list
    in
    covers_nil x y
    ∙ (sym (none_left (keeps_pixel l.layer.kind l.bounds l.visible x y) (not (is_framed l.layer.window))
    (may_lie (inner_with l l.bounds) x y))
    ∙ (ap (λ t. t && not (counts_pixel l l.bounds x y)) kept
    ∙ (ap (λ b. keeps_pixel l.layer.kind bounds visible x y && not (counts_pixel l b x y)) place
    ∙ more_at c bounds visible x y live sound (subst IsOrdered place sound.ordered) inside)))

-- The region of the gained pixels has a rectangle exactly where some pixel is gained.
pub some_rectangle : (from to : CellView) (rects : List Rectangle) → IsCanonical rects → AreGained from to rects
    → not (length rects == 0) ≡ gains_some from to
some_rectangle from to [] canonical are =
    sym (none_within to.live.layer.bits.width to.live.layer.bits.height (λ i j. gains from to i j)
    (λ i j _ _. sym (are (pos i) (pos j)) ∙ covers_nil (pos i) (pos j)))
some_rectangle from to (r ∷ rs) canonical are =
    let some : (length (r ∷ rs) == 0) ≡ false = grind (arith, nat_tests) in
    ap not some ∙ sym (⊎_elim (λ is. is) (λ never. absurd (cc (empty never))) (cases_Bool (gains_some from to)))
  where
    empty : gains_some from to ≡ false → r ∷ rs ≡ []
    empty never =
        canonical_empty (r ∷ rs) canonical
        (λ x y.
        are x y
        ∙ never_at (λ i j. gains from to i j)
        (λ i j.
        false_from_ne_true (gains from to i j) (λ has.
        let place = gained_inside from to i j has in
        both_ways (gains_some from to) never
        (one_within to.live.layer.bits.width to.live.layer.bits.height (λ u v. gains from to u v) i j place.0 place.1 has)))
        x y)

-- what is gained is kept
kept_gained : (from to : CellView) (x y : ℕ) → to.state ≡ view.Live → (keeps to.live x y && gains from to x y) ≡ gains from to x y
kept_gained from to x y live =
    go (keeps to.live x y) (keeps_if_live to.state to.live x y) (ap (λ q. keeps_if_live q to.live x y) live)
  where
    go : (k t : Bool) → t ≡ k → (k && (not (is_super to.live.layer.kind) && (t && not (counts_if_live from.state from.live to.live x y))))
        ≡ (not (is_super to.live.layer.kind) && (t && not (counts_if_live from.state from.live to.live x y)))
    go true t same = refl
    go false t same = rw same (sym (and-false (not (is_super to.live.layer.kind))))

-- What a hook fills by the region of the gained pixels, and turned where that has a rectangle, is what it fills of these pixels.
pub filled_region : (g : Option Hook) (from to : CellView) (rects : List Rectangle) → to.state ≡ view.Live → IsCanonical rects
    → AreGained from to rects
    → filled_by g (λ x y. keeps to.live x y && covers rects (pos x) (pos y)) (not (length rects == 0)) to
    ≡ filled_by g (λ x y. gains from to x y) (gains_some from to) to
filled_region g from to rects live canonical are =
    let same : (λ x y. keeps to.live x y && covers rects (pos x) (pos y)) ≡ (λ x y. gains from to x y) =
    fun_ext (λ x. fun_ext (λ y. ap (λ t. keeps to.live x y && t) (are (pos x) (pos y)) ∙ kept_gained from to x y live))
    in
    ap (λ f. filled_by g f (not (length rects == 0)) to) same
    ∙ ap (λ t. filled_by g (λ x y. gains from to x y) t to) (some_rectangle from to rects canonical are)
