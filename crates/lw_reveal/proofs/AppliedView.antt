-- A draft with the carried buffers is one, and stands for the revealed layer.
use Rattle.std.proofs.Common.{◌≡◌, ℕ, ◌<◌, Bool, true, false, if◌then◌else◌, List, length, Option, Some, None, ◌∙◌, sym, refl, ap, subst, arith, ℤ, pos, ◌+ℤ◌, ◌-ℤ◌, ◌≤ℤ◌, unsigned_abs}
use Rattle.std.proofs.lemmas.Bool.{and_parts}
use Rattle.std.proofs.lemmas.Int.{ints}
use Rattle.lw_region.specs.Rectangle.{Rectangle, width, height}
use Rattle.lw_region.specs.Bands.{covers}
use Rattle.lw_region.proofs.Within.{within_low}
use Rattle.lw_planes.specs.Bitmap.{Bitmap, bitmap, pen_at}
use Rattle.lw_planes.specs.Sizes.{AreSizes}
use Rattle.lw_planes.proofs.BitmapLaws.{bitmap_same, pen_at_bitmap}
use Rattle.lw_calls.specs.declared.make.Kind.{Kind}
use Rattle.lw_calls.specs.declared.make.Kind.TheVariants.{Simple, Smart, SuperBitmap}
use Rattle.lw_calls.specs.Kinds.{is_super}
use Rattle.lw_cliprects.specs.Parts.{hidden_of}
use Rattle.lw_machine.specs.Layer.{Layer}
use Rattle.lw_machine.specs.Kept.{is_kept, holds_at}
use Rattle.lw_machine.specs.Reveal.{Across, at_new_size, counts_as_kept}
use Rattle.lw_machine.specs.Reveal as reveal
use Rattle.lw_machine.proofs.Seen.{holds_same}
use Rattle.lw_layer.specs.View.{LiveView, keeps, kept_pen}
use Rattle.lw_layer.specs.Pieces.{buffer_rectangle, buffer_at, column_in, line_in, inner_in, damage_table, IsDamageOf}
use Rattle.lw_layer.specs.Drafts.{IsLiveDraft, IsScrolled, IsRest, layout, buffers_of, pen_from, live_view}
use Rattle.lw_layer.specs.New.{kept_hidden}
use Rattle.lw_layer.specs.declared.draft.LiveDraft.{LiveDraft}
use Rattle.lw_layer.proofs.ViewLaws.{has_place}
use Rattle.lw_layer.proofs.KeptLaws.{keeps_found, keeps_missing}
use Rattle.lw_reveal.specs.declared.change.Change.{Change}
use Rattle.lw_reveal.specs.Changed.{across_to, windowless, carried_to}
use Rattle.lw_reveal.specs.Handing.{own_whole}
use Rattle.lw_reveal.specs.Changes.{pen_or_zero, layer_place}
use Rattle.lw_reveal.proofs.GainedCounts.{counts_kept}
use Rattle.lw_reveal.proofs.GainedView.{gained_view, carried_without_bitmap, carried_own}
use Rattle.lw_reveal.proofs.AppliedLaws.{changed_draft, IsMade, size_without_bitmap, super_size, super_keeps, made_buffers, rectangle_carried}

abbrev over : LiveDraft → Change → Across
over d k = across_to (live_view d) k.bounds k.parts.visible

-- what is carried, by kind
abbrev view_without_bitmap : LiveDraft → Change → LiveView
view_without_bitmap d k = gained_view k.bounds k.parts.visible (live_view d)

abbrev super_view : LiveDraft → Change → LiveView
super_view d k = record (live_view d) { bounds = k.bounds; visible = k.parts.visible }

-- the damage is that of the revealed layer, by kind
damage_without_bitmap : (d : LiveDraft) (k : Change) → is_super d.kind ≡ false → IsMade d k → IsDamageOf (view_without_bitmap d k) k.damage
damage_without_bitmap d k without_bitmap made = subst (λ c. IsDamageOf c k.damage) (carried_without_bitmap (live_view d) k.bounds k.parts.visible without_bitmap) made.revealed

super_damage : (d : LiveDraft) (k : Change) → is_super d.kind ≡ true → IsMade d k → IsDamageOf (super_view d k) k.damage
super_damage d k super made = subst (λ c. IsDamageOf c k.damage) (carried_own (live_view d) k.bounds k.parts.visible super) made.revealed

-- which pixels are kept, by kind
kept_without_bitmap : (d : LiveDraft) (k : Change) (x y : ℕ) → is_super d.kind ≡ false → IsLiveDraft d
    → keeps (view_without_bitmap d k) x y ≡ keeps (live_view (changed_draft d k)) x y
unfolding keeps is_kept
kept_without_bitmap d k x y without_bitmap ok = let size = size_without_bitmap d k without_bitmap ok in rw (size.0, size.1) refl

super_kept : (d : LiveDraft) (k : Change) (x y : ℕ) → is_super d.kind ≡ true
    → keeps (super_view d k) x y ≡ keeps (live_view (changed_draft d k)) x y
unfolding keeps is_kept
super_kept d k x y super = let size = super_size d k super in rw (size.0, size.1) refl

-- the size of the bits, by kind
sizes_by : (d : LiveDraft) (k : Change) (t : Bool) → is_super d.kind ≡ t → IsLiveDraft d → IsMade d k
    → AreSizes (layout (changed_draft d k)).width (layout (changed_draft d k)).height d.depth
sizes_by d k true super ok made = let size = super_size d k super in rw (size.0, size.1) ok.place.sizes
sizes_by d k false without_bitmap ok made = let size = size_without_bitmap d k without_bitmap ok in rw (size.0, size.1) made.size.sizes

scrolled_by : (d : LiveDraft) (k : Change) (t : Bool) → is_super d.kind ≡ t → IsLiveDraft d → IsMade d k
    → IsScrolled (layout (changed_draft d k))
scrolled_by d k true super ok made =
    let size = super_size d k super in
    record {
      left = ok.place.scrolled.left;
      upper = ok.place.scrolled.upper;
      right = omega (arith, size.0, made.size.right super);
      lower = omega (arith, size.1, made.size.lower super);
    }
scrolled_by d k false without_bitmap ok made =
    let size = size_without_bitmap d k without_bitmap ok in
    record {
      left = ok.place.scrolled.left;
      upper = ok.place.scrolled.upper;
      right = omega (arith, size.0, ok.place.scrolled.left without_bitmap);
      lower = omega (arith, size.1, ok.place.scrolled.upper without_bitmap);
    }

inner_by : (d : LiveDraft) (k : Change) (t : Bool) → is_super d.kind ≡ t → IsLiveDraft d → IsMade d k
    → k.damage.inner ≡ inner_in (live_view (changed_draft d k))
inner_by d k true super ok made = let size = super_size d k super in rw (size.0, size.1) (super_damage d k super made).inner
inner_by d k false without_bitmap ok made = let size = size_without_bitmap d k without_bitmap ok in rw (size.0, size.1) (damage_without_bitmap d k without_bitmap made).inner

damaged_by : (d : LiveDraft) (k : Change) (t : Bool) → is_super d.kind ≡ t → IsLiveDraft d → IsMade d k → (x y : ℤ)
    → covers k.damage.rects x y ≡ true → holds_at (λ i j. keeps (live_view (changed_draft d k)) i j) x y ≡ true
damaged_by d k true super ok made x y has = sym (holds_same _ _ x y (λ i j. super_kept d k i j super)) ∙ (super_damage d k super made).kept x y has
damaged_by d k false without_bitmap ok made x y has = sym (holds_same _ _ x y (λ i j. kept_without_bitmap d k i j without_bitmap ok)) ∙ (damage_without_bitmap d k without_bitmap made).kept x y has

rest_changed : (kind : Kind) (former covered many : ℕ) (d : LiveDraft) (hidden : List Rectangle)
    → IsRest kind former covered d.superbits → many ≡ length (kept_hidden kind hidden)
    → IsRest kind (length hidden) many (own_whole kind d)
rest_changed Simple former covered many d hidden rest is = (is, rest.1)
rest_changed Smart former covered many d hidden rest is = (is, rest.1)
rest_changed SuperBitmap former covered many d hidden rest is = (is, (live_view d).layer.bits, refl)

-- The draft with the carried buffers is one.
pub changed_sound : (d : LiveDraft) (k : Change) → IsLiveDraft d → IsMade d k → IsLiveDraft (changed_draft d k)
changed_sound d k ok made = record {
  place = record {
    bounds = made.cut;
    scroll_x = ok.place.scroll_x;
    scroll_y = ok.place.scroll_y;
    sizes = sizes_by d k (is_super d.kind) refl ok made;
    scrolled = scrolled_by d k (is_super d.kind) refl ok made;
  };
  mode = ok.mode;
  buffers = record {
    shown = made.shown;
    solid = made.solid;
    rest = rest_changed d.kind _ _ _ d (hidden_of k.bounds k.parts.visible) ok.buffers.rest made.hidden;
    sized = made_buffers d k ok made;
  };
  damage = record { inner = inner_by d k (is_super d.kind) refl ok made; kept = damaged_by d k (is_super d.kind) refl ok made };
  frame = record { frameless = ok.frame.frameless; room = made.size.frame };
}

-- where a pixel lies in its buffer_rectangle, one axis at a time
place_in : (edge low : ℤ) (scroll x : ℕ) → edge ≤ℤ ((low +ℤ pos x) -ℤ pos scroll)
    → layer_place edge low scroll (unsigned_abs (((low +ℤ pos x) -ℤ pos scroll) -ℤ edge)) ≡ pos x
place_in edge low scroll x from = omega (arith, ints)

-- the pen of one pixel of the changed draft
found_pen : (d : LiveDraft) (k : Change) (x y : ℕ) (found : Option ℕ) → IsLiveDraft d → IsMade d k
    → x < (layout (changed_draft d k)).width → y < (layout (changed_draft d k)).height
    → buffer_at (layout (changed_draft d k)) x y ≡ found
    → pen_from (buffers_of (changed_draft d k)) (layout (changed_draft d k)) found x y ≡ (if keeps (live_view (changed_draft d k)) x y then pen_or_zero (kept_pen (live_view d) (pos x) (pos y)) else 0)
found_pen d k x y None ok made left low is =
    let r = changed_draft d k in
    let off : keeps (live_view r) x y ≡ false = keeps_missing r x y d.kind refl (changed_sound d k ok made) made.parts.ordered made.parts.divided left low is in
    rw off refl
found_pen d k x y (Some n) ok made left low is =
    let r = changed_draft d k in
    let l = layout r in
    let c = live_view d in
    let kept : keeps (live_view r) x y ≡ true = keeps_found r x y n is in
    let place = has_place l x y n is in
    let p : Rectangle = buffer_rectangle l n in
    let halves = and_parts _ _ place.has in
    let F : ℕ → ℕ → ℕ = λ i j. pen_or_zero (kept_pen c (layer_place p.min_x k.bounds.min_x c.layer.scroll_x i) (layer_place p.min_y k.bounds.min_y c.layer.scroll_y j)) in
    let at_x : layer_place p.min_x k.bounds.min_x l.scroll_x (column_in l n x) ≡ pos x = place_in p.min_x k.bounds.min_x l.scroll_x x (within_low _ _ _ halves.0) in
    let at_y : layer_place p.min_y k.bounds.min_y l.scroll_y (line_in l n y) ≡ pos y = place_in p.min_y k.bounds.min_y l.scroll_y y (within_low _ _ _ halves.1) in
    rw kept
    (ap (λ b. pen_at b (column_in l n x) (line_in l n y)) (rectangle_carried d k n made place.there) ∙
    (pen_at_bitmap (width p) (height p) d.depth F (column_in l n x) (line_in l n y) place.column place.line ∙
    (ap (λ q. pen_or_zero (kept_pen c q (layer_place p.min_y k.bounds.min_y l.scroll_y (line_in l n y)))) at_x ∙
    ap (λ q. pen_or_zero (kept_pen c (pos x) q)) at_y)))

-- the pen of a pixel by whether it was kept
pen_chosen : (t : Bool) (p : ℕ) → pen_or_zero (if t then Some p else None) ≡ (if t then p else 0)
pen_chosen true p = refl
pen_chosen false p = refl

-- the pixels that are kept afterwards, by their definition
reveal_kept : (d : LiveDraft) (k : Change) (x y : ℕ) → is_super d.kind ≡ false → IsLiveDraft d
    → reveal.keeps (over d k) (at_new_size (over d k) (windowless (live_view d).layer)) x y ≡ keeps (live_view (changed_draft d k)) x y
unfolding keeps is_kept
reveal_kept d k x y without_bitmap ok = let size = size_without_bitmap d k without_bitmap ok in rw (size.0, size.1) refl

-- the bits, by kind
bits_without_bitmap : (d : LiveDraft) (k : Change) → is_super d.kind ≡ false → IsLiveDraft d → IsMade d k
    → (live_view (changed_draft d k)).layer.bits ≡ (view_without_bitmap d k).layer.bits
bits_without_bitmap d k other ok made =
    let r = changed_draft d k in
    let l = layout r in
    let c = live_view d in
    let unwindowed : Layer = windowless c.layer in
    let size = size_without_bitmap d k other ok in
    let F : ℕ → ℕ → ℕ = λ x y. pen_from (buffers_of r) l (buffer_at l x y) x y in
    let G : ℕ → ℕ → ℕ = λ x y. if reveal.keeps (over d k) (at_new_size (over d k) unwindowed) x y then (if counts_as_kept (over d k) unwindowed x y then pen_at c.layer.bits x y else 0) else 0 in
    bitmap_same l.width l.height d.depth F G
    (λ x y left low.
    let counted = counts_kept c k.bounds k.parts.visible x y in
    let kept : reveal.keeps (over d k) (at_new_size (over d k) unwindowed) x y ≡ keeps (live_view r) x y = reveal_kept d k x y other ok in
    rw (kept, counted) (found_pen d k x y (buffer_at l x y) ok made left low refl ∙ ap (λ p. if keeps (live_view r) x y then p else 0) (pen_chosen (keeps c x y) (pen_at c.layer.bits x y)))) ∙
    (ap (λ w. bitmap w l.height d.depth G) size.0 ∙ ap (λ h. bitmap (width k.bounds) h d.depth G) size.1)

super_bits : (d : LiveDraft) (k : Change) → is_super d.kind ≡ true → IsLiveDraft d → IsMade d k
    → (live_view (changed_draft d k)).layer.bits ≡ (live_view d).layer.bits
super_bits d k super ok made =
    let r = changed_draft d k in
    let l = layout r in
    let c = live_view d in
    let size = super_size d k super in
    let F : ℕ → ℕ → ℕ = λ x y. pen_from (buffers_of r) l (buffer_at l x y) x y in
    let G : ℕ → ℕ → ℕ = λ x y. pen_from (buffers_of d) (layout d) (buffer_at (layout d) x y) x y in
    bitmap_same l.width l.height d.depth F G
    (λ x y left low.
    let left_in : x < (layout d).width = omega (arith, size.0) in
    let low_in : y < (layout d).height = omega (arith, size.1) in
    let now : keeps (live_view r) x y ≡ true = super_keeps r x y d.kind refl super left low in
    let before : keeps c x y ≡ true = super_keeps d x y d.kind refl super left_in low_in in
    found_pen d k x y (buffer_at l x y) ok made left low refl ∙ (rw (now, before) (pen_at_bitmap (layout d).width (layout d).height d.depth G x y left_in low_in))) ∙
    (ap (λ w. bitmap w l.height d.depth G) size.0 ∙ ap (λ h. bitmap (layout d).width h d.depth G) size.1)

-- the view from its bits, its damage and whether an update is on
abbrev seen : LiveDraft → Change → Bitmap → List (List Bool) → Bool → LiveView
seen d k b t u = record (live_view (changed_draft d k)) { layer = record (live_view (changed_draft d k)).layer { bits = b; damage = t; updating = u } }

view_by : (d : LiveDraft) (k : Change) (t : Bool) → is_super d.kind ≡ t → IsLiveDraft d → IsMade d k
    → live_view (changed_draft d k) ≡ carried_to k.bounds k.parts.visible (live_view d)
view_by d k true super ok made =
    let c = live_view d in
    let damage = super_damage d k super made in
    ap (λ b. seen d k b (damage_table b k.damage.rects) k.damage.updating) (super_bits d k super ok made) ∙
    (ap (λ t. seen d k c.layer.bits t k.damage.updating) (sym damage.pixels) ∙
    (ap (λ u. seen d k c.layer.bits c.layer.damage u) damage.updating ∙ sym (carried_own c k.bounds k.parts.visible super)))
view_by d k false without_bitmap ok made =
    let c = live_view d in
    let damage = damage_without_bitmap d k without_bitmap made in
    let l = (view_without_bitmap d k).layer in
    ap (λ b. seen d k b (damage_table b k.damage.rects) k.damage.updating) (bits_without_bitmap d k without_bitmap ok made) ∙
    (ap (λ t. seen d k l.bits t k.damage.updating) (sym damage.pixels) ∙
    (ap (λ u. seen d k l.bits l.damage u) damage.updating ∙ sym (carried_without_bitmap c k.bounds k.parts.visible without_bitmap)))

-- It stands for the revealed layer.
pub changed_view : (d : LiveDraft) (k : Change) → IsLiveDraft d → IsMade d k
    → live_view (changed_draft d k) ≡ carried_to k.bounds k.parts.visible (live_view d)
changed_view d k ok made = view_by d k (is_super d.kind) refl ok made
