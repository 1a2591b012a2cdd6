-- What an arrangement leaves of the layers' pens.
use Rattle.std.proofs.Common.{◌≡◌, ℕ, ◌<◌, ◌==◌, Bool, true, false, not, ◌&&◌, if◌then◌else◌, nat_lt, List, [], ◌∷◌, Option, Some}
use Rattle.std.proofs.Common.{None, IsTrue, refl, sym, ap, ◌∙◌, ◌⊎◌, inl, inr, ⊎_elim, arith, lt-ltb, eqb-true}
use Rattle.std.proofs.lemmas.Bool.Decides.{nat_tests}
use Rattle.std.proofs.lemmas.Bool.{and_right, and_from, or_left}
use Rattle.lw_planes.specs.Bitmap.{pen_at}
use Rattle.lw_planes.proofs.BitmapLaws.{pen_at_bitmap}
use Rattle.lw_calls.specs.declared.make.Kind.{Kind}
use Rattle.lw_calls.specs.declared.make.Kind.TheVariants.{Smart}
use Rattle.lw_machine.specs.Layer.{Layer, Window, is_framed, changed_window}
use Rattle.lw_calls.specs.Kinds.{is_super}
use Rattle.lw_machine.specs.Desk.{with_value, change_each}
use Rattle.lw_machine.specs.Kept.{is_kept, kept_as, in_inner, is_inside}
use Rattle.lw_machine.specs.Paint.{with_pens, pen_within}
use Rattle.lw_machine.specs.Reveal.{Across, width_in, height_in, was_live, was_inner, is_inner, counts_as_kept, at_new_size}
use Rattle.lw_machine.specs.Reveal.{keeps, fill_pen, with_revealed, revealed, in_frame, framing_pen, framed_by, with_frame}
use Rattle.lw_machine.specs.Reveal.{frame_is_due, window_with_messages, with_messages, with_due_frame, settled_layer}

-- one value of a function changed at one number, by the test
with_value_step : {A : Type 0} (n k : ℕ) (v : A) (f g : ℕ → A) (change : ℕ → A → A) (t : Bool) → (k == n) ≡ t
    → v ≡ change n (g n) → (f k ≡ change k (g k)) ⊎ (f k ≡ g k)
    → (with_value n v f k ≡ change k (g k)) ⊎ (with_value n v f k ≡ g k)
with_value_step n k v f g change true e is rest =
    let same : n ≡ k = sym (eqb-true k n e) in
    inl (ap (λ b. if b then v else f k) e ∙ (is ∙ ap (λ m. change m (g m)) same))
with_value_step n k v f g change false e is rest =
    let here : with_value n v f k ≡ f k = ap (λ b. if b then v else f k) e in
    ⊎_elim (λ p. inl (here ∙ p)) (λ p. inr (here ∙ p)) rest

-- a function changed at some numbers has at each number its old value, changed or not
pub changed_or_not : {A : Type 0} (ns : List ℕ) (change : ℕ → A → A) (g : ℕ → A) (k : ℕ)
    → (change_each ns change g k ≡ change k (g k)) ⊎ (change_each ns change g k ≡ g k)
changed_or_not [] change g k = inr refl
changed_or_not (n ∷ ns) change g k =
    with_value_step n k (change n (g n)) (change_each ns change g) g change (k == n) refl refl (changed_or_not ns change g k)

-- a pixel inside the frame isn't one of the frame
inner_not_frame : (w h x y : ℕ) → IsTrue (in_inner true w h x y) → in_frame w h x y ≡ false
unfolding in_inner in_frame
inner_not_frame w h x y inside = grind (arith, nat_tests)

-- a pixel of the inner rectangle lies in the layer
inner_lies : (framed : Bool) (w h x y : ℕ) → IsTrue (in_inner framed w h x y) → (x < w) × (y < h)
unfolding in_inner
inner_lies true w h x y inside = grind (arith, nat_tests)
inner_lies false w h x y inside = grind (arith, nat_tests)

-- the layer with its window's frame painted
abbrev pub painted_frame : List (List ℕ) → (ℕ → ℕ → Bool) → Bool → List ℕ → Layer → Layer
painted_frame glyphs kept active title l =
    with_pens (λ x y. kept x y && in_frame l.bits.width l.bits.height x y)
    (λ x y. pen_within l.bits.depth (framing_pen glyphs title active l.bits.width x y)) l

-- a painted frame leaves the pens inside it
painted_leaves : (glyphs : List (List ℕ)) (kept : ℕ → ℕ → Bool) (active : Bool) (title : List ℕ) (l : Layer) (x y : ℕ)
    → IsTrue (in_inner true l.bits.width l.bits.height x y)
    → pen_at (painted_frame glyphs kept active title l).bits x y ≡ pen_at l.bits x y
unfolding with_pens
painted_leaves glyphs kept active title l x y inside =
    let lies = inner_lies true l.bits.width l.bits.height x y inside in
    let off = and_right (kept x y) _ (inner_not_frame l.bits.width l.bits.height x y inside) in
    pen_at_bitmap l.bits.width l.bits.height l.bits.depth _ x y lies.0 lies.1 ∙
    ap (λ t. if t then pen_within l.bits.depth (framing_pen glyphs title active l.bits.width x y) else pen_at l.bits x y) off

-- the same, by whether the window has a frame
frame_leaves_by : (glyphs : List (List ℕ)) (kept : ℕ → ℕ → Bool) (active : Bool) (title : List ℕ) (l : Layer) (x y : ℕ)
    (framed : Bool) → IsTrue (in_inner framed l.bits.width l.bits.height x y)
    → pen_at (if framed then painted_frame glyphs kept active title l else l).bits x y ≡ pen_at l.bits x y
frame_leaves_by glyphs kept active title l x y true inside = painted_leaves glyphs kept active title l x y inside
frame_leaves_by glyphs kept active title l x y false inside = refl

-- painting a frame leaves the pens of the inner rectangle
frame_leaves : (glyphs : List (List ℕ)) (kept : ℕ → ℕ → Bool) (active : Bool) (o : Option Window) (l : Layer) (x y : ℕ)
    → IsTrue (in_inner (is_framed o) l.bits.width l.bits.height x y)
    → pen_at (framed_by glyphs kept active o l).bits x y ≡ pen_at l.bits x y
frame_leaves glyphs kept active None l x y inside = refl
frame_leaves glyphs kept active (Some w) l x y inside = frame_leaves_by glyphs kept active w.title l x y w.framed inside

-- painting a frame or not leaves the pens of the inner rectangle
maybe_frame_leaves : (t : Bool) (glyphs : List (List ℕ)) (kept : ℕ → ℕ → Bool) (active : Bool) (l : Layer) (x y : ℕ)
    → IsTrue (in_inner (is_framed l.window) l.bits.width l.bits.height x y)
    → pen_at (if t then with_frame glyphs kept active l else l).bits x y ≡ pen_at l.bits x y
maybe_frame_leaves true glyphs kept active l x y inside = frame_leaves glyphs kept active l.window l x y inside
maybe_frame_leaves false glyphs kept active l x y inside = refl

-- a place in a table of this size
in_size : (w h x y : ℕ) → x < w → y < h → (nat_lt x w && nat_lt y h) ≡ true
in_size w h x y left low = and_from _ _ (lt-ltb x w left) (lt-ltb y h low)

-- a smart layer keeps each of its pixels
smart_keeps : (k : Kind) (visible : Bool) → k ≡ Smart → kept_as k visible ≡ true
smart_keeps k visible smart = ap (λ q. kept_as q visible) smart

-- what is revealed of a layer that isn't a super-bitmap layer
abbrev pub revealed_in : Across → Layer → Layer
revealed_in c l = with_revealed c l (at_new_size c l)

-- a smart layer keeps after an arrangement each pixel that it has then
smart_keeps_now : (c : Across) (l : Layer) (x y : ℕ) → l.kind ≡ Smart → x < width_in c.new_bounds → y < height_in c.new_bounds
    → keeps c (at_new_size c l) x y ≡ true
unfolding is_kept
smart_keeps_now c l x y smart left low = and_from _ _ (in_size _ _ x y left low) (smart_keeps l.kind _ smart)

-- of a smart layer that was live each inner pixel counts as kept before
smart_counts : (c : Across) (l : Layer) (x y : ℕ) → l.kind ≡ Smart → was_live c ≡ true → x < l.bits.width → y < l.bits.height
    → was_inner c l x y ≡ true → counts_as_kept c l x y ≡ true
unfolding counts_as_kept is_kept
smart_counts c l x y smart live left low inner =
    and_from _ _ (and_from _ _ live (and_from _ _ (in_size _ _ x y left low) (smart_keeps l.kind _ smart)))
    (or_left (was_inner c l x y) (not (is_framed l.window && is_inner c l x y)) inner)

-- a smart layer that was live keeps the pen of a pixel that was inside it and is inside it now
revealed_leaves : (c : Across) (l : Layer) (x y : ℕ) → l.kind ≡ Smart → was_live c ≡ true → l.bits.width ≡ width_in c.bounds
    → l.bits.height ≡ height_in c.bounds → is_inside l x y ≡ true → is_inner c l x y ≡ true
    → pen_at (revealed_in c l).bits x y ≡ pen_at l.bits x y
revealed_leaves c l x y smart live wide high before now =
    let was = inner_lies (is_framed l.window) l.bits.width l.bits.height x y before in
    let is = inner_lies (is_framed l.window) (width_in c.new_bounds) (height_in c.new_bounds) x y now in
    let inner : was_inner c l x y ≡ true =
    ap (λ w. in_inner (is_framed l.window) w (height_in c.bounds) x y) (sym wide) ∙
    (ap (λ h. in_inner (is_framed l.window) l.bits.width h x y) (sym high) ∙ before) in
    pen_at_bitmap (width_in c.new_bounds) (height_in c.new_bounds) l.bits.depth _ x y is.0 is.1 ∙
    (ap (λ t. if t then (if counts_as_kept c l x y then pen_at l.bits x y else fill_pen l.bits.depth l.hook x y) else 0)
    (smart_keeps_now c l x y smart is.0 is.1) ∙
    ap (λ t. if t then pen_at l.bits x y else fill_pen l.bits.depth l.hook x y)
    (smart_counts c l x y smart live was.0 was.1 inner))

-- what is revealed of a layer that isn't a super-bitmap layer, and of one that is
pub revealed_plain : (c : Across) (l : Layer) → is_super l.kind ≡ false → revealed c l ≡ revealed_in c l
unfolding revealed
revealed_plain c l plain = ap (λ t. if t then l else revealed_in c l) plain

pub revealed_super : (c : Across) (l : Layer) → is_super l.kind ≡ true → revealed c l ≡ l
unfolding revealed
revealed_super c l super = ap (λ t. if t then l else revealed_in c l) super

-- a layer that was revealed, then framed where its frame is due, and told
abbrev pub settled_from : List (List ℕ) → Across → Layer → Layer → Layer
settled_from glyphs c l r = with_messages c (with_due_frame glyphs c l r)

-- a layer is settled from what is revealed of it
pub settled_is : (glyphs : List (List ℕ)) (c : Across) (l r : Layer) → revealed c l ≡ r
    → settled_layer glyphs c l ≡ settled_from glyphs c l r
unfolding settled_layer
settled_is glyphs c l r is = ap (λ q. settled_from glyphs c l q) is

-- a frame leaves the size of the bits, and the window
pub record IsSameSize (l m : Layer) : Type 0 where
  pub width : m.bits.width ≡ l.bits.width
  pub height : m.bits.height ≡ l.bits.height
  pub window : m.window ≡ l.window

-- the same, by whether a frame is painted
painted_or_not : (t : Bool) (glyphs : List (List ℕ)) (kept : ℕ → ℕ → Bool) (active : Bool) (title : List ℕ) (l : Layer)
    → IsSameSize l (if t then painted_frame glyphs kept active title l else l)
unfolding with_pens
painted_or_not true glyphs kept active title l = record { width = refl; height = refl; window = refl }
painted_or_not false glyphs kept active title l = record { width = refl; height = refl; window = refl }

framed_by_size : (glyphs : List (List ℕ)) (kept : ℕ → ℕ → Bool) (active : Bool) (o : Option Window) (l : Layer)
    → IsSameSize l (framed_by glyphs kept active o l)
framed_by_size glyphs kept active None l = record { width = refl; height = refl; window = refl }
framed_by_size glyphs kept active (Some w) l = painted_or_not w.framed glyphs kept active w.title l

framed_size : (t : Bool) (glyphs : List (List ℕ)) (kept : ℕ → ℕ → Bool) (active : Bool) (l : Layer)
    → IsSameSize l (if t then with_frame glyphs kept active l else l)
framed_size true glyphs kept active l = framed_by_size glyphs kept active l.window l
framed_size false glyphs kept active l = record { width = refl; height = refl; window = refl }

-- a window that was told has its frame or none as before
pub told_framed : (c : Across) (q : Layer) (o : Option Window)
    → is_framed (changed_window (window_with_messages c q) o) ≡ is_framed o
told_framed c q None = refl
told_framed c q (Some w) = refl

-- the inner rectangle of a settled layer is that of its new bounds
settled_inside : (glyphs : List (List ℕ)) (c : Across) (l : Layer) (x y : ℕ)
    → is_inside (settled_from glyphs c l (revealed_in c l)) x y ≡ is_inner c l x y
settled_inside glyphs c l x y =
    let r = revealed_in c l in
    let q = with_due_frame glyphs c l r in
    let size : IsSameSize r q = framed_size (frame_is_due c l r) glyphs (keeps c r) c.new_active r in
    let framed : is_framed (changed_window (window_with_messages c q) q.window) ≡ is_framed l.window =
    told_framed c q q.window ∙ ap is_framed size.window in
    ap (λ f. in_inner f q.bits.width q.bits.height x y) framed ∙
    (ap (λ w. in_inner (is_framed l.window) w q.bits.height x y) size.width ∙
    ap (λ h. in_inner (is_framed l.window) (width_in c.new_bounds) h x y) size.height)

-- a settled smart layer that was live keeps the pen of a pixel that was inside it and is inside it now
pub settled_leaves : (glyphs : List (List ℕ)) (c : Across) (l : Layer) (x y : ℕ) → l.kind ≡ Smart → was_live c ≡ true
    → l.bits.width ≡ width_in c.bounds → l.bits.height ≡ height_in c.bounds → is_inside l x y ≡ true
    → is_inside (settled_from glyphs c l (revealed_in c l)) x y ≡ true
    → pen_at (settled_from glyphs c l (revealed_in c l)).bits x y ≡ pen_at l.bits x y
settled_leaves glyphs c l x y smart live wide high before after =
    let now : is_inner c l x y ≡ true = sym (settled_inside glyphs c l x y) ∙ after in
    maybe_frame_leaves (frame_is_due c l (revealed_in c l)) glyphs (keeps c (revealed_in c l)) c.new_active
    (revealed_in c l) x y now ∙ revealed_leaves c l x y smart live wide high before now

-- a window without a frame leaves the bits
frameless_bits_by : (glyphs : List (List ℕ)) (kept : ℕ → ℕ → Bool) (active : Bool) (o : Option Window) (l : Layer)
    → is_framed o ≡ false → (framed_by glyphs kept active o l).bits ≡ l.bits
frameless_bits_by glyphs kept active None l bare = refl
frameless_bits_by glyphs kept active (Some w) l bare =
    ap (λ t. (if t then painted_frame glyphs kept active w.title l else l).bits) bare

-- a settled super-bitmap layer without a frame keeps its bits
pub frameless_bits : (t : Bool) (glyphs : List (List ℕ)) (kept : ℕ → ℕ → Bool) (active : Bool) (l : Layer)
    → is_framed l.window ≡ false → (if t then with_frame glyphs kept active l else l).bits ≡ l.bits
frameless_bits true glyphs kept active l bare = frameless_bits_by glyphs kept active l.window l bare
frameless_bits false glyphs kept active l bare = refl
