-- Layers that have no hook and no window and aren't updating: what arrangements and fills make of them, but for their damage.
use Rattle.std.proofs.Common.{◌≡◌, ℕ, Bool, true, false, ◌&&◌, ◌||◌, nat_lt, List, [], ℤ, Option, Some, None, refl, sym, ap, ◌∙◌}
use Rattle.std.specs.Prelude.{if◌then◌else◌}
use Rattle.lw_region.specs.Rectangle.{Rectangle, width, height}
use Rattle.lw_planes.specs.Bitmap.{bitmap, pen_at}
use Rattle.lw_planes.proofs.BitmapLaws.{bitmap_from_pens}
use Rattle.lw_calls.specs.declared.sizes.Sizes.{Sizes}
use Rattle.lw_calls.specs.Kinds.{is_super}
use Rattle.lw_machine.specs.Layer.{Layer}
use Rattle.lw_machine.specs.Kept.{visible_within, is_kept, is_drawable, kept_as, in_inner}
use Rattle.lw_machine.specs.Paint.{with_pens}
use Rattle.lw_machine.specs.Shapes.{rect_fill}
use Rattle.lw_machine.specs.Reveal.{Across, counts_as_kept, at_new_size, keeps, fill_pen, frame_is_due, framed_by, with_messages}
use Rattle.lw_machine.specs.Reveal.{settled_layer}
use Rattle.lw_machine.specs.Sound.{IsKeeping, IsBounded}
use Rattle.lw_machine.proofs.Settling.{revealed_in, revealed_plain, revealed_super, settled_is}

-- the layer without hook and window, and not updating
abbrev pub plain : Layer → Layer
plain l = record l { updating = false; hook = None; window = None }

-- the layer but for its damage
abbrev pub bare : Layer → Layer
bare l = record l { damage = [] }

-- what an arrangement makes of a plain layer
abbrev pub reveal : Across → Layer → Layer
reveal c l = if is_super l.kind then plain l else revealed_in c (plain l)

-- no frame is painted where there is no window
unframed : (due : Bool) (glyphs : List (List ℕ)) (kept : ℕ → ℕ → Bool) (active : Bool) (l : Layer)
    → (if due then framed_by glyphs kept active None l else l) ≡ l
unframed true glyphs kept active l = refl
unframed false glyphs kept active l = refl

pub settled_plain : (glyphs : List (List ℕ)) (c : Across) (l : Layer) → settled_layer glyphs c (plain l) ≡ reveal c l
settled_plain glyphs c l = go (is_super l.kind) refl
  where
    go : (b : Bool) → is_super l.kind ≡ b → settled_layer glyphs c (plain l) ≡ (if b then plain l else revealed_in c (plain l))
    go true is =
        settled_is glyphs c (plain l) (plain l) (revealed_super c (plain l) is)
        ∙ ap (with_messages c) (unframed (frame_is_due c (plain l) (plain l)) glyphs (keeps c (plain l)) c.new_active (plain l))
    go false is =
        let r : Layer = revealed_in c (plain l) in
        settled_is glyphs c (plain l) r (revealed_plain c (plain l) is)
        ∙ ap (with_messages c) (unframed (frame_is_due c (plain l) r) glyphs (keeps c r) c.new_active r)

-- it is plain again
pub reveal_is_plain : (c : Across) (l : Layer) → reveal c l ≡ plain (reveal c l)
reveal_is_plain c l = go (is_super l.kind)
  where
    go : (b : Bool) → (if b then plain l else revealed_in c (plain l)) ≡ plain (if b then plain l else revealed_in c (plain l))
    go true = refl
    go false = refl

-- one layer across an arrangement, whatever window is active
abbrev pub still : Across → Across
still c = record c { active = false; new_active = false }

-- what an arrangement makes of a bare layer, but for its damage
abbrev pub bare_reveal : Across → Layer → Layer
bare_reveal c k = if is_super k.kind then k else bare (revealed_in c k)

-- damage and the active window don't count
pub revealed_bare : (c : Across) (l : Layer) → bare (reveal c l) ≡ bare_reveal (still c) (bare (plain l))
unfolding is_kept counts_as_kept
revealed_bare c l = go (is_super l.kind)
  where
    go : (b : Bool) → bare (if b then plain l else revealed_in c (plain l)) ≡
        (if b then bare (plain l) else bare (revealed_in (still c) (bare (plain l))))
    go true = refl
    go false = refl

-- a layer that keeps its bounds r and the places on which it is shown
abbrev pub staying : (ℤ → ℤ → Bool) → Rectangle → Across
staying shown r =
    record { bounds = Some r; new_bounds = Some r; shown = shown; new_shown = shown; active = false; new_active = false }

and_or_true : (a b : Bool) → (a && (b || true)) ≡ a
and_or_true true true = refl
and_or_true true false = refl
and_or_true false b = refl

-- Its pens stay: what it keeps counts as kept, and the rest has pen 0.
pub stays : (sizes : Sizes) (depth : ℕ) (shown : ℤ → ℤ → Bool) (r : Rectangle) (l : Layer) → IsBounded sizes l r
    → IsKeeping depth (visible_within shown (Some r) l.scroll_x l.scroll_y) l
    → bare_reveal (staying shown r) (bare (plain l)) ≡ bare (plain l)
unfolding is_kept counts_as_kept
stays sizes depth shown r l bounded keeping = go (is_super l.kind) refl
  where
    k : Layer
    k = bare (plain l)

    c : Across
    c = staying shown r

    kept : ℕ → ℕ → Bool
    kept x y = is_kept (visible_within shown (Some r) l.scroll_x l.scroll_y) l x y

    pens : (ℕ → ℕ → ℕ)
    pens x y =
        if keeps c (at_new_size c k) x y
        then (if counts_as_kept c k x y then pen_at l.bits x y else fill_pen l.bits.depth None x y) else 0

    go : (b : Bool) → is_super l.kind ≡ b → (if b then k else bare (revealed_in c k)) ≡ k
    go true is = refl
    go false is =
        let wide : width r ≡ l.bits.width = sym (bounded.columns is) in
        let high : height r ≡ l.bits.height = sym (bounded.rows is) in
        ap (λ bits. record k { bits = bits })
        ((λ i. bitmap (wide i) (high i) l.bits.depth pens) ∙
        sym (bitmap_from_pens l.bits pens keeping.bitmap (λ x y left low. each x y (kept x y) refl)))
      where
        same : (x y : ℕ) → keeps c (at_new_size c k) x y ≡ kept x y
        same x y =
            λ i. (nat_lt x (sym (bounded.columns is) i) && nat_lt y (sym (bounded.rows is) i))
            && kept_as l.kind (visible_within shown (Some r) l.scroll_x l.scroll_y x y)

        counted : (x y : ℕ) → counts_as_kept c k x y ≡ kept x y
        counted x y = and_or_true (kept x y) (in_inner false (width r) (height r) x y)

        each : (x y : ℕ) (b : Bool) → kept x y ≡ b → pen_at l.bits x y ≡ pens x y
        each x y true is_kept_here =
            sym (ap (λ t. if t then (if counts_as_kept c k x y then pen_at l.bits x y else fill_pen l.bits.depth None x y)
            else 0) (same x y ∙ is_kept_here)
            ∙ ap (λ t. if t then pen_at l.bits x y else fill_pen l.bits.depth None x y) (counted x y ∙ is_kept_here))
        each x y false is_lost =
            keeping.off_kept x y is_lost
            ∙ sym (ap
            (λ t. if t then (if counts_as_kept c k x y then pen_at l.bits x y else fill_pen l.bits.depth None x y) else 0)
            (same x y ∙ is_lost))

-- a fill of a layer that shows its pixels on these places, by its bounds
abbrev pub fill_shown : (ℤ → ℤ → Bool) → Option Rectangle → Rectangle → Layer → Layer
fill_shown shown bounds rect l = rect_fill (visible_within shown bounds l.scroll_x l.scroll_y) rect l

-- a fill of a plain layer takes no notice of its damage
pub filled_bare : (shown : ℤ → ℤ → Bool) (bounds : Option Rectangle) (rect : Rectangle) (l : Layer)
    → bare (fill_shown shown bounds rect (plain l)) ≡ fill_shown shown bounds rect (bare (plain l))
unfolding with_pens is_drawable is_kept
filled_bare shown bounds rect l = refl

pub filled_plain : (shown : ℤ → ℤ → Bool) (bounds : Option Rectangle) (rect : Rectangle) (l : Layer)
    → fill_shown shown bounds rect (plain l) ≡ plain (fill_shown shown bounds rect (plain l))
unfolding with_pens
filled_plain shown bounds rect l = refl
