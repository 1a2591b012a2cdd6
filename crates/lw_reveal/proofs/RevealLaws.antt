-- What an arrangement carries of a layer whose bounds and visible rectangles stay.
use Rattle.std.proofs.Common.{◌≡◌, ℕ, Bool, true, false, not, ◌&&◌, ◌||◌, if◌then◌else◌, Option, Some, None, ◌∙◌, sym, refl, ap, ℤ, pos}
use Rattle.lw_region.specs.Bands.{covers}
use Rattle.lw_region.specs.Rectangle.{width, height}
use Rattle.lw_planes.specs.Grid.{grid, at}
use Rattle.lw_planes.specs.Bitmap.{bitmap, pen_at}
use Rattle.lw_planes.proofs.BitmapLaws.{bitmap_again, bitmap_same}
use Rattle.lw_planes.proofs.GridLaws.{grid_at, grid_same}
use Rattle.lw_calls.specs.Kinds.{is_super}
use Rattle.lw_damage.specs.Damaged.{Damaged, may_lie}
use Rattle.lw_machine.specs.Layer.{Layer, Window, is_framed}
use Rattle.lw_machine.specs.Kept.{is_kept, in_inner}
use Rattle.lw_machine.specs.Hook.{Hook}
use Rattle.lw_machine.specs.Reveal.{counts_as_kept, at_new_size, is_inner, fill_pen, hook_after}
use Rattle.lw_machine.specs.Reveal as reveal
use Rattle.lw_layer.specs.View.{LiveView, keeps}
use Rattle.lw_layer.specs.Pieces.{IsDamageOf}
use Rattle.lw_layer.specs.StandsFor.{IsSound}
use Rattle.lw_layer.proofs.InnerLaws.{may_pixel}
use Rattle.lw_reveal.specs.Changed.{across_to, windowless, carried_to}
use Rattle.lw_reveal.proofs.GainedCounts.{counts_kept}
use Rattle.lw_reveal.proofs.GainedView.{gained_view, carried_without_bitmap, carried_own}

-- where neither the bounds nor the size change, what the layer keeps afterwards is what it keeps, whatever its window
kept_after : (c : LiveView) (w : Option Window) (x y : ℕ) → c.layer.bits.width ≡ width c.bounds
    → c.layer.bits.height ≡ height c.bounds
    → reveal.keeps (across_to c c.bounds c.visible) (at_new_size (across_to c c.bounds c.visible) (record c.layer { window = w })) x y ≡ keeps c x y
unfolding keeps is_kept
kept_after c w x y wide high = rw (wide, high) refl

-- a pixel's pen and its damage, by whether the pixel is kept
pen_stays : (k : Bool) (p f : ℕ) → (k ≡ false → p ≡ 0) → (if k then (if k then p else f) else 0) ≡ p
pen_stays true p f off = refl
pen_stays false p f off = sym (off refl)

-- where the size stays, what is kept counts as kept
inner_stays : (k framed inner : Bool) → (k && (inner || not (framed && inner))) ≡ k
inner_stays true framed true = refl
inner_stays true true false = refl
inner_stays true false false = refl
inner_stays false framed inner = refl

same_size : (c : LiveView) (x y : ℕ) → counts_as_kept (across_to c c.bounds c.visible) c.layer x y ≡ keeps c x y
unfolding counts_as_kept keeps
same_size c x y = inner_stays (keeps c x y) (is_framed c.layer.window) (is_inner (across_to c c.bounds c.visible) c.layer x y)

damage_stays : (k inner h : Bool) → (h ≡ true → k ≡ true) → (h ≡ true → inner ≡ true) → ((k && inner) && (if k then h else true)) ≡ h
damage_stays true true h kept lies = refl
damage_stays true false true kept lies = lies refl
damage_stays true false false kept lies = refl
damage_stays false inner true kept lies = kept refl
damage_stays false inner false kept lies = refl

hook_none : (t : Bool) (h : Option Hook) → h ≡ None → hook_after t h ≡ h
hook_none t None is = refl
hook_none t (Some h) is = absurd (cc is)

bits_stay : (c : LiveView) → IsSound c → is_super c.layer.kind ≡ false → (gained_view c.bounds c.visible c).layer.bits ≡ c.layer.bits
bits_stay c sound without_bitmap =
    let a = across_to c c.bounds c.visible in
    let l : Layer = windowless c.layer in
    let b = c.layer.bits in
    let F : ℕ → ℕ → ℕ = λ x y. if reveal.keeps a (at_new_size a l) x y then (if counts_as_kept a l x y then pen_at b x y else fill_pen b.depth c.layer.hook x y) else 0 in
    ap (λ w. bitmap w (height c.bounds) b.depth F) (sym (sound.wide without_bitmap)) ∙
    (ap (λ h. bitmap b.width h b.depth F) (sym (sound.high without_bitmap)) ∙
    (bitmap_same b.width b.height b.depth F (λ x y. pen_at b x y)
    (λ x y left low.
    let kept = kept_after c None x y (sound.wide without_bitmap) (sound.high without_bitmap) in
    let counted = counts_kept c c.bounds c.visible x y in
    rw (kept, counted) (pen_stays (keeps c x y) (pen_at b x y) (fill_pen b.depth c.layer.hook x y) (λ off. sound.off_kept x y off))) ∙
    bitmap_again b sound.bits.bitmap))

damage_stay : (c : LiveView) (d : Damaged) → IsSound c → IsDamageOf c d
    → ((x y : ℤ) → covers d.rects x y ≡ true → may_lie d.inner x y ≡ true) → is_super c.layer.kind ≡ false
    → (gained_view c.bounds c.visible c).layer.damage ≡ c.layer.damage
damage_stay c d sound damage lies without_bitmap =
    let a = across_to c c.bounds c.visible in
    let b = c.layer.bits in
    let framed = is_framed c.layer.window in
    let F : ℕ → ℕ → Bool = λ x y. (reveal.keeps a (at_new_size a c.layer) x y && is_inner a c.layer x y) && (if counts_as_kept a c.layer x y then at false c.layer.damage x y else true) in
    ap (λ w. grid w (height c.bounds) F) (sym (sound.wide without_bitmap)) ∙
    (ap (λ h. grid b.width h F) (sym (sound.high without_bitmap)) ∙
    (grid_same b.width b.height F (λ x y. covers d.rects (pos x) (pos y))
    (λ x y left low.
    let kept = kept_after c c.layer.window x y (sound.wide without_bitmap) (sound.high without_bitmap) in
    let counted = same_size c x y in
    let may : may_lie d.inner (pos x) (pos y) ≡ in_inner framed b.width b.height x y = ap (λ o. may_lie o (pos x) (pos y)) damage.inner ∙ may_pixel (is_super c.layer.kind) framed b.width b.height x y without_bitmap left low in
    let inner : may_lie d.inner (pos x) (pos y) ≡ is_inner a c.layer x y = may ∙ (ap (λ w. in_inner framed w b.height x y) (sound.wide without_bitmap) ∙ ap (λ h. in_inner framed (width c.bounds) h x y) (sound.high without_bitmap)) in
    let here : at false c.layer.damage x y ≡ covers d.rects (pos x) (pos y) =
    ap (λ t. at false t x y) damage.pixels ∙ grid_at b.width b.height (λ i j. covers d.rects (pos i) (pos j)) false x y left low in
    rw (kept, counted, here)
    (damage_stays (keeps c x y) (is_inner a c.layer x y) (covers d.rects (pos x) (pos y)) (λ has. damage.kept (pos x) (pos y) has)
    (λ has. sym inner ∙ lies (pos x) (pos y) has))) ∙
    sym damage.pixels))

stays_by : (c : LiveView) (d : Damaged) (t : Bool) → is_super c.layer.kind ≡ t → IsSound c → IsDamageOf c d
    → ((x y : ℤ) → covers d.rects x y ≡ true → may_lie d.inner x y ≡ true) → carried_to c.bounds c.visible c ≡ c
stays_by c d true is sound damage lies = carried_own c c.bounds c.visible is
stays_by c d false is sound damage lies =
    let r = (gained_view c.bounds c.visible c).layer in
    let seen : Layer → LiveView = λ l. record c { layer = l } in
    carried_without_bitmap c c.bounds c.visible is ∙
    (ap (λ b. seen (record c.layer { bits = b; damage = r.damage; hook = r.hook })) (bits_stay c sound is) ∙
    (ap (λ t. seen (record c.layer { damage = t; hook = r.hook })) (damage_stay c d sound damage lies is) ∙
    ap (λ h. seen (record c.layer { hook = h })) (hook_none _ c.layer.hook sound.hook)))

-- A layer whose bounds and visible rectangles stay is as it was, if its damage lies where damage may lie.
pub revealed_same : (c : LiveView) (d : Damaged) → IsSound c → IsDamageOf c d
    → ((x y : ℤ) → covers d.rects x y ≡ true → may_lie d.inner x y ≡ true) → carried_to c.bounds c.visible c ≡ c
revealed_same c d sound damage lies = stays_by c d (is_super c.layer.kind) refl sound damage lies
