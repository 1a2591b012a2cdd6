-- A change once the former buffers were handed over.
use Rattle.std.proofs.Common.{◌≡◌, ℕ, ◌+◌, ◌<◌, List, ◌++◌, map, length, get_or, Option, Some, None, ◌∙◌, sym, refl, ap, subst, arith, length-append, append_assoc}
use Rattle.std.proofs.lemmas.List.{get_or_append_left, get_or_default, length-map}
use Rattle.lw_strips.specs.Strips.{StripView, IsSizeOf, held_by, rects_of}
use Rattle.lw_region.specs.Rectangle.{Rectangle, IsOrdered}
use Rattle.lw_region.specs.Banded.{IsCanonical}
use Rattle.lw_planes.specs.Bitmap.{Bitmap}
use Rattle.lw_calls.specs.declared.make.Kind.{Kind}
use Rattle.lw_calls.specs.declared.make.Kind.TheVariants.{Simple, Smart, SuperBitmap}
use Rattle.lw_cliprects.specs.Parts.{Division, hidden_of, AreDivided}
use Rattle.lw_layer.specs.Drafts.{IsLiveDraft, IsRest, own_list, visible_planes, no_bitmap, live_view}
use Rattle.lw_layer.proofs.BufferLaws.{planes_many, planes_shown}
use Rattle.lw_layer.specs.New.{kept_hidden}
use Rattle.lw_layer.specs.declared.draft.LiveDraft.{LiveDraft}
use Rattle.lw_reveal.specs.declared.change.Change.{Change}
use Rattle.lw_reveal.specs.Changed.{carried_to}
use Rattle.lw_reveal.specs.Changes.{beside_own, carried, former_rectangle, new_rectangle, held_in, IsChange}
use Rattle.lw_reveal.specs.Handing.{handed_over, own_whole, HavePlaces}
use Rattle.lw_reveal.proofs.HandingLaws.{AreWanted, handed_wanted, planes_held, solid_held}
use Rattle.lw_reveal.proofs.CarriedLaws.{AreParts, carried_moved, former_carried}
use Rattle.lw_reveal.proofs.AppliedLaws.{IsMade}
use Rattle.lw_reveal.proofs.AppliedView.{changed_sound, changed_view}

-- as many buffers beside an own bitmap as rectangles
rest_count : (kind : Kind) (hidden : List Rectangle) (covered : ℕ) (own : Option Bitmap)
    → IsRest kind (length hidden) covered own → length (kept_hidden kind hidden) ≡ covered
rest_count Simple hidden covered own rest = sym rest.0
rest_count Smart hidden covered own rest = sym rest.0
rest_count SuperBitmap hidden covered own rest = sym rest.0

former_many : (d : LiveDraft) → IsLiveDraft d
    → length (beside_own d.kind d.bounds d.parts.visible) ≡ length d.strips.items + length d.covered.items
former_many d ok =
    let hidden = hidden_of d.bounds d.parts.visible in
    let long = length-append d.parts.visible (kept_hidden d.kind hidden) in
    let rest = rest_count d.kind hidden (length d.covered.items) d.superbits ok.buffers.rest in
    omega (arith, planes_many d, planes_shown d ok)

pub handed_many : (d : LiveDraft) (k : Change) → IsLiveDraft d → IsChange (live_view d) k
    → length k.handed.items ≡ length d.strips.items + length d.covered.items
handed_many d k ok change = change.former ∙ former_many d ok

-- the former bitmaps beside an own one, and what the new rectangles hold so far
abbrev pub former_planes : LiveDraft → List Bitmap
former_planes d = visible_planes d ++ d.covered.items

abbrev pub new_ones : Change → List (Option Bitmap)
new_ones k = held_in k.strips.items k.covered.items

pub former_long : (d : LiveDraft) → length (former_planes d) ≡ length d.strips.items + length d.covered.items
former_long d = length-append (visible_planes d) d.covered.items ∙ ap (λ n. n + length d.covered.items) (planes_many d)

pub new_long : (k : Change) → length (new_ones k) ≡ length k.strips.items + length k.covered.items
new_long k =
    let long = length-append (map (λ s. held_by s) k.strips.items) (map (λ b. Some b) k.covered.items) in
    let strips = length-map k.strips.items (λ s. held_by s) in
    let covered = length-map k.covered.items (λ b. Some b) in
    omega arith

strips_long : (k : Change) → rects_of k.strips.items ≡ k.parts.visible → length k.strips.items ≡ length k.parts.visible
strips_long k is = sym (length-map k.strips.items (λ (s : StripView). s.rect)) ∙ ap length is

new_many : (d : LiveDraft) (k : Change) → IsChange (live_view d) k
    → length (beside_own d.kind k.bounds k.parts.visible) ≡ length k.strips.items + length k.covered.items
new_many d k change =
    let long = length-append k.parts.visible (kept_hidden d.kind (hidden_of k.bounds k.parts.visible)) in
    omega (arith, strips_long k change.shown, change.hidden)

-- the former bitmap that is handed over is the one wanted at its place
former_wanted : (d : LiveDraft) (k : Change) (n i : ℕ) → IsLiveDraft d → IsChange (live_view d) k
    → AreParts d.bounds d.parts.visible → n < length k.handed.items → get_or k.handed.items n None ≡ Some i
    → get_or (former_planes d) n no_bitmap ≡ carried (live_view d) k.bounds (new_rectangle (live_view d) k i)
former_wanted d k n i ok change parts inside is =
    let c = live_view d in
    let may = change.moved n i inside is in
    let below : n < length (former_planes d) = omega (arith, handed_many d k ok change, former_long d) in
    sym (ap (λ q. get_or q n no_bitmap) (sym (append_assoc (visible_planes d) d.covered.items (own_list d.superbits))) ∙
    get_or_append_left (former_planes d) (own_list d.superbits) no_bitmap n below) ∙
    (former_carried d n ok parts may.former ∙
    (sym (carried_moved c k.bounds (former_rectangle c n)) ∙ ap (λ r. carried c k.bounds r) may.same))

-- and it has a place, of its size
pub handed_places : (d : LiveDraft) (k : Change) → IsLiveDraft d → IsChange (live_view d) k → AreParts d.bounds d.parts.visible
    → HavePlaces k.handed.items (former_planes d) (rects_of k.strips.items) (length k.covered.items)
handed_places d k ok change parts = λ n b below.
    let inside : n < length k.handed.items = omega (arith, handed_many d k ok change, former_long d) in
    let long = length-append k.parts.visible (kept_hidden d.kind (hidden_of k.bounds k.parts.visible)) in
    let many = new_many d k change in
    let rects = length-map k.strips.items (λ (s : StripView). s.rect) in
    record {
      inside = λ i is. let place = (change.moved n i inside is).place in omega arith;
      size =
          λ i r is shown.
          let place = (change.moved n i inside is).place in
          let one : i < length k.parts.visible = omega (arith, ap length change.shown) in
          let same : new_rectangle (live_view d) k i ≡ get_or (rects_of k.strips.items) i r =
          get_or_append_left k.parts.visible (kept_hidden d.kind (hidden_of k.bounds k.parts.visible)) k.bounds i one
          ∙ (get_or_default k.parts.visible i k.bounds r one ∙ ap (λ q. get_or q i r) (sym change.shown)) in
          let wanted : get_or (former_planes d) n b ≡ carried (live_view d) k.bounds (new_rectangle (live_view d) k i) = get_or_default (former_planes d) n b no_bitmap below ∙ former_wanted d k n i ok change parts inside is in
          let P : Bitmap → Type 0 = λ q. IsSizeOf (get_or (rects_of k.strips.items) i r) q in
          let Q : Rectangle → Type 0 = λ q. IsSizeOf q (carried (live_view d) k.bounds (new_rectangle (live_view d) k i)) in
          subst P (sym wanted) (subst Q same (record { columns = refl; rows = refl }));
    }

-- all are the carried ones then
pub made_from : (d : LiveDraft) (k m : Change) → IsLiveDraft d → IsChange (live_view d) k → AreParts d.bounds d.parts.visible
    → AreParts k.bounds k.parts.visible → rects_of m.strips.items ≡ rects_of k.strips.items
    → length m.covered.items ≡ length k.covered.items
    → new_ones m ≡ handed_over k.handed.items (former_planes d) (new_ones k)
    → IsMade d (record k { strips = m.strips; covered = m.covered })
made_from d k m ok change was parts shown hidden over =
    let c = live_view d in
    let want : ℕ → Bitmap = λ i. carried c k.bounds (new_rectangle c k i) in
    let many = new_long k in
    let wanted : AreWanted want k.handed.items (former_planes d) = record { each = λ n i inside is. former_wanted d k n i ok change was (omega (arith, handed_many d k ok change, former_long d)) is } in
    let each : (i : ℕ) → i < length (beside_own d.kind k.bounds k.parts.visible) → get_or (new_ones m) i None ≡ Some (want i) =
    λ i inside.
    ap (λ q. get_or q i None) over ∙
    handed_wanted want k.handed.items (former_planes d) (new_ones k) i (omega (arith, handed_many d k ok change, former_long d)) wanted (omega (arith, new_many d k change)) (change.pens i inside) in
    let long = length-append k.parts.visible (kept_hidden d.kind (hidden_of k.bounds k.parts.visible)) in
    record {
      cut = change.cut;
      size = change.size;
      revealed = change.revealed;
      shown = shown ∙ change.shown;
      solid =
          λ i s below.
          let first : i < length k.parts.visible = omega (arith, length-map m.strips.items (λ (q : StripView). q.rect), ap length (shown ∙ change.shown)) in
          solid_held m.strips.items m.covered.items i s (want i) below (each i (omega arith));
      hidden = hidden ∙ change.hidden;
      pens = λ i inside. planes_held m.strips.items m.covered.items i (want i) (each i inside);
      parts = parts;
    }

-- the draft that the code has: the one with the own bitmap whole, with what the change has
abbrev pub with_change : LiveDraft → Change → LiveDraft
with_change e m = record e { bounds = m.bounds; parts = m.parts; damage = m.damage; strips = m.strips; covered = m.covered }

pub applied_sound : (d e : LiveDraft) (m : Change) → IsLiveDraft d → IsMade d m
    → e ≡ record d { superbits = own_whole d.kind d } → IsLiveDraft (with_change e m)
applied_sound d e m ok made is = let P : LiveDraft → Type 0 = λ q. IsLiveDraft (with_change q m) in subst P (sym is) (changed_sound d m ok made)

pub applied_view : (d e : LiveDraft) (m : Change) → IsLiveDraft d → IsMade d m → e ≡ record d { superbits = own_whole d.kind d }
    → live_view (with_change e m) ≡ carried_to m.bounds m.parts.visible (live_view d)
applied_view d e m ok made is = ap (λ q. live_view (with_change q m)) is ∙ changed_view d m ok made

-- what the readers of parts tell
pub parts_told : (p : Division) (bounds : Rectangle) (hidden : List Rectangle) → p.bounds ≡ bounds
    → hidden ≡ hidden_of p.bounds p.visible → IsOrdered bounds → IsCanonical p.visible → AreDivided p.bounds p.visible hidden
    → AreParts bounds p.visible
parts_told p bounds hidden same is ordered canonical divided =
    let P : List Rectangle → Type 0 = λ h. AreDivided p.bounds p.visible h in
    let Q : Rectangle → Type 0 = λ b. AreDivided b p.visible (hidden_of b p.visible) in
    record { ordered = ordered; canonical = canonical; divided = subst Q same (subst P is divided) }
