-- An arrangement leaves just that damaged of each simple layer which is hurt after it.
use Rattle.std.proofs.Common.{◌≡◌, ℕ, ◌==◌, Bool, true, false, not, ◌&&◌, ◌||◌, List, Option, Some, None, refl, sym, ap, subst}
use Rattle.std.proofs.Common.{◌∙◌, ◌⊎◌, inl, inr, ⊎_elim, arith, eqb-true}
use Rattle.std.specs.Prelude.{if◌then◌else◌}
use Rattle.std.proofs.lemmas.Bool.{and_from, false≢true, true≢false}
use Rattle.lw_region.specs.Rectangle.{Rectangle}
use Rattle.lw_planes.specs.Grid.{at}
use Rattle.lw_planes.proofs.GridLaws.{grid_at}
use Rattle.lw_calls.specs.declared.make.Kind.TheVariants.{Simple}
use Rattle.lw_calls.specs.declared.make.Make.{Make}
use Rattle.lw_calls.specs.declared.call.Call.{Call}
use Rattle.lw_calls.specs.declared.call.Call.TheVariants.{Create, OpenWindow, Close, ToFront, ToBack, InFrontOf, MoveBy, SizeBy}
use Rattle.lw_calls.specs.declared.call.Call.TheVariants.{SetBox, Activate}
use Rattle.lw_calls.specs.declared.reply.Reply.TheVariants.{AlreadyOpen}
use Rattle.lw_calls.specs.Kinds.{is_super}
use Rattle.lw_calls.specs.Touches.{is_arrangement}
use Rattle.lw_calls.specs.Orders.{occurrences}
use Rattle.lw_machine.specs.Layer.{Layer, Window, Slot, Unopened, Live, Closed, may_open, is_live, is_framed, change_layer}
use Rattle.lw_machine.specs.Desk.{Desk, with_value}
use Rattle.lw_machine.specs.Screen.{top}
use Rattle.lw_machine.specs.Kept.{is_visible, visible_within, is_kept, is_inside}
use Rattle.lw_machine.specs.Paint.{with_pens}
use Rattle.lw_machine.specs.Arrangement.{arranged}
use Rattle.lw_machine.specs.Reveal.{Across, across, has_bounds, was_live, width_in, height_in, is_inner, was_inner}
use Rattle.lw_machine.specs.Reveal.{counts_as_kept, at_new_size, keeps, framed_by, with_frame, frame_is_due, with_due_frame}
use Rattle.lw_machine.specs.Reveal.{with_messages, revealed, settled_layer, settled}
use Rattle.lw_machine.specs.Step.{refusal, creation_refusal}
use Rattle.lw_machine.specs.Sound.{IsDesk, IsSlot, IsPlaced}
use Rattle.lw_machine.specs.Hurt.{Hurts, hurt_by_call, hurt_in_slot}
use Rattle.lw_machine.proofs.ArrangementSound.{idle}
use Rattle.lw_machine.proofs.LayerCallSound.{not_refused}
use Rattle.lw_machine.proofs.SettledSound.{changed_in}
use Rattle.lw_machine.proofs.Settling.{revealed_in, revealed_plain, settled_from, settled_is, told_framed}
use Rattle.lw_history.proofs.Told.{inner_lies, IsTold, live_before}

-- What a frame and messages leave of a layer.
record IsStill (l m : Layer) : Type 0 where
  kind : m.kind ≡ l.kind
  scroll_x : m.scroll_x ≡ l.scroll_x
  scroll_y : m.scroll_y ≡ l.scroll_y
  width : m.bits.width ≡ l.bits.width
  height : m.bits.height ≡ l.bits.height
  damage : m.damage ≡ l.damage
  framed : is_framed m.window ≡ is_framed l.window

still : (l : Layer) → IsStill l l
still l = record { kind = refl; scroll_x = refl; scroll_y = refl; width = refl; height = refl; damage = refl; framed = refl }

framed_by_still : (glyphs : List (List ℕ)) (kept : ℕ → ℕ → Bool) (active : Bool) (o : Option Window) (l : Layer)
    → IsStill l (framed_by glyphs kept active o l)
unfolding with_pens
framed_by_still glyphs kept active None l = still l
framed_by_still glyphs kept active (Some w) l = go w.framed
  where
    go : (b : Bool) → IsStill l (framed_by glyphs kept active (Some (record w { framed = b })) l)
    go true = record { kind = refl; scroll_x = refl; scroll_y = refl; width = refl; height = refl; damage = refl; framed = refl }
    go false = still l

due_frame_still : (b : Bool) (glyphs : List (List ℕ)) (kept : ℕ → ℕ → Bool) (active : Bool) (l : Layer)
    → IsStill l (if b then with_frame glyphs kept active l else l)
due_frame_still true glyphs kept active l = framed_by_still glyphs kept active l.window l
due_frame_still false glyphs kept active l = still l

settled_still : (glyphs : List (List ℕ)) (c : Across) (b : Layer)
    → IsStill (revealed_in c b) (settled_from glyphs c b (revealed_in c b))
settled_still glyphs c b =
    let r = revealed_in c b in
    let q = with_due_frame glyphs c b r in
    let s = due_frame_still (frame_is_due c b r) glyphs (keeps c r) c.new_active r in
    record {
      kind =
          s.kind;
      scroll_x = s.scroll_x;
      scroll_y = s.scroll_y;
      width = s.width;
      height = s.height;
      damage = s.damage;
      framed =
          told_framed c q q.window ∙ s.framed;
    }

-- a settled layer has the kind that it had, whatever this is
settled_kind : (glyphs : List (List ℕ)) (c : Across) (b : Layer) → (settled_layer glyphs c b).kind ≡ b.kind
unfolding settled_layer revealed
settled_kind glyphs c b = go (is_super b.kind)
  where
    go : (t : Bool) → (with_messages c (with_due_frame glyphs c b (if t then b else revealed_in c b))).kind ≡ b.kind
    go true = (due_frame_still (frame_is_due c b b) glyphs (keeps c b) c.new_active b).kind
    go false = let r = revealed_in c b in (due_frame_still (frame_is_due c b r) glyphs (keeps c r) c.new_active r).kind

-- where a layer of the arranged desk was before the arrangement: it was live, with all that it has, or its slot had none
abbrev WasThere : Desk → ℕ → Layer → Type 0
WasThere d s b = (d.slot s ≡ Live b) ⊎ (is_live (d.slot s) ≡ false)

created_there : (d : Desk) (slot : ℕ) (new b : Layer) (s : ℕ) → is_live (d.slot slot) ≡ false
    → with_value slot (Live new) d.slot s ≡ Live b → WasThere d s b
created_there d slot new b s free = go (s == slot) refl
  where
    go : (t : Bool) → (s == slot) ≡ t → (if t then Live new else d.slot s) ≡ Live b → WasThere d s b
    go true e is = inr (ap (λ k. is_live (d.slot k)) (eqb-true s slot e) ∙ free)
    go false e is = inl is

closed_there : (d : Desk) (slot : ℕ) (b : Layer) (s : ℕ) → with_value slot Closed d.slot s ≡ Live b → WasThere d s b
closed_there d slot b s = go (s == slot)
  where
    go : (t : Bool) → (if t then Closed else d.slot s) ≡ Live b → WasThere d s b
    go true is = absurd (cc)
    go false is = inl is

-- a new layer's slot had none where its creation isn't refused
free_slot : (d : Desk) (slot : ℕ) (make : Make) (framed : Bool) → creation_refusal d slot make framed ≡ None
    → is_live (d.slot slot) ≡ false
free_slot d slot make framed none =
    idle d.sizes.version (d.slot slot) ((not_refused (may_open d.sizes.version (d.slot slot)) AlreadyOpen _ none).0)

either_slots : (t : Bool) (d e : Desk) → e.slot ≡ d.slot → (if t then d else e).slot ≡ d.slot
either_slots true d e same = refl
either_slots false d e same = same

was_there : (d : Desk) (task : ℕ) (call : Call) (s : ℕ) (b : Layer) → refusal d task call ≡ None
    → (arranged d task call).slot s ≡ Live b → WasThere d s b
was_there d task (Create slot make) s b none is = created_there d slot _ b s (free_slot d slot make false none) is
was_there d task (OpenWindow slot make framed nocare asks title) s b none is =
    created_there d slot _ b s (free_slot d slot make framed none) is
was_there d task (Close slot) s b none is = closed_there d slot b s is
was_there d task (InFrontOf slot other) s b none is = inl (sym (ap (λ f. f s) (either_slots (slot == other) d _ refl)) ∙ is)
was_there d task call s b none is = inl is

-- what an arrangement hurts of a layer that was live
hurt_across : (d e : Desk) (s : ℕ) (l : Layer) (call : Call) (hurt : ℕ → ℕ → Bool) (x y : ℕ) → is_arrangement call ≡ true
    → hurt_by_call d e s l call hurt x y ≡ (not (counts_as_kept (across d e s) l x y) || hurt x y)
hurt_across d e s l (Create slot make) hurt x y is = refl
hurt_across d e s l (OpenWindow slot make framed nocare asks title) hurt x y is = refl
hurt_across d e s l (Close slot) hurt x y is = refl
hurt_across d e s l (ToFront slot) hurt x y is = refl
hurt_across d e s l (ToBack slot) hurt x y is = refl
hurt_across d e s l (InFrontOf slot other) hurt x y is = refl
hurt_across d e s l (MoveBy slot dx dy) hurt x y is = refl
hurt_across d e s l (SizeBy slot dw dh) hurt x y is = refl
hurt_across d e s l (SetBox slot bx by w h) hurt x y is = refl
hurt_across d e s l (Activate slot) hurt x y is = refl
hurt_across d e s l call hurt x y is = absurd (false≢true is)

-- a slot without a layer has no bounds, and nothing is hurt in it
idle_bare : (d : Desk) (s : ℕ) (x : Slot) → IsSlot d s x → is_live x ≡ false → d.bounds s ≡ None
idle_bare d s Unopened is idle = is
idle_bare d s (Live l) is idle = absurd (true≢false idle)
idle_bare d s Closed is idle = is

idle_unhurt : (d e : Desk) (s : ℕ) (x : Slot) (call : Call) (hurt : ℕ → ℕ → Bool) (u v : ℕ) → is_live x ≡ false
    → hurt_in_slot d e s x call hurt u v ≡ false
idle_unhurt d e s Unopened call hurt u v idle = refl
idle_unhurt d e s (Live l) call hurt u v idle = absurd (true≢false idle)
idle_unhurt d e s Closed call hurt u v idle = refl

-- a layer with bounds was live before
placed_live : (d : Desk) (a : Desk) (s : ℕ) (l : Layer) → IsSlot d s (Live l) → was_live (across d a s) ≡ true
placed_live d a s l is = go (d.bounds s) is.0
  where
    go : (o : Option Rectangle) → IsPlaced d.sizes l o → has_bounds o ≡ true
    go None p = absurd p
    go (Some r) p = refl

-- nothing counts as kept of a layer that wasn't live
none_counts : (c : Across) (l : Layer) (x y : ℕ) → was_live c ≡ false → counts_as_kept c l x y ≡ false
unfolding counts_as_kept
none_counts c l x y dead =
    ap (λ t. (t && is_kept (visible_within c.shown c.bounds l.scroll_x l.scroll_y) l x y)
    && (was_inner c l x y || not (is_framed l.window && is_inner c l x y))) dead

-- the damage of a settled simple layer at a pixel that it keeps in its inner rectangle
settled_damage : (glyphs : List (List ℕ)) (c : Across) (b m : Layer) (visible : ℕ → ℕ → Bool) (x y : ℕ)
    → m ≡ settled_layer glyphs c b → m.kind ≡ Simple
    → visible ≡ visible_within c.new_shown c.new_bounds m.scroll_x m.scroll_y → is_kept visible m x y ≡ true
    → is_inside m x y ≡ true
    → at false m.damage x y ≡ (if counts_as_kept c b x y then at false b.damage x y else was_live c)
unfolding is_kept
settled_damage glyphs c b m visible x y is simple seen kept inside =
    let r = revealed_in c b in
    let plain : is_super b.kind ≡ false =
    ap is_super (sym (settled_kind glyphs c b) ∙ (ap (λ (q : Layer). q.kind) (sym is) ∙ simple)) in
    let whole : m ≡ settled_from glyphs c b r = is ∙ settled_is glyphs c b r (revealed_plain c b plain) in
    let z : IsStill r m = subst (λ q. IsStill r q) (sym whole) (settled_still glyphs c b) in
    let inner : is_inner c b x y ≡ true = sym (inside_same r m x y z) ∙ inside in
    let keeps_it : keeps c (at_new_size c b) x y ≡ true =
    sym (kept_same c r m x y z) ∙ (ap (λ v. is_kept v m x y) (sym seen) ∙ kept) in
    let lies = inner_lies (is_framed b.window) (width_in c.new_bounds) (height_in c.new_bounds) x y inner in
    ap (λ q. at false q x y) z.damage ∙
    (grid_at (width_in c.new_bounds) (height_in c.new_bounds)
    (λ u v. (keeps c (at_new_size c b) u v && is_inner c b u v)
    && (if counts_as_kept c b u v then at false b.damage u v else was_live c)) false x y lies.0 lies.1 ∙
    ap (λ t. t && (if counts_as_kept c b x y then at false b.damage x y else was_live c)) (and_from _ _ keeps_it inner))
  where
    inside_same : (l n : Layer) (u v : ℕ) → IsStill l n → is_inside n u v ≡ is_inside l u v
    inside_same l n u v z = rw (z.framed, z.width, z.height) refl

    kept_same : (k : Across) (l n : Layer) (u v : ℕ) → IsStill l n
        → is_kept (visible_within k.new_shown k.new_bounds n.scroll_x n.scroll_y) n u v ≡ keeps k l u v
    kept_same k l n u v z = rw (z.kind, z.scroll_x, z.scroll_y, z.width, z.height) refl

-- a pixel that counts as kept has the former mark, and any other of a live layer is marked
chosen : (counts had hurt live : Bool) → had ≡ hurt → live ≡ true → (if counts then had else live) ≡ (not counts || hurt)
chosen true had hurt live same is = same
chosen false had hurt live same is = is

-- An arrangement leaves just that damaged of each simple layer which is hurt after it.
pub arrangement_told : (d : Desk) (task : ℕ) (call : Call) (hurt : Hurts) → IsDesk d → IsTold d hurt → is_arrangement call ≡ true
    → refusal d task call ≡ None → IsDesk (settled d (arranged d task call))
    → (s : ℕ) (m : Layer) (x y : ℕ) → (settled d (arranged d task call)).slot s ≡ Live m → m.kind ≡ Simple
    → is_kept (is_visible (settled d (arranged d task call)) s m) m x y ≡ true → is_inside m x y ≡ true
    → at false m.damage x y ≡ hurt_in_slot d (settled d (arranged d task call)) s (d.slot s) call (hurt s) x y
unfolding is_visible top
arrangement_told d task call hurt ok told arranges none sound s m x y is simple kept inside =
    ⊎_elim was_live_before was_idle (was_there d task call s b none before.1)
  where
    a : Desk
    a = arranged d task call

    e : Desk
    e = settled d a

    c : Across
    c = across d a s

    listed : occurrences s a.front_to_back ≡ 1
    listed = sound.listed s ∙ ap (λ q. if is_live q then 1 else 0) is

    change : ℕ → Slot → Slot
    change t layer = change_layer (settled_layer d.assets.glyphs (across d a t)) layer

    before : (l : Layer) × (a.slot s ≡ Live l) × (m ≡ settled_layer d.assets.glyphs c l)
    before = live_before (settled_layer d.assets.glyphs c) (a.slot s) m
        (sym (changed_in a.front_to_back change a.slot s (omega (arith, listed))) ∙ is)

    b : Layer
    b = before.0

    damage : at false m.damage x y ≡ (if counts_as_kept c b x y then at false b.damage x y else was_live c)
    damage = settled_damage d.assets.glyphs c b m (is_visible e s m) x y before.2 simple refl kept inside

    kind : b.kind ≡ Simple
    kind = sym (settled_kind d.assets.glyphs c b) ∙ (ap (λ (q : Layer). q.kind) (sym before.2) ∙ simple)

    was_live_before : d.slot s ≡ Live b → at false m.damage x y ≡ hurt_in_slot d e s (d.slot s) call (hurt s) x y
    was_live_before was =
        let slot_is : IsSlot d s (Live b) = subst (λ q. IsSlot d s q) was (ok.slots s) in
        damage ∙
        (chosen (counts_as_kept c b x y) (at false b.damage x y) (hurt s x y) (was_live c) (told s b x y was kind)
        (placed_live d a s b slot_is) ∙
        (sym (hurt_across d e s b call (hurt s) x y arranges) ∙ ap (λ q. hurt_in_slot d e s q call (hurt s) x y) (sym was)))

    was_idle : is_live (d.slot s) ≡ false → at false m.damage x y ≡ hurt_in_slot d e s (d.slot s) call (hurt s) x y
    was_idle idle =
        let dead : was_live c ≡ false = ap has_bounds (idle_bare d s (d.slot s) (ok.slots s) idle) in
        damage ∙
        (ap (λ t. if t then at false b.damage x y else was_live c) (none_counts c b x y dead) ∙
        (dead ∙ sym (idle_unhurt d e s (d.slot s) call (hurt s) x y idle)))
