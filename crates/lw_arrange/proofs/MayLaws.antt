-- A cell of a desk may be prepared for an arrangement that is done there.
use Rattle.std.proofs.Common.{◌≡◌, ℕ, ◌+◌, ◌≤◌, Bool, true, false, not, ◌&&◌, List, Option, Some, None, refl, sym, ap, subst, ◌∙◌, ⊎_elim, arith, ℤ, pos, ◌+ℤ◌, ◌-ℤ◌, int_le, nat_le, nat_lt, unsigned_abs, IsTrue}
use Rattle.std.specs.Prelude.{if◌then◌else◌}
use Rattle.std.proofs.lemmas.Bool.{and_parts, and_from, ltb-true, false≢true}
use Rattle.std.proofs.lemmas.Bool.Decides.{nat_tests}
use Rattle.std.proofs.lemmas.Int.{ints}
use Rattle.lw_region.specs.Rectangle.{Rectangle, columns_of, rows_of, has_pixel, width, height}
use Rattle.lw_calls.specs.declared.make.Kind.{Kind}
use Rattle.lw_calls.specs.declared.make.Kind.TheVariants.{Simple, Smart, SuperBitmap}
use Rattle.lw_calls.specs.declared.make.Make.{Make}
use Rattle.lw_calls.specs.declared.call.Call.{Call}
use Rattle.lw_calls.specs.declared.call.Call.TheVariants.{Create, OpenWindow}
use Rattle.lw_calls.specs.declared.sizes.Sizes.{Sizes}
use Rattle.lw_calls.specs.Kinds.{is_super}
use Rattle.lw_calls.proofs.LimitLaws.{screen_at_most}
use Rattle.lw_calls.specs.Limits.{IsWithinLimits, may_leave_screen, call_fits, make_fits, window_fits, hook_fits, kind_fits}
use Rattle.lw_machine.specs.Hook.{Hook}
use Rattle.lw_machine.specs.Layer.{Layer, Window, Slot, Live, is_framed}
use Rattle.lw_machine.specs.Desk.{Desk}
use Rattle.lw_machine.specs.Screen.{bounds_have}
use Rattle.lw_machine.specs.Paint.{with_pens}
use Rattle.lw_machine.specs.Arrangement.{bounds_of, is_on_screen, has_coordinates, is_no_larger, may_lie_at, is_at_least, portion_fits, may_have_bounds, layer_may_have_bounds, arranged}
use Rattle.lw_machine.specs.Reveal.{Across, has_bounds, across, revealed, at_new_size, with_revealed, keeps, framed_by, with_frame, frame_is_due, with_due_frame, with_messages, settled_layer, settled}
use Rattle.lw_machine.specs.Parts.{slot_part}
use Rattle.lw_machine.specs.Sound.{IsDesk, IsSlot, IsPlaced}
use Rattle.lw_machine.proofs.Settling.{told_framed}
use Rattle.lw_machine.proofs.ArrangementSound.{frameless}
use Rattle.lw_cliprects.specs.Parts.{LieIn}
use Rattle.lw_layer.specs.View.{State, CellView, hooked}
use Rattle.lw_layer.specs.View as view
use Rattle.lw_layer.specs.Pieces.{HasFrameRoom}
use Rattle.lw_layer.specs.StandsFor.{IsPartOf, StandsFor, IsSound}
use Rattle.lw_layer.proofs.SoundLaws.{live_part}
use Rattle.lw_stack.specs.Stack.{bounds_at}
use Rattle.lw_reveal.specs.Changed.{MayHave}
use Rattle.lw_stack.proofs.FirstLaws.{not_top}
use Rattle.lw_stack.proofs.ListedLaws.{shown_places}
use Rattle.lw_arrange.specs.Arrangements.{ArrangementView}
use Rattle.lw_arrange.specs.Prepared.{Created, created_by, shown_at, HasClasses, MayBeNew, MayOpen, MayBecome, MayBe, MayPrepare}
use Rattle.lw_arrange.proofs.SettledLaws.{each_settled}
use Rattle.lw_arrange.proofs.CellLaws.{Stays, Opens, slot_becomes}
use Rattle.lw_arrange.proofs.StandLaws.{IsDone, not_live, created_is, gone}

-- along one axis: bounds no larger than the screen that have a place
axis_size : (low high : ℤ) (n : ℕ) → int_le ((high +ℤ pos 1) -ℤ low) (pos n) ≡ true → int_le (pos 1) ((high +ℤ pos 1) -ℤ low) ≡ true → n ≤ 2048 → (1 ≤ unsigned_abs ((high +ℤ pos 1) -ℤ low)) × (unsigned_abs ((high +ℤ pos 1) -ℤ low) ≤ 2048)
axis_size low high n most some few = (grind (arith, ints), grind (arith, ints))

-- what lies on the screen is no larger than it
axis_most : (low high : ℤ) (n : ℕ) → int_le (pos 0) low ≡ true → int_le (high +ℤ pos 1) (pos n) ≡ true → int_le ((high +ℤ pos 1) -ℤ low) (pos n) ≡ true
axis_most low high n first last = grind (arith, ints)

on_screen_no_larger : (s : Sizes) (r : Rectangle) → is_on_screen s r ≡ true → is_no_larger s r ≡ true
unfolding is_on_screen is_no_larger
on_screen_no_larger s r on =
    let sides = and_parts (int_le (pos 0) r.min_x && int_le (r.max_x +ℤ pos 1) (pos s.width)) (int_le (pos 0) r.min_y && int_le (r.max_y +ℤ pos 1) (pos s.height)) on in
    let across = and_parts (int_le (pos 0) r.min_x) (int_le (r.max_x +ℤ pos 1) (pos s.width)) sides.0 in
    let down = and_parts (int_le (pos 0) r.min_y) (int_le (r.max_y +ℤ pos 1) (pos s.height)) sides.1 in
    and_from (int_le (columns_of r) (pos s.width)) (int_le (rows_of r) (pos s.height))
    (axis_most r.min_x r.max_x s.width across.0 across.1) (axis_most r.min_y r.max_y s.height down.0 down.1)

no_larger : (s : Sizes) (r : Rectangle) → may_lie_at s r ≡ true → is_no_larger s r ≡ true
unfolding may_lie_at
no_larger s r lies = go (may_leave_screen s.version) (and_parts (has_coordinates r) _ lies).1
  where
    go : (off : Bool) → (if off then is_no_larger s r else is_on_screen s r) ≡ true → is_no_larger s r ≡ true
    go true is = is
    go false is = on_screen_no_larger s r is

-- and a portion of so many places that begins at one
axis_portion : (low high : ℤ) (x w : ℕ) → int_le (pos x +ℤ ((high +ℤ pos 1) -ℤ low)) (pos w) ≡ true → int_le (pos 1) ((high +ℤ pos 1) -ℤ low) ≡ true → x + unsigned_abs ((high +ℤ pos 1) -ℤ low) ≤ w
axis_portion low high x w last some = grind (arith, ints)

-- and so many places at least
axis_room : (low high : ℤ) (n : ℕ) → int_le (pos n) ((high +ℤ pos 1) -ℤ low) ≡ true → n ≤ unsigned_abs ((high +ℤ pos 1) -ℤ low)
axis_room low high n some = grind (arith, ints)

-- bounds that a layer may have have sizes for planes, a frame has room in them, and what they show of an own bitmap lies in it
pub record IsFit (framed own : Bool) (x y w h : ℕ) (r : Rectangle) : Type 0 where
  pub wide : (1 ≤ width r) × (width r ≤ 2048)
  pub high : (1 ≤ height r) × (height r ≤ 2048)
  pub right : own ≡ true → x + width r ≤ w
  pub lower : own ≡ true → y + height r ≤ h
  pub room : framed ≡ true → HasFrameRoom r

pub may_fit : (s : Sizes) (framed : Bool) (k : Kind) (x y w h : ℕ) (r : Rectangle) → IsWithinLimits s
    → may_have_bounds s framed k x y w h r ≡ true → IsFit framed (is_super k) x y w h r
unfolding is_no_larger is_at_least portion_fits
may_fit s framed k x y w h r limits may =
    let halves = and_parts _ _ may in
    let first = and_parts (may_lie_at s r) (is_at_least (pos 1) (pos 1) r) halves.0 in
    let second = and_parts (if framed then is_at_least (pos 9) (pos 14) r else true) (if is_super k then portion_fits (pos x) (pos y) w h r else true) halves.1 in
    let most = and_parts (int_le (columns_of r) (pos s.width)) (int_le (rows_of r) (pos s.height)) (no_larger s r first.0) in
    let bound = screen_at_most s.version in
    let columns = limits.columns in
    let rows = limits.rows in
    let some = and_parts (int_le (pos 1) (columns_of r)) (int_le (pos 1) (rows_of r)) first.1 in
    let portion : is_super k ≡ true → portion_fits (pos x) (pos y) w h r ≡ true = λ own. sym (ap (λ b. if b then portion_fits (pos x) (pos y) w h r else true) own) ∙ second.1 in
    record {
      wide = axis_size r.min_x r.max_x s.width most.0 some.0 (omega (arith, columns, bound));
      high = axis_size r.min_y r.max_y s.height most.1 some.1 (omega (arith, rows, bound));
      right =
          λ own.
          let fits = and_parts (int_le (pos 0) (pos x) && int_le (pos x +ℤ columns_of r) (pos w)) (int_le (pos 0) (pos y) && int_le (pos y +ℤ rows_of r) (pos h)) (portion own) in
          axis_portion r.min_x r.max_x x w (and_parts (int_le (pos 0) (pos x)) (int_le (pos x +ℤ columns_of r) (pos w)) fits.0).1 some.0;
      lower =
          λ own.
          let fits = and_parts (int_le (pos 0) (pos x) && int_le (pos x +ℤ columns_of r) (pos w)) (int_le (pos 0) (pos y) && int_le (pos y +ℤ rows_of r) (pos h)) (portion own) in
          axis_portion r.min_y r.max_y y h (and_parts (int_le (pos 0) (pos y)) (int_le (pos y +ℤ rows_of r) (pos h)) fits.1).1 some.1;
      room =
          λ has.
          let large = and_parts (int_le (pos 9) (columns_of r)) (int_le (pos 14) (rows_of r)) (sym (ap (λ b. if b then is_at_least (pos 9) (pos 14) r else true) has) ∙ second.0) in
          record { wide = axis_room r.min_x r.max_x 9 large.0; high = axis_room r.min_y r.max_y 14 large.1 };
    }

-- what is shown of a slot lies in its bounds
pub shown_inside : (a : ArrangementView) (s : ℕ) (r : Rectangle) → bounds_at a.stack.bounds s ≡ Some r → LieIn r (shown_at a s)
shown_inside a s r planned x y has = go (has_pixel r x y) refl
  where
    go : (b : Bool) → has_pixel r x y ≡ b → b ≡ true
    go true e = refl
    go false e =
        absurd (false≢true (sym (not_top a.stack s x y (ap (λ o. bounds_have o x y) planned ∙ e)) ∙ (sym (shown_places a.stack s x y) ∙ has)))

-- what is settled of a layer has its kind, its scroll, a frame as it has, and bits of the same size where they are its own
record IsSameFrame (l m : Layer) : Type 0 where
  pub kind : m.kind ≡ l.kind
  pub scroll_x : m.scroll_x ≡ l.scroll_x
  pub scroll_y : m.scroll_y ≡ l.scroll_y
  pub framed : is_framed m.window ≡ is_framed l.window
  pub wide : is_super l.kind ≡ true → m.bits.width ≡ l.bits.width
  pub high : is_super l.kind ≡ true → m.bits.height ≡ l.bits.height

same_frame : (l : Layer) → IsSameFrame l l
same_frame l = record { kind = refl; scroll_x = refl; scroll_y = refl; framed = refl; wide = λ _. refl; high = λ _. refl }

then_frame : (l m n : Layer) → IsSameFrame l m → IsSameFrame m n → IsSameFrame l n
then_frame l m n first second = record {
  kind = second.kind ∙ first.kind;
  scroll_x = second.scroll_x ∙ first.scroll_x;
  scroll_y = second.scroll_y ∙ first.scroll_y;
  framed = second.framed ∙ first.framed;
  wide = λ own. second.wide (ap is_super first.kind ∙ own) ∙ first.wide own;
  high = λ own. second.high (ap is_super first.kind ∙ own) ∙ first.high own;
}

revealed_frame : (k : Across) (l : Layer) → IsSameFrame l (revealed k l)
unfolding revealed
revealed_frame k l = go (is_super l.kind) refl
  where
    go : (own : Bool) → is_super l.kind ≡ own → IsSameFrame l (if own then l else with_revealed k l (at_new_size k l))
    go true is = same_frame l
    go false is = record {
      kind = refl;
      scroll_x = refl;
      scroll_y = refl;
      framed = refl;
      wide = λ own. absurd (cc (is, own));
      high = λ own. absurd (cc (is, own));
    }

painted_frame_same : (t : Bool) (on : ℕ → ℕ → Bool) (pen : ℕ → ℕ → ℕ) (l : Layer) → IsSameFrame l (if t then with_pens on pen l else l)
unfolding with_pens
painted_frame_same true on pen l = record { kind = refl; scroll_x = refl; scroll_y = refl; framed = refl; wide = λ _. refl; high = λ _. refl }
painted_frame_same false on pen l = same_frame l

framed_by_same : (glyphs : List (List ℕ)) (kept : ℕ → ℕ → Bool) (active : Bool) (o : Option Window) (l : Layer)
    → IsSameFrame l (framed_by glyphs kept active o l)
framed_by_same glyphs kept active None l = same_frame l
framed_by_same glyphs kept active (Some w) l = painted_frame_same w.framed _ _ l

due_same : (due : Bool) (glyphs : List (List ℕ)) (kept : ℕ → ℕ → Bool) (active : Bool) (l : Layer)
    → IsSameFrame l (if due then with_frame glyphs kept active l else l)
due_same true glyphs kept active l = framed_by_same glyphs kept active l.window l
due_same false glyphs kept active l = same_frame l

told_same : (k : Across) (l : Layer) → IsSameFrame l (with_messages k l)
told_same k l = record {
  kind = refl;
  scroll_x = refl;
  scroll_y = refl;
  framed = told_framed k l l.window;
  wide = λ _. refl;
  high = λ _. refl;
}

settled_frame : (glyphs : List (List ℕ)) (k : Across) (l : Layer) → IsSameFrame l (settled_layer glyphs k l)
unfolding settled_layer
settled_frame glyphs k l =
    let r = revealed k l in
    let q = with_due_frame glyphs k l r in
    then_frame l q (with_messages k q)
    (then_frame l r q (revealed_frame k l) (due_same (frame_is_due k l r) glyphs (keeps k r) k.new_active r)) (told_same k q)

-- the layer of a sound desk may have its bounds
placed_may : (e : Desk) (s : ℕ) (m : Layer) (r : Rectangle) → IsDesk e → e.slot s ≡ Live m → e.bounds s ≡ Some r → layer_may_have_bounds e.sizes m r ≡ true
placed_may e s m r ok slot bounds =
    let P : Slot → Type 0 = λ x. IsSlot e s x in
    let here : IsPlaced e.sizes m (e.bounds s) = (subst P slot (ok.slots s)).0 in
    let Q : Option Rectangle → Type 0 = λ o. IsPlaced e.sizes m o in
    (subst Q bounds here).may

-- a layer that stays live may have its new bounds
stays_may : (d : Desk) (caller : ℕ) (made : Call) (a : ArrangementView) (c : CellView) (h : Option Hook) → IsDone d caller made a
    → c.state ≡ view.Live → StandsFor (hooked h c) (slot_part d c.number) → IsSound c.live → (r : Rectangle)
    → bounds_at a.stack.bounds c.number ≡ Some r → Stays d (arranged d caller made) c.number
    → MayHave c.live r (shown_at a c.number)
stays_may d caller made a c h done live stands sound r planned stays =
    let s = c.number in
    let e = arranged d caller made in
    let l : Layer = record c.live.layer { hook = h } in
    let bounds : e.bounds s ≡ Some r = done.plan.info.bounds s ∙ planned in
    let m : Layer = settled_layer d.assets.glyphs (across d e s) l in
    let slot : (settled d e).slot s ≡ Live m =
    each_settled d e s (Live l) done.settled (stays.slot ∙ (live_part (hooked h c) (slot_part d s) live stands).slot) in
    let frame = settled_frame d.assets.glyphs (across d e s) l in
    let fit =
    may_fit e.sizes (is_framed m.window) m.kind m.scroll_x m.scroll_y m.bits.width m.bits.height r done.settled.limits
    (placed_may (settled d e) s m r done.settled slot bounds)
    in
    record {
      sizes = record { columns = fit.wide; rows = fit.high; planes = sound.bits.sizes.planes };
      inside = shown_inside a s r planned;
      right =
          λ own. let h = fit.right (ap is_super frame.kind ∙ own) in let w = frame.wide own in omega (arith, h, frame.scroll_x, w);
      lower =
          λ own. let h = fit.lower (ap is_super frame.kind ∙ own) in let w = frame.high own in omega (arith, h, frame.scroll_y, w);
      frame = λ has. fit.room (frame.framed ∙ has);
    }

-- a bitmap that may be asked for has sizes for planes
own_fits : (kind : Kind) (hook : Option ℕ) (w h : ℕ) → kind_fits kind hook w h ≡ true → is_super kind ≡ true → ((1 ≤ w) × (w ≤ 2048)) × ((1 ≤ h) × (h ≤ 2048))
own_fits Simple hook w h fits own = absurd (cc own)
own_fits Smart hook w h fits own = absurd (cc own)
own_fits SuperBitmap None w h fits own =
    let sides = and_parts (nat_le 1 w && nat_le w 2048) (nat_le 1 h && nat_le h 2048) fits in
    let across = and_parts (nat_le 1 w) (nat_le w 2048) sides.0 in
    let down = and_parts (nat_le 1 h) (nat_le h 2048) sides.1 in
    ((grind (arith, nat_tests), grind (arith, nat_tests)), (grind (arith, nat_tests), grind (arith, nat_tests)))
own_fits SuperBitmap (Some n) w h fits own = absurd (cc fits)

made_own : (sizes : Sizes) (m : Make) → make_fits sizes m ≡ true → is_super m.kind ≡ true
    → ((1 ≤ m.bits_w) × (m.bits_w ≤ 2048)) × ((1 ≤ m.bits_h) × (m.bits_h ≤ 2048))
made_own sizes m fits own =
    let inner = and_parts _ (hook_fits sizes.hooks m.hook && kind_fits m.kind m.hook m.bits_w m.bits_h) fits in
    let last = and_parts (hook_fits sizes.hooks m.hook) (kind_fits m.kind m.hook m.bits_w m.bits_h) inner.1 in
    own_fits m.kind m.hook m.bits_w m.bits_h last.1 own

-- what the ranges of a call say of the layer that it creates
record IsAsked (n : Created) : Type 0 where
  pub own : is_super n.make.kind ≡ true
      → ((1 ≤ n.make.bits_w) × (n.make.bits_w ≤ 2048)) × ((1 ≤ n.make.bits_h) × (n.make.bits_h ≤ 2048))
  pub frameless : is_super n.make.kind ≡ true → is_framed n.window ≡ false
  pub classes : HasClasses n.window

created_or : {m n : Created} → Some m ≡ Some n → m ≡ n
created_or {m} {n} is = ap (λ o. or_else o m) is
  where
    or_else : Option Created → Created → Created
    or_else None k = k
    or_else (Some k) j = k

asked_fits : (task : ℕ) (call : Call) (sizes : Sizes) (n : Created) → created_by task call ≡ Some n → IsTrue (call_fits sizes call)
    → IsAsked n
asked_fits task (Create slot m) sizes n asked fits =
    let parts = and_parts (nat_lt slot sizes.slots) (make_fits sizes m) fits in
    subst IsAsked (created_or asked)
    (record { own = made_own sizes m parts.1; frameless = λ _. refl; classes = tt })
asked_fits task (OpenWindow slot m framed nocare asks title) sizes n asked fits =
    let parts = and_parts (nat_lt slot sizes.slots) (make_fits sizes m && window_fits m framed asks) fits in
    let rest = and_parts (make_fits sizes m) (window_fits m framed asks) parts.1 in
    let window = and_parts (not (framed && is_super m.kind)) (nat_lt asks 32) rest.1 in
    subst IsAsked (created_or asked)
    (record {
      own = made_own sizes m rest.0;
      frameless = frameless framed (is_super m.kind) window.0;
      classes = ltb-true asks 32 window.1;
    })
asked_fits task call sizes n asked fits = absurd (cc asked)

-- what a new layer asks of its bounds
opens_may : (d : Desk) (caller : ℕ) (made : Call) (a : ArrangementView) (s : ℕ) → IsDone d caller made a
    → (opens : Opens d (arranged d caller made) caller made s) → MayBeNew opens.created d.sizes.depth (bounds_of opens.created.make)
opens_may d caller made a s done opens =
    let n = opens.created in
    let make = n.make in
    let fit =
    may_fit d.sizes (is_framed n.window) make.kind 0 0 make.bits_w make.bits_h (bounds_of make) done.sound.limits opens.may in
    let asked = asked_fits caller made d.sizes n opens.asked done.fits in
    let limits = done.sound.limits in
    record {
      size = record {
        place = refl;
        sizes = record { columns = fit.wide; rows = fit.high; planes = (limits.some_planes, limits.planes) };
        own = λ super. let sides = asked.own super in record { columns = sides.0; rows = sides.1; planes = (limits.some_planes, limits.planes) };
        right = λ super. let h = fit.right super in omega (arith, h);
        lower = λ super. let h = fit.lower super in omega (arith, h);
      };
      frameless = asked.frameless;
      frame = fit.room;
      classes = asked.classes;
    }

-- a slot that isn't live may have the bounds that a new layer may
may_open_idle : (new : Option Created) (depth : ℕ) (r : Rectangle) (visible : List Rectangle) (c : CellView) (q : State) → (q ≡ view.Live → ⊥)
    → MayOpen new depth r → MayBecome new depth r visible c q
may_open_idle new depth r visible c view.Unopened dead may = may
may_open_idle new depth r visible c view.Live dead may = absurd (dead refl)
may_open_idle new depth r visible c view.Closed dead may = may

-- A cell of the desk may be prepared, whatever hook its layer has.
pub may_prepare : (d : Desk) (caller : ℕ) (made : Call) (a : ArrangementView) (c : CellView) (h : Option Hook) → IsDone d caller made a
    → StandsFor (hooked h c) (slot_part d c.number) → (c.state ≡ view.Live → IsSound c.live) → MayPrepare a c
may_prepare d caller made a c h done stands sound =
    let s = c.number in
    let e = arranged d caller made in
    let planned : e.bounds s ≡ bounds_at a.stack.bounds s = done.plan.info.bounds s in
    let P : Option Rectangle → Type 0 = λ o. MayBe (created_by a.task a.call) a.stack.sizes.depth (shown_at a s) c o in
    ⊎_elim (λ stays. by_state c.state refl stays (bounds_at a.stack.bounds s) refl)
    (λ rest. ⊎_elim (λ opens. opened opens)
    (λ closes. subst P (sym closes.bounds ∙ planned) tt) rest)
    (slot_becomes d caller made s done.all done.unrefused)
  where
    opened : Opens d (arranged d caller made) caller made c.number → MayPrepare a c
    opened opens =
        let n = opens.created in
        let r = bounds_of n.make in
        let visible = shown_at a c.number in
        let was = not_live (hooked h c) (slot_part d c.number) stands opens.free in
        let first : MayBe (Some n) d.sizes.depth visible c (Some r) = may_open_idle (Some n) d.sizes.depth r visible c c.state was.0 (opens_may d caller made a c.number done opens) in
        let P : Option Rectangle → Type 0 = λ o. MayBe (Some n) d.sizes.depth visible c o in
        let Q : ℕ → Type 0 = λ depth. MayBe (Some n) depth visible c (bounds_at a.stack.bounds c.number) in
        let T : Option Created → Type 0 = λ o. MayBe o a.stack.sizes.depth visible c (bounds_at a.stack.bounds c.number) in
        let created : created_by a.task a.call ≡ Some n = created_is d caller made a n done opens.asked in
        subst T (sym created)
        (subst Q (sym (ap (λ z. z.depth) done.sizes)) (subst P (sym opens.bounds ∙ done.plan.info.bounds c.number) first))

    dead : d.bounds c.number ≡ None → Stays d (arranged d caller made) c.number → MayPrepare a c
    dead none stays =
        let e = arranged d caller made in
        let P : Option Rectangle → Type 0 = λ o. MayBe (created_by a.task a.call) a.stack.sizes.depth (shown_at a c.number) c o in
        subst P (sym (gone (e.bounds c.number) (stays.bounds ∙ ap has_bounds none)) ∙ done.plan.info.bounds c.number) tt

    part : (q : State) → c.state ≡ q → IsPartOf q (hooked h c).live (slot_part d c.number)
    part q is = let P : State → Type 0 = λ t. IsPartOf t (hooked h c).live (slot_part d c.number) in subst P is stands

    by_state : (q : State) → c.state ≡ q → Stays d (arranged d caller made) c.number → (o : Option Rectangle) → bounds_at a.stack.bounds c.number ≡ o → MayPrepare a c
    by_state view.Unopened is stays o at = dead (part view.Unopened is).1 stays
    by_state view.Closed is stays o at = dead (part view.Closed is).1 stays
    by_state view.Live is stays None at =
        let P : Option Rectangle → Type 0 = λ q. MayBe (created_by a.task a.call) a.stack.sizes.depth (shown_at a c.number) c q in
        subst P (sym at) tt
    by_state view.Live is stays (Some r) at =
        let P : Option Rectangle → Type 0 = λ q. MayBe (created_by a.task a.call) a.stack.sizes.depth (shown_at a c.number) c q in
        let R : State → Type 0 = λ q. MayBecome (created_by a.task a.call) a.stack.sizes.depth r (shown_at a c.number) c q in
        subst P (sym at) (subst R (sym is) (stays_may d caller made a c h done is stands (sound is) r at stays))
