-- The groups of a pair leave it paired, and any other pair.
use Rattle.std.proofs.Common.{◌≡◌, ℕ, ◌==◌, Bool, true, false, not, List, [], ℤ, pos, ◌+ℤ◌, ◌-ℤ◌, Some, None, refl, sym, ap}
use Rattle.std.proofs.Common.{subst, ◌∙◌, inl, inr, option_and_then}
use Rattle.std.specs.Prelude.{◌||◌, if◌then◌else◌}
use Rattle.std.proofs.lemmas.Bool.{eq-eqb, not-true, or_from, or_parts}
use Rattle.lw_region.specs.Rectangle.{Rectangle}
use Rattle.lw_calls.specs.declared.make.Kind.{Kind}
use Rattle.lw_calls.specs.declared.make.Kind.TheVariants.{Smart}
use Rattle.lw_calls.specs.declared.make.Place.{Place}
use Rattle.lw_calls.specs.declared.make.Make.{Make}
use Rattle.lw_calls.specs.declared.pair.Pair.{Pair}
use Rattle.lw_calls.specs.declared.call.Call.{Call}
use Rattle.lw_calls.specs.declared.call.Call.TheVariants.{OpenWindow, InFrontOf as PutInFront, SetBox as BoxCall}
use Rattle.lw_calls.specs.declared.reply.Reply.TheVariants.{NotOpen, AlreadyOpen, Backdrop, OutOfBounds}
use Rattle.lw_calls.specs.Limits.{may_leave_screen}
use Rattle.lw_calls.specs.Kinds.{is_super}
use Rattle.lw_machine.specs.Layer.{may_open, is_live, layer_is}
use Rattle.lw_machine.specs.Desk.{Desk}
use Rattle.lw_machine.specs.Shapes.{box_at}
use Rattle.lw_machine.specs.Arrangement.{bounds_of, may_have_bounds, layer_may_have_bounds, has_backdrop}
use Rattle.lw_machine.specs.Step.{refusal, effect, may_change_bounds, after}
use Rattle.lw_machine.proofs.ArrangedStep.{after_is}
use Rattle.lw_machine.proofs.ReachedSound.{after_sizes}
use Rattle.lw_machine.proofs.Untouched.{differ_back}
use Rattle.lw_gzz.specs.declared.word.GzzWord.{GzzWord}
use Rattle.lw_gzz.specs.declared.word.GzzWord.TheVariants.{Open, SetBox, Front, Behind, InFrontOf, Close}
use Rattle.lw_gzz.specs.Words.{plain_make, expansion, has_kind}
use Rattle.lw_gzz.specs.Together.{StandsBefore, AreTogether, IsPaired, IsPairBox, HasPairBox, puts_before, AreDisjoint, is_of}
use Rattle.lw_gzz.specs.Together.{after_all, inner_rectangle, GroupsKeepPairsTogether}
use Rattle.lw_gzz.proofs.Lists.{outer_listed}
use Rattle.lw_gzz.proofs.Order.{disturbs, unless}
use Rattle.lw_gzz.proofs.Lasting.{Lasts, test_stable, live_stable, remakes, after_lasts}
use Rattle.lw_gzz.proofs.Pairs.{mates_last, alters, not_remade, bounds_stay, kept}
use Rattle.lw_gzz.proofs.Closing.{refused_left, closed}
use Rattle.lw_gzz.proofs.Boxes.{outer_slot, inner_slot, inner_is}
use Rattle.lw_gzz.proofs.Joining.{AreOpen, joined_order, front_order, behind_order, put_order}
use Rattle.lw_gzz.proofs.Opening.{opened}

-- what lasts of a slot over two calls
last_two : (d : Desk) (task : ℕ) (first second : Call) (s : ℕ) → remakes s first ≡ false → remakes s second ≡ false
    → Lasts (d.slot s) ((after (after d task first) task second).slot s)
last_two d task first second s once again f stable =
    after_lasts (after d task first) task second s again f stable ∙ after_lasts d task first s once f stable

-- a live pair's windows are open
open_of : (d : Desk) (p : Pair) → (p.inner == p.outer) ≡ false → IsPaired d p → is_live (d.slot p.outer) ≡ true → AreOpen d p
open_of d p differ h live =
    record {
      differ = differ;
      outer_live = live;
      inner_live = h.mates.lives ∙ live;
      outer_plain = h.mates.outer_plain;
      inner_plain = h.mates.inner_plain;
    }

-- two calls that change no bounds leave a pair paired where they leave its order
put_elsewhere : (d : Desk) (task : ℕ) (p : Pair) (first second : Call)
    → ((s : ℕ) → (alters s first ≡ false) × (alters s second ≡ false))
    → (is_live (d.slot p.outer) ≡ true → AreTogether d p
    → StandsBefore p.inner p.outer (after (after d task first) task second).front_to_back)
    → IsPaired d p → IsPaired (after (after d task first) task second) p
put_elsewhere d task p first second spared order h =
    let lasts : (s : ℕ) → Lasts (d.slot s) ((after (after d task first) task second).slot s) =
    λ s. last_two d task first second s (not_remade s first (spared s).0) (not_remade s second (spared s).1) in
    let stay : (s : ℕ) → (after (after d task first) task second).bounds s ≡ d.bounds s =
    λ s. bounds_stay (after d task first) task second s (spared s).1 ∙ bounds_stay d task first s (spared s).0 in
    record {
      mates = mates_last _ _ _ _ h.mates (lasts p.outer) (lasts p.inner);
      together = λ live. let was : is_live (d.slot p.outer) ≡ true = sym (lasts p.outer is_live live_stable) ∙ live in
          let t = h.together was in
          record {
            bounds = t.bounds;
            outer_bounds = stay p.outer ∙ t.outer_bounds;
            inner_bounds = stay p.inner ∙ t.inner_bounds;
            order = order was t;
          };
    }

-- the inner window put in front of the outer one again
rejoined : (d : Desk) (task : ℕ) (p : Pair) → (p.inner == p.outer) ≡ false → IsPaired d p
    → IsPaired (after d task (PutInFront p.inner p.outer)) p
rejoined d task p differ h =
    let outer : Lasts (d.slot p.outer) ((after d task (PutInFront p.inner p.outer)).slot p.outer) =
    after_lasts d task (PutInFront p.inner p.outer) p.outer refl in
    record {
      mates = mates_last _ _ _ _ h.mates outer (after_lasts d task (PutInFront p.inner p.outer) p.inner refl);
      together = λ live. let was : is_live (d.slot p.outer) ≡ true = sym (outer is_live live_stable) ∙ live in
          let t = h.together was in
          record {
            bounds = t.bounds;
            outer_bounds = bounds_stay d task (PutInFront p.inner p.outer) p.outer refl ∙ t.outer_bounds;
            inner_bounds = bounds_stay d task (PutInFront p.inner p.outer) p.inner refl ∙ t.inner_bounds;
            order = joined_order d task p (open_of d p differ h was) (outer_listed p.inner p.outer d.front_to_back t.order);
          };
    }

-- a box that is given to a live layer that may have it
may_have_box : (d : Desk) (task s : ℕ) (x y w h : ℤ) (r : Rectangle) → is_live (d.slot s) ≡ true → has_backdrop d s ≡ false
    → layer_is (λ l. layer_may_have_bounds d.sizes l (box_at x y w h)) (d.slot s) ≡ true → d.bounds s ≡ Some r
    → refusal d task (BoxCall s x y w h) ≡ None
may_have_box d task s x y w h r live plain may bounds =
    let allowed : may_change_bounds d s (λ r. box_at x y w h) (d.bounds s) ≡ true =
    ap (may_change_bounds d s (λ r. box_at x y w h)) bounds ∙ may in
    λ i. if not (live i) then Some NotOpen
    else (if plain i then Some Backdrop else (if not (allowed i) then Some OutOfBounds else None))

given_box : (d : Desk) (task s : ℕ) (x y w h : ℤ) (r : Rectangle) → refusal d task (BoxCall s x y w h) ≡ None
    → d.bounds s ≡ Some r → (after d task (BoxCall s x y w h)).bounds s ≡ Some (box_at x y w h)
given_box d task s x y w h r allowed bounds =
    ap (λ a. a.bounds s) (after_is d task (BoxCall s x y w h) refl allowed) ∙
    (ap (λ b. if b then option_and_then (λ r. Some (box_at x y w h)) (d.bounds s) else d.bounds s) (eq-eqb s s refl) ∙
    ap (option_and_then (λ r. Some (box_at x y w h))) bounds)

-- a call that gives a box leaves the list
list_boxed : (d : Desk) (task s : ℕ) (x y w h : ℤ) (p : Pair) → StandsBefore p.inner p.outer d.front_to_back
    → StandsBefore p.inner p.outer (after d task (BoxCall s x y w h)).front_to_back
unfolding after
list_boxed d task s x y w h p order =
    unless (λ a. StandsBefore p.inner p.outer a.front_to_back) (refusal d task (BoxCall s x y w h)) d
    (effect d task (BoxCall s x y w h)) order order

boxed : (d : Desk) (task : ℕ) (p : Pair) (x y w h : ℤ) → may_leave_screen d.sizes.version ≡ true → (p.inner == p.outer) ≡ false
    → IsPairBox d.sizes x y w h → IsPaired d p → IsPaired (after_all d task (expansion p (SetBox x y w h))) p
boxed d task p x y w h leaves differ box paired =
    record {
      mates = mates_last _ _ _ _ paired.mates lasts (last_two d task first second p.inner refl refl);
      together = λ live. together (sym (lasts is_live live_stable) ∙ live);
    }
  where
    first : Call
    first = BoxCall p.outer x y w h

    second : Call
    second = BoxCall p.inner (x +ℤ pos 4) (y +ℤ pos 11) (w -ℤ pos 8) (h -ℤ pos 13)

    e : Desk
    e = after d task first

    lasts : Lasts (d.slot p.outer) ((after e task second).slot p.outer)
    lasts = last_two d task first second p.outer refl refl

    sizes : e.sizes ≡ d.sizes
    sizes = after_sizes d task first

    inner_lasts : Lasts (d.slot p.inner) (e.slot p.inner)
    inner_lasts = after_lasts d task first p.inner refl

    together : is_live (d.slot p.outer) ≡ true → AreTogether (after e task second) p
    together live =
        let t = paired.together live in
        let mates = paired.mates in
        let outer_allowed : refusal d task first ≡ None =
        may_have_box d task p.outer x y w h t.bounds live mates.outer_plain
        (outer_slot d.sizes x y w h (d.slot p.outer) leaves box live mates.outer_own) t.outer_bounds in
        let inner_bounds : e.bounds p.inner ≡ Some (inner_rectangle t.bounds) =
        bounds_stay d task first p.inner (differ_back p.inner p.outer differ) ∙ t.inner_bounds in
        let inner_live : is_live (e.slot p.inner) ≡ true = inner_lasts is_live live_stable ∙ (mates.lives ∙ live) in
        let inner_plain : has_backdrop e p.inner ≡ false = inner_lasts _ (test_stable (λ n. n.backdrop)) ∙ mates.inner_plain in
        let inner_allowed : refusal e task second ≡ None =
        may_have_box e task p.inner (x +ℤ pos 4) (y +ℤ pos 11) (w -ℤ pos 8) (h -ℤ pos 13) (inner_rectangle t.bounds) inner_live
        inner_plain
        (inner_slot e.sizes x y w h (e.slot p.inner) (ap (λ s. may_leave_screen s.version) sizes ∙ leaves)
        (subst (λ s. IsPairBox s x y w h) (sym sizes) box) inner_live
        (inner_lasts _ (test_stable (λ n. is_super n.kind)) ∙ mates.inner_own)
        (inner_lasts _ (test_stable (λ n. n.framed)) ∙ mates.frameless)) inner_bounds in
        record {
          bounds = box_at x y w h;
          outer_bounds = bounds_stay e task second p.outer differ ∙ given_box d task p.outer x y w h t.bounds outer_allowed
              t.outer_bounds;
          inner_bounds =
              given_box e task p.inner _ _ _ _ (inner_rectangle t.bounds) inner_allowed inner_bounds ∙
              ap (λ r. Some r) (inner_is x y w h);
          order = list_boxed e task p.inner _ _ _ _ p (list_boxed d task p.outer x y w h p t.order);
        }

-- windows that may not be opened
not_made : (d : Desk) (task slot : ℕ) (make : Make) (framed : Bool) (asks : ℕ) (title : List ℕ)
    → may_open d.sizes.version (d.slot slot) ≡ false → after d task (OpenWindow slot make framed false asks title) ≡ d
not_made d task slot make framed asks title taken =
    refused_left d task (OpenWindow slot make framed false asks title) AlreadyOpen
    (λ i. if not (taken i) then Some AlreadyOpen
    else (if not (may_have_bounds d.sizes framed make.kind 0 0 make.bits_w make.bits_h (bounds_of make)) then Some OutOfBounds
    else None))

opening : (d : Desk) (task : ℕ) (p : Pair) (kind : Kind) (place : Place) (x y w h : ℤ) (asks : ℕ) (title : List ℕ)
    → may_leave_screen d.sizes.version ≡ true → (p.inner == p.outer) ≡ false → is_super kind ≡ false → IsPairBox d.sizes x y w h
    → IsPaired d p → IsPaired (after_all d task (expansion p (Open kind place x y w h asks title))) p
opening d task p kind place x y w h asks title leaves differ plain box paired =
    step (may_open d.sizes.version (d.slot p.outer)) refl
  where
    frame : Make
    frame = plain_make Smart place x y w h

    inside : Make
    inside = plain_make kind place (x +ℤ pos 4) (y +ℤ pos 11) (w -ℤ pos 8) (h -ℤ pos 13)

    step : (b : Bool) → may_open d.sizes.version (d.slot p.outer) ≡ b
        → IsPaired (after_all d task (expansion p (Open kind place x y w h asks title))) p
    step true free =
        (opened d task p kind place x y w h asks title leaves differ free (paired.mates.opens d.sizes.version ∙ free) plain
        box).paired
    step false taken =
        subst (λ a. IsPaired (after a task (PutInFront p.inner p.outer)) p)
        (sym (ap (λ a. after a task (OpenWindow p.inner inside false false asks []))
        (not_made d task p.outer frame true asks title taken) ∙
        not_made d task p.inner inside false asks [] (paired.mates.opens d.sizes.version ∙ taken)))
        (rejoined d task p differ paired)

-- a word's calls leave its own pair paired
own_kept : (d : Desk) (task : ℕ) (p : Pair) (word : GzzWord) → may_leave_screen d.sizes.version ≡ true
    → (p.inner == p.outer) ≡ false → has_kind word ≡ true → HasPairBox d.sizes word → IsPaired d p
    → IsPaired (after_all d task (expansion p word)) p
own_kept d task p (Open kind place x y w h asks title) leaves differ plain box paired =
    opening d task p kind place x y w h asks title leaves differ (not-true (is_super kind) plain) box paired
own_kept d task p (SetBox x y w h) leaves differ plain box paired = boxed d task p x y w h leaves differ box paired
own_kept d task p Front leaves differ plain box paired =
    put_elsewhere d task p _ _ (λ s. (refl, refl)) (λ live t. front_order d task p (open_of d p differ paired live)) paired
own_kept d task p Behind leaves differ plain box paired =
    put_elsewhere d task p _ _ (λ s. (refl, refl)) (λ live t. behind_order d task p (open_of d p differ paired live)) paired
own_kept d task p (InFrontOf other) leaves differ plain box paired =
    put_elsewhere d task p _ _ (λ s. (refl, refl))
    (λ live t. put_order d task other p (open_of d p differ paired live) t.order) paired
own_kept d task p Close leaves differ plain box paired = closed d task p differ paired

-- two calls, neither of which disturbs a pair
kept_two : (d : Desk) (task : ℕ) (first second : Call) (q : Pair) → disturbs q first ≡ false → disturbs q second ≡ false
    → IsPaired d q → IsPaired (after (after d task first) task second) q
kept_two d task first second q once again h = kept (after d task first) task second q again (kept d task first q once h)

-- and they leave other pairs paired
other_kept : (d : Desk) (task : ℕ) (p q : Pair) (word : GzzWord) → AreDisjoint p q → puts_before q.outer word ≡ false
    → IsPaired d q → IsPaired (after_all d task (expansion p word)) q
other_kept d task p q word apart place h = by_word word place
  where
    joins : (is_of q p.inner || (p.outer == q.outer)) ≡ false
    joins = or_from _ _ apart.1 (or_parts _ (p.outer == q.inner) apart.0).0

    by_word : (word : GzzWord) → puts_before q.outer word ≡ false → IsPaired (after_all d task (expansion p word)) q
    by_word (Open kind place x y w h' asks title) at = kept _ task _ q joins (kept_two d task _ _ q apart.0 apart.1 h)
    by_word (SetBox x y w h') at = kept_two d task _ _ q apart.0 apart.1 h
    by_word Front at = kept_two d task _ _ q apart.0 apart.1 h
    by_word Behind at = kept_two d task _ _ q apart.1 apart.0 h
    by_word (InFrontOf other) at = kept_two d task _ _ q (or_from _ _ apart.0 at) joins h
    by_word Close at = kept_two d task _ _ q apart.0 apart.1 h

pub groups_keep : GroupsKeepPairsTogether
groups_keep d task p q word leaves differ plain box place (inl same) h =
    subst (λ r. IsPaired (after_all d task (expansion p word)) r) same
    (own_kept d task p word leaves differ plain box (subst (λ r. IsPaired d r) (sym same) h))
groups_keep d task p q word leaves differ plain box place (inr apart) h = other_kept d task p q word apart place h
