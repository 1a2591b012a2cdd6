-- A pair is opened where its slots may be, and its box is one that a pair may have.
use Rattle.std.proofs.Common.{◌≡◌, ℕ, ◌+◌, ◌<◌, ◌==◌, Bool, true, false, not, List, [], ◌∷◌, ℤ, pos, ◌+ℤ◌, ◌-ℤ◌, Some, None, refl}
use Rattle.std.proofs.Common.{sym, ap, subst, ◌∙◌, arith}
use Rattle.std.specs.Prelude.{if◌then◌else◌}
use Rattle.std.proofs.lemmas.Bool.{eq-eqb, false≢true}
use Rattle.lw_calls.specs.declared.make.Kind.{Kind}
use Rattle.lw_calls.specs.declared.make.Kind.TheVariants.{Smart}
use Rattle.lw_calls.specs.declared.make.Place.{Place}
use Rattle.lw_calls.specs.declared.make.Make.{Make}
use Rattle.lw_calls.specs.declared.pair.Pair.{Pair}
use Rattle.lw_calls.specs.declared.call.Call.{Call}
use Rattle.lw_calls.specs.declared.call.Call.TheVariants.{OpenWindow, InFrontOf as PutInFront}
use Rattle.lw_calls.specs.declared.reply.Reply.TheVariants.{Done, AlreadyOpen, OutOfBounds}
use Rattle.lw_calls.specs.Kinds.{is_super}
use Rattle.lw_calls.specs.Limits.{may_leave_screen}
use Rattle.lw_calls.specs.Orders.{occurrences}
use Rattle.lw_machine.specs.Layer.{Slot, Live, may_open, is_live}
use Rattle.lw_machine.specs.Desk.{Desk}
use Rattle.lw_machine.specs.Arrangement.{may_have_bounds, bounds_of, new_layer, new_window, hook_from, without, has_backdrop}
use Rattle.lw_machine.specs.Arrangement.{arranged}
use Rattle.lw_machine.specs.Step.{refusal, reply_or, after, reply}
use Rattle.lw_machine.proofs.ArrangedStep.{after_is}
use Rattle.lw_machine.proofs.ListSound.{occurrences_placed}
use Rattle.lw_machine.proofs.ReachedSound.{after_sizes}
use Rattle.lw_machine.proofs.Untouched.{differ_back}
use Rattle.lw_gzz.specs.Words.{plain_make}
use Rattle.lw_gzz.specs.Together.{StandsBefore, AreMates, IsPairBox, PairsAreOpened, IsPaired}
use Rattle.lw_gzz.proofs.Lists.{brought}
use Rattle.lw_gzz.proofs.Lasting.{Lasts, live_stable, open_stable, settled_lasts, after_lasts}
use Rattle.lw_gzz.proofs.Pairs.{mates_last, bounds_stay}
use Rattle.lw_gzz.proofs.Boxes.{outer_may, inner_may, inner_is}
use Rattle.lw_gzz.proofs.Joining.{AreOpen, may_join, list_joined, still_without}

-- a window that may be opened
may_be_made : (d : Desk) (task slot : ℕ) (make : Make) (framed : Bool) (asks : ℕ) (title : List ℕ)
    → may_open d.sizes.version (d.slot slot) ≡ true
    → may_have_bounds d.sizes framed make.kind 0 0 make.bits_w make.bits_h (bounds_of make) ≡ true
    → refusal d task (OpenWindow slot make framed false asks title) ≡ None
may_be_made d task slot make framed asks title opens may =
    λ i. if not (opens i) then Some AlreadyOpen else (if not (may i) then Some OutOfBounds else None)

module _ (d : Desk) (task slot : ℕ) (make : Make) (framed : Bool) (asks : ℕ) (title : List ℕ)
    (allowed : refusal d task (OpenWindow slot make framed false asks title) ≡ None) where
  abbrev opening : Call
  opening = OpenWindow slot make framed false asks title

  abbrev made : Slot
  made = Live (new_layer d.sizes.depth make (hook_from d.shelf make.hook) (Some (new_window task framed false asks title)))

  -- what lasts of its slot, its bounds, and how often a slot is listed after it
  here : Lasts made ((after d task opening).slot slot)
  here f stable =
      ap (λ a. f (a.slot slot)) (after_is d task opening refl allowed) ∙
      (settled_lasts d (arranged d task opening) slot f stable ∙
      ap (λ b. f (if b then made else d.slot slot)) (eq-eqb slot slot refl))

  placed : (after d task opening).bounds slot ≡ Some (bounds_of make)
  placed =
      ap (λ a. a.bounds slot) (after_is d task opening refl allowed) ∙
      ap (λ b. if b then Some (bounds_of make) else d.bounds slot) (eq-eqb slot slot refl)

  listed_now : (t : ℕ)
      → occurrences t (after d task opening).front_to_back ≡ (if slot == t then 1 else 0) + occurrences t d.front_to_back
  listed_now t =
      ap (λ a. occurrences t a.front_to_back) (after_is d task opening refl allowed) ∙
      occurrences_placed (has_backdrop d) make.backdrop make.place slot t d.front_to_back

-- a slot that is put into a list, and one more, are listed
listed_twice : (b c : Bool) (m n k : ℕ) → b ≡ true → n ≡ (if b then 1 else 0) + m → k ≡ (if c then 1 else 0) + n → 0 < k
listed_twice true c m n k is h g = omega (arith, h, g)
listed_twice false c m n k is h g = absurd (false≢true is)

module _ (d : Desk) (task : ℕ) (p : Pair) (kind : Kind) (place : Place) (x y w h : ℤ) (asks : ℕ) (title : List ℕ)
    (leaves : may_leave_screen d.sizes.version ≡ true) (differ : (p.inner == p.outer) ≡ false)
    (outer_free : may_open d.sizes.version (d.slot p.outer) ≡ true)
    (inner_free : may_open d.sizes.version (d.slot p.inner) ≡ true) (plain : is_super kind ≡ false)
    (box : IsPairBox d.sizes x y w h) where
  abbrev frame : Make
  frame = plain_make Smart place x y w h

  abbrev inside : Make
  inside = plain_make kind place (x +ℤ pos 4) (y +ℤ pos 11) (w -ℤ pos 8) (h -ℤ pos 13)

  abbrev first_call : Call
  first_call = OpenWindow p.outer frame true false asks title

  abbrev second_call : Call
  second_call = OpenWindow p.inner inside false false asks []

  abbrev third_call : Call
  third_call = PutInFront p.inner p.outer

  abbrev d1 : Desk
  d1 = after d task first_call

  abbrev d2 : Desk
  d2 = after d1 task second_call

  abbrev d3 : Desk
  d3 = after d2 task third_call

  other : (p.outer == p.inner) ≡ false
  other = differ_back p.inner p.outer differ

  sizes : d1.sizes ≡ d.sizes
  sizes = after_sizes d task first_call

  first : refusal d task first_call ≡ None
  first =
      may_be_made d task p.outer frame true asks title outer_free (outer_may d.sizes true Smart 0 0 0 0 x y w h leaves refl box)

  still_free : may_open d1.sizes.version (d1.slot p.inner) ≡ true
  still_free =
      ap (λ z. may_open z.version (d1.slot p.inner)) sizes ∙
      (after_lasts d task first_call p.inner other _ (open_stable d.sizes.version) ∙ inner_free)

  second : refusal d1 task second_call ≡ None
  second =
      may_be_made d1 task p.inner inside false asks [] still_free
      (ap (λ z. may_have_bounds z false kind 0 0 0 0 (bounds_of inside)) sizes ∙
      inner_may d.sizes kind 0 0 0 0 x y w h leaves plain box)

  abbrev outer_made : Slot
  outer_made = made d task p.outer frame true asks title first

  abbrev inner_made : Slot
  inner_made = made d1 task p.inner inside false asks [] second

  -- the slots after the second call, and after the third one
  outer_second : Lasts outer_made (d2.slot p.outer)
  outer_second f stable =
      after_lasts d1 task second_call p.outer differ f stable ∙ here d task p.outer frame true asks title first f stable

  inner_second : Lasts inner_made (d2.slot p.inner)
  inner_second = here d1 task p.inner inside false asks [] second

  new_mates : AreMates outer_made inner_made
  new_mates = record {
    lives = refl;
    opens = λ _. refl;
    outer_plain = refl;
    inner_plain = refl;
    outer_own = refl;
    inner_own = plain;
    framed = refl;
    frameless = refl;
    owner = λ _. refl;
  }

  second_mates : AreMates (d2.slot p.outer) (d2.slot p.inner)
  second_mates = mates_last _ _ _ _ new_mates outer_second inner_second

  both_open : AreOpen d2 p
  both_open =
      record {
        differ = differ;
        outer_live = outer_second is_live live_stable;
        inner_live = inner_second is_live live_stable;
        outer_plain = second_mates.outer_plain;
        inner_plain = second_mates.inner_plain;
      }

  joined_now : StandsBefore p.inner p.outer d3.front_to_back
  joined_now =
      subst (λ l. StandsBefore p.inner p.outer l) (sym (list_joined d2 task p both_open))
      (brought p.inner p.outer (without p.inner d2.front_to_back)
      (still_without p.outer p.inner d2.front_to_back differ
      (listed_twice (p.outer == p.outer) (p.inner == p.outer) (occurrences p.outer d.front_to_back)
      (occurrences p.outer d1.front_to_back) (occurrences p.outer d2.front_to_back) (eq-eqb p.outer p.outer refl)
      (listed_now d task p.outer frame true asks title first p.outer)
      (listed_now d1 task p.inner inside false asks [] second p.outer))))

  now_paired : IsPaired d3 p
  now_paired =
      record {
        mates = mates_last _ _ _ _ second_mates (after_lasts d2 task third_call p.outer refl)
            (after_lasts d2 task third_call p.inner refl);
        together = λ live. record {
          bounds = bounds_of frame;
          outer_bounds = bounds_stay d2 task third_call p.outer refl ∙
              (bounds_stay d1 task second_call p.outer differ ∙ placed d task p.outer frame true asks title first);
          inner_bounds = bounds_stay d2 task third_call p.inner refl ∙
              (placed d1 task p.inner inside false asks [] second ∙ ap (λ r. Some r) (inner_is x y w h));
          order = joined_now;
        };
      }

  now_live : is_live (d3.slot p.outer) ≡ true
  now_live = after_lasts d2 task third_call p.outer refl is_live live_stable ∙ both_open.outer_live

  replied : (reply d task first_call ∷ reply d1 task second_call ∷ reply d2 task third_call ∷ []) ≡ Done ∷ Done ∷ Done ∷ []
  unfolding reply
  replied = λ i. reply_or (first i) Done ∷ reply_or (second i) Done ∷ reply_or (may_join d2 task p both_open i) Done ∷ []

pub opened : PairsAreOpened
opened d task p kind place x y w h asks title leaves differ outer_free inner_free plain box =
    record {
      replies = replied d task p kind place x y w h asks title leaves differ outer_free inner_free plain box;
      live = now_live d task p kind place x y w h asks title leaves differ outer_free inner_free plain box;
      paired = now_paired d task p kind place x y w h asks title leaves differ outer_free inner_free plain box;
    }
