-- The first place from which on a test may hold.
use Rattle.std.proofs.Common.{◌≡◌, ℕ, ◌+◌, ◌<◌, ◌≤◌, min, Bool, true, false, not, ◌&&◌, ◌||◌, List, Some, None, ◌∙◌, sym, refl, subst, arith, ℤ, pos, negsuc, ◌+ℤ◌, ◌-ℤ◌, ◌≤ℤ◌, ◌<ℤ◌, ⊎_elim}
use Rattle.std.proofs.lemmas.Bool.{cases_lt, and_from, and_right, and_left}
use Rattle.std.proofs.lemmas.Int.{ints}
use Rattle.std.proofs.Math.Bool.{and-false}
use Rattle.lw_region.specs.Rectangle.{Rectangle}
use Rattle.lw_region.specs.Bands.{covers}
use Rattle.lw_region.specs.Finding.{BeginsAt}
use Rattle.lw_region.proofs.Reading.{contains_pixels_of}
use Rattle.lw_machine.specs.Kept.{is_kept, in_clip, holds_at}
use Rattle.lw_calls.specs.declared.make.Kind.TheVariants.{Simple, Smart, SuperBitmap}
use Rattle.lw_layer.specs.View.{keeps, draws}
use Rattle.lw_layer.specs.Pieces.{Layout, across, down}
use Rattle.lw_layer.specs.Drafts.{clip_set, layout, live_view}
use Rattle.lw_layer.specs.Runs.{IsNext}
use Rattle.lw_layer.specs.Code.{IsStart, IsFirstIn, IsFrom, IsBehind, lets_draw}
use Rattle.lw_layer.specs.declared.draft.LiveDraft.{LiveDraft}
use Rattle.lw_layer.proofs.ReachLaws.{later_place, before_next}
use Rattle.lw_layer.proofs.KeptLaws.{kept_in_bits, drawable_is, column_off, unkept_undrawn}

-- every place
pub start_all : (test : ℕ → Bool) (x : ℕ) → test x ≡ true → IsStart test x x
start_all test x holds = record { reaches = omega arith; before = λ u later sooner. absurd (omega arith); here = λ same. holds }

-- the same test
pub start_same : (f g : ℕ → Bool) (x r : ℕ) → ((u : ℕ) → f u ≡ g u) → IsStart f x r → IsStart g x r
start_same f g x r same is = record {
  reaches = is.reaches;
  before = λ u later sooner. sym (same u) ∙ is.before u later sooner;
  here = λ here. sym (same x) ∙ is.here here;
}

-- two tests, the second from where the first may hold
pub start_both : (f g : ℕ → Bool) (x k r : ℕ) → IsStart f x k → IsStart g k r → IsStart (λ u. f u && g u) x r
start_both f g x k r first second = record {
  reaches = omega (arith, first.reaches, second.reaches);
  before =
      λ u later sooner.
      ⊎_elim
      (λ (early : u < k). and_left (f u) (g u) (first.before u later early))
      (λ (late : k ≤ u). and_right (f u) (g u) (second.before u late sooner))
      (cases_lt u k);
  here =
      λ same.
      let at_first : k ≡ x = omega (arith, first.reaches, second.reaches) in
      let at_second : r ≡ k = omega arith in
      let P : ℕ → Type 0 = λ z. g z ≡ true in
      and_from (f x) (g x) (first.here at_first) (subst P at_first (second.here at_second));
}

-- the first test alone, where it holds nowhere before a place that is past x
pub start_past : (f g : ℕ → Bool) (x k : ℕ) → x < k → IsStart f x k → IsStart (λ u. f u && g u) x k
start_past f g x k past first = record {
  reaches = first.reaches;
  before = λ u later sooner. and_left (f u) (g u) (first.before u later sooner);
  here = λ same. absurd (omega arith);
}

-- drawable is what is kept and may be drawn, in a row of the bits
pub drawable_row : (d : LiveDraft) (x y : ℕ) → y < (layout d).height → draws (live_view d) x y ≡ (keeps (live_view d) x y && lets_draw d y x)
drawable_row d x y low =
    ⊎_elim
    (λ (left : x < (layout d).width). drawable_is d x y left low)
    (λ (past : (layout d).width ≤ x). let off = column_off d x y past in unkept_undrawn d x y off ∙ sym (and_left _ (lets_draw d y x) off))
    (cases_lt x (layout d).width)

pub drawn_start_is : (d : LiveDraft) (x y k r : ℕ) → y < (layout d).height → IsStart (λ u. keeps (live_view d) u y) x k → IsStart (lets_draw d y) k r → IsStart (λ u. draws (live_view d) u y) x r
drawn_start_is d x y k r low first second =
    start_same (λ u. keeps (live_view d) u y && lets_draw d y u) (λ u. draws (live_view d) u y) x r (λ u. sym (drawable_row d u y low)) (start_both (λ u. keeps (live_view d) u y) (lets_draw d y) x k r first second)

pub drawn_start_past : (d : LiveDraft) (x y k : ℕ) → y < (layout d).height → x < k → IsStart (λ u. keeps (live_view d) u y) x k → IsStart (λ u. draws (live_view d) u y) x k
drawn_start_past d x y k low past first =
    start_same (λ u. keeps (live_view d) u y && lets_draw d y u) (λ u. draws (live_view d) u y) x k (λ u. sym (drawable_row d u y low)) (start_past (λ u. keeps (live_view d) u y) (lets_draw d y) x k past first)

pub open_start_is : (d : LiveDraft) (x y k r : ℕ) → IsStart (λ u. in_clip (clip_set d.clip) u y) x k → IsStart (λ u. not d.damage.updating || covers d.damage.rects (pos u) (pos y)) k r → IsStart (lets_draw d y) x r
open_start_is d x y k r first second = start_both (λ u. in_clip (clip_set d.clip) u y) (λ u. not d.damage.updating || covers d.damage.rects (pos u) (pos y)) x k r first second

pub open_start_past : (d : LiveDraft) (x y k : ℕ) → x < k → IsStart (λ u. in_clip (clip_set d.clip) u y) x k → IsStart (lets_draw d y) x k
open_start_past d x y k past first = start_past (λ u. in_clip (clip_set d.clip) u y) (λ u. not d.damage.updating || covers d.damage.rects (pos u) (pos y)) x k past first

-- a clip region
pub clip_start_some : (rects : List Rectangle) (x y r : ℕ) → IsStart (λ u. covers rects (pos u) (pos y)) x r → IsStart (λ u. in_clip (clip_set (Some rects)) u y) x r
clip_start_some rects x y r is = start_same _ _ x r (λ u. sym (contains_pixels_of rects (pos u) (pos y))) is

up_to_gap : (p next : ℤ) (gap : ℕ) → pos gap ≡ next -ℤ p → (p +ℤ pos gap) ≤ℤ next
up_to_gap p next gap is = omega (arith, ints)

no_gap : (p next : ℤ) (gap : ℕ) → gap ≡ 0 → pos gap ≡ next -ℤ p → next ≡ p
no_gap p next gap none is = omega (arith, ints)

-- the first visible pixel from x on, where the place, the row and the list are told by equations, as the code has them
pub shown_start_none : (l : Layout) (x y : ℕ) (p q : ℤ) (rs : List Rectangle) → p ≡ across l x → q ≡ down l y → rs ≡ l.visible → ((u : ℤ) → p ≤ℤ u → covers rs u q ≡ false) → x < 65536 → IsStart (λ u. covers l.visible (across l u) (down l y)) x 65536
shown_start_none l x y p q rs is_p is_q is_rs free near =
    let F : ℤ → ℤ → List Rectangle → Type 0 = λ a b list. (u : ℤ) → a ≤ℤ u → covers list u b ≡ false in
    let free_here : F (across l x) (down l y) l.visible = subst (λ list. F (across l x) (down l y) list) is_rs (subst (λ b. F (across l x) b rs) is_q (subst (λ a. F a q rs) is_p free)) in
    record {
      reaches = omega arith;
      before = λ u later sooner. free_here (across l u) (later_place l.bounds.min_x l.scroll_x x u later);
      here = λ same. absurd (omega arith);
    }

pub shown_start_some : (l : Layout) (x y gap : ℕ) (p q next : ℤ) (rs : List Rectangle) → p ≡ across l x → q ≡ down l y → rs ≡ l.visible → BeginsAt rs p q next → pos gap ≡ next -ℤ p → IsStart (λ u. covers l.visible (across l u) (down l y)) x (x + min gap 65536)
shown_start_some l x y gap p q next rs is_p is_q is_rs begins is_gap =
    let F : ℤ → ℤ → List Rectangle → Type 0 = λ a b list. BeginsAt list a b next in
    let begins_here : F (across l x) (down l y) l.visible = subst (λ list. F (across l x) (down l y) list) is_rs (subst (λ b. F (across l x) b rs) is_q (subst (λ a. F a q rs) is_p begins)) in
    let distance : pos gap ≡ next -ℤ across l x = rw (sym is_p) is_gap in
    record {
      reaches = omega arith;
      before =
          λ u later sooner.
          begins_here.free (across l u) (later_place l.bounds.min_x l.scroll_x x u later)
          (before_next l.bounds.min_x l.scroll_x x u gap next later (omega arith) (up_to_gap (across l x) next gap distance));
      here =
          λ same.
          let none : gap ≡ 0 = omega arith in
          let P : ℤ → Type 0 = λ z. covers l.visible z (down l y) ≡ true in
          subst P (no_gap (across l x) next gap none distance) begins_here.covered;
    }

-- a hidden pixel of a simple layer isn't kept
simple_unkept : (d : LiveDraft) (x y : ℕ) → d.kind ≡ Simple → covers d.parts.visible (across (layout d) x) (down (layout d) y) ≡ false → keeps (live_view d) x y ≡ false
unfolding keeps is_kept
simple_unkept d x y is free = rw (is, free) (and-false _)

-- the first kept pixel from x on, by kind
pub kept_start_simple : (d : LiveDraft) (x y r : ℕ) → d.kind ≡ Simple → x < (layout d).width → y < (layout d).height → IsStart (λ u. covers d.parts.visible (across (layout d) u) (down (layout d) y)) x r → IsStart (λ u. keeps (live_view d) u y) x r
kept_start_simple d x y r is left low first = record {
  reaches = first.reaches;
  before = λ u later sooner. simple_unkept d u y is (first.before u later sooner);
  here = λ same. kept_in_bits d x y Simple is left low (λ _. first.here same);
}

pub kept_start_smart : (d : LiveDraft) (x y : ℕ) → d.kind ≡ Smart → x < (layout d).width → y < (layout d).height → IsStart (λ u. keeps (live_view d) u y) x x
kept_start_smart d x y is left low = start_all _ x (kept_in_bits d x y Smart is left low (λ other. absurd (cc other)))

pub kept_start_super : (d : LiveDraft) (x y : ℕ) → d.kind ≡ SuperBitmap → x < (layout d).width → y < (layout d).height → IsStart (λ u. keeps (live_view d) u y) x x
kept_start_super d x y is left low = start_all _ x (kept_in_bits d x y SuperBitmap is left low (λ other. absurd (cc other)))

less_from_signed : (v u : ℕ) → pos v <ℤ pos u → v < u
less_from_signed v u less = omega (arith, ints)

-- a place before the first one found, asked by signed places
before_place : (test : ℕ → ℕ → Bool) (x : ℤ) (y first u : ℕ) {end : ℕ} (v : ℤ) → IsFrom x first → IsFirstIn (λ i. test i y) first end u → x ≤ℤ v → v <ℤ pos u → holds_at test v (pos y) ≡ false
before_place test x y first u (pos v) from is later sooner = is.before v (from.least v later) (less_from_signed v u sooner)
before_place test x y first u (negsuc v) from is later sooner = refl

-- the next pixel of which a test holds, asked by signed places
first_some : (test : ℕ → ℕ → Bool) (x last : ℤ) (y first end w u : ℕ) → IsFrom x first → IsBehind last end → IsFirstIn (λ v. test v y) first (min end w) u → IsNext test x (pos y) last (Some (pos u))
first_some test x last y first end w u from behind is = record {
  reaches = omega (arith, ints, from.reached, is.reaches);
  ends = behind.upto u (omega (arith, is.ends));
  holds = is.holds;
  before = λ v later sooner. before_place test x y first u v from is later sooner;
}

first_none : (test : ℕ → ℕ → Bool) (x last : ℤ) (y first end w : ℕ) → IsFrom x first → IsBehind last end → ((v : ℕ) → first ≤ v → v < min end w → test v y ≡ false) → ((v : ℕ) → w ≤ v → test v y ≡ false) → IsNext test x (pos y) last None
first_none test x last y first end w from behind none off (pos v) later upto =
    ⊎_elim
    (λ (left : v < w). none v (from.least v later) (omega (arith, behind.all v upto)))
    (λ (past : w ≤ v). off v past)
    (cases_lt v w)
first_none test x last y first end w from behind none off (negsuc v) later upto = refl

-- the next drawable pixel
pub next_some : (d : LiveDraft) (x last : ℤ) (y first end u : ℕ) → IsFrom x first → IsBehind last end → IsFirstIn (λ v. draws (live_view d) v y) first (min end (layout d).width) u → IsNext (λ i j. draws (live_view d) i j) x (pos y) last (Some (pos u))
next_some d x last y first end u from behind is = first_some (λ i j. draws (live_view d) i j) x last y first end (layout d).width u from behind is

pub next_none : (d : LiveDraft) (x last : ℤ) (y first end : ℕ) → IsFrom x first → IsBehind last end → ((v : ℕ) → first ≤ v → v < min end (layout d).width → draws (live_view d) v y ≡ false) → IsNext (λ i j. draws (live_view d) i j) x (pos y) last None
next_none d x last y first end from behind none =
    first_none (λ i j. draws (live_view d) i j) x last y first end (layout d).width from behind none (λ v past. unkept_undrawn d v y (column_off d v y past))

-- the next kept pixel
pub next_kept_some : (d : LiveDraft) (x last : ℤ) (y first end u : ℕ) → IsFrom x first → IsBehind last end → IsFirstIn (λ v. keeps (live_view d) v y) first (min end (layout d).width) u → IsNext (λ i j. keeps (live_view d) i j) x (pos y) last (Some (pos u))
next_kept_some d x last y first end u from behind is = first_some (λ i j. keeps (live_view d) i j) x last y first end (layout d).width u from behind is

pub next_kept_none : (d : LiveDraft) (x last : ℤ) (y first end : ℕ) → IsFrom x first → IsBehind last end → ((v : ℕ) → first ≤ v → v < min end (layout d).width → keeps (live_view d) v y ≡ false) → IsNext (λ i j. keeps (live_view d) i j) x (pos y) last None
next_kept_none d x last y first end from behind none =
    first_none (λ i j. keeps (live_view d) i j) x last y first end (layout d).width from behind none (λ v past. column_off d v y past)
