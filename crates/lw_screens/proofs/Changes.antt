-- What becomes of a display.
use Rattle.std.proofs.Common.{◌≡◌, ℕ, zero, suc, ◌-◌, ◌<◌, ◌≤◌, ◌==◌, Bool, true, false, not, if◌then◌else◌, List, [], ◌∷◌, ◌++◌, length, get_or, set, take, append_assoc, refl, sym, ap, ◌∙◌, subst, ℤ, arith}
use Rattle.std.specs.List.{All}
use Rattle.std.proofs.lemmas.Int.{ints, clamps}
use Rattle.std.proofs.lemmas.List.{length-set, get_or_read}
use Rattle.std.proofs.lemmas.List.Elements.{All-nil, All-cons, All-head, All-tail, All-weaker, All-set, All-get_or, All-push, All-filter}
use Rattle.lw_machine.specs.Arrangement.{without}
use Rattle.lw_screens.specs.Display.{Display, IsDisplay, IsPlaced, IsHigh, display, screen_of, dragged, with_top, placed, last_first}
use Rattle.lw_screens.specs.Bands.{bands_of, IsKept}
use Rattle.lw_screens.specs.declared.screen.Screen.{Screen}
use Rattle.lw_screens.specs.declared.bands.Band.{Band}

-- a screen that is dragged stays on the display
pub dragged_low : (height top : ℕ) (dy : ℤ) → 1 ≤ height → dragged height top dy < height
dragged_low height top dy some = omega (arith, ints, clamps)

-- the display whose screen was dragged
pub display_dragged : (d : Display) (k : ℕ) (dy : ℤ) → IsDisplay d → k < length d.screens
    → IsDisplay (record d { screens = set d.screens k (with_top (screen_of d.screens k) (dragged d.height (screen_of d.screens k).top dy)) })
display_dragged d k dy ok there =
    let s = screen_of d.screens k in
    let old : IsPlaced d.height s = All-get_or (IsPlaced d.height) d.screens k (record { top = 0; height = 0 }) there ok.placed in
    let to = with_top s (dragged d.height s.top dy) in
    let top = old.top in
    let new : IsPlaced d.height to = record { top = dragged_low d.height s.top dy (omega arith); high = old.high } in
    let long = length-set d.screens k to in
    let some = ok.some in
    let few = ok.few in
    record {
      some = omega arith;
      few = omega arith;
      placed = All-set (IsPlaced d.height) d.screens k to new ok.placed;
      order = subst (λ n. All (λ j. j < n) d.order) (sym long) ok.order;
    }

-- the display with another order
pub display_reordered : (d : Display) (order : List ℕ) → IsDisplay d → All (λ j. j < length d.screens) order → IsDisplay (record d { order = order })
display_reordered d order ok all = record { some = ok.some; few = ok.few; placed = ok.placed; order = all }

-- the numbers with one of them put first, or last
pub first_numbers : (k n : ℕ) (order : List ℕ) → k < n → All (λ j. j < n) order → All (λ j. j < n) (k ∷ without k order)
first_numbers k n order there all = All-cons (λ j. j < n) k (without k order) there (All-filter (λ j. not (j == k)) (λ j. j < n) order all)

pub last_numbers : (k n : ℕ) (order : List ℕ) → k < n → All (λ j. j < n) order → All (λ j. j < n) (without k order ++ k ∷ [])
last_numbers k n order there all = All-push (λ j. j < n) (without k order) k (All-filter (λ j. not (j == k)) (λ j. j < n) order all) there

-- the numbers of so many screens are below their count
numbers_low : (n : ℕ) → All (λ j. j < n) (last_first n)
numbers_low zero = All-nil (λ j. j < zero)
numbers_low (suc n) =
    All-cons (λ j. j < suc n) n (last_first n) (omega arith)
    (All-weaker (λ j. j < n) (λ j. j < suc n) (λ j low. omega arith) (last_first n) (numbers_low n))

-- each pair of a top and a height is a screen
pub placed_length : (tops heights : List ℕ) → length heights ≡ length tops → length (placed tops heights) ≡ length tops
placed_length [] heights alike = refl
placed_length (t ∷ ts) [] alike = absurd (omega arith)
placed_length (t ∷ ts) (h ∷ hs) alike = ap (λ n. suc n) (placed_length ts hs (omega arith))

placed_all : (height : ℕ) (tops heights : List ℕ) → All (λ t. t < height) tops → All IsHigh heights → All (IsPlaced height) (placed tops heights)
placed_all height [] heights tops_low high = All-nil (IsPlaced height)
placed_all height (t ∷ ts) [] tops_low high = All-nil (IsPlaced height)
placed_all height (t ∷ ts) (h ∷ hs) tops_low high =
    All-cons (IsPlaced height) (record { top = t; height = h }) (placed ts hs)
    (record { top = All-head (λ t. t < height) t ts tops_low; high = All-head IsHigh h hs high })
    (placed_all height ts hs (All-tail (λ t. t < height) t ts tops_low) (All-tail IsHigh h hs high))

-- the display that was opened
pub display_opened : (height : ℕ) (tops heights : List ℕ) (screens : List Screen) (order : List ℕ) → screens ≡ placed tops heights → order ≡ last_first (length tops)
    → 1 ≤ length tops → length tops ≤ 8 → length heights ≡ length tops → All (λ t. t < height) tops → All IsHigh heights → IsDisplay (display height screens order)
display_opened height tops heights screens order is in_order some few alike low high =
    let long : length screens ≡ length tops = ap length is ∙ placed_length tops heights alike in
    record {
      some = omega arith;
      few = omega arith;
      placed = subst (All (IsPlaced height)) (sym is) (placed_all height tops heights low high);
      order = subst (λ n. All (λ j. j < n) order) (sym long) (subst (All (λ j. j < length tops)) (sym in_order) (numbers_low (length tops)));
    }

-- one screen more
pub placed_more : (tops heights : List ℕ) (i : ℕ) → i < length tops → length heights ≡ length tops
    → placed (take (suc i) tops) (take (suc i) heights) ≡ placed (take i tops) (take i heights) ++ record { top = get_or tops i 0; height = get_or heights i 0 } ∷ []
placed_more [] heights i there alike = absurd (omega arith)
placed_more (t ∷ ts) [] i there alike = absurd (omega arith)
placed_more (t ∷ ts) (h ∷ hs) zero there alike = refl
placed_more (t ∷ ts) (h ∷ hs) (suc i) there alike = ap (λ ss. record { top = t; height = h } ∷ ss) (placed_more ts hs i (omega arith) (omega arith))

-- one number less to add
pub others_more : (k other : ℕ) (rest made start all : List ℕ) (t : Bool) → (other == k) ≡ t → made ++ without k (other ∷ rest) ≡ start ++ all
    → (if t then made else made ++ other ∷ []) ++ without k rest ≡ start ++ all
others_more k other rest made start all true same is = ap (λ t. made ++ (if not t then other ∷ without k rest else without k rest)) (sym same) ∙ is
others_more k other rest made start all false same is =
    append_assoc made (other ∷ []) (without k rest) ∙ (ap (λ t. made ++ (if not t then other ∷ without k rest else without k rest)) (sym same) ∙ is)

-- one number more, of those from the last to the first
last_step : (m : ℕ) (made new all : List ℕ) → made ++ last_first (suc m) ≡ all → new ≡ made ++ m ∷ [] → new ++ last_first m ≡ all
last_step m made new all so_far push = ap (λ ns. ns ++ last_first m) push ∙ (append_assoc made (m ∷ []) (last_first m) ∙ so_far)

pub last_more : (n : ℕ) (made new all : List ℕ) → 0 < n → made ++ last_first n ≡ all → new ≡ made ++ (n - 1) ∷ [] → new ++ last_first (n - 1) ≡ all
last_more n made new all some so_far push =
    let next : n ≡ suc (n - 1) = omega arith in
    last_step (n - 1) made new all (subst (λ k. made ++ last_first k ≡ all) next so_far) push

-- what a display keeps once a screen was dragged, and once they have another order
pub kept_dragged : (d : Display) (k : ℕ) (dy : ℤ) (copy : List Screen) (s t : Screen) (kept : List Band) → IsDisplay d → k < length d.screens → copy ≡ d.screens
    → s ≡ get_or d.screens k s → t ≡ with_top s (dragged d.height s.top dy) → kept ≡ bands_of (record d { screens = set copy k t }) → IsKept (record d { screens = set copy k t }) kept
kept_dragged d k dy copy s t kept ok there is read to bands =
    let one : s ≡ screen_of d.screens k = get_or_read d.screens k s there read (record { top = 0; height = 0 }) in
    let new : t ≡ with_top (screen_of d.screens k) (dragged d.height (screen_of d.screens k).top dy) = to ∙ ap (λ (u : Screen). with_top u (dragged d.height u.top dy)) one in
    let list = ap (λ ss. set ss k t) is ∙ ap (λ u. set d.screens k u) new in
    record {
      display = subst (λ ss. IsDisplay (record d { screens = ss })) (sym list) (display_dragged d k dy ok there);
      bands = bands;
    }
