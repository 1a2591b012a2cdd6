-- The forms that a demo's calls have are readable lines.
use Rattle.std.proofs.Common.{◌≡◌, ℕ, ◌+◌, ◌-◌, ◌<◌, ◌≤◌, true, false, List, [], ◌∷◌, pos, negsuc, ◌+ℤ◌, ◌-ℤ◌, None, refl, arith}
use Rattle.std.specs.List.{list_all}
use Rattle.std.specs.Fmt.{decimal}
use Rattle.lw_region.proofs.Within.{within_true}
use Rattle.lw_region.proofs.Columns.{le_true}
use Rattle.lw_calls.specs.declared.make.Kind.TheVariants.{Simple, Smart}
use Rattle.lw_calls.specs.declared.make.Kind.{Kind}
use Rattle.lw_calls.specs.declared.make.Place.TheVariants.{Front}
use Rattle.lw_calls.specs.Limits.{is_coordinate, axis_fits, rect_fits}
use Rattle.lw_calls.specs.declared.call.Call.TheVariants.{Create}
use Rattle.lw_grammar.specs.declared.verb.BareVerb.TheVariants.{Front as FrontVerb}
use Rattle.lw_grammar.specs.declared.verb.NumberVerb.TheVariants.{APen as APenVerb}
use Rattle.lw_grammar.specs.declared.verb.PairVerb.TheVariants.{Read as ReadVerb}
use Rattle.lw_grammar.specs.declared.verb.Verb.TheVariants.{Bare, Number, Pair, Create as CreateVerb, Fill as FillVerb}
use Rattle.lw_grammar.specs.Tokens.{NameToken, token_of}
use Rattle.lw_grammar.specs.Verbs.{verb_of}
use Rattle.lw_grammar.specs.Statements.{BareAct, NumberAct, PairAct, CreateAct, FillAct, line_by, new_without_bitmap, Act, rectangle}
use Rattle.lw_grammar.specs.Told.{spelled_call}
use Rattle.lw_canonical.specs.Spelling.{kind_word, place_word}
use Rattle.lw_gen.specs.Demo.{layer_between}
use Rattle.lw_canonical.proofs.PlainWords.{is_plain}
use Rattle.lw_canonical.proofs.WrittenNumbers.{IsNumber, numbers_read_back}
use Rattle.lw_demo_text.proofs.DemoLines.{IsReadable}
use Rattle.std.proofs.lemmas.Bool.{and_from}
use Rattle.std.proofs.lemmas.Int.{ints}

-- small numbers are coordinates
coordinate : (n : ℕ) → n < 1000 → is_coordinate (pos n) ≡ true
coordinate n small = within_true (negsuc 32767) (pos n) (pos 32767) (omega (arith, ints)) (omega (arith, ints, small))

axis : (low high : ℕ) → low ≤ high → high < 1000 → axis_fits (pos low) (pos high) ≡ true
unfolding axis_fits
axis low high up small =
    and_from _ _ (and_from _ _ (coordinate low (omega (arith, up, small))) (coordinate high small)) (le_true (pos low) (pos high) (omega (arith, ints, up)))

-- a creation of a layer in front of all others, in these bounds
abbrev pub creation_between : Kind → ℕ → ℕ → ℕ → ℕ → Act
creation_between kind x0 y0 x1 y1 = CreateAct (rectangle (pos x0) (pos y0) (pos x1) (pos y1)) (new_without_bitmap kind Front false None)

-- its call
size_between : (low high : ℕ) → low ≤ high → (pos high -ℤ pos low) +ℤ pos 1 ≡ pos ((high + 1) - low)
size_between low high up = omega (arith, ints, up)

pub created_between : (kind : Kind) (x0 y0 x1 y1 slot : ℕ) → x0 ≤ x1 → y0 ≤ y1 → spelled_call [] (creation_between kind x0 y0 x1 y1) (slot ∷ []) ≡ Create slot (layer_between kind x0 y0 x1 y1)
created_between kind x0 y0 x1 y1 slot wide high =
    let w = size_between x0 x1 wide in
    let h = size_between y0 y1 high in
    λ i. Create slot (record { kind = kind; place = Front; x = pos x0; y = pos y0; w = w i; h = h i; backdrop = false; hook = None; bits_w = 0; bits_h = 0 })

module _ (l : List ℕ) (plain_name : is_plain l ≡ true) (name : token_of l ≡ NameToken l) where
  -- front L
  pub front_readable : IsReadable l (BareAct FrontVerb)
  unfolding verb_of
  front_readable = record {
    verb = Bare FrontVerb;
    ws = l ∷ [];
    words = refl;
    plain = and_from (is_plain l) true plain_name refl;
    few = omega arith;
    known = refl;
    spoken = refl;
    made = λ i. line_by (Bare FrontVerb) (name i ∷ []);
    belongs = refl;
    stands = refl;
    range = refl;
    bitmaps = refl;
    group = refl;
    hook = refl;
    tells = λ tasks names n calls groups. refl;
  }

  -- apen L P
  pub pen_readable : (p : ℕ) → p < 4 → IsReadable l (NumberAct APenVerb (pos p))
  unfolding verb_of
  pen_readable p small =
      let number = numbers_read_back p (omega (arith, small)) in
      record {
        verb = Number APenVerb;
        ws = l ∷ decimal p ∷ [];
        words = refl;
        plain = and_from (is_plain l) _ plain_name (and_from (is_plain (decimal p)) true number.plain refl);
        few = omega arith;
        known = refl;
        spoken = refl;
        made = λ i. line_by (Number APenVerb) (name i ∷ number.token i ∷ []);
        belongs = refl;
        stands = refl;
        range = within_true (pos 0) (pos p) (pos 255) (omega (arith, ints)) (omega (arith, ints, small));
        bitmaps = refl;
        group = refl;
        hook = refl;
        tells = λ tasks names n calls groups. refl;
      }

  -- read L X Y
  pub read_readable : (x y : ℕ) → x < 1000 → y < 1000 → IsReadable l (PairAct ReadVerb (pos x) (pos y))
  unfolding verb_of
  read_readable x y low small =
      let a = numbers_read_back x (omega (arith, low)) in
      let b = numbers_read_back y (omega (arith, small)) in
      record {
        verb = Pair ReadVerb;
        ws = l ∷ decimal x ∷ decimal y ∷ [];
        words = refl;
        plain = and_from (is_plain l) _ plain_name (and_from (is_plain (decimal x)) _ a.plain (and_from (is_plain (decimal y)) true b.plain refl));
        few = omega arith;
        known = refl;
        spoken = refl;
        made = λ i. line_by (Pair ReadVerb) (name i ∷ a.token i ∷ b.token i ∷ []);
        belongs = refl;
        stands = refl;
        range = and_from (is_coordinate (pos x)) (is_coordinate (pos y)) (coordinate x low) (coordinate y small);
        bitmaps = refl;
        group = refl;
        hook = refl;
        tells = λ tasks names n calls groups. refl;
      }

  module _ (x0 y0 x1 y1 : ℕ) (wide : x0 ≤ x1) (right : x1 < 1000) (high : y0 ≤ y1) (lower : y1 < 1000) where
    fits : rect_fits (rectangle (pos x0) (pos y0) (pos x1) (pos y1)) ≡ true
    fits = and_from (axis_fits (pos x0) (pos x1)) (axis_fits (pos y0) (pos y1)) (axis x0 x1 wide right) (axis y0 y1 high lower)

    a : IsNumber (pos x0)
    a = numbers_read_back x0 (omega (arith, wide, right))

    b : IsNumber (pos y0)
    b = numbers_read_back y0 (omega (arith, high, lower))

    c : IsNumber (pos x1)
    c = numbers_read_back x1 (omega (arith, right))

    d : IsNumber (pos y1)
    d = numbers_read_back y1 (omega (arith, lower))

    words_plain : list_all is_plain (l ∷ decimal x0 ∷ decimal y0 ∷ decimal x1 ∷ decimal y1 ∷ []) ≡ true
    words_plain = and_from (is_plain l) _ plain_name (and_from (is_plain (decimal x0)) _ a.plain (and_from (is_plain (decimal y0)) _ b.plain (and_from (is_plain (decimal x1)) _ c.plain (and_from (is_plain (decimal y1)) true d.plain refl))))

    -- fill L X0 Y0 X1 Y1
    pub fill_readable : IsReadable l (FillAct (rectangle (pos x0) (pos y0) (pos x1) (pos y1)))
    unfolding verb_of
    fill_readable = record {
      verb = FillVerb;
      ws = l ∷ decimal x0 ∷ decimal y0 ∷ decimal x1 ∷ decimal y1 ∷ [];
      words = refl;
      plain = words_plain;
      few = omega arith;
      known = refl;
      spoken = refl;
      made = λ i. line_by FillVerb (name i ∷ a.token i ∷ b.token i ∷ c.token i ∷ d.token i ∷ []);
      belongs = refl;
      stands = refl;
      range = fits;
      bitmaps = refl;
      group = refl;
      hook = refl;
      tells = λ tasks names n calls groups. refl;
    }

    -- create L simple front X0 Y0 X1 Y1, and create L smart front X0 Y0 X1 Y1
    pub simple_readable : IsReadable l (creation_between Simple x0 y0 x1 y1)
    unfolding verb_of
    simple_readable = record {
      verb = CreateVerb;
      ws = l ∷ kind_word Simple ∷ place_word Front ∷ decimal x0 ∷ decimal y0 ∷ decimal x1 ∷ decimal y1 ∷ [];
      words = refl;
      plain = words_plain;
      few = omega arith;
      known = refl;
      spoken = refl;
      made = λ i. line_by CreateVerb (name i ∷ NameToken (kind_word Simple) ∷ NameToken (place_word Front) ∷ a.token i ∷ b.token i ∷ c.token i ∷ d.token i ∷ []);
      belongs = refl;
      stands = refl;
      range = and_from (rect_fits (rectangle (pos x0) (pos y0) (pos x1) (pos y1))) true fits refl;
      bitmaps = refl;
      group = refl;
      hook = refl;
      tells = λ tasks names n calls groups. refl;
    }

    pub smart_readable : IsReadable l (creation_between Smart x0 y0 x1 y1)
    unfolding verb_of
    smart_readable = record {
      verb = CreateVerb;
      ws = l ∷ kind_word Smart ∷ place_word Front ∷ decimal x0 ∷ decimal y0 ∷ decimal x1 ∷ decimal y1 ∷ [];
      words = refl;
      plain = words_plain;
      few = omega arith;
      known = refl;
      spoken = refl;
      made = λ i. line_by CreateVerb (name i ∷ NameToken (kind_word Smart) ∷ NameToken (place_word Front) ∷ a.token i ∷ b.token i ∷ c.token i ∷ d.token i ∷ []);
      belongs = refl;
      stands = refl;
      range = and_from (rect_fits (rectangle (pos x0) (pos y0) (pos x1) (pos y1))) true fits refl;
      bitmaps = refl;
      group = refl;
      hook = refl;
      tells = λ tasks names n calls groups. refl;
    }
