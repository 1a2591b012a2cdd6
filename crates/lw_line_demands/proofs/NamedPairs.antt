-- Windows of two layers that are kept in a list.
use Rattle.std.proofs.Common.{◌≡◌, ℕ, ◌+◌, ◌<◌, ◌≤◌, Bool, true, false, ◌||◌, List, [], ◌∷◌, length, map, drop, get_or, bytes_eq, refl, sym, ap, ◌∙◌}
use Rattle.std.specs.List.{list_any}
use Rattle.lw_grammar.specs.Told.{NamedPair as Meaning, inner_of}
use Rattle.lw_reader.specs.declared.state.NamedPair.{NamedPair}
use Rattle.lw_reader.specs.ReaderKnows.{pair_meaning}
use Rattle.std.proofs.lemmas.List.{drop_more, drop_all}

-- a test of what a list's elements mean
pub any_meaning : (p : Meaning → Bool) (ps : List NamedPair) → list_any p (map pair_meaning ps) ≡ list_any (λ q. p (pair_meaning q)) ps
any_meaning p [] = refl
any_meaning p (q ∷ qs) = ap (λ b. p (pair_meaning q) || b) (any_meaning p qs)

-- the inner layer among the windows that are left: that of the first one, where it has the name, or among those after it
left_first : (ps : List NamedPair) (name : List ℕ) (i : ℕ) (p : NamedPair) → i < length ps → p ≡ get_or ps i p → inner_of (map pair_meaning (drop i ps)) name ≡ inner_of (map pair_meaning (p ∷ drop (i + 1) ps)) name
left_first ps name i p h e =
    ap (λ qs. inner_of (map pair_meaning qs) name) (drop_more ps i p h ∙ ap (λ q. q ∷ drop (i + 1) ps) (sym e))

pub inner_here : (ps : List NamedPair) (name : List ℕ) (i : ℕ) (p : NamedPair) → i < length ps → p ≡ get_or ps i p → bytes_eq name p.outer.now ≡ true → inner_of (map pair_meaning (drop i ps)) name ≡ p.inner.now
inner_here ps name i p h e same = left_first ps name i p h e ∙ rw same refl

pub inner_after : (ps : List NamedPair) (name : List ℕ) (i : ℕ) (p : NamedPair) → i < length ps → p ≡ get_or ps i p → bytes_eq name p.outer.now ≡ false → inner_of (map pair_meaning (drop i ps)) name ≡ inner_of (map pair_meaning (drop (i + 1) ps)) name
inner_after ps name i p h e other = left_first ps name i p h e ∙ rw other refl

pub inner_none : (ps : List NamedPair) (name : List ℕ) (i : ℕ) → length ps ≤ i → inner_of (map pair_meaning (drop i ps)) name ≡ []
inner_none ps name i h = ap (λ qs. inner_of (map pair_meaning qs) name) (drop_all i ps h)
