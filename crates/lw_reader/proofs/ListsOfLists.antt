-- Lists of lists that are kept in vectors.
use Rattle.std.proofs.Common.{◌≡◌, ℕ, zero, suc, List, [], ◌∷◌, ◌++◌, length, map, get_or, set, ap, arith, ◌∙◌}
use Rattle.std.proofs.lemmas.List.{map-append}
use Rattle.lw_grammar.specs.Told.{onto_last}

-- an empty one put at the end
pub begun : {A B : Type 0} (f : A → List B) (old new : List A) (a : A) (lists : List (List B)) → map f old ≡ lists → new ≡ old ++ a ∷ [] → f a ≡ [] → map f new ≡ lists ++ [] ∷ []
begun f old new a lists e g h =
    ap (map f) g ∙ map-append f old (a ∷ []) ∙ ap (λ ls. ls ++ f a ∷ []) e ∙ ap (λ l. lists ++ l ∷ []) h

-- something put at the end of the last one
pub put_there : {A B : Type 0} (f : A → List B) (xs : List A) (n : ℕ) (old new : A) (b : B) → length xs ≡ suc n → old ≡ get_or xs n old → f new ≡ f old ++ b ∷ [] → map f (set xs n new) ≡ onto_last b (map f xs)
put_there f [] n old new b e g h = absurd (omega (arith, e))
put_there f (x ∷ []) zero old new b e g h = ap (λ l. l ∷ []) (h ∙ ap (λ o. f o ++ b ∷ []) g)
put_there f (x ∷ []) (suc n) old new b e g h = absurd (omega (arith, e))
put_there f (x ∷ y ∷ ys) zero old new b e g h = absurd (omega (arith, e))
put_there f (x ∷ y ∷ ys) (suc n) old new b e g h = ap (λ ls. f x ∷ ls) (put_there f (y ∷ ys) n old new b (omega (arith, e)) g h)
