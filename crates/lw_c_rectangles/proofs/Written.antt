-- What writing a list to the head of an array leaves.
use Rattle.std.proofs.Common.{◌≡◌, ℕ, suc, ◌+◌, ◌<◌, ◌≤◌, List, [], ◌∷◌, ◌++◌, length, map, take, drop, get_or, set, ap, sym, ◌∙◌, arith}
use Rattle.std.proofs.lemmas.List.{map_more, length-take-le, length-map, append_assoc}
use Rattle.std.proofs.Math.Seq.{drop-cons, set-append_seam}

-- one element more is written to the head of an array
pub one_more_written : {X Y : Type 0} (f : X → Y) (list : List X) (old now : List Y) (i : ℕ) (d : X) (e b : Y)
    → i < length list → length list ≤ length old
    → now ≡ map f (take i list) ++ drop i old → b ≡ f (get_or list i d)
    → set now i b ≡ map f (take (i + 1) list) ++ drop (i + 1) old
one_more_written f list old now i d e b low room is at =
    let head = map f (take i list) in
    let next : suc i ≡ i + 1 = omega arith in
    let long : length head ≡ i = length-map (take i list) f ∙ length-take-le i list (omega (arith, low)) in
    let cut : drop i old ≡ get_or old i e ∷ drop (i + 1) old = drop-cons old i e (omega (
      arith,
      low,
      room,
    )) ∙ ap (λ n. get_or old i e ∷ drop n old) next in
    let written : set (head ++ (get_or old i e ∷ drop (i + 1) old)) i b ≡ head ++ (b ∷ drop (i + 1) old) =
    ap (λ n. set (head
    ++ (get_or old i e ∷ drop (i + 1) old)) n b) (sym long) ∙ set-append_seam head (get_or old i e) (drop (i + 1) old) b in
    let more : map f (take (i + 1) list) ≡ head ++ b ∷
    [] = map_more f list i d low ∙ ap (λ z. head ++ z ∷ []) (sym at) in
    ap (λ z. set z i b) (is ∙ ap (λ z. head ++ z) cut) ∙ (written ∙ (sym (append_assoc head (b ∷
    []) (drop (i + 1) old)) ∙ ap (λ z. z ++ drop (i + 1) old) (sym more)))
