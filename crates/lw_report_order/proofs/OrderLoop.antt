-- The numbers of an order section, read in a loop.
use Rattle.std.proofs.Common.{◌≡◌, ℕ, suc, ◌+◌, ◌-◌, ◌<◌, ◌≤◌, List, [], ◌∷◌, ◌++◌, length, take, drop, replicate, Result, Ok, Err, sym, ap, subst, ◌∙◌, append_assoc, length-append, arith}
use Rattle.std.specs.Fmt.{decimal}
use Rattle.std.proofs.lemmas.List.{drop-drop, length-drop, length-replicate, take_rest}
use Rattle.lw_grammar.specs.Demands.{◌>>=◌}
use Rattle.lw_machine.specs.Report.{separator}
use Rattle.lw_report_order.specs.OrderReading.{number_read, onto, numbers_read}
use Rattle.lw_report_order.proofs.OrderNumbers.{IsNumber, number_is}

onto_onto : (front : List ℕ) (t place used : ℕ) (r : Result (List ℕ) ℕ) → onto front place (onto (t ∷ []) used r) ≡ onto (front ++ t ∷ []) (place + used) r
onto_onto front t place used (Ok ns) = ap Ok (sym (append_assoc front (t ∷ []) ns))
onto_onto front t place used (Err n) = let same : place + (used + n) ≡ (place + used) + n = omega arith in ap Err same

number_within : (end : ℕ) (bytes : List ℕ) (r : Result (ℕ × ℕ) ℕ) → IsNumber end bytes r → (x : ℕ × ℕ) → r ≡ Ok x → x.1 ≤ length bytes
number_within end bytes (Ok y) h x e =
    let same : y ≡ x = cc in
    let all : length bytes ≡ length (decimal y.0) + suc (length h.1) = ap length h.2 ∙ length-append (decimal y.0) (end ∷ h.1) in
    let used = h.3 in
    subst (λ (z : ℕ × ℕ). z.1 ≤ length bytes) same (omega (arith, all, used))
number_within end bytes (Err n) h x e = absurd (let bad : Err n ≡ Ok x = e in cc)

module _ (above count place end : ℕ) (tasks bytes : List ℕ) (low : above < count) (separates : (rest : List ℕ) → (above + 1) + length rest ≡ count → end ≡ separator (above + 1) rest) where
  abbrev left : ℕ
  left = count - (above + 1)

  ends : end ≡ separator (above + 1) (replicate left 0)
  ends = let many = length-replicate {A = ℕ} left 0 in separates (replicate left 0) (omega (arith, many, low))

  abbrev next : List ℕ → ℕ × ℕ → Result (List ℕ) ℕ
  next xs x = onto (x.0 ∷ []) x.1 (numbers_read (above + 1) left (drop x.1 xs))

  -- what is read is a number and what stands behind it
  opened : numbers_read above (count - above) (drop place bytes) ≡ (number_read end (drop place bytes) >>= next (drop place bytes))
  opened =
      let more : count - above ≡ suc left = omega (arith, low) in
      ap (λ m. numbers_read above m (drop place bytes)) more ∙ ap (λ e. number_read e (drop place bytes) >>= next (drop place bytes)) (sym ends)

  seen : (r : Result (ℕ × ℕ) ℕ) → r ≡ number_read end (take (length bytes - place) (drop place bytes)) → number_read end (drop place bytes) ≡ r
  seen r is = ap (number_read end) (sym (take_rest bytes place)) ∙ sym is

  -- a number more
  pub one_more : (t used : ℕ) → place ≤ length bytes → Ok (t, used) ≡ number_read end (take (length bytes - place) (drop place bytes))
      → (place + used ≤ length bytes) × (onto (tasks ++ t ∷ []) (place + used) (numbers_read (above + 1) (count - (above + 1)) (drop (place + used) bytes)) ≡ onto tasks place (numbers_read above (count - above) (drop place bytes)))
  one_more t used within is =
      let read : number_read end (drop place bytes) ≡ Ok (t, used) = seen (Ok (t, used)) is in
      let few = number_within end (drop place bytes) (number_read end (drop place bytes)) (number_is end (drop place bytes)) (t, used) read in
      let rest = length-drop place bytes in (
        omega (arith, few, rest, within),
        ap (λ l. onto (tasks ++ t ∷ []) (place + used) (numbers_read (above + 1) left l)) (sym (drop-drop used place bytes))
            ∙ sym (ap (onto tasks place) (opened ∙ ap (λ r. r >>= next (drop place bytes)) read) ∙ onto_onto tasks t place used (numbers_read (above + 1) left (drop used (drop place bytes)))),
      )

  -- no number more
  pub none_more : (n : ℕ) → Err n ≡ number_read end (take (length bytes - place) (drop place bytes)) → onto tasks place (numbers_read above (count - above) (drop place bytes)) ≡ Err (place + n)
  none_more n is = ap (onto tasks place) (opened ∙ ap (λ r. r >>= next (drop place bytes)) (seen (Err n) is))
