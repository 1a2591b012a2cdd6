use Rattle.std.proofs.Common.{◌≡◌, Bool, true, false, not, ◌&&◌, List, [], refl, sym, ap, ◌∙◌}
use Rattle.std.proofs.lemmas.Bool.{eqb-true}
use Rattle.std.proofs.lemmas.List.{nil_from_length}
use Rattle.lw_region.specs.Rectangle.{Rectangle}
use Rattle.lw_region.specs.Bands.{covers}
use Rattle.lw_region.proofs.Canonical.{covers_nil}
use Rattle.lw_reveal.specs.Gained.{is_left}
use Rattle.lw_region.proofs.SetOps.{combined_lists}
use Rattle.lw_reveal.proofs.damage.left_region.Goals as goal

-- of what is taken whole nothing is left
none_left : (b : Bool) → is_left b b false ≡ false
none_left true = refl
none_left false = refl

pub returns-then-takes_all : goal.returns-then-takes_all
returns-then-takes_all c = λ x y.
    let all = c.takes_all.ensures c.if-takes_all.true in
    ap (λ l. covers l x y) c.new.ensures
    ∙ (covers_nil x y
    ∙ (sym (none_left (covers c.args.from x y))
    ∙ (ap (λ b. is_left (covers c.args.from x y) (covers c.args.from x y) b) (sym (ap (λ (l : List Rectangle). covers l x y) all.0 ∙ covers_nil x y))
    ∙ ap (λ l. is_left (covers c.args.from x y) (covers l x y) (covers c.args.spared.now x y)) (sym all.1))))

-- where nothing is spared, all that is taken is out
none_spared : (taken spared : Bool) → spared ≡ false → (taken && not spared) ≡ taken
none_spared true false e = refl
none_spared false false e = refl
none_spared taken true e = absurd (cc e)

pub returns-then-is_empty : goal.returns-then-is_empty
returns-then-is_empty c = λ x y.
    let left = (combined_lists.differences c.args.from c.args.taken _ c.in_ok-clear_region.ensures.list).pixels x y in
    let none : c.args.spared.now ≡ [] = sym c.rects.ensures.value ∙ nil_from_length c.rects.result.now (eqb-true _ _ (sym c.is_empty.ensures ∙ c.if-is_empty.true)) in
    let spared = ap (λ (l : List Rectangle). covers l x y) none ∙ covers_nil x y in
    left ∙ ap (λ w. covers c.args.from x y && not w) (sym (none_spared (covers c.args.taken x y) (covers c.args.spared.now x y) spared))

pub returns : goal.returns
returns c = λ x y.
    let out = (combined_lists.differences c.args.taken c.args.spared.now _ (rw (c.rects-2.ensures.value, c.rects-3.ensures.value) at c.in_ok-out.ensures)).pixels x y in
    let left = (combined_lists.differences c.args.from _ _ c.in_ok-clear_region-2.ensures.list).pixels x y in
    left ∙ ap (λ w. covers c.args.from x y && not w) out
