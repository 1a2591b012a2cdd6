use Rattle.std.proofs.Common.{rules, ◌≡◌, ℕ, List, w32, ℤ, to_z, of_z, Option, Some, refl, sym, subst}
use Rattle.lw_program_desk.specs.Views.{DeskView}
use Rattle.lw_c_desk.specs.Read.{IsRead, OfEachDesk, IsListed, AreSame}
use Rattle.lw_c_desk.proofs.reading.lw_desk_layers.Goals as goal

pub returns : goal.returns
returns c =
    let new : List ℕ = c.layers.new.out in
    let count : ℕ = c.layers.new.count in
    let as_told : to_z w32 (of_z w32 c.layers.result) ≡ c.layers.result = search rules in
    let answer : ℤ = to_z w32 (of_z w32 c.layers.result) in
    subst (λ (state : Option DeskView). IsRead (OfEachDesk (λ d. IsListed {X = ℕ} {Y = ℕ} (λ s. s) d.front_to_back c.args.out.now new count answer))
    (AreSame c.args.out.now new c.args.count.now count) state (Some c.state.result.now) answer) (sym c.state.ensures.value)
    (record {
      kept = refl;
      is_told = subst (λ (a : ℤ). OfEachDesk (λ d. IsListed {X = ℕ} {Y = ℕ} (λ s. s) d.front_to_back c.args.out.now new count a) c.state.result.now)
          (sym as_told) c.layers.ensures;
    })
