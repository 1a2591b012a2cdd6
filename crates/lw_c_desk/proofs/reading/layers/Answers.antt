use Rattle.std.proofs.Common.{rules, ◌≡◌, ℕ, w32, ℤ, to_z, of_z, sym, subst}
use Rattle.lw_c_desk.specs.Read.{IsListed}
use Rattle.lw_c_desk.proofs.reading.layers.Goals as goal

pub returns : goal.returns
returns c d stands =
    let as_told : to_z w32 (of_z w32 c.write_slots.result) ≡ c.write_slots.result = search rules in
    subst (λ l. IsListed {X = ℕ} {Y = ℕ} (λ s. s) l c.args.out.now c.write_slots.new.out c.write_slots.new.count (to_z w32 (of_z w32 c.write_slots.result)))
    (c.layers.ensures d stands)
    (subst (λ (a : ℤ). IsListed {X = ℕ} {Y = ℕ} (λ s. s) c.layers.result.now c.args.out.now c.write_slots.new.out c.write_slots.new.count a)
    (sym as_told) c.write_slots.ensures)
