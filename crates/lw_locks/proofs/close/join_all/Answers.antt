-- All seats joined to LayerInfo's.
use Rattle.std.proofs.Common.{◌≡◌, ◌<◌, ◌≤◌, [], vec_len, vec_capacity, sym, subst, ◌∙◌}
use Rattle.std.specs.Prelude.{All}
use Rattle.std.proofs.lemmas.List.{length-map}
use Rattle.std.proofs.lemmas.List.Elements.{All-nil, All-cons}
use Rattle.lw_calls.specs.declared.touch.Role.TheVariants.{Info}
use Rattle.lw_order.specs.Roles.{HasEachOnce}
use Rattle.lw_order.specs.Rule.{IsRoleWithin}
use Rattle.lw_order.proofs.OnceLaws.{one_once}
use Rattle.lw_locks.specs.Closing.{HasEach, slots_of}
use Rattle.lw_locks.proofs.Slots.{each_slot}
use Rattle.lw_locks.proofs.Closing.{closed}
use Rattle.lw_locks.proofs.close.join_all.Goals as goal

pub join_layers-requires-clause-once : goal.join_layers-requires-clause-once
join_layers-requires-clause-once g c κs within = subst HasEachOnce (sym c.info.invariant.roles) (one_once Info)

pub join_layers-requires-clause-fit : goal.join_layers-requires-clause-fit
join_layers-requires-clause-fit g c κs within =
    let fits = IsRoleWithin g.N.Opening.desk.sizes in
    subst (λ rs. All fits rs) (sym c.info.invariant.roles) (All-cons fits Info [] tt (All-nil fits))

pub join_layers-requires-clause-taken : goal.join_layers-requires-clause-taken
join_layers-requires-clause-taken g c κs within =
    let taken = c.requires.taken in
    (taken.0, subst (λ n. n ≤ vec_capacity c.args.taken) (sym c.requires.layers) taken.1)

pub put_cells-requires-clause-each : goal.put_cells-requires-clause-each
put_cells-requires-clause-each g c slot below =
    let sizes = g.N.Opening.desk.sizes in
    let joined = c.join_layers.ensures in
    let taken = c.join_layers.new.taken in
    let many : vec_len taken ≡ sizes.slots = joined.many.0 ∙ c.requires.layers in
    each_slot sizes c.info.inside.seat.roles c.join_layers.new.seat.roles (slots_of taken.items) joined.roles joined.once joined.fit
    (length-map taken.items (λ one. one.0) ∙ (sym taken.ok.0 ∙ many)) slot (subst (λ n. slot < n) many below)

pub put_cells-requires-clause-cells : goal.put_cells-requires-clause-cells
put_cells-requires-clause-cells g c =
    let cells = c.requires.cells in
    (cells.0, subst (λ n. n ≤ vec_capacity c.args.cells) (sym (c.join_layers.ensures.many.0 ∙ c.requires.layers)) cells.1)

pub join_passes-requires-clause-each : goal.join_passes-requires-clause-each
join_passes-requires-clause-each g c κs within = subst (HasEach c.args.passes.items) (sym c.requires.many) c.requires.each

pub returns : goal.returns
returns g c =
    let e = g.E.Engine in
    let desk = g.N.Opening.desk in
    let steps = c.args.steps.now in
    let cells = c.put_cells.new.cells in
    let regs = c.join_passes.new.regs in
    let joined = c.join_layers.ensures in
    let put = c.put_cells.ensures in
    let mine = c.join_passes.ensures.many in
    closed e.relations g.N.Opening.word desk c.args.passes.items c.info.inside.info cells.items regs.items c.info.inside.seat c.join_layers.new.seat c.join_passes.new.seat
    steps.begun.empty steps.begun.limits joined.longer c.join_passes.ensures.longer c.info.invariant.info (λ s x at_s. joined.taken s x (put.placed s x at_s)) (sym cells.ok.0 ∙ (put.many.0 ∙ (joined.many.0 ∙ c.requires.layers)))
    c.join_passes.ensures.seat c.join_passes.ensures.regs (sym regs.ok.0 ∙ (mine.0 ∙ c.requires.many)) c.join_passes.ensures.followed
