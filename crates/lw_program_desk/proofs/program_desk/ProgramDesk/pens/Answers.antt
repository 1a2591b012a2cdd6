use Rattle.std.proofs.Common.{◌∙◌, sym, ap, subst}
use Rattle.std.proofs.lemmas.Result.{IfOk-weaker}
use Rattle.lw_planes.specs.Bitmap.{Bitmap}
use Rattle.lw_calls.specs.declared.sizes.Sizes.{Sizes}
use Rattle.lw_machine.specs.Screen.{screen_bounds}
use Rattle.lw_strips.specs.Laying.{LiesIn}
use Rattle.lw_engine.proofs.LayerLaws.{numbered_cells, layers_of_desk}
use Rattle.lw_program_desk.proofs.ReadLaws.{lent_layers}
use Rattle.lw_program_desk.proofs.program_desk.ProgramDesk.pens.Goals as goal

pub screen_part-requires-clause-inside : goal.screen_part-requires-clause-inside
screen_part-requires-clause-inside c =
    let v = c.args.self.now in
    let desk = c.held-held.ensures.desk in
    let lent = lent_layers v.sizes v.assets c.held-held.result.now desk.0 c.info.result.now c.cells.result.now desk.1 c.info.ensures c.cells.ensures in
    subst (λ (z : Sizes). LiesIn c.args.rect.now (screen_bounds z)) (sym lent.info.sizes) c.requires

pub screen_part-requires-clause-many : goal.screen_part-requires-clause-many
screen_part-requires-clause-many c =
    let v = c.args.self.now in
    let desk = c.held-held.ensures.desk in
    let info = c.info.result.now in
    let cells = c.cells.result.now in
    let lent = lent_layers v.sizes v.assets c.held-held.result.now desk.0 info cells desk.1 c.info.ensures c.cells.ensures in
    (numbered_cells v.sizes v.assets info cells desk.0 lent).many

pub screen_part-requires-clause-desk : goal.screen_part-requires-clause-desk
screen_part-requires-clause-desk c =
    let v = c.args.self.now in
    let desk = c.held-held.ensures.desk in
    let info = c.info.result.now in
    let cells = c.cells.result.now in
    let lent = lent_layers v.sizes v.assets c.held-held.result.now desk.0 info cells desk.1 c.info.ensures c.cells.ensures in
    (desk.0, layers_of_desk v.sizes v.assets info cells desk.0 lent)

pub returns-clause-pens : goal.returns-clause-pens
returns-clause-pens c =
    let v = c.args.self.now in
    let p = c.held-held.result.now in
    let info = c.info.result.now in
    let cells = c.cells.result.now in
    IfOk-weaker c.screen_part.result _ _
    (λ planes is d stands.
    let lent = lent_layers v.sizes v.assets p d info cells (c.held-held.ensures.stand d stands) c.info.ensures c.cells.ensures in
    is d (layers_of_desk v.sizes v.assets info cells d lent))
    c.screen_part.ensures

pub returns-clause-size : goal.returns-clause-size
returns-clause-size c =
    let v = c.args.self.now in
    let desk = c.held-held.ensures.desk in
    let info = c.info.result.now in
    let cells = c.cells.result.now in
    let lent = lent_layers v.sizes v.assets c.held-held.result.now desk.0 info cells desk.1 c.info.ensures c.cells.ensures in
    IfOk-weaker c.screen_part.result _ _
    (λ planes is.
    let same = is desk.0 (layers_of_desk v.sizes v.assets info cells desk.0 lent) in (
      record { columns = ap (λ (b : Bitmap). b.width) same; rows = ap (λ (b : Bitmap). b.height) same },
      ap (λ (b : Bitmap). b.depth) same ∙ ap (λ (z : Sizes). z.depth) lent.desk.sizes,
    ))
    c.screen_part.ensures
