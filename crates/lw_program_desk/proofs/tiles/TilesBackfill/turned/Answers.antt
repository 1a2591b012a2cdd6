use Rattle.std.proofs.Common.{◌≡◌, ◌<◌, ◌+◌, ◌/◌, ◌%◌, ◌∙◌, ap, subst, length}
use Rattle.lw_program_desk.proofs.TilesLaws.{tiles_turned, tiles_are_hook}
use Rattle.lw_program_desk.proofs.tiles.TilesBackfill.turned.Goals as goal

pub returns-clause-next : goal.returns-clause-next
returns-clause-next c =
    let t = c.args.self.now in
    let many : c.len.result ≡ length t.pens.items = c.len.ensures ∙ t.pens.ok.0 in
    tiles_turned t.pens.items t.place c.place_after-self.result t.within (c.place_after-self.ensures.value ∙ ap (λ n. (t.place + 1) % (n / 64)) many)

pub returns-clause-sound : goal.returns-clause-sound
returns-clause-sound c =
    let t = c.args.self.now in
    let many : c.len.result ≡ length t.pens.items = c.len.ensures ∙ t.pens.ok.0 in
    tiles_are_hook t.pens.items c.place_after-self.result t.bytes (subst (λ n. c.place_after-self.result < n / 64) many c.place_after-self.ensures.within)
