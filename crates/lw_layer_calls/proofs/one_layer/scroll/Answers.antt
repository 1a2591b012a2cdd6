use Rattle.std.proofs.Common.{◌≡◌, true, false, if◌then◌else◌, ◌∙◌, refl, sym, ap, to_z, of_z, w32, to_z-of_z}
use Rattle.lw_calls.specs.Kinds.{is_super}
use Rattle.lw_calls.specs.declared.call.Call.TheVariants.{Scroll}
use Rattle.lw_calls.specs.declared.reply.Reply.TheVariants.{Done, NotSuper, OutOfBounds}
use Rattle.lw_machine.specs.Step.{scroll_layer}
use Rattle.lw_layer.specs.View.{LiveView, with_layer, with_live}
use Rattle.lw_layer_calls.proofs.OneLayerLaws.{not_open, open_step, kind_told, scroll_not_super, scroll_outside, scroll_step}
use Rattle.lw_layer_calls.proofs.one_layer.scroll.Goals as goal

pub returns-in_default-clause-step : goal.returns-in_default-clause-step
returns-in_default-clause-step c =
    let cell = c.args.cell.now in
    λ task regs assets. not_open task cell regs assets (Scroll cell.number c.args.dx c.args.dy) refl c.in_default.ensures

pub returns-then-not-is_super-clause-step : goal.returns-then-not-is_super-clause-step
returns-then-not-is_super-clause-step c =
    let cell = c.args.cell.now in
    let kind : is_super cell.live.layer.kind ≡ false =
    ap (λ (k : LiveView). is_super k.layer.kind) (sym c.in-Some.ensures.1) ∙ kind_told c.in-Some.layer.now c.look.result c.is_super.result false c.look.ensures.look c.is_super.ensures c.if-not-is_super.true in
    λ task regs assets.
    open_step task cell cell cell.live regs assets (Scroll cell.number c.args.dx c.args.dy) NotSuper c.in-Some.ensures.0 refl (scroll_not_super cell.number cell.live c.args.dx c.args.dy kind)

pub returns-then-not-scroll-clause-step : goal.returns-then-not-scroll-clause-step
returns-then-not-scroll-clause-step c =
    let cell = c.args.cell.now in
    let kind : is_super cell.live.layer.kind ≡ true =
    ap (λ (k : LiveView). is_super k.layer.kind) (sym c.in-Some.ensures.1) ∙ kind_told c.in-Some.layer.now c.look.result c.is_super.result true c.look.ensures.look c.is_super.ensures c.if-not-is_super.false in
    let scrolled = with_live (λ k. with_layer (scroll_layer (to_z w32 (of_z w32 c.args.dx)) (to_z w32 (of_z w32 c.args.dy))) k) cell in
    λ task regs assets.
    open_step task cell c.scroll.new.cell cell.live regs assets (Scroll cell.number c.args.dx c.args.dy) OutOfBounds c.in-Some.ensures.0 (c.scroll.ensures.cell ∙ ap (λ t. if t then scrolled else cell) c.if-not-scroll.true)
    (scroll_outside cell.number cell.live c.args.dx c.args.dy _ _ c.scroll.result (to_z-of_z c.ranges.dx) (to_z-of_z c.ranges.dy) kind c.scroll.ensures.answer c.if-not-scroll.true)

pub returns-clause-step : goal.returns-clause-step
returns-clause-step c =
    let cell = c.args.cell.now in
    let kind : is_super cell.live.layer.kind ≡ true =
    ap (λ (k : LiveView). is_super k.layer.kind) (sym c.in-Some.ensures.1) ∙ kind_told c.in-Some.layer.now c.look.result c.is_super.result true c.look.ensures.look c.is_super.ensures c.if-not-is_super.false in
    let scrolled : LiveView = with_layer (scroll_layer (to_z w32 (of_z w32 c.args.dx)) (to_z w32 (of_z w32 c.args.dy))) cell.live in
    λ task regs assets.
    open_step task cell c.scroll.new.cell scrolled regs assets (Scroll cell.number c.args.dx c.args.dy) Done c.in-Some.ensures.0 (c.scroll.ensures.cell ∙ ap (λ t. if t then with_live (λ k. scrolled) cell else cell) c.if-not-scroll.false)
    (scroll_step cell.number cell.live c.args.dx c.args.dy _ _ c.scroll.result (to_z-of_z c.ranges.dx) (to_z-of_z c.ranges.dy) kind c.scroll.ensures.answer c.if-not-scroll.false)
