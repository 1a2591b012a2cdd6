use Rattle.std.proofs.Common.{◌≡◌, ◌≤◌, ◌+◌, ℕ, List, length, map, ◌∙◌, sym, ap, subst}
use Rattle.std.specs.List.{sum_by}
use Rattle.lw_region.specs.Rectangle.{Rectangle}
use Rattle.lw_calls.specs.Orders.{occurrences}
use Rattle.lw_strips.specs.Strips.{rects_of}
use Rattle.lw_strips.specs.Pools.{copies, copies_in}
use Rattle.lw_strips.specs.Exchange.{gained_by, lost_rects, gained_rects, pieces_of}
use Rattle.lw_strips.specs.declared.piece.Piece.{Piece}
use Rattle.lw_stack.specs.Stack.{Stack, IsStack, stack_of}
use Rattle.lw_stack.specs.Desktop.{IsDesktop}
use Rattle.lw_stack.specs.declared.info.InfoDraft.{InfoDraft}
use Rattle.lw_arrange.proofs.DesktopLaws.{blank_rects}
use Rattle.lw_engine.specs.Slots.{ReadyView, slot_after}
use Rattle.lw_engine.specs.Arranging.{slots_of, AreSettled, with_taken, given_up, AreChangedAt}
use Rattle.lw_engine.proofs.ReadyParts.{room_for_all, all_pieces, enough_pieces, last_pieces, settled_then, once_then, changed_then}
use Rattle.lw_engine.proofs.all_layers.arrange.Goals as goal

pub give_up_all-requires-clause-room : goal.give_up_all-requires-clause-room
give_up_all-requires-clause-room g c =
    let v = c.args.info.now in
    let a = c.args.arrangement.now in
    let shelf = c.args.shelf.now in
    let slots = c.args.slots.now in
    let made = c.in_ok-ready.ready.items in
    let taken : c.take_hook.new.ready ≡ with_taken shelf a.call made =
    c.take_hook.ensures.ready ∙ (ap (λ q. with_taken shelf q c.as_mut_slice-ready.result.now) c.call.ensures ∙ ap (λ l. with_taken shelf a.call l) c.as_mut_slice-ready.ensures.value) in
    let next = c.in_ok-next.ensures {u = tt} in
    let bare : rects_of c.in_ok-next.next.exchange.lost.items ≡ lost_rects v.sizes.slots a.pieces =
    ap rects_of next.pieces.lost ∙ blank_rects v.sizes.depth (lost_rects v.sizes.slots a.pieces) in
    let N : List Piece → Type 0 = λ l. length l ≤ c.reserve.new.self.spare in
    let enough = subst N c.pieces-pieces.ensures (c.in_ok-reserve.ensures {u = tt}).room in
    let P : List ReadyView → Type 0 =
    λ l. sum_by (λ q. length q.lost) l + length c.in_ok-next.next.exchange.lost.items ≤ c.reserve.new.self.spare
    in
    subst P (sym taken) (room_for_all v a shelf slots made c.requires.cells c.requires.sizes c.requires.pieces c.requires.listed c.in_ok-ready.ensures c.in_ok-next.next.exchange.lost.items c.reserve.new.self.spare bare enough)

pub settle_all-requires-clause-settled : goal.settle_all-requires-clause-settled
settle_all-requires-clause-settled g c =
    let v = c.args.info.now in
    let a = c.args.arrangement.now in
    let shelf = c.args.shelf.now in
    let slots = c.args.slots.now in
    let made = c.in_ok-ready.ready.items in
    let taken : c.take_hook.new.ready ≡ with_taken shelf a.call made =
    c.take_hook.ensures.ready ∙ (ap (λ q. with_taken shelf q c.as_mut_slice-ready.result.now) c.call.ensures ∙ ap (λ l. with_taken shelf a.call l) c.as_mut_slice-ready.ensures.value) in
    let given : c.give_up_all.new.ready ≡ map given_up (with_taken shelf a.call made) = c.give_up_all.ensures.ready ∙ ap (map given_up) taken in
    let glyphs = c.args.assets.now.glyphs in
    let P : List ReadyView → Type 0 = λ l. AreSettled glyphs (slot_after glyphs a shelf) slots l in
    (slot_after glyphs a shelf, subst P (sym given) (settled_then v a shelf slots made c.requires.cells c.requires.sizes c.requires.pieces c.requires.listed c.in_ok-ready.ensures glyphs))

pub settle_all-requires-clause-once : goal.settle_all-requires-clause-once
settle_all-requires-clause-once g c =
    let v = c.args.info.now in
    let a = c.args.arrangement.now in
    let shelf = c.args.shelf.now in
    let slots = c.args.slots.now in
    let made = c.in_ok-ready.ready.items in
    let taken : c.take_hook.new.ready ≡ with_taken shelf a.call made =
    c.take_hook.ensures.ready ∙ (ap (λ q. with_taken shelf q c.as_mut_slice-ready.result.now) c.call.ensures ∙ ap (λ l. with_taken shelf a.call l) c.as_mut_slice-ready.ensures.value) in
    let given : c.give_up_all.new.ready ≡ map given_up (with_taken shelf a.call made) = c.give_up_all.ensures.ready ∙ ap (map given_up) taken in
    let P : List ReadyView → Type 0 = λ l. (s : ℕ) → occurrences s (slots_of l) ≤ 1 in
    subst P (sym given) (once_then v a shelf slots made c.requires.cells c.requires.sizes c.requires.pieces c.requires.listed c.in_ok-ready.ensures)

pub settle_all-requires-clause-pool : goal.settle_all-requires-clause-pool
settle_all-requires-clause-pool g c =
    let v = c.args.info.now in
    let a = c.args.arrangement.now in
    let shelf = c.args.shelf.now in
    let slots = c.args.slots.now in
    let made = c.in_ok-ready.ready.items in
    let taken : c.take_hook.new.ready ≡ with_taken shelf a.call made =
    c.take_hook.ensures.ready ∙ (ap (λ q. with_taken shelf q c.as_mut_slice-ready.result.now) c.call.ensures ∙ ap (λ l. with_taken shelf a.call l) c.as_mut_slice-ready.ensures.value) in
    let given : c.give_up_all.new.ready ≡ map given_up (with_taken shelf a.call made) = c.give_up_all.ensures.ready ∙ ap (map given_up) taken in
    let next = c.in_ok-next.ensures {u = tt} in
    let bare : rects_of c.in_ok-next.next.exchange.lost.items ≡ lost_rects v.sizes.slots a.pieces =
    ap rects_of next.pieces.lost ∙ blank_rects v.sizes.depth (lost_rects v.sizes.slots a.pieces) in
    let pool : (r : Rectangle) → copies_in r c.give_up_all.new.pool.strips ≡ pieces_of r a.pieces =
    λ r.
    let N : List ReadyView → Type 0 =
    λ l. copies_in r c.give_up_all.new.pool.strips ≡ sum_by (λ q. copies_in r q.lost) l + copies_in r c.in_ok-next.next.exchange.lost.items
    in
    all_pieces v a shelf slots made c.requires.cells c.requires.sizes c.requires.pieces c.requires.listed c.in_ok-ready.ensures r c.in_ok-next.next.exchange.lost.items (copies_in r c.give_up_all.new.pool.strips) bare
    (subst N taken (c.give_up_all.ensures.numbers r))
    in
    λ r.
    let P : List ReadyView → Type 0 = λ l. sum_by (λ q. copies r q.claims) l ≤ copies_in r c.give_up_all.new.pool.strips in
    subst P (sym given) (enough_pieces v a shelf slots made c.requires.cells c.requires.sizes c.requires.pieces c.requires.listed c.in_ok-ready.ensures r (copies_in r c.give_up_all.new.pool.strips) (pool r))

pub commit_last-requires-clause-stack : goal.commit_last-requires-clause-stack
commit_last-requires-clause-stack g c =
    let next = c.in_ok-next.ensures {u = tt} in
    let P : Stack → Type 0 = λ v. IsStack v in
    subst P (sym (ap (λ (d : InfoDraft). stack_of c.args.info.now.sizes d) c.give_up_all.ensures.after ∙ next.stack)) c.sizes.ensures.planned.stack

pub commit_last-requires-clause-desktop : goal.commit_last-requires-clause-desktop
commit_last-requires-clause-desktop g c =
    let next = c.in_ok-next.ensures {u = tt} in
    let P : Stack → Type 0 = λ v. IsDesktop v c.in_ok-next.next.after.desktop.items in
    let Q : InfoDraft → Type 0 = λ d. IsDesktop (stack_of c.args.info.now.sizes d) d.desktop.items in
    subst Q (sym c.give_up_all.ensures.after) (subst P (sym next.stack) next.desktop)

pub commit_last-requires-clause-gained : goal.commit_last-requires-clause-gained
commit_last-requires-clause-gained g c =
    let next = c.in_ok-next.ensures {u = tt} in
    ap (λ v. v.items) c.give_up_all.ensures.gained ∙ (next.pieces.gained ∙ ap (λ l. gained_rects c.args.info.now.sizes.slots l) (sym c.pieces-pieces.ensures))

pub commit_last-requires-clause-last : goal.commit_last-requires-clause-last
commit_last-requires-clause-last g c =
    let v = c.args.info.now in
    let a = c.args.arrangement.now in
    let shelf = c.args.shelf.now in
    let slots = c.args.slots.now in
    let made = c.in_ok-ready.ready.items in
    let taken : c.take_hook.new.ready ≡ with_taken shelf a.call made =
    c.take_hook.ensures.ready ∙ (ap (λ q. with_taken shelf q c.as_mut_slice-ready.result.now) c.call.ensures ∙ ap (λ l. with_taken shelf a.call l) c.as_mut_slice-ready.ensures.value) in
    let given : c.give_up_all.new.ready ≡ map given_up (with_taken shelf a.call made) = c.give_up_all.ensures.ready ∙ ap (map given_up) taken in
    let next = c.in_ok-next.ensures {u = tt} in
    let bare : rects_of c.in_ok-next.next.exchange.lost.items ≡ lost_rects v.sizes.slots a.pieces =
    ap rects_of next.pieces.lost ∙ blank_rects v.sizes.depth (lost_rects v.sizes.slots a.pieces) in
    let pool : (r : Rectangle) → copies_in r c.give_up_all.new.pool.strips ≡ pieces_of r a.pieces =
    λ r.
    let N : List ReadyView → Type 0 =
    λ l. copies_in r c.give_up_all.new.pool.strips ≡ sum_by (λ q. copies_in r q.lost) l + copies_in r c.in_ok-next.next.exchange.lost.items
    in
    all_pieces v a shelf slots made c.requires.cells c.requires.sizes c.requires.pieces c.requires.listed c.in_ok-ready.ensures r c.in_ok-next.next.exchange.lost.items (copies_in r c.give_up_all.new.pool.strips) bare
    (subst N taken (c.give_up_all.ensures.numbers r))
    in
    λ r.
    let P : List ReadyView → Type 0 =
    λ l. copies_in r c.give_up_all.new.pool.strips ≡ copies_in r c.settle_all.new.pool.strips + sum_by (λ q. copies r q.claims) l
    in
    last_pieces v a shelf slots made c.requires.cells c.requires.sizes c.requires.pieces c.requires.listed c.in_ok-ready.ensures r (copies_in r c.give_up_all.new.pool.strips) (copies_in r c.settle_all.new.pool.strips) (pool r)
    (subst P given (c.settle_all.ensures.numbers r))
    ∙ ap (λ l. gained_by r v.sizes.slots l) (sym c.pieces-pieces.ensures)

pub returns-clause-info : goal.returns-clause-info
returns-clause-info g c =
    let next = c.in_ok-next.ensures {u = tt} in
    c.commit_last.ensures.info ∙ (ap (λ (d : InfoDraft). stack_of c.args.info.now.sizes d) c.give_up_all.ensures.after ∙ next.stack)

pub returns-clause-cells : goal.returns-clause-cells
returns-clause-cells g c =
    let v = c.args.info.now in
    let a = c.args.arrangement.now in
    let shelf = c.args.shelf.now in
    let slots = c.args.slots.now in
    let made = c.in_ok-ready.ready.items in
    let taken : c.take_hook.new.ready ≡ with_taken shelf a.call made =
    c.take_hook.ensures.ready ∙ (ap (λ q. with_taken shelf q c.as_mut_slice-ready.result.now) c.call.ensures ∙ ap (λ l. with_taken shelf a.call l) c.as_mut_slice-ready.ensures.value) in
    let given : c.give_up_all.new.ready ≡ map given_up (with_taken shelf a.call made) = c.give_up_all.ensures.ready ∙ ap (map given_up) taken in
    let glyphs = c.args.assets.now.glyphs in
    let P : List ReadyView → Type 0 = λ l. AreSettled glyphs (slot_after glyphs a shelf) slots l in
    let Q : List ReadyView → Type 0 = λ l. AreChangedAt (slots_of l) (slot_after glyphs a shelf) slots c.settle_all.new.slots in
    changed_then v a shelf slots made c.requires.cells c.requires.sizes c.requires.pieces c.requires.listed c.in_ok-ready.ensures glyphs c.settle_all.new.slots
    (subst Q given (c.settle_all.ensures.settled (slot_after glyphs a shelf) (subst P (sym given) (settled_then v a shelf slots made c.requires.cells c.requires.sizes c.requires.pieces c.requires.listed c.in_ok-ready.ensures glyphs))))
