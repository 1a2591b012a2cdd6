-- No order of a plan whose tasks keep apart shows.
use Rattle.std.proofs.Common.{◌≡◌, ℕ, ◌==◌, true, List, [], map, ℤ, pos, Option, Some, None, IsTrue, refl, sym, ap, ◌∙◌}
use Rattle.std.specs.List.{range_with_len}
use Rattle.std.proofs.lemmas.Bool.{eqb-false, eq-eqb, both_ways, true_from_ne_false}
use Rattle.std.proofs.lemmas.List.Elements.{All-nil}
use Rattle.lw_region.specs.Rectangle.{has_pixel}
use Rattle.lw_planes.specs.Bitmap.{bitmap}
use Rattle.lw_calls.specs.Limits.{call_fits}
use Rattle.lw_calls.specs.Plan.{Plan, IsPlan}
use Rattle.lw_calls.specs.Entries.{entries}
use Rattle.lw_calls.specs.Orders.{is_legal}
use Rattle.lw_machine.specs.Hook.{Hook}
use Rattle.lw_machine.specs.Desk.{Desk, is_the}
use Rattle.lw_machine.specs.Screen.{bounds_have, screen_bounds, top, pen_on, pen_of_top, screen}
use Rattle.lw_machine.specs.History.{machine, replies_of}
use Rattle.lw_machine.specs.Finals.{opening_desk}
use Rattle.lw_machine.proofs.ReachedSound.{reached_sound}
use Rattle.lw_history.proofs.RunTold.{entries_fit}
use Rattle.lw_apart.specs.TaskSteps.{steps_of}
use Rattle.lw_apart.specs.Apart.{Shares, IsOwn, KeepsApart, LeavesTheSame, ApartTasksShowNoOrder}
use Rattle.lw_apart.proofs.TaskOrders.{calls_of_task, entries_have}
use Rattle.lw_apart.proofs.Tops.{off_columns, not_found, off_top, same_top}
use Rattle.lw_apart.proofs.Slots.{bare_pen}
use Rattle.lw_apart.proofs.Shared.{IsShared}
use Rattle.lw_apart.proofs.Alike.{IsAlike}
use Rattle.lw_apart.proofs.Moves.{RunsAlike, runs_alike}

module _ (shares : Shares) (task : ℕ) (d e : Desk) (ok : IsShared shares d) (alike : IsAlike shares task d e) where
  -- the layer on top of a place in the task's columns is the task's
  on_top : (x y : ℤ) (s : ℕ) → shares.column x ≡ task → top d x y ≡ Some s → (shares.slot s == task) ≡ true
  unfolding top
  on_top x y s here is =
      true_from_ne_false (shares.slot s == task)
      (λ other. both_ways (s == s) (ap (λ o. is_the o s) (sym is)
      ∙ off_top (has_pixel (screen_bounds d.sizes) x y) _ s (not_found (λ t. bounds_have (d.bounds t) x y) d.front_to_back s
      (off_columns shares (shares.slot s) (d.bounds s) x y (ok.ordinary.columns s)
      (λ there. eqb-false (shares.slot s) task other (sym there ∙ here)))))
      (eq-eqb s s refl))

  -- in its columns the task's layers show their pens
  pub same_pen : (x y : ℤ) → shares.column x ≡ task → pen_of_top d (top d x y) x y ≡ pen_of_top e (top e x y) x y
  same_pen x y here = ap (λ o. pen_of_top d o x y) same ∙ go (top e x y) (same)
    where
      same : top d x y ≡ top e x y
      same = same_top shares task d e
          (record { sizes = alike.sizes; list = alike.list; bounds = alike.bounds; columns = ok.ordinary.columns }) x y here

      go : (o : Option ℕ) → top d x y ≡ o → pen_of_top d o x y ≡ pen_of_top e o x y
      go None is = refl
      go (Some s) is =
          let mine = on_top x y s here is in
          sym (bare_pen (d.bounds s) (d.slot s) x y) ∙
          ((λ i. pen_on (alike.bounds s mine i) (alike.slots s mine i) x y) ∙ bare_pen (e.bounds s) (e.slot s) x y)

-- the desk before the first call is shared, and alike to itself
opening_shared : (shares : Shares) (plan : Plan) (hooks : List Hook) → IsPlan plan → IsShared shares (opening_desk plan hooks)
opening_shared shares plan hooks ok = record {
  sound = reached_sound plan.sizes plan.assets _ [] ok.limits (All-nil (λ e. IsTrue (call_fits plan.sizes e.call)));
  ordinary = record { columns = λ s. tt; plain = λ s. refl };
}

opening_alike : (shares : Shares) (task : ℕ) (plan : Plan) (hooks : List Hook)
    → IsAlike shares task (opening_desk plan hooks) (opening_desk plan hooks)
opening_alike shares task plan hooks = record { sizes = refl; list = refl; bounds = λ s mine. refl; slots = λ s mine. refl }

module _ (plan : Plan) (hooks : List Hook) (a b : List ℕ) (ok : IsPlan plan) (apart : KeepsApart plan)
    (left : is_legal plan a ≡ true) (right : is_legal plan b ≡ true) where
  abbrev start : Desk
  start = opening_desk plan hooks

  abbrev after_order : List ℕ → Desk
  after_order order = machine start (entries plan [] order)

  run : (task : ℕ) (order : List ℕ) → RunsAlike apart.shares task start start (entries plan [] order)
  run task order =
      runs_alike apart.shares task (entries plan [] order) start start
      (entries_have (IsOwn apart.shares) plan apart.own [] order) (entries_fit plan [] order ok)
      (opening_shared apart.shares plan hooks ok) (opening_shared apart.shares plan hooks ok)
      (opening_alike apart.shares task plan hooks)

  same_steps : (task : ℕ) → steps_of task (entries plan [] a) ≡ steps_of task (entries plan [] b)
  same_steps task = calls_of_task plan a ok left task ∙ sym (calls_of_task plan b ok right task)

  same_sizes : (after_order a).sizes ≡ (after_order b).sizes
  same_sizes = (run 0 a).desks.sizes ∙ (ap (λ es. (machine start es).sizes) (same_steps 0) ∙ sym (run 0 b).desks.sizes)

  abbrev pen_at_place : List ℕ → ℕ → ℕ → ℕ
  pen_at_place order x y = pen_of_top (after_order order) (top (after_order order) (pos x) (pos y)) (pos x) (pos y)

  same_pens : (x y : ℕ) → pen_at_place a x y ≡ pen_at_place b x y
  same_pens x y =
      let task : ℕ = apart.shares.column (pos x) in
      same_pen apart.shares task (after_order a) (machine start (steps_of task (entries plan [] a))) (run task a).shared
      (run task a).desks (pos x) (pos y) refl
      ∙ (ap (λ es. pen_of_top (machine start es) (top (machine start es) (pos x) (pos y)) (pos x) (pos y)) (same_steps task)
      ∙ sym (same_pen apart.shares task (after_order b) (machine start (steps_of task (entries plan [] b))) (run task b).shared
      (run task b).desks (pos x) (pos y) refl))

  same_screen : screen (after_order a) ≡ screen (after_order b)
  unfolding screen
  same_screen = λ i. bitmap (same_sizes i).width (same_sizes i).height (same_sizes i).depth (λ x y. same_pens x y i)

  same_replies : (task : ℕ) → replies_of start task (entries plan [] a) ≡ replies_of start task (entries plan [] b)
  same_replies task = (run task a).replies ∙ (ap (replies_of start task) (same_steps task) ∙ sym (run task b).replies)

  pub leave_the_same : LeavesTheSame plan hooks a b
  leave_the_same = record {
    screen = same_screen;
    replies = λ i. map (λ task. same_replies task i) (range_with_len 0 (same_sizes i).tasks);
  }

pub apart_show_no_order : ApartTasksShowNoOrder
apart_show_no_order plan hooks a b ok apart left right = leave_the_same plan hooks a b ok apart left right
