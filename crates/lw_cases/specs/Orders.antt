-- Worked cases.
-- Plans of two tasks, and what the definitions say of their orders.
use Rattle.std.specs.Prelude.{ℕ, List, [], ◌∷◌, ◌++◌, pos, codes}
use Rattle.lw_calls.specs.declared.operation.RectOp.TheVariants.{Or as OrRect}
use Rattle.lw_calls.specs.declared.make.Kind.TheVariants.{Smart}
use Rattle.lw_calls.specs.declared.call.Call.{Call}
use Rattle.lw_calls.specs.declared.call.Call.TheVariants.{RegRect, ToFront, Which}
use Rattle.lw_calls.specs.declared.entry.Entry.{Entry}
use Rattle.lw_calls.specs.declared.group.Hold.TheVariants.{Slot, All}
use Rattle.lw_calls.specs.Plan.{Plan, no_assets}
use Rattle.lw_cases.specs.Plans.{text, one_task, grouped, with_second_task, rect, create, fill, blit_across}

-- two tasks, each of which creates a layer of its own and fills it
abbrev pub two_layers : Plan
two_layers =
    record {
      sizes = record { version = 1; width = 16; height = 1; depth = 1; slots = 2; tasks = 2; hooks = 0; bitmaps = 0 };
      slot_names = codes "x" ∷ codes "y" ∷ [];
      task_names = codes "a" ∷ codes "b" ∷ [];
      bitmap_names = [];
      calls = (create 0 Smart 0 0 3 0 ∷ fill 0 0 0 3 0 ∷ []) ∷ (create 1 Smart 8 0 11 0 ∷ fill 1 0 0 3 0 ∷ []) ∷ [];
      groups = [] ∷ [] ∷ [];
      pairs = [];
      assets = no_assets;
    }

-- the orders in which the tasks take turns: the first task begins, or the second
abbrev pub first_begins : List ℕ
first_begins = 0 ∷ 1 ∷ 0 ∷ 1 ∷ []

abbrev pub second_begins : List ℕ
second_begins = 1 ∷ 0 ∷ 1 ∷ 0 ∷ []

-- the steps that they stand for
abbrev pub first_begins_entries : List Entry
first_begins_entries =
    record { task = 0; seq = 0; call = create 0 Smart 0 0 3 0 } ∷
    record { task = 1; seq = 0; call = create 1 Smart 8 0 11 0 } ∷ record { task = 0; seq = 1; call = fill 0 0 0 3 0 } ∷
    record { task = 1; seq = 1; call = fill 1 0 0 3 0 } ∷ []

abbrev pub second_begins_entries : List Entry
second_begins_entries =
    record { task = 1; seq = 0; call = create 1 Smart 8 0 11 0 } ∷
    record { task = 0; seq = 0; call = create 0 Smart 0 0 3 0 } ∷ record { task = 1; seq = 1; call = fill 1 0 0 3 0 } ∷
    record { task = 0; seq = 1; call = fill 0 0 0 3 0 } ∷ []

-- the report, of which the second line alone depends on the order
abbrev pub two_layers_report : List ℕ → List ℕ
two_layers_report second_line =
    text (codes "order 4/" ++ second_line ++ codes "/planes 16 1 1/plane 0/f0f0/visible x 1/0 0 3 0/visible y 1/8 0 11 0/"
    ++ codes "damage x 0/damage y 0/replies a 2/ok/ok/replies b 2/ok/ok/done/")

-- a task that creates a layer and then, under its lock, fills two pixels of it; and one that fills a third pixel
abbrev pub locked_fills : Plan
locked_fills =
    record {
      sizes = record { version = 1; width = 16; height = 1; depth = 1; slots = 1; tasks = 2; hooks = 0; bitmaps = 0 };
      slot_names = codes "x" ∷ [];
      task_names = codes "a" ∷ codes "b" ∷ [];
      bitmap_names = [];
      calls = (create 0 Smart 0 0 3 0 ∷ fill 0 0 0 0 0 ∷ fill 0 1 0 1 0 ∷ []) ∷ (fill 0 2 0 2 0 ∷ []) ∷ [];
      groups = (record { first = 1; last = 2; hold = Slot 0 } ∷ []) ∷ [] ∷ [];
      pairs = [];
      assets = no_assets;
    }

-- an order in which the third fill comes between the two, and one that ends before the lock does
abbrev pub within_the_lock : List ℕ
within_the_lock = 0 ∷ 0 ∷ 1 ∷ 0 ∷ []

abbrev pub cut_short : List ℕ
cut_short = 0 ∷ 0 ∷ []

-- orders in which the third fill comes first of all, and last of all
abbrev pub before_all : List ℕ
before_all = 1 ∷ 0 ∷ 0 ∷ 0 ∷ []

abbrev pub after_all : List ℕ
after_all = 0 ∷ 0 ∷ 0 ∷ 1 ∷ []

-- the steps that they stand for
abbrev pub before_all_entries : List Entry
before_all_entries =
    record { task = 1; seq = 0; call = fill 0 2 0 2 0 } ∷ record { task = 0; seq = 0; call = create 0 Smart 0 0 3 0 } ∷
    record { task = 0; seq = 1; call = fill 0 0 0 0 0 } ∷ record { task = 0; seq = 2; call = fill 0 1 0 1 0 } ∷ []

abbrev pub after_all_entries : List Entry
after_all_entries =
    record { task = 0; seq = 0; call = create 0 Smart 0 0 3 0 } ∷ record { task = 0; seq = 1; call = fill 0 0 0 0 0 } ∷
    record { task = 0; seq = 2; call = fill 0 1 0 1 0 } ∷ record { task = 1; seq = 0; call = fill 0 2 0 2 0 } ∷ []

abbrev pub before_all_report : List ℕ
before_all_report =
    text (codes "order 4/1 0 0 0/planes 16 1 1/plane 0/c000/visible x 1/0 0 3 0/damage x 0/"
    ++ codes "replies a 3/ok/ok/ok/replies b 1/not-open/done/")

abbrev pub after_all_report : List ℕ
after_all_report =
    text (codes "order 4/0 0 0 1/planes 16 1 1/plane 0/e000/visible x 1/0 0 3 0/damage x 0/"
    ++ codes "replies a 3/ok/ok/ok/replies b 1/ok/done/")

-- a task that holds all layers from a creation to another arrangement of the layer x, and a second task's one call
abbrev pub beside_a_hold : Call → Plan
beside_a_hold call =
    with_second_task (call ∷ []) []
    (grouped (one_task 16 1 1 (codes "x" ∷ codes "y" ∷ []) (create 0 Smart 0 0 3 0 ∷ ToFront 0 ∷ [])) (record {
      first = 0;
      last = 1;
      hold = All;
    }))

-- a task that creates the layer x and then locks it for two fills, and a second task's one call
abbrev pub beside_a_lock : Call → Plan
beside_a_lock call =
    with_second_task (call ∷ []) []
    (grouped (one_task 16 1 1 (codes "x" ∷ codes "y" ∷ []) (create 0 Smart 0 0 3 0 ∷ fill 0 0 0 0 0 ∷ fill 0 1 0 1 0 ∷
    [])) (record { first = 1; last = 2; hold = Slot 0 }))

-- the same with two locks, each for one fill
abbrev pub beside_two_locks : Call → Plan
beside_two_locks call =
    with_second_task (call ∷ []) []
    (grouped (grouped (one_task 16 1 1 (codes "x" ∷ codes "y" ∷ []) (create 0 Smart 0 0 3 0 ∷ fill 0 0 0 0 0 ∷
    fill 0 1 0 1 0 ∷ [])) (record { first = 1; last = 1; hold = Slot 0 })) (record { first = 2; last = 2; hold = Slot 0 }))

-- the second task's call between the two of the hold, before and after them
abbrev pub within_the_hold : List ℕ
within_the_hold = 0 ∷ 1 ∷ 0 ∷ []

abbrev pub before_the_hold : List ℕ
before_the_hold = 1 ∷ 0 ∷ 0 ∷ []

abbrev pub after_the_hold : List ℕ
after_the_hold = 0 ∷ 0 ∷ 1 ∷ []

-- a call on a register, a look, and a blit of one row between these two layers
abbrev pub region_call : Call
region_call = RegRect OrRect 0 (rect 0 0 0 0)

abbrev pub look : Call
look = Which (pos 0) (pos 0)

abbrev pub blit_of : ℕ → ℕ → Call
blit_of source slot = blit_across source 0 slot 0 1 192

-- the report of the region call within the hold
abbrev pub within_the_hold_report : List ℕ
within_the_hold_report =
    text (codes "order 3/0 1 0/planes 16 1 1/plane 0/0000/visible x 1/0 0 3 0/damage x 0/replies a 2/ok/ok/replies b 1/ok/done/")
