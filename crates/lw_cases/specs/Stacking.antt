-- Worked cases.
-- Plans that put layers before and behind others, and their reports.
use Rattle.std.specs.Prelude.{ℕ, List, [], ◌∷◌, ◌++◌, pos, codes}
use Rattle.lw_calls.specs.declared.make.Kind.TheVariants.{Smart}
use Rattle.lw_calls.specs.declared.make.Place.TheVariants.{Front, Behind}
use Rattle.lw_calls.specs.declared.call.Call.TheVariants.{Create, ToFront, ToBack, InFrontOf, Which}
use Rattle.lw_calls.specs.Plan.{Plan}
use Rattle.lw_cases.specs.Plans.{text, one_task, further, layer, create, create_backdrop, fill}

-- The last of three layers is put before the middle one, and then before itself, which changes nothing.
abbrev pub put_in_front : Plan
put_in_front =
    one_task 16 1 1 (codes "a" ∷ codes "b" ∷ codes "c" ∷ []) (create 0 Smart 0 0 5 0 ∷ create 1 Smart 2 0 7 0 ∷
    create 2 Smart 4 0 9 0 ∷ fill 0 0 0 5 0 ∷ InFrontOf 0 1 ∷ Which (pos 2) (pos 0) ∷ InFrontOf 0 0 ∷
    Which (pos 2) (pos 0) ∷ [])

abbrev pub put_in_front_report : List ℕ
put_in_front_report =
    text (codes "order 8/0 0 0 0 0 0 0 0/planes 16 1 1/plane 0/f000/visible a 1/0 0 3 0/visible b 0/visible c 1/4 0 9 0/"
    ++ codes "damage a 0/damage b 0/damage c 0/replies a 8/ok/ok/ok/ok/ok/layer a/ok/layer a/done/")

-- and then the one that is last is put before the first
abbrev pub put_first : Plan
put_first = further put_in_front (InFrontOf 1 2 ∷ [])

abbrev pub put_first_report : List ℕ
put_first_report =
    text (codes "order 9/0 0 0 0 0 0 0 0 0/planes 16 1 1/plane 0/c000/visible a 1/0 0 1 0/visible b 1/2 0 7 0/"
    ++ codes "visible c 1/8 0 9 0/" ++ codes "damage a 0/damage b 0/damage c 0/replies a 9/ok/ok/ok/ok/ok/"
    ++ codes "layer a/ok/layer a/ok/done/")

-- A backdrop layer goes before no other and has none put before it, also where both names are its own. A name that isn't
-- open is looked at before.
abbrev pub backdrop_in_front : Plan
backdrop_in_front =
    one_task 16 1 1 (codes "d" ∷ codes "a" ∷ codes "b" ∷ []) (create_backdrop 0 Smart Front 0 0 5 0 ∷
    create 1 Smart 2 0 7 0 ∷ fill 0 0 0 5 0 ∷ InFrontOf 0 1 ∷ InFrontOf 1 0 ∷ InFrontOf 0 0 ∷ InFrontOf 1 2 ∷
    InFrontOf 2 0 ∷ InFrontOf 0 2 ∷ [])

abbrev pub backdrop_in_front_report : List ℕ
backdrop_in_front_report =
    text (codes "order 9/0 0 0 0 0 0 0 0 0/planes 16 1 1/plane 0/c000/visible d 1/0 0 1 0/visible a 1/2 0 7 0/"
    ++ codes "damage d 0/damage a 0/" ++ codes "replies a 9/ok/ok/ok/backdrop/backdrop/backdrop/not-open/"
    ++ codes "not-open/not-open/done/")

-- With a backdrop layer at the back a layer is put behind, and then another is created behind: both stay before it.
abbrev pub put_behind : Plan
put_behind =
    one_task 16 1 1 (codes "d" ∷ codes "a" ∷ codes "b" ∷ codes "e" ∷ []) (create_backdrop 0 Smart Front 0 0 5 0 ∷
    create 1 Smart 2 0 7 0 ∷ create 2 Smart 4 0 9 0 ∷ fill 2 0 0 5 0 ∷ ToBack 2 ∷
    Create 3 (record (layer Smart 0 0 15 0) { place = Behind }) ∷ ToBack 0 ∷ ToFront 0 ∷ [])

abbrev pub put_behind_report : List ℕ
put_behind_report =
    text (codes "order 8/0 0 0 0 0 0 0 0/planes 16 1 1/plane 0/00c0/visible d 0/visible a 1/2 0 7 0/visible b 1/"
    ++ codes "8 0 9 0/visible e 2/0 0 1 0/10 0 15 0/" ++ codes "damage d 0/damage a 0/damage b 0/damage e 0/"
    ++ codes "replies a 8/ok/ok/ok/ok/ok/ok/backdrop/backdrop/done/")

-- Backdrop layers are created behind a layer that is none: three of them before the other backdrop layers, one behind.
abbrev pub backdrops_created : Plan
backdrops_created =
    one_task 16 1 1 (codes "a" ∷ codes "d" ∷ codes "e" ∷ codes "f" ∷ codes "g" ∷ []) (create 0 Smart 4 0 5 0 ∷
    create_backdrop 1 Smart Front 0 0 5 0 ∷ create_backdrop 2 Smart Front 2 0 7 0 ∷
    create_backdrop 3 Smart Behind 0 0 15 0 ∷ create_backdrop 4 Smart Front 6 0 9 0 ∷ [])

abbrev pub backdrops_created_report : List ℕ
backdrops_created_report =
    text (codes "order 5/0 0 0 0 0/planes 16 1 1/plane 0/0000/visible a 1/4 0 5 0/visible d 1/0 0 1 0/"
    ++ codes "visible e 1/2 0 3 0/visible f 1/10 0 15 0/visible g 1/6 0 9 0/"
    ++ codes "damage a 0/damage d 0/damage e 0/damage f 0/damage g 0/replies a 5/ok/ok/ok/ok/ok/done/")
