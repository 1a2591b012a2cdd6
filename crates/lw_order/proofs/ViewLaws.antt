-- Views that change: who has a role afterwards had it before, or was given it.
use Rattle.std.proofs.Common.{◌≡◌, ◌≢◌, ◌⊎◌, ℕ, zero, suc, List, [], ◌∷◌, ◌++◌, length, length-set, set, refl, sym, ap, ◌∙◌, subst, ⊎_elim, inl, inr}
use Rattle.std.specs.Prelude.{Contains}
use Rattle.std.proofs.lemmas.List.Elements.{Contains-append_cases}
use mathlib.Core.Option.{some, some-injective, some-ne-none}
use lib.ListN.{get_elem?}
use Rattle.atomic_table.proofs.Lists.{at_set}
use Rattle.lw_calls.specs.declared.sizes.Sizes.{Sizes}
use Rattle.lw_calls.specs.declared.entry.Entry.{Entry}
use Rattle.lw_calls.specs.declared.touch.Role.{Role}
use Rattle.lw_order.specs.declared.view.View.{View}
use Rattle.lw_order.specs.Roles.{without}
use Rattle.lw_order.specs.Rule.{Stands, HeldOnce}
use Rattle.lw_order.specs.Plays.{view_of, spent_view}
use Rattle.lw_order.proofs.RoleLaws.{was_there, not_there, only_role}
use Rattle.lw_order.proofs.OnceLaws.{no_role}

-- an element of a list that got one more: it was there, or it is the new one, at the end
at_snoc_place : {A : Type 0} (l : List A) (a b : A) (j : ℕ) → get_elem? (l ++ a ∷ []) j ≡ some b → (get_elem? l j ≡ some b) ⊎ ((j ≡ length l) × (a ≡ b))
at_snoc_place [] a b zero e = inr (refl, some-injective a b e)
at_snoc_place [] a b (suc j) e = absurd (some-ne-none b (sym e))
at_snoc_place (x ∷ xs) a b zero e = inl e
at_snoc_place (x ∷ xs) a b (suc j) e = ⊎_elim (λ t. inl t) (λ t. inr (ap suc t.0, t.1)) (at_snoc_place xs a b j e)

-- the seat has the role
record Holds (views : List View) (seat : ℕ) (role : Role) : Type 0 where
  view : View
  there : get_elem? views seat ≡ some view
  has : Contains view.roles role

held_by_one : (views : List View) (i j : ℕ) (role : Role) → HeldOnce views → Holds views i role → Holds views j role → i ≡ j
held_by_one views i j role once a b = once i j a.view b.view role a.there b.there a.has b.has

-- each view stands well after one was changed, if it stands well and the others did
pub stands_set : (sizes : Sizes) (whole : List Entry) (views : List View) (seat : ℕ) (w : View) → ((j : ℕ) (u : View) → j ≢ seat → get_elem? views j ≡ some u → Stands sizes whole u) → Stands sizes whole w → (j : ℕ) (u : View) → get_elem? (set views seat w) j ≡ some u → Stands sizes whole u
stands_set sizes whole views seat w others mine j u e =
    ⊎_elim
    (λ (t : (j ≡ seat) × (w ≡ u)). subst (Stands sizes whole) t.1 mine)
    (λ (t : (j ≢ seat) × (get_elem? views j ≡ some u)). others j u t.0 t.1)
    (at_set views seat j w u e)

-- the same, where a view is added
pub stands_push : (sizes : Sizes) (whole : List Entry) (views : List View) (w : View) → ((j : ℕ) (u : View) → get_elem? views j ≡ some u → Stands sizes whole u) → Stands sizes whole w → (j : ℕ) (u : View) → get_elem? (views ++ w ∷ []) j ≡ some u → Stands sizes whole u
stands_push sizes whole views w others mine j u e =
    ⊎_elim (λ was. others j u was) (λ new. subst (Stands sizes whole) new.1 mine) (at_snoc_place views w u j e)

-- a role of one view is in no other
pub not_of_another : (views : List View) (i j : ℕ) (v w : View) (role : Role) → HeldOnce views → get_elem? views i ≡ some v → get_elem? views j ≡ some w → j ≢ i → Contains v.roles role → Contains w.roles role → ⊥
not_of_another views i j v w role once a b apart h k = apart (sym (once i j v w role a b h k))

set_holder : (views : List View) (seat : ℕ) (v w : View) (i : ℕ) (u : View) (role : Role) → get_elem? views seat ≡ some v → (Contains w.roles role → Contains v.roles role) → get_elem? (set views seat w) i ≡ some u → Contains u.roles role → Holds views i role
set_holder views seat v w i u role at fewer e has =
    ⊎_elim
    (λ (t : (i ≡ seat) × (w ≡ u)). let mine : Holds views seat role = record { view = v; there = at; has = fewer (subst (λ (x : View). Contains x.roles role) (sym t.1) has) } in subst (λ k. Holds views k role) (sym t.0) mine)
    (λ (t : (i ≢ seat) × (get_elem? views i ≡ some u)). record { view = u; there = t.1; has = has })
    (at_set views seat i w u e)

-- a view that loses roles, or keeps them
pub held_once_set : (views : List View) (seat : ℕ) (v w : View) → HeldOnce views → get_elem? views seat ≡ some v → ((role : Role) → Contains w.roles role → Contains v.roles role) → HeldOnce (set views seat w)
held_once_set views seat v w once at fewer i j a b role ea eb ha hb =
    held_by_one views i j role once (set_holder views seat v w i a role at (fewer role) ea ha) (set_holder views seat v w j b role at (fewer role) eb hb)

-- After a split the role that was taken off is the new view's, and each other role stayed where it was.
abbrev Parted : List View → ℕ → Role → ℕ → Role → Type 0
Parted views seat off i role = (Holds views i role × (i ≡ seat → off ≡ role → ⊥)) ⊎ ((i ≡ length views) × (off ≡ role))

parted : (views : List View) (seat : ℕ) (v : View) (off : Role) (i : ℕ) (u : View) (role : Role) → get_elem? views seat ≡ some v → get_elem? (set views seat (view_of v.history (without off v.roles)) ++ view_of v.history (off ∷ []) ∷ []) i ≡ some u → Contains u.roles role → Parted views seat off i role
parted views seat v off i u role at e has =
    let left = view_of v.history (without off v.roles) in
    let right = view_of v.history (off ∷ []) in
    ⊎_elim
    (λ (was : get_elem? (set views seat left) i ≡ some u). inl (
      set_holder views seat v left i u role at (was_there off role v.roles) was has,
      λ mine same. taken i u role was has mine same,
    ))
    (λ (new : (i ≡ length (set views seat left)) × (right ≡ u)). inr (new.0 ∙ length-set views seat left, only_role off role (subst (λ (x : View). Contains x.roles role) (sym new.1) has)))
    (at_snoc_place (set views seat left) right u i e)
  where
    taken : (i : ℕ) (u : View) (role : Role) → get_elem? (set views seat (view_of v.history (without off v.roles))) i ≡ some u → Contains u.roles role → i ≡ seat → off ≡ role → ⊥
    taken i u role was has mine same =
        ⊎_elim
        (λ (t : (i ≡ seat) × (view_of v.history (without off v.roles) ≡ u)). not_there off v.roles (subst (λ r. Contains (without off v.roles) r) (sym same) (subst (λ (x : View). Contains x.roles role) (sym t.1) has)))
        (λ (t : (i ≢ seat) × (get_elem? views i ≡ some u)). t.0 mine)
        (at_set views seat i (view_of v.history (without off v.roles)) u was)

parted_once : (views : List View) (seat : ℕ) (off role : Role) (i j : ℕ) → HeldOnce views → Holds views seat off → Parted views seat off i role → Parted views seat off j role → i ≡ j
parted_once views seat off role i j once mine a b =
    ⊎_elim
    (λ (x : Holds views i role × (i ≡ seat → off ≡ role → ⊥)). ⊎_elim
    (λ (y : Holds views j role × (j ≡ seat → off ≡ role → ⊥)). held_by_one views i j role once x.0 y.0)
    (λ (y : (j ≡ length views) × (off ≡ role)). absurd (x.1 (held_by_one views i seat role once x.0 (subst (Holds views seat) y.1 mine)) y.1))
    b)
    (λ (x : (i ≡ length views) × (off ≡ role)). ⊎_elim
    (λ (y : Holds views j role × (j ≡ seat → off ≡ role → ⊥)). absurd (y.1 (held_by_one views j seat role once y.0 (subst (Holds views seat) x.1 mine)) x.1))
    (λ (y : (j ≡ length views) × (off ≡ role)). x.0 ∙ sym y.0)
    b)
    a

-- a view from which one role goes to a new one
pub held_once_split : (views : List View) (seat : ℕ) (v : View) (off : Role) → HeldOnce views → get_elem? views seat ≡ some v → Contains v.roles off → HeldOnce (set views seat (view_of v.history (without off v.roles)) ++ view_of v.history (off ∷ []) ∷ [])
held_once_split views seat v off once at there i j a b role ea eb ha hb =
    parted_once views seat off role i j once (record { view = v; there = at; has = there }) (parted views seat v off i a role at ea ha) (parted views seat v off j b role at eb hb)

-- After a join the other seat has no role, and the first one has those of both.
record Merged (views : List View) (seat other i : ℕ) (role : Role) : Type 0 where
  apart : i ≢ other
  from : Holds views i role ⊎ ((i ≡ seat) × Holds views other role)

merged : (views : List View) (seat other : ℕ) (v w both : View) (i : ℕ) (u : View) (role : Role) → get_elem? views seat ≡ some v → get_elem? views other ≡ some w → both.roles ≡ v.roles ++ w.roles → get_elem? (set (set views seat both) other spent_view) i ≡ some u → Contains u.roles role → Merged views seat other i role
merged views seat other v w both i u role at there roles e has =
    ⊎_elim
    (λ (t : (i ≡ other) × (spent_view ≡ u)). absurd (no_role role (subst (λ (x : View). Contains x.roles role) (sym t.1) has)))
    (λ (t : (i ≢ other) × (get_elem? (set views seat both) i ≡ some u)). record {
      apart = t.0;
      from = ⊎_elim
          (λ (s : (i ≡ seat) × (both ≡ u)). ⊎_elim
          (λ (mine : Contains v.roles role). inl (subst (λ k. Holds views k role) (sym s.0) (held seat v role at mine)))
          (λ (theirs : Contains w.roles role). inr (s.0, held other w role there theirs))
          (Contains-append_cases v.roles w.roles role (subst (λ rs. Contains rs role) roles (subst (λ (x : View). Contains x.roles role) (sym s.1) has))))
          (λ (s : (i ≢ seat) × (get_elem? views i ≡ some u)). inl (held i u role s.1 has))
          (at_set views seat i both u t.1);
    })
    (at_set (set views seat both) other i spent_view u e)
  where
    held : (k : ℕ) (x : View) (role : Role) → get_elem? views k ≡ some x → Contains x.roles role → Holds views k role
    held k x role at has = record { view = x; there = at; has = has }

merged_once : (views : List View) (seat other i j : ℕ) (role : Role) → HeldOnce views → Merged views seat other i role → Merged views seat other j role → i ≡ j
merged_once views seat other i j role once a b =
    ⊎_elim
    (λ (x : Holds views i role). ⊎_elim
    (λ (y : Holds views j role). held_by_one views i j role once x y)
    (λ (y : (j ≡ seat) × Holds views other role). absurd (a.apart (held_by_one views i other role once x y.1)))
    b.from)
    (λ (x : (i ≡ seat) × Holds views other role). ⊎_elim
    (λ (y : Holds views j role). absurd (b.apart (held_by_one views j other role once y x.1)))
    (λ (y : (j ≡ seat) × Holds views other role). x.0 ∙ sym y.0)
    b.from)
    a.from

-- a view that takes the roles of another
pub held_once_join : (views : List View) (seat other : ℕ) (v w both : View) → HeldOnce views → get_elem? views seat ≡ some v → get_elem? views other ≡ some w → both.roles ≡ v.roles ++ w.roles → HeldOnce (set (set views seat both) other spent_view)
held_once_join views seat other v w both once at there roles i j a b role ea eb ha hb =
    merged_once views seat other i j role once (merged views seat other v w both i a role at there roles ea ha) (merged views seat other v w both j b role at there roles eb hb)

-- one view has each role once
pub held_once_first : (v : View) → HeldOnce (v ∷ [])
held_once_first v i j a b role ea eb ha hb = first i a ea ∙ sym (first j b eb)
  where
    first : (k : ℕ) (u : View) → get_elem? (v ∷ []) k ≡ some u → k ≡ 0
    first zero u e = refl
    first (suc k) u e = absurd (some-ne-none u (sym e))
