-- `state` reads the pointer through the `&mut`, and lends the value behind it; the handle follows it.
use mathlib.Core.Path.{◌≡◌, refl, sym}
use Prim.Native.Nat.{ℕ}
use mathlib.Core.List.{List, [], ◌∷◌}
use Rattle.std.specs.Prelude.{Option, is_some, true}
use seplogic.Ra.Ura.{Ura}
use base.Fraction.{full_share}
use mir.Syntax.{Body, named, seq, assign, return, place, copy, rv_opd}
use mir.Raw.{raw as bare}
use mir.Val.{Val, vptr}
use base.Logic.{SProp, ent, sep, id⊢}
use base.Fml.{Lft, GName, Share, Fml, ftrue, fsep, flft}
use prog.Memory.{Memory}
use prog.Routine.{Routine}
use prog.Wp.{Env, WpFn, Tables}
use types.Logic.{Logic, sem}
use contract.Monad.{Fun}
use contract.Running.{tables, tables_of}
use sound.WpLaws.{WpFn-mono}
use types.Kit.{‵, raw, ◌⊛◌, some, later, at_ret, ◌$◌, ◌∵◌, !, qed, move, keep, drop, use1, join, split, split3, group, pick, rewrite, fsplit, fsplit3, fjoin, fpack, suffices, frame, await, done}
use types.Part.{whole, sub, look_in}
use types.Run.{stop, fld, addr, load, of_opd, first, blocks, exec, returns, enter}
use types.ByLocal.{alloc_all, pass_all, free_all, look_at, get, through, sets, sets_last, env}
use denote.RattleType.{RattleType, owns}
use denote.Exit.{no}
use denote.Memory.{part_at, part_of, raw_all, mem, cell_at}
use denote.Param.{param}
use denote.Param.Laws.{Laws}
use denote.RawPtr.{block_ptr}
use denote.Ref.{MutRef, mut_vals, mut_Tells}
use denote.Signature.{plain, mut_ref_to}
use denote.Steps.{heard, nothing, opens}
use denote.Triple.Clauses.{Clauses}
use denote.Triple.Spec.{triple_of}
use denote.Triple.Table.{entered}
use denote.Triple.Walked.{says, Stays, stay_dropped, walk_of, ends_at, walked, walk_Meets, Goes-spent_ref}
use denote.Follow.{follows, Part, lends_Part}
use Rattle.std.proofs.alloc.Calls.{token}
use Rattle.std_alloc.proofs.BoxSteps.Form.{D, τ, word, handle}
use Rattle.std_alloc.proofs.BoxSteps.Steps.{box_out, box_in}
use Rattle.lw_c_desk.proofs.AsBox.{E, owned, some_of}
use Rattle.lw_c_desk.specs.Lent.{with_state}
use Rattle.lw_c_desk.specs.contracts.held.Held.{the_row as B}
use Rattle.lw_c_desk.specs.contracts.held.Held.state as F
use Rattle.lw_c_desk.specs.contracts.held.Held.state.Key.{name as #self}
use Rattle.lw_c_desk.proofs.held.Held.state.Statement as stated
use Rattle.lw_c_desk.proofs.held.Held.state.Code as code

abbrev R : RattleType
R = E.row

abbrev stayed : Stays (F.ended).signature.params (F.ended).kept
stayed = (stay_dropped (mut_ref_to (0 ∷ []) tt (plain (λ _. B))) no, tt)

abbrev rest : Body
rest = seq (assign (place 0 []) (rv_opd (copy (place 2 [])))) return

as_param : (S : RattleType) → Laws S → (x : S.Denot) (b o : ℕ) → part_at S full_share x b o ≡ part_at (param 0 S) full_share x b o
as_param S L x b o j = part_of (raw_all (L.one j)) S.own_val full_share x b o

module _ {M : Type 1} {𝓤 : Ura M} (𝓛 : Logic 𝓤) (at_mem : Memory → SProp 𝓤) (run : Routine
    → Fun 𝓤) (𝓣 : Tables 𝓤 𝓛.H) (κ : Lft) (q : Share) (rb ro : ℕ) (γ : GName) (h : B.Denot) where
  open 𝓛 use {H}

  abbrev held : Clauses 𝓤 F.ended
  held = F.clauses 𝓛 at_mem run

  abbrev bound : (walk_of 𝓛 F.ended stayed held).Ghost
  bound = (((κ, tt), (q, tt), tt, (record { ref_ptr = (rb, ro); ghost_name = γ; now = h }, tt), (vptr rb ro ∷ [], tt)), tt)

  abbrev Post : Val → SProp 𝓤
  Post = (walk_of 𝓛 F.ended stayed held).post bound

  module _ (b o : ℕ) (hv : Val) where
    -- all of the handle but the state
    abbrev Rest : Fml
    Rest = fsep (fsep (token E.al h.alloc (bare (τ E)) (block_ptr b o)) (handle E h.alloc hv))
        (cell_at full_share B.mir (word E hv b o ∷ []) rb ro)

    back : h.at ≡ block_ptr b o → (w : R.Denot)
        → ent 𝓤 (sep 𝓤 (sem 𝓛 ((mem R).own_at w b o)) (sem 𝓛 Rest)) (sem 𝓛 ((mem B).own_at (with_state h w) rb ro))
    unfolding part_of
    back at_b w =
        let d : D E = record { ptr = h.at; alloc = h.alloc; value = w } in
        qed 𝓛 (‵ (part_at R full_share w b o) ∷ ‵ Rest ∷ []) ∵ rewrite ! 0 (λ (P : Fml). ‵ P) (as_param R E.laws w b o) refl $
        move ! (1 ∷ []) $ fsplit ! $ fsplit ! $ move ! (3 ∷ []) $
        box_in E ! d b o w at_b refl $ move ! (1 ∷ 0 ∷ []) $ fjoin ! $
        fpack ! (List Val) (λ us. fsep (cell_at full_share B.mir us rb ro) (B.own_val (with_state h w) us))
        (word E hv b o ∷ []) $ done !

  walk : ent 𝓤 ((walk_of 𝓛 F.ended stayed held).pre bound) (WpFn 𝓤 H 𝓣.C 𝓣.Λ code.function (vptr rb ro ∷ []) Post)
  walk =
      qed 𝓛 (((‵ (flft κ q) ⊛ ‵ ftrue) ⊛ ‵ (owns
      (MutRef (named 0) κ B ∷ []) (record { ref_ptr = (rb, ro); ghost_name = γ; now = h }, tt) (vptr rb ro ∷ [], tt))) ∷
      raw ((held (κ, tt) (record { ref_ptr = (rb, ro); ghost_name = γ; now = h }, tt)).requires tt) ∷ []) ∵
      move ! (1 ∷ []) $ heard ! (is_some h.state ≡ true) (λ full. let has = some_of h.state full in
      let s = has.0 in let v : D E = record { ptr = h.at; alloc = h.alloc; value = s } in
      enter ! 𝓣.C 𝓣.Λ code.function (vptr rb ro ∷ []) _ $
      alloc_all ! (λ l. pass_all ! refl ((tt, tt), tt) $
      let En : Env 𝓤 H = env code.function.locals l in
      split ! $ split ! $ move ! (2 ∷ []) $ fsplit ! $ fsplit3 ! $ drop ! $ move ! (0 ∷ 1 ∷ 3 ∷ []) $
      opens ! tt B {h = h} rb ro (λ vs. move ! (1 ∷ []) $
      rewrite ! 0 (λ (it : Option E.row.Denot). ‵ (owned h vs it)) has.1 refl $
      box_out E ! v vs (λ b o hv at_b ws fa. move ! (1 ∷ 2 ∷ []) $ fjoin ! $ move ! (1 ∷ []) $
      rewrite ! 2 (λ (us : List Val). ‵ (cell_at full_share B.mir us rb ro)) ws refl $
      -- [the state; the token with the handle's memory; the handle's words; the open borrow; obs; auth]
      first ! $ blocks ! $
      sets ! (of_opd ! (load ! (through ! refl (fld ! refl (stop !))) (look_in ! 2 (sub ! 0 refl (whole !))))) refl (tt, tt) $
      sets ! (of_opd ! (get ! refl)) refl (tt, tt) $
      sets_last ! (addr ! (through ! refl (stop !))) refl (tt, tt) $
      exec ! 𝓣.C 𝓣.Λ En rest (at_ret En Post) $
      sets ! (of_opd ! (get ! refl)) refl (tt, tt) $
      rewrite ! 0 (λ (P : Fml). ‵ P) (sym (as_param R E.laws s b o)) refl $
      move ! (1 ∷ 2 ∷ []) $ fjoin ! $ move ! (2 ∷ 3 ∷ 4 ∷ 1 ∷ 0 ∷ []) $ group ! 5 $
      use1 𝓛 (later (some (λ (γ' : GName). raw (Part 𝓛 B R (with_state h) (named 0) κ q rb ro b o γ (sem 𝓛 (Rest b o hv))
      (back b o hv at_b) s γ'))))
      (lends_Part 𝓛 B R (with_state h) (named 0) κ q rb ro b o γ (sem 𝓛 (Rest b o hv)) (back b o hv at_b) (B.coded.code h)
      (B.coded.code h) s) $ await ! tt $ pick ! (λ γ'.
      use1 𝓛 (‵ ((MutRef (named 0) κ R).own_val (record { ref_ptr = (b, o); ghost_name = γ'; now = s })
      (vptr b o ∷ [])) ⊛ ‵ (flft κ q) ⊛ ‵ (follows B R γ γ' (with_state h))) (id⊢ 𝓤 _) $ split3 ! $
      returns ! (look_at ! 0 refl) $ free_all ! refl $ keep ! (0 ∷ 1 ∷ 2 ∷ []) $
      suffices ! _ (ends_at 𝓛 F.ended stayed held bound (vptr b o) (record {
        ref_ptr = (b, o);
        ghost_name = γ';
        now = s;
      }) (tt, tt) (tt, tt)) $
      nothing ! $ nothing ! $ fjoin ! $ join ! $ nothing ! $ move ! (2 ∷ 0 ∷ []) $ join ! $ join ! $ frame ! $ says ! has.1 $
      done !)))))

pub state_spec : {M : Type 1} → stated.statement M
unfolding tables_of
state_spec 𝓤 𝓛 𝓜 𝓡 wired =
    let 𝓣 : Tables 𝓤 𝓛.H = tables_of 𝓤 𝓛.H 𝓜 (tables 𝓤 𝓛.H 𝓜 𝓡 𝓡.env) in
    let c = F.clauses 𝓛 𝓜.mem 𝓡.returns in
    entered 𝓤 𝓛.H (triple_of 𝓛 F.signature (F.spec 𝓛 𝓜.mem 𝓡.returns)) 𝓣.C 𝓣.Λ #self code.function (code.unfolded 𝓤 𝓛.H 𝓜 𝓡 wired)
    (walk_Meets 𝓛 F.ended stayed (
      Goes-spent_ref 𝓛 1 (0 ∷ []) tt (plain (λ _. B)),
      tt,
    ) c (WpFn 𝓤 𝓛.H 𝓣.C 𝓣.Λ code.function) (WpFn-mono 𝓤 𝓛.H 𝓛.laws 𝓣 code.function)
    (walked 𝓛 F.ended stayed c (WpFn 𝓤 𝓛.H 𝓣.C 𝓣.Λ code.function) (λ κs. (mut_vals, tt)) (λ κs. (mut_Tells (named 0) κs.0 B, tt))
    (λ κs qs bounds a g are. walk 𝓛 𝓜.mem 𝓡.returns 𝓣 κs.0 qs.0 a.0.ref_ptr.0 a.0.ref_ptr.1 a.0.ghost_name a.0.now)))
