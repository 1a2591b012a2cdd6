-- Other tasks keep away from what a group holds.
use Rattle.std.proofs.Common.{◌≡◌, ℕ, ◌<◌, ◌==◌, Bool, true, false, not, ◌||◌, length, drop, map, List, [], ◌∷◌, ◌++◌, refl, sym, ap, subst, ◌∙◌, append_assoc, append-nil, eq-eqb}
use Rattle.std.specs.Prelude.{All, IsTrue}
use Rattle.std.specs.List.{range_with_len}
use Rattle.std.proofs.Math.Seq.{drop-append_seam}
use Rattle.std.proofs.lemmas.List.Elements.{All-nil, All-cons, All-head, All-tail, All-append, All-contains, Contains-append_left, Contains-append_right, Contains-push}
use Rattle.lw_calls.specs.declared.call.Call.{Call}
use Rattle.lw_calls.specs.declared.entry.Entry.{Entry}
use Rattle.lw_calls.specs.declared.group.Hold.{Hold}
use Rattle.lw_calls.specs.declared.group.Hold.TheVariants.{Slot as OneSlot, All as AllLayers}
use Rattle.lw_calls.specs.declared.sizes.Sizes.{Sizes}
use Rattle.lw_calls.specs.declared.touch.Role.{Role}
use Rattle.lw_calls.specs.declared.touch.Role.TheVariants.{Task, Slot, Info}
use Rattle.lw_calls.specs.Entries.{count_of}
use Rattle.lw_calls.specs.Limits.{call_fits}
use Rattle.lw_calls.specs.Orders.{meets, has_some}
use Rattle.lw_calls.specs.declared.touch.CallClass.{CallClass}
use Rattle.lw_calls.specs.declared.touch.CallClass.TheVariants.{OnRegisters, OnInfo, OnLayer, OnLayers, OnAll}
use Rattle.lw_calls.specs.Touches.{class_of, slots_in, has_slot, is_on_info, touch_of, touches_role}
use Rattle.lw_machine.specs.Desk.{Desk}
use Rattle.lw_order.specs.Numbered.{CallsFit}
use Rattle.lw_order.specs.Roles.{LeavesAlone, Quiet}
use Rattle.lw_order.proofs.RoleLaws.{all_roles_has_slot}
use Rattle.lw_engine_trait.proofs.ClassLaws.{slot_fits, pair_fits}
use Rattle.lw_locks.specs.declared.answer.Answer.{Answer}
use Rattle.lw_locks.specs.Groups.{keeps_away, OthersKeepAway}
use Rattle.lw_locks.specs.Promised.{Ran, held_roles}

-- a call that fits, and is on none of all slots nor on LayerInfo, is on no slot
pub no_slot : (s : Sizes) (call : Call) (k : CallClass) → class_of call ≡ k → IsTrue (call_fits s call) → is_on_info k ≡ false → ((n : ℕ) → n < s.slots → has_slot (slots_in k) n ≡ false) → has_some (slots_in k) ≡ false
no_slot s call OnRegisters is fits info none = refl
no_slot s call OnInfo is fits info none = refl
no_slot s call (OnLayer a) is fits info none = absurd (cc (sym (eq-eqb a a refl) ∙ none a (slot_fits s call a is fits)))
no_slot s call (OnLayers a b) is fits info none =
    absurd (cc (ap (λ t. t || (b == a)) (sym (eq-eqb a a refl)) ∙ none a (pair_fits s call a b is fits).0))
no_slot s call OnAll is fits info none = absurd (cc info)

module _ (s : Sizes) (hold : Hold) (task : ℕ) where
  -- whoever leaves the held roles alone touches nothing that is held
  alone : (h : Hold) (e : Entry) → LeavesAlone (Task task ∷ held_roles s.slots h) e → IsTrue (call_fits s e.call) → meets h (touch_of e.task e.call) ≡ false
  alone (OneSlot slot) e leaves fits =
      All-contains (λ role. touches_role (touch_of e.task e.call) role ≡ false) (Task task ∷ Slot slot ∷ []) (Slot slot) leaves (Contains-push (Task task ∷ []) (Slot slot))
  alone AllLayers e leaves fits =
      let P : Role → Type 0 = λ role. touches_role (touch_of e.task e.call) role ≡ false in
      let slots = map (λ n. Slot n) (range_with_len 0 s.slots) in
      let info : is_on_info (class_of e.call) ≡ false = All-contains P (Task task ∷ Info ∷ slots) Info leaves (Contains-append_left (Task task ∷ Info ∷ []) slots Info (Contains-push (Task task ∷ []) Info)) in
      let none : (n : ℕ) → n < s.slots → has_slot (slots_in (class_of e.call)) n ≡ false = λ n below. All-contains P (Task task ∷ Info ∷ slots) (Slot n) leaves (Contains-append_right (Task task ∷ []) (Info ∷ slots) (Slot n) (all_roles_has_slot s.slots 0 n below)) in
      ap (λ b. b || has_some (slots_in (class_of e.call))) info ∙ no_slot s e.call (class_of e.call) refl fits info none

  abbrev P : Entry → Type 0
  P e = IsTrue (keeps_away hold task e)

  away : (mine met : Bool) → met ≡ false → IsTrue (mine || not met)
  away true met is = refl
  away false met is = ap not is

  all_away : (es : List Entry) → Quiet (Task task ∷ held_roles s.slots hold) es → CallsFit s es → All P es
  all_away [] quiet fits = All-nil P
  all_away (e ∷ es) quiet fits =
      let L : Entry → Type 0 = LeavesAlone (Task task ∷ held_roles s.slots hold) in
      let F : Entry → Type 0 = λ x. IsTrue (call_fits s x.call) in
      All-cons P e es (away (e.task == task) (meets hold (touch_of e.task e.call)) (alone hold e (All-head L e es quiet) (All-head F e es fits))) (all_away es (All-tail L e es quiet) (All-tail F e es fits))

  fits_front : (front back : List Entry) → CallsFit s (front ++ back) → CallsFit s front
  fits_front [] back fits = All-nil (λ (x : Entry). IsTrue (call_fits s x.call))
  fits_front (e ∷ es) back fits =
      let F : Entry → Type 0 = λ x. IsTrue (call_fits s x.call) in
      All-cons F e es (All-head F e (es ++ back) fits) (fits_front es back (All-tail F e (es ++ back) fits))

  fits_back : (front back : List Entry) → CallsFit s (front ++ back) → CallsFit s back
  fits_back [] back fits = fits
  fits_back (e ∷ es) back fits = fits_back es back (All-tail (λ (x : Entry). IsTrue (call_fits s x.call)) e (es ++ back) fits)

  ran_keeps : (desk : Desk) (old new : List Entry) (calls : List Call) (answers : List Answer) → Ran desk (Task task ∷ held_roles s.slots hold) task old new calls answers → CallsFit s new → (rest : List Entry) × (new ≡ old ++ rest) × All P rest
  ran_keeps desk old new [] [] ran fits = ([], ran ∙ sym (append-nil old), All-nil P)
  ran_keeps desk old new [] (a ∷ rest) ran fits = absurd ran
  ran_keeps desk old new (c ∷ cs) [] ran fits = absurd ran
  ran_keeps desk old new (c ∷ cs) (a ∷ answers) ran fits =
      let added = ran.1.added in
      let between = added.between in
      let last : Entry = record { task = task; seq = count_of task (old ++ between); call = c } in
      let next = ran_keeps desk ran.0 new cs answers ran.2 fits in
      let later = next.0 in
      let whole : new ≡ old ++ (between ++ last ∷ later) =
      next.1 ∙ (ap (λ h. h ++ later) added.history ∙ (append_assoc (old ++ between) (last ∷ []) later ∙ append_assoc old between (last ∷ later))) in
      let fit : CallsFit s between = fits_front between (last ∷ later) (fits_back old (between ++ last ∷ later) (subst (CallsFit s) whole fits)) in
      let own : P last = ap (λ b. b || not (meets hold (touch_of task c))) (eq-eqb task task refl) in
      (between ++ last ∷ later, whole, All-append P between (last ∷ later) (all_away between added.quiet fit) (All-cons P last later own next.2))

pub others_keep_away : OthersKeepAway
others_keep_away desk hold task old new calls had has group fits =
    let kept = ran_keeps desk.sizes hold task desk group.start new group.grown.made group.grown.done group.grown.ran fits in
    subst (All (λ e. IsTrue (keeps_away hold task e))) (sym (ap (drop (length group.start)) kept.1 ∙ drop-append_seam group.start kept.0)) kept.2
