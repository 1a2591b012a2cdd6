-- Every show that bytes are may be shown: each line keeps it so.
use Rattle.std.proofs.Common.{◌≡◌, ℕ, suc, ◌+◌, ◌<◌, ◌≤◌, Bool, true, false, not, ◌&&◌, ◌||◌, cond, List, [], ◌∷◌, ◌++◌, length, map, codes, bytes_eq, ℤ, pos, ◌-ℤ◌, unsigned_abs, Option, Some, None, Result, Ok, Err, ok_or, IfSome, IfOk, refl, sym, subst, arith, length-append}
use Rattle.std.specs.List.{All, list_any, position_or_len}
use Rattle.std.proofs.lemmas.Int.{ints}
use Rattle.std.proofs.lemmas.Bool.{ltb-true, false≢true}
use Rattle.std.proofs.lemmas.Bool.Decides.{nat_tests}
use Rattle.std.proofs.lemmas.List.{length-map}
use Rattle.std.proofs.lemmas.List.Elements.{All-nil, All-push}
use Rattle.lw_region.specs.Rectangle.{within}
use Rattle.lw_calls.specs.Plan.{IsPlan}
use Rattle.lw_calls.specs.Orders.{is_legal}
use Rattle.lw_grammar.specs.declared.reason.Reason.{Reason}
use Rattle.lw_grammar.specs.declared.reason.Reason.TheVariants.{UnknownWord, Misplaced, Form as FormReason, Missing}
use Rattle.lw_grammar.specs.declared.form.Form.TheVariants.{Ordered}
use Rattle.lw_grammar.specs.Demands.{◌>>=◌, demand}
use Rattle.lw_grammar.specs.Lines.{lines}
use Rattle.lw_grammar.specs.Tokens.{Token, NameToken, NumberToken, token_of}
use Rattle.lw_grammar.specs.Told.{place_among}
use Rattle.lw_grammar.specs.Script.{ScriptInput, reading_with, is_skipped, words_read, after_verb}
use Rattle.lw_grammar.specs.Reading.{outcome_of}
use Rattle.lw_grammar.proofs.ScriptOutcome.{outcome_spells}
use Rattle.lw_grammar.proofs.ScriptRunnable.{spelled_runnable}
use Rattle.lw_screens.specs.Display.{acted_on}
use Rattle.lw_screens.specs.declared.act.Act.{Act}
use Rattle.lw_display.specs.declared.reason.ShowReason.{ShowReason}
use Rattle.lw_display.specs.declared.reason.ShowReason.TheVariants.{Line as LineReason, BadOrder}
use Rattle.lw_display.specs.declared.verb.ShowVerb.{ShowVerb}
use Rattle.lw_display.specs.declared.verb.ShowVerb.TheVariants.{Display, Scene, Drag, ToFront, ToBack, InScenes}
use Rattle.lw_display.specs.Shows.{SceneInput, ShowInput, nothing_shown, scene_names}
use Rattle.lw_display.specs.ShowLines.{Deed, DraggedBy, PutFirst, PutLast, ShowLine, SizesLine, SceneLine, ActLine, sizes_line, scene_line, drag_line, put_line, show_line_by, act_of}
use Rattle.lw_display.specs.ShowRule.{OpenScene, Part, SizesAreDue, FirstSceneIsDue, ScenesAreDue, ActsAreDue, ScriptIsDue, ShowTold, nothing_told, belongs_in, show_verb_on, show_words_read, show_line_tested, show_line_of_words, show_line_read, told_with, on_line, bytes_of, counted_from, in_legal_order, script_ended, told_with_scene, told_in_scene, told_outside, told_by, show_told, show_ended, shown_by, IsShow}
use Rattle.lw_display.specs.ShowMeaning.{Passes}
use Rattle.lw_display.specs.ShowLaws.{IsSceneOf, IsSize, IsShowable}
use Rattle.lw_display.proofs.LinesPass.{line_passes}
use Rattle.lw_display.proofs.SceneAdded.{passes_all}

-- what holds below the line of the sizes
record IsBegun (v : ShowInput) : Type 0 where
  pub wide : IsSize v.width
  pub high : IsSize v.height
  pub few : length v.scenes ≤ 8
  pub scenes : All (IsSceneOf v.height) v.scenes

-- and in each part
abbrev IsSound : Part → ShowInput → Type 0
IsSound SizesAreDue v = v ≡ nothing_shown
IsSound FirstSceneIsDue v = IsBegun v × (v.acts ≡ [])
IsSound ScenesAreDue v = IsBegun v × (1 ≤ length v.scenes) × (v.acts ≡ [])
IsSound ActsAreDue v = IsShowable v
IsSound (ScriptIsDue s) v = IsBegun v × (length v.scenes < 8) × (s.top < v.height) × (v.acts ≡ [])

abbrev IsSoundTold : ShowTold → Type 0
IsSoundTold t = IsSound t.part t.show

showable_of : (v : ShowInput) → IsBegun v → 1 ≤ length v.scenes → v.acts ≡ [] → IsShowable v
showable_of v b some none =
    record {
      wide = b.wide;
      high = b.high;
      some = some;
      few = b.few;
      scenes = b.scenes;
      acts = subst (λ acts. All (λ act. acted_on act < length v.scenes) acts) (sym none) (All-nil (λ act. acted_on act < length v.scenes));
    }

-- In which parts such a line belongs.
abbrev is_at : Part → ShowLine → Bool
is_at part (SizesLine w h) = belongs_in part Display
is_at part (SceneLine name top) = belongs_in part Scene
is_at part (ActLine name deed) = belongs_in part Drag

abbrev is_said_by : ShowVerb → ShowLine → Type 0
is_said_by verb l = (part : Part) → belongs_in part verb ≡ true → is_at part l ≡ true

front_as_drag : is_said_by ToFront (ActLine [] PutFirst)
front_as_drag ScenesAreDue e = refl
front_as_drag ActsAreDue e = refl
front_as_drag SizesAreDue e = absurd (false≢true e)
front_as_drag FirstSceneIsDue e = absurd (false≢true e)
front_as_drag (ScriptIsDue s) e = absurd (false≢true e)

back_as_drag : is_said_by ToBack (ActLine [] PutLast)
back_as_drag ScenesAreDue e = refl
back_as_drag ActsAreDue e = refl
back_as_drag SizesAreDue e = absurd (false≢true e)
back_as_drag FirstSceneIsDue e = absurd (false≢true e)
back_as_drag (ScriptIsDue s) e = absurd (false≢true e)

sizes_said : (ts : List Token) → IfSome (sizes_line ts) (is_said_by Display)
sizes_said (NumberToken a w ∷ NumberToken b h ∷ []) = λ part e. e
sizes_said ts = tt

scene_said : (ts : List Token) → IfSome (scene_line ts) (is_said_by Scene)
scene_said (NameToken name ∷ NumberToken a top ∷ []) = λ part e. e
scene_said ts = tt

drag_said : (ts : List Token) → IfSome (drag_line ts) (is_said_by Drag)
drag_said (NameToken name ∷ NumberToken a dy ∷ []) = λ part e. e
drag_said ts = tt

front_said : (ts : List Token) → IfSome (put_line PutFirst ts) (is_said_by ToFront)
front_said (NameToken name ∷ []) = front_as_drag
front_said ts = tt

back_said : (ts : List Token) → IfSome (put_line PutLast ts) (is_said_by ToBack)
back_said (NameToken name ∷ []) = back_as_drag
back_said ts = tt

verb_said : (verb : ShowVerb) (ts : List Token) → IfSome (show_line_by verb ts) (is_said_by verb)
verb_said Display ts = sizes_said ts
verb_said Scene ts = scene_said ts
verb_said Drag ts = drag_said ts
verb_said ToFront ts = front_said ts
verb_said ToBack ts = back_said ts
verb_said InScenes ts = tt

words_at : (part : Part) (ws : List (List ℕ)) (l : ShowLine) → show_words_read part ws ≡ Ok l → is_at part l ≡ true
words_at part ws l e = at_verb (show_verb_on ws) e
  where
    ts : List Token
    ts = map token_of (after_verb ws)

    at_line : (o : Option ShowLine) → IfSome o (λ m. is_at part m ≡ true) → ok_or o FormReason ≡ Ok l → is_at part l ≡ true
    at_line (Some m) h d = let both : Ok m ≡ Ok l = d in let same : m ≡ l = cc in subst (λ (k : ShowLine). is_at part k ≡ true) same h
    at_line None h d = absurd (cc)

    said : (verb : ShowVerb) → belongs_in part verb ≡ true → (o : Option ShowLine) → IfSome o (is_said_by verb) → IfSome o (λ m. is_at part m ≡ true)
    said verb b (Some m) h = h part b
    said verb b None h = tt

    at_part : (verb : ShowVerb) (b : Bool) → belongs_in part verb ≡ b → (demand b Misplaced >>= (λ _. ok_or (show_line_by verb ts) FormReason)) ≡ Ok l → is_at part l ≡ true
    at_part verb true f d = at_line (show_line_by verb ts) (said verb f (show_line_by verb ts) (verb_said verb ts)) d
    at_part verb false f d = absurd (cc)

    at_verb : (o : Option ShowVerb) → (ok_or o UnknownWord >>= (λ verb. demand (belongs_in part verb) Misplaced >>= (λ _. ok_or (show_line_by verb ts) FormReason))) ≡ Ok l → is_at part l ≡ true
    at_verb (Some verb) d = at_part verb (belongs_in part verb) refl d
    at_verb None d = absurd (cc)

of_words_at : (t : ShowTold) (ws : List (List ℕ)) (m : ShowLine) → show_line_of_words t ws ≡ Ok m → is_at t.part m ≡ true
of_words_at t ws m e = go (show_words_read t.part ws) refl e
  where
    at_tests : (l : ShowLine) (r : Result (Unit {0}) Reason) → is_at t.part l ≡ true → (r >>= (λ _. Ok l)) ≡ Ok m → is_at t.part m ≡ true
    at_tests l (Ok u) h d = let both : Ok l ≡ Ok m = d in let same : l ≡ m = cc in subst (λ (k : ShowLine). is_at t.part k ≡ true) same h
    at_tests l (Err r) h d = absurd (cc)

    go : (r : Result ShowLine Reason) → show_words_read t.part ws ≡ r → (r >>= (λ l. show_line_tested t.show l >>= (λ _. Ok l))) ≡ Ok m → is_at t.part m ≡ true
    go (Ok l) f d = at_tests l (show_line_tested t.show l) (words_at t.part ws l f) d
    go (Err r) f d = absurd (cc)

line_at : (t : ShowTold) (bytes : List ℕ) (m : ShowLine) → show_line_read t bytes ≡ Ok m → is_at t.part m ≡ true
line_at t bytes m e = go (words_read bytes) e
  where
    go : (r : Result (List (List ℕ)) Reason) → (r >>= show_line_of_words t) ≡ Ok m → is_at t.part m ≡ true
    go (Ok ws) f = of_words_at t ws m f
    go (Err r) f = absurd (cc)

-- numbers in their ranges
size_fits : (z : ℤ) → within (pos 1) z (pos 2048) ≡ true → IsSize (unsigned_abs z)
unfolding within
size_fits z e = (grind (arith, ints, nat_tests), grind (arith, ints, nat_tests))

top_fits : (h : ℕ) (z : ℤ) → 1 ≤ h → within (pos 0) z (pos h -ℤ pos 1) ≡ true → unsigned_abs z < h
unfolding within
top_fits h z some e = grind (arith, ints, nat_tests)

both_true : (a b : Bool) → (a && b) ≡ true → (a ≡ true) × (b ≡ true)
both_true true b e = (refl, e)
both_true false b e = absurd (false≢true e)

not_false : (b : Bool) → not (not b) ≡ true → b ≡ true
not_false true e = refl
not_false false e = absurd (false≢true e)

-- a name that is among others has a place below their number
named_low : (p : List ℕ → Bool) (ns : List (List ℕ)) → list_any p ns ≡ true → position_or_len p ns < length ns
named_low p [] e = absurd (false≢true e)
named_low p (n ∷ ns) e = go (p n) (named_low p ns) e
  where
    go : (b : Bool) → (list_any p ns ≡ true → position_or_len p ns < length ns) → (b || list_any p ns) ≡ true → cond (not b) (1 + position_or_len p ns) 0 < suc (length ns)
    go true h d = omega arith
    go false h d = let low = h d in omega (arith, low)

acted : (deed : Deed) (k : ℕ) → acted_on (act_of deed k) ≡ k
acted (DraggedBy dy) k = refl
acted PutFirst k = refl
acted PutLast k = refl

act_added : (v : ShowInput) (name : List ℕ) (deed : Deed) → IsShowable v → Passes v (ActLine name deed) → IsShowable (record v { acts = v.acts ++ act_of deed (place_among (scene_names v) name) ∷ [] })
act_added v name deed s p =
    let P : Act → Type 0 = λ act. acted_on act < length v.scenes in
    let place = place_among (scene_names v) name in
    let there = not_false (list_any (bytes_eq name) (scene_names v)) (passes_all v (ActLine name deed) p).named in
    let low : place < length (scene_names v) = named_low (bytes_eq name) (scene_names v) there in
    let long : length (scene_names v) ≡ length v.scenes = length-map v.scenes (λ (s : SceneInput). s.name) in
    let below : acted_on (act_of deed place) < length v.scenes = subst (λ k. k < length v.scenes) (sym (acted deed place)) (omega (arith, low, long)) in
    record {
      wide = s.wide;
      high = s.high;
      some = s.some;
      few = s.few;
      scenes = s.scenes;
      acts = All-push P v.acts (act_of deed place) s.acts below;
    }

-- A line in no scene keeps it.
line_keeps : (n : ℕ) (part : Part) (v : ShowInput) (l : ShowLine) → IsSound part v → is_at part l ≡ true → Passes v l → IsSoundTold (told_with n l (record { part = part; show = v }))
line_keeps n SizesAreDue v (SizesLine w h) s e p =
    let parts = both_true (within (pos 1) w (pos 2048)) (within (pos 1) h (pos 2048)) (passes_all v (SizesLine w h) p).range in
    subst (λ (u : ShowInput). IsSound FirstSceneIsDue (record u { width = unsigned_abs w; height = unsigned_abs h })) (sym s)
    (record { wide = size_fits w parts.0; high = size_fits h parts.1; few = omega arith; scenes = All-nil (IsSceneOf (unsigned_abs h)) }, refl)
line_keeps n FirstSceneIsDue v (SceneLine name top) s e p =
    let all = passes_all v (SceneLine name top) p in
    (s.0, ltb-true _ 8 all.room, top_fits v.height top s.0.high.0 all.range, s.1)
line_keeps n ScenesAreDue v (SceneLine name top) s e p =
    let all = passes_all v (SceneLine name top) p in
    (s.0, ltb-true _ 8 all.room, top_fits v.height top s.0.high.0 all.range, s.2)
line_keeps n ScenesAreDue v (ActLine name deed) s e p = act_added v name deed (showable_of v s.0 s.1 s.2) p
line_keeps n ActsAreDue v (ActLine name deed) s e p = act_added v name deed s p
line_keeps n (ScriptIsDue o) v (SizesLine w h) s e p = absurd (false≢true e)
line_keeps n (ScriptIsDue o) v (SceneLine name top) s e p = absurd (false≢true e)
line_keeps n (ScriptIsDue o) v (ActLine name deed) s e p = absurd (false≢true e)
line_keeps n part v l s e p = absurd (false≢true e)

outside_keeps : (n : ℕ) (t : ShowTold) (line : List ℕ) → IsSoundTold t → IfOk (told_outside n t line) IsSoundTold
outside_keeps n t line s = go (is_skipped line)
  where
    at_read : (r : Result ShowLine Reason) → show_line_read t line ≡ r → IfOk (on_line n r >>= (λ l. Ok (told_with n l t))) IsSoundTold
    at_read (Ok l) e = line_keeps n t.part t.show l s (line_at t line l e) (line_passes t line l e)
    at_read (Err r) e = tt

    go : (b : Bool) → IfOk (cond b (Ok t) (on_line n (show_line_read t line) >>= (λ l. Ok (told_with n l t)))) IsSoundTold
    go true = s
    go false = at_read (show_line_read t line) refl

-- and so does one in a scene
scene_keeps : (n : ℕ) (s : OpenScene) (t : ShowTold) (line : List ℕ) → IsSound (ScriptIsDue s) t.show → IfOk (told_in_scene n s t line) IsSoundTold
scene_keeps n s t line h = go (bytes_eq line (codes "endscene"))
  where
    bytes : List ℕ
    bytes = bytes_of s.script

    added : (script : ScriptInput) → IsPlan script.plan → is_legal script.plan script.order ≡ true → IsSoundTold (told_with_scene s t script)
    added script plan legal =
        let scene : SceneInput = record { name = s.name; top = s.top; script = script } in
        let long : length (t.show.scenes ++ scene ∷ []) ≡ length t.show.scenes + 1 = length-append t.show.scenes (scene ∷ []) in
        let room = h.1 in (
          record {
            wide = h.0.wide;
            high = h.0.high;
            few = omega (arith, long, room);
            scenes = All-push (IsSceneOf t.show.height) t.show.scenes scene h.0.scenes (record { top = h.2; plan = plan; legal = legal });
          },
          omega (arith, long),
          h.3,
        )

    at_order : (script : ScriptInput) (b : Bool) → IsPlan script.plan → is_legal script.plan script.order ≡ b → IfOk {E = ℕ × ShowReason} (cond b (Ok script) (Err (n, BadOrder)) >>= (λ x. Ok (told_with_scene s t x))) IsSoundTold
    at_order script true plan e = added script plan e
    at_order script false plan e = tt

    at_script : (r : Result ScriptInput (ℕ × Reason)) → outcome_of (reading_with 0 Ordered) bytes ≡ r → IfOk ((counted_from s.above r >>= in_legal_order n) >>= (λ script. Ok (told_with_scene s t script))) IsSoundTold
    at_script (Ok script) e = at_order script (is_legal script.plan script.order) (spelled_runnable (reading_with 0 Ordered) bytes script (outcome_spells (reading_with 0 Ordered) bytes script e)).plan refl
    at_script (Err x) e = tt

    go : (b : Bool) → IfOk (cond b (script_ended s.above n bytes >>= (λ script. Ok (told_with_scene s t script))) (Ok (record t { part = ScriptIsDue (record s { script = s.script ++ line ∷ [] }) }))) IsSoundTold
    go true = at_script (outcome_of (reading_with 0 Ordered) bytes) refl
    go false = h

told_keeps : (n : ℕ) (part : Part) (v : ShowInput) (line : List ℕ) → IsSound part v → IfOk (told_by n part (record { part = part; show = v }) line) IsSoundTold
told_keeps n SizesAreDue v line s = outside_keeps n (record { part = SizesAreDue; show = v }) line s
told_keeps n FirstSceneIsDue v line s = outside_keeps n (record { part = FirstSceneIsDue; show = v }) line s
told_keeps n ScenesAreDue v line s = outside_keeps n (record { part = ScenesAreDue; show = v }) line s
told_keeps n ActsAreDue v line s = outside_keeps n (record { part = ActsAreDue; show = v }) line s
told_keeps n (ScriptIsDue o) v line s = scene_keeps n o (record { part = ScriptIsDue o; show = v }) line s

end_showable : (n : ℕ) (part : Part) (v u : ShowInput) → IsSound part v → show_ended n part v ≡ Ok u → IsShowable u
end_showable n SizesAreDue v u s e = absurd (cc)
end_showable n FirstSceneIsDue v u s e = absurd (cc)
end_showable n ScenesAreDue v u s e =
    let both : Ok v ≡ Ok u = e in
    let same : v ≡ u = cc in
    subst IsShowable same (showable_of v s.0 s.1 s.2)
end_showable n ActsAreDue v u s e =
    let both : Ok v ≡ Ok u = e in
    let same : v ≡ u = cc in
    subst IsShowable same s
end_showable n (ScriptIsDue o) v u s e = go (counted_from o.above (outcome_of (reading_with 0 Ordered) (bytes_of o.script))) e
  where
    go : (r : Result ScriptInput (ℕ × ShowReason)) → (r >>= (λ script. Err (n, LineReason Missing))) ≡ Ok u → IsShowable u
    go (Ok script) d = absurd (cc)
    go (Err x) d = absurd (cc)

all_showable : (n : ℕ) (t : ShowTold) (ls : List (List ℕ)) (u : ShowInput) → IsSoundTold t → shown_by n t ls ≡ Ok u → IsShowable u
all_showable n t [] u s e = end_showable n t.part t.show u s e
all_showable n t (line ∷ ls) u s e = go (show_told n t line) (told_keeps n t.part t.show line s) (λ told k d. all_showable (n + 1) told ls u k d) e
  where
    go : (r : Result ShowTold (ℕ × ShowReason)) → IfOk r IsSoundTold → ((told : ShowTold) → IsSoundTold told → shown_by (n + 1) told ls ≡ Ok u → IsShowable u) → (r >>= (λ told. shown_by (n + 1) told ls)) ≡ Ok u → IsShowable u
    go (Ok told) k next d = next told k d
    go (Err x) k next d = absurd (cc)

pub showable : (bytes : List ℕ) (v : ShowInput) → IsShow bytes v → IsShowable v
showable bytes v e = all_showable 1 nothing_told (lines bytes) v refl e
