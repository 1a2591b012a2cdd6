-- Whatever acts are done, the screens that the scripts leave fit the display that shows them.
use Rattle.std.proofs.Common.{◌≡◌, ℕ, zero, suc, ◌<◌, ◌≤◌, List, [], ◌∷◌, length, map, set, refl, sym, ap, subst, ◌∙◌, arith}
use Rattle.std.specs.List.{All}
use Rattle.std.proofs.lemmas.List.{length-set, length-map}
use Rattle.std.proofs.lemmas.List.Elements.{All-map, All-weaker}
use Rattle.lw_planes.specs.Bitmap.{Bitmap}
use Rattle.lw_calls.specs.Entries.{entries}
use Rattle.lw_calls.proofs.LimitLaws.{screen_at_most}
use Rattle.lw_machine.specs.Finals.{opening_desk}
use Rattle.lw_machine.specs.History.{machine}
use Rattle.lw_machine.specs.Screen.{screen}
use Rattle.lw_engine_trait.proofs.Histories.{machine_sizes}
use Rattle.lw_screens.specs.Display.{Display, IsHigh, acted_on, screen_of, dragged, with_top, after, placed, after_all}
use Rattle.lw_screens.specs.Composed.{bitmap_of, HavePlanes}
use Rattle.lw_screens.specs.Text.{display_text}
use Rattle.lw_screens.specs.declared.act.Act.{Act}
use Rattle.lw_screens.specs.declared.act.Act.TheVariants.{Drag, ToFront, ToBack}
use Rattle.lw_screens.specs.declared.screen.Screen.{Screen}
use Rattle.lw_display.specs.Shows.{SceneInput, ShowInput, scene_names}
use Rattle.lw_display.specs.ShowLaws.{IsSceneOf, IsShowable}
use Rattle.lw_display.specs.ShowTexts.{screen_shown, display_opened, show_text}

-- a display with as many rows as another one, and as many screens, each with as many rows
pub record IsAsHigh (d e : Display) : Type 0 where
  pub rows : e.height ≡ d.height
  pub many : length e.screens ≡ length d.screens
  pub each : (k : ℕ) → (screen_of e.screens k).height ≡ (screen_of d.screens k).height

same : (d : Display) → IsAsHigh d d
same d = record { rows = refl; many = refl; each = λ k. refl }

-- a screen with another top is as high as before
moved : (ss : List Screen) (j k top : ℕ) → (screen_of (set ss j (with_top (screen_of ss j) top)) k).height ≡ (screen_of ss k).height
moved [] j k top = refl
moved (s ∷ ss) zero zero top = refl
moved (s ∷ ss) zero (suc k) top = refl
moved (s ∷ ss) (suc j) zero top = refl
moved (s ∷ ss) (suc j) (suc k) top = moved ss j k top

pub after_act : (act : Act) (d : Display) → IsAsHigh d (after act d)
after_act (Drag j dy) d =
    let s = screen_of d.screens j in
    let top : ℕ = dragged d.height s.top dy in
    record { rows = refl; many = length-set d.screens j (with_top s top); each = λ k. moved d.screens j k top }
after_act (ToFront j) d = record { rows = refl; many = refl; each = λ k. refl }
after_act (ToBack j) d = record { rows = refl; many = refl; each = λ k. refl }

pub after_acts : (acts : List Act) (d : Display) → IsAsHigh d (after_all acts d)
after_acts [] d = same d
after_acts (act ∷ acts) d =
    let first = after_act act d in
    let rest = after_acts acts (after act d) in
    record {
      rows = rest.rows ∙ first.rows;
      many = rest.many ∙ first.many;
      each = λ k. rest.each k ∙ first.each k;
    }

-- a run leaves a screen as high as the plan says
screen_high : (s : SceneInput) → (screen_shown s).height ≡ s.script.plan.sizes.height
unfolding screen
screen_high s =
    let start = opening_desk s.script.plan [] in
    ap (λ sizes. sizes.height) (machine_sizes start (entries s.script.plan [] s.script.order))

-- the screens of scenes as they are opened
abbrev tops_of : List SceneInput → List ℕ
tops_of ss = map (λ (s : SceneInput). s.top) ss

abbrev heights_of : List SceneInput → List ℕ
heights_of ss = map (λ (s : SceneInput). s.script.plan.sizes.height) ss

opened_many : (ss : List SceneInput) → length (map screen_shown ss) ≡ length (placed (tops_of ss) (heights_of ss))
opened_many [] = refl
opened_many (s ∷ ss) = ap (λ n. suc n) (opened_many ss)

opened_high : (ss : List SceneInput) (k : ℕ) → k < length (placed (tops_of ss) (heights_of ss))
    → (bitmap_of (map screen_shown ss) k).height ≡ (screen_of (placed (tops_of ss) (heights_of ss)) k).height
opened_high [] k there = absurd (omega arith)
opened_high (s ∷ ss) zero there = screen_high s
opened_high (s ∷ ss) (suc k) there = opened_high ss k (omega arith)

-- Whatever acts are done, there are the screens that the scripts leave, each as high as its screen on the display.
pub have_planes : (v : ShowInput) → HavePlanes (after_all v.acts (display_opened v)) (map screen_shown v.scenes)
have_planes v =
    let kept = after_acts v.acts (display_opened v) in
    record {
      each = opened_many v.scenes ∙ sym kept.many;
      heights = λ k there. opened_high v.scenes k (let many = kept.many in omega arith) ∙ sym (kept.each k);
    }

-- and as many names
pub opened_names : (v : ShowInput) → length (map (λ (s : SceneInput). s.name) v.scenes) ≡ length (after_all v.acts (display_opened v)).screens
opened_names v =
    let kept = after_acts v.acts (display_opened v) in
    length-map v.scenes (λ (s : SceneInput). s.name) ∙ (sym (length-map v.scenes screen_shown) ∙ (opened_many v.scenes ∙ sym kept.many))

pub opened_rows : (v : ShowInput) → (after_all v.acts (display_opened v)).height ≡ v.height
opened_rows v = (after_acts v.acts (display_opened v)).rows

-- What the text is written of: the display after all acts, and the names and screens of the scenes.
pub planes_fit : (v : ShowInput) (d : Display) (planes : List Bitmap) → d ≡ after_all v.acts (display_opened v) → planes ≡ map screen_shown v.scenes
    → HavePlanes d planes
planes_fit v d planes is same = subst (λ e. HavePlanes e planes) (sym is) (subst (HavePlanes (after_all v.acts (display_opened v))) (sym same) (have_planes v))

pub names_fit : (v : ShowInput) (d : Display) (names : List (List ℕ)) → d ≡ after_all v.acts (display_opened v) → names ≡ scene_names v
    → length names ≡ length d.screens
names_fit v d names is same = ap length same ∙ (opened_names v ∙ sym (ap (λ (e : Display). length e.screens) is))

pub rows_fit : (v : ShowInput) (d : Display) → IsShowable v → d ≡ after_all v.acts (display_opened v) → d.height ≤ 2048
rows_fit v d ok is =
    let rows : d.height ≡ v.height = ap (λ (e : Display). e.height) is ∙ opened_rows v in
    let most = ok.high.1 in
    omega arith

pub text_is : (v : ShowInput) (d : Display) (names : List (List ℕ)) (planes : List Bitmap) (text : List ℕ) → d ≡ after_all v.acts (display_opened v)
    → names ≡ scene_names v → planes ≡ map screen_shown v.scenes → text ≡ display_text v.width names d planes → text ≡ show_text v
unfolding show_text
text_is v d names planes text is named shown said =
    said ∙ (ap (λ ns. display_text v.width ns d planes) named
    ∙ (ap (λ e. display_text v.width (scene_names v) e planes) is
    ∙ ap (display_text v.width (scene_names v) (after_all v.acts (display_opened v))) shown))

-- acts on the screens of a show are on those of its display as it was opened
pub acts_fit : (v : ShowInput) (d : Display) (acts : List Act) → IsShowable v → d ≡ display_opened v → acts ≡ v.acts
    → All (λ act. acted_on act < length d.screens) acts
acts_fit v d acts ok is same =
    let many : length v.scenes ≡ length d.screens = sym (length-map v.scenes screen_shown) ∙ (opened_many v.scenes ∙ sym (ap (λ (e : Display). length e.screens) is)) in
    subst (All (λ act. acted_on act < length d.screens)) (sym same) (subst (λ n. All (λ act. acted_on act < n) v.acts) many ok.acts)

-- the display is opened with what the scenes say
pub tops_low : (v : ShowInput) (tops : List ℕ) → IsShowable v → tops ≡ tops_of v.scenes → All (λ top. top < v.height) tops
tops_low v tops ok is =
    subst (All (λ top. top < v.height)) (sym is)
    (All-map (λ top. top < v.height) (λ (s : SceneInput). s.top) v.scenes
    (All-weaker (IsSceneOf v.height) (λ s. s.top < v.height) (λ s h. h.top) v.scenes ok.scenes))

high : (height : ℕ) (s : SceneInput) → IsSceneOf height s → IsHigh s.script.plan.sizes.height
high height s h =
    let limits = h.plan.limits in
    let some = limits.some_rows in
    let rows = limits.rows in
    let most = screen_at_most s.script.plan.sizes.version in
    (some, omega arith)

pub heights_high : (v : ShowInput) (heights : List ℕ) → IsShowable v → heights ≡ heights_of v.scenes → All IsHigh heights
heights_high v heights ok is =
    subst (All IsHigh) (sym is)
    (All-map IsHigh (λ (s : SceneInput). s.script.plan.sizes.height) v.scenes
    (All-weaker (IsSceneOf v.height) (λ s. IsHigh s.script.plan.sizes.height) (high v.height) v.scenes ok.scenes))

-- the display after all acts, as the code makes it
pub acted : (v : ShowInput) (d e : Display) (acts : List Act) → e ≡ after_all acts d → d ≡ display_opened v → acts ≡ v.acts
    → e ≡ after_all v.acts (display_opened v)
acted v d e acts is opened same = is ∙ (ap (λ done. after_all done d) same ∙ ap (after_all v.acts) opened)
