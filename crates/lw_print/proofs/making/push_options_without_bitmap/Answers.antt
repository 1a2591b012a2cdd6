use Rattle.std.proofs.Common.{◌++◌, ℕ, List, codes, not, option_map, pos}
use Rattle.std.proofs.lemmas.Result.{on_ok_weaker}
use Rattle.lw_canonical.specs.Spelling.{flag_words, hook_words, ask_words}
use Rattle.lw_print.proofs.Joined.{more_behind}
use Rattle.lw_print.proofs.making.push_options_without_bitmap.Goals as goal

pub returns : goal.returns
returns c =
    let make = c.args.make.now in
    let back : List (List ℕ) = flag_words (codes "backdrop") make.backdrop in
    let bare : List (List ℕ) = flag_words (codes "borderless") (not c.args.framed) in
    let calm : List (List ℕ) = flag_words (codes "nocare") c.args.nocare in
    let hook : List (List ℕ) = hook_words (option_map pos make.hook) in
    on_ok_weaker c.push_asks.result
    (more_behind (back ++ bare ++ calm ++ hook) (ask_words c.args.asks) c.args.out.now.items _ _
    (more_behind (back ++ bare ++ calm) hook _ _ _
    (more_behind (back ++ bare) calm _ _ _
    (more_behind back bare _ _ _ c.in_ok-push_backdrop.ensures c.in_ok-push_flag.ensures)
    c.in_ok-push_flag-2.ensures)
    c.in_ok-push_hook.ensures))
    c.push_asks.ensures
