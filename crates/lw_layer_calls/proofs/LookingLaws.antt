-- What a look at LayerInfo answers.
use Rattle.std.proofs.Common.{◌≡◌, ℕ, ℤ, Option, ◌∙◌, sym, ap}
use Rattle.lw_calls.specs.declared.call.Call.TheVariants.{Which}
use Rattle.lw_calls.specs.declared.reply.Reply.{Reply}
use Rattle.lw_machine.specs.Desk.{Desk}
use Rattle.lw_machine.specs.Parts.{info_part}
use Rattle.lw_machine.specs.Step.{found, reply}
use Rattle.lw_stack.specs.Stack.{Stack, top_in, StandsForInfo}
use Rattle.lw_stack.proofs.ListLaws.{list_law}

-- the layer that is found at a place, which the code tells by equal numbers
pub which_reply : (v : Stack) (r : Reply) (top : Option ℕ) (x y told_x told_y : ℤ) → told_x ≡ x → told_y ≡ y
    → top ≡ top_in v told_x told_y → r ≡ found top
    → (d : Desk) (task : ℕ) → d.sizes ≡ v.sizes → StandsForInfo v (info_part d) → r ≡ reply d task (Which x y)
unfolding reply
which_reply v r top x y told_x told_y same_x same_y finds answers =
    λ d task same stands.
    answers ∙
    (ap found finds ∙
    (ap (λ z. found (top_in v z told_y)) same_x ∙
    (ap (λ z. found (top_in v x z)) same_y ∙ ap found (sym ((list_law v d same stands).top x y)))))
