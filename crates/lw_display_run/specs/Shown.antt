-- What is due of bytes that are to be shown.
use Rattle.std.specs.Prelude.{◌≡◌, ℕ, List}
use Rattle.lw_display.specs.declared.reason.ShowReason.{ShowReason}
use Rattle.lw_display.specs.Shows.{ShowInput}
use Rattle.lw_display.specs.ShowRule.{IsShow, IsBadShow}
use Rattle.lw_display.specs.ShowTexts.{show_text}

-- the bytes are a show, and this is the text of its display after all acts
pub record IsShownAs (bytes text : List ℕ) : Type 0 where
  pub show : ShowInput
  pub is : IsShow bytes show
  pub said : text ≡ show_text show

-- the bytes are no show: this is the first bad line, and its first reason
pub record IsNoShow (bytes : List ℕ) (line : ℕ) (reason : ShowReason) : Type 0 where
  pub bad : IsBadShow bytes line reason
