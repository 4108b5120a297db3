-- A text round its first colon.
use Rattle.std.specs.Prelude.{◌≡◌, ℕ, true, List}
use Rattle.std.specs.List.{before_first, after_first, list_any}
use Rattle.wk_text_rules.specs.Titles.{is_colon}

pub record IsSplitAtColon (cs before after : List ℕ) : Type 0 where
  pub has_colon : list_any is_colon cs ≡ true
  pub before_is : before ≡ before_first is_colon cs
  pub after_is : after ≡ after_first is_colon cs
