-- The targets of redirects.
use Rattle.std.specs.Prelude.{ℕ, List, length, drop, Option, Some, None, option_and_then, is_some, if◌then◌else◌}
use Rattle.std.specs.List.{take_while}
use Rattle.wk_text_rules.specs.Targets.{is_target_byte}
use Rattle.wk_tree_rules.specs.Redirects.{redirect_start, target_end}

-- the target behind the opening brackets, where it is one
abbrev pub closed_target : List ℕ → Option (List ℕ)
closed_target inside =
    let target = take_while is_target_byte inside in
    if is_some (target_end (drop (length target) inside)) then Some target else None

-- the target of the redirect that a text begins with
abbrev pub target_in : List ℕ → Option (List ℕ)
target_in text = option_and_then closed_target (redirect_start text)
