-- What a check does (own).
use Rattle.std.specs.Prelude.{◌≡◌, ◌≢◌, ℕ, List, [], Option}
use Rattle.wk_wiki_rules.specs.States.{State}
use Rattle.wk_tool_rules.specs.Checks.{differing}
use Rattle.wk_commands.specs.Written.{HasWritten}
use Rattle.wk_commands.specs.declared.ends.CommandEnd.{CommandEnd}
use Rattle.wk_commands.specs.declared.ends.CommandEnd.TheVariants.{Done, Differs, DoorFault, Full, StoreFault}

-- The pages of a state were compared, and this text was written. It ends as `Done` where no page differs, as `Differs`
-- where one does, and else because a write failed or memory ran out.
pub record IsCompared (state : State) (text : List ℕ) (before after : Option (List ℕ)) (end : CommandEnd) : Type 0 where
  pub written : HasWritten end text before after
  pub same : end ≡ Done → differing state ≡ []
  pub differs : end ≡ Differs → differing state ≢ []
  pub not_full : end ≢ Full
  pub no_fault : end ≢ StoreFault
  pub no_door : end ≢ DoorFault
