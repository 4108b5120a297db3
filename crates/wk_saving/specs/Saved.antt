-- What came of a request that may save (own).
use Rattle.std.specs.Prelude.{◌≡◌, ℕ, length, Option, IsSome}
use Rattle.serde_json.specs.Data.{Data}
use Rattle.wk_base.specs.Faults.{Rose}
use Rattle.wk_table_rules.specs.Rows.{StoreTables}
use Rattle.wk_wiki_rules.specs.SaveOutcomes.{SaveOutcome}
use Rattle.wk_core.specs.Seen.{WikiSeen}
use Rattle.wk_core.specs.Steps.{HasMadeAtMost, HasMadeNothing}
use Rattle.wk_answer_rules.specs.ApiErrors.{api_error, storefault}
use Rattle.wk_answer_rules.specs.Saves.{Answered, delete_entries, edit_entries}
use Rattle.wk_answer_rules.specs.Values.{Entries}
use Rattle.wk_saving.specs.declared.saved_replies.SaveKind.{SaveKind}
use Rattle.wk_saving.specs.declared.saved_replies.SaveKind.TheVariants.{Deletion, Edit}

-- what is told of what came of a save of this kind
abbrev pub told_by : SaveKind → SaveOutcome → Entries
told_by Edit = edit_entries
told_by Deletion = delete_entries

-- A request is answered as the rules have it: the event that it makes has happened, if it makes one, and the count of faults is
-- as it was. Or the store failed where the request makes an event: the count of faults rose, and nothing happened.
pub data IsActed {K : Type 0} (told : K → Option StoreTables) (faults : K → ℕ) (old new : WikiSeen K) (answered : Answered) (value : Data) : Type 0 where
  by_rule : value ≡ answered.reply.value → HasMadeAtMost told old new answered.event
      → faults new.keeper ≡ faults old.keeper → IsActed told faults old new answered value
  by_fault : IsSome answered.event → value ≡ (api_error storefault (length old.journal)).value → Rose (faults old.keeper) (faults new.keeper)
      → HasMadeNothing told old new → IsActed told faults old new answered value
