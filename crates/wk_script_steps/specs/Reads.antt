-- What comes of a read for a ticket's draft (own).
use Rattle.std.specs.Prelude.{◌≡◌, ℕ, List, Result, Ok, Err}
use Rattle.serde_json.specs.Data.{Data}
use Rattle.serde_json.specs.View.{view}
use Rattle.serde_json.specs.declared.value.Value.{Value}
use Rattle.wk_memory.specs.declared.Memory.{Memory}
use Rattle.wk_text_rules.specs.Titles.{PageTitle}
use Rattle.wk_view_rules.specs.Plans.{done, need}
use Rattle.wk_view_rules.specs.Views.{Expanded}
use Rattle.wk_view_rules.specs.Worlds.{Read}
use Rattle.wk_view_rules.specs.declared.Kind.{Kind}
use Rattle.wk_wiki_rules.specs.States.{State}
use Rattle.wk_answer_rules.specs.Values.{reply_beside}
use Rattle.wk_script_rules.specs.Replies.{line_error, noread, read_entries}
use Rattle.wk_script_rules.specs.Steps.{present_read}
use Rattle.wk_script_rules.specs.WikiScripts.{TicketDraft, drafted}
use Rattle.wk_script_steps.specs.Drafts.{longer}

-- the draft needs nothing, or what it needs was read from the present world
pub data IsRead (state : State) (point : ℕ) (old new : TicketDraft) (value : Data) : Type 0 where
  nothing_left : {expanded : Expanded} {reads : List Read} →
      drafted old ≡ done expanded reads → new ≡ old → value ≡ (line_error noread point).value → IsRead state point old new value
  one_more : {title : PageTitle} {kind : Kind} {reads : List Read} →
      drafted old ≡ need title kind reads → new ≡ longer old (present_read state title kind)
      → value ≡ (reply_beside (read_entries (present_read state title kind)) point).value → IsRead state point old new value

-- the same, or memory was wanting
abbrev pub ReadsNext : State → ℕ → TicketDraft → TicketDraft → Result Value Memory → Type 0
ReadsNext state point old new (Ok v) = IsRead state point old new (view v)
ReadsNext state point old new (Err memory) = new ≡ old
