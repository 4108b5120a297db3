-- The replies to a script's lines, but for those of requests (own).
use Rattle.std.specs.Prelude.{ℕ, List, [], ◌∷◌, codes}
use Rattle.serde_json.specs.Data.{null, string}
use Rattle.wk_text_rules.specs.Titles.{PageTitle, shown}
use Rattle.wk_view_rules.specs.Worlds.{Read, mark}
use Rattle.wk_view_rules.specs.declared.Kind.{Kind}
use Rattle.wk_view_rules.specs.declared.Kind.TheVariants.{View, Include, Exists}
use Rattle.wk_wiki_rules.specs.States.{State}
use Rattle.wk_wiki_rules.specs.Revisions.{count_existing}
use Rattle.wk_wiki_rules.specs.Claims.{ClaimOutcome}
use Rattle.wk_wiki_rules.specs.Fans.{FanOutcome}
use Rattle.wk_wiki_rules.specs.Staleness.{StaleRead}
use Rattle.wk_answer_rules.specs.Values.{ApiReply, whole, Entries, object_of, reply_beside}
use Rattle.wk_answer_rules.specs.ApiErrors.{ErrorRow, error_of, row_entries}
use Rattle.wk_answer_rules.specs.Pages.{count_jobs}

abbrev pub kind_name : Kind → List ℕ
kind_name View = codes "view"
kind_name Include = codes "include"
kind_name Exists = codes "exists"

-- ---- errors of lines

pub data LineError : Type 0 where
  badline : LineError
  linetoolong : LineError
  notticket : LineError
  noread : LineError
  -- with what is to be read
  needsread : PageTitle → Kind → LineError

abbrev pub line_row : LineError → ErrorRow
line_row badline = error_of (codes "badline") (codes "Unknown line.") []
line_row linetoolong = error_of (codes "linetoolong") (codes "The line is longer than 8388608 bytes.") []
line_row notticket = error_of (codes "notticket") (codes "No such ticket.") []
line_row noread = error_of (codes "noread") (codes "Nothing is left to read.") []
line_row (needsread title kind) =
    error_of (codes "needsread") (codes "A read is missing.") ((codes "kind", string (kind_name kind)) ∷ (codes "title", string (shown title)) ∷ [])

abbrev pub line_error : LineError → ℕ → ApiReply
line_error error point = reply_beside (row_entries (line_row error)) point

-- ---- answers

-- a ticket and its page's title
abbrev pub claim_entries : ClaimOutcome → Entries
claim_entries claim =
    (codes "claim", object_of ((codes "ticket", whole claim.ticket) ∷ (codes "title", string (shown claim.title)) ∷ [])) ∷ []

-- nothing is to be done
abbrev pub nothing_entries : List ℕ → Entries
nothing_entries word = (word, null) ∷ []

abbrev pub read_entries : Read → Entries
read_entries read = (
  codes "read",
  object_of (
      (codes "kind", string (kind_name read.kind))
      ∷ (codes "mark", whole (mark read.answer))
      ∷ (codes "title", string (shown read.title))
      ∷ []),
) ∷ []

abbrev pub done_entries : Entries
done_entries = (codes "finish", string (codes "done")) ∷ []

abbrev pub stale_entries : StaleRead → Entries
stale_entries stale =
    (codes "finish", string (codes "stale"))
    ∷ (codes "kind", string (kind_name stale.kind))
    ∷ (codes "now", whole stale.now)
    ∷ (codes "read", whole stale.read)
    ∷ (codes "title", string (shown stale.title))
    ∷ []

abbrev pub giveback_entries : PageTitle → Entries
giveback_entries title = (codes "giveback", string (shown title)) ∷ []

abbrev pub fan_entries : FanOutcome → Entries
fan_entries fan = (
  codes "fan",
  object_of (
      (codes "queued", whole fan.queued) ∷ (codes "served", whole fan.served) ∷ (codes "title", string (shown fan.title)) ∷ []),
) ∷ []

-- the jobs of both kinds, and the pages that exist
abbrev pub restart_entries : State → Entries
restart_entries state =
    (codes "restart", object_of ((codes "jobs", whole (count_jobs state)) ∷ (codes "pages", whole (count_existing state.history)) ∷ [])) ∷ []
