-- The errors of replies, in the order of checking (the codes are those of MediaWiki's API:Errors and warnings and of the
-- modules' pages, as far as it has them; their texts are own).
use Rattle.std.specs.Prelude.{ℕ, List, [], ◌∷◌, codes}
use Rattle.serde_json.specs.Data.{string}
use Rattle.wk_page_rules.specs.Verdict.{Refusal, invalid_title, content_too_big, article_exists, missing_title, edit_conflict, wiki_full, journal_full}
use Rattle.wk_page_rules.specs.declared.Limit.{Limit}
use Rattle.wk_page_rules.specs.declared.Limit.TheVariants.{Pages, Revisions, Text}
use Rattle.wk_request_rules.specs.Requests.{RequestRefusal, bad_value, must_be_posted, bad_token, no_title, no_text, bad_integer}
use Rattle.wk_answer_rules.specs.Values.{ApiReply, whole, Entries, object_of, reply_beside}

-- each by its code
pub data ApiError : Type 0 where
  -- with the parameter that it is about
  badvalue : List ℕ → ApiError
  mustbeposted : ApiError
  badtoken : ApiError
  -- with the parameter that is missing
  notitle : List ℕ → ApiError
  notext : ApiError
  -- with the parameter that it is about
  badinteger : List ℕ → ApiError
  -- with the journal's length
  futurepoint : ℕ → ApiError
  invalidtitle : ApiError
  invalidcategory : ApiError
  contenttoobig : ApiError
  articleexists : ApiError
  missingtitle : ApiError
  -- with the page's current revision, 0 where it is missing
  editconflict : ℕ → ApiError
  wikifull : Limit → ApiError
  journalfull : ApiError
  nomemory : ApiError
  storefault : ApiError

-- a code, its text, and the keys that stand beside them
pub record ErrorRow : Type 0 where
  pub code : List ℕ
  pub info : List ℕ
  pub further : Entries

-- an error of the table
abbrev pub error_of : List ℕ → List ℕ → Entries → ErrorRow
error_of code info further = record { code = code; info = info; further = further }

abbrev pub parameter_entry : List ℕ → Entries
parameter_entry parameter = (codes "parameter", string parameter) ∷ []

abbrev pub limit_word : Limit → List ℕ
limit_word Pages = codes "pages"
limit_word Revisions = codes "revisions"
limit_word Text = codes "text"

abbrev pub error_row : ApiError → ErrorRow
error_row (badvalue parameter) = error_of (codes "badvalue") (codes "Unrecognized value.") (parameter_entry parameter)
error_row mustbeposted = error_of (codes "mustbeposted") (codes "This action must be posted.") []
error_row badtoken = error_of (codes "badtoken") (codes "Invalid token.") []
error_row (notitle parameter) = error_of (codes "notitle") (codes "The title must be set.") (parameter_entry parameter)
error_row notext = error_of (codes "notext") (codes "The text must be set.") []
error_row (badinteger parameter) = error_of (codes "badinteger") (codes "Invalid whole number.") (parameter_entry parameter)
error_row (futurepoint latest) =
    error_of (codes "futurepoint") (codes "That point is not reached yet.") ((codes "latest", whole latest) ∷ [])
error_row invalidtitle = error_of (codes "invalidtitle") (codes "Bad title.") []
error_row invalidcategory = error_of (codes "invalidcategory") (codes "The title is not in the Category namespace.") []
error_row contenttoobig = error_of (codes "contenttoobig") (codes "The text is longer than 2097152 bytes.") []
error_row articleexists = error_of (codes "articleexists") (codes "The page exists already.") []
error_row missingtitle = error_of (codes "missingtitle") (codes "The page does not exist.") []
error_row (editconflict current) =
    error_of (codes "editconflict") (codes "Edit conflict.") ((codes "current", whole current) ∷ [])
error_row (wikifull limit) =
    error_of (codes "wikifull") (codes "A limit of the wiki is reached.") ((codes "limit", string (limit_word limit)) ∷ [])
error_row journalfull = error_of (codes "journalfull") (codes "The journal is full.") []
error_row nomemory = error_of (codes "nomemory") (codes "Out of memory.") []
error_row storefault = error_of (codes "storefault") (codes "The store failed.") []

-- ---- as replies

-- what stands beside the point of an error's reply
abbrev pub row_entries : ErrorRow → Entries
row_entries error =
    (codes "error", object_of ((codes "code", string error.code) ∷ (codes "info", string error.info) ∷ error.further)) ∷ []

abbrev pub api_error : ApiError → ℕ → ApiReply
api_error error point = reply_beside (row_entries (error_row error)) point

-- ---- refusals as errors

abbrev pub request_error : RequestRefusal → ApiError
request_error (bad_value parameter) = badvalue parameter
request_error must_be_posted = mustbeposted
request_error bad_token = badtoken
request_error (no_title parameter) = notitle parameter
request_error no_text = notext
request_error (bad_integer parameter) = badinteger parameter

abbrev pub save_error : Refusal → ApiError
save_error invalid_title = invalidtitle
save_error content_too_big = contenttoobig
save_error article_exists = articleexists
save_error missing_title = missingtitle
save_error (edit_conflict current) = editconflict current
save_error (wiki_full limit) = wikifull limit
save_error journal_full = journalfull
