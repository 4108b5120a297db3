-- The lines of a feed, each a compact JSON array: what a line says, and how it is written (own; the tables and their columns are those
-- of MediaWiki's Manual:Database layout, as a store of this profile keeps them).
use Rattle.std.specs.Prelude.{ℕ, Bool, ◌-◌, ◌==◌, List, [], ◌∷◌, ◌++◌, codes, flat_map, length, map, take, Option, Some, None, if◌then◌else◌}
use Rattle.std.specs.List.{slice_split}
use Rattle.std.specs.Str.Lines.{strip_carriage_return}
use Rattle.serde_json.specs.Data.{Data, null, string}
use Rattle.serde_json.specs.Written.{compact_text}
use Rattle.wk_table_rules.specs.Rows.{PageColumns, RevisionColumns, LinkColumns, CategoryColumns, RedirectColumns, JobColumns}
use Rattle.wk_answer_rules.specs.Values.{array_of, integer, whole}

-- a row of a store's tables, by its table
pub data TableRow : Type 0 where
  of_page : PageColumns → TableRow
  of_revision : RevisionColumns → TableRow
  of_pagelinks : LinkColumns → TableRow
  of_templatelinks : LinkColumns → TableRow
  of_existlinks : LinkColumns → TableRow
  of_categorylinks : CategoryColumns → TableRow
  of_redirect : RedirectColumns → TableRow
  of_job : JobColumns → TableRow
  -- the row `version`, with its value as it is written
  of_site : List ℕ → TableRow

-- what a line says
pub data FeedLine : Type 0 where
  row : TableRow → FeedLine
  -- the rows are all told, and the events begin
  start : FeedLine
  -- a shown title, the text that is kept, or nothing for a deletion, and the moment in seconds since 1970
  save : List ℕ → Option (List ℕ) → ℕ → FeedLine
  claim : FeedLine
  -- with a ticket
  done : ℕ → FeedLine
  back : ℕ → FeedLine
  fan : FeedLine

-- ---- how a line is written

-- whether a revision is a deletion, as its column has it
abbrev pub flag : Bool → Data
flag gone = whole (if gone then 1 else 0)

abbrev pub link_values : LinkColumns → List Data
link_values l = whole l.from ∷ integer l.from_namespace ∷ integer l.target.ns ∷ string l.target.key ∷ []

-- a row: the name of its table, and its columns in their order
abbrev pub row_values : TableRow → List Data
row_values (of_page p) =
    string (codes "page") ∷ whole p.page_id ∷ integer p.page_title.ns ∷ string p.page_title.key ∷ whole p.page_latest ∷ whole p.page_len ∷ []
row_values (of_revision r) =
    string (codes "revision") ∷ whole r.rev_id ∷ whole r.rev_page ∷ whole r.rev_parent_id ∷ whole r.rev_timestamp ∷ whole r.rev_len
    ∷ flag r.rev_gone ∷ string r.rev_text ∷ []
row_values (of_pagelinks l) = string (codes "pagelinks") ∷ link_values l
row_values (of_templatelinks l) = string (codes "templatelinks") ∷ link_values l
row_values (of_existlinks l) = string (codes "existlinks") ∷ link_values l
row_values (of_categorylinks c) =
    string (codes "categorylinks") ∷ whole c.cl_from ∷ string c.cl_to ∷ string c.cl_sortkey ∷ string c.cl_sortkey_prefix ∷ []
row_values (of_redirect r) = string (codes "redirect") ∷ whole r.rd_from ∷ integer r.rd_title.ns ∷ string r.rd_title.key ∷ []
row_values (of_job j) =
    string (codes "job") ∷ whole j.job_id ∷ string j.job_cmd ∷ integer j.job_title.ns ∷ string j.job_title.key ∷ string j.job_params ∷ []
row_values (of_site version) = string (codes "site") ∷ string (codes "version") ∷ string version ∷ []

abbrev pub text_value : Option (List ℕ) → Data
text_value None = null
text_value (Some text) = string text

abbrev pub line_values : FeedLine → List Data
line_values (row told) = row_values told
line_values start = string (codes "start") ∷ []
line_values (save title text moment) = string (codes "save") ∷ string title ∷ text_value text ∷ whole moment ∷ []
line_values claim = string (codes "claim") ∷ []
line_values (done ticket) = string (codes "done") ∷ whole ticket ∷ []
line_values (back ticket) = string (codes "back") ∷ whole ticket ∷ []
line_values fan = string (codes "fan") ∷ []

-- the bytes of a line, without the newline behind it
abbrev pub line_text : FeedLine → List ℕ
line_text line = compact_text (array_of (line_values line))

-- the bytes of lines, each ended by a newline
abbrev pub bytes_of_lines : List (List ℕ) → List ℕ
bytes_of_lines lines = flat_map (λ line. line ++ 10 ∷ []) lines

-- The lines in bytes: what stands before each newline, without the one carriage return at its end. What stands behind the last newline
-- is no line.
abbrev pub lines_in : List ℕ → List (List ℕ)
lines_in bytes = let parts = slice_split (λ b. b == 10) bytes in map strip_carriage_return (take (length parts - 1) parts)
