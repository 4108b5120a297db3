-- Members of an object with further ones.
use Rattle.std.specs.Prelude.{ℕ, List, codes, fold}
use Rattle.std.specs.Borrow.{Bor}
use Rattle.serde_json.specs.Data.{Data, Members, boolean, no_members, object, put, string}
use Rattle.wk_text_rules.specs.Titles.{PageTitle, shown}
use Rattle.wk_answer_rules.specs.Values.{Entries, integer, whole}
use Rattle.wk_replies.specs.declared.members.Plain.{Plain}
use Rattle.wk_replies.specs.declared.members.Plain.TheVariants.{Flag, Namespace, Number, Text}

-- the members with these, put one after the other
abbrev pub with_entries : Members → Entries → Members
with_entries members entries = fold (λ all entry. put entry.0 entry.1 all) members entries

-- what a plain value is in a reply
abbrev pub plain_data : Plain → Data
plain_data (Flag flag) = boolean flag
plain_data (Number number) = whole number
plain_data (Namespace number) = integer number
plain_data (Text text) = string text.now

-- the members with the rows of a table, put one after the other
abbrev pub with_rows : Members → List (Bor (List ℕ) × Plain) → Members
with_rows members rows = fold (λ all row. put row.0.now (plain_data row.1) all) members rows

-- the object of the rows of a table and of a title's shown form
abbrev pub titled : PageTitle → List (Bor (List ℕ) × Plain) → Data
titled title rows = object (put (codes "title") (string (shown title)) (with_rows no_members rows))
