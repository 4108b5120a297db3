-- What a line of a feed says that is read (own). A line is of no use unless it is byte for byte the line of what it says.
use Rattle.std.specs.Prelude.{ℕ, ℤ, Bool, true, false, ◌==◌, List, [], ◌∷◌, bytes_eq, codes, find, Option, Some, None, option_and_then, if◌then◌else◌}
use Rattle.serde_json.specs.Data.{Data, null, boolean, number, string, array, object, Items, no_items, item}
use Rattle.serde_json.specs.Find.{as_array, as_i64, as_number, as_str, as_u64}
use Rattle.serde_json.specs.Read.{read}
use Rattle.wk_text_rules.specs.Titles.{PageTitle}
use Rattle.wk_table_rules.specs.Rows.{LinkColumns}
use Rattle.wk_feed_rules.specs.Lines.{TableRow, of_page, of_revision, of_pagelinks, of_templatelinks, of_existlinks, of_categorylinks, of_redirect, of_job, of_site, FeedLine, row, start, save, claim, done, back, fan, line_text}

-- ---- the values of a line, from the left: what is read of the first goes on to the others

abbrev pub with_text : {Said : Type 0} → (List ℕ → List Data → Option Said) → List Data → Option Said
with_text rest [] = None
with_text rest (value ∷ values) = option_and_then (λ text. rest text values) (as_str value)

-- a number of 64 bits
abbrev pub with_number : {Said : Type 0} → (ℕ → List Data → Option Said) → List Data → Option Said
with_number rest [] = None
with_number rest (value ∷ values) = option_and_then (λ n. rest n values) (option_and_then as_u64 (as_number value))

-- a number of 64 bits with a sign
abbrev pub with_integer : {Said : Type 0} → (ℤ → List Data → Option Said) → List Data → Option Said
with_integer rest [] = None
with_integer rest (value ∷ values) = option_and_then (λ n. rest n values) (option_and_then as_i64 (as_number value))

-- the number of a namespace, and a key
abbrev pub with_title : {Said : Type 0} → (PageTitle → List Data → Option Said) → List Data → Option Said
with_title rest values = with_integer (λ ns. with_text (λ key. rest (record { ns = ns; key = key }))) values

-- 0 or 1
abbrev pub flag_of : ℕ → Option Bool
flag_of n = if n == 0 then Some false else if n == 1 then Some true else None

abbrev pub with_flag : {Said : Type 0} → (Bool → List Data → Option Said) → List Data → Option Said
with_flag rest values = with_number (λ n others. option_and_then (λ flag. rest flag others) (flag_of n)) values

-- a text, or null
abbrev pub optional_text : Data → Option (Option (List ℕ))
optional_text null = Some None
optional_text (boolean b) = None
optional_text (number n) = None
optional_text (string text) = Some (Some text)
optional_text (array items) = None
optional_text (object found) = None

abbrev pub with_optional_text : {Said : Type 0} → (Option (List ℕ) → List Data → Option Said) → List Data → Option Said
with_optional_text rest [] = None
with_optional_text rest (value ∷ values) = option_and_then (λ text. rest text values) (optional_text value)

-- no value more
abbrev pub ending : {Said : Type 0} → Said → List Data → Option Said
ending said [] = Some said
ending said (value ∷ values) = None

-- ---- the forms of lines, behind their first value

abbrev pub page_said : List Data → Option FeedLine
page_said values =
    with_number (λ id. with_title (λ title. with_number (λ latest. with_number (λ len.
    ending (row (of_page (record { page_id = id; page_title = title; page_latest = latest; page_len = len })))))))
    values

abbrev pub revision_said : List Data → Option FeedLine
revision_said values =
    with_number (λ id. with_number (λ page. with_number (λ parent. with_number (λ moment. with_number (λ len. with_flag (λ gone. with_text (λ text.
    ending (row (of_revision (record {
      rev_id = id;
      rev_page = page;
      rev_parent_id = parent;
      rev_timestamp = moment;
      rev_len = len;
      rev_gone = gone;
      rev_text = text;
    }))))))))))
    values

-- a row of the link table of this kind
abbrev pub link_said : (LinkColumns → TableRow) → List Data → Option FeedLine
link_said kind values =
    with_number (λ from. with_integer (λ namespace. with_title (λ title.
    ending (row (kind (record { from = from; from_namespace = namespace; target = title }))))))
    values

abbrev pub category_said : List Data → Option FeedLine
category_said values =
    with_number (λ from. with_text (λ to. with_text (λ sortkey. with_text (λ prefix.
    ending (row (of_categorylinks (record { cl_from = from; cl_to = to; cl_sortkey = sortkey; cl_sortkey_prefix = prefix })))))))
    values

abbrev pub redirect_said : List Data → Option FeedLine
redirect_said values = with_number (λ from. with_title (λ title. ending (row (of_redirect (record { rd_from = from; rd_title = title }))))) values

abbrev pub job_said : List Data → Option FeedLine
job_said values =
    with_number (λ id. with_text (λ cmd. with_title (λ title. with_text (λ params.
    ending (row (of_job (record { job_id = id; job_cmd = cmd; job_title = title; job_params = params })))))))
    values

-- the one row that the table site has is `version`
abbrev pub site_said : List Data → Option FeedLine
site_said values =
    with_text (λ key others. if bytes_eq key (codes "version") then with_text (λ version. ending (row (of_site version))) others else None) values

abbrev pub save_said : List Data → Option FeedLine
save_said values = with_text (λ title. with_optional_text (λ text. with_number (λ moment. ending (save title text moment)))) values

-- each form, by the first value
abbrev pub forms : List (List ℕ × (List Data → Option FeedLine))
forms =
    (codes "page", page_said)
    ∷ (codes "revision", revision_said)
    ∷ (codes "pagelinks", link_said of_pagelinks)
    ∷ (codes "templatelinks", link_said of_templatelinks)
    ∷ (codes "existlinks", link_said of_existlinks)
    ∷ (codes "categorylinks", category_said)
    ∷ (codes "redirect", redirect_said)
    ∷ (codes "job", job_said)
    ∷ (codes "site", site_said)
    ∷ (codes "start", ending start)
    ∷ (codes "save", save_said)
    ∷ (codes "claim", ending claim)
    ∷ (codes "done", with_number (λ ticket. ending (done ticket)))
    ∷ (codes "back", with_number (λ ticket. ending (back ticket)))
    ∷ (codes "fan", ending fan)
    ∷ []

abbrev pub values_say : List Data → Option FeedLine
values_say values =
    with_text (λ name others. option_and_then (λ form. form.1 others) (find (λ form. bytes_eq form.0 name) forms)) values

-- ---- a line

abbrev pub list_of : Items → List Data
list_of no_items = []
list_of (item value items) = value ∷ list_of items

-- What the bytes say, where they are the line of it, byte for byte.
unfoldable pub said : List ℕ → Option FeedLine
said bytes =
    option_and_then
    (λ line. if bytes_eq (line_text line) bytes then Some line else None)
    (option_and_then (λ items. values_say (list_of items)) (option_and_then as_array (read bytes)))
