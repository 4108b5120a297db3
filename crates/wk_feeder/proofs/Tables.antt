-- The bytes of lines that stand behind one another.
use Rattle.std.proofs.Common.{◌≡◌, ℕ, List, [], ◌∷◌, ◌++◌, map, append_assoc, sym, ap, ◌∙◌}
use Rattle.std.specs.Fmt.{decimal}
use Rattle.std.proofs.lemmas.List.{map-append}
use Rattle.std.proofs.lemmas.Grind.{flat_map-append}
use Rattle.wk_table_rules.specs.Rows.{StoreTables}
use Rattle.wk_wiki_rules.specs.States.{State}
use Rattle.wk_wiki_rules.specs.Tables.{tables_of}
use Rattle.wk_feed_rules.specs.Feeds.{rows_of_tables, start_lines}
use Rattle.wk_feed_rules.specs.Lines.{FeedLine, TableRow, bytes_of_lines, line_text, of_categorylinks, of_existlinks, of_job, of_page, of_pagelinks, of_redirect, of_revision, of_site, of_templatelinks, row, start}
use Rattle.wk_feeder.specs.Bytes.{feed_bytes}

pub bytes-append : (one two : List FeedLine) → feed_bytes (one ++ two) ≡ feed_bytes one ++ feed_bytes two
bytes-append one two = ap bytes_of_lines (map-append line_text one two) ∙ flat_map-append (λ line. line ++ 10 ∷ []) (map line_text one) (map line_text two)

pub rows_more : {R : Type 0} (told : R → TableRow) (before : List R) (entry : R) → feed_bytes (map row (map told (before ++ entry ∷ []))) ≡ feed_bytes (map row (map told before)) ++ feed_bytes (row (told entry) ∷ [])
rows_more told before entry =
    ap (λ rows. feed_bytes (map row rows)) (map-append told before (entry ∷ []))
    ∙ ap feed_bytes (map-append row (map told before) (told entry ∷ []))
    ∙ bytes-append (map row (map told before)) (row (told entry) ∷ [])

two : (one : List TableRow) (rest : List TableRow) → feed_bytes (map row (one ++ rest)) ≡ feed_bytes (map row one) ++ feed_bytes (map row rest)
two one rest = ap feed_bytes (map-append row one rest) ∙ bytes-append (map row one) (map row rest)

behind : (old : List ℕ) (one : List TableRow) (rest : List TableRow) → (old ++ feed_bytes (map row one)) ++ feed_bytes (map row rest) ≡ old ++ feed_bytes (map row (one ++ rest))
behind old one rest = append_assoc old (feed_bytes (map row one)) (feed_bytes (map row rest)) ∙ ap (λ l. old ++ l) (sym (two one rest))

pub all_tables : (old : List ℕ) (t : StoreTables) →
    (((((((((old ++ feed_bytes (map row (map of_page t.pages))) ++ feed_bytes (map row (map of_revision t.revisions)))
    ++ feed_bytes (map row (map of_pagelinks t.pagelinks))) ++ feed_bytes (map row (map of_templatelinks t.templatelinks)))
    ++ feed_bytes (map row (map of_existlinks t.existlinks))) ++ feed_bytes (map row (map of_categorylinks t.categorylinks)))
    ++ feed_bytes (map row (map of_redirect t.redirects))) ++ feed_bytes (map row (map of_job t.jobs))) ++ feed_bytes (row (of_site (decimal t.version)) ∷ []))
    ≡ old ++ feed_bytes (map row (rows_of_tables t))
all_tables old t =
    let b : List ℕ → List TableRow → List ℕ = λ before rows. before ++ feed_bytes (map row rows) in
    let p1 = b old (map of_page t.pages) in
    let p2 = b p1 (map of_revision t.revisions) in
    let p3 = b p2 (map of_pagelinks t.pagelinks) in
    let p4 = b p3 (map of_templatelinks t.templatelinks) in
    let p5 = b p4 (map of_existlinks t.existlinks) in
    let p6 = b p5 (map of_categorylinks t.categorylinks) in
    let p7 = b p6 (map of_redirect t.redirects) in
    let r8 = of_site (decimal t.version) ∷ [] in
    let r7 = map of_job t.jobs ++ r8 in
    let r6 = map of_redirect t.redirects ++ r7 in
    let r5 = map of_categorylinks t.categorylinks ++ r6 in
    let r4 = map of_existlinks t.existlinks ++ r5 in
    let r3 = map of_templatelinks t.templatelinks ++ r4 in
    let r2 = map of_pagelinks t.pagelinks ++ r3 in
    let r1 = map of_revision t.revisions ++ r2 in
    behind p7 (map of_job t.jobs) r8
    ∙ behind p6 (map of_redirect t.redirects) r7
    ∙ behind p5 (map of_categorylinks t.categorylinks) r6
    ∙ behind p4 (map of_existlinks t.existlinks) r5
    ∙ behind p3 (map of_templatelinks t.templatelinks) r4
    ∙ behind p2 (map of_pagelinks t.pagelinks) r3
    ∙ behind p1 (map of_revision t.revisions) r2
    ∙ behind old (map of_page t.pages) r1

-- the lines of a start: those of the rows of its tables, and then its own
pub start-told : (before lines : List ℕ) (t : StoreTables) (state : State) → before ≡ [] → t ≡ tables_of state
    → lines ≡ (before ++ feed_bytes (map row (rows_of_tables t))) ++ feed_bytes (start ∷ []) → lines ≡ feed_bytes (start_lines state)
start-told before lines t state none tables told =
    told
    ∙ ap (λ l. (l ++ feed_bytes (map row (rows_of_tables t))) ++ feed_bytes (start ∷ [])) none
    ∙ sym (bytes-append (map row (rows_of_tables t)) (start ∷ []))
    ∙ ap (λ (u : StoreTables). feed_bytes (map row (rows_of_tables u) ++ start ∷ [])) tables
