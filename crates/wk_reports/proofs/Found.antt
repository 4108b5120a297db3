-- What is found page by page.
use Rattle.std.proofs.Common.{◌≡◌, ℕ, zero, suc, ◌+◌, ◌≤◌, ◌<◌, ◌^◌, Bool, true, false, not, ◌&&◌, ◌||◌, List, [], ◌∷◌, ◌++◌, length, map, take, Some, refl, sym, ap, ◌∙◌, subst, arith}
use Rattle.std.specs.List.{filter_map, flat_map, list_any}
use Rattle.std.specs.Map.{lookup}
use Rattle.std.specs.Option.{option_to_list, unwrap_or}
use Rattle.std.specs.Prelude.{filter, slice_get}
use Rattle.std.proofs.lemmas.List.{length-take-le, take_all}
use Rattle.std.proofs.lemmas.List.Folds.{list_any-append}
use Rattle.std.proofs.lemmas.List.Sums.{fold-append}
use Rattle.wk_text_rules.specs.Titles.{PageTitle, title_eq}
use Rattle.wk_page_rules.specs.PageRows.{PageRows}
use Rattle.wk_view_rules.specs.Worlds.{World}
use Rattle.wk_wiki_rules.specs.States.{State, stored_at, world_of}
use Rattle.wk_wiki_laws.specs.Kept.{IsKept}
use Rattle.wk_wiki_laws.proofs.KeptStates.{few-pages}
use Rattle.wk_report_rules.specs.declared.Report.{Report}
use Rattle.wk_report_rules.specs.Pages.{stored_pages}
use Rattle.wk_report_rules.specs.Reports.{Line, TitledRows, double_redirect, is_named_elsewhere, pages_with, titles_with, in_order, report_lines, reported, uncounted}
use Rattle.wk_report_laws.specs.Tally.{tallied, tallied_all}
use Rattle.wk_report_laws.proofs.Tallies.{InOrder, entry, small-tally, tally-pages}
use Rattle.wk_report_laws.proofs.Walks.{filter-all, in_order-take, named-next, stored-in_order, stored-length, stored-there, walk-entries, walk-filter, walk-filter_map, walk-next, walk-whole}
use Rattle.wk_report_laws.proofs.Walks.{lines_if as line_of_page}
use Rattle.wk_reports.specs.Counted.{counted_lines, entry_line, is_listed, lines_if, listed_lines, titles_in}
use Rattle.wk_reports.specs.Titled.{IsPageTitled}
use Rattle.wk_reports.specs.declared.counted.Counted.{Counted}
use Rattle.wk_reports.specs.declared.counted.Counted.TheVariants.{Links, Templates}

-- ---- pages by their places

pub record IsPlace (state : State) (place : ℕ) : Type 0 where
  pub few : place + 1 < 2 ^ 32
  pub page : place + 1 ≤ length state.history.pages
  pub stored : place + 1 ≤ length state.stored

pub place-within : (state : State) (place : ℕ) → IsKept state → place < length (stored_pages state) → IsPlace state place
place-within state place kept within =
    let whole = stored-length state in
    let few = few-pages state.history kept.history in
    let stored = kept.formed.stored in
    record { few = omega (arith, whole, few, within); page = omega (arith, whole, within); stored = omega (arith, whole, stored, within) }

pub page-titled : (state : State) (place : ℕ) (title : PageTitle) (rows : PageRows) → IsPageTitled state (place + 1) title → rows ≡ stored_at state (place + 1)
    → slice_get (stored_pages state) place ≡ Some (let page : TitledRows = record { title = title; rows = rows } in page)
page-titled state place title rows titled is =
    stored-there state place titled.page titled.there ∙ λ i. Some (let page : TitledRows = record { title = titled.titled i; rows = sym is i } in page)

-- ---- lines of pages that pass a test

abbrev pub lines_of : (TitledRows → Bool) → List TitledRows → List Line
lines_of test pages = flat_map (line_of_page test uncounted) pages

pub line-next : (test : TitledRows → Bool) (pages : List TitledRows) (place : ℕ) (title : PageTitle) (rows : PageRows) (listed : Bool) (before after : List Line)
    → slice_get pages place ≡ Some (record { title = title; rows = rows }) → listed ≡ test (record { title = title; rows = rows })
    → before ≡ lines_of test (take place pages) → after ≡ before ++ lines_if listed (record { count = 0; titles = title ∷ [] }) → after ≡ lines_of test (take (place + 1) pages)
line-next test pages place title rows listed before after there is found now =
    let page : TitledRows = record { title = title; rows = rows } in
    now
    ∙ (ap (λ (b : Bool). before ++ lines_if b (uncounted page)) is
    ∙ (ap (λ (lines : List Line). lines ++ lines_if (test page) (uncounted page)) found
    ∙ sym (walk-next (line_of_page test uncounted) pages place page there)))

pub lines-whole : (test : TitledRows → Bool) (pages : List TitledRows) (place count : ℕ) (found : List Line) → found ≡ lines_of test (take place pages) → count ≡ length pages → count ≤ place
    → found ≡ map uncounted (filter test pages)
lines-whole test pages place count found is whole past =
    is ∙ (walk-whole (line_of_page test uncounted) pages place (let l : length pages ≤ place = omega (arith, whole, past) in l) ∙ walk-filter test uncounted pages)

-- ---- double redirects

abbrev pub doubles_of : List TitledRows → List TitledRows → List Line
doubles_of all pages = flat_map (λ page. option_to_list (double_redirect all page)) pages

pub double-next : (pages : List TitledRows) (place : ℕ) (title : PageTitle) (rows : PageRows) (before after : List Line)
    → slice_get pages place ≡ Some (record { title = title; rows = rows })
    → before ≡ doubles_of pages (take place pages) → after ≡ before ++ option_to_list (double_redirect pages (record { title = title; rows = rows })) → after ≡ doubles_of pages (take (place + 1) pages)
double-next pages place title rows before after there found now =
    let page : TitledRows = record { title = title; rows = rows } in
    now
    ∙ (ap (λ (lines : List Line). lines ++ option_to_list (double_redirect pages page)) found
    ∙ sym (walk-next (λ page. option_to_list (double_redirect pages page)) pages place page there))

pub doubles-whole : (pages : List TitledRows) (place count : ℕ) (found : List Line) → found ≡ doubles_of pages (take place pages) → count ≡ length pages → count ≤ place
    → found ≡ filter_map (double_redirect pages) pages
doubles-whole pages place count found is whole past =
    is ∙ (walk-whole (λ page. option_to_list (double_redirect pages page)) pages place (let l : length pages ≤ place = omega (arith, whole, past) in l) ∙ walk-filter_map (double_redirect pages) pages)

-- ---- titles that are counted

abbrev pub titles_of : Counted → List TitledRows → List PageTitle
titles_of counted pages = flat_map (λ (page : TitledRows). titles_in counted page.rows) pages

each-in_order : (counted : Counted) (state : State) → IsKept state → InOrder (titles_in counted) (stored_pages state)
each-in_order Links state kept = stored-in_order (λ rows. rows.links) (λ rows good. good.links) state kept.links
each-in_order Templates state kept = stored-in_order (λ rows. rows.templates) (λ rows good. good.templates) state kept.links

pub tally-small : (counted : Counted) (state : State) (place : ℕ) (entries : List (PageTitle × ℕ)) → IsKept state → place < length (stored_pages state)
    → entries ≡ tallied_all [] (titles_of counted (take place (stored_pages state))) → (title : PageTitle) → unwrap_or (lookup (title_eq title) entries) 0 ≤ 2 ^ 32
tally-small counted state place entries kept within is title =
    let at = place-within state place kept within in
    let part : length (take place (stored_pages state)) ≡ place = length-take-le place (stored_pages state) (omega (arith, within)) in
    subst (λ (es : List (PageTitle × ℕ)). unwrap_or (lookup (title_eq title) es) 0 ≤ 2 ^ 32) (sym is)
    (small-tally (titles_in counted) (take place (stored_pages state)) (2 ^ 32) (in_order-take (titles_in counted) (stored_pages state) place (each-in_order counted state kept))
    (let few = at.few in omega (arith, part, few)) title)

pub tally-next : (counted : Counted) (pages : List TitledRows) (place : ℕ) (title : PageTitle) (rows : PageRows) (titles : List PageTitle) (before after : List (PageTitle × ℕ))
    → slice_get pages place ≡ Some (record { title = title; rows = rows }) → titles ≡ titles_in counted rows
    → before ≡ tallied_all [] (titles_of counted (take place pages)) → after ≡ tallied_all before titles → after ≡ tallied_all [] (titles_of counted (take (place + 1) pages))
tally-next counted pages place title rows titles before after there are found now =
    let page : TitledRows = record { title = title; rows = rows } in
    now
    ∙ (ap (tallied_all before) are
    ∙ (ap (λ (es : List (PageTitle × ℕ)). tallied_all es (titles_in counted rows)) found
    ∙ (sym (fold-append tallied [] (titles_of counted (take place pages)) (titles_in counted rows))
    ∙ ap (tallied_all []) (sym (walk-next (λ (page : TitledRows). titles_in counted page.rows) pages place page there)))))

pub tally-whole : (counted : Counted) (pages : List TitledRows) (place count : ℕ) (entries : List (PageTitle × ℕ)) → entries ≡ tallied_all [] (titles_of counted (take place pages)) → count ≡ length pages → count ≤ place
    → entries ≡ tallied_all [] (titles_of counted pages)
tally-whole counted pages place count entries is whole past =
    is ∙ ap (tallied_all []) (walk-whole (λ (page : TitledRows). titles_in counted page.rows) pages place (let l : length pages ≤ place = omega (arith, whole, past) in l))

-- ---- lines of titles that were counted

abbrev pub entry_lines : Counted → World → List (PageTitle × ℕ) → List Line
entry_lines counted world entries = flat_map (line_of_page (λ (e : PageTitle × ℕ). is_listed counted world e.0) entry_line) entries

pub entry-next : (counted : Counted) (world : World) (entries : List (PageTitle × ℕ)) (place : ℕ) (title : PageTitle) (count : ℕ) (listed : Bool) (before after : List Line)
    → slice_get entries place ≡ Some (title, count) → listed ≡ is_listed counted world title
    → before ≡ entry_lines counted world (take place entries) → after ≡ before ++ lines_if listed (record { count = count; titles = title ∷ [] }) → after ≡ entry_lines counted world (take (place + 1) entries)
entry-next counted world entries place title count listed before after there is found now =
    now
    ∙ (ap (λ (b : Bool). before ++ lines_if b (entry_line (title, count))) is
    ∙ (ap (λ (lines : List Line). lines ++ lines_if (is_listed counted world title) (entry_line (title, count))) found
    ∙ sym (walk-next (line_of_page (λ (e : PageTitle × ℕ). is_listed counted world e.0) entry_line) entries place (title, count) there)))

pub entries-whole : (counted : Counted) (world : World) (entries : List (PageTitle × ℕ)) (place count : ℕ) (found : List Line)
    → found ≡ entry_lines counted world (take place entries) → count ≡ length entries → count ≤ place → found ≡ listed_lines counted world entries
entries-whole counted world entries place count found is whole past =
    is
    ∙ (walk-whole (line_of_page (λ (e : PageTitle × ℕ). is_listed counted world e.0) entry_line) entries place (let l : length entries ≤ place = omega (arith, whole, past) in l)
    ∙ walk-filter (λ (e : PageTitle × ℕ). is_listed counted world e.0) entry_line entries)

tallied-lines : (counted : Counted) (state : State) (entries : List (PageTitle × ℕ)) → IsKept state → entries ≡ tallied_all [] (titles_of counted (stored_pages state))
    → listed_lines counted (world_of state) entries
    ≡ map (λ title. entry_line (entry (pages_with (titles_in counted) (stored_pages state)) title)) (filter (is_listed counted (world_of state)) (titles_with (titles_in counted) (stored_pages state)))
tallied-lines counted state entries kept tally =
    ap (listed_lines counted (world_of state)) (tally ∙ tally-pages (titles_in counted) (stored_pages state) (each-in_order counted state kept))
    ∙ (sym (walk-filter (λ (e : PageTitle × ℕ). is_listed counted (world_of state) e.0) entry_line (map (entry (pages_with (titles_in counted) (stored_pages state))) (titles_with (titles_in counted) (stored_pages state))))
    ∙ walk-entries (is_listed counted (world_of state)) (pages_with (titles_in counted) (stored_pages state)) (titles_with (titles_in counted) (stored_pages state)))

pub counted-whole : (counted : Counted) (state : State) (entries : List (PageTitle × ℕ)) (found : List Line) → IsKept state → entries ≡ tallied_all [] (titles_of counted (stored_pages state))
    → found ≡ listed_lines counted (world_of state) entries → found ≡ counted_lines counted (world_of state) (stored_pages state)
counted-whole Links state entries found kept tally is = is ∙ tallied-lines Links state entries kept tally
counted-whole Templates state entries found kept tally is =
    is ∙ (tallied-lines Templates state entries kept tally
    ∙ ap (map (λ title. entry_line (entry (pages_with (λ rows. rows.templates) (stored_pages state)) title))) (filter-all (titles_with (λ rows. rows.templates) (stored_pages state))))

-- ---- titles that pages name

or-nothing : (b n : Bool) → b ≡ (b || (n && false))
or-nothing true n = refl
or-nothing false true = refl
or-nothing false false = refl

or-both : (b n x y : Bool) → ((b || (n && x)) || (n && y)) ≡ (b || (n && (x || y)))
or-both true n x y = refl
or-both false true x y = refl
or-both false false x y = refl

last-only : (x : Bool) → (x || false) ≡ x
last-only true = refl
last-only false = refl

pub named-nothing : (b : Bool) (own other : PageTitle) → b ≡ (b || (not (title_eq own other) && false))
named-nothing b own other = or-nothing b (not (title_eq own other))

pub named-more : (titles : List PageTitle) (i : ℕ) (item own other : PageTitle) (first before after : Bool) → take (i + 1) titles ≡ take i titles ++ item ∷ []
    → before ≡ (first || (not (title_eq own other) && list_any (title_eq other) (take i titles))) → after ≡ (before || (not (title_eq own other) && title_eq other item))
    → after ≡ (first || (not (title_eq own other) && list_any (title_eq other) (take (i + 1) titles)))
named-more titles i item own other first before after more found now =
    let n = not (title_eq own other) in
    let old = list_any (title_eq other) (take i titles) in
    now
    ∙ (ap (λ (b : Bool). b || (n && title_eq other item)) found
    ∙ (or-both first n old (title_eq other item)
    ∙ ap (λ (b : Bool). first || (n && b))
    (ap (λ (b : Bool). old || b) (sym (last-only (title_eq other item))) ∙ sym (ap (list_any (title_eq other)) more ∙ list_any-append (title_eq other) (take i titles) (item ∷ [])))))

pub named-page : (pages : List TitledRows) (place : ℕ) (title other : PageTitle) (rows : PageRows) (links templates : List PageTitle) (before between after : Bool) → slice_get pages place ≡ Some (record { title = title; rows = rows })
    → links ≡ rows.links → templates ≡ rows.templates
    → before ≡ is_named_elsewhere (take place pages) other → between ≡ (before || (not (title_eq title other) && list_any (title_eq other) links))
    → after ≡ (between || (not (title_eq title other) && list_any (title_eq other) templates)) → after ≡ is_named_elsewhere (take (place + 1) pages) other
named-page pages place title other rows links templates before between after there links_are templates_are found first second =
    let page : TitledRows = record { title = title; rows = rows } in
    let n = not (title_eq title other) in
    second
    ∙ (ap (λ (b : Bool). b || (n && list_any (title_eq other) templates)) (first ∙ ap (λ (b : Bool). b || (n && list_any (title_eq other) links)) found)
    ∙ (or-both (is_named_elsewhere (take place pages) other) n (list_any (title_eq other) links) (list_any (title_eq other) templates)
    ∙ (ap (λ (titles : List PageTitle). is_named_elsewhere (take place pages) other || (n && (list_any (title_eq other) titles || list_any (title_eq other) templates))) links_are
    ∙ (ap (λ (titles : List PageTitle). is_named_elsewhere (take place pages) other || (n && (list_any (title_eq other) rows.links || list_any (title_eq other) titles))) templates_are
    ∙ sym (named-next pages place page other there)))))

pub named-whole : (pages : List TitledRows) (place count : ℕ) (other : PageTitle) (b : Bool) → b ≡ is_named_elsewhere (take place pages) other → count ≡ length pages → count ≤ place → b ≡ is_named_elsewhere pages other
named-whole pages place count other b is whole past =
    is ∙ ap (λ (pages : List TitledRows). is_named_elsewhere pages other) (take_all place pages (let l : length pages ≤ place = omega (arith, whole, past) in l))

-- ---- a whole report

map-take : {X Y : Type 0} (f : X → Y) (n : ℕ) (xs : List X) → map f (take n xs) ≡ take n (map f xs)
map-take f zero [] = refl
map-take f (suc n) [] = refl
map-take f zero (x ∷ xs) = refl
map-take f (suc n) (x ∷ xs) = ap (λ ys. f x ∷ ys) (map-take f n xs)

-- the lines in their order, and the first of them
pub report-whole : {X : Type 0} (f : X → Line) (which : Report) (state live : State) (most : ℕ) (found sorted cut : List X)
    → cut ≡ take most sorted → map f sorted ≡ in_order (map f found) → map f found ≡ reported which (world_of live) (stored_pages live) → live ≡ state
    → map f cut ≡ report_lines which (world_of state) (stored_pages state) most
unfolding report_lines
report-whole f which state live most found sorted cut first order is same =
    ap (map f) first
    ∙ (map-take f most sorted
    ∙ ap (take most) (order ∙ ap in_order (is ∙ ap (λ (s : State). reported which (world_of s) (stored_pages s)) same)))
