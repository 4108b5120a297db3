-- No reply to a request holds a float.
use Rattle.std.proofs.Common.{Ordering, Less, Equal, Greater, ◌≡◌, ℕ, ◌+◌, ℤ, Bool, true, false, cond, List, [], ◌∷◌, ◌++◌, map, fold, length, take, codes, Option, Some, None, refl}
use Rattle.std.specs.Prelude.{◌||◌, pos, negsuc, not, nat_lt, is_none, unwrap_or}
use Rattle.std.specs.Ordering.{match_ordering, nat_cmp, int_eq}
use Rattle.std.specs.Cmp.Lexicographic.{slice_cmp}
use Rattle.serde_json.specs.Data.{Data, Members, no_members, member, put, boolean, string}
use Rattle.serde_json.specs.Written.{has_float, items_have_float, members_have_float}
use Rattle.wk_text_rules.specs.Titles.{PageTitle, namespace_name, normal, shown}
use Rattle.wk_page_rules.specs.History.{History, Revision, page_number, page_exists}
use Rattle.wk_page_rules.specs.Verdict.{MostHeld, Verdict, refuse, no_change, accept, max_text, real_title}
use Rattle.wk_page_rules.specs.declared.Reach.TheVariants.{Text}
use Rattle.wk_wiki_rules.specs.Users.{users}
use Rattle.wk_wiki_rules.specs.States.{State, title_at, world_of}
use Rattle.wk_wiki_rules.specs.Verdicts.{verdict_in}
use Rattle.wk_wiki_rules.specs.Links.{linking_pages}
use Rattle.wk_wiki_rules.specs.Members.{members_behind}
use Rattle.wk_wiki_rules.specs.Revisions.{changes_below, page_revisions_below}
use Rattle.wk_wiki_rules.specs.Passes.{drafted_in}
use Rattle.wk_wiki_rules.specs.SaveOutcomes.{SaveOutcome, created, changed, unchanged, save_outcome, deletion}
use Rattle.wk_request_rules.specs.Requests.{Ask, edit, delete, parse, expand_text, backlinks, embedded, members, changes, revisions, tokens, site_info, Listing, ParsedRequest, valid, invalid}
use Rattle.wk_answer_rules.specs.Values.{Entries, object_of, items_of, array_of, integer, title_entries, titles_value, whole, reply_beside}
use Rattle.wk_answer_rules.specs.ApiErrors.{ApiError, badvalue, mustbeposted, badtoken, notitle, notext, badinteger, futurepoint, invalidtitle, invalidcategory, contenttoobig, articleexists, missingtitle, editconflict, wikifull, journalfull, nomemory, storefault, ErrorRow, error_row, row_entries, request_error, save_error}
use Rattle.wk_answer_rules.specs.Pages.{ReadAnswer, shows, fails, text_shown, PageShown, category_value, redirect_entries, parse_entries, page_shown, parse_answer, expand_entries, expanded_in, expand_answer, query_entries, namespace_numbers, namespace_value, statistics_value, site_entries}
use Rattle.wk_answer_rules.specs.Lists.{continue_entries, last_listed, listed, page_entries, backlinks_of, backlinks_answer, embedding_of, embedded_answer, member_entries, members_passed, members_listed, members_of, members_answer, change_entries, below, revisions_listed, changes_answer, deleted_entries, content_entries, revision_entries, revisions_of, revisions_answer}
use Rattle.wk_answer_rules.specs.Saves.{Answered, edit_entries, delete_entries, outcome_entries, save_answer}
use Rattle.wk_answer_rules.specs.Answers.{read_at, answer_to_ask, answer_to_parsed}
use Rattle.wk_answer_laws.proofs.Points.{request-by}

-- ---- objects and arrays

neither : (a b : Bool) → a ≡ false → b ≡ false → (a || b) ≡ false
neither a b first second = cc

of-three : (o : Ordering) (less equal greater : Members) → members_have_float less ≡ false → members_have_float equal ≡ false → members_have_float greater ≡ false
    → members_have_float (match_ordering o less equal greater) ≡ false
of-three Less less equal greater a b c = a
of-three Equal less equal greater a b c = b
of-three Greater less equal greater a b c = c

-- the parts of a fact of two tests
first-false : (a b : Bool) → (a || b) ≡ false → a ≡ false
first-false true b h = absurd (let e : true ≡ false = h in cc)
first-false false b h = refl

second-false : (a b : Bool) → (a || b) ≡ false → b ≡ false
second-false true b h = absurd (let e : true ≡ false = h in cc)
second-false false b h = h

put-plain : (key : List ℕ) (value : Data) (all : Members) → has_float value ≡ false → members_have_float all ≡ false → members_have_float (put key value all) ≡ false
put-plain key value no_members plain rest = neither (has_float value) false plain refl
put-plain key value (member other d more) plain rest =
    let own = first-false (has_float d) (members_have_float more) rest in
    let later = second-false (has_float d) (members_have_float more) rest in
    of-three (slice_cmp nat_cmp key other) (member key value (member other d more)) (member other value more) (member other d (put key value more))
    (neither (has_float value) (members_have_float (member other d more)) plain rest)
    (neither (has_float value) (members_have_float more) plain later)
    (neither (has_float d) (members_have_float (put key value more)) own (put-plain key value more plain later))

-- none of the values is or holds a float
abbrev pub Plain : Entries → Type 0
Plain [] = Unit {0}
Plain (entry ∷ entries) = (has_float entry.1 ≡ false) × Plain entries

fold-plain : (entries : Entries) (all : Members) → members_have_float all ≡ false → Plain entries
    → members_have_float (fold (λ (ms : Members) (entry : List ℕ × Data). put entry.0 entry.1 ms) all entries) ≡ false
fold-plain [] all rest plain = rest
fold-plain (entry ∷ entries) all rest plain =
    fold-plain entries (put entry.0 entry.1 all) (put-plain entry.0 entry.1 all plain.0 rest) plain.1

pub object-plain : (entries : Entries) → Plain entries → has_float (object_of entries) ≡ false
object-plain entries plain = fold-plain entries no_members refl plain

pub map-plain : {X : Type 0} (value_of : X → Data) (xs : List X) → ((x : X) → has_float (value_of x) ≡ false) → has_float (array_of (map value_of xs)) ≡ false
map-plain value_of [] each = refl
map-plain value_of (x ∷ xs) each = neither (has_float (value_of x)) (items_have_float (items_of (map value_of xs))) (each x) (map-plain value_of xs each)

append-plain : (front back : Entries) → Plain front → Plain back → Plain (front ++ back)
append-plain [] back first second = second
append-plain (entry ∷ front) back first second = (first.0, append-plain front back first.1 second)

integer-plain : (n : ℤ) → has_float (integer n) ≡ false
integer-plain (pos n) = refl
integer-plain (negsuc n) = refl

-- ---- replies

pub reply-plain : (entries : Entries) (point : ℕ) → Plain entries → has_float (reply_beside entries point).value ≡ false
reply-plain entries point plain = object-plain ((codes "point", whole point) ∷ entries) (refl, plain)

pub row-plain : (row : ErrorRow) → Plain row.further → Plain (row_entries row)
row-plain row plain = (object-plain ((codes "code", string row.code) ∷ (codes "info", string row.info) ∷ row.further) (refl, (refl, plain)), tt)

error-further : (error : ApiError) → Plain (error_row error).further
error-further (badvalue parameter) = (refl, tt)
error-further mustbeposted = tt
error-further badtoken = tt
error-further (notitle parameter) = (refl, tt)
error-further notext = tt
error-further (badinteger parameter) = (refl, tt)
error-further (futurepoint latest) = (refl, tt)
error-further invalidtitle = tt
error-further invalidcategory = tt
error-further contenttoobig = tt
error-further articleexists = tt
error-further missingtitle = tt
error-further (editconflict current) = (refl, tt)
error-further (wikifull limit) = (refl, tt)
error-further journalfull = tt
error-further nomemory = tt
error-further storefault = tt

pub error-plain : (error : ApiError) (point : ℕ) → has_float (reply_beside (row_entries (error_row error)) point).value ≡ false
error-plain error point = reply-plain (row_entries (error_row error)) point (row-plain (error_row error) (error-further error))

-- ---- what reads are answered

abbrev PlainRead : ReadAnswer → Type 0
PlainRead (shows entries) = Plain entries
PlainRead (fails error) = Unit {0}

read-plain : (journal : ℕ) (answer : ReadAnswer) → PlainRead answer → has_float (read_at journal answer).reply.value ≡ false
read-plain journal (shows entries) plain = reply-plain entries journal plain
read-plain journal (fails error) plain = error-plain error journal

title-plain : (title : PageTitle) → Plain (title_entries title)
title-plain title = (integer-plain title.ns, (refl, tt))

titles-plain : (titles : List PageTitle) → has_float (array_of (map (λ title. object_of (title_entries title)) titles)) ≡ false
titles-plain titles = map-plain (λ title. object_of (title_entries title)) titles (λ title. object-plain (title_entries title) (title-plain title))

redirect-plain : (target : Option PageTitle) → Plain (redirect_entries target)
redirect-plain None = tt
redirect-plain (Some title) = (object-plain (title_entries title) (title-plain title), tt)

shown-entries : PageShown → Entries
shown-entries page =
    (codes "categories", array_of (map category_value page.rows.members))
    ∷ (codes "expanded", string page.text)
    ∷ (codes "links", titles_value page.rows.links)
    ∷ (codes "pageid", whole page.number)
    ∷ (codes "revid", whole page.revision)
    ∷ (codes "templates", titles_value page.rows.templates)
    ∷ (codes "title", string (shown page.title))
    ∷ redirect_entries page.rows.redirect

shown-plain : (page : PageShown) → Plain (shown-entries page)
unfolding shown-entries
shown-plain page = (
  map-plain category_value page.rows.members (λ m. refl),
  (refl, (titles-plain page.rows.links, (refl, (refl, (titles-plain page.rows.templates, (refl, redirect-plain page.rows.redirect)))))),
)

parse-plain : (page : PageShown) → Plain (parse_entries page)
unfolding shown-entries
parse-plain page = (object-plain (shown-entries page) (shown-plain page), tt)

either-read : (b : Bool) (one other : ReadAnswer) → PlainRead one → PlainRead other → PlainRead (cond b one other)
either-read true one other first second = first
either-read false one other first second = second

for-title-plain : (o : Option PageTitle) (answer : PageTitle → ReadAnswer) → ((title : PageTitle) → PlainRead (answer title))
    → PlainRead (elim o as (λ p. ReadAnswer) [ None ↦ fails invalidtitle | Some title ↦ answer title ])
for-title-plain None answer each = tt
for-title-plain (Some title) answer each = each title

parse-answer-plain : (state : State) (page : List ℕ) → PlainRead (parse_answer state page)
parse-answer-plain state page = for-title-plain (real_title page)
    (λ title. cond (page_exists state.history title) (shows (parse_entries (page_shown state title))) (fails missingtitle))
    (λ title. either-read (page_exists state.history title) (shows (parse_entries (page_shown state title))) (fails missingtitle)
    (parse-plain (page_shown state title)) tt)

expanded-plain : (state : State) (text : List ℕ) (title : PageTitle) → PlainRead (expanded_in state text title)
expanded-plain state text title =
    either-read (nat_lt max_text (length text)) (fails contenttoobig)
    (shows (expand_entries (text_shown (drafted_in (world_of state) title (Some text))))) tt (refl, tt)

expand-plain : (state : State) (text page : List ℕ) → PlainRead (expand_answer state text page)
expand-plain state text page = for-title-plain (normal page (pos 0)) (expanded_in state text) (expanded-plain state text)

-- ---- listings

continue-plain : (place : Option ℕ) → Plain (continue_entries place)
continue-plain None = tt
continue-plain (Some n) = (refl, tt)

listed-plain : {X : Type 0} (name : List ℕ) (entries_of : X → Entries) (place : Option ℕ) (limit : ℕ) (found : List X)
    → ((x : X) → Plain (entries_of x)) → PlainRead (listed name entries_of place limit found)
listed-plain name entries_of place limit found each =
    append-plain (continue_entries place) (query_entries ((name, array_of (map (λ x. object_of (entries_of x)) (take limit found))) ∷ [])) (continue-plain place) (
      object-plain ((name, array_of (map (λ x. object_of (entries_of x)) (take limit found))) ∷ [])
          (map-plain (λ x. object_of (entries_of x)) (take limit found) (λ x. object-plain (entries_of x) (each x)), tt),
      tt,
    )

page-plain : (h : History) (page : ℕ) → Plain (page_entries h page)
page-plain h page = (refl, title-plain (title_at h page))

backlinks-plain : (state : State) (listing : Listing) (title : PageTitle) → PlainRead (backlinks_of state listing title)
backlinks-plain state listing title =
    let found = linking_pages state.stored title (unwrap_or listing.from 0) (listing.limit + 1) in
    listed-plain (codes "backlinks") (page_entries state.history) (last_listed (λ page. page) listing.limit found) listing.limit found (page-plain state.history)

embedding-plain : (state : State) (listing : Listing) (title : PageTitle) → PlainRead (embedding_of state listing title)
embedding-plain state listing title =
    let found = users state.stored title Text (unwrap_or listing.from 0) (listing.limit + 1) in
    listed-plain (codes "embeddedin") (page_entries state.history) (last_listed (λ page. page) listing.limit found) listing.limit found (page-plain state.history)

members-plain : (state : State) (listing : Listing) (title : PageTitle) → PlainRead (members_of state listing title)
members-plain state listing title =
    either-read (not (int_eq title.ns (pos 14))) (fails invalidcategory) (members_listed state title (unwrap_or listing.from 0) listing.limit) tt
    (listed-plain (codes "categorymembers") (member_entries state.history)
    (members_passed (unwrap_or listing.from 0) listing.limit (members_behind state.stored title (unwrap_or listing.from 0) (listing.limit + 1)))
    listing.limit (members_behind state.stored title (unwrap_or listing.from 0) (listing.limit + 1)) (λ m. (refl, page-plain state.history m.page)))

change-plain : (h : History) (revision : ℕ × Revision) → Plain (change_entries h revision)
change-plain h revision = (refl, (refl, (refl, (refl, page-plain h revision.1.page))))

changes-plain : (state : State) (listing : Listing) → PlainRead (changes_answer state listing)
changes-plain state listing =
    let found = changes_below state.history (below state.history listing) (listing.limit + 1) in
    listed-plain (codes "recentchanges") (change_entries state.history) (last_listed (λ revision. revision.0) listing.limit found) listing.limit found (change-plain state.history)

either-entries : (b : Bool) (entries : Entries) → Plain entries → Plain (cond b entries [])
either-entries true entries plain = plain
either-entries false entries plain = tt

revision-plain : (content : Bool) (revision : ℕ × Revision) → Plain (revision_entries content revision)
revision-plain content revision = (
  refl,
  (
    refl,
    (
      refl,
      (
        refl,
        append-plain (deleted_entries revision.1) (content_entries content revision.1)
            (either-entries (is_none revision.1.text) ((codes "deleted", boolean true) ∷ []) (refl, tt))
            (either-entries content ((codes "content", string (unwrap_or revision.1.text [])) ∷ []) (refl, tt)),
      ),
    ),
  ),
)

revisions-plain : (h : History) (listing : Listing) (content : Bool) (title : PageTitle) → PlainRead (revisions_of h listing content title)
revisions-plain h listing content title = by (page_number h title)
  where
    by : (o : Option ℕ) → PlainRead (elim o as (λ p. ReadAnswer) [
      | None ↦ fails missingtitle
      | Some page ↦
          revisions_listed (codes "revisions") (revision_entries content) listing.limit
          (page_revisions_below h page (below h listing) (listing.limit + 1))
    ])
    by None = tt
    by (Some page) =
        let found = page_revisions_below h page (below h listing) (listing.limit + 1) in
        listed-plain (codes "revisions") (revision_entries content) (last_listed (λ revision. revision.0) listing.limit found) listing.limit found (revision-plain content)

-- ---- saves

edit-plain : (outcome : SaveOutcome) → Plain (edit_entries outcome)
edit-plain (created title numbers) = (refl, tt)
edit-plain (changed title numbers) = (refl, tt)
edit-plain (unchanged title page) = (refl, tt)

delete-plain : (outcome : SaveOutcome) → Plain (delete_entries outcome)
delete-plain (created title numbers) = (refl, tt)
delete-plain (changed title numbers) = (refl, tt)
delete-plain (unchanged title page) = (refl, tt)

outcome-plain : (entries_of : SaveOutcome → Entries) (outcome : Option SaveOutcome) → ((o : SaveOutcome) → Plain (entries_of o)) → Plain (outcome_entries entries_of outcome)
outcome-plain entries_of None each = tt
outcome-plain entries_of (Some outcome) each = each outcome

save-plain : (entries_of : SaveOutcome → Entries) (state : State) (journal moment : ℕ) (v : Verdict) → ((o : SaveOutcome) → Plain (entries_of o))
    → has_float (save_answer entries_of state journal moment v).reply.value ≡ false
save-plain entries_of state journal moment (refuse refusal) each = error-plain (save_error refusal) journal
save-plain entries_of state journal moment (no_change title) each =
    reply-plain (outcome_entries entries_of (save_outcome state.history (no_change title))) journal (outcome-plain entries_of (save_outcome state.history (no_change title)) each)
save-plain entries_of state journal moment (accept title text) each =
    reply-plain (outcome_entries entries_of (save_outcome state.history (accept title text))) (journal + 1) (outcome-plain entries_of (save_outcome state.history (accept title text)) each)

-- ---- every request

ask-plain : (most : MostHeld) (state : State) (journal moment : ℕ) (ask : Ask) → has_float (answer_to_ask most state journal moment ask).reply.value ≡ false
ask-plain most state journal moment (edit asked) = save-plain edit_entries state journal moment (verdict_in most state journal asked) edit-plain
ask-plain most state journal moment (delete title base) =
    save-plain delete_entries state journal moment (verdict_in most state journal (deletion title base)) delete-plain
ask-plain most state journal moment (parse page) = read-plain journal (parse_answer state page) (parse-answer-plain state page)
ask-plain most state journal moment (expand_text text page) = read-plain journal (expand_answer state text page) (expand-plain state text page)
ask-plain most state journal moment (backlinks listing) =
    read-plain journal (backlinks_answer state listing) (for-title-plain (normal listing.title (pos 0)) (backlinks_of state listing) (backlinks-plain state listing))
ask-plain most state journal moment (embedded listing) =
    read-plain journal (embedded_answer state listing) (for-title-plain (normal listing.title (pos 0)) (embedding_of state listing) (embedding-plain state listing))
ask-plain most state journal moment (members listing) =
    read-plain journal (members_answer state listing) (for-title-plain (normal listing.title (pos 0)) (members_of state listing) (members-plain state listing))
ask-plain most state journal moment (changes listing) = read-plain journal (changes_answer state listing) (changes-plain state listing)
ask-plain most state journal moment (revisions listing content) =
    read-plain journal (revisions_answer state listing content)
    (for-title-plain (normal listing.title (pos 0)) (revisions_of state.history listing content) (revisions-plain state.history listing content))
ask-plain most state journal moment tokens = refl
ask-plain most state journal moment site_info =
    reply-plain (site_entries state) journal (
      object-plain ((codes "namespaces", array_of (map namespace_value namespace_numbers)) ∷ (codes "statistics", statistics_value state) ∷ []) (
        map-plain namespace_value namespace_numbers (λ n. object-plain ((codes "id", integer n) ∷ (codes "name", string (namespace_name n)) ∷ []) (integer-plain n, (refl, tt))),
        (refl, tt),
      ),
      tt,
    )

pub answer-plain : (most : MostHeld) (state : State) (journal moment : ℕ) (read : ParsedRequest) → has_float (answer_to_parsed most state journal moment read).reply.value ≡ false
answer-plain most state journal moment (invalid refusal) = error-plain (request_error refusal) journal
answer-plain most state journal moment (valid request) =
    request-by most state journal moment (λ (answer : Answered). has_float answer.reply.value ≡ false) (error-plain (futurepoint journal) journal)
    (error-plain invalidtitle journal) (error-plain contenttoobig journal) (ask-plain most state journal moment) request
