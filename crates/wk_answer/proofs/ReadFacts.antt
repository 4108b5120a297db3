-- A read that is right in a state answers as the state does.
use Rattle.std.proofs.Common.{◌≡◌, ℕ, ◌≤◌, ◌++◌, ◌∷◌, [], Bool, true, false, cond, eqb, not, List, Option, Some, None, Result, refl, sym, ap, ◌∙◌, subst}
use Rattle.std.specs.Prelude.{is_some, nat_lt, option_map, slice_get, unwrap_or, IfOk}
use Rattle.std.specs.List.{list_any}
use Rattle.std.proofs.lemmas.Bool.{eqb-true, le-ltb, ne_eqb, not-false}
use Rattle.std.proofs.lemmas.List.Elements.{All-nil}
use Rattle.serde_json.specs.Data.{Data}
use Rattle.wk_text_rules.specs.Marked.{text_of}
use Rattle.wk_text_rules.specs.Titles.{PageTitle}
use Rattle.wk_page_rules.specs.PageRows.{PageRows}
use Rattle.wk_page_rules.specs.History.{current_revision, current_text, page_exists}
use Rattle.wk_page_rules.specs.Verdict.{MostHeld}
use Rattle.wk_view_rules.specs.Plans.{Plan, gives, asks, done, noted, reads_of, run}
use Rattle.wk_view_rules.specs.Rows.{rows}
use Rattle.wk_view_rules.specs.Views.{Expanded, view, view_plan}
use Rattle.wk_view_rules.specs.Worlds.{Agrees, PageText, Read, Source, World, ask, is_read_of, mark, of_world, page}
use Rattle.wk_view_rules.specs.declared.Kind.TheVariants.{View}
use Rattle.wk_view_laws.proofs.PlanLemmas.{agrees-itself, met}
use Rattle.wk_view_laws.proofs.ViewLemmas.{after_view}
use Rattle.wk_wiki_rules.specs.States.{State, world_of}
use Rattle.wk_wiki_laws.specs.WellFormed.{IsWellFormed}
use Rattle.wk_life_laws.proofs.Marks.{Answered, exists-now}
use Rattle.wk_wiki_rules.specs.Passes.{shown_number}
use Rattle.wk_expand.specs.Drafts.{DraftShown}
use Rattle.wk_live.specs.Drafted.{IsPresent}
use Rattle.wk_request_rules.specs.Requests.{Ask, Request, asks_to_save, edit, delete, parse, expand_text, backlinks, embedded, members, changes, revisions, tokens, site_info}
use Rattle.wk_answer_rules.specs.ApiErrors.{api_error, futurepoint, missingtitle}
use Rattle.wk_answer_rules.specs.Pages.{PageShown, fails, page_shown, parse_entries, shows}
use Rattle.wk_answer_rules.specs.Values.{reply_beside}
use Rattle.wk_answer_rules.specs.Saves.{Answered as Reply, failed_at}
use Rattle.wk_answer_rules.specs.Answers.{answer_to_ask, answer_to_request, answer_with_subst}
use Rattle.wk_answer_laws.proofs.Orders.{early}
use Rattle.wk_answer_laws.proofs.Points.{read-plain}
use Rattle.wk_listings.specs.Replied.{value_at}
use Rattle.wk_answer.specs.Readings.{asks_to_expand, mark_first, page_answer}
use Rattle.wk_answer.proofs.Shown.{page-shown}

-- ---- what is read first

noted-starts : (r : Read) (rest : List Read) (q : Read) → (later : List Read) × (noted (r ∷ rest) q ≡ r ∷ later)
noted-starts r rest q = by (list_any (is_read_of q.title q.kind) (r ∷ rest))
  where
    by : (b : Bool) → (later : List Read) × (cond b (r ∷ rest) ((r ∷ rest) ++ q ∷ []) ≡ r ∷ later)
    by true = (rest, refl)
    by false = (rest ++ q ∷ [], refl)

first-run : {A : Type 0} (a : Source) (p : Plan A) (r : Read) (rest : List Read) → slice_get (reads_of (run a p (r ∷ rest))) 0 ≡ Some r
unfolding run
first-run a (gives x) r rest = refl
first-run a (asks title kind more) r rest =
    elim (ask a title kind) as (λ o. slice_get (reads_of (met a title kind more (r ∷ rest) o)) 0 ≡ Some r) [
      | None ↦ refl
      | Some answer ↦
          let next = noted-starts r rest (record { title = title; kind = kind; answer = answer }) in
          subst (λ reads. slice_get (reads_of (run a (more answer) reads)) 0 ≡ Some r) (sym next.1) (first-run a (more answer) r next.0)
    ]

first-viewed : (pages : World) (title : PageTitle) → slice_get (reads_of (view (of_world pages) title)) 0 ≡ Some (record { title = title; kind = View; answer = page (pages title) })
unfolding run view_plan
first-viewed pages title = first-run {A = Expanded} (of_world pages) (after_view title (page (pages title))) (record { title = title; kind = View; answer = page (pages title) }) []

-- ---- its mark is the page's current revision

mark-now : (state : State) (title : PageTitle) → IsWellFormed state → mark (page (world_of state title)) ≡ current_revision state.history title
mark-now state title formed = by (current_text state.history title) refl
  where
    by : (t : Option (List ℕ)) → current_text state.history title ≡ t
        → mark (page (option_map (λ text. record { revision = current_revision state.history title; text = text }) t)) ≡ current_revision state.history title
    by (Some text) is = refl
    by None is =
        let gone : is_some (world_of state title) ≡ false = ap (λ (t : Option (List ℕ)). is_some {T = PageText} (option_map (λ text. record { revision = current_revision state.history title; text = text }) t)) is in
        let missing : not (eqb (current_revision state.history title) 0) ≡ false = exists-now state title formed ∙ gone in
        sym (eqb-true (current_revision state.history title) 0 (not-false _ missing))

pub revision-read : (state : State) (title : PageTitle) (x : Expanded) (reads : List Read) → IsWellFormed state → view (of_world (world_of state)) title ≡ done x reads
    → mark_first reads ≡ current_revision state.history title
revision-read state title x reads formed end =
    let first : slice_get reads 0 ≡ Some (record { title = title; kind = View; answer = page (world_of state title) }) =
    subst (λ o. slice_get (reads_of o) 0 ≡ Some (record { title = title; kind = View; answer = page (world_of state title) })) end (first-viewed (world_of state) title) in
    ap (λ (o : Option Read). unwrap_or (option_map (λ (r : Read). mark r.answer) o) 0) first ∙ mark-now state title formed

-- what was read agrees with the world
pub agrees-read : (pages : World) (title : PageTitle) (x : Expanded) (reads : List Read) → view (of_world pages) title ≡ done x reads → Agrees (of_world pages) reads
agrees-read pages title x reads end =
    subst (λ o. Agrees (of_world pages) (reads_of o)) end (agrees-itself (of_world pages) (view_plan title) [] (All-nil (Answered pages)))

-- what is told of a page by a read of it
pub page-told : {V E : Type 0} (view_of : V → Data) (state : State) (found d : DraftShown) (title : PageTitle) (number revision point : ℕ) (text : List ℕ) (lists : PageRows) (result : Result V E)
    → IsWellFormed state → found.given ≡ None → view (of_world (world_of state)) found.page ≡ done found.expanded found.reads → number ≡ shown_number state.history found.page
    → d ≡ found → title ≡ d.page → revision ≡ mark_first d.reads → (revision ≡ 0 → ⊥) → text ≡ text_of d.expanded.out
    → ((pages : World) → Agrees (of_world pages) d.reads → lists ≡ rows pages d.page)
    → IfOk result (λ v. view_of v ≡ (reply_beside (parse_entries (record { title = title; number = number; revision = revision; text = text; rows = lists })) point).value)
    → IfOk result (λ v. view_of v ≡ value_at point (page_answer state found.page))
page-told view_of state found d title number revision point text lists result formed own end of_number same of_title of_revision some of_text of_rows told =
    let ends : view (of_world (world_of state)) found.page ≡ done d.expanded d.reads = end ∙ sym (ap (λ (x : DraftShown). done x.expanded x.reads) same) in
    let revision_is : revision ≡ current_revision state.history found.page = of_revision ∙ revision-read state found.page d.expanded d.reads formed ends in
    let present : IsPresent (world_of state) found.page None d = record {
      page_is = ap (λ (x : DraftShown). x.page) same;
      given_is = ap (λ (x : DraftShown). x.given) same ∙ own;
      drafted = ends;
      answered = agrees-read (world_of state) found.page d.expanded d.reads ends;
    } in
    let shown = page-shown state found.page number revision text lists d present of_number revision_is of_text of_rows in
    let named : title ≡ found.page = of_title ∙ ap (λ (x : DraftShown). x.page) same in
    let all : (let p : PageShown = record { title = title; number = number; revision = revision; text = text; rows = lists } in p) ≡ page_shown state found.page =
    ap (λ t. let p : PageShown = record { title = t; number = number; revision = revision; text = text; rows = lists } in p) named ∙ shown in
    let there : page_exists state.history found.page ≡ true = ap not (sym (ap (λ n. eqb n 0) revision_is) ∙ ne_eqb revision 0 some) in
    subst (λ b. IfOk result (λ v. view_of v ≡ value_at point (cond b (shows (parse_entries (page_shown state found.page))) (fails missingtitle)))) (sym there)
    (subst (λ (p : PageShown). IfOk result (λ v. view_of v ≡ (reply_beside (parse_entries p) point).value)) all told)

pub missing-told : {V E : Type 0} (view_of : V → Data) (state : State) (found d : DraftShown) (revision point : ℕ) (result : Result V E)
    → IsWellFormed state → view (of_world (world_of state)) found.page ≡ done found.expanded found.reads → d ≡ found → revision ≡ mark_first d.reads → revision ≡ 0
    → IfOk result (λ v. view_of v ≡ value_at point (fails missingtitle)) → IfOk result (λ v. view_of v ≡ value_at point (page_answer state found.page))
missing-told view_of state found d revision point result formed end same of_revision none told =
    let revision_is : revision ≡ current_revision state.history found.page =
    of_revision ∙ (ap (λ (x : DraftShown). mark_first x.reads) same ∙ revision-read state found.page found.expanded found.reads formed end) in
    let gone : page_exists state.history found.page ≡ false = ap (λ n. not (eqb n 0)) (sym revision_is ∙ none) in
    subst (λ b. IfOk result (λ v. view_of v ≡ value_at point (cond b (shows (parse_entries (page_shown state found.page))) (fails missingtitle)))) (sym gone) told

-- ---- least points

-- behind a least point that is reached the flag decides whether a text is transformed
pub reached-flag : (most : MostHeld) (state : State) (journal moment : ℕ) (request : Request) → nat_lt journal request.least ≡ false
    → answer_to_request most state journal moment request
    ≡ cond request.subst (answer_with_subst most state journal moment request.ask) (answer_to_ask most state journal moment request.ask)
unfolding answer_to_request
reached-flag most state journal moment request is =
    ap (λ b. cond b (failed_at journal (futurepoint journal)) (cond request.subst (answer_with_subst most state journal moment request.ask) (answer_to_ask most state journal moment request.ask))) is

either-same : (flag : Bool) (one other : Reply) → one ≡ other → cond flag one other ≡ other
either-same true one other same = same
either-same false one other same = refl

-- and no read heeds that
pub not-early : (most : MostHeld) (state : State) (journal moment : ℕ) (request : Request) → asks_to_save request.ask ≡ false → nat_lt journal request.least ≡ false
    → answer_to_request most state journal moment request ≡ answer_to_ask most state journal moment request.ask
not-early most state journal moment request reads is =
    reached-flag most state journal moment request is
    ∙ either-same request.subst (answer_with_subst most state journal moment request.ask) (answer_to_ask most state journal moment request.ask) (read-plain most state journal moment request.ask reads)

-- an expansion is no save
expands-no-save : (ask : Ask) → asks_to_expand ask ≡ true → asks_to_save ask ≡ false
expands-no-save (edit asked) e = absurd (let f : false ≡ true = e in cc)
expands-no-save (delete named base) e = absurd (let f : false ≡ true = e in cc)
expands-no-save (parse named) e = refl
expands-no-save (expand_text given named) e = refl
expands-no-save (backlinks listing) e = refl
expands-no-save (embedded listing) e = refl
expands-no-save (members listing) e = refl
expands-no-save (changes listing) e = refl
expands-no-save (revisions listing content) e = refl
expands-no-save tokens e = refl
expands-no-save site_info e = refl

pub reached-answer : (most : MostHeld) (state : State) (journal moment : ℕ) (request : Request) → asks_to_expand request.ask ≡ true → request.least ≤ journal
    → answer_to_request most state journal moment request ≡ answer_to_ask most state journal moment request.ask
reached-answer most state journal moment request expands reached =
    not-early most state journal moment request (expands-no-save request.ask expands) (le-ltb journal request.least reached)

pub early-told : (most : MostHeld) (state : State) (journal moment point : ℕ) (request : Request) (value : Data) → point ≡ journal → nat_lt point request.least ≡ true
    → value ≡ (api_error (futurepoint point) point).value → value ≡ (answer_to_request most state journal moment request).reply.value
early-told most state journal moment point request value same is told =
    let later : nat_lt journal request.least ≡ true = subst (λ p. nat_lt p request.least ≡ true) same is in
    told ∙ (ap (λ p. (api_error (futurepoint p) p).value) same ∙ sym (ap (λ (answered : Reply). answered.reply.value) (early most state journal moment request later)))

pub reached-told : {V E : Type 0} (view_of : V → Data) (most : MostHeld) (state held : State) (journal moment point : ℕ) (request : Request) (result : Result V E) → asks_to_save request.ask ≡ false → held ≡ state → point ≡ journal
    → nat_lt point request.least ≡ false → IfOk result (λ v. view_of v ≡ (answer_to_ask most held point moment request.ask).reply.value)
    → IfOk result (λ v. view_of v ≡ (answer_to_request most state journal moment request).reply.value)
reached-told view_of most state held journal moment point request result reads same same_point is told =
    let reached : nat_lt journal request.least ≡ false = subst (λ p. nat_lt p request.least ≡ false) same_point is in
    let answered : answer_to_ask most held point moment request.ask ≡ answer_to_request most state journal moment request =
    ap (λ (s : State). answer_to_ask most s point moment request.ask) same
    ∙ (ap (λ p. answer_to_ask most state p moment request.ask) same_point ∙ sym (not-early most state journal moment request reads reached)) in
    subst (λ (a : Reply). IfOk result (λ v. view_of v ≡ a.reply.value)) answered told
