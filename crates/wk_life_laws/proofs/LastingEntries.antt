-- What a cache keeps of a page is honest at all times: the number of a page never changes.
use Rattle.std.proofs.Common.{◌≡◌, ℕ, ◌+◌, ◌<◌, true, false, cond, eqb, not, ltb, List, [], ◌∷◌, length, Option, Some, None, refl, sym, ap, ◌∙◌, subst, inl, inr, arith, unwrap_or}
use Rattle.std.specs.Prelude.{IsSome, find, is_some, option_map}
use Rattle.std.specs.List.{list_any}
use Rattle.std.proofs.lemmas.Bool.{cases_Bool, lt-ltb, ltb-true}
use Rattle.std.proofs.lemmas.List.Elements.{All-nil, recursion_from_All}
use Rattle.std.proofs.lemmas.Option.{option_and_then_some}
use Rattle.wk_text_rules.specs.Titles.{PageTitle, title_eq}
use Rattle.wk_page_rules.specs.History.{History, Page, next_revision, page_exists, page_number, saved, with_current}
use Rattle.wk_view_rules.specs.Plans.{done, reads_of}
use Rattle.wk_view_rules.specs.Views.{view, view_plan}
use Rattle.wk_view_rules.specs.Worlds.{Agrees, PageText, Read, is_read_of, of_world, page_of}
use Rattle.wk_view_rules.specs.declared.Kind.TheVariants.{View}
use Rattle.wk_view_laws.proofs.PlanLemmas.{agrees-itself}
use Rattle.wk_wiki_rules.specs.States.{State, world_of}
use Rattle.wk_wiki_rules.specs.Events.{Event, Save, Claim, Done, Back, Fan, step_by}
use Rattle.wk_wiki_rules.specs.Lives.{replay_from}
use Rattle.wk_wiki_laws.specs.WellFormed.{IsWellFormed}
use Rattle.wk_wiki_laws.proofs.Formed.{no-fewer, numbered, placed-in}
use Rattle.wk_wiki_laws.proofs.Histories.{history-saved, history-claimed, history-refreshed, history-given_back, history-fanned}
use Rattle.wk_wiki_laws.proofs.HonestReads.{IsHonest-stepped}
use Rattle.wk_wiki_rules.specs.Passes.{CacheEntry, shown_number}
use Rattle.wk_life_laws.specs.Caches.{IsLastingEntry, text_read}
use Rattle.wk_life_laws.proofs.CacheEntries.{first-is, text-read, viewed-read}
use Rattle.wk_life_laws.proofs.Marks.{Answered, exists-now, honest-now}
use Rattle.wk_life_laws.proofs.Told.{place_of}

-- ---- the number of a page

-- a page that exists is in the list
any-exists : (title : PageTitle) (pages : List Page) → not (eqb (unwrap_or (option_map (λ (page : Page). page.current) (find (λ (page : Page). title_eq page.title title) pages)) 0) 0) ≡ true
    → list_any (λ (page : Page). title_eq page.title title) pages ≡ true
any-exists title [] there = absurd (let e : false ≡ true = there in cc)
any-exists title (page ∷ pages) there = elim (cases_Bool (title_eq page.title title)) [
  | inl same ↦ rw same refl
  | inr differs ↦ rw differs (any-exists title pages (rw differs at there))
]

number-exists : (h : History) (title : PageTitle) → page_exists h title ≡ true → IsSome (page_number h title)
number-exists h title there = numbered title 0 h.pages ∙ any-exists title h.pages there

place-stays : (title other : PageTitle) (number : ℕ) (pages : List Page) → list_any (λ (page : Page). title_eq page.title other) pages ≡ true → place_of other (with_current pages title number) ≡ place_of other pages
place-stays title other number [] there = absurd (let e : false ≡ true = there in cc)
place-stays title other number (page ∷ pages) there = elim (cases_Bool (title_eq page.title title)) [
  | inl same ↦ rw same refl
  | inr differs ↦ rw differs (elim (cases_Bool (title_eq page.title other)) [
    | inl here ↦ rw here refl
    | inr later ↦ rw later (ap (λ n. 1 + n) (place-stays title other number pages (rw later at there)))
  ])
]

number-saved : (h : History) (title : PageTitle) (text : Option (List ℕ)) (moment : ℕ) (other : PageTitle) → IsSome (page_number h other) → page_number (saved h title text moment) other ≡ page_number h other
unfolding saved
number-saved h title text moment other some =
    let current = cond (is_some text) (next_revision h) 0 in
    let after = with_current h.pages title current in
    let there = sym (numbered other 0 h.pages) ∙ some in
    let within = placed-in other 0 h.pages ∙ there in
    let same = place-stays title other current h.pages there in
    let below : place_of other h.pages < length h.pages = ltb-true (place_of other h.pages) (length h.pages) within in
    let more = no-fewer title current h.pages in
    let within_after : ltb (place_of other after) (length after) ≡ true = lt-ltb (place_of other after) (length after) (omega (arith, same, below, more)) in
    ap (λ b. option_map (λ (n : ℕ). n + 1) (cond b (Some (place_of other after)) None)) within_after
    ∙ (ap (λ n. Some (n + 1)) same ∙ sym (ap (λ b. option_map (λ (n : ℕ). n + 1) (cond b (Some (place_of other h.pages)) None)) within))

number-same : (old later : History) (title : PageTitle) → later ≡ old → page_number later title ≡ page_number old title
number-same old later title same = ap (λ (h : History). page_number h title) same

number-stays : (most : ℕ) (state next : State) (journal : ℕ) (event : Event) (title : PageTitle) → step_by most state journal event ≡ Some next → IsSome (page_number state.history title) → page_number next.history title ≡ page_number state.history title
number-stays most state next journal (Save title text moment) other stepped some =
    number-same (saved state.history title text moment) next.history other (history-saved most state next journal title text moment stepped) ∙ number-saved state.history title text moment other some
number-stays most state next journal Claim other stepped some = number-same state.history next.history other (history-claimed most state next journal stepped)
number-stays most state next journal (Done ticket) other stepped some = number-same state.history next.history other (history-refreshed most state next journal ticket stepped)
number-stays most state next journal (Back ticket) other stepped some = number-same state.history next.history other (history-given_back most state next journal ticket stepped)
number-stays most state next journal Fan other stepped some = number-same state.history next.history other (history-fanned most state next journal stepped)

pub number-kept : (most : ℕ) (state next : State) (journal : ℕ) (event : Event) (title : PageTitle) (page : ℕ) → step_by most state journal event ≡ Some next → page_number state.history title ≡ Some page → page_number next.history title ≡ Some page
number-kept most state next journal event title page stepped is = number-stays most state next journal event title stepped (ap (λ o. is_some o) is) ∙ is

pub number-replayed : (most : ℕ) (start last : State) (journal : ℕ) (events : List Event) (title : PageTitle) (page : ℕ) → replay_from most start journal events ≡ Some last → page_number start.history title ≡ Some page → page_number last.history title ≡ Some page
number-replayed most start last journal [] title page replayed is =
    let same : start ≡ last = cc in subst (λ (s : State). page_number s.history title ≡ Some page) same is
number-replayed most start last journal (event ∷ events) title page replayed is =
    option_and_then_some (λ next. replay_from most next (journal + 1) events) (step_by most start journal event) last replayed
    (λ next stepped later. number-replayed most next last (journal + 1) events title page later (number-kept most start next journal event title page stepped is))

-- ---- entries

abbrev number_of : History → PageTitle → Option PageText → ℕ
number_of h title text = cond (is_some text) (unwrap_or (page_number h title) 0) 0

numbers-stay : (old later : History) (title : PageTitle) (text : Option PageText) → (IsSome text → page_number later title ≡ page_number old title) → number_of later title text ≡ number_of old title text
numbers-stay old later title None same = refl
numbers-stay old later title (Some p) same = ap (λ (o : Option ℕ). unwrap_or o 0) (same refl)

pub lasting-stepped : (most : ℕ) (state next : State) (journal : ℕ) (event : Event) (entry : CacheEntry) → step_by most state journal event ≡ Some next → IsLastingEntry state entry → IsLastingEntry next entry
lasting-stepped most state next journal event entry stepped lasting =
    let reading = entry.reading in
    let honest = lasting.honest in
    let same : IsSome (text_read entry) → page_number next.history reading.page ≡ page_number state.history reading.page =
    λ read. number-stays most state next journal event reading.page stepped (lasting.numbered read) in
    record {
      honest = record {
        own_text = honest.own_text;
        honest = IsHonest-stepped most state next journal event reading.reads stepped honest.honest;
        numbered = honest.numbered ∙ sym (numbers-stay state.history next.history reading.page (text_read entry) same);
      };
      numbered = λ read. subst IsSome (sym (same read)) (lasting.numbered read);
    }

pub lasting-replayed : (most : ℕ) (start last : State) (journal : ℕ) (events : List Event) (entry : CacheEntry) → replay_from most start journal events ≡ Some last → IsLastingEntry start entry → IsLastingEntry last entry
lasting-replayed most start last journal [] entry replayed lasting = let same : start ≡ last = cc in subst (λ (s : State). IsLastingEntry s entry) same lasting
lasting-replayed most start last journal (event ∷ events) entry replayed lasting =
    option_and_then_some (λ next. replay_from most next (journal + 1) events) (step_by most start journal event) last replayed
    (λ next stepped later. lasting-replayed most next last (journal + 1) events entry later (lasting-stepped most start next journal event entry stepped lasting))

pub lasting-made : (state : State) (entry : CacheEntry) → IsWellFormed state → entry.reading.given ≡ None → view (of_world (world_of state)) entry.reading.page ≡ done entry.reading.expanded entry.reading.reads
    → entry.reading.number ≡ shown_number state.history entry.reading.page → IsLastingEntry state entry
lasting-made state entry formed own_text end number =
    let reading = entry.reading in
    let pages = world_of state in
    let agrees : Agrees (of_world pages) reading.reads = subst (λ o. Agrees (of_world pages) (reads_of o)) end (agrees-itself (of_world pages) (view_plan reading.page) [] (All-nil (Answered pages))) in
    let text : text_read entry ≡ pages reading.page =
    first-is (Answered pages) (is_read_of reading.page View) (λ (r : Read). page_of r.answer) (pages reading.page) (text-read pages reading.page) reading.reads
    (recursion_from_All (Answered pages) reading.reads agrees) (viewed-read (of_world pages) reading.page reading.expanded reading.reads end) in
    let exists : page_exists state.history reading.page ≡ is_some (text_read entry) = exists-now state reading.page formed ∙ ap (λ (o : Option PageText). is_some o) (sym text) in
    record {
      honest = record {
        own_text = own_text;
        honest = honest-now state reading.reads agrees;
        numbered = number ∙ ap (λ b. cond b (unwrap_or (page_number state.history reading.page) 0) 0) exists;
      };
      numbered = λ read. number-exists state.history reading.page (exists ∙ read);
    }
