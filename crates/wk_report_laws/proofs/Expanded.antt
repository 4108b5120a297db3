-- The stored rows of all pages are those of new expansions where no job is left.
use Rattle.std.proofs.Common.{◌≡◌, ℕ, suc, ◌+◌, ◌-◌, eqb, false, List, [], ◌∷◌, map, Some, refl, ap, subst, arith}
use Rattle.std.specs.List.{enumerate_from}
use Rattle.std.specs.Prelude.{slice_get}
use Rattle.std.proofs.lemmas.Bool.{ne_eqb}
use Rattle.wk_page_rules.specs.History.{History, Page}
use Rattle.wk_wiki_rules.specs.States.{State, page_at, world_of}
use Rattle.wk_wiki_rules.specs.Soundness.{IsCurrent, IsSound}
use Rattle.wk_wiki_laws.proofs.Sound.{IsCurrent-at_rest}
use Rattle.wk_report_rules.specs.declared.Report.{Report}
use Rattle.wk_report_rules.specs.Pages.{expanded_pages, page_expanded, page_stored, stored_pages}
use Rattle.wk_report_rules.specs.Reports.{TitledRows, report_lines}

titled : (state : State) (number : ℕ) (page : Page) → IsCurrent state number page → page_stored state (number, page) ≡ page_expanded state (number, page)
titled state number page current = λ i. record { title = page.title; rows = current i }

all-from : (state : State) (pages : List Page) (n : ℕ) → ((place : ℕ) (page : Page) → slice_get pages place ≡ Some page → IsCurrent state (n + place) page)
    → map (page_stored state) (enumerate_from n pages) ≡ map (page_expanded state) (enumerate_from n pages)
all-from state [] n current = refl
all-from state (page ∷ pages) n current =
    let here : IsCurrent state n page = subst (λ (m : ℕ). IsCurrent state m page) (omega arith) (current 0 page refl) in
    let later : map (page_stored state) (enumerate_from (n + 1) pages) ≡ map (page_expanded state) (enumerate_from (n + 1) pages) =
    all-from state pages (n + 1) (λ place other is. subst (λ (m : ℕ). IsCurrent state m other) (omega arith) (current (suc place) other is))
    in
    λ i. titled state n page here i ∷ later i

page-at : (h : History) (place : ℕ) (page : Page) → slice_get h.pages place ≡ Some page → page_at h (1 + place) ≡ Some page
page-at h place page is =
    let positive : eqb (1 + place) 0 ≡ false = ne_eqb (1 + place) 0 (λ e. omega (arith, e)) in
    let same : (1 + place) - 1 ≡ place = omega arith in
    rw (positive, same) is

pages-at_rest : (state : State) → IsSound state → state.jobs.refreshes ≡ [] → state.jobs.fans ≡ [] → stored_pages state ≡ expanded_pages state
pages-at_rest state sound refreshes fans =
    all-from state state.history.pages 1 (λ place page is. IsCurrent-at_rest state sound refreshes fans (1 + place) page (page-at state.history place page is))

pub lines-at_rest : (state : State) (which : Report) (most : ℕ) → IsSound state → state.jobs.refreshes ≡ [] → state.jobs.fans ≡ []
    → report_lines which (world_of state) (stored_pages state) most ≡ report_lines which (world_of state) (expanded_pages state) most
lines-at_rest state which most sound refreshes fans =
    ap (λ (pages : List TitledRows). report_lines which (world_of state) pages most) (pages-at_rest state sound refreshes fans)
