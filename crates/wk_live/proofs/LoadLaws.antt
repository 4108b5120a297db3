-- The jobs of good tables, as a wiki that is opened over them has them.
use Rattle.std.proofs.Common.{◌≡◌, ℕ, zero, suc, ◌+◌, ◌-◌, ◌≤◌, ◌^◌, true, eqb, [], ◌∷◌, ◌++◌, length, refl, sym, ap, ◌∙◌, arith}
use Rattle.std.specs.List.{range_with_len}
use Rattle.std.proofs.lemmas.List.{length-map}
use Rattle.std.proofs.lemmas.List.Sums.{fold-append}
use Rattle.wk_page_rules.specs.Verdict.{max_pages}
use Rattle.wk_table_rules.specs.Rows.{StoreTables}
use Rattle.wk_table_rules.specs.GoodStore.{IsGood, job_bound}
use Rattle.wk_table_rules.specs.Stored.{page_of_row}
use Rattle.wk_table_laws.proofs.FirstBad.{KeepsRules-from_good}
use Rattle.wk_wiki_rules.specs.Jobs.{JobLists, refresh_queued}
use Rattle.wk_wiki_rules.specs.Steps.{all_queued, jobs_of_tables, reopened_jobs}
use Rattle.wk_wiki_rules.specs.States.{State}
use Rattle.wk_wiki_rules.specs.Tables.{state_of}
use Rattle.wk_wiki_rules.specs.Lives.{opened}
use Rattle.wk_wiki_laws.proofs.KeptStates.{few-pages}
use Rattle.wk_wiki_laws.proofs.ReadBack as back
use Rattle.wk_wiki_laws.proofs.GoodJobs.{jobs-of-good}
use Rattle.wk_wiki_laws.proofs.StoresOpened as stores

-- ---- pages in their order

range-more : (a n : ℕ) → range_with_len a (suc n) ≡ range_with_len a n ++ (a + n) ∷ []
range-more a zero = let same : a ≡ a + 0 = omega arith in ap (λ k. k ∷ []) same
range-more a (suc n) =
    let same : (a + 1) + n ≡ a + suc n = omega arith in
    ap (λ ks. a ∷ ks) (range-more (a + 1) n ∙ ap (λ k. range_with_len (a + 1) n ++ k ∷ []) same)

pub queued-more : (lists : JobLists) (n : ℕ) → all_queued lists (range_with_len 1 (n + 1)) ≡ refresh_queued (all_queued lists (range_with_len 1 n)) (n + 1)
queued-more lists n =
    let next : n + 1 ≡ suc n = omega arith in
    let same : 1 + n ≡ n + 1 = omega arith in
    ap (λ k. all_queued lists (range_with_len 1 k)) next
    ∙ (ap (all_queued lists) (range-more 1 n ∙ ap (λ k. range_with_len 1 n ++ k ∷ []) same)
    ∙ fold-append refresh_queued lists (range_with_len 1 n) ((n + 1) ∷ []))

-- ---- good tables

-- a restart changes nothing in the jobs of good tables
pub jobs-stand : (tables : StoreTables) → IsGood tables → reopened_jobs (jobs_of_tables tables) ≡ jobs_of_tables tables
jobs-stand tables good =
    ap (λ (state : State). state.jobs) (sym (back.state-back (state_of tables) (stores.kept-good tables good)) ∙ ap state_of (stores.state-back tables good))

pub pages-fit : (tables : StoreTables) → IsGood tables → length tables.pages ≤ max_pages
pages-fit tables good =
    let low = few-pages (state_of tables).history (stores.kept-good tables good).history in
    let same : length (state_of tables).history.pages ≡ length tables.pages = length-map tables.pages page_of_row in
    omega (arith, low, same)

pub numbers-fit : (tables : StoreTables) → IsGood tables → eqb tables.version 1 ≡ true → (reopened_jobs (jobs_of_tables tables)).next + length tables.pages ≤ 2 ^ 63
numbers-fit tables good first =
    let is : job_bound tables.version ≡ 2 ^ 63 - 1000000 = rw first refl in
    let jobs = jobs-of-good tables (2 ^ 63 - 1000000) is (omega arith) (KeepsRules-from_good tables good).jobs in
    let next = jobs.next in
    let same : (reopened_jobs (jobs_of_tables tables)).next ≡ (jobs_of_tables tables).next = ap (λ (lists : JobLists). lists.next) (jobs-stand tables good) in
    let few = pages-fit tables good in
    omega (arith, next, same, few)

-- ---- the jobs of a wiki that is opened

pub first-opened : (tables : StoreTables) → IsGood tables → eqb tables.version 1 ≡ true
    → reopened_jobs (all_queued (reopened_jobs (jobs_of_tables tables)) (range_with_len 1 (length tables.pages))) ≡ (opened tables).jobs
first-opened tables good first =
    let pages : length tables.pages ≡ length (state_of tables).history.pages = sym (length-map tables.pages page_of_row) in
    let here : reopened_jobs (all_queued (jobs_of_tables tables) (range_with_len 1 (length (state_of tables).history.pages))) ≡ (opened tables).jobs = rw first refl in
    ap (λ (lists : JobLists). reopened_jobs (all_queued lists (range_with_len 1 (length tables.pages)))) (jobs-stand tables good)
    ∙ (ap (λ n. reopened_jobs (all_queued (jobs_of_tables tables) (range_with_len 1 n))) pages ∙ here)
