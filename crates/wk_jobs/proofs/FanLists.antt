-- The fan jobs as they are held: what the lists are where a title's job begins anew.
use Rattle.std.proofs.Common.{◌≡◌, ℕ, ℤ, zero, suc, ◌<◌, true, false, List, [], ◌∷◌, ◌++◌, length, map, get_or, set, drop, refl, sym, ap, ◌∙◌, inl, inr, subst, arith}
use Rattle.std.specs.Prelude.{bytes_eq}
use Rattle.std.specs.Ordering.{int_eq}
use Rattle.std.specs.List.{AllByRecursion, IsDistinct, list_any, remove}
use Rattle.std.proofs.lemmas.Bool.{cases_Bool, and_parts, or_parts, both_ways, false_from_ne_true}
use Rattle.std.proofs.lemmas.List.{map-append}
use Rattle.std.proofs.lemmas.Slice.Eq.{bytes_eq-Decides}
use Rattle.std.proofs.lemmas.Bool.Decides.{Decides-int_eq}
use Rattle.wk_text_rules.specs.Titles.{PageTitle, title_eq}
use Rattle.wk_page_rules.specs.declared.Reach.{Reach}
use Rattle.wk_wiki_rules.proofs.JobLemmas.{IsOneATitle-set, IsOneATitle-moved, IsOneATitle-dropped}
use Rattle.wk_wiki_rules.proofs.Lists.{IsDistinct-push, list_any-map}
use Rattle.wk_wiki_rules.specs.Jobs.{FanEntry, JobLists, set_anew, wider, with_first_cursor}

abbrev pub TitlesApart : List FanEntry → Type 0
TitlesApart jobs = IsDistinct title_eq (map (λ (job : FanEntry). job.title) jobs)

abbrev titled : ℤ → List ℕ → PageTitle
titled ns key = record { ns = ns; key = key }

pub title_eq-true : (a b : PageTitle) → title_eq a b ≡ true → a ≡ b
title_eq-true a b e =
    let parts = and_parts (int_eq a.ns b.ns) (bytes_eq a.key b.key) e in
    ap (λ ns. titled ns a.key) ((Decides-int_eq a.ns b.ns).0 parts.0) ∙ ap (titled b.ns) ((bytes_eq-Decides a.key b.key).0 parts.1)

-- a title apart from one that is the same as the sought one isn't the sought one
apart-too : (a b title : PageTitle) → title_eq a b ≡ false → title_eq a title ≡ true → title_eq b title ≡ false
apart-too a b title apart same = false_from_ne_true (title_eq b title) (λ other.
    both_ways (title_eq a b) apart (subst (λ t. title_eq a t ≡ true) (sym (title_eq-true b title other)) same))

no-title : (own title : PageTitle) (jobs : List FanEntry) → AllByRecursion (λ other. title_eq own other ≡ false) (map (λ (job : FanEntry). job.title) jobs) → title_eq own title ≡ true
    → list_any (λ job. title_eq job.title title) jobs ≡ false
no-title own title [] apart same = refl
no-title own title (job ∷ jobs) apart same = rw (apart-too own job.title title apart.0 same) (no-title own title jobs apart.1 same)

module _ (title : PageTitle) (reach : Reach) where
  pub anew-none : (jobs : List FanEntry) → list_any (λ job. title_eq job.title title) jobs ≡ false → map (set_anew title reach) jobs ≡ jobs
  anew-none [] none = refl
  anew-none (job ∷ jobs) none =
      let parts = or_parts (title_eq job.title title) (list_any (λ other. title_eq other.title title) jobs) none in
      rw (parts.0, anew-none jobs parts.1) refl

  pub anew-set : (jobs : List FanEntry) (k : ℕ) (d : FanEntry) → k < length jobs → title_eq (get_or jobs k d).title title ≡ true → ((j : ℕ) → j < k → title_eq (get_or jobs j d).title title ≡ false)
      → TitlesApart jobs → set jobs k (record (get_or jobs k d) { reach = wider (get_or jobs k d).reach reach; cursor = 0 }) ≡ map (set_anew title reach) jobs
  unfolding IsDistinct
  anew-set [] k d inside here before apart = absurd (omega arith)
  anew-set (job ∷ jobs) zero d inside here before apart = rw (here, anew-none jobs (no-title job.title title jobs apart.0 here)) refl
  anew-set (job ∷ jobs) (suc k) d inside here before apart =
      let other : title_eq job.title title ≡ false = before zero (omega arith) in
      rw (other, ← anew-set jobs k d (omega arith) here (λ j l. before (suc j) (omega arith)) apart.1) refl

pub moved-first : (jobs : List FanEntry) (cursor : ℕ) (d : FanEntry) → 0 < length jobs → set jobs 0 (record (get_or jobs 0 d) { cursor = cursor }) ≡ with_first_cursor jobs cursor
moved-first [] cursor d some = absurd (omega arith)
moved-first (job ∷ jobs) cursor d some = refl

pub removed-first : (jobs : List FanEntry) → 0 < length jobs → remove jobs 0 ≡ drop 1 jobs
removed-first [] some = absurd (omega arith)
removed-first (job ∷ jobs) some = refl

abbrev lists_of : List FanEntry → JobLists
lists_of jobs = record { refreshes = []; fans = jobs; next = 0 }

pub TitlesApart-pushed : (jobs : List FanEntry) (new : FanEntry) → list_any (λ other. title_eq other.title new.title) jobs ≡ false → TitlesApart jobs → TitlesApart (jobs ++ new ∷ [])
TitlesApart-pushed jobs new none apart =
    rw (map-append (λ (job : FanEntry). job.title) jobs (new ∷ []))
    (IsDistinct-push title_eq (map (λ (job : FanEntry). job.title) jobs) new.title apart (list_any-map (λ other. title_eq other new.title) (λ (job : FanEntry). job.title) jobs ∙ none))

pub TitlesApart-moved : (jobs : List FanEntry) (cursor : ℕ) → TitlesApart jobs → TitlesApart (with_first_cursor jobs cursor)
TitlesApart-moved jobs cursor apart = IsOneATitle-moved (lists_of jobs) cursor apart

pub TitlesApart-behind : (jobs : List FanEntry) → TitlesApart jobs → TitlesApart (drop 1 jobs)
TitlesApart-behind jobs apart = IsOneATitle-dropped (lists_of jobs) apart

-- whether or not the title has a job
pub TitlesApart-anew : (jobs : List FanEntry) (title : PageTitle) (reach : Reach) → TitlesApart jobs → TitlesApart (map (set_anew title reach) jobs)
TitlesApart-anew jobs title reach apart = elim (cases_Bool (list_any (λ job. title_eq job.title title) jobs)) [
  | inl there ↦ let set = IsOneATitle-set (lists_of jobs) title reach apart in rw there at set
  | inr none ↦ subst TitlesApart (sym (anew-none title reach jobs none)) apart
]
