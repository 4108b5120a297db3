-- The page whose job a ticket claims.
use Rattle.std.proofs.Common.{◌≡◌, ℕ, true, false, eqb, ◌&&◌, List, [], ◌∷◌, Option, Some, None, refl, inl, inr}
use Rattle.std.specs.Prelude.{find, option_map}
use Rattle.std.specs.List.{list_any}
use Rattle.std.proofs.lemmas.Bool.{cases_Bool, eq-eqb, or_right}
use Rattle.wk_wiki_rules.specs.Jobs.{JobLists, RefreshEntry, has_claimed, is_claimed, is_held_by, page_held_by}

held-claimed : (ticket : ℕ) (job : RefreshEntry) → is_held_by ticket job ≡ true → is_claimed job ≡ true
held-claimed ticket job held = by job.ticket refl
  where
    by : (o : Option ℕ) → job.ticket ≡ o → is_claimed job ≡ true
    by None is = absurd (let e : false ≡ true = rw is at held in cc)
    by (Some t) is = rw is refl

claimed-among : (ticket page : ℕ) (jobs : List RefreshEntry) → option_map (λ (job : RefreshEntry). job.page) (find (is_held_by ticket) jobs) ≡ Some page
    → list_any (λ (job : RefreshEntry). eqb job.page page && is_claimed job) jobs ≡ true
claimed-among ticket page [] there = absurd (let e : None ≡ Some page = there in cc)
claimed-among ticket page (job ∷ jobs) there = elim (cases_Bool (is_held_by ticket job)) [
  | inl held ↦
      let own : Some job.page ≡ Some page = rw held at there in
      let same : job.page ≡ page = cc in
      let equal : eqb job.page page ≡ true = eq-eqb job.page page same in
      let claimed = held-claimed ticket job held in
      rw (equal, claimed) refl
  | inr other ↦
      or_right (eqb job.page page && is_claimed job) (list_any (λ (job : RefreshEntry). eqb job.page page && is_claimed job) jobs)
      (claimed-among ticket page jobs (rw other at there))
]

pub held-is-claimed : (lists : JobLists) (ticket page : ℕ) → page_held_by lists ticket ≡ Some page → has_claimed lists page ≡ true
held-is-claimed lists ticket page there = claimed-among ticket page lists.refreshes there
