-- What holds of a fan.
use Rattle.std.proofs.Common.{◌≡◌, ℕ, ◌≤◌, ◌<◌, ◌^◌, Bool, false, ◌&&◌, eqb, not, List, [], ◌∷◌, length, Option, Some, None, refl, sym, ap, ◌∙◌, subst, arith}
use Rattle.std.proofs.lemmas.List.{length-take}
use Rattle.std.specs.List.{enumerate_from}
use Rattle.std.specs.Prelude.{count_by, filter, map, nat_lt, option_map, slice_get, IsSome}
use Rattle.wk_text_rules.specs.Titles.{PageTitle}
use Rattle.wk_page_rules.specs.PageRows.{PageRows, names}
use Rattle.wk_page_rules.specs.declared.Reach.{Reach}
use Rattle.wk_table_rules.specs.Changes.{TableEdit}
use Rattle.wk_wiki_rules.specs.Jobs.{FanEntry, JobLists, first_fan, has_refresh}
use Rattle.wk_wiki_rules.specs.Steps.{cursor_behind, fan_pages, next_served}
use Rattle.wk_wiki_rules.specs.Users.{users}
use Rattle.wk_wiki_rules.specs.States.{State}
use Rattle.wk_wiki_rules.specs.Events.{Fan}
use Rattle.wk_wiki_rules.specs.Tables.{tables_of}
use Rattle.wk_wiki_rules.specs.Fans.{FanOutcome, fan_outcome, next_fan_outcome}
use Rattle.wk_wiki_rules.specs.Room.{is_fan_refused}
use Rattle.wk_wiki_rules.specs.TableChanges.{fan_change}
use Rattle.wk_wiki_laws.specs.Makes.{Makes}
use Rattle.wk_wiki_laws.proofs.ChangesMade.{fan-step}
use Rattle.wk_life_laws.specs.Lives.{Life, IsLife, journal_of, start_of}
use Rattle.wk_life_laws.specs.Next.{IsNext}
use Rattle.wk_life_laws.proofs.RunFacts.{run_kept}
use Rattle.wk_life_laws.proofs.RunRoom.{not_full_only}
use Rattle.wk_live.specs.Fanned.{IsNextServed}

pub fan-there : (lists : JobLists) → IsSome (first_fan lists) → (fan : FanEntry) × (first_fan lists ≡ Some fan)
fan-there lists there = by (first_fan lists) there
  where
    by : (o : Option FanEntry) → IsSome o → (fan : FanEntry) × (o ≡ Some fan)
    by None none = absurd cc
    by (Some fan) some = (fan, refl)

pub fans-there : (fans : List FanEntry) → IsSome (slice_get fans 0) → 0 < length fans
fans-there [] none = absurd cc
fans-there (fan ∷ fans) some = omega arith

users-few : (stored : List PageRows) (title : PageTitle) (reach : Reach) (above most : ℕ) → length (users stored title reach above most) ≤ most
unfolding users
users-few stored title reach above most =
    let taken = length-take most (map (λ (page : ℕ × PageRows). page.0) (filter (λ (page : ℕ × PageRows). nat_lt above page.0 && names page.1 title reach) (enumerate_from 1 stored))) in
    omega (arith, taken)

module _ (state : State) (served : List ℕ) (is_last : Bool) (serves : IsNextServed state fan_pages served is_last) (there : IsSome (first_fan state.jobs)) where
  pub served-few : length served ≤ 300
  served-few =
      let fan = fan-there state.jobs there in
      subst (λ pages. length pages ≤ 300) (sym (serves fan.0 fan.1).0) (users-few state.stored fan.0.title fan.0.reach fan.0.cursor fan_pages)

  pub served-last : (fan : FanEntry) → first_fan state.jobs ≡ Some fan
      → is_last ≡ eqb (length (users state.stored fan.title fan.reach (cursor_behind (next_served state.stored fan_pages fan) fan.cursor) 1)) 0
  served-last fan first =
      (serves fan first).1 ∙ ap (λ pages. eqb (length (users state.stored fan.title fan.reach (cursor_behind pages fan.cursor) 1)) 0) (serves fan first).0

  pub served-told : (fan : FanEntry) (told : FanOutcome) → first_fan state.jobs ≡ Some fan → told.title ≡ fan.title → told.served ≡ length served
      → told.queued ≡ count_by (λ page. not (has_refresh state.jobs page)) served → Some told ≡ next_fan_outcome fan_pages state
  served-told fan told first title many new =
      let pages = (serves fan first).0 in
      let all : told ≡ fan_outcome fan_pages state fan = λ i. record {
        title = title i;
        served = (many ∙ ap length pages) i;
        queued = (new ∙ ap (count_by (λ page. not (has_refresh state.jobs page))) pages) i;
      } in
      ap (λ o. Some o) all ∙ sym (ap (option_map (fan_outcome fan_pages state)) first)

module _ (life : Life) (is : IsLife life) (free : is_fan_refused life.limits life.state (length (journal_of life)) ≡ false) where
  pub fan-numbers : life.state.jobs.next ≤ 2 ^ 62
  fan-numbers = (not_full_only life.limits life.state (length (journal_of life)) free).1

  pub fan-changes : (next : Life) (change : List TableEdit) → IsSome (first_fan life.state.jobs) → IsNext life Fan next
      → ((fan : FanEntry) → first_fan life.state.jobs ≡ Some fan → change ≡ fan_change fan_pages life.state fan)
      → Makes (tables_of life.state) change (tables_of next.state)
  fan-changes next change there made is_change =
      let fan = fan-there life.state.jobs there in
      subst (λ c. Makes (tables_of life.state) c (tables_of next.state)) (sym (is_change fan.0 fan.1))
      (fan-step fan_pages life.state next.state (length (journal_of life)) fan.0 (run_kept (start_of life) (journal_of life) life.state is.run) fan.1 made.done)
