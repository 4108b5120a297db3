-- What holds of a save that is accepted.
use Rattle.std.proofs.Common.{◌≡◌, ℕ, ◌+◌, ◌<◌, ◌^◌, Bool, true, false, cond, ltb, List, length, Option, Some, None, refl, sym, ◌∙◌, inl, inr, subst, arith}
use Rattle.std.specs.Prelude.{is_some}
use Rattle.std.specs.List.{list_any, position_or_len}
use Rattle.std.proofs.lemmas.Bool.{cases_Bool}
use Rattle.wk_text_rules.specs.Titles.{PageTitle, title_eq}
use Rattle.wk_page_rules.specs.History.{History, Page, can_save, page_number}
use Rattle.wk_page_rules.specs.Verdict.{max_pages}
use Rattle.wk_wiki_rules.specs.Steps.{fan_pages}
use Rattle.wk_wiki_rules.specs.Events.{Save}
use Rattle.wk_wiki_rules.specs.Tables.{tables_of}
use Rattle.wk_wiki_rules.specs.Verdicts.{journal_use}
use Rattle.wk_wiki_laws.proofs.Formed.{placed-in}
use Rattle.wk_wiki_laws.proofs.KeptStates.{accepted, LeavesRoom}
use Rattle.wk_wiki_rules.specs.TableChanges.{save_change}
use Rattle.wk_wiki_laws.specs.Makes.{Makes}
use Rattle.wk_wiki_laws.proofs.ChangesMade.{save-step}
use Rattle.wk_life_laws.proofs.Accepted.{can_save-verdict}
use Rattle.wk_life_laws.specs.Lives.{Life, IsLife, journal_of, start_of}
use Rattle.wk_life_laws.specs.Next.{IsNext}
use Rattle.wk_life_laws.proofs.RunFacts.{run_kept}
use Rattle.wk_live.specs.Wanted.{fan_of_save}
use Rattle.wk_revs.specs.Standing.{standing}
use Rattle.wk_core.specs.Accepted.{IsAccepted}
use Rattle.wk_core.specs.LifeHeld.{LifeHeld}
use Rattle.wk_core.specs.PlanShown.{PlanShown}

-- ---- the page of a title that has none is a new one

new-title : (h : History) (title : PageTitle) → page_number h title ≡ None → list_any (λ (page : Page). title_eq page.title title) h.pages ≡ false
new-title h title none = elim (cases_Bool (list_any (λ (page : Page). title_eq page.title title) h.pages)) [
  | inl there ↦
      let placed : ltb (position_or_len (λ (page : Page). title_eq page.title title) h.pages) (length h.pages) ≡ true = placed-in title 0 h.pages ∙ there in
      let some : Some (position_or_len (λ (page : Page). title_eq page.title title) h.pages + 1) ≡ None = rw placed at none in
      absurd cc
  | inr not_there ↦ not_there
]

-- ---- what is accepted

module _ (life : Life) (is : IsLife life) (title : PageTitle) (text : Option (List ℕ)) (accepts : IsAccepted life title text) where
  leaves-room : LeavesRoom life.state title text
  leaves-room = accepted life.limits is.run.full life.state (length (journal_of life)) accepts.edit title text accepts.is

  pub save-possible : can_save life.state.history title text ≡ true
  save-possible = can_save-verdict life.state.history life.limits (journal_use life.state (length (journal_of life))) accepts.edit title text accepts.is

  pub save-fits : page_number life.state.history title ≡ None → length life.state.history.pages < max_pages
  save-fits none = let more = leaves-room.pages (new-title life.state.history title none) in omega (arith, more)

  pub save-numbers : life.state.jobs.next + 1 < 2 ^ 63
  save-numbers = let low = leaves-room.next in omega (arith, low)

  pub save-number : life.state.jobs.next < 2 ^ 63
  save-number = let low = leaves-room.next in omega (arith, low)

  pub save-changes : (next : Life) (moment : ℕ) → IsNext life (Save title text moment) next → Makes (tables_of life.state) (save_change life.state title text moment) (tables_of next.state)
  save-changes next moment made =
      save-step fan_pages life.state next.state (length (journal_of life)) title text moment (run_kept (start_of life) (journal_of life) life.state is.run) made.done

-- ---- a plan, by its parts

module _ (held seen : LifeHeld) (parts plan : PlanShown) (same : held ≡ seen) (is : parts ≡ plan) where
  pub parts-accepted : IsAccepted seen.life plan.title plan.text → IsAccepted held.life parts.title parts.text
  parts-accepted accepts =
      subst (λ (p : PlanShown). IsAccepted held.life p.title p.text) (sym is)
      (subst (λ (h : LifeHeld). IsAccepted h.life plan.title plan.text) (sym same) accepts)

  pub parts-stand : plan.standing ≡ standing seen.life.state.history plan.title → parts.standing ≡ standing held.life.state.history parts.title
  parts-stand stands =
      subst (λ (p : PlanShown). p.standing ≡ standing held.life.state.history p.title) (sym is)
      (subst (λ (h : LifeHeld). plan.standing ≡ standing h.life.state.history plan.title) (sym same) stands)

  pub parts-fan : (fan : Option PageTitle) → fan ≡ fan_of_save seen.life.state plan.title plan.text → fan ≡ fan_of_save held.life.state parts.title parts.text
  parts-fan fan wanted =
      subst (λ (p : PlanShown). fan ≡ fan_of_save held.life.state p.title p.text) (sym is)
      (subst (λ (h : LifeHeld). fan ≡ fan_of_save h.life.state plan.title plan.text) (sym same) wanted)

-- ---- the title of a fan job, where one is wanted

pub wanted-fan : (wanted : Bool) (title : PageTitle) → is_some (cond wanted (Some title) None) ≡ wanted
wanted-fan true title = refl
wanted-fan false title = refl
