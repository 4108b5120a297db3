use Rattle.std.proofs.Common.{◌≡◌, ℕ, Bool, true, false, eqb, not, List, [], ◌∷◌, length, get_or, take, refl, sym, ap, ◌∙◌, inl, inr, arith}
use Rattle.std.specs.Prelude.{count_by, find, is_some}
use Rattle.std.specs.List.{list_any}
use Rattle.std.proofs.lemmas.Bool.{cases_Bool}
use Rattle.std.proofs.lemmas.List.Sums.{count_by_more_no, count_by_more_yes}
use Rattle.std.proofs.Math.Seq.{take-length}
use Rattle.wk_wiki_rules.specs.Jobs.{RefreshEntry, has_refresh}
use Rattle.wk_core.proofs.fans.count_new.Goals as goal
use Rattle.wk_core.proofs.fans.count_new.Goals.{then-is_none, else-is_none}

found-any : (p : RefreshEntry → Bool) (jobs : List RefreshEntry) → is_some (find p jobs) ≡ list_any p jobs
found-any p [] = refl
found-any p (job ∷ jobs) = elim (cases_Bool (p job)) [ inl fits ↦ rw fits refl | inr fails ↦ rw fails (found-any p jobs) ]

pub loop-page-init : goal.loop-page-init
loop-page-init c = (refl, omega arith)

pub overflow_add-count : goal.overflow_add-count
overflow_add-count c =
    let few = c.loop-page.invariant.1 in
    let within = c.loop-page-test.true in
    let all = c.requires in
    omega (arith, few, within, all)

pub loop-page-preserved : goal.loop-page-preserved
loop-page-preserved c =
    let pages = c.args.pages.now in
    let k = c.loop-page.page-index in
    let is_new = λ (page : ℕ). not (has_refresh c.args.jobs.now.lists page) in
    let there = c.loop-page-test.true in
    let before = c.loop-page.invariant.0 in
    let few = c.loop-page.invariant.1 in
    let found = ap is_some c.refresh_job.ensures ∙ found-any (λ (job : RefreshEntry). eqb job.page (get_or pages k 0)) c.args.jobs.now.lists.refreshes in
    elim c.if-is_none.branch [
      | then-is_none w ↦
          let none : is_new (get_or pages k 0) ≡ true = ap not (sym found) ∙ (ap not c.is_none.ensures ∙ ap (λ b. not (not b)) w.if-is_none.true) in
          let more = count_by_more_yes is_new pages k 0 there none in
          let now = w.count-is in
          (omega (arith, more, before, now), omega (arith, few, now))
      | else-is_none w ↦
          let some : is_new (get_or pages k 0) ≡ false = ap not (sym found) ∙ (ap not c.is_none.ensures ∙ ap (λ b. not (not b)) w.if-is_none.false) in
          let more = count_by_more_no is_new pages k 0 there some in
          let now = w.count-is in
          (omega (arith, more, before, now), omega (arith, few, now))
    ]

pub returns : goal.returns
returns c =
    let all : c.loop-page.page-index ≡ length c.args.pages.now = (let past = c.loop-page-test.false in let within = c.loop-page.auto.page-index-end in omega (arith, past, within)) in
    c.loop-page.invariant.0 ∙ ap (count_by (λ (page : ℕ). not (has_refresh c.args.jobs.now.lists page))) (ap (λ n. take n c.args.pages.now) all ∙ take-length c.args.pages.now)
