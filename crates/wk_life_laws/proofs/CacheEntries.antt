-- What a cache keeps of a page, where each of its reads is current.
use Rattle.std.proofs.Common.{◌≡◌, Bool, true, false, cond, List, [], ◌∷◌, length, Option, Some, None, sym, ap, ap₂, ◌∙◌, subst, inl, inr, arith, unwrap_or}
use Rattle.std.specs.Prelude.{All, find, is_some, option_and_then}
use Rattle.std.specs.List.{AllByRecursion, list_any}
use Rattle.std.proofs.lemmas.Bool.{cases_Bool}
use Rattle.std.proofs.lemmas.List.Elements.{recursion_from_All}
use Rattle.wk_text_rules.specs.Titles.{PageTitle, title_eq}
use Rattle.wk_page_rules.specs.History.{page_number}
use Rattle.wk_view_rules.specs.Plans.{done, need, noted, reads_of}
use Rattle.wk_view_rules.specs.Views.{Expanded, view, view_plan}
use Rattle.wk_view_rules.specs.Worlds.{Answer, Read, Source, World, answer_in, ask, fits_kind, is_read_of, kind_eq, page_of}
use Rattle.wk_view_rules.specs.declared.Kind.TheVariants.{View}
use Rattle.wk_view_laws.proofs.PlanLemmas.{both_parts, kind_eq-true, met, noted-has, reads-run, run-asks, title_eq-true}
use Rattle.wk_view_laws.proofs.ViewLemmas.{after_view}
use Rattle.wk_wiki_rules.specs.States.{State, world_of}
use Rattle.wk_wiki_laws.specs.WellFormed.{IsWellFormed}
use Rattle.wk_wiki_rules.specs.Passes.{CacheEntry, IsHonestEntry, IsReadAt, PassSeen, drafted_in, state_seen}
use Rattle.wk_wiki_rules.specs.Staleness.{first_stale}
use Rattle.wk_life_laws.proofs.Marks.{Answered, agrees-now, answered, drafted-now, exists-now}

-- a view that is done has read the page's own text
pub viewed-read : (a : Source) (title : PageTitle) (x : Expanded) (seen : List Read) → view a title ≡ done x seen → list_any (is_read_of title View) seen ≡ true
unfolding view_plan
viewed-read a title x seen end = by (ask a title View) (sym (run-asks a title View (after_view title) []) ∙ end)
  where
    by : (o : Option Answer) → met a title View (after_view title) [] o ≡ done x seen → list_any (is_read_of title View) seen ≡ true
    by None is = absurd (let e : need title View [] ≡ done x seen = is in cc)
    by (Some answer) is =
        let r : Read = record { title = title; kind = View; answer = answer } in
        let there = reads-run a (after_view title answer) (noted [] r) title View (noted-has [] r) in
        subst (λ o. list_any (is_read_of title View) (reads_of o) ≡ true) is there

module _ {X Y : Type 0} (P : X → Type 0) (p : X → Bool) (f : X → Option Y) (y : Option Y) (each : (x : X) → P x → p x ≡ true → f x ≡ y) where
  pub first-is : (xs : List X) → AllByRecursion P xs → list_any p xs ≡ true → option_and_then f (find p xs) ≡ y
  first-is [] all there = absurd (let e : false ≡ true = there in cc)
  first-is (x ∷ xs) all there = elim (cases_Bool (p x)) [
    | inl here ↦ rw here (each x all.0 here)
    | inr later ↦ rw later (first-is xs all.1 (rw later at there))
  ]

-- the text that was read of a page is the one that it has in each world that answers so
pub text-read : (pages : World) (title : PageTitle) (r : Read) → Answered pages r → is_read_of title View r ≡ true → page_of r.answer ≡ pages title
text-read pages title r agrees here =
    let parts = both_parts (title_eq r.title title) (kind_eq r.kind View) here in
    ap page_of (sym (answered pages r agrees))
    ∙ ap₂ (λ t k. page_of (answer_in pages t k)) (title_eq-true r.title title parts.0) (kind_eq-true r.kind View parts.1)

pub entry-right : (pass : PassSeen) (state : State) (a : Source) (entry : CacheEntry) → state_seen pass (length pass.journal) ≡ Some state → IsWellFormed state → IsHonestEntry state entry
    → view a entry.reading.page ≡ done entry.reading.expanded entry.reading.reads → All (λ (r : Read). fits_kind r.kind r.answer ≡ true) entry.reading.reads
    → first_stale (world_of state) entry.reading.reads ≡ None → IsReadAt pass (record entry.reading { point = length pass.journal })
entry-right pass state a entry at formed_state entry_honest end formed none =
    let reading = entry.reading in
    let pages = world_of state in
    let agrees = recursion_from_All (Answered pages) reading.reads (agrees-now state reading.reads entry_honest.honest formed none) in
    let text = first-is (Answered pages) (is_read_of reading.page View) (λ (r : Read). page_of r.answer) (pages reading.page) (text-read pages reading.page) reading.reads agrees
    (viewed-read a reading.page reading.expanded reading.reads end) in
    record {
      state = state;
      seen = omega arith;
      at = at;
      drafted = subst (λ given. drafted_in pages reading.page given ≡ done reading.expanded reading.reads) (sym entry_honest.own_text)
          (drafted-now state a reading.page reading.expanded reading.reads end entry_honest.honest formed none);
      numbered = entry_honest.numbered
          ∙ ap (λ b. cond b (unwrap_or (page_number state.history reading.page) 0) 0) (ap (λ o. is_some o) text ∙ sym (exists-now state reading.page formed_state));
    }
