-- Pages that are generated, one after the other.
use Rattle.std.proofs.Common.{◌≡◌, ℕ, suc, ◌+◌, ◌-◌, ◌≤◌, ◌<◌, List, [], ◌∷◌, ◌++◌, length, take, Option, Some, None, refl, sym, ap, ◌∙◌, subst, append_assoc, arith}
use Rattle.std.specs.Prelude.{IfSome, slice_get}
use Rattle.std.specs.List.{range_with_len}
use Rattle.std.proofs.lemmas.List.{append-nil, take_at}
use Rattle.wk_table_rules.specs.Rows.{StoreTables}
use Rattle.wk_page_rules.specs.Verdict.{EditAsked, Refusal, refuse}
use Rattle.wk_tool_rules.specs.Generator.{generated, page_drawn, page_saves}
use Rattle.wk_revs.specs.Verdict.{refusal_of}
use Rattle.wk_revs.specs.declared.verdict.SaveRefusal.{SaveRefusal}
use Rattle.wk_core.specs.Seen.{WikiSeen, verdict_now}
use Rattle.wk_core.specs.Steps.{GoesOn}
use Rattle.wk_wiki_rules.specs.Starts.{Start}
use Rattle.wk_tools.specs.Generating.{IsGenerating, Refuses, SavesNext, infobox_save, note_save, page_save, pages_left}
use Rattle.wk_tools.specs.Saves.{HasSaved, IsRefusedAt}
use Rattle.wk_tools.proofs.Rounds.{keeper-then}
use Rattle.wk_tools.proofs.SavesPush.{saved-more, saved-none, saved-same}

pub pages-next : (pages page seed : ℕ) → page < pages → pages_left pages (page + 1) seed ≡ page_save pages (page + 1) seed ∷ pages_left pages (page + 1 + 1) (page_drawn pages (page + 1) seed).seed
pages-next pages page seed below =
    let more : pages + 1 - (page + 1) ≡ suc (pages + 1 - (page + 1 + 1)) = omega arith in
    ap (λ n. page_saves pages (range_with_len (page + 1) n) seed) more

pub pages-none : (pages page seed : ℕ) → pages ≤ page → pages_left pages (page + 1) seed ≡ []
pages-none pages page seed past =
    let none : pages + 1 - (page + 1) ≡ 0 = omega arith in
    ap (λ n. page_saves pages (range_with_len (page + 1) n) seed) none

pub generated-is : (pages number : ℕ) → generated pages number ≡ infobox_save ∷ note_save ∷ pages_left pages 1 number
unfolding generated
generated-is pages number =
    let same : pages ≡ pages + 1 - 1 = omega arith in
    ap (λ n. infobox_save ∷ note_save ∷ page_saves pages (range_with_len 1 n) number) same

get-at : (xs : List EditAsked) (x : EditAsked) (ys : List EditAsked) → slice_get (xs ++ x ∷ ys) (length xs) ≡ Some x
get-at [] x ys = refl
get-at (y ∷ xs) x ys = get-at xs x ys

module _ {K : Type 0} (told : K → Option StoreTables) where
  pub generating-begin : (wiki : WikiSeen K) (whole : List EditAsked) (left : Option (List ℕ)) → IsGenerating wiki wiki whole whole left left
  generating-begin wiki whole left = record { edits = []; saved = saved-none told wiki left; all = refl }

  module _ (old middle new : WikiSeen K) (whole rest : List EditAsked) (left between : Option (List ℕ)) where
    pub generating-more : (edit : EditAsked) (later : Option (List ℕ)) → IsGenerating old middle whole (edit ∷ rest) left between → SavesNext told middle new edit between later → IsGenerating old new whole rest left later
    generating-more edit later before next = record {
      edits = before.edits ++ edit ∷ [];
      saved = saved-more told old middle new before.edits edit left between later next.moment before.saved next.ticks next.outcome next.some next.happened;
      all = append_assoc before.edits (edit ∷ []) rest ∙ before.all;
    }

    pub generating-refused : (edit : EditAsked) (refusal : SaveRefusal) → IsGenerating old middle whole (edit ∷ rest) left between → Refuses told middle new edit refusal → IsRefusedAt old new whole left refusal
    generating-refused edit refusal before refuses =
        let saved = saved-same told old middle new before.edits left between before.saved refuses.nothing in
        let first : take (length before.edits) whole ≡ before.edits = ap (take (length before.edits)) (sym before.all) ∙ take_at before.edits (edit ∷ rest) (length before.edits) refl in
        let there : slice_get whole (length before.edits) ≡ Some edit = ap (λ edits. slice_get edits (length before.edits)) (sym before.all) ∙ get-at before.edits edit rest in
        record {
          count = length before.edits;
          later = between;
          saved = subst (λ edits. HasSaved old new edits left between) (sym first) saved;
          cause = by (refusal_of refusal) refuses.cause there;
        }
      where
        same : verdict_now new edit ≡ verdict_now middle edit
        same = ap (λ (w : WikiSeen K). verdict_now w edit) refuses.nothing.wiki

        by : (o : Option Refusal) → IfSome o (λ cause. verdict_now middle edit ≡ refuse cause) → slice_get whole (length before.edits) ≡ Some edit
            → IfSome o (λ cause. (e : EditAsked) × (slice_get whole (length before.edits) ≡ Some e) × (verdict_now new e ≡ refuse cause))
        by None cause there = cause
        by (Some r) cause there = (edit, there, same ∙ cause)

  pub generating-all : (old new : WikiSeen K) (whole rest : List EditAsked) (left later : Option (List ℕ)) → rest ≡ [] → IsGenerating old new whole rest left later → HasSaved old new whole left later
  generating-all old new whole rest left later none generating =
      subst (λ edits. HasSaved old new edits left later) (sym (append-nil generating.edits) ∙ (ap (λ r. generating.edits ++ r) (sym none) ∙ generating.all)) generating.saved

-- ---- all saves of a generator

module _ {K : Type 0} (told : K → Option StoreTables) (faults : K → ℕ) (old : WikiSeen K) (pages number : ℕ) (left : Option (List ℕ)) where
  pub at-first : IsGenerating old old (generated pages number) (infobox_save ∷ note_save ∷ pages_left pages 1 number) left left
  at-first = subst (λ rest. IsGenerating old old (generated pages number) rest left left) (generated-is pages number) (generating-begin told old (generated pages number) left)

  module _ (first : WikiSeen K) (later : Option (List ℕ)) (saved : SavesNext told old first infobox_save left later) where
    pub behind-infobox : IsGenerating old first (generated pages number) (note_save ∷ pages_left pages 1 number) left later
    behind-infobox = generating-more told old old first (generated pages number) (note_save ∷ pages_left pages 1 number) left left infobox_save later at-first saved

    pub behind-note : (second : WikiSeen K) (last : Option (List ℕ)) → SavesNext told first second note_save later last → IsGenerating old second (generated pages number) (pages_left pages 1 number) left last
    behind-note second last next = generating-more told old first second (generated pages number) (pages_left pages 1 number) left later note_save last behind-infobox next

  module _ (middle : WikiSeen K) (done seed : ℕ) (between : Option (List ℕ)) (below : done < pages) (before : IsGenerating old middle (generated pages number) (pages_left pages (done + 1) seed) left between) where
    at-page : IsGenerating old middle (generated pages number) (page_save pages (done + 1) seed ∷ pages_left pages (done + 1 + 1) (page_drawn pages (done + 1) seed).seed) left between
    at-page = subst (λ rest. IsGenerating old middle (generated pages number) rest left between) (pages-next pages done seed below) before

    pub behind-page : (new : WikiSeen K) (next : ℕ) (later : Option (List ℕ)) → next ≡ (page_drawn pages (done + 1) seed).seed → SavesNext told middle new (page_save pages (done + 1) seed) between later
        → IsGenerating old new (generated pages number) (pages_left pages (done + 1 + 1) next) left later
    behind-page new next later is saved =
        subst (λ s. IsGenerating old new (generated pages number) (pages_left pages (done + 1 + 1) s) left later) (sym is)
        (generating-more told old middle new (generated pages number) (pages_left pages (done + 1 + 1) (page_drawn pages (done + 1) seed).seed) left between (page_save pages (done + 1) seed) later at-page saved)

    pub refused-page : (new : WikiSeen K) (refusal : SaveRefusal) → Refuses told middle new (page_save pages (done + 1) seed) refusal → IsRefusedAt old new (generated pages number) left refusal
    refused-page new refusal refuses =
        generating-refused told old middle new (generated pages number) (pages_left pages (done + 1 + 1) (page_drawn pages (done + 1) seed).seed) left between (page_save pages (done + 1) seed) refusal at-page refuses

  pub all-pages : (new : WikiSeen K) (done seed : ℕ) (later : Option (List ℕ)) → pages ≤ done → IsGenerating old new (generated pages number) (pages_left pages (done + 1) seed) left later → HasSaved old new (generated pages number) left later
  all-pages new done seed later past generating = generating-all told old new (generated pages number) (pages_left pages (done + 1) seed) left later (pages-none pages done seed past) generating

  -- the keeper goes on over all of it
  pub keeper-on : (middle new : WikiSeen K) (rest : List EditAsked) (between : Option (List ℕ)) → IsGenerating old middle (generated pages number) rest left between → GoesOn told faults old middle → GoesOn told faults middle new → GoesOn told faults old new
  keeper-on middle new rest between generating first second = keeper-then told faults old middle new (ap (λ (s : Start). s.whole) generating.saved.made.start) first second
