-- Workers that drain a shared wiki.
use Rattle.std.proofs.Common.{◌≡◌, ℕ, zero, suc, ◌+◌, ◌<◌, List, [], ◌∷◌, ◌++◌, map, length, take, append_assoc, Option, Some, None, ◌⊎◌, inr, ⊎_elim, refl, sym, ap, ◌∙◌, subst, arith}
use Rattle.std.specs.Prelude.{All, Contains, count_by, find, option_map, slice_index_or, slice_get, Ok, Err, OnOk}
use Rattle.std.specs.List.{AllZip}
use Rattle.std.proofs.lemmas.List.{get_or-map, length-map, map_push}
use Rattle.std.proofs.lemmas.List.Elements.{All-cons, All-nil}
use Rattle.std.proofs.lemmas.List.Sums.{sum_by-cons}
use Rattle.std.proofs.Math.Seq.{take-append_seam}
use mathlib.Core.List.{IsPrefix}
use Rattle.wk_wiki_rules.specs.Jobs.{FanEntry, RefreshEntry, is_claimed, is_queued, left}
use Rattle.wk_wiki_rules.specs.Events.{Event}
use Rattle.wk_wiki_rules.specs.Starts.{Start}
use Rattle.wk_turn.specs.Told.{Begun, Story}
use Rattle.wk_turn.proofs.Lists.{prefix_trans}
use Rattle.wk_shared.specs.Calls.{AddsOwn, IsMadeAt}
use Rattle.wk_readers.specs.Beginnings.{IdleTold}
use Rattle.wk_readers.specs.Refreshes.{IsRefreshed, RefreshTold}
use Rattle.wk_readers.specs.Worked.{HasWorked}
use Rattle.wk_readers.specs.declared.outcome.Refreshed.{Refreshed}
use Rattle.wk_readers.specs.declared.outcome.Refreshed.TheVariants as refreshed
use Rattle.wk_readers.proofs.WorkLaws.{worked-both}
use Rattle.wk_refresh.specs.Drained.{End, HasDrained, HasEnded, IsFree, IsLeftEmpty, WorkEnd, end_first, first_refusal, last_answer}
use Rattle.wk_refresh.specs.declared.refusal.DrainRefusal.TheVariants.{StoreFault}

abbrev Pass : Type 0
Pass = Story Start Event

-- ---- ends

first-none : (end : End) → end_first end (Ok tt) ≡ end
first-none (Ok done) = refl
first-none (Err refusal) = refl

first-both : (one two three : End) → end_first one (end_first two three) ≡ end_first (end_first one two) three
first-both (Ok done) two three = refl
first-both (Err refusal) two three = refl

-- the first refusal of one end more
refusal-push : (ends : List End) (end : End) → first_refusal (ends ++ end ∷ []) ≡ end_first (first_refusal ends) end
refusal-push [] end = first-none end
refusal-push (one ∷ ends) end = ap (end_first one) (refusal-push ends end) ∙ first-both one (first_refusal ends) end

-- ---- the steps of one worker

-- what the steps so far leave
pub record Steps (shared : Begun Start) (old now : Pass) : Type 0 where
  pub free : IsFree shared now
  pub later : IsPrefix old.seen now.seen
  pub worked : (now ≡ old) ⊎ HasWorked shared old now

pub worked-next : (shared : Begun Start) (old now next : Pass) → Steps shared old now → HasWorked shared now next → HasWorked shared old next
worked-next shared old now next steps step =
    ⊎_elim (λ (e : now ≡ old). subst (λ (p : Pass). HasWorked shared p next) e step) (λ (w : HasWorked shared old now). worked-both shared old now next w step) steps.worked

pub steps-next : (shared : Begun Start) (old now next : Pass) → Steps shared old now → HasWorked shared now next → Steps shared old next
steps-next shared old now next steps step = record {
  free = record { turn = step.turn; free = step.free };
  later = prefix_trans old.seen now.seen next.seen steps.later step.seen;
  worked = inr (worked-next shared old now next steps step);
}

fault-answer : (end : End) → end ≡ Err StoreFault → last_answer end ≡ refreshed.StoreFault
fault-answer end e = ap last_answer e

pub steps-end : (shared : Begun Start) (old now next : Pass) (answer : Refreshed) (end : End) → Steps shared old now
    → IsRefreshed shared now next answer → answer ≡ last_answer end → HasEnded shared old next end
steps-end shared old now next answer end steps step is = record {
  pass = worked-next shared old now next steps step.pass;
  before = now;
  later = steps.later;
  last = subst (RefreshTold shared now next) is step.told;
  fault = λ e. step.fault (is ∙ fault-answer end e);
}

-- ---- place by place

zip-places : {X : Type 0} (R : X → X → Type 0) (xs ys : List X) → length ys ≡ length xs → ((k : ℕ) (d : X) → k < length xs → R (slice_index_or xs k d) (slice_index_or ys k d)) → AllZip R xs ys
zip-places R [] [] long each = tt
zip-places R [] (y ∷ ys) long each = absurd (omega (arith, long))
zip-places R (x ∷ xs) [] long each = absurd (omega (arith, long))
zip-places R (x ∷ xs) (y ∷ ys) long each = (each zero x (omega arith), zip-places R xs ys (omega (arith, long)) (λ k d below. each (suc k) d (omega (arith, below))))

zip-map : {X A B : Type 0} (R : A → B → Type 0) (f : X → A) (g : X → B) (xs ys : List X) → AllZip (λ x y. R (f x) (g y)) xs ys → AllZip R (map f xs) (map g ys)
zip-map R f g [] [] all = tt
zip-map R f g [] (y ∷ ys) all = absurd all
zip-map R f g (x ∷ xs) [] all = absurd all
zip-map R f g (x ∷ xs) (y ∷ ys) all = (all.0, zip-map R f g xs ys all.1)

map-both : {X Y Z : Type 0} (f : Y → Z) (g : X → Y) (xs : List X) → map f (map g xs) ≡ map (λ x. f (g x)) xs
map-both f g [] = refl
map-both f g (x ∷ xs) = ap (λ l. f (g x) ∷ l) (map-both f g xs)

-- a list that another was made for, one each
pub made-for : {X W : Type 0} (worker : X → W) (none now : List X) (workers : List W) → none ≡ [] → map worker now ≡ map worker none ++ workers → map worker now ≡ workers
made-for worker none now workers empty is = is ∙ ap (λ l. map worker l ++ workers) empty

-- a slice of the whole
pub sliced : {X W : Type 0} (worker : X → W) (slice now : List X) (workers : List W) → slice ≡ now → map worker now ≡ workers → map worker slice ≡ workers
sliced worker slice now workers same is = ap (map worker) same ∙ is

-- what is left of a vector whose slice was written, whole
pub written : {X : Type 0} (count : ℕ) (now rest : List X) → count ≡ length now → take count (now ++ rest) ≡ now
written count now rest same = ap (λ n. take n (now ++ rest)) same ∙ take-append_seam now rest

-- one worker more behind others
pub back-more : {X W : Type 0} (worker : X → W) (first items now : List W) (xs : List X) (x : X) → items ≡ first ++ map worker xs → now ≡ items ++ worker x ∷ [] → now ≡ first ++ map worker (xs ++ x ∷ [])
back-more worker first items now xs x before is =
    is ∙ (ap (λ l. l ++ worker x ∷ []) before ∙ (append_assoc first (map worker xs) (worker x ∷ []) ∙ ap (λ l. first ++ l) (sym (map_push worker xs x))))

pub none-before : {W : Type 0} (none rest back : List W) → none ≡ [] → back ≡ none ++ rest → back ≡ rest
none-before none rest back empty is = is ∙ ap (λ l. l ++ rest) empty

pub all-unmapped : {X W : Type 0} (worker : X → W) (P : W → Type 0) (xs : List X) (workers : List W) → map worker xs ≡ workers → All P workers → All (λ x. P (worker x)) xs
all-unmapped worker P xs workers is all k d below =
    let mapped : All P (map worker xs) = subst (All P) (sym is) all in
    let long = length-map xs worker in
    subst P (get_or-map worker xs k d (worker d) below) (mapped k (worker d) (omega (arith, below, long)))

-- the first refusal of the ends of one more
pub refusal-more : {X : Type 0} (end : X → End) (xs : List X) (x : X) (first now : End) → first ≡ first_refusal (map end xs) → now ≡ end_first first (end x) → now ≡ first_refusal (map end (xs ++ x ∷ []))
refusal-more end xs x first now before is =
    is ∙ (ap (λ e. end_first e (end x)) before ∙ (sym (refusal-push (map end xs) (end x)) ∙ ap first_refusal (sym (map_push end xs x))))

-- ---- all workers

module _ (shared : Begun Start) where
  abbrev IsEnd : Pass → WorkEnd → Type 0
  IsEnd old w = HasEnded shared old w.pass w.end

  module _ {X W : Type 0} (worker : X → W) (pass : W → Pass) (end : X → End) where
    abbrev ended : X → WorkEnd
    ended x = record { pass = pass (worker x); end = end x }

    pub drained : (workers : List W) (before after left : List X) (back : List W) (answer : End) → map worker before ≡ workers → length after ≡ length before
        → ((k : ℕ) (d : X) → k < length before → HasEnded shared (pass (worker (slice_index_or before k d))) (pass (worker (slice_index_or after k d))) (end (slice_index_or after k d)))
        → left ≡ after → back ≡ map worker left → answer ≡ first_refusal (map end left) → HasDrained shared (map pass workers) (map pass back) answer
    drained workers before after left back answer hired long all same dismissed answered = record {
      ends = map ended after;
      passes = map-both (λ (w : WorkEnd). w.pass) ended after ∙ (sym (map-both pass worker after) ∙ (ap (λ l. map pass (map worker l)) (sym same) ∙ ap (map pass) (sym dismissed)));
      each = subst (λ l. AllZip IsEnd l (map ended after)) (sym (map-both pass worker before) ∙ ap (map pass) hired)
          (zip-map IsEnd (λ x. pass (worker x)) ended before after (zip-places (λ x y. IsEnd (pass (worker x)) (ended y)) before after long all));
      answered = answered ∙ (ap (λ l. first_refusal (map end l)) same ∙ ap first_refusal (sym (map-both (λ (w : WorkEnd). w.end) ended after)));
    }

  each-free : (olds : List Pass) (ends : List WorkEnd) → AllZip IsEnd olds ends → All (IsFree shared) (map (λ w. w.pass) ends)
  each-free [] [] all = All-nil (IsFree shared)
  each-free [] (e ∷ ends) all = absurd all
  each-free (o ∷ olds) [] all = absurd all
  each-free (o ∷ olds) (e ∷ ends) all = All-cons (IsFree shared) e.pass (map (λ w. w.pass) ends) (record { turn = all.0.pass.turn; free = all.0.pass.free }) (each-free olds ends all.1)

  pub free-drained : (olds news : List Pass) (answer : End) → HasDrained shared olds news answer → All (IsFree shared) news
  free-drained olds news answer is = subst (All (IsFree shared)) is.passes (each-free olds is.ends is.each)

  -- ---- nothing is left

  no-refresh : (jobs : List RefreshEntry) → option_map (λ (j : RefreshEntry). j.page) (find is_queued jobs) ≡ None → 0 ≡ count_by is_claimed jobs → jobs ≡ []
  no-refresh [] none count = refl
  no-refresh (job ∷ jobs) none count = by job.ticket refl
    where
      by : (ticket : Option ℕ) → job.ticket ≡ ticket → job ∷ jobs ≡ []
      by None is = absurd (let wrong : Some job.page ≡ None = rw is at none in cc)
      by (Some ticket) is = absurd (let long : 0 ≡ 1 + count_by is_claimed jobs = count ∙ (sum_by-cons _ job jobs ∙ rw is refl) in omega (arith, long))

  no-fan : (fans : List FanEntry) → slice_get fans 0 ≡ None → fans ≡ []
  no-fan [] none = refl
  no-fan (fan ∷ fans) none = absurd (let wrong : Some fan ≡ None = none in cc)

  empty-seen : (old new : Pass) (passes : List Pass) → IsMadeAt shared.start old new (IdleTold 0) → Contains passes new → IsLeftEmpty shared.start passes
  empty-seen old new passes made among = record {
    pass = new;
    among = among;
    point = made.at;
    within = (let long = (subst (AddsOwn old new made.at) made.call.made made.adds).0 in omega (arith, long));
    state = made.state;
    stands = made.stands;
    no_refresh = no-refresh made.state.jobs.refreshes made.call.none_queued made.call.claimed_is;
    no_fan = no-fan made.state.jobs.fans made.call.no_fan;
  }

  first-left : (olds : List Pass) (ends : List WorkEnd) → 0 < length olds → AllZip IsEnd olds ends → first_refusal (map (λ w. w.end) ends) ≡ Ok tt
      → IsLeftEmpty shared.start (map (λ w. w.pass) ends)
  first-left [] ends some all none = absurd (omega (arith, some))
  first-left (o ∷ olds) [] some all none = absurd all
  first-left (o ∷ olds) (e ∷ ends) some all none = by e.end refl
    where
      by : (end : End) → e.end ≡ end → IsLeftEmpty shared.start (e.pass ∷ map (λ w. w.pass) ends)
      by (Ok done) is = empty-seen all.0.before e.pass (e.pass ∷ map (λ w. w.pass) ends) (subst (λ x. RefreshTold shared all.0.before e.pass (last_answer x)) is all.0.last) (0, omega arith, refl)
      by (Err refusal) is = absurd (let wrong : Err refusal ≡ Ok tt = rw is at none in cc)

  left-empty : (olds news : List Pass) (answer : End) → 0 < length olds → HasDrained shared olds news answer → OnOk answer (IsLeftEmpty shared.start news)
  left-empty olds news (Ok done) some is = subst (IsLeftEmpty shared.start) is.passes (first-left olds is.ends some is.each (sym is.answered))
  left-empty olds news (Err refusal) some is = tt

  pub left-drained : {W : Type 0} (pass : W → Pass) (workers all : List W) (news : List Pass) (answer : End) → 0 < length workers → all ≡ workers → HasDrained shared (map pass all) news answer
      → OnOk answer (IsLeftEmpty shared.start news)
  left-drained pass workers all news answer some same is =
      let long = length-map all pass in
      let as_long = ap length same in
      left-empty (map pass all) news answer (omega (arith, some, long, as_long)) is
