-- How the parts of an expansion go together.
use Rattle.std.proofs.Common.{◌≡◌, Some, Result, Ok, Err, refl, sym, ap, subst, ◌∙◌}
use Rattle.wk_text_rules.specs.Titles.{PageTitle}
use Rattle.wk_view_rules.specs.Expansions.{Expansion, give, ◌>>=◌}
use Rattle.wk_view_rules.specs.Plans.{Plan, Outcome, done, need, run}
use Rattle.wk_view_rules.specs.Worlds.{Seen, Agrees, of_seen}
use Rattle.wk_view_rules.specs.declared.Kind.{Kind}
use Rattle.wk_view_laws.specs.Plans.{goes_on}
use Rattle.wk_view_laws.proofs.PlanLemmas.{run-and_then}
use Rattle.wk_frames.specs.Levels.{LevelsShown}
use Rattle.wk_view_rules.specs.Frames.{Frame}
use Rattle.wk_frames.specs.Frames.{ShowsFrame}
use Rattle.wk_expand.specs.State.{progress_of, IsFrame}
use Rattle.wk_expand.specs.Running.{goes, needed, Stops, StopsAt, IsSame, Passes, ComesTo, Leads}
use Rattle.wk_expand.specs.declared.state.Expander.{Expander}
use Rattle.wk_expand.specs.declared.state.Stop.{Stop}
use Rattle.wk_expand.specs.declared.state.Stop.TheVariants.{Needs, Memory}

pub same-itself : (s : Expander) → IsSame s s
same-itself s = record { page = refl; levels = refl }

pub same-on : (s t u : Expander) → IsSame s t → IsSame t u → IsSame s u
same-on s t u a b = record { page = b.page ∙ a.page; levels = b.levels ∙ a.levels }

-- ---- from one state to a later one, whatever texts are expanded there

-- an expansion that is the same from here, with the same reads
pub passes-at : {A : Type 0} (seen : Seen) (e rest : Expansion A) (s t : Expander) → t.reads ≡ s.reads → e (progress_of s) ≡ rest (progress_of t) → Passes seen e s rest t
passes-at seen e rest s t reads same = λ agrees. record {
  goes_on = λ later h. ap (λ p. run (of_seen later) p s.reads) same ∙ ap (run (of_seen later) (rest (progress_of t))) (sym reads);
  grows = λ later h. subst (Agrees (of_seen later)) reads h;
  answered = subst (Agrees (of_seen seen)) (sym reads) agrees;
}

pub passes-as : {A : Type 0} (seen : Seen) (e rest : Expansion A) (s : Expander) → e ≡ rest → Passes seen e s rest s
passes-as seen e rest s same = passes-at seen e rest s s refl (ap (λ f. f (progress_of s)) same)

pub passes-on : {A : Type 0} (seen : Seen) (e rest later : Expansion A) (s t u : Expander) → Passes seen e s rest t → Passes seen rest t later u → Passes seen e s later u
passes-on seen e rest later s t u a b = λ agrees.
    let x = a agrees in
    let y = b x.answered in
    record {
      goes_on = λ more h. x.goes_on more (y.grows more h) ∙ y.goes_on more h;
      grows = λ more h. x.grows more (y.grows more h);
      answered = y.answered;
    }

pub run-give : {A : Type 0} (seen : Seen) (x : A) (s : Expander) → goes seen (give x) s ≡ done (x, progress_of s) s.reads
unfolding run
run-give seen x s = refl

-- what is done first, and then what hangs on its value
pub passes-bind : {A B : Type 0} (seen : Seen) (first : Expansion A) (next : A → Expansion B) (s : Expander) (x : A) (t : Expander) → Passes seen first s (give x) t → Passes seen (first >>= next) s (next x) t
passes-bind seen first next s x t h = λ agrees.
    let a = h agrees in
    record {
      goes_on = λ later k.
          run-and_then (of_seen later) (first (progress_of s)) (λ end. next end.0 end.1) s.reads
          ∙ ap (goes_on (of_seen later) (λ end. next end.0 end.1)) (a.goes_on later k ∙ run-give later x t);
      grows = a.grows;
      answered = a.answered;
    }

-- what is left to do first, and then what hangs on its value
pub passes-then : {A B : Type 0} (seen : Seen) (first rest : Expansion A) (next : A → Expansion B) (s t : Expander) → Passes seen first s rest t → Passes seen (first >>= next) s (rest >>= next) t
passes-then seen first rest next s t h = λ agrees.
    let a = h agrees in
    record {
      goes_on = λ later k.
          run-and_then (of_seen later) (first (progress_of s)) (λ end. next end.0 end.1) s.reads
          ∙ ap (goes_on (of_seen later) (λ end. next end.0 end.1)) (a.goes_on later k)
          ∙ sym (run-and_then (of_seen later) (rest (progress_of t)) (λ end. next end.0 end.1) t.reads);
      grows = a.grows;
      answered = a.answered;
    }

pub passes-in : {A : Type 0} (seen : Seen) (e f rest : Expansion A) (s t : Expander) → e ≡ f → Passes seen f s rest t → Passes seen e s rest t
passes-in seen e f rest s t same h = subst (λ g. Passes seen g s rest t) (sym same) h

pub passes-out : {A : Type 0} (seen : Seen) (e rest later : Expansion A) (s t : Expander) → rest ≡ later → Passes seen e s rest t → Passes seen e s later t
passes-out seen e rest later s t same h = subst (λ g. Passes seen e s g t) same h

-- the texts that are expanded say nothing of what is left
pub passes-levels : {A : Type 0} (seen : Seen) (e rest : Expansion A) (s t : Expander) (v : LevelsShown) → Passes seen e (record s { levels = v }) rest t → Passes seen e s rest t
passes-levels seen e rest s t v h = λ agrees.
    let a = h agrees in
    record { goes_on = a.goes_on; grows = a.grows; answered = a.answered }

-- ---- in the same texts

pub comes-itself : {A : Type 0} (seen : Seen) (e : Expansion A) (s : Expander) → ComesTo seen e s e s
comes-itself seen e s = record { same = same-itself s; passes = passes-as seen e e s refl }

pub comes-on : {A : Type 0} (seen : Seen) (e rest later : Expansion A) (s t u : Expander) → ComesTo seen e s rest t → ComesTo seen rest t later u → ComesTo seen e s later u
comes-on seen e rest later s t u a b = record { same = same-on s t u a.same b.same; passes = passes-on seen e rest later s t u a.passes b.passes }

-- an expansion that is the same from here
pub comes-as : {A : Type 0} (seen : Seen) (e rest : Expansion A) (s : Expander) → e (progress_of s) ≡ rest (progress_of s) → ComesTo seen e s rest s
comes-as seen e rest s same = record { same = same-itself s; passes = passes-at seen e rest s s refl same }

-- what is done first, and then what hangs on its value
pub comes-bind : {A B : Type 0} (seen : Seen) (first : Expansion A) (next : A → Expansion B) (s : Expander) (x : A) (t : Expander) → ComesTo seen first s (give x) t → ComesTo seen (first >>= next) s (next x) t
comes-bind seen first next s x t h = record { same = h.same; passes = passes-bind seen first next s x t h.passes }

pub needed-on : {A B : Type 0} (seen : Seen) (next : A → Plan B) (o : Outcome A) (title : PageTitle) (kind : Kind) → needed o ≡ Some (title, kind) → needed (goes_on (of_seen seen) next o) ≡ Some (title, kind)
needed-on seen next (done x reads) title kind e = cc
needed-on seen next (need wanted wanted_kind reads) title kind e = e

-- where the first stops, all stops
stops-first : {A B : Type 0} (seen : Seen) (first : Expansion A) (next : A → Expansion B) (s : Expander) (stop : Stop) → Stops (goes seen first s) stop → Stops (goes seen (first >>= next) s) stop
stops-first seen first next s (Needs title kind) h =
    ap needed (run-and_then (of_seen seen) (first (progress_of s)) (λ end. next end.0 end.1) s.reads)
    ∙ needed-on seen (λ end. next end.0 end.1) (goes seen first s) title kind h
stops-first seen first next s Memory h = tt

pub stops-bind : {A B : Type 0} (seen : Seen) (first : Expansion A) (next : A → Expansion B) (s : Expander) (stop : Stop) → StopsAt seen first s stop → StopsAt seen (first >>= next) s stop
stops-bind seen first next s stop h = λ agrees. stops-first seen first next s stop (h agrees)

-- what was come to stops
pub stops-on : {A : Type 0} (seen : Seen) (e rest : Expansion A) (s t : Expander) (stop : Stop) → ComesTo seen e s rest t → StopsAt seen rest t stop → StopsAt seen e s stop
stops-on seen e rest s t stop a h = λ agrees.
    let x = a.passes agrees in
    subst (λ o. Stops o stop) (sym (x.goes_on seen x.answered)) (h x.answered)

-- what was come to leads on
pub leads-on : {A X : Type 0} (seen : Seen) (e rest : Expansion A) (s t : Expander) (later : X → Expansion A) (r : Result X Stop) (u : Expander) → ComesTo seen e s rest t → Leads seen rest t later r u → Leads seen e s later r u
leads-on seen e rest s t later (Ok x) u a h = comes-on seen e rest (later x) s t u a h
leads-on seen e rest s t later (Err stop) u a h = stops-on seen e rest s t stop a h

-- the frame is the same behind a call
pub frame-same : (s t : Expander) (viewed : PageTitle) (frame : Frame) → IsSame s t → IsFrame s viewed frame → IsFrame t viewed frame
frame-same s t viewed frame same is = record {
  page = same.page ∙ is.page;
  shows = subst (λ (v : LevelsShown). ShowsFrame v.root v.included frame) (sym same.levels) is.shows;
}

-- the exit of a call that stopped
pub leads-err : {A X : Type 0} (seen : Seen) (e : Expansion A) (s : Expander) (rest : X → Expansion A) (r : Result X Stop) (t : Expander) (given returned : Stop) → r ≡ Err returned → returned ≡ given → StopsAt seen e s given → Leads seen e s rest r t
leads-err seen e s rest r t given returned is same h =
    subst (λ v. Leads seen e s rest v t) (sym is) (subst (λ (stop : Stop). StopsAt seen e s stop) (sym same) h)

-- the same expansion in other words
pub leads-as : {A X : Type 0} (seen : Seen) (e f : Expansion A) (s : Expander) (rest : X → Expansion A) (r : Result X Stop) (t : Expander) → e ≡ f → Leads seen f s rest r t → Leads seen e s rest r t
leads-as seen e f s rest r t same h = subst (λ g. Leads seen g s rest r t) (sym same) h

pub stops-as : {A : Type 0} (seen : Seen) (e f : Expansion A) (s : Expander) (stop : Stop) → e ≡ f → StopsAt seen f s stop → StopsAt seen e s stop
stops-as seen e f s stop same h = subst (λ g. StopsAt seen g s stop) (sym same) h

pub comes-in : {A : Type 0} (seen : Seen) (e f rest : Expansion A) (s t : Expander) → e ≡ f → ComesTo seen f s rest t → ComesTo seen e s rest t
comes-in seen e f rest s t same h = subst (λ g. ComesTo seen g s rest t) (sym same) h

pub comes-out : {A : Type 0} (seen : Seen) (e rest later : Expansion A) (s t : Expander) → rest ≡ later → ComesTo seen e s rest t → ComesTo seen e s later t
comes-out seen e rest later s t same h = subst (λ g. ComesTo seen e s g t) same h

-- where nothing is left but a value
pub gives-here : {A : Type 0} (seen : Seen) (e : Expansion A) (s : Expander) (x y : A) → e ≡ give x → y ≡ x → ComesTo seen e s (give y) s
gives-here seen e s x y same is = subst (λ v. ComesTo seen e s (give v) s) (sym is) (comes-as seen e (give x) s (ap (λ f. f (progress_of s)) same))

pub gives-then : {A : Type 0} (seen : Seen) (e rest : Expansion A) (s t : Expander) (x y : A) → ComesTo seen e s rest t → rest ≡ give x → y ≡ x → ComesTo seen e s (give y) t
gives-then seen e rest s t x y h same is = subst (λ v. ComesTo seen e s (give v) t) (sym is) (comes-out seen e rest (give x) s t same h)
