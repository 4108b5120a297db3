-- What a draft comes to.
use Rattle.std.proofs.Common.{◌≡◌, ℕ, List, [], drop, reverse, Option, Some, None, option_map, refl, sym, ap, ap₂, subst, ◌∙◌}
use Rattle.wk_text_rules.specs.Titles.{PageTitle}
use Rattle.wk_tree.specs.Parsed.{list_with}
use Rattle.wk_tree_rules.specs.Tree.{tree}
use Rattle.wk_tree_rules.specs.Trees.{Item}
use Rattle.wk_tree_rules.specs.declared.Mode.TheVariants as mode
use Rattle.std.proofs.lemmas.List.Elements.{All-head, All-nil}
use Rattle.wk_view_laws.proofs.PlanLemmas.{met, noted-agrees, run-and_then, run-asks}
use Rattle.wk_view_laws.specs.Plans.{goes_on}
use Rattle.wk_view_rules.specs.Expand.{expand}
use Rattle.wk_view_rules.specs.Expansions.{Expansion, Output, Progress, give, ◌>>=◌, most_open, no_counters}
use Rattle.wk_view_rules.specs.Frames.{Frame}
use Rattle.wk_view_rules.specs.Plans.{Plan, gives, and_then, done, noted, run}
use Rattle.wk_view_rules.specs.Views.{Expanded, expanded_by, text_plan, view_plan}
use Rattle.wk_view_rules.specs.Worlds.{Agrees, Answer, PageText, Read, Seen, ask, of_seen, page_of}
use Rattle.wk_view_rules.specs.declared.Kind.{Kind}
use Rattle.wk_view_rules.specs.declared.Kind.TheVariants.{View}
use Rattle.wk_expand.specs.Answers.{read_with, text_in}
use Rattle.wk_expand.specs.Drafts.{drafted}
use Rattle.wk_expand.specs.Kept.{expanded_with}
use Rattle.wk_frames.specs.Levels.{LevelsShown, tree_in}
use Rattle.wk_expand.specs.Machines.{IsLeft}
use Rattle.wk_expand.specs.Nodes.{rest_list}
use Rattle.wk_expand.specs.Running.{goes, needed, Passes, StopsAt}
use Rattle.wk_frames.specs.Frames.{ShowsFrame}
use Rattle.wk_expand.specs.State.{IsBegun, progress_of}
use Rattle.wk_expand.specs.Steps.{given_text}
use Rattle.wk_expand.specs.Work.{Continues, IsNow, IsTurn}
use Rattle.wk_expand.specs.declared.drafts.Root.{Root}
use Rattle.wk_expand.specs.declared.drafts.Root.TheVariants.{Page, Given}
use Rattle.wk_expand.specs.declared.stack.Turn.{Turn}
use Rattle.wk_expand.specs.declared.stack.Turn.TheVariants.{On, Done, Needs as NeedsTurn}
use Rattle.wk_expand.specs.declared.stack.Now.{Now}
use Rattle.wk_expand.specs.declared.stack.Now.TheVariants.{List as ListNow}
use Rattle.wk_expand.specs.declared.stack.Opened.{Opened}
use Rattle.wk_expand.specs.declared.state.Expander.{Expander}
use Rattle.wk_expand.specs.declared.state.Stop.TheVariants.{Needs}
use Rattle.wk_expand.specs.declared.work.Work.{Work}
use Rattle.wk_expand.proofs.ListLaws.{list-start, plans-ended}
use Rattle.wk_expand.proofs.RunLaws.{run-give, needed-on}

-- ---- what is left of a draft

-- a draft's end, by that of what is left of its expansion
left-run : (seen : Seen) (e : Expansion Output) (s : Expander) → run (of_seen seen) (and_then (e (progress_of s)) expanded_by) s.reads ≡ goes_on (of_seen seen) expanded_by (goes seen e s)
left-run seen e s = run-and_then (of_seen seen) (e (progress_of s)) expanded_by s.reads

-- what is left of a draft, where its expansion has come further
pub left-on : (seen : Seen) (page : PageTitle) (given : Option (List ℕ)) (w u : Work) (now next : Now) (h : IsLeft page given w now) (rest : Expansion Output) → Agrees (of_seen seen) w.expander.reads → IsNow u next rest → Passes seen h.rest w.expander rest u.expander → IsLeft page given u next
left-on seen page given w u now next h rest agrees next_is passes = record {
  rest = rest;
  now_is = next_is;
  alike = λ later k.
      let came = passes agrees in
      h.alike later (came.grows later k)
      ∙ left-run later h.rest w.expander
      ∙ ap (goes_on (of_seen later) expanded_by) (came.goes_on later k)
      ∙ sym (left-run later rest u.expander);
}

expanded-run : (seen : Seen) (out : Output) (t : Expander) → goes_on (of_seen seen) expanded_by (done (out, progress_of t) t.reads) ≡ done (expanded_with out t.counts) t.reads
unfolding run
expanded-run seen out t = refl

pub left-done : (seen : Seen) (page : PageTitle) (given : Option (List ℕ)) (w u : Work) (now : Now) (h : IsLeft page given w now) (out : Output) → Agrees (of_seen seen) w.expander.reads → Passes seen h.rest w.expander (give out) u.expander → drafted (of_seen seen) page given ≡ done (expanded_with out u.expander.counts) u.expander.reads
left-done seen page given w u now h out agrees passes =
    let came = passes agrees in
    h.alike seen agrees
    ∙ left-run seen h.rest w.expander
    ∙ ap (goes_on (of_seen seen) expanded_by) (came.goes_on seen came.answered ∙ run-give seen out u.expander)
    ∙ expanded-run seen out u.expander

pub left-stops : (seen : Seen) (page : PageTitle) (given : Option (List ℕ)) (w : Work) (now : Now) (h : IsLeft page given w now) (title : PageTitle) (kind : Kind) → Agrees (of_seen seen) w.expander.reads → StopsAt seen h.rest w.expander (Needs title kind) → needed (drafted (of_seen seen) page given) ≡ Some (title, kind)
left-stops seen page given w now h title kind agrees stops =
    ap needed (h.alike seen agrees ∙ left-run seen h.rest w.expander)
    ∙ needed-on seen expanded_by (goes seen h.rest w.expander) title kind (stops agrees)

-- ---- the start

whole-list : (left : ℕ) (viewed : PageTitle) (frame : Frame) (items : List Item) → (rest_list left viewed frame [] items >>= give) ≡ expand left viewed frame items
whole-list left viewed frame items =
    (λ i progress. plans-ended (rest_list left viewed frame [] items progress) i)
    ∙ sym (list-start left viewed frame items)

pub left-begun : (page : PageTitle) (given : Option (List ℕ)) (text : List ℕ) (before : Seen) (w : Work) → IsBegun page (record { mode = mode.View; text = text }) before w.expander → w.opened.items ≡ [] → list_with (record { mode = mode.View; text = text }) w.listing.list ≡ Some (tree mode.View text) → w.listing.at ≡ 0 → w.listing.out ≡ [] → ((later : Seen) → Agrees (of_seen later) before → drafted (of_seen later) page given ≡ run (of_seen later) (text_plan page text) before) → IsLeft page given w ListNow
unfolding text_plan
left-begun page given text before w begun none root start fresh alike =
    let items = tree mode.View text in
    let s = w.expander in
    let listing = w.listing in
    let rest : Expansion Output = rest_list most_open s.page [] listing.out (drop listing.at items) >>= give in
    let rest_is : rest ≡ expand most_open page [] items =
    ap₂ (λ (o : Output) (n : ℕ). rest_list most_open s.page [] o (drop n items) >>= give) fresh start
    ∙ whole-list most_open s.page [] items
    ∙ ap (λ (v : PageTitle). expand most_open v [] items) begun.page
    in
    record {
      rest = rest;
      now_is = record {
        left = most_open;
        frame = [];
        shows = subst (λ (v : LevelsShown). ShowsFrame v.root v.included []) (sym begun.levels) tt;
        items = items;
        there = ap (λ (v : LevelsShown). list_with (tree_in v.root v.included) listing.list) begun.levels ∙ root;
        after = give;
        continues = subst (λ (nodes : List Opened). Continues most_open s.page s.levels (reverse nodes) give) (sym none) (refl, λ out. refl);
        is = refl;
      };
      alike = λ later h.
          alike later (subst (Agrees (of_seen later)) begun.reads h)
          ∙ ap (run (of_seen later) (text_plan page text)) (sym begun.reads)
          ∙ ap₂ (λ (e : Expansion Output) (p : Progress). run (of_seen later) (and_then (e p) expanded_by) s.reads) (sym rest_is) (sym begun.progress);
    }

-- ---- a page's own text

-- what is expanded by the page's text
abbrev pub viewed_by : PageTitle → Option (List ℕ) → Plan Expanded
viewed_by page found = elim found [
  | None ↦ gives (record { out = []; counters = no_counters })
  | Some text ↦ text_plan page text
]

abbrev own_text : PageTitle → Option PageText → Plan Expanded
own_text page found = elim found [
  | None ↦ gives (record { out = []; counters = no_counters })
  | Some p ↦ text_plan page p.text
]

view-by : (page : PageTitle) (found : Option PageText) → own_text page found ≡ viewed_by page (option_map (λ (p : PageText). p.text) found)
view-by page None = refl
view-by page (Some p) = refl

-- what is left to do behind the first answer
asked-first : (seen : Seen) (page : PageTitle) → run (of_seen seen) (view_plan page) [] ≡ met (of_seen seen) page View (λ answer. viewed_by page (text_in answer)) [] (ask (of_seen seen) page View)
unfolding view_plan
asked-first seen page = run-asks (of_seen seen) page View (λ answer. own_text page (page_of answer)) [] ∙ go (ask (of_seen seen) page View)
  where
    go : (answered : Option Answer) → met (of_seen seen) page View (λ answer. own_text page (page_of answer)) [] answered ≡ met (of_seen seen) page View (λ answer. viewed_by page (text_in answer)) [] answered
    go None = refl
    go (Some answer) = ap (λ p. run (of_seen seen) p (noted [] (read_with page View answer))) (view-by page (page_of answer))

pub view-missing : (seen : Seen) (page : PageTitle) → ask (of_seen seen) page View ≡ None → needed (run (of_seen seen) (view_plan page) []) ≡ Some (page, View)
view-missing seen page missing = ap needed (asked-first seen page ∙ ap (met (of_seen seen) page View (λ answer. viewed_by page (text_in answer)) []) missing)

pub view-answered : (seen : Seen) (page : PageTitle) (answer : Answer) (found : Option (List ℕ)) (reads : Seen) → ask (of_seen seen) page View ≡ Some answer → text_in answer ≡ found → reads ≡ noted [] (read_with page View answer) → run (of_seen seen) (view_plan page) [] ≡ run (of_seen seen) (viewed_by page found) reads
view-answered seen page answer found reads asked is_text are_reads =
    asked-first seen page
    ∙ ap (met (of_seen seen) page View (λ a. viewed_by page (text_in a)) []) asked
    ∙ ap₂ (λ f r. run (of_seen seen) (viewed_by page f) r) is_text (sym are_reads)

pub missing-done : (seen : Seen) (page : PageTitle) (reads : Seen) → run (of_seen seen) (viewed_by page None) reads ≡ done (record { out = []; counters = no_counters }) reads
unfolding run
missing-done seen page reads = refl

-- ---- a step of a draft

-- what a turn leaves of a draft
abbrev pub LeftBy : Seen → PageTitle → Option (List ℕ) → Turn → Work → Type 0
LeftBy seen page given (On next) u = IsLeft page given u next × Agrees (of_seen seen) u.expander.reads
LeftBy seen page given Done u = drafted (of_seen seen) page given ≡ done (expanded_with u.listing.out u.expander.counts) u.expander.reads
LeftBy seen page given (NeedsTurn title kind next) u =
    (needed (drafted (of_seen seen) page given) ≡ Some (title, kind)) × IsLeft page given u next × Agrees (of_seen seen) u.expander.reads

pub turn-left : (seen : Seen) (page : PageTitle) (given : Option (List ℕ)) (w u : Work) (now : Now) (turn : Turn) → (h : IsLeft page given w now) → Agrees (of_seen seen) w.expander.reads → IsTurn seen h.rest w.expander turn u → LeftBy seen page given turn u
unfolding left-on
turn-left seen page given w u now (On next) h agrees k = (left-on seen page given w u now next h k.0 agrees k.1 k.2, (k.2 agrees).answered)
turn-left seen page given w u now Done h agrees k = left-done seen page given w u now h u.listing.out agrees k
turn-left seen page given w u now (NeedsTurn title kind next) h agrees k =
    let later = left-on seen page given w u now next h k.0 agrees k.1 k.2 in
    let answered = (k.2 agrees).answered in
    (left-stops seen page given u next later title kind answered k.3, later, answered)

-- what is needed wasn't seen
pub unseen-by : (seen : Seen) (page title : PageTitle) (given : Option (List ℕ)) (kind : Kind) → ((root : Root) → needed (drafted (of_seen seen) page (given_text root)) ≡ Some (title, kind) → ask (of_seen seen) title kind ≡ None) → needed (drafted (of_seen seen) page given) ≡ Some (title, kind) → ask (of_seen seen) title kind ≡ None
unseen-by seen page title None kind law e = law Page e
unseen-by seen page title (Some text) kind law e = law (Given text) e

-- ---- the first read

-- what answers the first read as it was answered
pub first-answer : (later : Seen) (page : PageTitle) (answer : Answer) (reads : Seen) → reads ≡ noted [] (read_with page View answer) → Agrees (of_seen later) reads → ask (of_seen later) page View ≡ Some answer
first-answer later page answer reads are agrees =
    All-head (λ (r : Read). ask (of_seen later) r.title r.kind ≡ Some r.answer) (read_with page View answer) [] (subst (Agrees (of_seen later)) are agrees)

pub first-agrees : (seen : Seen) (page : PageTitle) (answer : Answer) (reads : Seen) → reads ≡ noted [] (read_with page View answer) → ask (of_seen seen) page View ≡ Some answer → Agrees (of_seen seen) reads
first-agrees seen page answer reads are asked =
    subst (Agrees (of_seen seen)) (sym are)
    (noted-agrees (of_seen seen) [] (read_with page View answer) (All-nil (λ (r : Read). ask (of_seen seen) r.title r.kind ≡ Some r.answer)) asked)

-- nothing was read
pub nothing-agrees : (seen : Seen) → Agrees (of_seen seen) []
nothing-agrees seen = All-nil (λ (r : Read). ask (of_seen seen) r.title r.kind ≡ Some r.answer)
