-- Lines that are taken one after the other.
use Rattle.std.proofs.Common.{◌≡◌, ℕ, ◌+◌, List, [], ◌∷◌, ◌++◌, length, take, Option, Some, None, sym, ap, ◌∙◌, arith}
use Rattle.wk_wiki_rules.specs.States.{State}
use Rattle.wk_wiki_rules.specs.Events.{Event}
use Rattle.wk_wiki_rules.specs.Steps.{fan_pages}
use Rattle.wk_wiki_rules.specs.Calls.{CallsMake}
use Rattle.wk_page_rules.specs.Verdict.{full_limits}
use Rattle.std.specs.List.{AllByRecursion}
use Rattle.wk_feed_rules.specs.Feeds.{feed_of, start_lines}
use Rattle.wk_feed_rules.specs.Taking.{FeedRun, FeedSoFar, loading, running, Fed, told, bad_line, fed, fed_from, taken}
use Rattle.wk_feed_laws.specs.Fits.{CanStart, MomentFits}
use Rattle.wk_feed_laws.proofs.Prefixes.{events-told}
use Rattle.wk_replica.specs.Points.{HasTakenLines, none_yet, one_more, IsAt}
use Rattle.wk_replica.specs.Replicas.{IsNew, ReplicaSeen, so_far}

-- what comes behind a line that was taken or is bad
abbrev behind : ℕ → List (List ℕ) → Option FeedSoFar → Fed
behind number lines next = elim next as (λ p. Fed) [ None ↦ bad_line number | Some next ↦ fed_from (number + 1) next lines ]

same-told : (a b : FeedSoFar) → told a ≡ told b → a ≡ b
same-told a b is = cc

-- behind lines that tell something the others are taken from there on
pub fed-append : (lines rest : List (List ℕ)) (number : ℕ) (before last : FeedSoFar) → fed_from number before lines ≡ told last
    → fed_from number before (lines ++ rest) ≡ fed_from (number + length lines) last rest
fed-append [] rest number before last is =
    let from : number ≡ number + length {A = List ℕ} [] = omega arith in
    ap (λ (s : FeedSoFar). fed_from number s rest) (same-told before last is) ∙ ap (λ (n : ℕ). fed_from n last rest) from
fed-append (line ∷ lines) rest number before last is = by (taken before line) (λ next e. fed-append lines rest (number + 1) next last e) is
  where
    by : (next : Option FeedSoFar)
        → ((next : FeedSoFar) → fed_from (number + 1) next lines ≡ told last → fed_from (number + 1) next (lines ++ rest) ≡ fed_from (number + 1 + length lines) last rest)
        → behind number lines next ≡ told last → behind number (lines ++ rest) next ≡ fed_from (number + length (line ∷ lines)) last rest
    by None later e = absurd (let bad : bad_line number ≡ told last = e in cc)
    by (Some next) later e =
        let from : number + 1 + length lines ≡ number + length (line ∷ lines) = omega arith in
        later next e ∙ ap (λ (n : ℕ). fed_from n last rest) from

pub line-more : (lines : List (List ℕ)) (line : List ℕ) (before next : FeedSoFar) → fed lines ≡ told before → taken before line ≡ Some next
    → fed (lines ++ line ∷ []) ≡ told next
line-more lines line before next is takes =
    fed-append lines (line ∷ []) 1 (loading []) before is ∙ ap (behind (1 + length lines) []) takes

pub line-bad : (lines more : List (List ℕ)) (line : List ℕ) (before : FeedSoFar) → fed lines ≡ told before → taken before line ≡ None
    → fed (lines ++ line ∷ more) ≡ bad_line (length lines + 1)
line-bad lines more line before is none =
    let number : 1 + length lines ≡ length lines + 1 = omega arith in
    fed-append lines (line ∷ more) 1 (loading []) before is ∙ (ap (behind (1 + length lines) more) none ∙ ap bad_line number)

-- ---- replicas

new-told : (replica : ReplicaSeen) → IsNew replica → so_far replica ≡ loading []
new-told replica new = by replica.start.line new.line
  where
    by : (line : Option ℕ) → line ≡ None → (elim line as (λ l. FeedSoFar) [ None ↦ loading replica.rows | Some n ↦ running (record { from = replica.start.wiki.state; events = replica.journal; state = replica.state }) ]) ≡ loading []
    by None is = ap loading new.rows
    by (Some n) is = absurd (let some : Some n ≡ None = is in cc)

pub lines-told : (lines : List (List ℕ)) (replica : ReplicaSeen) → HasTakenLines lines replica → fed lines ≡ told (so_far replica)
lines-told [] replica (none_yet new) = ap told (sym (new-told replica new))
lines-told lines replica (one_more {lines = before} {old = old} line taken-before takes) = line-more before line (so_far old) (so_far replica) (lines-told before old taken-before) takes

-- a replica that tells this run has its parts
record HasRun (replica : ReplicaSeen) (run : FeedRun) : Type 0 where
  start : replica.start.wiki.state ≡ run.from
  journal : replica.journal ≡ run.events
  state : replica.state ≡ run.state

same-run : (one two : FeedRun) → running one ≡ running two → one ≡ two
same-run one two is = cc

run-parts : (replica : ReplicaSeen) (run : FeedRun) → so_far replica ≡ running run → HasRun replica run
run-parts replica run is = by replica.start.line is
  where
    by : (line : Option ℕ) → (elim line as (λ l. FeedSoFar) [ None ↦ loading replica.rows | Some n ↦ running (record { from = replica.start.wiki.state; events = replica.journal; state = replica.state }) ]) ≡ running run → HasRun replica run
    by None e = absurd (let other : loading replica.rows ≡ running run = e in cc)
    by (Some n) e =
        let same = same-run (record { from = replica.start.wiki.state; events = replica.journal; state = replica.state }) run e in
        record { start = ap (λ (r : FeedRun). r.from) same; journal = ap (λ (r : FeedRun). r.events) same; state = ap (λ (r : FeedRun). r.state) same }

pub at-point : (from last : State) (events : List Event) (point : ℕ) (replica : ReplicaSeen)
    → CanStart from → CallsMake fan_pages full_limits from events last → AllByRecursion MomentFits events
    → HasTakenLines (take (length (start_lines from) + point) (feed_of from events)) replica → IsAt from events point replica
at-point from last events point replica can calls fits has =
    let tells = events-told from last events point can calls fits in
    let same = same-told (so_far replica) (running (record { from = from; events = take point events; state = tells.0 }))
    (sym (lines-told (take (length (start_lines from) + point) (feed_of from events)) replica has) ∙ tells.2) in
    let parts = run-parts replica (record { from = from; events = take point events; state = tells.0 }) same in
    record { start = parts.start; journal = parts.journal; state = tells.1 ∙ ap Some (sym parts.state) }
