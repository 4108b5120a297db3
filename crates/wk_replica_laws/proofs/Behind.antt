-- A replica that has taken lines which tell a run replies as its state does.
use Rattle.std.proofs.Common.{◌≡◌, ◌∷◌, ℕ, List, [], Option, Some, None, length, refl, sym, ap, ◌∙◌, arith, length-append}
use Rattle.wk_wiki_rules.specs.Events.{Event}
use Rattle.wk_wiki_rules.specs.States.{State, no_state}
use Rattle.wk_feed_rules.specs.Taking.{FeedRun, FeedSoFar, loading, running, told, fed}
use Rattle.wk_replica.specs.Points.{HasTakenLines, none_yet, one_more}
use Rattle.wk_replica.specs.Replicas.{IsNew, ReplicaSeen, so_far}
use Rattle.wk_replica.proofs.FedFacts.{lines-told}
use Rattle.wk_replica_laws.specs.Replies.{reply_in, reply_of}

same-told : (a b : FeedSoFar) → told a ≡ told b → a ≡ b
same-told a b is = cc

same-run : (one two : FeedRun) → running one ≡ running two → one ≡ two
same-run one two is = cc

-- a replica has the journal and the state of the run that it tells
record HasRun (replica : ReplicaSeen) (run : FeedRun) : Type 0 where
  journal : replica.journal ≡ run.events
  state : replica.state ≡ run.state

run-parts : (replica : ReplicaSeen) (run : FeedRun) → so_far replica ≡ running run → HasRun replica run
run-parts replica run is = by replica.start.line is
  where
    by : (line : Option ℕ) → (elim line as (λ l. FeedSoFar) [ None ↦ loading replica.rows | Some n ↦ running (record { from = replica.start.wiki.state; events = replica.journal; state = replica.state }) ]) ≡ running run → HasRun replica run
    by None e = absurd (let other : loading replica.rows ≡ running run = e in cc)
    by (Some n) e =
        let same = same-run (record { from = replica.start.wiki.state; events = replica.journal; state = replica.state }) run e in
        record { journal = ap (λ (r : FeedRun). r.events) same; state = ap (λ (r : FeedRun). r.state) same }

parts-reply : (replica : ReplicaSeen) (run : FeedRun) (body : List ℕ) → HasRun replica run → reply_of replica body ≡ reply_in run.state (length run.events) body
parts-reply replica run body parts =
    ap (λ (s : State). reply_in s (length replica.journal) body) parts.state ∙ ap (λ (j : List Event). reply_in run.state (length j) body) parts.journal

-- behind lines that tell a run
pub replies-as : (lines : List (List ℕ)) (run : FeedRun) → fed lines ≡ told (running run)
    → (replica : ReplicaSeen) → HasTakenLines lines replica → (body : List ℕ) → reply_of replica body ≡ reply_in run.state (length run.events) body
replies-as lines run tells replica has body =
    let same = same-told (so_far replica) (running run) (sym (lines-told lines replica has) ∙ tells) in
    parts-reply replica run body (run-parts replica run same)

-- before the first line
new-reply : (replica : ReplicaSeen) (body : List ℕ) → IsNew replica → reply_of replica body ≡ reply_in no_state 0 body
new-reply replica body new =
    ap (λ (s : State). reply_in s (length replica.journal) body) new.state ∙ ap (λ (j : List Event). reply_in no_state (length j) body) new.journal

-- by lines that are none, since a match on no lines can't tell that a line behind others is one
replies-none : (lines : List (List ℕ)) (replica : ReplicaSeen) → HasTakenLines lines replica → lines ≡ [] → (body : List ℕ) → reply_of replica body ≡ reply_in no_state 0 body
replies-none lines replica (none_yet new) none body = new-reply replica body new
replies-none lines replica (one_more {lines = before} line has takes) none body =
    absurd (omega (arith, length-append before (line ∷ []), ap length none))

pub replies-new : (replica : ReplicaSeen) → HasTakenLines [] replica → (body : List ℕ) → reply_of replica body ≡ reply_in no_state 0 body
replies-new replica has body = replies-none [] replica has refl body
