use Rattle.std.proofs.Common.{◌≡◌, ℕ, List, subst}
use Rattle.wk_http.specs.Requests.{Gives as Given}
use Rattle.wk_http.specs.declared.request.Next.{Next}
use Rattle.wk_messages.specs.Reading.{Reading, StopsAt}
use Rattle.wk_messages.proofs.Joined.{stops_after}
use Rattle.wk_messages.proofs.reading.next_message.Goals as goal

-- the reading stopped behind bytes that hold no message
pub returns-in-Err-fill-clause-err : goal.returns-in-Err-fill-clause-err
returns-in-Err-fill-clause-err g c =
    let next : Reading = record { left = c.fill.new.feed; total = c.fill.new.total } in
    let same : c.next.new.self ≡ c.reads.feed =
    (subst (λ (n : Next). Given c.reads.feed n c.next.new.self) c.in-Ok-More.field-0-is c.in-Ok-More.ensures.ok).1 in
    stops_after (record { left = c.args.feed.now; total = c.args.total.now }) (record { left = c.reads.feed; total = c.reads.total }) next
    (g.L.Source.rest c.args.link.now) (g.L.Source.rest c.reads.link) (g.L.Source.rest c.fill.new.link) c.in-Err-fill.end c.reads.invariant.0
    (subst
    (λ (l : List ℕ). StopsAt (record { left = l; total = c.reads.total }) next (g.L.Source.rest c.reads.link) (g.L.Source.rest c.fill.new.link) c.in-Err-fill.end)
    same c.in-Err-fill.ensures.err)
