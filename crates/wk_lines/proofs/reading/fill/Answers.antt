use Rattle.std.proofs.Common.{[]}
use Rattle.std.proofs.KnownBytes.{Consumes-kept, Consumes-nil}
use Rattle.wk_lines.specs.declared.stop.Stop.TheVariants.{Bound, ReadFault}
use Rattle.wk_lines.proofs.Joined.{stops_unread}
use Rattle.wk_lines.proofs.reading.fill.Goals as goal

pub returns-then-total-ge-BOUND-clause-err : goal.returns-then-total-ge-BOUND-clause-err
returns-then-total-ge-BOUND-clause-err g c =
    stops_unread _ _ _ Bound (Consumes-nil _) (λ _. c.if-total-ge-BOUND.true) tt c.requires.none c.requires.begun

pub returns-in-Err-clause-err : goal.returns-in-Err-clause-err
returns-in-Err-clause-err g c =
    stops_unread _ _ _ ReadFault (Consumes-kept _ _ _ [] (Consumes-nil _) c.in-Err.ensures.bytes) (λ is. absurd (cc is)) tt
    c.requires.none c.requires.begun
