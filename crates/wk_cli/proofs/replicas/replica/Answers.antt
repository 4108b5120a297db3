use Rattle.std.proofs.Common.{refl, sym, ◌∙◌, arith}
use Rattle.wk_commands.specs.declared.replicas.ReplicaEnd.TheVariants.{WriteFault}
use Rattle.wk_cli.proofs.Ended.{followed-rose, followed-same}
use Rattle.wk_cli.proofs.Statuses.{replica-is-done, replica-is-door-fault, replica-is-read-fault, replica-is-write-fault, replica-without}
use Rattle.wk_cli.proofs.replicas.replica.Goals as goal

pub returns : goal.returns
returns g c =
    let end = c.follow_feed.result in
    let done = c.follow_feed.ensures in record {
      followed = λ moments. record {
        end = end;
        followed = done.followed;
        links = done.links;
        no_moment = refl;
        status_is = c.ended.ensures.status;
        bad_is = c.ended.ensures.bad;
        no_point = c.ended.ensures.points;
        no_store = c.ended.ensures.store;
      };
      reads_never_fall = done.reads_never_fall;
      no_read_fault = λ is. done.no_read_fault (replica-is-done end (sym c.ended.ensures.status ∙ is));
      read_fault = λ is. done.read_fault (replica-is-read-fault end (sym c.ended.ensures.status ∙ is));
      writes_never_fall = done.never_falls;
      no_write_fault = λ is. done.no_write_fault (replica-without end WriteFault (sym c.ended.ensures.status ∙ is) (λ four. omega (arith, four)));
      write_fault = λ is. done.write_fault (replica-is-write-fault end (sym c.ended.ensures.status ∙ is));
      doors_never_fall = done.door_never_falls;
      no_door_fault = λ is. followed-same done.followed (replica-is-done end (sym c.ended.ensures.status ∙ is));
      door_fault = λ is. followed-rose done.followed (replica-is-door-fault end (sym c.ended.ensures.status ∙ is));
    }
