use Rattle.std.proofs.Common.{◌≡◌, refl, arith}
use Rattle.wk_commands.specs.Followed.{broken}
use Rattle.wk_commands.specs.Served.{not_listening}
use Rattle.wk_commands.specs.declared.replicas.ReplicaEnd.TheVariants.{Done, DoorFault, ReadFault, WriteFault}
use Rattle.wk_commands.proofs.Followed.{count-read, followed-by, links-read, read-done, read-rose}
use Rattle.wk_commands.proofs.replicas.follow_begun.Goals as goal

-- links were served
pub returns-in-Ok : goal.returns-in-Ok
returns-in-Ok g c =
    let told = g.D.Door.told in
    let faults = g.D.Door.faults in
    let taken = g.O.Sink.taken in
    let served = c.serve_replica.result in
    let end = c.end_following.result in
    let ends = c.end_following.ensures.ends in
    let address = c.args.asked.address.now in
    let most = c.args.asked.most in
    let left = g.I.Source.rest c.serve_replica.new.input in
    let before = taken c.args.output.now in
    let after = taken c.end_following.new.output in record {
      followed = λ rest fed. followed-by address most (told c.args.door.now) (told c.listen.new.self) (told c.serve_replica.new.door) (faults c.args.door.now) (faults c.listen.new.self) (faults c.serve_replica.new.door)
          rest left before after c.in-Ok.ensures.listens c.in-Ok.ensures.no_fault served.end served.taken served.events end c.serve_replica.ensures.served (c.serve_replica.ensures.fed rest fed) ends;
      links = links-read address most (told c.args.door.now) (told c.listen.new.self) (told c.serve_replica.new.door) (faults c.args.door.now) (faults c.listen.new.self) (faults c.serve_replica.new.door)
          left left before after c.in-Ok.ensures.listens c.in-Ok.ensures.no_fault served.end served.taken c.serve_replica.ensures.served;
      reads_never_fall = c.serve_replica.ensures.never_falls;
      no_read_fault = λ is. c.serve_replica.ensures.no_fault (read-done before after end is served.end served.taken served.events ends);
      read_fault = λ is. c.serve_replica.ensures.fault (read-rose before after end is served.end served.taken served.events ends);
      never_falls = c.end_following.ensures.never_falls;
      no_write_fault = c.end_following.ensures.no_write_fault;
      write_fault = c.end_following.ensures.write_fault;
      door_never_falls = count-read address most (told c.args.door.now) (told c.listen.new.self) (told c.serve_replica.new.door) (faults c.args.door.now) (faults c.listen.new.self) (faults c.serve_replica.new.door)
          left left before after c.in-Ok.ensures.listens c.in-Ok.ensures.no_fault served.end served.taken c.serve_replica.ensures.served;
    }

-- nothing was asked of the door but to listen
pub returns-in-Err : goal.returns-in-Err
returns-in-Err g c = record {
  followed = λ rest fed. broken c.in-Err.ensures.cause refl;
  links = not_listening c.in-Err.ensures.refused;
  reads_never_fall = omega arith;
  no_read_fault = λ is. absurd (let e : DoorFault ≡ Done = is in cc);
  read_fault = λ is. absurd (let e : DoorFault ≡ ReadFault = is in cc);
  never_falls = omega arith;
  no_write_fault = λ _. refl;
  write_fault = λ is. absurd (let e : DoorFault ≡ WriteFault = is in cc);
  door_never_falls = c.listen.ensures.never_falls;
}
