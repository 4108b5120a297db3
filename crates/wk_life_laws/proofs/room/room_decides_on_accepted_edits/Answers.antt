use Rattle.wk_life_laws.proofs.RunRoom.{accepted_in, accepted_only, full_in, refused_in, unchanged_in}
use Rattle.wk_life_laws.proofs.room.room_decides_on_accepted_edits.Goals as goal

pub returns-clause-accepted : goal.returns-clause-accepted
returns-clause-accepted c = accepted_in

pub returns-clause-full : goal.returns-clause-full
returns-clause-full c = full_in

pub returns-clause-refused : goal.returns-clause-refused
returns-clause-refused c = refused_in

pub returns-clause-unchanged : goal.returns-clause-unchanged
returns-clause-unchanged c = unchanged_in

pub returns-clause-only_so : goal.returns-clause-only_so
returns-clause-only_so c = accepted_only
