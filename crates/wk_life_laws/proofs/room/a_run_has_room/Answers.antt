use Rattle.wk_life_laws.proofs.RunRoom.{run_full, run_give_back, run_room}
use Rattle.wk_life_laws.proofs.room.a_run_has_room.Goals as goal

pub returns-clause-room : goal.returns-clause-room
returns-clause-room c = run_room

pub returns-clause-give_back : goal.returns-clause-give_back
returns-clause-give_back c = λ start journal state ticket page run holds. run_give_back start journal state run ticket page holds

pub returns-clause-full : goal.returns-clause-full
returns-clause-full c = run_full
