use Rattle.wk_wiki_laws.proofs.Room.{room-step, room-calls, full-calls, back-calls, out-reopened}
use Rattle.wk_wiki_laws.proofs.journals.calls_leave_room.Goals as goal

pub returns-clause-room : goal.returns-clause-room
returns-clause-room c = room-calls

pub returns-clause-full : goal.returns-clause-full
returns-clause-full c = full-calls

pub returns-clause-give_back : goal.returns-clause-give_back
returns-clause-give_back c = back-calls

pub returns-clause-reopened : goal.returns-clause-reopened
returns-clause-reopened c = out-reopened

pub returns-clause-stepped : goal.returns-clause-stepped
returns-clause-stepped c = λ served most. room-step most served
