use Rattle.std.proofs.Common.{refl}
use Rattle.wk_life_laws.proofs.RunRoom.{claim_room, claim_room_only, full_journal, full_numbers, no_claim_room, not_full, not_full_only}
use Rattle.wk_life_laws.proofs.room.room_is_found_in_numbers.Goals as goal

pub returns-clause-not_full : goal.returns-clause-not_full
returns-clause-not_full c = not_full

pub returns-clause-full_journal : goal.returns-clause-full_journal
returns-clause-full_journal c = full_journal

pub returns-clause-full_numbers : goal.returns-clause-full_numbers
returns-clause-full_numbers c = full_numbers

pub returns-clause-only_so : goal.returns-clause-only_so
returns-clause-only_so c = not_full_only

pub returns-clause-fan : goal.returns-clause-fan
returns-clause-fan c = λ most state point. refl

pub returns-clause-claim : goal.returns-clause-claim
returns-clause-claim c = claim_room

pub returns-clause-no_claim : goal.returns-clause-no_claim
returns-clause-no_claim c = no_claim_room

pub returns-clause-claim_only_so : goal.returns-clause-claim_only_so
returns-clause-claim_only_so c = claim_room_only
