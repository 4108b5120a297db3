-- Calls that are counted, some of which are to fail (own). Both counts stop at the end of `u64`.
use Rattle.std.specs.Prelude.{ℕ, List, Contains}
use Rattle.wk_base.specs.Faults.{one_more}

-- the numbers of the calls that are to fail, from 1 on, and how many calls were made and how many failed
pub record CallsMade : Type 0 where
  pub to_fail : List ℕ
  pub made : ℕ
  pub faults : ℕ

-- no call was made, and those with these numbers are to fail
abbrev pub none_made : List ℕ → CallsMade
none_made numbers = record { to_fail = numbers; made = 0; faults = 0 }

-- the next call is to fail
abbrev pub IsNextToFail : CallsMade → Type 0
IsNextToFail calls = Contains calls.to_fail (one_more calls.made)

-- after a call that succeeded
abbrev pub after_success : CallsMade → CallsMade
after_success calls = record calls { made = one_more calls.made }

-- after a call that failed
abbrev pub after_failure : CallsMade → CallsMade
after_failure calls = record calls { made = one_more calls.made; faults = one_more calls.faults }
