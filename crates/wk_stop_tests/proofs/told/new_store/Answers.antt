use Rattle.std.proofs.Common.{inl}
use Rattle.wk_stop_tests.proofs.told.new_store.Goals as goal

pub adopt-requires : goal.adopt-requires
adopt-requires c = inl c.in_ok-open_in_memory.ensures.empty
