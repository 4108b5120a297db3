use Rattle.std.proofs.Common.{inl}
use Rattle.wk_sqlmemory_laws.proofs.a_new_database_has_a_new_wiki.Goals as goal

pub adopt-requires : goal.adopt-requires
adopt-requires c = inl c.requires.empty
