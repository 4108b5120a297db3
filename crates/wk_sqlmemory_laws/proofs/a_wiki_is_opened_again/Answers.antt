use Rattle.std.proofs.Common.{inl, inr}
use Rattle.wk_sqlmemory_laws.proofs.a_wiki_is_opened_again.Goals as goal

pub adopt-requires : goal.adopt-requires
adopt-requires c = inr (inl c.release-connection.ensures.keeps)
