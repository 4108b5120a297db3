-- What a text becomes, by its reads.
use Rattle.std.specs.Prelude.{◌≡◌, ℕ, List}
use Rattle.wk_view_rules.specs.Plans.{done}
use Rattle.wk_view_rules.specs.Worlds.{Source, Seen, Agrees}
use Rattle.wk_subst_rules.specs.Substitution.{substituted}

-- the text that is saved, what it becomes, and the reads
pub record SubstitutedShown : Type 0 where
  pub saved : List ℕ
  pub text : List ℕ
  pub reads : Seen

-- It is so over each source that gives the reads their answers.
pub record IsSubstituted (saved text : List ℕ) (reads : Seen) : Type 0 where
  pub everywhere : (source : Source) → Agrees source reads → substituted source saved ≡ done text reads
