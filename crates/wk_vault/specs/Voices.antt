-- What is told of the changes of a store in a file (own).
use Rattle.std.specs.Prelude.{Option, None, Some}
use Rattle.wk_sqlkeeper.specs.declared.cause.SqlCause.{SqlCause}
use Rattle.wk_sqlkeeper.specs.declared.cause.SqlCause.TheVariants.{Memory}

-- The cause that was told last, behind a change that was refused for this cause, or was stored. One that was stored makes
-- room for each cause again, and want of memory isn't told.
abbrev pub told_after : Option SqlCause → Option SqlCause → Option SqlCause
told_after told None = None
told_after told (Some Memory) = told
told_after told (Some why) = Some why
