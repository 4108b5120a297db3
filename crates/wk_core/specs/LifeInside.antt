-- What the parts of a life stand for together.
use Rattle.std.specs.Prelude.{false, vec_capacity}
use Rattle.wk_wiki_rules.specs.Steps.{reopened_jobs}
use Rattle.wk_wiki_rules.specs.Starts.{StartKept}
use Rattle.wk_revs.specs.Edit.{most_held}
use Rattle.wk_core.specs.LifeHeld.{LifeHeld, KeepsLife}
use Rattle.wk_core.specs.declared.life.Life.TheInside.{Inside}

-- what is kept of a start, of which the jobs are kept as they stood before the restart that it begins with
abbrev pub kept_with : StartKept → StartKept
kept_with kept = record kept { jobs = reopened_jobs kept.jobs }

-- the keeper is no part of it, and so no whole one either
abbrev pub held : Inside → LifeHeld
held l = record {
  life = record {
    kept = kept_with l.kept;
    limits = most_held l.limits;
    whole = false;
    sealed = l.sealed;
    entries = l.entries.items;
    state = l.live.state;
  };
  room = l.live.room;
  spare = l.spare;
}

abbrev pub IsHeld : Inside → Type 0
IsHeld l = KeepsLife (held l) (vec_capacity l.entries)
