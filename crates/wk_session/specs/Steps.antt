-- The kinds of what a step did (own).
use Rattle.wk_http.specs.declared.report.Refresh.{Refresh}
use Rattle.wk_http.specs.declared.report.Refresh.TheVariants as kind
use Rattle.wk_readers.specs.declared.outcome.Refreshed.{Refreshed}
use Rattle.wk_readers.specs.declared.outcome.Refreshed.TheVariants as refreshed

abbrev pub kind_of : Refreshed → Refresh
kind_of (refreshed.Idle claimed) = kind.Idle
kind_of (refreshed.Fanned fanned) = kind.Fanned
kind_of (refreshed.Done title) = kind.Done
kind_of (refreshed.Back title what read now) = kind.Back
kind_of refreshed.JournalFull = kind.JournalFull
kind_of refreshed.StoreFault = kind.StoreFault
kind_of refreshed.Memory = kind.Memory
