-- What a feed knows of the bytes that are left.
use Rattle.std.specs.Prelude.{ℕ, ◌<◌, ◌≤◌, List, ◌++◌, length, drop, take}
use Rattle.wk_wire_rules.specs.Messages.{IsBad, IsOpen}
use Rattle.wk_http.specs.declared.feed.Known.{Known}
use Rattle.wk_http.specs.declared.feed.Known.TheVariants.{OpenBelow, Bad, At}
use Rattle.wk_http.specs.declared.feed.Step.{Step}
use Rattle.wk_http.specs.Places.{EndsAt}
use Rattle.wk_http.specs.Requests.{Gives}

-- Fewer bytes than so many, whichever follow, hold no whole message and no bad place; or a bad place is there; or so many
-- bytes end at a place of a head.
abbrev pub IsKnown : List ℕ → Known → Type 0
IsKnown bytes (OpenBelow count) = (more : List ℕ) → length (bytes ++ more) < count → IsOpen (bytes ++ more)
IsKnown bytes (Bad status) = IsBad bytes status
IsKnown bytes (At place count) = (count ≤ length bytes) × EndsAt (take count bytes) place

-- the answer at the bytes, and what is left and known behind it
pub record IsStep (bytes : List ℕ) (step : Step) : Type 0 where
  pub inside : step.count ≤ length bytes
  pub gives : Gives bytes step.next (drop step.count bytes)
  pub known : IsKnown (drop step.count bytes) step.known
