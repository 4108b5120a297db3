-- The commands that stand, and their words (own).
use Rattle.std.specs.Prelude.{ℕ, List, [], ◌∷◌, Option, option_map, find, bytes_eq, codes}
use Rattle.wk_words.specs.declared.commands.Command.{Command}
use Rattle.wk_words.specs.declared.commands.Command.TheVariants.{Script, Serve, Jobs, Check, Generate, Report, Replica}

-- each command that stands, behind its word
abbrev pub standing : List (List ℕ × Command)
standing =
    (codes "script", Script) ∷ (codes "serve", Serve) ∷ (codes "jobs", Jobs) ∷ (codes "check", Check) ∷ (codes "gen", Generate) ∷ (codes "report", Report)
    ∷ (codes "replica", Replica) ∷ []

-- the command that the word names, where it names one that stands
abbrev pub command_named : List ℕ → Option Command
command_named word = option_map (λ entry. entry.1) (find (λ entry. bytes_eq entry.0 word) standing)
