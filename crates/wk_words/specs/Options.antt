-- The command line (own): one word for the command, ten options of one value each, and a flag that has none. Each is
-- given at most once. `clap` reads it, as a command without subcommands, groups or rules between arguments.
use Rattle.std.specs.Prelude.{ℕ, true, List, [], ◌∷◌, ◌++◌, map, fold, Some, codes}
use Rattle.clap.specs.Words.{App, Rule, Text, new_app, new_rule, with_rule}
use Rattle.clap.specs.Simple.{on_top}
use Rattle.clap.specs.declared.builder.action.ArgAction.TheVariants.{SetTrue}
use Rattle.clap.specs.declared.builder.value_parser.ValueParser.TheVariants.{Unsigned}

-- an option whose value is a number: its name, its range, and the number where it isn't given
pub record NumberOption : Type 0 where
  pub name : Text
  pub least : ℕ
  pub most : ℕ
  pub default : ℕ

-- connections that are served at once
abbrev pub workers : NumberOption
workers = record { name = codes "workers"; least = 1; most = 64; default = 4 }

-- threads that do the jobs
abbrev pub procs : NumberOption
procs = record { name = codes "procs"; least = 1; most = 64; default = 1 }

-- connections after which serving ends
abbrev pub max_connections : NumberOption
max_connections = record { name = codes "max-connections"; least = 1; most = 1000000000; default = 1000000 }

-- pages that are generated
abbrev pub pages : NumberOption
pages = record { name = codes "pages"; least = 1; most = 10000; default = 50 }

-- the number that generated texts are drawn from
abbrev pub number : NumberOption
number = record { name = codes "number"; least = 0; most = 4294967295; default = 1 }

-- events of a life
abbrev pub journal_limit : NumberOption
journal_limit = record { name = codes "journal-limit"; least = 1; most = 33554432; default = 33554432 }

-- lines of a report
abbrev pub most_lines : NumberOption
most_lines = record { name = codes "most"; least = 1; most = 1000000; default = 50 }

abbrev pub numbers : List NumberOption
numbers = workers ∷ procs ∷ max_connections ∷ pages ∷ number ∷ journal_limit ∷ most_lines ∷ []

-- the word for the command, without which no line is legal
abbrev pub command_rule : Rule
command_rule = record (new_rule (codes "command")) { value_names = 1; required = true }

-- an option whose value is any text
abbrev pub text_rule : Text → Rule
text_rule name = record (new_rule name) { long = Some name; value_names = 1 }

-- an option whose value is a number of its range
abbrev pub number_rule : NumberOption → Rule
number_rule option =
    record (new_rule option.name) { long = Some option.name; value_names = 1; parser = Some (Unsigned option.least option.most) }

-- an option that has no value
abbrev pub flag_rule : Text → Rule
flag_rule name = record (new_rule name) { long = Some name; action = Some SetTrue }

abbrev pub rules : List Rule
rules =
    command_rule ∷ text_rule (codes "store") ∷ text_rule (codes "listen")
    ∷ (map number_rule numbers ++ (text_rule (codes "report") ∷ flag_rule (codes "feed") ∷ []))

-- the program's name, with a version and no argument yet
abbrev pub bare_app : App
bare_app = on_top (λ shape. record shape { has_version = true }) (new_app (codes "wiki"))

-- the command line as `clap` knows it
abbrev pub wiki_app : App
wiki_app = fold with_rule bare_app rules
