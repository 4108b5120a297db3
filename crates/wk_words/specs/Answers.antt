-- The answers of the code, read as the rules have them.
use Rattle.std.specs.Prelude.{◌≡◌, ◌≤◌, ⊤, ℕ, true, List, map, IfSome, string_bytes, String}
use Rattle.clap.specs.Words.{Row, Text, first_of}
use Rattle.clap.specs.ValueTests.{is_unsigned_in}
use Rattle.clap.specs.declared.error.kind.ErrorKind.{ErrorKind}
use Rattle.clap.specs.declared.error.kind.ErrorKind.TheVariants.{DisplayHelp, DisplayVersion, OutOfMemory}
use Rattle.wk_words.specs.Options.{NumberOption, workers, procs, max_connections, pages, number, journal_limit, most_lines}
use Rattle.wk_words.specs.Verdicts.{Wanted, Verdict, refused, shows_help, shows_version}
use Rattle.wk_words.specs.declared.options.NumberOption.{NumberOption as DeclaredOption}
use Rattle.wk_words.specs.declared.reading.CommandLine.{CommandLine}
use Rattle.wk_words.specs.declared.refusals.Refusal.{Refusal}
use Rattle.wk_words.specs.declared.refusals.Refusal.TheVariants.{Words, Help, Version, Memory}

-- the words as texts
abbrev pub texts : {A : Type 0} → List (String A) → List Text
texts words = map string_bytes words

-- what a command line asks for
abbrev pub wanted_of : CommandLine → Wanted
wanted_of line = record {
  command = line.command;
  store = line.store.now;
  listen = line.listen.now;
  workers = line.workers;
  procs = line.procs;
  max_connections = line.max_connections;
  pages = line.pages;
  number = line.number;
  journal_limit = line.journal_limit;
  most = line.most;
  report = line.report;
  feed = line.feed;
}

abbrev pub IsWithin : NumberOption → ℕ → Type 0
IsWithin option n = (option.least ≤ n) × (n ≤ option.most)

-- each number of the line is one of its option's range
pub record IsInRange (line : CommandLine) : Type 0 where
  pub workers : IsWithin workers line.workers
  pub procs : IsWithin procs line.procs
  pub max_connections : IsWithin max_connections line.max_connections
  pub pages : IsWithin pages line.pages
  pub number : IsWithin number line.number
  pub journal_limit : IsWithin journal_limit line.journal_limit
  pub most : IsWithin most_lines line.most

-- a refusal says what words come to; want of memory says nothing
abbrev pub Tells : Verdict → Refusal → Type 0
Tells verdict (Words text) = verdict ≡ refused
Tells verdict (Help text) = verdict ≡ shows_help
Tells verdict (Version text) = verdict ≡ shows_version
Tells verdict Memory = ⊤

-- an option of the code
abbrev pub option_of : DeclaredOption → NumberOption
option_of option = record { name = option.name.now; least = option.least; most = option.most; default = option.default }

-- what is given for the option is a number of its range, perhaps behind a plus and zeros
abbrev pub KeepsRange : List Row → NumberOption → Type 0
KeepsRange rows option = IfSome (first_of option.name rows) (λ text. is_unsigned_in option.least option.most text ≡ true)

-- a refusal that shows an error of this kind
abbrev pub Shows : ErrorKind → Refusal → Type 0
Shows DisplayHelp refusal = Tells shows_help refusal
Shows DisplayVersion refusal = Tells shows_version refusal
Shows OutOfMemory refusal = refusal ≡ Memory
Shows _ refusal = Tells refused refusal
