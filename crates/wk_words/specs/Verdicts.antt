-- What words come to (own): what they ask for, help, the version, or a refusal.
use Rattle.std.specs.Prelude.{ℕ, Bool, true, false, List, [], ◌∷◌, Option, Some, None, bytes_eq, unwrap_or, option_and_then, if◌then◌else◌, codes}
use Rattle.std.specs.Option.{option_map_or}
use Rattle.clap.specs.Words.{Row, Text, fault_of, first_of, matches_of}
use Rattle.clap.specs.Kinds.{Kinds}
use Rattle.clap.specs.declared.error.kind.ErrorKind.TheVariants.{DisplayHelp, DisplayVersion}
use Rattle.wk_report_rules.specs.declared.Report.{Report}
use Rattle.wk_text_rules.specs.Decimal.{is_decimal, digits_value}
use Rattle.wk_words.specs.Commands.{command_named}
use Rattle.wk_words.specs.Options.{NumberOption, wiki_app, workers, procs, max_connections, pages, number, journal_limit, most_lines}
use Rattle.wk_words.specs.Reports.{report_named}
use Rattle.wk_words.specs.declared.commands.Command.{Command}

-- what a legal command line asks for
pub record Wanted : Type 0 where
  pub command : Command
  pub store : Text
  pub listen : Text
  pub workers : ℕ
  pub procs : ℕ
  pub max_connections : ℕ
  pub pages : ℕ
  pub number : ℕ
  pub journal_limit : ℕ
  pub most : ℕ
  pub report : Report
  pub feed : Bool

-- the text that is given, or what stands for it
abbrev pub text_in : Text → Text → List Row → Text
text_in name default rows = unwrap_or (first_of name rows) default

-- the number that is given, which is written in digits, without a sign or a leading zero; or what stands for it
abbrev pub number_in : NumberOption → List Row → Option ℕ
number_in option rows =
    option_map_or (λ text. if is_decimal text then Some (digits_value text) else None) (first_of option.name rows) (Some option.default)

-- a flag is given: `clap` finds this text for it then, and another where it isn't
abbrev pub flag_in : Text → List Row → Bool
flag_in name rows = bytes_eq (text_in name (codes "false") rows) (codes "true")

infixl 10 ◌>>=◌
abbrev ◌>>=◌ : {X Y : Type 0} → Option X → (X → Option Y) → Option Y
o >>= f = option_and_then f o

-- what is wanted by what `clap` finds in the words: the command and the report are ones that stand, and each number is
-- written as above
abbrev pub wanted_in : List Row → Option Wanted
wanted_in rows = do
  command ← command_named (text_in (codes "command") [] rows)
  w ← number_in workers rows
  p ← number_in procs rows
  m ← number_in max_connections rows
  g ← number_in pages rows
  n ← number_in number rows
  j ← number_in journal_limit rows
  l ← number_in most_lines rows
  r ← report_named (text_in (codes "report") (codes "wanted") rows)
  Some (record {
    command = command;
    store = text_in (codes "store") [] rows;
    listen = text_in (codes "listen") (codes "127.0.0.1:8080") rows;
    workers = w;
    procs = p;
    max_connections = m;
    pages = g;
    number = n;
    journal_limit = j;
    most = l;
    report = r;
    feed = flag_in (codes "feed") rows;
  })

pub data Verdict : Type 0 where
  runs : Wanted → Verdict
  refused : Verdict
  shows_help : Verdict
  shows_version : Verdict

-- a refusal, where nothing is wanted
abbrev pub runs_or_refused : Option Wanted → Verdict
runs_or_refused (Some wanted) = runs wanted
runs_or_refused None = refused

-- `clap` takes the words, or shows help or the version, or refuses them
abbrev pub verdict_by : Kinds → Option Wanted → Verdict
verdict_by [] wanted = runs_or_refused wanted
verdict_by (DisplayHelp ∷ _) wanted = shows_help
verdict_by (DisplayVersion ∷ _) wanted = shows_version
verdict_by (_ ∷ _) wanted = refused

-- of the words, the program's name among them
unfoldable pub verdict : List Text → Verdict
verdict words = verdict_by (fault_of wiki_app words) (wanted_in (matches_of wiki_app words))

abbrev pub is_refused : Verdict → Bool
is_refused refused = true
is_refused _ = false
