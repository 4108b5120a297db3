-- A command line without options.
use Rattle.std.specs.Prelude.{false, [], codes}
use Rattle.wk_report_rules.specs.declared.Report.TheVariants.{Wanted as WantedTitles}
use Rattle.wk_words.specs.Verdicts.{Wanted}
use Rattle.wk_words.specs.declared.commands.Command.{Command}

-- a command, where no option is given
abbrev pub bare : Command → Wanted
bare command = record {
  command = command;
  store = [];
  listen = codes "127.0.0.1:8080";
  workers = 4;
  procs = 1;
  max_connections = 1000000;
  pages = 50;
  number = 1;
  journal_limit = 33554432;
  most = 50;
  report = WantedTitles;
  feed = false;
}
