use Rattle.std.proofs.Common.{arith}
use Rattle.wk_words.specs.Options.{workers, procs, max_connections, pages, number, journal_limit, most_lines}
use Rattle.wk_words.proofs.reading.command_line.Goals as goal

pub read_number-requires-clause-range : goal.read_number-requires-clause-range
read_number-requires-clause-range c = c.requires 0 workers (omega arith)

pub read_number-requires-2-clause-range : goal.read_number-requires-2-clause-range
read_number-requires-2-clause-range c = c.requires 1 procs (omega arith)

pub read_number-requires-3-clause-range : goal.read_number-requires-3-clause-range
read_number-requires-3-clause-range c = c.requires 2 max_connections (omega arith)

pub read_number-requires-4-clause-range : goal.read_number-requires-4-clause-range
read_number-requires-4-clause-range c = c.requires 3 pages (omega arith)

pub read_number-requires-5-clause-range : goal.read_number-requires-5-clause-range
read_number-requires-5-clause-range c = c.requires 4 number (omega arith)

pub read_number-requires-6-clause-range : goal.read_number-requires-6-clause-range
read_number-requires-6-clause-range c = c.requires 5 journal_limit (omega arith)

pub read_number-requires-7-clause-range : goal.read_number-requires-7-clause-range
read_number-requires-7-clause-range c = c.requires 6 most_lines (omega arith)
