-- What is told of a listed revision: the change that it is, with its page, or what it is among the revisions of its page.
use Rattle.std.specs.Prelude.{ℕ}
use Rattle.wk_page_rules.specs.History.{History, Revision}
use Rattle.wk_answer_rules.specs.Lists.{change_entries, revision_entries}
use Rattle.wk_answer_rules.specs.Values.{Entries}
use Rattle.wk_listings.specs.declared.entries.Shape.{Shape}
use Rattle.wk_listings.specs.declared.entries.Shape.TheVariants.{Change, OfItsPage}

abbrev pub entries_in : History → Shape → ℕ × Revision → Entries
entries_in h Change = change_entries h
entries_in h (OfItsPage content) = revision_entries content
