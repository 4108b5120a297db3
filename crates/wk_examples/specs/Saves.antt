-- A small wiki for the examples, A saved twice, B saved and deleted; and what is used of a journal.
use Rattle.std.specs.Prelude.{ℕ, pos, codes, Some, None}
use Rattle.wk_text_rules.specs.Titles.{PageTitle}
use Rattle.wk_page_rules.specs.History.{History, no_history, saved}
use Rattle.wk_page_rules.specs.Verdict.{JournalUse}

abbrev pub page_a : PageTitle
page_a = record { ns = pos 0; key = codes "A" }

abbrev pub page_b : PageTitle
page_b = record { ns = pos 0; key = codes "B" }

abbrev pub saved_twice : History
saved_twice = saved (saved no_history page_a (Some (codes "1")) 5) page_a (Some (codes "2")) 6

abbrev pub deleted_b : History
deleted_b = saved (saved saved_twice page_b (Some (codes "b")) 7) page_b None 8

-- a journal of this length, with no ticket out and no job yet
abbrev pub events : ℕ → JournalUse
events journal = record { journal = journal; tickets = 0; next_job = 1 }
