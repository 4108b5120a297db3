-- What holds of an entry of a cache at all times (own).
use Rattle.std.specs.Prelude.{find, IsSome, Option, option_and_then}
use Rattle.wk_page_rules.specs.History.{page_number}
use Rattle.wk_view_rules.specs.Worlds.{PageText, Read, is_read_of, page_of}
use Rattle.wk_view_rules.specs.declared.Kind.TheVariants.{View}
use Rattle.wk_wiki_rules.specs.States.{State}
use Rattle.wk_wiki_rules.specs.Passes.{CacheEntry, IsHonestEntry}

-- the text that was read of the entry's own page, where it was there
abbrev pub text_read : CacheEntry → Option PageText
text_read entry =
    option_and_then (λ (read : Read). page_of read.answer) (find (is_read_of entry.reading.page View) entry.reading.reads)

-- The entry is honest, and a page of which a text was read has a number. An honest entry alone may have read another page's
-- revision, and so stay honest only until the page is saved.
pub record IsLastingEntry (state : State) (entry : CacheEntry) : Type 0 where
  pub honest : IsHonestEntry state entry
  pub numbered : IsSome (text_read entry) → IsSome (page_number state.history entry.reading.page)
