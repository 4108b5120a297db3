-- The forms of replies: objects whose members come in the order of their keys, by bytes, whole numbers, and titles (own, in
-- the style of MediaWiki's API:Data formats).
use Rattle.std.specs.Prelude.{ℕ, ℤ, List, [], ◌∷◌, map, fold, codes}
use Rattle.serde_json.specs.Data.{Data, number, unsigned, string, array, object, Items, item, no_items, no_members, put}
use Rattle.serde_json.specs.Find.{of_integer}
use Rattle.wk_text_rules.specs.Titles.{PageTitle, shown}

-- a reply, and the journal's length at its step, which it shows
pub record ApiReply : Type 0 where
  pub value : Data
  pub point : ℕ

-- keys and values, in any order
abbrev pub Entries : Type 0
Entries = List (List ℕ × Data)

-- the object of these, in the order of their keys
abbrev pub object_of : Entries → Data
object_of entries = object (fold (λ members entry. put entry.0 entry.1 members) no_members entries)

abbrev pub items_of : List Data → Items
items_of [] = no_items
items_of (value ∷ values) = item value (items_of values)

abbrev pub array_of : List Data → Data
array_of values = array (items_of values)

abbrev pub whole : ℕ → Data
whole n = number (unsigned n)

abbrev pub integer : ℤ → Data
integer n = number (of_integer n)

-- a title: its namespace, and its shown form
abbrev pub title_entries : PageTitle → Entries
title_entries title = (codes "ns", integer title.ns) ∷ (codes "title", string (shown title)) ∷ []

abbrev pub titles_value : List PageTitle → Data
titles_value titles = array_of (map (λ title. object_of (title_entries title)) titles)

-- a reply with these entries beside its point
abbrev pub reply_beside : Entries → ℕ → ApiReply
reply_beside entries point = record { value = object_of ((codes "point", whole point) ∷ entries); point = point }
