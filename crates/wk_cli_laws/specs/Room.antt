-- Which refusals come for want of room alone (own).
use Rattle.wk_page_rules.specs.Verdict.{Refusal, invalid_title, content_too_big, article_exists, missing_title, edit_conflict, wiki_full, journal_full}

-- the wiki or its journal is full
abbrev pub IsForRoom : Refusal → Type 0
IsForRoom invalid_title = ⊥
IsForRoom content_too_big = ⊥
IsForRoom article_exists = ⊥
IsForRoom missing_title = ⊥
IsForRoom (edit_conflict current) = ⊥
IsForRoom (wiki_full limit) = Unit {0}
IsForRoom journal_full = Unit {0}
