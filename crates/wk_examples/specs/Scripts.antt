-- Scripts of the worked examples, and what their lines are answered with. Where no moments are given, each save is at moment 0.
use Rattle.std.specs.Prelude.{ℕ, List, [], ◌∷◌, ◌++◌, map, codes, Some}
use Rattle.std.specs.Option.{option_to_list}
use Rattle.serde_json.specs.Written.{compact_text}
use Rattle.wk_text_rules.specs.Lines.{lines}
use Rattle.wk_page_rules.specs.Verdict.{MostHeld, full_limits}
use Rattle.wk_table_rules.specs.Rows.{StoreTables, no_tables}
use Rattle.wk_wiki_rules.specs.States.{no_state}
use Rattle.wk_wiki_rules.specs.Lives.{opened}
use Rattle.wk_answer_rules.specs.Values.{ApiReply}
use Rattle.wk_answer_rules.specs.ApiErrors.{storefault, api_error}
use Rattle.wk_script_rules.specs.WikiScripts.{WikiScript, script_from}
use Rattle.wk_script_rules.specs.ScriptLines.{script_line}
use Rattle.wk_script_rules.specs.Steps.{LineStep, line_step}
use Rattle.wk_script_rules.specs.Runs.{max_line, replies_text, wiki_script_replies}
use Rattle.wk_examples.specs.Stores.{title_a, title_b, page, revision, link}
use Rattle.wk_examples.specs.Wikis.{old_tables}

-- a script over an empty wiki
abbrev pub nothing_saved : WikiScript
nothing_saved = script_from no_state

-- what is written for these bytes with full limits, in an empty wiki
abbrev pub first_output : List ℕ → List ℕ
first_output bytes = replies_text (wiki_script_replies full_limits nothing_saved (lines max_line bytes) [])

-- the replies to these lines as they are written, but for the newlines
abbrev pub replies_at : List ℕ → MostHeld → WikiScript → List (List ℕ) → List (List ℕ)
replies_at moments most s script = map (λ reply. compact_text reply.value) (wiki_script_replies most s (map (λ line. Some line) script) moments)

abbrev pub replies_to : MostHeld → WikiScript → List (List ℕ) → List (List ℕ)
replies_to most s script = replies_at [] most s script

-- the same with full limits, in an empty wiki
abbrev pub first_replies : List (List ℕ) → List (List ℕ)
first_replies script = replies_to full_limits nothing_saved script

-- the limits of wikis that are full soon
abbrev pub journal_of_three : MostHeld
journal_of_three = record full_limits { journal = 3 }

abbrev pub journal_of_four : MostHeld
journal_of_four = record full_limits { journal = 4 }

abbrev pub one_page : MostHeld
one_page = record full_limits { pages = 1 }

abbrev pub one_revision : MostHeld
one_revision = record full_limits { revisions = 1 }

abbrev pub one_byte : MostHeld
one_byte = record full_limits { text = 1 }

-- a script over the store of version 1
abbrev pub first_version : WikiScript
first_version = script_from (opened old_tables)

-- A, whose text is `x`, has a link row to B and no job
abbrev pub linking_tables : StoreTables
linking_tables = record no_tables {
  pages = page 1 title_a 1 1 ∷ [];
  revisions = revision 1 1 0 (codes "x") ∷ [];
  pagelinks = link 1 title_b ∷ [];
}

-- ---- a store whose second call for a save fails

abbrev pub save_a : List ℕ
save_a = codes "api action=edit&title=A&text=a&token=%2B%5C"

abbrev pub save_b : List ℕ
save_b = codes "api action=edit&title=B&text=b&token=%2B%5C"

abbrev pub first_saved : LineStep
first_saved = line_step full_limits nothing_saved 0 (script_line (Some save_a))

abbrev pub second_saved : LineStep
second_saved = line_step full_limits first_saved.after 0 (script_line (Some save_b))

abbrev pub faulty_replies : List ApiReply
faulty_replies = option_to_list first_saved.reply ++ api_error storefault 1 ∷ option_to_list second_saved.reply

abbrev pub faulty_end : WikiScript
faulty_end = second_saved.after
