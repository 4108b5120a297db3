-- One pass over the pieces of a text from the left. It meets each closing run with what it has seen before it looks
-- further, and so does the work of the rewriting with a stack of opening runs.
use Rattle.std.specs.Prelude.{ℕ, zero, suc, ◌-◌, ◌==◌, List, [], ◌∷◌, ◌++◌, map, if◌then◌else◌}
use Rattle.wk_tree_rules.specs.Reduction.{Delimiter, braces, brackets, Run, Piece, entry, opening, closing, plain_opening, plain_closing, first_delimiters, last_delimiters, most_height, node_width, kind_by_width}
use Rattle.wk_tree_rules.specs.Trees.{node, Entry, item, content_of, content_height, plain_entry}

-- an opening run that no closing run has taken, and the entries behind it up to the next such run
pub record Opener : Type 0 where
  pub run : Run
  pub stretch : List Entry

-- what a pass has seen: the entries before the first such run, and the openers, the last of the text first
pub record PassState : Type 0 where
  pub first : List Entry
  pub openers : List Opener

abbrev pub nothing_seen : PassState
nothing_seen = record { first = []; openers = [] }

-- what has been seen, as pieces
abbrev pub pieces_by : List Entry → List Opener → List Piece
pieces_by first [] = map entry first
pieces_by first (opener ∷ openers) = pieces_by first openers ++ opening opener.run ∷ map entry opener.stretch

abbrev pub pieces_seen : PassState → List Piece
pieces_seen seen = pieces_by seen.first seen.openers

-- entries behind all that has been seen
abbrev pub added_by : List Entry → List Entry → List Opener → PassState
added_by parts first [] = record { first = first ++ parts; openers = [] }
added_by parts first (opener ∷ openers) = record { first = first; openers = record opener { stretch = opener.stretch ++ parts } ∷ openers }

abbrev pub added : List Entry → PassState → PassState
added parts seen = added_by parts seen.first seen.openers

-- an opening run behind all that has been seen
abbrev pub opened : Run → PassState → PassState
opened run seen = record seen { openers = record { run = run; stretch = [] } ∷ seen.openers }

-- what is left of an opening run, by the number of its delimiters
abbrev pub reopened : ℕ → Run → PassState → PassState
reopened zero run seen = seen
reopened (suc zero) run seen = added (item (plain_opening run) ∷ []) seen
reopened (suc (suc n)) run seen = opened run seen

-- ---- a closing run and the last opener

-- what has been seen then, and what is left of the closing run
pub record Met : Type 0 where
  pub seen : PassState
  pub rest : Run

abbrev pub met_as_plain : Run → PassState → Met
met_as_plain closer seen = record { seen = added (item (plain_closing closer) ∷ []) seen; rest = last_delimiters 0 closer }

abbrev pub met_as_node : Opener → Run → PassState → Met
met_as_node opener closer outer =
    let c = node_width opener.run closer in
    record {
      seen = added (item (node (kind_by_width c) (last_delimiters c opener.run).start (content_of opener.stretch)) ∷ [])
          (reopened (opener.run.count - c) (first_delimiters (opener.run.count - c) opener.run) outer);
      rest = last_delimiters (closer.count - c) closer;
    }

abbrev pub met_as_brackets : Opener → Run → PassState → Met
met_as_brackets opener closer outer =
    record {
      seen = added (item (plain_opening (last_delimiters 2 opener.run)) ∷ map (λ e. item (plain_entry e)) opener.stretch ++ item (plain_closing (first_delimiters 2 closer)) ∷ [])
          (reopened (opener.run.count - 2) (first_delimiters (opener.run.count - 2) opener.run) outer);
      rest = last_delimiters (closer.count - 2) closer;
    }

abbrev pub met_by_delimiters : Delimiter → Delimiter → Opener → Run → PassState → PassState → Met
met_by_delimiters braces braces opener closer outer seen =
    if content_height (content_of opener.stretch) == most_height then met_as_plain closer seen else met_as_node opener closer outer
met_by_delimiters brackets brackets opener closer outer seen = met_as_brackets opener closer outer
met_by_delimiters braces brackets opener closer outer seen = met_as_plain closer seen
met_by_delimiters brackets braces opener closer outer seen = met_as_plain closer seen

abbrev pub met_by_openers : Run → List Entry → List Opener → Met
met_by_openers closer first [] = met_as_plain closer (record { first = first; openers = [] })
met_by_openers closer first (opener ∷ openers) =
    met_by_delimiters opener.run.delimiters closer.delimiters opener closer (record { first = first; openers = openers }) (record { first = first; openers = opener ∷ openers })

abbrev pub met : Run → PassState → Met
met closer seen = met_by_openers closer seen.first seen.openers

-- ---- the pass

-- by the number of delimiters that are left of a closing run: none; one, which is plain; or a run, which meets what has
-- been seen again
abbrev pub resumed : ℕ → Met → PassState → PassState
resumed zero met again = met.seen
resumed (suc zero) met again = added (item (plain_closing met.rest) ∷ []) met.seen
resumed (suc (suc n)) met again = again

-- a closing run behind all that has been seen, met at most so many times
unfoldable pub closed : ℕ → Run → PassState → PassState
closed zero closer seen = seen
closed (suc n) closer seen =
    let now = met closer seen in
    let again = closed n now.rest now.seen in
    resumed now.rest.count now again

-- the pass over what is ahead
unfoldable pub passed : PassState → List Piece → PassState
passed seen [] = seen
passed seen (entry e ∷ ahead) = passed (added (e ∷ []) seen) ahead
passed seen (opening run ∷ ahead) = passed (opened run seen) ahead
passed seen (closing run ∷ ahead) = passed (closed run.count run seen) ahead
