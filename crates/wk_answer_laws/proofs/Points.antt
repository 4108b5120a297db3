-- Reads make no event, and each reply shows the point behind its event.
use Rattle.std.proofs.Common.{◌≡◌, ℕ, ◌+◌, Bool, true, false, cond, ltb, length, Option, Some, None, refl, ap, ◌∙◌, arith}
use Rattle.std.specs.Option.{option_to_list}
use Rattle.std.specs.Prelude.{nat_lt}
use Rattle.wk_text_rules.specs.Titles.{PageTitle}
use Rattle.wk_page_rules.specs.Verdict.{EditAsked, MostHeld, Verdict, refuse, no_change, accept, real_title, max_text, body_bytes}
use Rattle.wk_wiki_rules.specs.States.{State}
use Rattle.wk_wiki_rules.specs.Verdicts.{verdict_in}
use Rattle.wk_wiki_rules.specs.SaveOutcomes.{SaveOutcome, deletion}
use Rattle.wk_request_rules.specs.Requests.{Ask, edit, delete, parse, expand_text, backlinks, embedded, members, changes, revisions, tokens, site_info, Request, ParsedRequest, valid, invalid}
use Rattle.wk_answer_rules.specs.Values.{Entries}
use Rattle.wk_answer_rules.specs.ApiErrors.{ApiError, futurepoint, invalidtitle, contenttoobig}
use Rattle.wk_answer_rules.specs.Pages.{ReadAnswer, shows, fails, parse_answer, expand_answer}
use Rattle.wk_answer_rules.specs.Lists.{backlinks_answer, embedded_answer, members_answer, changes_answer, revisions_answer}
use Rattle.wk_answer_rules.specs.Saves.{Answered, failed_at, save_answer, edit_answer, edit_entries, delete_entries}
use Rattle.wk_answer_rules.specs.Transforms.{transformed_edit}
use Rattle.wk_answer_rules.specs.Answers.{asks_to_save, read_at, answer_to_ask, answer_with_subst, answer_to_request, answer_to_parsed}

read-none : (journal : ℕ) (answer : ReadAnswer) → (read_at journal answer).event ≡ None
read-none journal (shows entries) = refl
read-none journal (fails error) = refl

pub ask-none : (most : MostHeld) (state : State) (journal moment : ℕ) (ask : Ask) → asks_to_save ask ≡ false → (answer_to_ask most state journal moment ask).event ≡ None
ask-none most state journal moment (edit asked) e = absurd cc
ask-none most state journal moment (delete title base) e = absurd cc
ask-none most state journal moment (parse page) e = read-none journal (parse_answer state page)
ask-none most state journal moment (expand_text text page) e = read-none journal (expand_answer state text page)
ask-none most state journal moment (backlinks listing) e = read-none journal (backlinks_answer state listing)
ask-none most state journal moment (embedded listing) e = read-none journal (embedded_answer state listing)
ask-none most state journal moment (members listing) e = read-none journal (members_answer state listing)
ask-none most state journal moment (changes listing) e = read-none journal (changes_answer state listing)
ask-none most state journal moment (revisions listing content) e = read-none journal (revisions_answer state listing content)
ask-none most state journal moment tokens e = refl
ask-none most state journal moment site_info e = refl

-- a fact of an answer holds where it holds of both
pub either : (b : Bool) (P : Answered → Type 0) (one other : Answered) → (b ≡ true → P one) → (b ≡ false → P other) → P (cond b one other)
either true P one other first second = first refl
either false P one other first second = second refl

module _ (most : MostHeld) (state : State) (journal moment : ℕ) (P : Answered → Type 0)
    (early : P (failed_at journal (futurepoint journal))) (untitled : P (failed_at journal invalidtitle)) (big : P (failed_at journal contenttoobig)) where
  -- the answer, by the title that the edit names
  by-title : (asked : EditAsked) (o : Option PageTitle) → P (edit_answer most state journal moment (transformed_edit state asked))
      → P (elim o as (λ p. Answered) [
        | None ↦ failed_at journal invalidtitle
        | Some title ↦ cond (ltb max_text (body_bytes asked.body)) (failed_at journal contenttoobig) (edit_answer most state journal moment (transformed_edit state asked))
      ])
  by-title asked None saved = untitled
  by-title asked (Some title) saved =
      either (ltb max_text (body_bytes asked.body)) P (failed_at journal contenttoobig) (edit_answer most state journal moment (transformed_edit state asked))
      (λ is. big) (λ fits. saved)

  module _ (plain : (ask : Ask) → P (answer_to_ask most state journal moment ask)) where
    with-subst : (ask : Ask) → P (answer_with_subst most state journal moment ask)
    with-subst (edit asked) = by-title asked (real_title asked.title) (plain (edit (transformed_edit state asked)))
    with-subst (delete title base) = plain (delete title base)
    with-subst (parse page) = plain (parse page)
    with-subst (expand_text text page) = plain (expand_text text page)
    with-subst (backlinks listing) = plain (backlinks listing)
    with-subst (embedded listing) = plain (embedded listing)
    with-subst (members listing) = plain (members listing)
    with-subst (changes listing) = plain (changes listing)
    with-subst (revisions listing content) = plain (revisions listing content)
    with-subst tokens = plain tokens
    with-subst site_info = plain site_info

    -- What holds of these errors, and of the answer to all that can be asked, holds of the answer to a request: an edit whose text
    -- is transformed is refused, or answered as the edit of what its text becomes.
    pub request-by : (request : Request) → P (answer_to_request most state journal moment request)
    unfolding answer_to_request
    request-by request =
        either (nat_lt journal request.least) P (failed_at journal (futurepoint journal))
        (cond request.subst (answer_with_subst most state journal moment request.ask) (answer_to_ask most state journal moment request.ask))
        (λ is. early) (
        λ reached.
        either request.subst P (answer_with_subst most state journal moment request.ask) (answer_to_ask most state journal moment request.ask)
        (λ flag. with-subst request.ask) (λ none. plain request.ask)
        )

-- a read heeds no flag
pub read-plain : (most : MostHeld) (state : State) (journal moment : ℕ) (ask : Ask) → asks_to_save ask ≡ false
    → answer_with_subst most state journal moment ask ≡ answer_to_ask most state journal moment ask
read-plain most state journal moment (edit asked) e = absurd cc
read-plain most state journal moment (delete title base) e = absurd cc
read-plain most state journal moment (parse page) e = refl
read-plain most state journal moment (expand_text text page) e = refl
read-plain most state journal moment (backlinks listing) e = refl
read-plain most state journal moment (embedded listing) e = refl
read-plain most state journal moment (members listing) e = refl
read-plain most state journal moment (changes listing) e = refl
read-plain most state journal moment (revisions listing content) e = refl
read-plain most state journal moment tokens e = refl
read-plain most state journal moment site_info e = refl

pub request-none : (most : MostHeld) (state : State) (journal moment : ℕ) (request : Request) → asks_to_save request.ask ≡ false → (answer_to_request most state journal moment request).event ≡ None
unfolding answer_to_request
request-none most state journal moment request e =
    either (nat_lt journal request.least) (λ answer. answer.event ≡ None) (failed_at journal (futurepoint journal))
    (cond request.subst (answer_with_subst most state journal moment request.ask) (answer_to_ask most state journal moment request.ask))
    (λ early. refl) (
    λ reached.
    either request.subst (λ answer. answer.event ≡ None) (answer_with_subst most state journal moment request.ask) (answer_to_ask most state journal moment request.ask)
    (λ flag. ap (λ (answer : Answered). answer.event) (read-plain most state journal moment request.ask e) ∙ ask-none most state journal moment request.ask e)
    (λ none. ask-none most state journal moment request.ask e)
    )

-- ---- points

abbrev Placed : ℕ → Answered → Type 0
Placed journal answer = answer.reply.point ≡ journal + length (option_to_list answer.event)

read-placed : (journal : ℕ) (answer : ReadAnswer) → Placed journal (read_at journal answer)
read-placed journal (shows entries) = omega arith
read-placed journal (fails error) = omega arith

failed-placed : (journal : ℕ) (error : ApiError) → Placed journal (failed_at journal error)
failed-placed journal error = omega arith

save-placed : (entries_of : SaveOutcome → Entries) (state : State) (journal moment : ℕ) (v : Verdict) → Placed journal (save_answer entries_of state journal moment v)
save-placed entries_of state journal moment (refuse refusal) = omega arith
save-placed entries_of state journal moment (no_change title) = omega arith
save-placed entries_of state journal moment (accept title text) = refl

ask-placed : (most : MostHeld) (state : State) (journal moment : ℕ) (ask : Ask) → Placed journal (answer_to_ask most state journal moment ask)
ask-placed most state journal moment (edit asked) = save-placed edit_entries state journal moment (verdict_in most state journal asked)
ask-placed most state journal moment (delete title base) = save-placed delete_entries state journal moment (verdict_in most state journal (deletion title base))
ask-placed most state journal moment (parse page) = read-placed journal (parse_answer state page)
ask-placed most state journal moment (expand_text text page) = read-placed journal (expand_answer state text page)
ask-placed most state journal moment (backlinks listing) = read-placed journal (backlinks_answer state listing)
ask-placed most state journal moment (embedded listing) = read-placed journal (embedded_answer state listing)
ask-placed most state journal moment (members listing) = read-placed journal (members_answer state listing)
ask-placed most state journal moment (changes listing) = read-placed journal (changes_answer state listing)
ask-placed most state journal moment (revisions listing content) = read-placed journal (revisions_answer state listing content)
ask-placed most state journal moment tokens = omega arith
ask-placed most state journal moment site_info = omega arith

pub placed : (most : MostHeld) (state : State) (journal moment : ℕ) (read : ParsedRequest) → Placed journal (answer_to_parsed most state journal moment read)
placed most state journal moment (invalid refusal) = omega arith
placed most state journal moment (valid request) =
    request-by most state journal moment (Placed journal) (failed-placed journal (futurepoint journal)) (failed-placed journal invalidtitle)
    (failed-placed journal contenttoobig) (ask-placed most state journal moment) request
