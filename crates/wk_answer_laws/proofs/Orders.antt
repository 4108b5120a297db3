-- The refusals of a save come in the order of the table.
use Rattle.std.proofs.Common.{◌≡◌, ℕ, ◌+◌, Bool, true, false, cond, leb, ltb, not, ◌&&◌, ◌||◌, List, [], ◌∷◌, length, Option, Some, None, refl, ap, ◌∙◌}
use Rattle.std.specs.Prelude.{option_map, is_none, nat_lt}
use Rattle.wk_text_rules.specs.Titles.{PageTitle}
use Rattle.wk_page_rules.specs.declared.Limit.{Limit}
use Rattle.wk_page_rules.specs.declared.Limit.TheVariants.{Pages, Revisions, Text}
use Rattle.wk_page_rules.specs.History.{current_revision, current_text, page_exists, page_number, text_bytes}
use Rattle.wk_page_rules.specs.Kept.{kept}
use Rattle.wk_page_rules.specs.Verdict.{EditAsked, MostHeld, Verdict, refuse, no_change, accept, invalid_title, content_too_big, article_exists, missing_title, edit_conflict, wiki_full, with_room, judged, judged_at, real_title, max_text, body_bytes, is_conflict, is_same_text, limit_passed, is_journal_full}
use Rattle.wk_wiki_rules.specs.States.{State}
use Rattle.wk_wiki_rules.specs.Events.{Save}
use Rattle.wk_wiki_rules.specs.Verdicts.{verdict_in, journal_use}
use Rattle.wk_wiki_rules.specs.SaveOutcomes.{SaveOutcome}
use Rattle.wk_request_rules.specs.Requests.{Request}
use Rattle.wk_answer_rules.specs.Values.{Entries}
use Rattle.wk_answer_rules.specs.ApiErrors.{ApiError, futurepoint, invalidtitle, contenttoobig, articleexists, missingtitle, editconflict, wikifull, journalfull}
use Rattle.wk_answer_rules.specs.Saves.{Answered, failed_at, save_answer, edit_answer, subst_answer}
use Rattle.wk_answer_rules.specs.Transforms.{transformed_edit}
use Rattle.wk_answer_rules.specs.Answers.{answer_to_ask, answer_with_subst, answer_to_request}
use Rattle.wk_answer_laws.specs.Orders.{first_error, errors_of_an_edit, errors_of_a_change}

-- ---- the verdict, by the truth of its conditions

-- the refusals of an edit, and what comes behind them
abbrev edited : Bool → Bool → Bool → Bool → ℕ → Verdict → Verdict
edited big there missing stale current rest =
    cond big (refuse content_too_big) (cond there (refuse article_exists) (cond missing (refuse missing_title) (cond stale (refuse (edit_conflict current)) rest)))

abbrev edit_list : Bool → Bool → Bool → Bool → ℕ → List (Bool × ApiError)
edit_list big there missing stale current =
    (big, contenttoobig) ∷ (there, articleexists) ∷ (missing, missingtitle) ∷ (stale, editconflict current) ∷ []

abbrev passed : Bool → Bool → Bool → Option Limit
passed pages revisions texts = cond pages (Some Pages) (cond revisions (Some Revisions) (cond texts (Some Text) None))

abbrev change_list : Bool → Bool → Bool → Bool → List (Bool × ApiError)
change_list pages revisions texts full =
    (pages, wikifull Pages) ∷ (revisions, wikifull Revisions) ∷ (texts, wikifull Text) ∷ (full, journalfull) ∷ []

-- what comes behind the refusals of an edit
abbrev limited : Option Limit → PageTitle → Option (List ℕ) → Verdict
limited o title body = elim o [ None ↦ accept title body | Some limit ↦ refuse (wiki_full limit) ]

-- a refusal that is the first error
same-error : (a error : ApiError) (journal : ℕ) → Some a ≡ Some error → failed_at journal a ≡ failed_at journal error
same-error a error journal e = let same : a ≡ error = cc in ap (failed_at journal) same

module _ (entries_of : SaveOutcome → Entries) (state : State) (journal moment : ℕ) where
  edit-error : (big there missing stale full : Bool) (current : ℕ) (rest : Verdict) (error : ApiError)
      → first_error (edit_list big there missing stale current) ≡ Some error
      → save_answer entries_of state journal moment (with_room full (edited big there missing stale current rest)) ≡ failed_at journal error
  edit-error true there missing stale full current rest error e = same-error contenttoobig error journal e
  edit-error false true missing stale full current rest error e = same-error articleexists error journal e
  edit-error false false true stale full current rest error e = same-error missingtitle error journal e
  edit-error false false false true full current rest error e = same-error (editconflict current) error journal e
  edit-error false false false false full current rest error e = absurd (let none : None ≡ Some error = e in cc)

  edit-none : (big there missing stale : Bool) (current : ℕ) (rest : Verdict)
      → first_error (edit_list big there missing stale current) ≡ None → edited big there missing stale current rest ≡ rest
  edit-none true there missing stale current rest e = absurd (let some : Some contenttoobig ≡ None = e in cc)
  edit-none false true missing stale current rest e = absurd (let some : Some articleexists ≡ None = e in cc)
  edit-none false false true stale current rest e = absurd (let some : Some missingtitle ≡ None = e in cc)
  edit-none false false false true current rest e = absurd (let some : Some (editconflict current) ≡ None = e in cc)
  edit-none false false false false current rest e = refl

  change-error : (pages revisions texts full : Bool) (title : PageTitle) (body : Option (List ℕ)) (error : ApiError)
      → first_error (change_list pages revisions texts full) ≡ Some error
      → save_answer entries_of state journal moment (with_room full (limited (passed pages revisions texts) title body)) ≡ failed_at journal error
  change-error true revisions texts full title body error e = same-error (wikifull Pages) error journal e
  change-error false true texts full title body error e = same-error (wikifull Revisions) error journal e
  change-error false false true full title body error e = same-error (wikifull Text) error journal e
  change-error false false false true title body error e = same-error journalfull error journal e
  change-error false false false false title body error e = absurd (let none : None ≡ Some error = e in cc)

  change-none : (pages revisions texts full : Bool) (title : PageTitle) (body : Option (List ℕ))
      → first_error (change_list pages revisions texts full) ≡ None
      → with_room full (limited (passed pages revisions texts) title body) ≡ accept title body
  change-none true revisions texts full title body e = absurd (let some : Some (wikifull Pages) ≡ None = e in cc)
  change-none false true texts full title body e = absurd (let some : Some (wikifull Revisions) ≡ None = e in cc)
  change-none false false true full title body e = absurd (let some : Some (wikifull Text) ≡ None = e in cc)
  change-none false false false true title body e = absurd (let some : Some journalfull ≡ None = e in cc)
  change-none false false false false title body e = refl

-- ---- the verdict of an edit whose title is known

module _ (most : MostHeld) (state : State) (journal : ℕ) (edit : EditAsked) where
  abbrev full : Bool
  full = is_journal_full most (journal_use state journal)

  abbrev body : Option (List ℕ)
  body = option_map kept edit.body

  abbrev same : PageTitle → Bool
  same title = is_same_text (current_text state.history title) body

  -- behind the refusals of an edit
  abbrev rest : PageTitle → Verdict
  rest title = cond (same title) (no_change title) (limited (limit_passed state.history most title body) title body)

  -- the verdict, by the title that the edit names
  abbrev by_title : Option PageTitle → Verdict
  by_title o = with_room full (elim o as (λ p. Verdict) [ None ↦ refuse invalid_title | Some title ↦ judged_at state.history most edit title body ])

  pub untitled : real_title edit.title ≡ None → verdict_in most state journal edit ≡ refuse invalid_title
  unfolding judged
  untitled none = ap by_title none

  pub titled : (title : PageTitle) → real_title edit.title ≡ Some title → verdict_in most state journal edit ≡ with_room full (judged_at state.history most edit title body)
  unfolding judged
  titled title named = ap by_title named

  pub behind : (title : PageTitle) → real_title edit.title ≡ Some title → first_error (errors_of_an_edit state.history edit title) ≡ None
      → verdict_in most state journal edit ≡ with_room full (rest title)
  behind title named none =
      titled title named
      ∙ ap (with_room full) (edit-none (λ outcome. []) state journal 0 (ltb max_text (body_bytes body)) (edit.create_only && page_exists state.history title)
      ((edit.no_create || is_none body) && not (page_exists state.history title)) (is_conflict edit.base (current_revision state.history title))
      (current_revision state.history title) (rest title) none)

  pub changing : (title : PageTitle) → real_title edit.title ≡ Some title → first_error (errors_of_an_edit state.history edit title) ≡ None → same title ≡ false
      → verdict_in most state journal edit ≡ with_room full (limited (limit_passed state.history most title body) title body)
  changing title named none differs =
      behind title named none
      ∙ ap (λ b. with_room full (cond b (no_change title) (limited (limit_passed state.history most title body) title body))) differs

-- ---- the laws

pub early : (most : MostHeld) (state : State) (journal moment : ℕ) (request : Request) → nat_lt journal request.least ≡ true
    → answer_to_request most state journal moment request ≡ failed_at journal (futurepoint journal)
unfolding answer_to_request
early most state journal moment request is =
    ap (λ b. cond b (failed_at journal (futurepoint journal))
    (cond request.subst (answer_with_subst most state journal moment request.ask) (answer_to_ask most state journal moment request.ask))) is

module _ (entries_of : SaveOutcome → Entries) (most : MostHeld) (state : State) (journal moment : ℕ) (edit : EditAsked) where
  pub bad-title : real_title edit.title ≡ None → save_answer entries_of state journal moment (verdict_in most state journal edit) ≡ failed_at journal invalidtitle
  bad-title none = ap (save_answer entries_of state journal moment) (untitled most state journal edit none)

  pub of-an-edit : (title : PageTitle) (error : ApiError) → real_title edit.title ≡ Some title → first_error (errors_of_an_edit state.history edit title) ≡ Some error
      → save_answer entries_of state journal moment (verdict_in most state journal edit) ≡ failed_at journal error
  of-an-edit title error named first =
      ap (save_answer entries_of state journal moment) (titled most state journal edit title named)
      ∙ edit-error entries_of state journal moment (ltb max_text (body_bytes (body most state journal edit))) (edit.create_only && page_exists state.history title)
      ((edit.no_create || is_none (body most state journal edit)) && not (page_exists state.history title)) (is_conflict edit.base (current_revision state.history title))
      (full most state journal edit) (current_revision state.history title) (rest most state journal edit title) error first

  pub of-a-change : (title : PageTitle) (error : ApiError) → real_title edit.title ≡ Some title → first_error (errors_of_an_edit state.history edit title) ≡ None
      → is_same_text (current_text state.history title) (option_map kept edit.body) ≡ false
      → first_error (errors_of_a_change most state journal edit title) ≡ Some error
      → save_answer entries_of state journal moment (verdict_in most state journal edit) ≡ failed_at journal error
  of-a-change title error named none differs first =
      ap (save_answer entries_of state journal moment) (changing most state journal edit title named none differs)
      ∙ change-error entries_of state journal moment (is_none (page_number state.history title) && leb most.pages (length state.history.pages))
      (leb most.revisions (length state.history.revisions)) (ltb most.text (text_bytes state.history + body_bytes (option_map kept edit.body)))
      (full most state journal edit) title (option_map kept edit.body) error first

  pub unchanged-none : (title : PageTitle) → real_title edit.title ≡ Some title → first_error (errors_of_an_edit state.history edit title) ≡ None
      → is_same_text (current_text state.history title) (option_map kept edit.body) ≡ true
      → (save_answer entries_of state journal moment (verdict_in most state journal edit)).event ≡ None
  unchanged-none title named none is =
      ap (λ v. (save_answer entries_of state journal moment v).event)
      (behind most state journal edit title named none
      ∙ ap (λ b. with_room (full most state journal edit) (cond b (no_change title) (limited (limit_passed state.history most title (option_map kept edit.body)) title (option_map kept edit.body)))) is)

  pub accepted-event : (title : PageTitle) → real_title edit.title ≡ Some title → first_error (errors_of_an_edit state.history edit title) ≡ None
      → is_same_text (current_text state.history title) (option_map kept edit.body) ≡ false
      → first_error (errors_of_a_change most state journal edit title) ≡ None
      → (save_answer entries_of state journal moment (verdict_in most state journal edit)).event ≡ Some (Save title (option_map kept edit.body) moment)
  accepted-event title named none differs free =
      ap (λ v. (save_answer entries_of state journal moment v).event)
      (changing most state journal edit title named none differs
      ∙ change-none entries_of state journal moment (is_none (page_number state.history title) && leb most.pages (length state.history.pages))
      (leb most.revisions (length state.history.revisions)) (ltb most.text (text_bytes state.history + body_bytes (option_map kept edit.body)))
      (full most state journal edit) title (option_map kept edit.body) free)

-- ---- an edit whose text is transformed

module _ (most : MostHeld) (state : State) (journal moment : ℕ) (edit : EditAsked) where
  -- the answer, by whether the text is too long as it is given
  abbrev by_size : Bool → Answered
  by_size big = cond big (failed_at journal contenttoobig) (edit_answer most state journal moment (transformed_edit state edit))

  -- the same, by the title that the edit names
  abbrev by_name : Option PageTitle → Answered
  by_name o = elim o as (λ p. Answered) [ None ↦ failed_at journal invalidtitle | Some title ↦ by_size (ltb max_text (body_bytes edit.body)) ]

  pub subst-untitled : real_title edit.title ≡ None → subst_answer most state journal moment edit ≡ failed_at journal invalidtitle
  subst-untitled none = ap by_name none

  pub subst-too-big : (title : PageTitle) → real_title edit.title ≡ Some title → nat_lt max_text (body_bytes edit.body) ≡ true
      → subst_answer most state journal moment edit ≡ failed_at journal contenttoobig
  subst-too-big title named big = ap by_name named ∙ ap by_size big

  pub subst-judged : (title : PageTitle) → real_title edit.title ≡ Some title → nat_lt max_text (body_bytes edit.body) ≡ false
      → subst_answer most state journal moment edit ≡ edit_answer most state journal moment (transformed_edit state edit)
  subst-judged title named fits = ap by_name named ∙ ap by_size fits
