-- What is answered by a read of its own.
use Rattle.std.proofs.Common.{◌≡◌, ℕ, ◌+◌, ◌≤◌, true, false, List, [], ◌∷◌, length, take, Option, Some, refl, sym, ap, ◌∙◌, subst, arith}
use Rattle.std.specs.Prelude.{IfOk, Ok}
use Rattle.std.specs.Option.{option_to_list}
use Rattle.std.proofs.lemmas.Option.{option_and_then_some}
use Rattle.serde_json.specs.View.{view}
use Rattle.serde_json.specs.declared.value.Value.{Value}
use Rattle.wk_text_rules.specs.Titles.{PageTitle}
use Rattle.wk_wiki_rules.specs.Steps.{fan_pages}
use Rattle.wk_wiki_rules.specs.States.{State}
use Rattle.wk_wiki_rules.specs.Events.{Event, step_by}
use Rattle.wk_wiki_rules.specs.Lives.{replay_from, state_at}
use Rattle.wk_wiki_laws.specs.Kept.{IsKept}
use Rattle.wk_wiki_laws.specs.WellFormed.{IsWellFormed}
use Rattle.wk_wiki_laws.proofs.Formed.{IsWellFormed-step}
use Rattle.wk_wiki_rules.specs.Starts.{Start}
use Rattle.wk_core.specs.declared.outcomes.PageRead.{PageRead}
use Rattle.wk_request.specs.Asked.{list_of, read_of, save_of, site_of}
use Rattle.wk_request.specs.declared.asked.ListAsked.{ListAsked}
use Rattle.wk_request.specs.declared.asked.ReadAsked.{ReadAsked}
use Rattle.wk_request.specs.declared.asked.ReadAsked.TheVariants.{Page, Text}
use Rattle.wk_request.specs.declared.asked.SaveAsked.{SaveAsked}
use Rattle.wk_request.specs.declared.asked.SiteAsked.{SiteAsked}
use Rattle.wk_request.proofs.Asking.{list-saves-none, save-saves, site-saves-none}
use Rattle.wk_request_rules.specs.Requests.{Ask, Request, edit, delete, parse, expand_text, backlinks, embedded, members, changes, revisions, tokens, site_info, valid}
use Rattle.wk_answer_rules.specs.Answers.{answer_to_request, asks_to_save}
use Rattle.wk_answer_laws.proofs.Points.{placed, request-none}
use Rattle.wk_answer_rules.specs.ApiErrors.{api_error, nomemory}
use Rattle.wk_answer_laws.proofs.Floats.{answer-plain, error-plain}
use Rattle.wk_answer.specs.Readings.{IsFitRead, IsReadOf, IsRightRead, asks_to_expand, reading_of}
use Rattle.wk_turn.specs.Told.{Begun}
use Rattle.wk_shared.specs.Looks.{HasRead}
use Rattle.wk_readers.specs.Reads.{IsAnswered as IsRead}
use Rattle.wk_session_rules.specs.Replies.{AreMomentsOf, read, unread}
use Rattle.wk_session.specs.Telling.{AnswersOn, IsTitleOf, text_asked}
use Rattle.wk_session.specs.declared.telling.Told.{Told}
use Rattle.wk_session.proofs.Passing.{Pass, read-free, read-goes}

-- a journal keeps a state well formed
formed-replayed : (state last : State) (journal : ℕ) (events : List Event) → replay_from fan_pages state journal events ≡ Some last → IsWellFormed state → IsWellFormed last
formed-replayed state last journal [] done formed = let e : Some state ≡ Some last = done in let same : state ≡ last = cc in subst IsWellFormed same formed
formed-replayed state last journal (event ∷ events) done formed =
    option_and_then_some (λ next. replay_from fan_pages next (journal + 1) events) (step_by fan_pages state journal event) last done
    (λ next stepped later. formed-replayed next last (journal + 1) events later (IsWellFormed-step fan_pages state next journal event stepped formed))

formed-at : (start : Start) (journal : List Event) (point : ℕ) (state : State) → IsKept start.state → state_at start.state journal point ≡ Some state → IsWellFormed state
formed-at start journal point state kept stands = formed-replayed start.state state 0 (take point journal) stands kept.formed

-- what asks for an expansion asks for no save
pub expands-no-save : (ask : Ask) → asks_to_expand ask ≡ true → asks_to_save ask ≡ false
expands-no-save (edit asked) is = absurd (let e : false ≡ true = is in cc)
expands-no-save (delete title base) is = absurd (let e : false ≡ true = is in cc)
expands-no-save (parse page) is = refl
expands-no-save (expand_text text page) is = refl
expands-no-save (backlinks listing) is = refl
expands-no-save (embedded listing) is = refl
expands-no-save (members listing) is = refl
expands-no-save (changes listing) is = refl
expands-no-save (revisions listing content) is = refl
expands-no-save tokens is = refl
expands-no-save site_info is = refl

-- what is asked, by who answers it
read-expands : (asked : ReadAsked) → asks_to_expand (read_of asked) ≡ true
read-expands (Page page) = refl
read-expands (Text text title) = refl

pub expands-read : (ask : Ask) (asked : ReadAsked) → read_of asked ≡ ask → asks_to_expand ask ≡ true
expands-read ask asked is = ap asks_to_expand (sym is) ∙ read-expands asked

pub saves-save : (ask : Ask) (asked : SaveAsked) → save_of asked ≡ ask → asks_to_save ask ≡ true
saves-save ask asked is = ap asks_to_save (sym is) ∙ save-saves asked

pub reads-list : (ask : Ask) (asked : ListAsked) → list_of asked ≡ ask → asks_to_save ask ≡ false
reads-list ask asked is = ap asks_to_save (sym is) ∙ list-saves-none asked

pub reads-site : (ask : Ask) (asked : SiteAsked) → site_of asked ≡ ask → asks_to_save ask ≡ false
reads-site ask asked is = ap asks_to_save (sym is) ∙ site-saves-none asked

-- the moments of a request that asks for no save
pub no-moments : (request : Request) → asks_to_save request.ask ≡ false → AreMomentsOf (valid request) []
no-moments request reads = let none = reads in grind (arith, none)

-- a read of what is asked can be told of
pub fit-read : (ask : Ask) (title : PageTitle) (found : PageRead) → IsTitleOf ask title → found.draft.given ≡ text_asked ask → IsFitRead ask (Ok found)
fit-read (edit asked) title found of given = absurd of.0
fit-read (delete title base) page found of given = absurd of.0
fit-read (parse page) title found of given = given
fit-read (expand_text text page) title found of given = tt
fit-read (backlinks listing) title found of given = absurd of.0
fit-read (embedded listing) title found of given = absurd of.0
fit-read (members listing) title found of given = absurd of.0
fit-read (changes listing) title found of given = absurd of.0
fit-read (revisions listing content) title found of given = absurd of.0
fit-read tokens title found of given = absurd of.0
fit-read site_info title found of given = absurd of.0

module _ (shared : Begun Start) (fails : Type 0) (old new : Pass) (request : Request) (title : PageTitle) (found : PageRead) (kept : IsKept shared.start.state) (of : IsTitleOf request.ask title)
    (looked : HasRead shared old new) (a : IsRead shared old new title (text_asked request.ask) request.least found) where
  right : IsRightRead a.right.state request.ask (reading_of found)
  right = record {
    formed = formed-at shared.start new.seen found.point a.right.state kept a.right.at;
    asked = subst (λ (z : PageTitle × Option (List ℕ)). IsReadOf request.ask z.0 z.1) (λ i. (sym a.page_is i, sym a.given_is i)) of.0;
    drafted = a.right.drafted;
    numbered = a.right.numbered;
  }

  pub read-told : asks_to_save request.ask ≡ false → (value : Value)
      → (IsRightRead a.right.state request.ask (reading_of found) → request.least ≤ found.point → view value ≡ (answer_to_request shared.start.limits a.right.state found.point 0 request).reply.value)
      → AnswersOn shared fails old new (valid request) [] (record { value = Ok value; point = found.point })
  read-told reads value shows =
      let none = request-none shared.start.limits a.right.state found.point 0 request reads in
      record {
        free = read-free shared old new looked;
        made = [];
        goes = read-goes shared old new looked;
        reply = (answer_to_request shared.start.limits a.right.state found.point 0 request).reply;
        answered = read (no-moments request reads) (record { later = a.fresh; seen = a.right.seen; stands = a.right.at }) none;
        value = shows right a.reached;
        point = (let p = placed shared.start.limits a.right.state found.point 0 (valid request) in let l = ap (λ o. length (option_to_list o)) none in omega (arith, p, l));
        plain = answer-plain shared.start.limits a.right.state found.point 0 (valid request);
      }

-- memory was wanting behind a read
pub starved-told : (shared : Begun Start) (fails : Type 0) (old new : Pass) (request : Request) (point : ℕ) (told : Told) (looked : HasRead shared old new) (state : State)
    → length old.seen ≤ point → point ≤ length new.seen → state_at shared.start.state new.seen point ≡ Some state → told.point ≡ point
    → IfOk told.value (λ v. view v ≡ (api_error nomemory point).value) → AnswersOn shared fails old new (valid request) [] told
starved-told shared fails old new request point told looked state later seen stands at value = record {
  free = read-free shared old new looked;
  made = [];
  goes = read-goes shared old new looked;
  reply = api_error nomemory point;
  answered = unread (record { later = later; seen = seen; stands = stands });
  value = value;
  point = at;
  plain = error-plain nomemory point;
}
