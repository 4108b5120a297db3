-- The edits of the generator are refused for want of room alone.
use Rattle.std.proofs.Common.{◌≡◌, ℕ, pos, zero, suc, ◌+◌, ◌^◌, ◌<◌, ◌≤◌, Bool, true, false, nat_lt, List, [], ◌∷◌, length, codes, Option, Some, None, refl, sym, ap, subst, ◌∙◌, inl, inr, arith}
use Rattle.std.proofs.lemmas.Bool.{cases_Bool}
use Rattle.std.proofs.lemmas.Bool.Decides.{nat_tests}
use Rattle.std.specs.List.{range_with_len}
use Rattle.std.specs.Prelude.{slice_get, unwrap_or, option_map}
use Rattle.wk_base.specs.Clock.{first_moment, later_moments}
use Rattle.std.specs.Fmt.{digits}
use Rattle.wk_text_rules.specs.Computing.{computing}
use Rattle.wk_text_rules.specs.Titles.{PageTitle}
use Rattle.wk_page_rules.specs.Kept.{kept}
use Rattle.wk_page_rules.specs.declared.Limit.{Limit}
use Rattle.wk_page_rules.specs.History.{History, current_text}
use Rattle.wk_page_rules.specs.Verdict.{EditAsked, MostHeld, Refusal, Verdict, refuse, no_change, accept, real_title, judged, invalid_title, wiki_full, judged_at, is_same_text, limit_passed, with_room}
use Rattle.wk_wiki_rules.specs.States.{State}
use Rattle.wk_wiki_rules.specs.Events.{Save, with_saved}
use Rattle.wk_wiki_rules.specs.Verdicts.{verdict_in}
use Rattle.wk_tool_rules.specs.Generator.{generated, infobox_text, note_text, page_drawn, page_name, page_saves, plain_save}
use Rattle.wk_tool_rules.specs.Saving.{SavesMade, saves_made, with_event}
use Rattle.wk_cli_laws.specs.Room.{IsForRoom}
use Rattle.wk_cli_laws.proofs.Named.{page-named}
use Rattle.wk_cli_laws.proofs.Texts.{IsShort, kept-short, short-page}

-- its title is a page's, its text is short, and nothing else is asked
pub record IsFit (edit : EditAsked) : Type 0 where
  pub title : PageTitle
  pub text : List ℕ
  pub named : real_title edit.title ≡ Some title
  pub body : edit.body ≡ Some text
  pub short : length (kept text) ≤ 2097152
  pub base : edit.base ≡ None
  pub create : edit.create_only ≡ false
  pub keep : edit.no_create ≡ false

abbrev pub AreFit : List EditAsked → Type 0
AreFit [] = Unit {0}
AreFit (edit ∷ edits) = IsFit edit × AreFit edits

-- a verdict that isn't a refusal, or is one for want of room
abbrev pub IsRoomy : Verdict → Type 0
IsRoomy (refuse refusal) = IsForRoom refusal
IsRoomy (no_change title) = Unit {0}
IsRoomy (accept title text) = Unit {0}

limited : (title : PageTitle) (body : Option (List ℕ)) (found : Option Limit) → IsRoomy (elim found [ None ↦ accept title body | Some limit ↦ refuse (wiki_full limit) ])
limited title body None = tt
limited title body (Some limit) = tt

judged-named : (h : History) (most : MostHeld) (edit : EditAsked) (title : PageTitle) → real_title edit.title ≡ Some title
    → judged h most edit ≡ judged_at h most edit title (option_map kept edit.body)
unfolding judged
judged-named h most edit title is =
    ap (λ (found : Option PageTitle). elim found [ None ↦ refuse invalid_title | Some title ↦ judged_at h most edit title (option_map kept edit.body) ]) is

judged-fit : (h : History) (most : MostHeld) (edit : EditAsked) → (fit : IsFit edit) → judged h most edit ≡ judged_at h most edit fit.title (Some (kept fit.text))
judged-fit h most edit fit =
    judged-named h most edit fit.title fit.named ∙ ap (λ (body : Option (List ℕ)). judged_at h most edit fit.title (option_map kept body)) fit.body

roomy-at : (h : History) (most : MostHeld) (edit : EditAsked) → (fit : IsFit edit) → IsRoomy (judged_at h most edit fit.title (Some (kept fit.text)))
roomy-at h most edit fit =
    let few : nat_lt 2097152 (length (kept fit.text)) ≡ false = grind (arith, nat_tests, fit.short) in
    elim (cases_Bool (is_same_text (current_text h fit.title) (Some (kept fit.text)))) [
      | inl same ↦ rw (few, fit.create, fit.keep, fit.base, same) tt
      | inr other ↦ rw (few, fit.create, fit.keep, fit.base, other) (limited fit.title (Some (kept fit.text)) (limit_passed h most fit.title (Some (kept fit.text))))
    ]

roomy-judged : (h : History) (most : MostHeld) (edit : EditAsked) → IsFit edit → IsRoomy (judged h most edit)
roomy-judged h most edit fit = subst IsRoomy (sym (judged-fit h most edit fit)) (roomy-at h most edit fit)

roomy-verdict : (full : Bool) (v : Verdict) → IsRoomy v → IsRoomy (with_room full v)
roomy-verdict full (refuse refusal) roomy = roomy
roomy-verdict full (no_change title) roomy = tt
roomy-verdict true (accept title text) roomy = tt
roomy-verdict false (accept title text) roomy = tt

-- what the saves come to behind a verdict on the first of them
abbrev after_verdict : MostHeld → State → ℕ → List EditAsked → List ℕ → Verdict → SavesMade
after_verdict most state journal edits moments v = elim v [
  | refuse refusal ↦ record { events = []; after = state; refused = Some refusal }
  | no_change title ↦ saves_made most state journal edits (later_moments moments)
  | accept title text ↦
      with_event (Save title text (first_moment moments))
      (saves_made most (with_saved state title text (first_moment moments)) (journal + 1) edits (later_moments moments))
]

saves-by_verdict : (most : MostHeld) (state : State) (journal : ℕ) (edit : EditAsked) (edits : List EditAsked) (moments : List ℕ)
    → saves_made most state journal (edit ∷ edits) moments ≡ after_verdict most state journal edits moments (verdict_in most state journal edit)
unfolding saves_made
saves-by_verdict most state journal edit edits moments = refl

some-same : (a b : Refusal) → Some a ≡ Some b → a ≡ b
some-same a b same = ap (λ o. unwrap_or o a) same

by_verdict : (most : MostHeld) (state : State) (journal : ℕ) (edits : List EditAsked) (moments : List ℕ) (refusal : Refusal)
    → ((later : State) (longer : ℕ) (behind : List ℕ) → (saves_made most later longer edits behind).refused ≡ Some refusal → IsForRoom refusal)
    → (v : Verdict) → IsRoomy v → (after_verdict most state journal edits moments v).refused ≡ Some refusal → IsForRoom refusal
by_verdict most state journal edits moments refusal later (refuse other) roomy is = subst IsForRoom (some-same other refusal is) roomy
by_verdict most state journal edits moments refusal later (no_change title) roomy is = later state journal (later_moments moments) is
by_verdict most state journal edits moments refusal later (accept title text) roomy is =
    later (with_saved state title text (first_moment moments)) (journal + 1) (later_moments moments) is

none-refused : (most : MostHeld) (state : State) (journal : ℕ) (moments : List ℕ) → (saves_made most state journal [] moments).refused ≡ None
unfolding saves_made
none-refused most state journal moments = refl

pub refused-for_room : (most : MostHeld) (edits : List EditAsked) → AreFit edits → (state : State) (journal : ℕ) (moments : List ℕ) (refusal : Refusal)
    → (saves_made most state journal edits moments).refused ≡ Some refusal → IsForRoom refusal
refused-for_room most [] fit state journal moments refusal is = let clash = sym (none-refused most state journal moments) ∙ is in cc
refused-for_room most (edit ∷ edits) fit state journal moments refusal is =
    let v = verdict_in most state journal edit in
    let roomy : IsRoomy v = roomy-verdict _ _ (roomy-judged state.history most edit fit.0) in
    let same = saves-by_verdict most state journal edit edits moments in
    by_verdict most state journal edits moments refusal
    (λ later longer behind. refused-for_room most edits fit.1 later longer behind refusal) v roomy (sym (ap (λ (m : SavesMade). m.refused) same) ∙ is)

page-fits : (pages i seed : ℕ) → i < 2 ^ 64 → IsFit (plain_save (page_name i) (page_drawn pages i seed).text)
page-fits pages i seed small = record {
  title = _;
  text = (page_drawn pages i seed).text;
  named = page-named i small;
  body = refl;
  short = kept-short 2097152 (page_drawn pages i seed).text (short-page pages i seed small);
  base = refl;
  create = refl;
  keep = refl;
}

pages-fit : (pages from count seed : ℕ) → from + count < 2 ^ 64 → AreFit (page_saves pages (range_with_len from count) seed)
pages-fit pages from zero seed small = tt
pages-fit pages from (suc count) seed small =
    (page-fits pages from seed (omega (arith, small)), pages-fit pages (from + 1) count (page_drawn pages from seed).seed (omega (arith, small)))

template-fits : (name text : List ℕ) (title : PageTitle) → real_title name ≡ Some title → IsShort 2097152 text → IsFit (plain_save name text)
template-fits name text title named short = record {
  title = title;
  text = text;
  named = named;
  body = refl;
  short = kept-short 2097152 text short;
  base = refl;
  create = refl;
  keep = refl;
}

infobox-named : real_title (codes "Template:Infobox") ≡ Some (record { ns = pos 10; key = codes "Infobox" })
unfolding computing
infobox-named = refl

note-named : real_title (codes "Template:Note") ≡ Some (record { ns = pos 10; key = codes "Note" })
unfolding computing
note-named = refl

infobox-short : IsShort 2097152 infobox_text
unfolding digits
infobox-short = record { ascii = refl; few = omega arith }

note-short : IsShort 2097152 note_text
note-short = record { ascii = refl; few = omega arith }

generated-fit : (pages number : ℕ) → pages ≤ 10000 → AreFit (generated pages number)
unfolding generated
generated-fit pages number few = (
  template-fits (codes "Template:Infobox") infobox_text _ infobox-named infobox-short,
  (
    template-fits (codes "Template:Note") note_text _ note-named note-short,
    pages-fit pages 1 pages number (omega (arith, few)),
  ),
)

pub generated-refused : (most : MostHeld) (state : State) (journal pages number : ℕ) (moments : List ℕ) (refusal : Refusal) → pages ≤ 10000
    → (saves_made most state journal (generated pages number) moments).refused ≡ Some refusal → IsForRoom refusal
generated-refused most state journal pages number moments refusal few =
    refused-for_room most (generated pages number) (generated-fit pages number few) state journal moments refusal

-- ---- one of the edits

fit-at : (edits : List EditAsked) → AreFit edits → (place : ℕ) (edit : EditAsked) → slice_get edits place ≡ Some edit → IsFit edit
fit-at [] fit place edit is = let clash : None ≡ Some edit = is in cc
fit-at (first ∷ edits) fit zero edit is = subst IsFit (ap (λ o. unwrap_or o first) is) fit.0
fit-at (first ∷ edits) fit (suc place) edit is = fit-at edits fit.1 place edit is

pub edit-refused : (most : MostHeld) (state : State) (journal pages number place : ℕ) (edit : EditAsked) (refusal : Refusal) → pages ≤ 10000
    → slice_get (generated pages number) place ≡ Some edit → verdict_in most state journal edit ≡ refuse refusal → IsForRoom refusal
edit-refused most state journal pages number place edit refusal few is refused =
    let fit = fit-at (generated pages number) (generated-fit pages number few) place edit is in
    subst IsRoomy refused (roomy-verdict _ _ (roomy-judged state.history most edit fit))
