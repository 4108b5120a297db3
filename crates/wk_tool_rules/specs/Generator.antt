-- The pages that are generated (own): two templates, and pages that call them with values that are drawn. The numbers are
-- those of the linear congruential generator of Numerical Recipes, section 7.1, modulo 2^32.
use Rattle.std.specs.Prelude.{ℕ, ◌+◌, ◌*◌, ◌/◌, ◌%◌, ◌^◌, ◌==◌, false, List, [], ◌∷◌, ◌++◌, fold, flat_map, codes, Some, None, if◌then◌else◌}
use Rattle.std.specs.Fmt.{decimal}
use Rattle.std.specs.List.{range_with_len}
use Rattle.wk_page_rules.specs.Verdict.{EditAsked}

-- ---- numbers

-- what a number becomes by a draw
abbrev pub next_seed : ℕ → ℕ
next_seed seed = (seed * 1664525 + 1013904223) % (2 ^ 32)

-- the number below n that the draw gives
abbrev pub draw : ℕ → ℕ → ℕ
draw n seed = (next_seed seed / 65536) % n

-- ---- templates

-- the parameters of the box: f1 to f11
abbrev pub fields : List ℕ
fields = range_with_len 1 11

abbrev pub field_name : ℕ → List ℕ
field_name j = 102 ∷ decimal j

-- a field is shown where it isn't blank
abbrev pub field_text : ℕ → List ℕ
field_text j =
    codes "{{#if:{{{" ++ field_name j ++ codes "|}}}|; " ++ field_name j ++ codes ": {{{" ++ field_name j ++ codes "}}}}}"

abbrev pub infobox_text : List ℕ
infobox_text =
    codes "<noinclude>{{Infobox|name=Example}}</noinclude><includeonly>'''{{{name|{{PAGENAME}}}}}'''"
    ++ flat_map field_text fields ++ codes "[[Category:Boxes]]</includeonly>"

abbrev pub note_text : List ℕ
note_text = codes "<includeonly>[[Category:Notes]]</includeonly>{{#if:{{{1|}}}|({{{1}}})}}"

-- ---- pages

-- a text so far, and the number of the next draw
pub record Drawn : Type 0 where
  pub text : List ℕ
  pub seed : ℕ

abbrev pub with_text : List ℕ → Drawn → Drawn
with_text text drawn = record drawn { text = drawn.text ++ text }

-- with a number that is drawn, from `least` on, of n numbers
abbrev pub with_number : ℕ → ℕ → Drawn → Drawn
with_number least n drawn =
    record { text = drawn.text ++ decimal (least + draw n drawn.seed); seed = next_seed drawn.seed }

-- a field is there where 1 is drawn of 0 and 1, and has a value from v0 to v99
abbrev pub with_field : Drawn → ℕ → Drawn
with_field drawn j =
    let behind = record drawn { seed = next_seed drawn.seed } in
    if draw 2 drawn.seed == 1 then with_number 0 100 (with_text (codes "|" ++ field_name j ++ codes "=v") behind) else behind

abbrev pub page_name : ℕ → List ℕ
page_name i = codes "Page " ++ decimal i

-- the text of page i of so many: a box, a link to a page, a note and a category
abbrev pub page_drawn : ℕ → ℕ → ℕ → Drawn
page_drawn pages i seed =
    let named : Drawn = record { text = codes "{{Infobox|name=" ++ page_name i; seed = seed } in
    let boxed = fold with_field named fields in
    let linked = with_number 1 pages (with_text (codes "}} [[Page ") boxed) in
    let noted = with_number 0 10 (with_text (codes "]] {{Note|") linked) in
    with_text (codes "]]") (with_number 0 5 (with_text (codes "}}[[Category:C") noted))

-- ---- saves

-- a title and a text, with no base
abbrev pub plain_save : List ℕ → List ℕ → EditAsked
plain_save title text =
    record { title = title; body = Some text; base = None; create_only = false; no_create = false }

-- the pages of these numbers, one after the other
abbrev pub page_saves : ℕ → List ℕ → ℕ → List EditAsked
page_saves pages [] seed = []
page_saves pages (i ∷ later) seed =
    plain_save (page_name i) (page_drawn pages i seed).text ∷ page_saves pages later (page_drawn pages i seed).seed

-- what is saved for so many pages, where the draws begin with this number
unfoldable pub generated : ℕ → ℕ → List EditAsked
generated pages number =
    plain_save (codes "Template:Infobox") infobox_text
    ∷ plain_save (codes "Template:Note") note_text
    ∷ page_saves pages (range_with_len 1 pages) number
