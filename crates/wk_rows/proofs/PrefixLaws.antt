-- Prefixes are no longer than labels.
use Rattle.std.proofs.Common.{lit≤, ◌≡◌, ℕ, zero, suc, ◌+◌, ◌-◌, ◌≤◌, Bool, true, false, ◌&&◌, ◌==◌, pos, List, [], ◌∷◌, length, map, drop, sym, subst, Option, Some, None, arith, inl, inr}
use Rattle.std.specs.Prelude.{All, codes, if◌then◌else◌, nat_le, option_map, option_and_then}
use Rattle.std.specs.List.{cons_option, filter_map, starts_with, take_while}
use Rattle.std.specs.Option.{IfSome, option_or}
use Rattle.std.specs.Ordering.{int_eq}
use Rattle.std.proofs.lemmas.Bool.{cases_Bool, false≢true, leb-true}
use Rattle.std.proofs.lemmas.List.{length-map}
use Rattle.std.proofs.lemmas.List.Elements.{All-cons, All-head, All-nil, All-tail}
use Rattle.wk_text_rules.specs.Blank.{trimmed}
use Rattle.wk_text_rules.specs.Marked.{MarkedByte, byte_of, plainly, text_of}
use Rattle.wk_text_rules.specs.Occurrences.{Content, content, bare, labelled, is_label, is_plain_target, most_label, Link, page, member, nothing, link_at, link_by, link_of, Occurrence, occurrence_of, occurrences, prefix_from}
use Rattle.wk_text_rules.specs.Shapes.{Span, spans, spans_from}
use Rattle.wk_text_rules.specs.Titles.{PageTitle, normal, is_virtual}
use Rattle.wk_links.specs.Found.{link_in, occurrence_in}
use Rattle.wk_links.specs.declared.found.Found.{Found}
use Rattle.wk_links.specs.declared.found.What.{What}
use Rattle.wk_links.specs.declared.found.What.TheVariants.{Page, Member, Nothing}
use Rattle.wk_links.proofs.NewlineLemmas.{length-without_newlines}
use Rattle.wk_rows.specs.Members.{HasShortPrefix}

-- ---- labels

abbrev IsShort : Option (List MarkedByte) → Type 0
IsShort label = IfSome label (λ l. length l ≤ most_label)

and_second : (a b : Bool) → (a && b) ≡ true → b ≡ true
and_second true b h = h
and_second false b h = absurd (false≢true h)

short-label : (label : List MarkedByte) → is_label label ≡ true → length label ≤ most_label
short-label label h = leb-true (length label) most_label (and_second _ (nat_le (length label) most_label) h)

abbrev IsShortContent : Option Content → Type 0
IsShortContent found = IfSome found (λ c. IsShort c.label)

short-bare : (target : List MarkedByte) (rest : Option (List MarkedByte)) → IsShortContent (option_map (λ rest. record { target = target; label = None; rest = rest }) rest)
short-bare target None = tt
short-bare target (Some rest) = tt

abbrev labelled_by : List MarkedByte → List MarkedByte × List MarkedByte → Option Content
labelled_by target found =
    if is_label found.0 then Some (record { target = target; label = Some found.0; rest = found.1 }) else None

short-labelled : (target : List MarkedByte) (found : Option (List MarkedByte × List MarkedByte)) → IsShortContent (option_and_then (labelled_by target) found)
short-labelled target None = tt
short-labelled target (Some found) = elim (cases_Bool (is_label found.0)) [
  | inl is ↦ rw is (short-label found.0 is)
  | inr other ↦ rw other tt
]

either_short : (a b : Option Content) → IsShortContent a → IsShortContent b → IsShortContent (option_or a b)
either_short None b h k = k
either_short (Some c) b h k = h

abbrev closed_by : List MarkedByte → List MarkedByte → Option Content
closed_by target behind = option_or (bare target behind) (labelled target behind)

short-closed : (target behind : List MarkedByte) → IsShortContent (closed_by target behind)
short-closed target behind = either_short (bare target behind) (labelled target behind) (short-bare target _) (short-labelled target _)

abbrev inside_of : List MarkedByte → Option Content
inside_of inside =
    let target = take_while is_plain_target inside in
    closed_by target (drop (length target) inside)

short-inside : (inside : Option (List MarkedByte)) → IsShortContent (option_and_then inside_of inside)
short-inside None = tt
short-inside (Some inside) = short-closed (take_while is_plain_target inside) (drop (length (take_while is_plain_target inside)) inside)

short-content : (out : List MarkedByte) → IsShortContent (content out)
short-content out = short-inside (plainly (codes "[[") out)

-- ---- links

abbrev HasShort : Link → Type 0
HasShort (page title) = Unit {0}
HasShort (member title prefix) = length prefix ≤ most_label
HasShort nothing = Unit {0}

short-prefix : (label : Option (List MarkedByte)) → IsShort label → length (prefix_from label) ≤ most_label
short-prefix None h = lit≤ tt
short-prefix (Some label) h = omega (arith, length-without_newlines (text_of label), length-map label byte_of)

short-link_by : (target : List ℕ) (label : Option (List MarkedByte)) (title : PageTitle) → IsShort label → HasShort (link_by target label title)
short-link_by target label title h = elim (cases_Bool (is_virtual title)) [
  | inl virtual ↦ rw virtual tt
  | inr real ↦ elim (cases_Bool (starts_with (λ a b. a == b) (trimmed target) (codes ":"))) [
    | inl colon ↦ rw (real, colon) tt
    | inr none ↦ elim (cases_Bool (int_eq title.ns (pos 14))) [
      | inl category ↦ rw (real, none, category) (short-prefix label h)
      | inr other ↦ elim (cases_Bool (int_eq title.ns (pos 6))) [
        | inl file ↦ rw (real, none, other, file) tt
        | inr any ↦ rw (real, none, other, any) tt
      ]
    ]
  ]
]

short-link_of : (target : List ℕ) (label : Option (List MarkedByte)) → IsShort label → HasShort (link_of target label)
short-link_of target label h = elim (normal target (pos 0)) as (λ o. HasShort (elim o as (λ _. Link) [ None ↦ nothing | Some title ↦ link_by target label title ])) [
  | None ↦ tt
  | Some title ↦ short-link_by target label title h
]

-- ---- occurrences

abbrev IsShortKind : Option Link → Type 0
IsShortKind kind = IfSome kind HasShort

short-link_at : (before : Option MarkedByte) (out : List MarkedByte) → IsShortKind (link_at before out).0
short-link_at before out = go (content out) (short-content out)
  where
    go : (found : Option Content) → IsShortContent found → IsShortKind (elim found as (λ _. Option Link × List MarkedByte) [ Some c ↦ (Some (link_of (text_of c.target) c.label), c.rest) | None ↦ (None, drop 1 out) ]).0
    go None h = tt
    go (Some c) h = short-link_of (text_of c.target) c.label h

All-spans_from : {K X : Type 0} (Q : K → Type 0) (begins : Option X → List X → K × List X) → ((before : Option X) (text : List X) → Q (begins before text).0) → (start : ℕ) (before : Option X) (skip : ℕ) (xs : List X) → All (λ (span : Span K X). Q span.kind) (spans_from begins start before skip xs)
unfolding spans_from
All-spans_from {K} {X} Q begins each start before skip [] = All-nil (λ (span : Span K X). Q span.kind)
All-spans_from {K} {X} Q begins each start before zero (x ∷ xs) = All-cons (λ (span : Span K X). Q span.kind) _ _ (each before (x ∷ xs)) (All-spans_from Q begins each (suc start) (Some x) (length xs - length (begins before (x ∷ xs)).1) xs)
All-spans_from Q begins each start before (suc skip) (x ∷ xs) = All-spans_from Q begins each (suc start) (Some x) skip xs

All-occurrence_of : (spans : List (Span (Option Link) MarkedByte)) → All (λ (span : Span (Option Link) MarkedByte). IsShortKind span.kind) spans → All (λ (o : Occurrence). HasShort o.link) (filter_map occurrence_of spans)
All-occurrence_of [] all = All-nil (λ (o : Occurrence). HasShort o.link)
All-occurrence_of (span ∷ spans) all = go span.kind (All-head (λ (span : Span (Option Link) MarkedByte). IsShortKind span.kind) span spans all) (All-occurrence_of spans (All-tail (λ (span : Span (Option Link) MarkedByte). IsShortKind span.kind) span spans all))
  where
    go : (kind : Option Link) → IsShortKind kind → All (λ (o : Occurrence). HasShort o.link) (filter_map occurrence_of spans) → All (λ (o : Occurrence). HasShort o.link) (cons_option (option_map (λ link. record { start = span.start; end = span.start + length span.source; link = link }) kind) (filter_map occurrence_of spans))
    go None h later = later
    go (Some link) h later = All-cons (λ (o : Occurrence). HasShort o.link) _ _ h later

pub short-occurrences : (out : List MarkedByte) → All (λ (o : Occurrence). HasShort o.link) (occurrences out)
unfolding occurrences
short-occurrences out = All-occurrence_of (spans link_at out) (All-spans_from IsShortKind link_at short-link_at 0 None 0 out)

-- ---- what is found

short-what : (what : What) → HasShort (link_in what) → HasShortPrefix what
short-what (Page title) h = tt
short-what (Member category prefix) h = h
short-what Nothing h = tt

short-each : (found : List Found) → All (λ (o : Occurrence). HasShort o.link) (map occurrence_in found) → All (λ (link : Found). HasShortPrefix link.what) found
short-each [] all = All-nil (λ (link : Found). HasShortPrefix link.what)
short-each (link ∷ found) all =
    All-cons (λ (link : Found). HasShortPrefix link.what) link found (short-what link.what (All-head (λ (o : Occurrence). HasShort o.link) (occurrence_in link) (map occurrence_in found) all))
    (short-each found (All-tail (λ (o : Occurrence). HasShort o.link) (occurrence_in link) (map occurrence_in found) all))

-- the links of an output have short prefixes
pub short-found : (out : List MarkedByte) (found : List Found) → map occurrence_in found ≡ occurrences out → All (λ (link : Found). HasShortPrefix link.what) found
short-found out found e = short-each found (subst (λ os. All (λ (o : Occurrence). HasShort o.link) os) (sym e) (short-occurrences out))
