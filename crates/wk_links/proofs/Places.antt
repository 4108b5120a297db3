-- Occurrences from a place on.
use Rattle.std.proofs.Common.{◌≡◌, ℕ, zero, suc, ◌+◌, ◌-◌, ◌<◌, ◌≤◌, List, [], ◌∷◌, length, get_or, take, drop, refl, sym, ap, ◌∙◌, arith}
use Rattle.std.specs.Prelude.{Option, Some, None, filter_map}
use Rattle.std.proofs.lemmas.List.{drop-drop, drop_more, drop_all, length-drop, length-take-le}
use Rattle.wk_text_rules.specs.Marked.{MarkedByte, plain, text_of}
use Rattle.wk_text_rules.specs.Occurrences.{Content, content, Link, link_at, link_of, occurrence_of, occurrences}
use Rattle.wk_text_rules.specs.Shapes.{Span, spans_from}
use Rattle.wk_links.specs.Rest.{occurrences_from}

-- the search goes on behind what belongs to a span before
spans_skip : (at : ℕ) (before : Option MarkedByte) (k : ℕ) (rest : List MarkedByte) → spans_from link_at at before k rest ≡ spans_from link_at (at + k) None 0 (drop k rest)
unfolding spans_from
spans_skip at before zero [] = refl
spans_skip at before zero (m ∷ rest) = let same : at + 0 ≡ at = omega arith in rw same refl
spans_skip at before (suc k) [] = refl
spans_skip at before (suc k) (m ∷ rest) =
    let next : suc at + k ≡ at + suc k = omega arith in
    spans_skip (suc at) (Some m) k rest ∙ ap (λ n. spans_from link_at n None 0 (drop k rest)) next

-- what begins at a place, by the content of the brackets there
abbrev link_by_content : List MarkedByte → Option Content → Option Link × List MarkedByte
link_by_content rest None = (None, drop 1 rest)
link_by_content rest (Some c) = (Some (link_of (text_of c.target) c.label), c.rest)

link_at-content : (rest : List MarkedByte) → link_at None rest ≡ link_by_content rest (content rest)
link_at-content rest =
    elim (content rest) as (λ o. elim o as (λ _. Option Link × List MarkedByte) [ Some c ↦ (Some (link_of (text_of c.target) c.label), c.rest) | None ↦ (None, drop 1 rest) ] ≡ link_by_content rest o) [
      | None ↦ refl
      | Some c ↦ refl
    ]

-- the spans, by what begins at the first place
abbrev spans_after : ℕ → MarkedByte → List MarkedByte → Option Link × List MarkedByte → List (Span (Option Link) MarkedByte)
spans_after at m rest found =
    record { kind = found.0; start = at; source = take (suc (length rest - length found.1)) (m ∷ rest) }
    ∷ spans_from link_at (suc at) (Some m) (length rest - length found.1) rest

spans_by : (at : ℕ) (m : MarkedByte) (rest : List MarkedByte) (found : Option Link × List MarkedByte) → link_at None (m ∷ rest) ≡ found → spans_from link_at at None 0 (m ∷ rest) ≡ spans_after at m rest found
unfolding spans_from
spans_by at m rest found h = ap (spans_after at m rest) h

-- where no brackets begin, the search goes on one byte further
passed : (at : ℕ) (m : MarkedByte) (rest : List MarkedByte) → content (m ∷ rest) ≡ None → occurrences_from at (m ∷ rest) ≡ occurrences_from (at + 1) rest
passed at m rest h =
    let no_more : length rest - length rest ≡ 0 = omega arith in
    let next : suc at + 0 ≡ at + 1 = omega arith in
    ap (filter_map occurrence_of) (spans_by at m rest (None, rest) (link_at-content (m ∷ rest) ∙ ap (link_by_content (m ∷ rest)) h))
    ∙ ap (filter_map occurrence_of) (ap (λ k. spans_from link_at (suc at) (Some m) k rest) no_more ∙ spans_skip (suc at) (Some m) 0 rest ∙ ap (λ n. spans_from link_at n None 0 rest) next)

-- behind brackets the search goes on where they end
taken : (at n : ℕ) (m : MarkedByte) (rest : List MarkedByte) (c : Content) → content (m ∷ rest) ≡ Some c → n ≤ length rest → c.rest ≡ drop n rest → occurrences_from at (m ∷ rest) ≡ record { start = at; end = at + suc n; link = link_of (text_of c.target) c.label } ∷ occurrences_from (at + suc n) (drop n rest)
taken at n m rest c h room behind =
    let link = link_of (text_of c.target) c.label in
    let sizes : length c.rest ≡ length (drop n rest) = ap length behind in
    let more : length rest - length c.rest ≡ n = omega (arith, sizes, length-drop n rest) in
    let size : length (take n rest) ≡ n = length-take-le n rest room in
    let next : suc at + n ≡ at + suc n = omega arith in
    ap (filter_map occurrence_of) (spans_by at m rest (Some link, c.rest) (link_at-content (m ∷ rest) ∙ ap (link_by_content (m ∷ rest)) h))
    ∙ ap (λ k. record { start = at; end = at + length (take (suc k) (m ∷ rest)); link = link } ∷ filter_map occurrence_of (spans_from link_at (suc at) (Some m) k rest)) more
    ∙ ap (λ k. record { start = at; end = at + suc k; link = link } ∷ filter_map occurrence_of (spans_from link_at (suc at) (Some m) n rest)) size
    ∙ ap (λ later. record { start = at; end = at + suc n; link = link } ∷ filter_map occurrence_of later) (spans_skip (suc at) (Some m) n rest ∙ ap (λ k. spans_from link_at k None 0 (drop n rest)) next)

pub occurrences_from-passed : (out : List MarkedByte) (at : ℕ) → at < length out → content (drop at out) ≡ None → occurrences_from at (drop at out) ≡ occurrences_from (at + 1) (drop (at + 1) out)
occurrences_from-passed out at within h =
    let split = drop_more out at (plain 0) within in
    ap (occurrences_from at) split ∙ passed at (get_or out at (plain 0)) (drop (at + 1) out) (sym (ap content split) ∙ h)

pub occurrences_from-taken : (out : List MarkedByte) (at end : ℕ) (c : Content) → at < end → end ≤ length out → content (drop at out) ≡ Some c → c.rest ≡ drop end out → occurrences_from at (drop at out) ≡ record { start = at; end = end; link = link_of (text_of c.target) c.label } ∷ occurrences_from end (drop end out)
occurrences_from-taken out at end c begins within h behind =
    let here : at < length out = omega arith in
    let split = drop_more out at (plain 0) here in
    let n = end - (at + 1) in
    let room : n ≤ length (drop (at + 1) out) = omega (arith, length-drop (at + 1) out) in
    let next : at + 1 + n ≡ end = omega arith in
    let place : at + suc n ≡ end = omega arith in
    let rest : drop n (drop (at + 1) out) ≡ drop end out = drop-drop n (at + 1) out ∙ ap (λ k. drop k out) next in
    ap (occurrences_from at) split
    ∙ taken at n (get_or out at (plain 0)) (drop (at + 1) out) c (sym (ap content split) ∙ h) room (behind ∙ sym rest)
    ∙ ap (λ k. record { start = at; end = k; link = link_of (text_of c.target) c.label } ∷ occurrences_from k (drop n (drop (at + 1) out))) place
    ∙ ap (λ xs. record { start = at; end = end; link = link_of (text_of c.target) c.label } ∷ occurrences_from end xs) rest

pub occurrences_from-end : (out : List MarkedByte) (at : ℕ) → length out ≤ at → occurrences_from at (drop at out) ≡ []
unfolding spans_from
occurrences_from-end out at past = ap (occurrences_from at) (drop_all at out past)

pub occurrences_from-start : (out : List MarkedByte) → occurrences_from 0 out ≡ occurrences out
unfolding occurrences
occurrences_from-start out = refl
