-- What is found at a place, as the definition has it.
use Rattle.std.proofs.Common.{◌≡◌, ◌==◌, ℕ, ◌+◌, ◌<◌, ◌≤◌, List, ◌∷◌, length, drop, refl, sym, ap, ◌∙◌, arith}
use Rattle.std.specs.Prelude.{Option, Some, None, option_map, pos, codes, if◌then◌else◌}
use Rattle.std.specs.List.{starts_with}
use Rattle.std.specs.Ordering.{int_eq}
use Rattle.std.proofs.lemmas.List.{length-map}
use Rattle.wk_text_rules.specs.Blank.{trimmed}
use Rattle.wk_text_rules.specs.Marked.{MarkedByte, all_plain, text_of}
use Rattle.wk_text_rules.specs.Occurrences.{Link, page, member, nothing, Occurrence, link_by, link_of, prefix_from}
use Rattle.wk_text_rules.specs.Titles.{PageTitle, normal, is_virtual}
use Rattle.wk_links.specs.Brackets.{IsBracketsAt, HasNoBrackets, content_in, end_of}
use Rattle.wk_links.specs.Found.{occurrence_by}
use Rattle.wk_links.specs.Newlines.{without_newlines}
use Rattle.wk_links.specs.Parts.{part}
use Rattle.wk_links.specs.Rest.{occurrences_from}
use Rattle.wk_links.specs.Seen.{seen_byte, seen}
use Rattle.wk_links.specs.declared.brackets.Brackets.{Brackets}
use Rattle.wk_links.proofs.Contents.{content_found, content_none}
use Rattle.wk_links.proofs.CutLemmas.{brackets_end}
use Rattle.wk_links.proofs.NewlineLemmas.{text_of-all_plain}
use Rattle.wk_links.proofs.Places.{occurrences_from-passed, occurrences_from-taken}
use Rattle.wk_links.proofs.SeenLemmas.{part-text_of}

-- a label counts by its prefix alone
link_by-prefix : (target : List ℕ) (label other : Option (List MarkedByte)) (title : PageTitle) → prefix_from label ≡ prefix_from other → link_by target label title ≡ link_by target other title
link_by-prefix target label other title e =
    ap (λ (prefix : List ℕ). if is_virtual title then nothing else if starts_with (λ a b. a == b) (trimmed target) (codes ":") then page title else if int_eq title.ns (pos 14) then member title prefix else if int_eq title.ns (pos 6) then nothing else page title) e

link_of-prefix : (target : List ℕ) (label other : Option (List MarkedByte)) → prefix_from label ≡ prefix_from other → link_of target label ≡ link_of target other
link_of-prefix target label other e =
    elim (normal target (pos 0)) as (λ found. elim found as (λ _. Link) [ None ↦ nothing | Some title ↦ link_by target label title ] ≡ elim found as (λ _. Link) [ None ↦ nothing | Some title ↦ link_by target other title ]) [
      | None ↦ refl
      | Some title ↦ link_by-prefix target label other title e
    ]

pub prefix_from-all_plain : (label : List ℕ) → prefix_from (Some (all_plain label)) ≡ without_newlines label
prefix_from-all_plain label = ap without_newlines (text_of-all_plain label)

same_prefix : (out : List MarkedByte) (from : ℕ) (label_end : Option ℕ) → prefix_from (option_map all_plain (option_map (part (text_of out) from) label_end)) ≡ prefix_from (option_map (part out from) label_end)
same_prefix out from None = refl
same_prefix out from (Some end) =
    prefix_from-all_plain (part (text_of out) from end) ∙ ap without_newlines (part-text_of out from end)

-- the parts of the text link to what the parts of the output do
pub same_link : (out : List MarkedByte) (b : Brackets) → link_of (part (text_of out) (b.start + 2) b.target_end) (option_map all_plain (option_map (part (text_of out) (b.target_end + 1)) b.label_end)) ≡ (occurrence_by out b).link
same_link out b =
    link_of-prefix (part (text_of out) (b.start + 2) b.target_end) (option_map all_plain (option_map (part (text_of out) (b.target_end + 1)) b.label_end)) (content_in out b).label (same_prefix out (b.target_end + 1) b.label_end)
    ∙ ap (λ target. link_of target (content_in out b).label) (part-text_of out (b.start + 2) b.target_end)

abbrev pub occurrence_at : ℕ → ℕ → Link → Occurrence
occurrence_at start end link = record { start = start; end = end; link = link }

pub link_taken : (out : List MarkedByte) (at : ℕ) (b : Brackets) → IsBracketsAt (seen out) at b → occurrences_from at (drop at out) ≡ occurrence_by out b ∷ occurrences_from (end_of b) (drop (end_of b) out)
link_taken out at b h =
    let ends = brackets_end out at b h in
    let within : end_of b ≤ length out = omega (arith, ends.1, length-map out seen_byte) in
    occurrences_from-taken out at (end_of b) (content_in out b) ends.0 within (content_found out at b h) refl
    ∙ ap (λ n. record { start = n; end = end_of b; link = link_of (text_of (content_in out b).target) (content_in out b).label } ∷ occurrences_from (end_of b) (drop (end_of b) out)) (sym h.start_is)

pub place_passed : (out : List MarkedByte) (at : ℕ) → at < length (seen out) → HasNoBrackets (seen out) at → occurrences_from (at + 1) (drop (at + 1) out) ≡ occurrences_from at (drop at out)
place_passed out at within h =
    sym (occurrences_from-passed out at (omega (arith, length-map out seen_byte)) (content_none out at h))
