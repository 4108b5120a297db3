use Rattle.std.proofs.Common.{List, ◌≤◌, ◌++◌, length, map, sym, ap, ◌∙◌, arith}
use Rattle.std.proofs.lemmas.List.{append-nil, length-map}
use Rattle.wk_text_rules.specs.Occurrences.{Occurrence}
use Rattle.wk_links.specs.Found.{occurrence_in}
use Rattle.wk_links.specs.Rest.{occurrences_from}
use Rattle.wk_links.specs.Seen.{seen_byte}
use Rattle.wk_links.specs.declared.found.Found.{Found}
use Rattle.wk_links.proofs.Places.{occurrences_from-start, occurrences_from-end}
use Rattle.wk_links.proofs.scan.links.Goals as goal

pub loop-at-init : goal.loop-at-init
loop-at-init c =
    let out = c.args.out.now in (
      omega arith,
      c.in_ok-bytes.ensures,
      ap (λ (found : List Found). map occurrence_in found ++ occurrences_from 0 out) c.new-found.ensures.items ∙ occurrences_from-start out,
    )

pub returns : goal.returns
returns c =
    let out = c.args.out.now in
    let found = map occurrence_in c.loop-at.found.items in
    let past : length out ≤ c.loop-at.at = omega (arith, ap length c.in_ok-bytes.ensures, length-map out seen_byte) in
    sym (append-nil found) ∙ ap (λ (os : List Occurrence). found ++ os) (sym (occurrences_from-end out c.loop-at.at past)) ∙ c.loop-at.invariant.2
