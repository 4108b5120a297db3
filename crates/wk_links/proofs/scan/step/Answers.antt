use Rattle.std.proofs.Common.{ℕ, List, ◌++◌, [], ◌∷◌, map, drop, append_assoc, sym, ap, subst, ◌∙◌}
use Rattle.std.proofs.lemmas.List.{map_push}
use Rattle.wk_text_rules.specs.Occurrences.{Occurrence}
use Rattle.wk_links.specs.Brackets.{IsBracketsAt, HasNoBrackets, end_of}
use Rattle.wk_links.specs.Found.{occurrence_in, occurrence_by}
use Rattle.wk_links.specs.Rest.{occurrences_from}
use Rattle.wk_links.proofs.LinkLemmas.{link_taken, place_passed}
use Rattle.wk_links.proofs.scan.step.Goals as goal

pub returns-in_ok-push-in-Some-clause-found : goal.returns-in_ok-push-in-Some-clause-found
returns-in_ok-push-in-Some-clause-found c =
    let out = c.args.out.now in
    let b = c.in-Some.b in
    let brackets = subst (λ bytes. IsBracketsAt bytes c.args.at b) c.requires.bytes c.in-Some.ensures.found in
    let before = map occurrence_in c.args.found.now.items in
    let later = occurrences_from (end_of b) (drop (end_of b) out) in
    let pushed = ap (map occurrence_in) c.in_ok-push-in-Some.ensures.items
    ∙ map_push occurrence_in c.args.found.now.items c.in_ok-link-in-Some.link
    ∙ ap (λ (o : Occurrence). before ++ o ∷ []) c.in_ok-link-in-Some.ensures in
    ap (λ (os : List Occurrence). os ++ occurrences_from c.end.result (drop c.end.result out)) pushed
    ∙ ap (λ (end : ℕ). (before ++ occurrence_by out b ∷ []) ++ occurrences_from end (drop end out)) c.end.ensures
    ∙ append_assoc before (occurrence_by out b ∷ []) later
    ∙ ap (λ (os : List Occurrence). before ++ os) (sym (link_taken out c.args.at b brackets))

pub returns-in-None-clause-found : goal.returns-in-None-clause-found
returns-in-None-clause-found c =
    let out = c.args.out.now in
    let none = subst (λ bytes. HasNoBrackets bytes c.args.at) c.requires.bytes c.in-None.ensures.none in
    let within = rw c.requires.bytes at c.requires.place in
    ap (λ (os : List Occurrence). map occurrence_in c.args.found.now.items ++ os) (place_passed out c.args.at within none)
