use Rattle.std.proofs.Common.{ℕ, ◌-◌, List, ◌++◌, length, drop, refl, subst, length-drop, arith}
use Rattle.std.proofs.lemmas.List.{take_all}
use Rattle.wk_http.specs.Places.{EndsAt}
use Rattle.wk_http.proofs.KnownLemmas.{known_after, known_at}
use Rattle.wk_http.proofs.PlaceLemmas.{open_at}
use Rattle.wk_http.proofs.feed.step_at.Goals as goal

pub returns-in-Some : goal.returns-in-Some
returns-in-Some c =
    let bytes : List ℕ = c.args.left.now in
    let count : ℕ = c.args.count in
    let ends : EndsAt bytes c.in-Some.next =
    known_after bytes c.args.place c.in-Some.next count c.requires
    (λ front at. subst (λ (t : List ℕ). EndsAt (front ++ t) c.in-Some.next)
    (take_all (length bytes - count) (drop count bytes) (omega (arith, length-drop count bytes))) (c.in-Some.ensures front at)) in
    record {
      inside = omega arith;
      gives = (open_at bytes c.in-Some.next (omega (arith, c.if-left-ge-MOST_HEAD.false)) ends, refl);
      known = known_at bytes c.in-Some.next ends;
    }
