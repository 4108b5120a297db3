use Rattle.std.proofs.Common.{ℕ, List, refl, subst, arith}
use Rattle.wk_http.specs.Feed.{IsKnown}
use Rattle.wk_http.specs.declared.feed.Known.TheVariants.{OpenBelow}
use Rattle.wk_http.proofs.KnownLemmas.{open_now}
use Rattle.wk_http.proofs.feed.known_step.Goals as goal

pub returns-then-left-most : goal.returns-then-left-most
returns-then-left-most c =
    let bytes : List ℕ = c.args.left.now in
    let known : IsKnown bytes (OpenBelow c.in-OpenBelow.most) = subst (IsKnown bytes) c.in-OpenBelow.is c.requires in
    record {
      inside = omega arith;
      gives = (open_now bytes c.in-OpenBelow.most known c.if-left-most.true, refl);
      known = known;
    }
