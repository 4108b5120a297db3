use Rattle.std.proofs.Common.{◌≡◌, ◌≤◌, List, ℕ, ◌++◌, length, drop, ap, sym, subst, arith}
use Rattle.std.proofs.lemmas.List.{length-append}
use Rattle.wk_http.specs.Feed.{IsKnown}
use Rattle.wk_http.proofs.KnownLemmas.{known_behind}
use Rattle.wk_http.proofs.feed.Feed.push.Goals as goal

pub invariant_of-self-2 : goal.invariant_of-self-2
invariant_of-self-2 c =
    let grown : c.extend_from_slice.new.self.items ≡ c.self.inside.buffer.items ++ c.args.piece.now = c.in_ok-extend_from_slice.ensures.items in
    let inside : c.self.inside.start ≤ length c.self.inside.buffer.items = omega (arith, c.self.invariant.0) in (
      omega (arith, c.self.invariant.0, ap length grown, length-append c.self.inside.buffer.items c.args.piece.now),
      subst (λ (bytes : List ℕ). IsKnown (drop c.self.inside.start bytes) c.self.inside.known) (sym grown)
          (known_behind c.self.inside.buffer.items c.args.piece.now c.self.inside.start c.self.inside.known inside c.self.invariant.1),
    )
