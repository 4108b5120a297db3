use Rattle.std.proofs.Common.{◌≡◌, true, sym, ◌∙◌}
use Rattle.httparse.specs.Grammar.{is_token}
use Rattle.wk_http.proofs.TargetLemmas.{no_target, target_parts, target_from}
use Rattle.wk_http.proofs.target.ends_within_target.Goals as goal

pub returns-then-is_token : goal.returns-then-is_token
returns-then-is_token c =
    let lines = c.after_empty_lines.ensures.blank in
    let left = c.after_empty_lines.result.now in
    let found = c.in-Some.ensures.found in
    let token : is_token c.in-Some.method.now ≡ true = sym c.is_token.ensures ∙ c.if-is_token.true in (
      λ spaceless. target_from lines.0 c.args.bytes.now left c.in-Some.method.now c.in-Some.target.now lines.1 found.0 token (c.has_no_space.ensures.0 spaceless),
      λ within. c.has_no_space.ensures.1
          (target_parts lines.0 c.args.bytes.now left c.in-Some.method.now c.in-Some.target.now lines.1 c.after_empty_lines.ensures.none found.0 found.1 within).1,
    )

pub returns-else-is_token : goal.returns-else-is_token
returns-else-is_token c =
    let lines = c.after_empty_lines.ensures.blank in
    let left = c.after_empty_lines.result.now in
    let found = c.in-Some.ensures.found in
    let fails = c.if-is_token.false in (
      λ token. absurd (cc),
      λ within. c.is_token.ensures
          ∙ (target_parts lines.0 c.args.bytes.now left c.in-Some.method.now c.in-Some.target.now lines.1 c.after_empty_lines.ensures.none found.0 found.1 within).0,
    )

pub returns-in-None : goal.returns-in-None
returns-in-None c =
    let lines = c.after_empty_lines.ensures.blank in (
      λ impossible. absurd (cc),
      λ within. absurd (no_target lines.0 c.args.bytes.now c.after_empty_lines.result.now lines.1 c.after_empty_lines.ensures.none c.in-None.ensures.none within),
    )
