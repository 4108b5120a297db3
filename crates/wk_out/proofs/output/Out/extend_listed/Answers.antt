use Rattle.std.proofs.Common.{◌≡◌, refl, ◌<◌, ◌^◌, ◌++◌, length, ap, ◌∙◌, arith, string_bytes}
use Rattle.wk_out.specs.Kept.{cut, listed, IsKept}
use Rattle.wk_out.specs.Runs.{joined}
use Rattle.wk_out.proofs.ListedLaws.{IsKept-listed, cut-listed}
use Rattle.wk_out.proofs.RunLaws.{lens-short, IsKept-with_runs, joined-more}
use Rattle.wk_out.proofs.output.Out.extend_listed.Goals as goal

pub add_runs-requires-clause-short : goal.add_runs-requires-clause-short
add_runs-requires-clause-short c =
    let text = c.self.inside.text in
    let len : c.len.result ≡ length (string_bytes text) = omega (arith, c.len.ensures, text.bytes.ok) in
    let short : length (string_bytes text) < 2 ^ 63 = omega (arith, text.bytes.ok, text.bytes.small) in
    rw (c.in_ok-reserve.ensures.items, c.in_ok-write_list.ensures.ok, len) (lens-short _ _ _ c.self.invariant.covers short)

pub add_runs-requires-clause-new_short : goal.add_runs-requires-clause-new_short
add_runs-requires-clause-new_short c = rw c.written-more.ensures (lens-short _ _ _ c.runs.invariant.covers (omega arith))

pub invariant_of-self-2 : goal.invariant_of-self-2
invariant_of-self-2 c =
    let text = string_bytes c.self.inside.text in
    let len : c.len.result ≡ length text = omega (arith, c.len.ensures, c.self.inside.text.bytes.ok) in
    let more = c.runs.inside.text.now in
    let runs = c.reserve.new.self.items in
    let others = c.written-more.result.now in
    let kept : IsKept text runs = rw (c.in_ok-reserve.ensures.items, c.in_ok-write_list.ensures.ok, len) c.self.invariant in
    let also : IsKept more others = rw c.written-more.ensures c.runs.invariant in
    IsKept-listed _ _
    (IsKept-with_runs _ _ _ runs _ _ kept also c.in_ok-push_str.ensures.bytes
    (c.add_runs.ensures.covers _ _ kept.covers also.covers) (c.add_runs.ensures.runs _ _ kept.covers also.covers))

pub returns-clause-ok : goal.returns-clause-ok
returns-clause-ok c =
    let text = string_bytes c.self.inside.text in
    let len : c.len.result ≡ length text = omega (arith, c.len.ensures, c.self.inside.text.bytes.ok) in
    let more = c.runs.inside.text.now in
    let runs = c.reserve.new.self.items in
    let others = c.written-more.result.now in
    let kept : IsKept text runs = rw (c.in_ok-reserve.ensures.items, c.in_ok-write_list.ensures.ok, len) c.self.invariant in
    let also : IsKept more others = rw c.written-more.ensures c.runs.invariant in
    let whole = IsKept-with_runs _ _ _ runs _ _ kept also c.in_ok-push_str.ensures.bytes
    (c.add_runs.ensures.covers _ _ kept.covers also.covers) (c.add_runs.ensures.runs _ _ kept.covers also.covers) in
    let mine : runs ≡ listed (length text) c.self.inside.runs.items = rw (c.in_ok-reserve.ensures.items, c.in_ok-write_list.ensures.ok, len) refl in
    ap joined (cut-listed _ _ whole.covers)
    ∙ joined-more _ _ _ runs others _ c.in_ok-push_str.ensures.bytes (c.add_runs.ensures.runs _ _ kept.covers also.covers)
    ∙ ap (λ rs. joined (cut text rs) ++ joined (cut more others)) mine
    ∙ ap (λ rs. joined (cut text (listed (length text) c.self.inside.runs.items)) ++ joined (cut more rs)) c.written-more.ensures
    ∙ ap (λ out. out ++ joined (cut more (listed (length more) c.runs.inside.runs.now))) c.self.view_is
    ∙ ap (λ rs. c.args.self.now ++ joined rs) c.runs.view_is
