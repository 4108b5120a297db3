use Rattle.std.proofs.Common.{List, ℕ, ap, ◌∙◌, ◌+◌}
use Rattle.std.specs.Prelude.{Option, option_map}
use Rattle.std.specs.Option.{option_copied}
use Rattle.wk_text_rules.specs.Marked.{all_plain, text_of}
use Rattle.wk_text_rules.specs.Occurrences.{Link, link_of}
use Rattle.wk_links.specs.Brackets.{end_of}
use Rattle.wk_links.specs.Found.{link_in}
use Rattle.wk_links.specs.Parts.{part}
use Rattle.wk_links.proofs.CutLemmas.{brackets_cut}
use Rattle.wk_links.proofs.LinkLemmas.{same_link, occurrence_at}
use Rattle.wk_links.proofs.scan.found_in.Goals as goal

pub target_of-requires : goal.target_of-requires
target_of-requires c =
    rw c.text-text.ensures (brackets_cut c.args.out.now c.args.b.now.start c.args.b.now (rw c.text-text.ensures at c.text-text.utf8) c.requires)

pub label_of-requires : goal.label_of-requires
label_of-requires c =
    rw c.text-text.ensures (brackets_cut c.args.out.now c.args.b.now.start c.args.b.now (rw c.text-text.ensures at c.text-text.utf8) c.requires)

pub returns : goal.returns
returns c =
    let out = c.args.out.now in
    let b = c.args.b.now in
    let target = c.target_of.ensures ∙ ap (λ (text : List ℕ). part text (b.start + 2) b.target_end) c.text-text.ensures in
    let label = c.label_of.ensures ∙ ap (λ (text : List ℕ). option_map (part text (b.target_end + 1)) b.label_end) c.text-text.ensures in
    let link = c.in_ok-what.ensures
    ∙ ap (λ (t : List ℕ). link_of t (option_map all_plain (option_copied c.label_of.result))) target
    ∙ ap (λ (l : Option (List ℕ)). link_of (part (text_of out) (b.start + 2) b.target_end) (option_map all_plain l)) label
    ∙ same_link out b in
    ap (λ (end : ℕ). occurrence_at b.start end (link_in c.in_ok-what.what)) c.end.ensures
    ∙ ap (λ (l : Link). occurrence_at b.start (end_of b) l) link
