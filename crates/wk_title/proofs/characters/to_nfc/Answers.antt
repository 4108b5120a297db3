use Rattle.std.proofs.Common.{sym, ap, ◌∙◌}
use Rattle.std.specs.Char.{is_ascii}
use Rattle.std.specs.List.{list_all}
use Rattle.unicode_normalization.specs.Forms.{nfc}
use Rattle.wk_text_rules.proofs.TitleLemmas.{to_nfc-is, nfc-ascii}
use Rattle.wk_title.proofs.characters.to_nfc.Goals as goal

pub returns-then-is_ascii : goal.returns-then-is_ascii
returns-then-is_ascii c =
    let ascii = ap (list_all is_ascii) (sym c.deref.ensures.value) ∙ sym c.is_ascii.ensures ∙ c.if-is_ascii.true in
    sym (to_nfc-is c.args.cs.items ∙ nfc-ascii c.args.cs.items ascii)

pub returns : goal.returns
returns c =
    rw (c.in_ok-extend_nfc.ensures.ok, c.new-composed.ensures.items) (ap nfc c.deref-2.ensures.value ∙ sym (to_nfc-is c.args.cs.items))
