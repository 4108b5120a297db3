use Rattle.std.proofs.Common.{None, ◌+◌, slice_index, subst, ◌∙◌}
use Rattle.wk_tree_rules.specs.Atoms.{ignored_element, silent_tag}
use Rattle.wk_tree_rules.specs.Tags.{comment}
use Rattle.wk_lex.proofs.AtomSteps.{moved}
use Rattle.wk_lex.proofs.FirstLemmas.{byte-by_angle}
use Rattle.wk_lex.proofs.TaglessLemmas.{angle-alone}
use Rattle.wk_lex.specs.FirstBytes.{IsNoTagByte}
use Rattle.wk_lex.proofs.atoms.angle_at.Goals as goal

pub returns-clause-atom : goal.returns-clause-atom
returns-clause-atom c =
    byte-by_angle c.args.tags.now c.args.at c.requires.within c.args.mode c.requires.line c.requires.angle
    (moved comment c.tags.inside.text.now c.args.tags.now c.args.at None c.tags.view_is c.in_default.ensures) c.in_default-sealed_element.ensures.end
    (moved (ignored_element c.args.mode) c.sealed_element.new.self c.args.tags.now c.args.at None c.sealed_element.ensures.text c.in_default-ignored_element.ensures.end)
    (moved (silent_tag c.args.mode) c.ignored_element.new.self c.args.tags.now c.args.at None (c.ignored_element.ensures.text ∙ c.sealed_element.ensures.text) c.in_default-silent_tag.ensures.end)

pub returns-then-not-is_tag_at-clause-atom : goal.returns-then-not-is_tag_at-clause-atom
returns-then-not-is_tag_at-clause-atom c =
    angle-alone c.args.tags.now c.args.at c.requires.within c.requires.angle (subst (λ t. IsNoTagByte (slice_index t (c.args.at + 1))) c.tags.view_is c.if-not-is_tag_at.ensures) c.args.mode c.requires.line
