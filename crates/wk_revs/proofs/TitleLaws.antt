-- The page that a text names is the one that an edit of that text is of.
use Rattle.std.proofs.Common.{◌≡◌, ℕ, Bool, true, false, List, Option, Some, None, refl, sym, ap, ◌∙◌, subst, if◌then◌else◌}
use Rattle.std.specs.Prelude.{option_and_then, pos, unwrap_or}
use Rattle.wk_text_rules.specs.Targets.{page_named}
use Rattle.wk_text_rules.specs.Titles.{PageTitle, is_virtual, normal}
use Rattle.wk_page_rules.specs.Verdict.{real_title}

by_named : (o : Option PageTitle) → option_and_then (λ title. if is_virtual title then None else Some title) o ≡ elim o [ None ↦ None | Some title ↦ if is_virtual title then None else Some title ]
by_named None = refl
by_named (Some title) = refl

pub real_is : (text : List ℕ) → page_named text ≡ real_title text
real_is text = by_named (normal text (pos 0))

by_virtual : (b : Bool) (named title : PageTitle) → is_virtual named ≡ b → (if b then None else Some named) ≡ Some title → is_virtual title ≡ false
by_virtual true named title is same = absurd (cc same)
by_virtual false named title is same = subst (λ t. is_virtual t ≡ false) (ap (λ o. unwrap_or o named) same) is

by_page : (o : Option PageTitle) (title : PageTitle) → option_and_then (λ named. if is_virtual named then None else Some named) o ≡ Some title → is_virtual title ≡ false
by_page None title same = absurd (cc same)
by_page (Some named) title same = by_virtual (is_virtual named) named title refl same

-- no page is in a negative namespace
pub not_virtual : (text : List ℕ) (title : PageTitle) → page_named text ≡ Some title → is_virtual title ≡ false
not_virtual text title same = by_page (normal text (pos 0)) title same
