use Rattle.std.proofs.Common.{◌≡◌, Bool, true, false, cond, None, Option, List, ℕ, refl, sym, ap, ◌∙◌, option_and_then}
use Rattle.serde_json.specs.Data.{Data}
use Rattle.wk_feed_rules.specs.Lines.{FeedLine}
use Rattle.wk_feed_rules.specs.Reading.{forms}
use Rattle.wk_feed_lines.specs.Cells.{left_of}
use Rattle.wk_feed_lines.proofs.Written.{none-named}
use Rattle.wk_feed_lines.proofs.forms.said_by_name.Goals as goal

nothing : (b : Bool) → None ≡ cond {A = Option FeedLine} b None None
nothing true = refl
nothing false = refl

pub returns-in_default : goal.returns-in_default
returns-in_default c =
    let d = c.in_default in
    let left = left_of c.args.cells.now in
    nothing left.is_fit
    ∙ ap (λ o. cond left.is_fit (option_and_then (λ (form : List ℕ × (List Data → Option FeedLine)). form.1 left.values) o) None) (sym (none-named c.args.name.now forms (
      d.not-page,
      (
        d.not-revision,
        (
          d.not-pagelinks,
          (
            d.not-templatelinks,
            (
              d.not-existlinks,
              (
                d.not-categorylinks,
                (
                  d.not-redirect,
                  (
                    d.not-job,
                    (
                      d.not-site,
                      (
                        d.not-start,
                        (
                          d.not-save,
                          (
                            d.not-claim,
                            (
                              d.not-done,
                              (
                                d.not-back,
                                (d.not-fan, tt),
                              ),
                            ),
                          ),
                        ),
                      ),
                    ),
                  ),
                ),
              ),
            ),
          ),
        ),
      ),
    )))
