-- The rows of a query that is read to its end.
use Rattle.std.proofs.Common.{◌≡◌, ℕ, List, [], ◌∷◌, ◌++◌, Ok, sym, subst}
use Rattle.sqlite_value.specs.declared.value.Value.{Value}
use Rattle.sqlite.specs.Effect.{Database}
use Rattle.sqlite.specs.Clock.{timed}
use Rattle.sqlite.specs.Given.{IsPlain}
use Rattle.sqlite.specs.Listing.{understood, reads_listing, IsSourceOf}
use Rattle.sqlite.specs.State.{State, IsUnchanged, Shown, ShowsRows}
use Rattle.sqlite.proofs.Callers.{unchanged_then}
use Rattle.wk_sqlkeeper.specs.Reading.{StandAs}

-- one row more on either side
pub stand-more : {R : Type 0} (stands : List Value → R → Type 0) (shown : List (List Value)) (rows : List R) (values : List Value) (row : R) → StandAs stands shown rows → stands values row
    → StandAs stands (shown ++ values ∷ []) (rows ++ row ∷ [])
stand-more stands [] [] values row all one = (one, tt)
stand-more stands [] (r ∷ rows) values row all one = absurd all
stand-more stands (v ∷ shown) [] values row all one = absurd all
stand-more stands (v ∷ shown) (r ∷ rows) values row all one = (all.0, stand-more stands shown rows values row all.1 one)

-- what a query shows after something that left the database as it was
pub shown_before : (sql : List ℕ) (a b c : State) (rows : List (List Value)) → IsPlain (understood a.now.schema sql) → IsUnchanged a b → Shown sql [] b c rows → Shown sql [] a c rows
unfolding Shown
shown_before sql a b c rows plain same h =
    let is = same.0.now_is in
    let none = (subst IsPlain h.1.is (subst (λ (d : Database). IsPlain (understood d.schema sql)) (sym is) plain)).0 in
    let full = timed [] h.0.formats h.1.now in
    let it = subst (ShowsRows b c sql h.0 full rows) none h.2 in (
      h.0,
      record { is = subst (λ (d : Database). understood d.schema sql ≡ Ok h.0) is h.1.is; whole = h.1.whole; given = h.1.given; now = h.1.now },
      subst (ShowsRows a c sql h.0 full rows) (sym none) (it.0, subst (λ (d : Database). IsSourceOf (reads_listing d.schema sql) d it.0) is it.1, it.2, unchanged_then a b c same it.3),
    )
