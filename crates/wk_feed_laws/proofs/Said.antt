-- A line that is written is read back as what it says.
use Rattle.std.proofs.Common.{◌≡◌, ℕ, ℤ, pos, negsuc, Bool, true, false, cond, ◌<◌, ◌^◌, List, [], ◌∷◌, bytes_eq, Option, Some, None, option_and_then, refl, sym, ap, ◌∙◌, arith, lt-ltb, Decides}
use Rattle.std.specs.List.{AllByRecursion}
use Rattle.std.proofs.lemmas.Slice.Eq.{bytes_eq-Decides}
use Rattle.serde_json.specs.Data.{Data}
use Rattle.serde_json.specs.Find.{as_array, as_i64, of_integer}
use Rattle.serde_json.specs.Read.{read}
use Rattle.wk_answer_rules.specs.Values.{integer, items_of}
use Rattle.wk_table_rules.specs.Rows.{LinkColumns}
use Rattle.wk_feed_rules.specs.Lines.{TableRow, of_page, of_revision, of_pagelinks, of_templatelinks, of_existlinks, of_categorylinks, of_redirect, of_job, of_site, FeedLine, row, start, save, claim, done, back, fan, link_values, line_text, line_values, row_values, text_value}
use Rattle.wk_feed_rules.specs.Reading.{list_of, said, values_say}
use Rattle.wk_feed_laws.specs.Fits.{IntegerFits, LineFits, LinkFits, RowFits}
use Rattle.wk_feed_laws.proofs.Json.{IsFlat, array-back}

-- ---- the values of a line are flat

flat-integer : (z : ℤ) → IntegerFits z → IsFlat (integer z)
flat-integer (pos n) h = omega (arith, h)
flat-integer (negsuc n) h = h

flat-link : (l : LinkColumns) → LinkFits l → AllByRecursion IsFlat (link_values l)
flat-link l h = (h.0, (flat-integer l.from_namespace h.1, (flat-integer l.target.ns h.2, (tt, tt))))

flat-flag : (gone : Bool) → (if_one : ℕ) → if_one ≡ cond gone 1 0 → if_one < 2 ^ 64
flat-flag true n e = omega (arith, e)
flat-flag false n e = omega (arith, e)

flat-row : (r : TableRow) → RowFits r → AllByRecursion IsFlat (row_values r)
flat-row (of_page p) h = (tt, (h.0, (flat-integer p.page_title.ns h.1, (tt, (h.2, (h.3, tt))))))
flat-row (of_revision r) h = (tt, (h.0, (h.1, (h.2, (h.3, (h.4, (flat-flag r.rev_gone (cond r.rev_gone 1 0) refl, (tt, tt))))))))
flat-row (of_pagelinks l) h = (tt, flat-link l h)
flat-row (of_templatelinks l) h = (tt, flat-link l h)
flat-row (of_existlinks l) h = (tt, flat-link l h)
flat-row (of_categorylinks c) h = (tt, (h, (tt, (tt, (tt, tt)))))
flat-row (of_redirect r) h = (tt, (h.0, (flat-integer r.rd_title.ns h.1, (tt, tt))))
flat-row (of_job j) h = (tt, (h.0, (tt, (flat-integer j.job_title.ns h.1, (tt, (tt, tt))))))
flat-row (of_site version) h = (tt, (tt, (tt, tt)))

flat-text : (text : Option (List ℕ)) → IsFlat (text_value text)
flat-text None = tt
flat-text (Some text) = tt

pub flat-line : (l : FeedLine) → LineFits l → AllByRecursion IsFlat (line_values l)
flat-line (row r) h = flat-row r h
flat-line start h = (tt, tt)
flat-line (save title text moment) h = (tt, (tt, (flat-text text, (h, tt))))
flat-line claim h = (tt, tt)
flat-line (done ticket) h = (tt, (h, tt))
flat-line (back ticket) h = (tt, (h, tt))
flat-line fan h = (tt, tt)

-- ---- the values say the line

integer-back : (z : ℤ) → IntegerFits z → as_i64 (of_integer z) ≡ Some z
integer-back (pos n) h = ap (λ b. cond b (Some (pos n)) None) (lt-ltb n (2 ^ 63) h)
integer-back (negsuc n) h = refl

row-said : (r : TableRow) → RowFits r → values_say (row_values r) ≡ Some (row r)
row-said (of_page p) h = rw (integer-back p.page_title.ns h.1) refl
row-said (of_revision r) h = elim r.rev_gone as (λ gone. values_say (row_values (of_revision (record r { rev_gone = gone }))) ≡ Some (row (of_revision (record r { rev_gone = gone })))) [ true ↦ refl | false ↦ refl ]
row-said (of_pagelinks l) h = rw (integer-back l.from_namespace h.1, integer-back l.target.ns h.2) refl
row-said (of_templatelinks l) h = rw (integer-back l.from_namespace h.1, integer-back l.target.ns h.2) refl
row-said (of_existlinks l) h = rw (integer-back l.from_namespace h.1, integer-back l.target.ns h.2) refl
row-said (of_categorylinks c) h = refl
row-said (of_redirect r) h = rw (integer-back r.rd_title.ns h.1) refl
row-said (of_job j) h = rw (integer-back j.job_title.ns h.1) refl
row-said (of_site version) h = refl

values-said : (l : FeedLine) → LineFits l → values_say (line_values l) ≡ Some l
values-said (row r) h = row-said r h
values-said start h = refl
values-said (save title None moment) h = refl
values-said (save title (Some text) moment) h = refl
values-said claim h = refl
values-said (done ticket) h = refl
values-said (back ticket) h = refl
values-said fan h = refl

-- ---- the line

list-back : (ds : List Data) → list_of (items_of ds) ≡ ds
list-back [] = refl
list-back (d ∷ ds) = ap (λ l. d ∷ l) (list-back ds)

pub same-bytes : (bytes : List ℕ) → bytes_eq bytes bytes ≡ true
same-bytes bytes = by (bytes_eq bytes bytes) (bytes_eq-Decides bytes bytes)
  where
    by : (b : Bool) → Decides b (bytes ≡ bytes) → b ≡ true
    by true decides = refl
    by false decides = decides.1 refl

-- what is said of bytes, by what their values say
abbrev checked : List ℕ → Option FeedLine → Option FeedLine
checked bytes o = option_and_then (λ line. cond (bytes_eq (line_text line) bytes) (Some line) None) o

pub line-said : (l : FeedLine) → LineFits l → said (line_text l) ≡ Some l
unfolding said
line-said l fits =
    let ds = line_values l in
    ap (λ (o : Option Data). checked (line_text l) (option_and_then (λ items. values_say (list_of items)) (option_and_then as_array o))) (array-back ds (flat-line l fits))
    ∙ (ap (λ (vs : List Data). checked (line_text l) (values_say vs)) (list-back ds)
    ∙ (ap (checked (line_text l)) (values-said l fits)
    ∙ ap (λ b. cond b (Some l) None) (same-bytes (line_text l))))

-- what is said of bytes is written as these bytes
pub said-line : (bytes : List ℕ) (l : FeedLine) → said bytes ≡ Some l → line_text l ≡ bytes
unfolding said
said-line bytes l is = by (option_and_then (λ items. values_say (list_of items)) (option_and_then as_array (read bytes))) is
  where
    by : (o : Option FeedLine) → checked bytes o ≡ Some l → line_text l ≡ bytes
    by None e = absurd (let none : None ≡ Some l = e in cc)
    by (Some line) e = kept (bytes_eq (line_text line) bytes) (bytes_eq-Decides (line_text line) bytes) e
      where
        kept : (b : Bool) → Decides b (line_text line ≡ bytes) → cond b (Some line) None ≡ Some l → line_text l ≡ bytes
        kept true same e = let one : Some line ≡ Some l = e in let is : line ≡ l = cc in ap line_text (sym is) ∙ same.0 refl
        kept false other e = absurd (let none : None ≡ Some l = e in cc)
