-- What values say is written as the text of these values: its whole numbers are those of the line, and none of them is a float.
use Rattle.std.proofs.Common.{◌≡◌, ℕ, ℤ, pos, negsuc, Bool, true, false, cond, eqb, nat_lt, ◌^◌, List, [], ◌∷◌, ◌++◌, bytes_eq, codes, find, Option, Some, None, option_and_then, refl, sym, ap, subst, ◌∙◌, append_assoc, append-nil, Decides}
use Rattle.std.specs.Prelude.{⊤}
use Rattle.std.specs.List.{AllByRecursion}
use Rattle.std.proofs.lemmas.Bool.{eqb-true}
use Rattle.std.proofs.lemmas.Slice.Eq.{bytes_eq-Decides}
use Rattle.serde_json.specs.Data.{unsigned, negative, float, Data, null, boolean, number, string, array, object, Items, no_items, item}
use Rattle.serde_json.specs.Find.{as_array, as_i64, as_number, as_str, as_u64}
use Rattle.serde_json.specs.Read.{read}
use Rattle.serde_json.specs.Written.{compact_text, comma_if, has_float, items_have_float, items_text}
use Rattle.wk_answer_rules.specs.Values.{integer, items_of, whole}
use Rattle.wk_feed_rules.specs.Lines.{of_pagelinks, of_templatelinks, of_existlinks, of_site, FeedLine, row, flag, line_text, line_values, text_value}
use Rattle.wk_feed_rules.specs.Reading.{category_said, ending, flag_of, forms, job_said, link_said, list_of, optional_text, page_said, redirect_said, revision_said, said, save_said, site_said, values_say, with_flag, with_integer, with_number, with_optional_text, with_text}
use Rattle.wk_feed_lines.specs.Said.{said_by_name}

abbrev number_of : Data → Option ℕ
number_of value = option_and_then as_u64 (as_number value)

abbrev integer_of : Data → Option ℤ
integer_of value = option_and_then as_i64 (as_number value)

-- ---- values that are written the same

-- the two are written the same, and the first is no float and holds none
record IsSame (a b : Data) : Type 0 where
  text : compact_text a ≡ compact_text b
  whole : has_float a ≡ false

abbrev AreSame : List Data → List Data → Type 0
AreSame [] [] = ⊤
AreSame [] (e ∷ es) = ⊥
AreSame (d ∷ ds) [] = ⊥
AreSame (d ∷ ds) (e ∷ es) = IsSame d e × AreSame ds es

texts-same : (later : Bool) (ds : Items) (es : List Data) → AreSame (list_of ds) es → items_text later ds ≡ items_text later (items_of es)
texts-same later no_items [] same = refl
texts-same later no_items (e ∷ es) same = absurd same
texts-same later (item d ds) [] same = absurd same
texts-same later (item d ds) (e ∷ es) same =
    ap (λ l. comma_if later ++ (l ++ items_text true ds)) same.0.text
    ∙ ap (λ l. comma_if later ++ (compact_text e ++ l)) (texts-same true ds es same.1)

none-floats : (ds : Items) (es : List Data) → AreSame (list_of ds) es → items_have_float ds ≡ false
none-floats no_items es same = refl
none-floats (item d ds) [] same = absurd same
none-floats (item d ds) (e ∷ es) same = rw same.0.whole (none-floats ds es same.1)

number-same : (d : Data) (n : ℕ) → number_of d ≡ Some n → IsSame d (whole n)
number-same null n is = absurd (let none : None ≡ Some n = is in cc)
number-same (boolean b) n is = absurd (let none : None ≡ Some n = is in cc)
number-same (number (unsigned m)) n is = let one : Some m ≡ Some n = is in let same : m ≡ n = cc in record { text = ap (λ k. compact_text (whole k)) same; whole = refl }
number-same (number (negative z)) n is = absurd (let none : None ≡ Some n = is in cc)
number-same (number (float x)) n is = absurd (let none : None ≡ Some n = is in cc)
number-same (string s) n is = absurd (let none : None ≡ Some n = is in cc)
number-same (array ds) n is = absurd (let none : None ≡ Some n = is in cc)
number-same (object ms) n is = absurd (let none : None ≡ Some n = is in cc)

small-same : (m : ℕ) (n : ℤ) (b : Bool) → cond b (Some (pos m)) None ≡ Some n → IsSame (whole m) (integer n)
small-same m n true is = let one : Some (pos m) ≡ Some n = is in let same : pos m ≡ n = cc in record { text = ap (λ k. compact_text (integer k)) same; whole = refl }
small-same m n false is = absurd (let none : None ≡ Some n = is in cc)

signed-same : (z : ℤ) → compact_text (number (negative z)) ≡ compact_text (integer z)
signed-same (pos n) = refl
signed-same (negsuc n) = refl

integer-same : (d : Data) (n : ℤ) → integer_of d ≡ Some n → IsSame d (integer n)
integer-same null n is = absurd (let none : None ≡ Some n = is in cc)
integer-same (boolean b) n is = absurd (let none : None ≡ Some n = is in cc)
integer-same (number (unsigned m)) n is = small-same m n (nat_lt m (2 ^ 63)) is
integer-same (number (negative z)) n is = let one : Some z ≡ Some n = is in let same : z ≡ n = cc in record { text = signed-same z ∙ ap (λ k. compact_text (integer k)) same; whole = refl }
integer-same (number (float x)) n is = absurd (let none : None ≡ Some n = is in cc)
integer-same (string s) n is = absurd (let none : None ≡ Some n = is in cc)
integer-same (array ds) n is = absurd (let none : None ≡ Some n = is in cc)
integer-same (object ms) n is = absurd (let none : None ≡ Some n = is in cc)

text-same : (d : Data) (text : List ℕ) → as_str d ≡ Some text → IsSame d (string text)
text-same null text is = absurd (let none : None ≡ Some text = is in cc)
text-same (boolean b) text is = absurd (let none : None ≡ Some text = is in cc)
text-same (number n) text is = absurd (let none : None ≡ Some text = is in cc)
text-same (string s) text is = let one : Some s ≡ Some text = is in let same : s ≡ text = cc in record { text = ap (λ t. compact_text (string t)) same; whole = refl }
text-same (array ds) text is = absurd (let none : None ≡ Some text = is in cc)
text-same (object ms) text is = absurd (let none : None ≡ Some text = is in cc)

optional-same : (d : Data) (text : Option (List ℕ)) → optional_text d ≡ Some text → IsSame d (text_value text)
optional-same null text is = let one : Some None ≡ Some text = is in let same : None ≡ text = cc in record { text = ap (λ t. compact_text (text_value t)) same; whole = refl }
optional-same (boolean b) text is = absurd (let none : None ≡ Some text = is in cc)
optional-same (number n) text is = absurd (let none : None ≡ Some text = is in cc)
optional-same (string s) text is = let one : Some (Some s) ≡ Some text = is in let same : Some s ≡ text = cc in record { text = ap (λ t. compact_text (text_value t)) same; whole = refl }
optional-same (array ds) text is = absurd (let none : None ≡ Some text = is in cc)
optional-same (object ms) text is = absurd (let none : None ≡ Some text = is in cc)

-- ---- what is said behind the first values of a line

-- the values are the line's behind these
record IsRest (before : List Data) (ds : List Data) (line : FeedLine) : Type 0 where
  rest : List Data
  same : AreSame ds rest
  values : line_values line ≡ before ++ rest

-- what is read behind these values is a line that is written so
record Writes (before : List Data) (reading : List Data → Option FeedLine) : Type 0 where
  back : (ds : List Data) (line : FeedLine) → reading ds ≡ Some line → IsRest before ds line

one-more : (before : List Data) (d e : Data) (ds : List Data) (line : FeedLine) → IsSame d e → IsRest (before ++ e ∷ []) ds line → IsRest before (d ∷ ds) line
one-more before d e ds line same rest = record {
  rest = e ∷ rest.rest;
  same = (same, rest.same);
  values = rest.values ∙ append_assoc before (e ∷ []) rest.rest;
}

-- what is read of a value of some kind, and of those behind it
and-then : {A : Type 0} (kind : Data → Option A) (data_of : A → Data) → ((d : Data) (a : A) → kind d ≡ Some a → IsSame d (data_of a))
    → (before : List Data) (reading : A → List Data → Option FeedLine) → ((a : A) → Writes (before ++ data_of a ∷ []) (reading a))
    → (d : Data) (ds : List Data) (line : FeedLine) → option_and_then (λ a. reading a ds) (kind d) ≡ Some line → IsRest before (d ∷ ds) line
and-then {A = A} kind data_of same before reading each d ds line is = by (kind d) refl is
  where
    by : (o : Option A) → kind d ≡ o → option_and_then (λ a. reading a ds) o ≡ Some line → IsRest before (d ∷ ds) line
    by None found e = absurd (let none : None ≡ Some line = e in cc)
    by (Some a) found e = one-more before d (data_of a) ds line (same d a found) ((each a).back ds line e)

writes-number : (before : List Data) (reading : ℕ → List Data → Option FeedLine) → ((n : ℕ) → Writes (before ++ whole n ∷ []) (reading n)) → Writes before (with_number reading)
writes-number before reading each = record { back = by }
  where
    by : (ds : List Data) (line : FeedLine) → with_number reading ds ≡ Some line → IsRest before ds line
    by [] line e = absurd (let none : None ≡ Some line = e in cc)
    by (d ∷ ds) line e = and-then number_of whole number-same before reading each d ds line e

writes-integer : (before : List Data) (reading : ℤ → List Data → Option FeedLine) → ((n : ℤ) → Writes (before ++ integer n ∷ []) (reading n)) → Writes before (with_integer reading)
writes-integer before reading each = record { back = by }
  where
    by : (ds : List Data) (line : FeedLine) → with_integer reading ds ≡ Some line → IsRest before ds line
    by [] line e = absurd (let none : None ≡ Some line = e in cc)
    by (d ∷ ds) line e = and-then integer_of integer integer-same before reading each d ds line e

writes-text : (before : List Data) (reading : List ℕ → List Data → Option FeedLine) → ((text : List ℕ) → Writes (before ++ string text ∷ []) (reading text)) → Writes before (with_text reading)
writes-text before reading each = record { back = by }
  where
    by : (ds : List Data) (line : FeedLine) → with_text reading ds ≡ Some line → IsRest before ds line
    by [] line e = absurd (let none : None ≡ Some line = e in cc)
    by (d ∷ ds) line e = and-then as_str string text-same before reading each d ds line e

writes-optional : (before : List Data) (reading : Option (List ℕ) → List Data → Option FeedLine) → ((text : Option (List ℕ)) → Writes (before ++ text_value text ∷ []) (reading text)) → Writes before (with_optional_text reading)
writes-optional before reading each = record { back = by }
  where
    by : (ds : List Data) (line : FeedLine) → with_optional_text reading ds ≡ Some line → IsRest before ds line
    by [] line e = absurd (let none : None ≡ Some line = e in cc)
    by (d ∷ ds) line e = and-then optional_text text_value optional-same before reading each d ds line e

flag-by : (n : ℕ) (gone zero_ one_ : Bool) → eqb n 0 ≡ zero_ → eqb n 1 ≡ one_ → flag_of n ≡ Some gone → whole n ≡ flag gone
flag-by n gone true one_ is-zero is-one is =
    let found : Some false ≡ Some gone = ap (λ b. cond b (Some false) (cond (eqb n 1) (Some true) None)) (sym is-zero) ∙ is in
    let same : false ≡ gone = cc in
    ap whole (eqb-true n 0 is-zero) ∙ ap flag same
flag-by n gone false true is-zero is-one is =
    let found : Some true ≡ Some gone = ap (λ b. cond b (Some true) None) (sym is-one) ∙ (ap (λ b. cond b (Some false) (cond (eqb n 1) (Some true) None)) (sym is-zero) ∙ is) in
    let same : true ≡ gone = cc in
    ap whole (eqb-true n 1 is-one) ∙ ap flag same
flag-by n gone false false is-zero is-one is =
    let found : None ≡ Some gone = ap (λ b. cond b (Some true) None) (sym is-one) ∙ (ap (λ b. cond b (Some false) (cond (eqb n 1) (Some true) None)) (sym is-zero) ∙ is) in
    absurd cc

-- a number that is a flag is that flag's
flag-is : (n : ℕ) (gone : Bool) → flag_of n ≡ Some gone → whole n ≡ flag gone
flag-is n gone is = flag-by n gone (eqb n 0) (eqb n 1) refl refl is

writes-flag : (before : List Data) (reading : Bool → List Data → Option FeedLine) → ((gone : Bool) → Writes (before ++ flag gone ∷ []) (reading gone)) → Writes before (with_flag reading)
writes-flag before reading each = record { back = λ ds line e. (writes-number before (λ n others. option_and_then (λ gone. reading gone others) (flag_of n)) of-number).back ds line e }
  where
    of-number : (n : ℕ) → Writes (before ++ whole n ∷ []) (λ others. option_and_then (λ gone. reading gone others) (flag_of n))
    of-number n = record { back = λ ds line e. by (flag_of n) refl ds line e }
      where
        by : (o : Option Bool) → flag_of n ≡ o → (ds : List Data) (line : FeedLine) → option_and_then (λ gone. reading gone ds) o ≡ Some line → IsRest (before ++ whole n ∷ []) ds line
        by None found ds line e = absurd (let none : None ≡ Some line = e in cc)
        by (Some gone) found ds line e = subst (λ d. IsRest (before ++ d ∷ []) ds line) (sym (flag-is n gone found)) ((each gone).back ds line e)

writes-ending : (before : List Data) (line : FeedLine) → line_values line ≡ before → Writes before (ending line)
writes-ending before line values = record { back = by }
  where
    by : (ds : List Data) (told : FeedLine) → ending line ds ≡ Some told → IsRest before ds told
    by [] told e = let one : Some line ≡ Some told = e in let same : line ≡ told = cc in record { rest = []; same = tt; values = ap line_values (sym same) ∙ values ∙ sym (append-nil before) }
    by (d ∷ ds) told e = absurd (let none : None ≡ Some told = e in cc)

-- no value is read behind the others where a test fails
writes-if : (before : List Data) (reading : List Data → Option FeedLine) (b : Bool) → (b ≡ true → Writes before reading) → Writes before (λ ds. cond b (reading ds) None)
writes-if before reading true writes = record { back = λ ds line e. (writes refl).back ds line e }
writes-if before reading false writes = record { back = λ ds line e. absurd (let none : None ≡ Some line = e in cc) }

is-version : (key : List ℕ) → bytes_eq key (codes "version") ≡ true → codes "version" ≡ key
is-version key is = sym ((bytes_eq-Decides key (codes "version")).0 is)

-- ---- the forms

page-writes : Writes (string (codes "page") ∷ []) page_said
page-writes = writes-number _ _ (λ id. writes-integer _ _ (λ ns. writes-text _ _ (λ key. writes-number _ _ (λ latest. writes-number _ _ (λ len. writes-ending _ _ refl)))))

revision-writes : Writes (string (codes "revision") ∷ []) revision_said
revision-writes =
    writes-number _ _ (λ id. writes-number _ _ (λ page. writes-number _ _ (λ parent. writes-number _ _ (λ moment. writes-number _ _ (λ len.
    writes-flag _ _ (λ gone. writes-text _ _ (λ text. writes-ending _ _ refl)))))))

pagelinks-writes : Writes (string (codes "pagelinks") ∷ []) (link_said of_pagelinks)
pagelinks-writes = writes-number _ _ (λ from. writes-integer _ _ (λ namespace. writes-integer _ _ (λ ns. writes-text _ _ (λ key. writes-ending _ _ refl))))

templatelinks-writes : Writes (string (codes "templatelinks") ∷ []) (link_said of_templatelinks)
templatelinks-writes = writes-number _ _ (λ from. writes-integer _ _ (λ namespace. writes-integer _ _ (λ ns. writes-text _ _ (λ key. writes-ending _ _ refl))))

existlinks-writes : Writes (string (codes "existlinks") ∷ []) (link_said of_existlinks)
existlinks-writes = writes-number _ _ (λ from. writes-integer _ _ (λ namespace. writes-integer _ _ (λ ns. writes-text _ _ (λ key. writes-ending _ _ refl))))

category-writes : Writes (string (codes "categorylinks") ∷ []) category_said
category-writes = writes-number _ _ (λ from. writes-text _ _ (λ to. writes-text _ _ (λ sortkey. writes-text _ _ (λ prefix. writes-ending _ _ refl))))

redirect-writes : Writes (string (codes "redirect") ∷ []) redirect_said
redirect-writes = writes-number _ _ (λ from. writes-integer _ _ (λ ns. writes-text _ _ (λ key. writes-ending _ _ refl)))

job-writes : Writes (string (codes "job") ∷ []) job_said
job-writes = writes-number _ _ (λ id. writes-text _ _ (λ cmd. writes-integer _ _ (λ ns. writes-text _ _ (λ key. writes-text _ _ (λ params. writes-ending _ _ refl)))))

site-writes : Writes (string (codes "site") ∷ []) site_said
site-writes =
    writes-text _ _ (λ key. writes-if _ _ (bytes_eq key (codes "version")) (λ is.
    subst (λ (k : List ℕ). Writes (string (codes "site") ∷ string k ∷ []) (with_text (λ version. ending (row (of_site version))))) (is-version key is)
    (writes-text _ _ (λ version. writes-ending _ _ refl))))

save-writes : Writes (string (codes "save") ∷ []) save_said
save-writes = writes-text _ _ (λ title. writes-optional _ _ (λ text. writes-number _ _ (λ moment. writes-ending _ _ refl)))

abbrev Form : Type 0
Form = List ℕ × (List Data → Option FeedLine)

abbrev FormWrites : Form → Type 0
FormWrites form = Writes (string form.0 ∷ []) form.1

all-write : AllByRecursion FormWrites forms
all-write = (
  page-writes,
  (
    revision-writes,
    (
      pagelinks-writes,
      (
        templatelinks-writes,
        (
          existlinks-writes,
          (
            category-writes,
            (
              redirect-writes,
              (
                job-writes,
                (
                  site-writes,
                  (
                    writes-ending _ _ refl,
                    (
                      save-writes,
                      (
                        writes-ending _ _ refl,
                        (
                          writes-number _ _ (λ ticket. writes-ending _ _ refl),
                          (
                            writes-number _ _ (λ ticket. writes-ending _ _ refl),
                            (writes-ending _ _ refl, tt),
                          ),
                        ),
                      ),
                    ),
                  ),
                ),
              ),
            ),
          ),
        ),
      ),
    ),
  ),
)

-- what a form says that is found by a name
found-writes : (name : List ℕ) (table : List Form) → AllByRecursion FormWrites table → (ds : List Data) (line : FeedLine)
    → option_and_then (λ (form : Form). form.1 ds) (find (λ form. bytes_eq form.0 name) table) ≡ Some line → IsRest (string name ∷ []) ds line
found-writes name [] all ds line e = absurd (let none : None ≡ Some line = e in cc)
found-writes name (form ∷ table) all ds line e = by (bytes_eq form.0 name) (bytes_eq-Decides form.0 name) (λ is. found-writes name table all.1 ds line is) e
  where
    by : (b : Bool) → Decides b (form.0 ≡ name) → (option_and_then (λ (form : Form). form.1 ds) (find (λ form. bytes_eq form.0 name) table) ≡ Some line → IsRest (string name ∷ []) ds line)
        → option_and_then (λ (form : Form). form.1 ds) (cond b (Some form) (find (λ form. bytes_eq form.0 name) table)) ≡ Some line → IsRest (string name ∷ []) ds line
    by true named others is = subst (λ n. IsRest (string n ∷ []) ds line) (named.0 refl) (all.0.back ds line is)
    by false other others is = others is

values-write : Writes [] values_say
values-write = writes-text [] said_by_name (λ name. record { back = λ ds line e. found-writes name forms all-write ds line e })

-- ---- the line

record IsWritten (d : Data) (line : FeedLine) : Type 0 where
  text : compact_text d ≡ line_text line
  whole : has_float d ≡ false

items-written : (ds : Items) (line : FeedLine) → values_say (list_of ds) ≡ Some line → IsWritten (array ds) line
items-written ds line is =
    let rest = values-write.back (list_of ds) line is in record {
      text = ap (λ l. 91 ∷ l) (texts-same false ds rest.rest rest.same ∙ ap (λ es. items_text false (items_of es)) (sym rest.values));
      whole = none-floats ds rest.rest rest.same;
    }

-- what a value says
abbrev pub says : Data → Option FeedLine
says d = option_and_then (λ items. values_say (list_of items)) (as_array d)

written : (d : Data) (line : FeedLine) → says d ≡ Some line → IsWritten d line
written null line is = absurd (let none : None ≡ Some line = is in cc)
written (boolean b) line is = absurd (let none : None ≡ Some line = is in cc)
written (number n) line is = absurd (let none : None ≡ Some line = is in cc)
written (string s) line is = absurd (let none : None ≡ Some line = is in cc)
written (array ds) line is = items-written ds line is
written (object ms) line is = absurd (let none : None ≡ Some line = is in cc)

-- what is said by bytes, by what their value says
abbrev checked : List ℕ → Option FeedLine → Option FeedLine
checked bytes o = option_and_then (λ line. cond (bytes_eq (line_text line) bytes) (Some line) None) o

-- bytes say what their value says, where they are the compact text of this value
pub said-is : (bytes : List ℕ) (d : Data) (same : Bool) → Some d ≡ read bytes → (has_float d ≡ false → same ≡ bytes_eq (compact_text d) bytes) → cond same (says d) None ≡ said bytes
unfolding said
said-is bytes d same is compact = by (says d) refl ∙ ap (λ (o : Option Data). checked bytes (option_and_then (λ items. values_say (list_of items)) (option_and_then as_array o))) is
  where
    nothing : (b : Bool) → cond {A = Option FeedLine} b None None ≡ None
    nothing true = refl
    nothing false = refl

    by : (o : Option FeedLine) → says d ≡ o → cond same o None ≡ checked bytes o
    by None none = nothing same
    by (Some line) found =
        let told = written d line found in
        ap (λ b. cond b (Some line) None) (compact told.whole ∙ ap (λ (t : List ℕ). bytes_eq t bytes) told.text)

pub none-said : (bytes : List ℕ) → None ≡ read bytes → None ≡ said bytes
unfolding said
none-said bytes none = ap (λ (o : Option Data). checked bytes (option_and_then (λ items. values_say (list_of items)) (option_and_then as_array o))) none

-- ---- a name that no form has

pub none-named : (name : List ℕ) (table : List Form) → AllByRecursion (λ (form : Form). name ≡ form.0 → ⊥) table → find (λ form. bytes_eq form.0 name) table ≡ None
none-named name [] all = refl
none-named name (form ∷ table) all = by (bytes_eq form.0 name) (bytes_eq-Decides form.0 name) (none-named name table all.1)
  where
    by : (b : Bool) → Decides b (form.0 ≡ name) → find (λ form. bytes_eq form.0 name) table ≡ None → cond b (Some form) (find (λ form. bytes_eq form.0 name) table) ≡ None
    by true named later = absurd (all.0 (sym (named.0 refl)))
    by false other later = later
