-- What a request asks, and why parameters are refused (MediaWiki's API:Main page and the page of each module; what is
-- left out of them is own). Titles are as they were written.
use Rattle.std.specs.Prelude.{ℕ, Bool, true, false, List, [], Option, None, if◌then◌else◌}
use Rattle.wk_page_rules.specs.Verdict.{EditAsked}

-- which entries of a list are asked for
pub record Listing : Type 0 where
  -- the title whose entries are listed, empty for the changes of all pages
  pub title : List ℕ
  -- at most so many entries, from 1 to 500
  pub limit : ℕ
  -- where the listing before this one ended, as its reply says; nothing where the listing begins
  pub from : Option ℕ

pub data Ask : Type 0 where
  edit : EditAsked → Ask
  -- a title and a base
  delete : List ℕ → Option ℕ → Ask
  -- a title
  parse : List ℕ → Ask
  -- a text, and the title of the page in whose place it stands
  expand_text : List ℕ → List ℕ → Ask
  backlinks : Listing → Ask
  embedded : Listing → Ask
  members : Listing → Ask
  changes : Listing → Ask
  -- and whether the text of each revision is asked for
  revisions : Listing → Bool → Ask
  tokens : Ask
  site_info : Ask

-- it asks for a save, and takes a moment of the clock
abbrev pub asks_to_save : Ask → Bool
asks_to_save (edit asked) = true
asks_to_save (delete title base) = true
asks_to_save _ = false

pub record Request : Type 0 where
  -- the answer is given at this point of the journal or later
  pub least : ℕ
  pub ask : Ask
  -- the text of an edit is transformed before it is judged
  pub subst : Bool

-- the text that an edit gives its page
abbrev pub edited_text : Ask → Option (List ℕ)
edited_text (edit asked) = asked.body
edited_text _ = None

-- the text that is transformed before it is judged, where one is
abbrev pub text_to_transform : Request → Option (List ℕ)
text_to_transform request = if request.subst then edited_text request.ask else None

-- Why parameters ask nothing, in the order of checking; with the parameter that it is about.
pub data RequestRefusal : Type 0 where
  bad_value : List ℕ → RequestRefusal
  must_be_posted : RequestRefusal
  bad_token : RequestRefusal
  no_title : List ℕ → RequestRefusal
  no_text : RequestRefusal
  bad_integer : List ℕ → RequestRefusal

-- the place of a refusal in the order of checking, from 1
abbrev pub number_of_refusal : RequestRefusal → ℕ
number_of_refusal (bad_value parameter) = 1
number_of_refusal must_be_posted = 2
number_of_refusal bad_token = 3
number_of_refusal (no_title parameter) = 4
number_of_refusal no_text = 5
number_of_refusal (bad_integer parameter) = 6

-- the parameter that the reply names, empty where it names none
abbrev pub parameter_of_refusal : RequestRefusal → List ℕ
parameter_of_refusal (bad_value parameter) = parameter
parameter_of_refusal must_be_posted = []
parameter_of_refusal bad_token = []
parameter_of_refusal (no_title parameter) = parameter
parameter_of_refusal no_text = []
parameter_of_refusal (bad_integer parameter) = parameter

-- what parameters say: a request, or a refusal
pub data ParsedRequest : Type 0 where
  valid : Request → ParsedRequest
  invalid : RequestRefusal → ParsedRequest
