-- What parameters ask, or why they are refused (MediaWiki's API:Data formats and the page of each module; the checks,
-- their order and the limits are own). Parameters that nothing here names are ignored.
use Rattle.std.specs.Prelude.{ℕ, Bool, false, ◌&&◌, ◌==◌, not, min, List, [], ◌∷◌, bytes_eq, codes, Option, Some, None, is_none, unwrap_or, option_and_then, if◌then◌else◌}
use Rattle.std.specs.Option.{option_or}
use Rattle.wk_text_rules.specs.Decimal.{decimal_number}
use Rattle.wk_form.specs.Parameters.{Parameters, first_value, parameters}
use Rattle.wk_request_rules.specs.Requests.{Listing, Ask, edit, delete, parse, expand_text, backlinks, embedded, members, changes, revisions, tokens, site_info, Request, RequestRefusal, bad_value, must_be_posted, bad_token, no_title, no_text, bad_integer, ParsedRequest, valid, invalid}
use Rattle.wk_request_rules.specs.Modules.{known, unknown, is_given, has_value, module_called, saves, title_parameter, needs_text, base_parameter, limit_parameter, continue_parameter}
use Rattle.wk_request_rules.specs.declared.Module.{Module}
use Rattle.wk_request_rules.specs.declared.Module.TheVariants.{Edit, Delete, Parse, ExpandTemplates, Backlinks, EmbeddedIn, CategoryMembers, RecentChanges, Revisions, Tokens, SiteInfo}

-- ---- values

-- the token with which a page is saved
abbrev pub edit_token : List ℕ
edit_token = codes "+\\"

abbrev pub default_limit : ℕ
default_limit = 10

-- the most entries of one reply
abbrev pub max_limit : ℕ
max_limit = 500

-- A limit is a decimal number from 1 on, or `max`; above the most it counts as the most.
abbrev pub limit_value : List ℕ → Option ℕ
limit_value value =
    if bytes_eq value (codes "max") then Some max_limit
    else option_and_then (λ n. if n == 0 then None else Some (min n max_limit)) (decimal_number value)

-- the number that a parameter has, where it is there and is one
abbrev pub number_given : List ℕ → Parameters → Option ℕ
number_given parameter params = option_and_then decimal_number (first_value parameter params)

-- the value of a parameter that a module may have
abbrev pub value_given : Option (List ℕ) → Parameters → Option (List ℕ)
value_given parameter params = option_and_then (λ name. first_value name params) parameter

-- ---- the checks

-- the refusal where the check fails
abbrev pub refuse_where : Bool → RequestRefusal → Option RequestRefusal
refuse_where fails refusal = if fails then Some refusal else None

abbrev pub has_token : Parameters → Bool
has_token params = has_value (codes "token") edit_token params

abbrev pub title_refused : Parameters → List ℕ → Option RequestRefusal
title_refused params parameter = refuse_where (not (is_given parameter params)) (no_title parameter)

-- a value that is there isn't such a number
abbrev pub number_refused : (List ℕ → Option ℕ) → Parameters → List ℕ → Option RequestRefusal
number_refused reads params parameter = elim (first_value parameter params) [
  | None ↦ None
  | Some value ↦ refuse_where (is_none (reads value)) (bad_integer parameter)
]

-- what each check says, in their order: the method, the token, the title, the text, the base, the least point, the limit,
-- and where a listing goes on
abbrev pub checks : Parameters → Bool → Module → List (Option RequestRefusal)
checks params posted m =
    refuse_where (saves m && not posted) must_be_posted
    ∷ refuse_where (saves m && not (has_token params)) bad_token
    ∷ option_and_then (title_refused params) (title_parameter m)
    ∷ refuse_where (needs_text m && not (is_given (codes "text") params)) no_text
    ∷ option_and_then (number_refused decimal_number params) (base_parameter m)
    ∷ number_refused decimal_number params (codes "minpoint")
    ∷ option_and_then (number_refused limit_value params) (limit_parameter m)
    ∷ option_and_then (number_refused decimal_number params) (continue_parameter m)
    ∷ []

-- the first of these that is there
abbrev pub first_some : {A : Type 0} → List (Option A) → Option A
first_some [] = None
first_some (first ∷ later) = option_or first (first_some later)

-- ---- what is asked, where no check fails

abbrev pub title_given : Parameters → Module → List ℕ
title_given params m = unwrap_or (value_given (title_parameter m) params) []

abbrev pub text_given : Parameters → List ℕ
text_given params = unwrap_or (first_value (codes "text") params) []

abbrev pub base_given : Parameters → Option ℕ
base_given params = number_given (codes "baserevid") params

abbrev pub listing_given : Parameters → Module → Listing
listing_given params m = record {
  title = title_given params m;
  limit = unwrap_or (option_and_then limit_value (value_given (limit_parameter m) params)) default_limit;
  from = option_and_then decimal_number (value_given (continue_parameter m) params);
}

-- the text of each revision is asked for: just this value
abbrev pub asks_content : Parameters → Bool
asks_content params = has_value (codes "rvprop") (codes "content") params

-- with the text of revisions one is listed at most
abbrev pub revisions_given : Listing → Bool → Ask
revisions_given listing content = revisions (if content then record listing { limit = 1 } else listing) content

abbrev pub ask_given : Parameters → Module → Ask
ask_given params Edit = edit (record {
  title = title_given params Edit;
  body = Some (text_given params);
  base = base_given params;
  create_only = is_given (codes "createonly") params;
  no_create = is_given (codes "nocreate") params;
})
ask_given params Delete = delete (title_given params Delete) (base_given params)
ask_given params Parse = parse (title_given params Parse)
ask_given params ExpandTemplates =
    expand_text (text_given params) (unwrap_or (first_value (codes "title") params) (codes "API"))
ask_given params Backlinks = backlinks (listing_given params Backlinks)
ask_given params EmbeddedIn = embedded (listing_given params EmbeddedIn)
ask_given params CategoryMembers = members (listing_given params CategoryMembers)
ask_given params RecentChanges = changes (listing_given params RecentChanges)
ask_given params Revisions = revisions_given (listing_given params Revisions) (asks_content params)
ask_given params Tokens = tokens
ask_given params SiteInfo = site_info

-- a flag of edits alone, whatever its value is
abbrev pub subst_given : Parameters → Module → Bool
subst_given params Edit = is_given (codes "subst") params
subst_given params _ = false

abbrev pub request_given : Parameters → Module → Request
request_given params m = record {
  least = unwrap_or (number_given (codes "minpoint") params) 0;
  ask = ask_given params m;
  subst = subst_given params m;
}

-- ---- requests

abbrev pub read_for : Parameters → Bool → Module → ParsedRequest
read_for params posted m = elim (first_some (checks params posted m)) [
  | None ↦ valid (request_given params m)
  | Some refusal ↦ invalid refusal
]

-- What parameters ask, posted or not: the first refusal, else the request.
unfoldable pub request_of : Parameters → Bool → ParsedRequest
request_of params posted = elim (module_called params) [
  | unknown parameter ↦ invalid (bad_value parameter)
  | known m ↦ read_for params posted m
]

-- what a query and a body ask
abbrev pub requested : List ℕ → List ℕ → Bool → ParsedRequest
requested query body posted = request_of (parameters query body) posted
