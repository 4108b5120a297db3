-- What a request asks, as the rules read it.
use Rattle.std.specs.Prelude.{string_bytes}
use Rattle.wk_revs.specs.Edit.{edit_asked}
use Rattle.wk_request_rules.specs.Requests.{Listing as Listed, Ask as Asking, edit, delete, parse, expand_text, backlinks, embedded, members, changes, revisions, tokens, site_info, Request as Parsed}
use Rattle.wk_request.specs.declared.listings.Listing.{Listing}
use Rattle.wk_request.specs.declared.request.Ask.{Ask}
use Rattle.wk_request.specs.declared.request.Ask.TheVariants.{Edit, Delete, Parse, Expand, Backlinks, Embedded, Members, Changes, Revisions, Tokens, SiteInfo}
use Rattle.wk_request.specs.declared.request.Request.{Request}
use Rattle.wk_request.specs.declared.asked.Asked.{Asked}
use Rattle.wk_request.specs.declared.asked.Asked.TheVariants.{Save, Read, List, Site}
use Rattle.wk_request.specs.declared.asked.SaveAsked.{SaveAsked}
use Rattle.wk_request.specs.declared.asked.SaveAsked.TheVariants.{Edit as SaveEdit, Delete as SaveDelete}
use Rattle.wk_request.specs.declared.asked.ReadAsked.{ReadAsked}
use Rattle.wk_request.specs.declared.asked.ReadAsked.TheVariants.{Page, Text}
use Rattle.wk_request.specs.declared.asked.ListAsked.{ListAsked}
use Rattle.wk_request.specs.declared.asked.ListAsked.TheVariants.{Backlinks as ListBacklinks, Embedded as ListEmbedded, Members as ListMembers, Changes as ListChanges, Revisions as ListRevisions}
use Rattle.wk_request.specs.declared.asked.SiteAsked.{SiteAsked}
use Rattle.wk_request.specs.declared.asked.SiteAsked.TheVariants.{Tokens as SiteTokens, Info}

abbrev pub listing_of : Listing → Listed
listing_of listing = record {
  title = string_bytes listing.title;
  limit = listing.limit;
  from = listing.from;
}

abbrev pub ask_of : Ask → Asking
ask_of (Edit asked) = edit (edit_asked asked)
ask_of (Delete title base) = delete (string_bytes title) base
ask_of (Parse page) = parse (string_bytes page)
ask_of (Expand text title) = expand_text (string_bytes text) (string_bytes title)
ask_of (Backlinks listing) = backlinks (listing_of listing)
ask_of (Embedded listing) = embedded (listing_of listing)
ask_of (Members listing) = members (listing_of listing)
ask_of (Changes listing) = changes (listing_of listing)
ask_of (Revisions listing content) = revisions (listing_of listing) content
ask_of Tokens = tokens
ask_of SiteInfo = site_info

abbrev pub request_asked : Request → Parsed
request_asked request = record { least = request.least; ask = ask_of request.ask; subst = request.subst }

-- ---- by who answers it

abbrev pub save_of : SaveAsked → Asking
save_of (SaveEdit asked) = edit (edit_asked asked.now)
save_of (SaveDelete title base) = delete title.now base

abbrev pub read_of : ReadAsked → Asking
read_of (Page page) = parse page.now
read_of (Text text title) = expand_text text.now title.now

abbrev pub list_of : ListAsked → Asking
list_of (ListBacklinks listing) = backlinks (listing_of listing.now)
list_of (ListEmbedded listing) = embedded (listing_of listing.now)
list_of (ListMembers listing) = members (listing_of listing.now)
list_of (ListChanges listing) = changes (listing_of listing.now)
list_of (ListRevisions listing content) = revisions (listing_of listing.now) content

abbrev pub site_of : SiteAsked → Asking
site_of SiteTokens = tokens
site_of Info = site_info

abbrev pub asked_of : Asked → Asking
asked_of (Save asked) = save_of asked
asked_of (Read asked) = read_of asked
asked_of (List asked) = list_of asked
asked_of (Site asked) = site_of asked
