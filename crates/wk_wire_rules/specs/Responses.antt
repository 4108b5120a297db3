-- The bytes of a response (RFC 9112 sections 4 and 6.3; which fields there are, and their order, is own).
use Rattle.std.specs.Prelude.{ℕ, Bool, ◌==◌, List, [], ◌++◌, length, codes, if◌then◌else◌}
use Rattle.std.specs.Fmt.{decimal}

-- the reason of a status (RFC 9110 section 15); another status has an empty one (own)
abbrev pub reason : ℕ → List ℕ
reason status =
    if status == 200 then codes "OK" else
    (if status == 400 then codes "Bad Request" else
    (if status == 404 then codes "Not Found" else
    (if status == 405 then codes "Method Not Allowed" else
    (if status == 411 then codes "Length Required" else
    (if status == 413 then codes "Content Too Large" else
    (if status == 415 then codes "Unsupported Media Type" else
    (if status == 501 then codes "Not Implemented" else [])))))))

-- the line, ended by CR LF
abbrev pub ended : List ℕ → List ℕ
ended line = line ++ codes "\r\n"

-- a line that is there where the test holds
abbrev pub line_where : Bool → List ℕ → List ℕ
line_where test line = if test then ended line else []

-- bodies of other statuses than 200 are empty (own)
abbrev pub body_sent : ℕ → List ℕ → List ℕ
body_sent status body = if status == 200 then body else []

-- The response with this status and body; `close` says that the connection ends with it.
abbrev pub response : ℕ → List ℕ → Bool → List ℕ
response status body close =
    ended (codes "HTTP/1.1 " ++ decimal status ++ codes " " ++ reason status)
    ++ line_where (status == 200) (codes "Content-Type: application/json; charset=utf-8")
    ++ ended (codes "Content-Length: " ++ decimal (length (body_sent status body)))
    ++ line_where close (codes "Connection: close")
    ++ ended []
    ++ body_sent status body
