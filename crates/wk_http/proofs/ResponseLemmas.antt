-- The bytes of a response in one row.
use Rattle.std.proofs.Common.{◌≡◌, ℕ, Bool, List, ◌++◌, length, codes, append_assoc, ap, ◌∙◌}
use Rattle.std.specs.Prelude.{◌==◌}
use Rattle.std.specs.Fmt.{decimal}
use Rattle.wk_wire_rules.specs.Responses.{reason, line_where, body_sent, response}
use Rattle.wk_http.specs.Head.{head_text}

regroup : (version status space reason line type_line name count close_line body : List ℕ) →
    (version ++ (status ++ (space ++ (reason ++ (line ++ (type_line ++ (name ++ (count ++ (line ++ (close_line ++ line)))))))))) ++ body
    ≡ (version ++ status ++ space ++ reason ++ line) ++ type_line ++ (name ++ count ++ line) ++ close_line ++ line ++ body
regroup version status space reason line type_line name count close_line body = simp append_assoc

pub response_is : (status : ℕ) (body : List ℕ) (close : Bool) →
    head_text status (reason status) (line_where (status == 200) (codes "Content-Type: application/json; charset=utf-8"))
    (length (body_sent status body)) (line_where close (codes "Connection: close"))
    ++ body_sent status body ≡ response status body close
response_is status body close =
    regroup (codes "HTTP/1.1 ") (decimal status) (codes " ") (reason status) (codes "\r\n")
    (line_where (status == 200) (codes "Content-Type: application/json; charset=utf-8")) (codes "Content-Length: ")
    (decimal (length (body_sent status body))) (line_where close (codes "Connection: close")) (body_sent status body)

-- the same, from texts that are told of by equations
pub response_from : (status : ℕ) (body : List ℕ) (close : Bool) (phrase type_line close_line head first second : List ℕ) →
    phrase ≡ reason status → type_line ≡ line_where (status == 200) (codes "Content-Type: application/json; charset=utf-8") →
    close_line ≡ line_where close (codes "Connection: close") → second ≡ body_sent status body →
    head ≡ head_text status phrase type_line (length second) close_line → first ≡ head → first ++ second ≡ response status body close
response_from status body close phrase type_line close_line head first second p t l s h f =
    ap (λ x. x ++ second) (f ∙ h)
    ∙ (ap (λ x. head_text status x type_line (length second) close_line ++ second) p
    ∙ (ap (λ x. head_text status (reason status) x (length second) close_line ++ second) t
    ∙ (ap (λ x. head_text status (reason status) (line_where (status == 200) (codes "Content-Type: application/json; charset=utf-8")) (length second) x ++ second) l
    ∙ (ap (λ x. head_text status (reason status) (line_where (status == 200) (codes "Content-Type: application/json; charset=utf-8")) (length x)
    (line_where close (codes "Connection: close")) ++ x) s
    ∙ response_is status body close))))
