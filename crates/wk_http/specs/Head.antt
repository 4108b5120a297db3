-- The part of a response that stands before its body, in one row.
use Rattle.std.specs.Prelude.{ℕ, List, ◌++◌, codes}
use Rattle.std.specs.Fmt.{decimal}

abbrev pub head_text : ℕ → List ℕ → List ℕ → ℕ → List ℕ → List ℕ
head_text status reason type_line count close_line =
    codes "HTTP/1.1 " ++ (decimal status ++ (codes " " ++ (reason ++ (codes "\r\n" ++ (type_line
    ++ (codes "Content-Length: " ++ (decimal count ++ (codes "\r\n" ++ (close_line ++ codes "\r\n")))))))))
