-- The bytes of a response.
use Rattle.std.specs.Prelude.{ℕ, ◌-◌, ◌==◌, List, [], ◌++◌, codes, length, map, take}
use Rattle.std.specs.List.{slice_split}
use Rattle.std.specs.Option.{unwrap_or}
use Rattle.std.specs.Fmt.{decimal}
use Rattle.http.specs.StatusCode.{reason_phrase}
use Rattle.serde_json.specs.Data.{Data, Items, array, member, no_members, number, object, string, unsigned}
use Rattle.serde_json.specs.View.{items_of}
use Rattle.serde_json.specs.Written.{compact_text}
pub use Rattle.tc_front.specs.Lines.{length_line, line_end}
use Rattle.tc_wall.specs.declared.fixed.TheConstants.{POLICY}
use Rattle.tc_api.specs.declared.endings.Ending.{Ending}
use Rattle.tc_api.specs.Endings.{refusal_number, status_number, status_of}

-- the lines of a text, each of which ends in LF: what is left behind the last LF is none
abbrev pub text_lines : List ℕ → List (List ℕ)
text_lines text = take (length (slice_split (λ byte. byte == 10) text) - 1) (slice_split (λ byte. byte == 10) text)

-- how many lines a response shows at most
abbrev pub most_lines : ℕ
most_lines = 200

-- a JSON string of each of these texts
abbrev pub strings : List (List ℕ) → Items
strings texts = items_of (map string texts)

-- what a body says: these lines of a reply, how many more it has, and the number of its refusal
abbrev pub reply_data : List (List ℕ) → ℕ → ℕ → Data
reply_data shown more refusal =
    object
    (member (codes "lines") (array (strings shown))
    (member (codes "more") (number (unsigned more))
    (member (codes "refusal") (number (unsigned refusal)) no_members)))

-- the first lines of a reply are shown
abbrev pub body_data : List (List ℕ) → ℕ → Data
body_data lines refusal = reply_data (take most_lines lines) (length lines - most_lines) refusal

-- the body of the response: compact JSON (RFC 8259)
abbrev pub body_bytes : Ending → List ℕ → List ℕ
body_bytes ending text = compact_text (body_data (text_lines text) (refusal_number ending))

-- the phrase that the crate http gives to a status code
abbrev pub phrase_of : ℕ → List ℕ
phrase_of code = unwrap_or (reason_phrase code) []

-- the status line (RFC 9112, section 4), without its end
abbrev pub status_line : ℕ → List ℕ → List ℕ
status_line code phrase = codes "HTTP/1.1 " ++ decimal code ++ codes " " ++ phrase

-- the status line, three header lines and an empty line
abbrev pub head_text : ℕ → List ℕ → ℕ → List ℕ
head_text code phrase size =
    status_line code phrase ++ (line_end ++ codes "Content-Type: application/json" ++ line_end)
    ++ length_line size ++ (line_end ++ codes "Connection: close" ++ line_end ++ line_end)

-- the header lines of a page: it is no copy of an earlier one, its styles and its one script are its own and nothing else is loaded or run, it asks its own desk
-- alone, no other page frames it, and it is HTML
-- (RFC 9111, section 5.2; CSP, level 3)
abbrev pub page_lines : List ℕ
page_lines =
    codes "Content-Type: text/html; charset=utf-8" ++ line_end
    ++ (codes "Cache-Control: no-store" ++ line_end)
    ++ (codes "Content-Security-Policy: " ++ POLICY.now ++ codes "; frame-ancestors 'none'" ++ line_end)
    ++ (codes "X-Content-Type-Options: nosniff" ++ line_end)

-- the head of a response with a page of so many bytes
abbrev pub page_head : ℕ → List ℕ
page_head size = status_line 200 (phrase_of 200) ++ (line_end ++ page_lines) ++ length_line size ++ (line_end ++ codes "Connection: close" ++ line_end ++ line_end)

-- the head of a response that says this ending, with a body of so many bytes
abbrev pub response_head : Ending → ℕ → List ℕ
response_head ending size = head_text (status_number (status_of ending)) (phrase_of (status_number (status_of ending))) size

-- the response to what ended so, with a reply of this text
unfoldable pub response_bytes : Ending → List ℕ → List ℕ
response_bytes ending text = response_head ending (length (body_bytes ending text)) ++ body_bytes ending text

-- the response with a page
unfoldable pub page_bytes : List ℕ → List ℕ
page_bytes page = page_head (length page) ++ page
