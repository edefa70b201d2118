use Rattle.std.proofs.Common.{◌∙◌, ap}
use Rattle.tc_api.specs.Responses.{length_line, line_end, page_lines, phrase_of, status_line}
use Rattle.tc_api.proofs.ResponseLemmas.{page_head_made}
use Rattle.tc_api.proofs.responses.page_head.Goals as goal

pub returns : goal.returns
returns c =
    page_head_made (status_line 200 (phrase_of 200)) line_end page_lines (length_line c.args.length) _ _ _ _ _ _ _ (c.in_ok-text.ensures ∙ ap (status_line 200) c.phrase_of.ensures)
    c.in_ok-push_str.ensures.bytes c.in_ok-push_str-2.ensures.bytes (c.as_str.ensures.value ∙ c.in_ok-length_line.ensures) c.in_ok-push_str-3.ensures.bytes c.in_ok-push_str-4.ensures.bytes
