-- Where the text of a field stands in it.
use Rattle.std.specs.Prelude.{Option, Some, None, cond, List, ℕ, ◌+◌, ◌-◌, ltb, length}
use Rattle.lists.specs.Lists.{all}
use Rattle.lists.specs.Run.{run}
use Rattle.line.specs.Line.{blank, not_cr}
use Rattle.header_line.specs.Lines.{name_len}
use Rattle.header.specs.Fields.{value_of}
use Rattle.field_text.specs.declared.TextPlace.{TextPlace}

abbrev pub in_place : ℕ → ℕ → Option TextPlace
in_place from to = Some (record { from = from; to = to })

-- the text of a value without a CR is what stands after its leading spaces and TABs, up to the CRLF that ends the field; a field of
-- fewer than three bytes after its name has no value
unfoldable pub text_place : List ℕ → Option TextPlace
text_place field =
    let n = name_len field in
    cond (ltb (length field - n) 3) (in_place n n)
    (cond (all not_cr (value_of field)) (in_place (n + 1 + run blank (value_of field)) (length field - 2)) None)
