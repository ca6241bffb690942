-- The byte at which a header line is told malformed, and the scan that finds it: the form of the line by one byte at a time, beside the
-- character that has begun. HeaderStopLaws.antt proves that it finds that byte.
use Rattle.std.specs.Prelude.{Bool, true, false, not, cond, ◌&&◌, List, ℕ, zero, suc, T, eqb}
use Rattle.line.specs.Line.{blank}
use Rattle.header_line.specs.Lines.{line_byte, name_byte, well_formed}
use Rattle.line_stop.specs.declared.Begun.{Begun}
use Rattle.line_stop.specs.FirstBad.{FirstBad, WithCrlf}
use Rattle.line_stop.specs.Scanner.{Scanner, stop_from}
use Rattle.line_stop.specs.CharScan.{between}
use Rattle.line_stop.specs.Product.{both}
use Rattle.header_stop.specs.declared.Form.{Form}
use Rattle.header_stop.specs.declared.Form.TheVariants.{Start, Name, Body, Bad}

-- "the first byte at which .. the line, its CRLF with it, stops being a beginning of any well-formed line at that number. If no byte
-- does that, it is the line's end." `first`: at the number 0. s is the header from the line on.
abbrev pub LineStop : Bool → List ℕ → ℕ → Type 0
LineStop first s n = FirstBad (WithCrlf (λ line. T (well_formed first line))) s n

-- ---- the form of a line

abbrev pub name_more : ℕ → Form
name_more zero = Bad
name_more (suc k) = Name k

unfoldable pub start_step : Bool → ℕ → Form
start_step first b = cond (blank b && not first) Body (cond (name_byte b) (Name 75) Bad)

unfoldable pub name_step : ℕ → ℕ → Form
name_step k b = cond (name_byte b) (name_more k) (cond (eqb b 58) Body Bad)

unfoldable pub body_step : ℕ → Form
body_step b = cond (line_byte b) Body Bad

abbrev pub form_step : Form → ℕ → Form
form_step (Start first) b = start_step first b
form_step (Name k) b = name_step k b
form_step Body b = body_step b
form_step Bad b = Bad

abbrev pub is_body : Form → Bool
is_body (Start first) = false
is_body (Name k) = false
is_body Body = true
is_body Bad = false

abbrev pub not_bad : Form → Bool
not_bad (Start first) = true
not_bad (Name k) = true
not_bad Body = true
not_bad Bad = false

-- the fewest bytes that complete a form: `a:` or a blank, a colon, none
abbrev pub form_need : Form → ℕ
form_need (Start first) = cond first 2 1
form_need (Name k) = 1
form_need Body = 0
form_need Bad = 0

abbrev pub form : Scanner Form
form = record { step = form_step; done = is_body; live = not_bad; need = form_need }

abbrev pub State : Type 0
State = Begun × Form

abbrev pub start : Bool → State
start first = (between, Start first)

abbrev pub scanner : Scanner State
scanner = both form

-- the scan of a header line
unfoldable pub line_stop : Bool → List ℕ → ℕ
line_stop first s = stop_from scanner 998 0 (start first) s
