-- The byte at which an envelope line is told malformed, and the scan that finds it: the form of the line by one byte at a time, beside the
-- character that has begun. EnvelopeStopLaws.antt proves that it finds that byte.
use Rattle.std.specs.Prelude.{Bool, false, cond, ◌&&◌, List, ℕ, suc, ◌+◌, ◌-◌, T, leb, ltb, eqb}
use Rattle.envelope_line.specs.EnvelopeLine.{verb, verb_len, well_formed}
use Rattle.line_stop.specs.declared.Begun.{Begun}
use Rattle.line_stop.specs.FirstBad.{FirstBad, WithCrlf}
use Rattle.line_stop.specs.Scanner.{Scanner, stop_from}
use Rattle.line_stop.specs.CharScan.{between}
use Rattle.line_stop.specs.Product.{both}
use Rattle.line_stop.specs.Word.{is_next}
use Rattle.path_stop.specs.declared.PathForm.{PathForm}
use Rattle.path_stop.specs.declared.PathForm.TheVariants.{Start}
use Rattle.path_stop.specs.PathStop.{path_step, is_closed, path_live, path_need}
use Rattle.parameter_stop.specs.ParameterStop.{start_step, tail_step, tail_done, tail_live, tail_need}
use Rattle.envelope_stop.specs.declared.Form.{Form}
use Rattle.envelope_stop.specs.declared.Form.TheVariants.{Verb, Path, Params, Bad}

-- "any well-formed line at that number": "Lines count from 0." "One MAIL line, then 1 to 100 RCPT lines"
unfoldable pub well_formed_at : ℕ → List ℕ → Bool
well_formed_at n line = leb n 100 && well_formed (eqb n 0) line

-- "the first byte at which .. the line, its CRLF with it, stops being a beginning of any well-formed line at that number. If no byte
-- does that, it is the line's end." The line at the number n; s is the envelope from the line on.
abbrev pub LineStop : ℕ → List ℕ → ℕ → Type 0
LineStop n s m = FirstBad (WithCrlf (λ line. T (well_formed_at n line))) s m

-- ---- the form of a line

unfoldable pub verb_step : Bool → ℕ → ℕ → Form
verb_step mail n b = cond (is_next (verb mail) n b) (cond (eqb (suc n) (verb_len mail)) (Path (Start mail)) (Verb mail (suc n))) Bad

-- a path that is closed ends; parameters follow
unfoldable pub after_path : PathForm → ℕ → Form
after_path p b = cond (is_closed p) (Params (start_step b)) (Path (path_step p b))

abbrev pub form_step : Form → ℕ → Form
form_step (Verb mail n) b = verb_step mail n b
form_step (Path p) b = after_path p b
form_step (Params q) b = Params (tail_step q b)
form_step Bad b = Bad

abbrev pub form_done : Form → Bool
form_done (Verb mail n) = false
form_done (Path p) = is_closed p
form_done (Params q) = tail_done q
form_done Bad = false

abbrev pub form_live : Form → Bool
form_live (Verb mail n) = ltb n (verb_len mail)
form_live (Path p) = path_live p
form_live (Params q) = tail_live q
form_live Bad = false

-- the rest of the verb, and `>` or `a@x>`
unfoldable pub verb_need : Bool → ℕ → ℕ
verb_need mail n = verb_len mail - n + cond mail 1 4

-- the fewest bytes that complete a form
abbrev pub form_need : Form → ℕ
form_need (Verb mail n) = verb_need mail n
form_need (Path p) = path_need p
form_need (Params q) = tail_need q
form_need Bad = 0

abbrev pub form : Scanner Form
form = record { step = form_step; done = form_done; live = form_live; need = form_need }

abbrev pub State : Type 0
State = Begun × Form

abbrev pub start : Bool → State
start mail = (between, Verb mail 0)

abbrev pub scanner : Scanner State
scanner = both form

-- the scan of an envelope line at the number n
unfoldable pub line_stop : ℕ → List ℕ → ℕ
line_stop n s = cond (leb n 100) (stop_from scanner 998 0 (start (eqb n 0)) s) 0
