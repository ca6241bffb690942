-- Laws of the byte that a refusal points to, as code finds it.
use Rattle.std.specs.Prelude.{◌≡◌, Bool, List, eqb, leb, take, drop}
use Rattle.std.proofs.Math.Path.{refl}
use Rattle.std.proofs.Common.{sym, ◌∙◌, arith, not-suc-le-zero, take_all, drop-drop}
use Prim.Native.Nat.{ℕ, zero, suc, ◌+◌, ◌-◌, ◌≤◌, ◌<◌, min}
use Rattle.std.proofs.Math.ListN.{length, length-drop, length-take}
use Rattle.std.proofs.Math.Facts.{leb_yes, leb_no}
use Rattle.lists.specs.Byte.{is_ascii}
use Rattle.lists.specs.ListsLaws.{by_test}
use Rattle.lists.specs.Run.{run}
use Rattle.buffer.specs.Buffer.{greatest}
use Rattle.line.specs.Line.{line_len}
use Rattle.parameter.specs.Parameter.{not_space, params, keyword_len, alt, alt_place}
use Rattle.parameter.specs.ParameterLaws.{param_part, alt_from, alt_there}
use Rattle.envelope_line.specs.EnvelopeLine.{verb_len, tail}
use Rattle.envelope_line.specs.declared.Fault.{Fault}
use Rattle.envelope_line.specs.declared.Fault.TheVariants.{Malformed, NoAlternative, BadAlternative, RetiredAlternative}
use Rattle.envelope.specs.Envelope.{line_text}
use Rattle.header_stop.specs.HeaderStop.{line_stop as header_stop}
use Rattle.header_stop.specs.HeaderStopLaws.{line_stop_lem}
use Rattle.envelope_stop.specs.EnvelopeStopLaws.{line_stop_lem as envelope_line_stop}
use Rattle.offset.specs.Offset.{front_line, line_start, before, path_byte, alt_value_byte, orcpt_byte, line_at, fault_byte, fault_offset, orcpt_offset, header_line_offset}

-- ---- lines

-- the line at a place, as code lends it
pub front_part : (s : List ℕ) (at end to : ℕ) → end ≡ at + line_len (drop at s) → to ≡ min (end + 2) greatest → length s ≤ greatest
    → take (to - at) (drop at s) ≡ front_line (drop at s)
unfolding front_line
front_part s at end to d c g =
    by_test (leb (end + 2) greatest)
    (λ t. let k : to - at ≡ line_len (drop at s) + 2 = omega (arith, leb_yes {a = end + 2} {b = greatest} t) in rw k)
    (λ t.
    let k : length (drop at s) ≤ to - at = rw (length-drop at s) (omega (arith, leb_no {a = end + 2} {b = greatest} t)) in
    let m : length (drop at s) ≤ line_len (drop at s) + 2 = rw (length-drop at s) (omega (arith, leb_no {a = end + 2} {b = greatest} t)) in
    take_all (to - at) (drop at s) k ∙ sym (take_all (line_len (drop at s) + 2) (drop at s) m))

-- a line without its CRLF
pub text_part : (line : List ℕ) (end : ℕ) → end ≡ 0 + line_len line → take (end - 0) line ≡ line_text line
unfolding line_text
text_part line end d = let k : end - 0 ≡ line_len line = omega arith in rw k

-- it ends in the text
pub front_within : (s : List ℕ) (i : ℕ) → i ≤ length s → i + length (front_line (drop i s)) ≤ length s
unfolding front_line
front_within s i h = rw (length-take (line_len (drop i s) + 2) (drop i s), length-drop i s) (omega arith)

-- line after line
pub start_next : (s : List ℕ) (i left : ℕ) → 0 < left
    → i + line_start left (drop i s) ≡ i + length (front_line (drop i s)) + line_start (left - 1) (drop (i + length (front_line (drop i s))) s)
unfolding line_start
start_next s i zero h = absurd (not-suc-le-zero h)
start_next s i (suc n) h =
    let size = length (front_line (drop i s)) in
    let k : suc n - 1 ≡ n = omega arith in
    rw (k, drop-drop size i s) (omega arith)

pub start_none : (s : List ℕ) (i left : ℕ) → left ≡ 0 → i + line_start left (drop i s) ≡ i
unfolding line_start
start_none s i left e = rw e (omega arith)

-- ---- bytes of an envelope line

-- a place, clipped to the line, is how many bytes stand before what follows it
pub before_rest : (line : List ℕ) (n : ℕ) → min n (length line) ≡ before line (drop n line)
before_rest line n = rw (length-drop n line) (omega arith)

pub path_byte_lem : (mail : Bool) (line : List ℕ) (n r : ℕ) → n ≡ verb_len mail → r ≡ min n (length line) → r ≡ path_byte mail line
unfolding path_byte
path_byte_lem mail line n r e c = c ∙ rw e (before_rest line (verb_len mail))

-- the same by a place in its tail
tail_rest_lem : (mail : Bool) (line : List ℕ) (start n : ℕ) → drop start line ≡ tail mail line → min (start + n) (length line) ≡ before line (drop n (tail mail line))
tail_rest_lem mail line start n e = rw (← e, drop-drop n start line) (before_rest line (start + n))

pub orcpt_byte_lem : (mail : Bool) (line : List ℕ) (start n r : ℕ) → drop start line ≡ tail mail line → n ≡ start + run is_ascii (drop start line) → r ≡ min n (length line)
    → r ≡ orcpt_byte mail line
unfolding orcpt_byte
orcpt_byte_lem mail line start n r e d c =
    let k : n ≡ start + run is_ascii (tail mail line) = rw e at d in
    rw (c, k) (tail_rest_lem mail line start (run is_ascii (tail mail line)) e)

module _ (mail : Bool) (line : List ℕ) (start place : ℕ) (e : drop start line ≡ tail mail line) (d : place ≡ start + alt_place (params (drop start line))) where
  place_is : place ≡ start + alt_place (params (tail mail line))
  place_is = rw e at d

  pub alt_byte_none : length line ≤ place → length line ≡ alt_value_byte mail line
  unfolding alt_value_byte
  alt_byte_none h =
      let ps = params (tail mail line) in
      rw (← tail_rest_lem mail line start (alt_place ps + (keyword_len (alt ps) + 2)) e) (omega (arith, place_is))

  module _ (end : ℕ) (q : end ≡ place + 1 + run not_space (drop (place + 1) line)) {p : List ℕ} (c : p ≡ take (end - (place + 1)) (drop (place + 1) line)) where
    alt_is : place < length line → alt (params (tail mail line)) ≡ p
    alt_is h = sym (c ∙ param_part line place end q ∙ rw e at (sym (alt_there (alt_from d) h)))

    pub alt_byte : place < length line → (size n m r : ℕ) → size ≡ keyword_len p → n ≡ min (place + 1 + size) greatest → m ≡ min (n + 1) greatest → r ≡ min m (length line)
        → length line ≤ greatest → r ≡ alt_value_byte mail line
    unfolding alt_value_byte
    alt_byte h size n m r z u v w g =
        let ps = params (tail mail line) in
        rw (← tail_rest_lem mail line start (alt_place ps + (keyword_len (alt ps) + 2)) e, alt_is h, ← z) (omega (arith, place_is))

-- ---- the byte lies in the line, and the line in the text

pub start_within : (n : ℕ) (s : List ℕ) → line_start n s ≤ length s
unfolding line_start front_line
start_within zero s = omega arith
start_within (suc n) s =
    let size = length (front_line s) in
    omega (arith, start_within n (drop size s), length-drop size s, length-take (line_len s + 2) s)

text_within : (line : List ℕ) → length (line_text line) ≤ length line
unfolding line_text
text_within line = omega (arith, length-take (line_len line) line)

fault_within : (fault : Fault) (n : ℕ) (line : List ℕ) → fault_byte fault n line ≤ length line
unfolding fault_byte path_byte alt_value_byte
fault_within Malformed n line = (envelope_line_stop n line).inside
fault_within NoAlternative n line = omega (arith, text_within line)
fault_within BadAlternative n line = omega (arith, text_within line)
fault_within RetiredAlternative n line = omega (arith, text_within line)

orcpt_within : (mail : Bool) (line : List ℕ) → orcpt_byte mail (line_text line) ≤ length line
unfolding orcpt_byte
orcpt_within mail line = omega (arith, text_within line)

-- ---- by refusal, as code finds it

module _ (e : List ℕ) (n at : ℕ) (d : at ≡ line_start n e) {line : List ℕ} (l : line ≡ front_line (drop at e)) where
  line_there : line ≡ line_at n e
  unfolding line_at
  line_there = rw d at l

  line_inside : at + length line ≤ length e
  line_inside = rw l (front_within e at (rw d (start_within n e)))

  module _ (fault : Fault) (r : ℕ) (q : r ≡ fault_byte fault n line) where
    pub fault_inside : at + r ≤ length e
    fault_inside = omega (arith, line_inside, q, fault_within fault n line)

    pub fault_offset_lem : at + r ≡ fault_offset e fault n
    unfolding fault_offset
    fault_offset_lem = rw (q, line_there, d)

  module _ {text : List ℕ} (t : text ≡ line_text line) (r : ℕ) (q : r ≡ orcpt_byte (eqb n 0) text) where
    pub orcpt_inside : at + r ≤ length e
    orcpt_inside = omega (arith, line_inside, rw t at q, orcpt_within (eqb n 0) line)

    pub orcpt_offset_lem : at + r ≡ orcpt_offset e n
    unfolding orcpt_offset
    orcpt_offset_lem = rw (q, t, line_there, d)

module _ (h : List ℕ) (n at : ℕ) {line : List ℕ} (l : line ≡ front_line (drop at h)) (r : ℕ) (q : r ≡ 0 + header_stop (eqb n 0) line) where
  pub header_line_offset_lem : at + r ≡ header_line_offset h n at
  unfolding header_line_offset
  header_line_offset_lem = rw (q, l) (omega arith)

  pub header_line_fits : at ≤ greatest → length h ≤ greatest → at + r ≤ greatest
  unfolding front_line
  header_line_fits a g =
      let size : length line ≡ min (line_len (drop at h) + 2) (length h - at) = rw (l, length-take (line_len (drop at h) + 2) (drop at h), length-drop at h) refl in
      omega (arith, q, size, (line_stop_lem (eqb n 0) line).inside)
