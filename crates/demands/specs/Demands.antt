-- The three demands on a call with rules, an envelope e, a header h and two buffers b and c, about its answer r and the buffers b' and c'
-- afterwards. The theorem `demands` in DemandsLaws.antt says that they hold of `outcome rules e h b c`, which the exported call's contract
-- equates, by the rules of its setting, with what the call answers and leaves.
use Rattle.std.specs.Prelude.{◌≡◌, not, List, [], ◌∷◌, ◌++◌, ℕ, suc, ◌+◌, ◌≤◌, ◌<◌, T, eqb, length, take, drop}
use Rattle.std.proofs.Math.Option.{Option}
use Rattle.lists.specs.Byte.{is_ascii}
use Rattle.lists.specs.Lists.{all}
use Rattle.lists.specs.Run.{run}
use Rattle.row.specs.Demand3.{Demand3}
use Rattle.row.specs.FieldRow.{FieldDemand3}
use Rattle.encoded_word.specs.Segments.{Segment, rendered}
use Rattle.encoded_word.specs.Segments.Segment.{words, labelled, parameter}
use Rattle.mime_parameter.specs.Pieces.{laid}
use Rattle.mime_parameter.specs.Parameter2231.{ParameterDemand}
use Rattle.envelope_line.specs.LineGrammar.{Line, LineRefused}
use Rattle.line_stop.specs.FirstBad.{MalformedAt}
use Rattle.envelope.specs.EnvelopeDemand.{WellFormedAt, Any, Ascii, EnvelopeLines}
use Rattle.header.specs.Fields.{fields_of}
use Rattle.rules.specs.declared.Rules.{Rules}
use Rattle.rules.specs.Rules.{allows_alternative}
use Rattle.call.specs.declared.Answer.{Answer}
use Rattle.demands.specs.Downgraded.{EnvelopePasses, HeaderLines, FieldsBecome, Downgraded}
use Rattle.demands.specs.HeaderGiven.{MalformedHeader, HeldHeader}

-- ---- demand 1: "Every input of bytes is taken: downgraded, or refused by one of the numbers 1 to 8 under the exact condition of
-- that number. A refusal writes to neither buffer. A success gives both lengths and touches nothing past them." "10 ..; demand 1 gains it."

-- The table "Answers by number": a number, the input that it is about (1 the envelope, 2 the header, 0 neither), a place and an offset,
-- and when they are given, by the order of the refusals: each after all before it have passed.
pub data Given (rules : Rules) (e h b c : List ℕ) : (number input place offset : ℕ) → Type 0 where
  envelope_over : 16384 < length e → Given rules e h b c 1 1 0 0
  header_over : length e ≤ 16384 → 32768 < length h → Given rules e h b c 1 2 1 0
  -- line n is malformed, or missing: "A missing line is malformed at its number"
  envelope_malformed : {n offset : ℕ} {start rest out : List ℕ} {texts : List (List ℕ)} → length e ≤ 16384 → length h ≤ 32768 → e ≡ start ++ rest
      → EnvelopeLines rules Any n start out texts → (2 ≤ n → rest ≡ [] → ⊥) → MalformedAt (WellFormedAt n) start rest offset → Given rules e h b c 2 1 n offset
  -- 3, 4 and 10
  line_refused : {n number byte : ℕ} {start line out : List ℕ} {texts : List (List ℕ)} (more : List ℕ) → length e ≤ 16384 → length h ≤ 32768 → e ≡ start ++ (line ++ (13 ∷ 10 ∷ more))
      → EnvelopeLines rules Any n start out texts → n ≤ 100 → LineRefused rules (eqb n 0) line number byte → Given rules e h b c number 1 n (length start + byte)
  header_malformed : {n offset : ℕ} {out : List ℕ} {texts : List (List ℕ)} → EnvelopePasses rules Any e h out texts → MalformedHeader h n offset → Given rules e h b c 5 2 n offset
  -- "For 6 .. the first non-ASCII byte of an ORCPT value": the first after the path, where only an ORCPT may have it
  orcpt_non_ascii : {n m : ℕ} {start line path out start_out : List ℕ} {alternative : Option (List ℕ)} {texts start_texts : List (List ℕ)} (more : List ℕ) → EnvelopePasses rules Any e h out texts → HeaderLines m h
      → e ≡ start ++ (line ++ (13 ∷ 10 ∷ more)) → EnvelopeLines rules Ascii n start start_out start_texts → (l : Line (eqb n 0) path alternative line) → (Ascii l.tail → ⊥)
      → Given rules e h b c 6 1 n (length start + (length l.front + (length path + suc (run is_ascii l.tail))))
  held_non_ascii : {m line offset : ℕ} {out : List ℕ} {texts : List (List ℕ)} → EnvelopePasses rules Ascii e h out texts → HeaderLines m h → HeldHeader rules h line offset
      → Given rules e h b c 6 2 line offset
  envelope_longer : {out : List ℕ} {segments : List Segment} → Downgraded rules e h out segments → length b < length out → Given rules e h b c 7 1 (length out) 0
  header_longer : {out : List ℕ} {segments : List Segment} → Downgraded rules e h out segments → length out ≤ length b → length c < length (rendered segments)
      → Given rules e h b c 8 2 (length (rendered segments)) 0
  none_holds : {out : List ℕ} {segments : List Segment} → Downgraded rules e h out segments → length out ≤ length b → length (rendered segments) ≤ length c → Given rules e h b c 0 0 0 0

-- so many bytes at the front of a buffer may have changed, and no other: "the bytes past each length are as before"
pub record KeptPast (len : ℕ) (before after : List ℕ) : Type 0 where
  pub inside : len ≤ length before
  pub size : length after ≡ length before
  pub past : drop len after ≡ drop len before

pub record Demand1 (rules : Rules) (e h b c : List ℕ) (r : Answer) (b' c' : List ℕ) : Type 0 where
  -- every input has an answer, and the condition of that answer holds;
  pub answered : Given rules e h b c r.number r.input r.place r.offset
  -- a condition holds for that answer alone
  pub exact : (number input place offset : ℕ) → Given rules e h b c number input place offset → (number ≡ r.number) × (input ≡ r.input) × (place ≡ r.place) × (offset ≡ r.offset)
  -- "A refusal changes no byte of either buffer and gives both lengths as 0. After 0 the bytes past each length are as before."
  pub refusal : (r.number ≡ 0 → ⊥) → (r.envelope_len ≡ 0) × (r.header_len ≡ 0)
  pub envelope_kept : KeptPast r.envelope_len b b'
  pub header_kept : KeptPast r.header_len c c'

-- ---- demand 2: "The outgoing envelope and header are those that RFC 5504 asks for, as the paper spells it out: all ASCII, each
-- field that was ASCII copied byte for byte." "Demand 2 reads so for current messages." What is written is `Downgraded`; that a
-- field whose value is ASCII is copied stands in `Becomes`.

-- for the outgoing envelope e' and header h'
pub record Demand2 (rules : Rules) (e h e' h' : List ℕ) : Type 0 where
  pub segments : List Segment
  pub downgraded : Downgraded rules e h e' segments
  pub header : h' ≡ rendered segments
  pub envelope_ascii : T (all is_ascii e')
  pub header_ascii : T (all is_ascii h')
  -- "In a current message any ALT-ADDRESS is refused": its envelope goes as it came, and it gets none of the new first
  -- fields, only what becomes of its own
  pub retired : T (not (allows_alternative rules)) → (e' ≡ e) × FieldsBecome rules (fields_of h) segments

-- ---- demand 3: "Every row of encoded words reads back, by RFC 2047, as exactly its text; each word is at most 75 characters and
-- holds whole characters; no other row in our spelling that reads back as the same text has fewer words." "Wherever a rule asks for
-- encoded words of something, that something .. is a text, and the bytes written there for it are its row. Each such occurrence
-- counts by itself."

-- Demand 3 for an outgoing header h' that is rendered of segments which are `Written`: wherever they ask for the encoded words of a text,
-- the bytes there are a row of which demand 3 holds, which `Demand3` and `FieldDemand3` state for one text and its row; and what request 7
-- promises wherever they ask for a parameter by RFC 2231, which `ParameterDemand` states for its name, the text of its value and its pieces.
pub record DemandThree (Written : List Segment → Type 0) (h' : List ℕ) : Type 0 where
  pub alone : (before : List Segment) (text : List ℕ) (after : List Segment) → Written (before ++ (words text ∷ after))
      → (row : List ℕ) × (h' ≡ rendered before ++ (row ++ rendered after)) × Demand3 text row
  -- The rows of plain text fields and of all Downgraded fields are set after a label, the name with its colon: "Demand 3 for these fields
  -- now speaks of the fewest lines of the field, among rows set as ours are".
  pub after_label : (before : List Segment) (label text : List ℕ) (after : List Segment) → Written (before ++ (labelled label text ∷ after))
      → (row : List ℕ) × (h' ≡ rendered before ++ (label ++ (row ++ rendered after))) × FieldDemand3 (length label) text row
  -- "Each converted piece has its own line, begun by one space", with a `;` between two of them (`laid`). "Reading the parts back gives the
  -- value, and no numbering from zero in parts of this same spelling .. needs fewer parts."
  pub converted : (before : List Segment) (name text : List ℕ) (after : List Segment) → Written (before ++ (parameter name text ∷ after))
      → (pieces : List (List ℕ)) × (h' ≡ rendered before ++ (laid [] pieces ++ rendered after)) × ParameterDemand name text pieces

-- ---- all three

pub record Demands (rules : Rules) (e h b c : List ℕ) (r : Answer) (b' c' : List ℕ) : Type 0 where
  pub demand_1 : Demand1 rules e h b c r b' c'
  pub demand_2 : r.number ≡ 0 → Demand2 rules e h (take r.envelope_len b') (take r.header_len c')
  pub demand_3 : r.number ≡ 0 → DemandThree (Downgraded rules e h (take r.envelope_len b')) (take r.header_len c')
