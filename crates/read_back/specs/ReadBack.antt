-- "On a header we wrote, given room, each Downgraded field that we added shows exactly the text we encoded in it, in order."
-- ReadBackLaws.antt proves it of what the exported calls answer and leave.
use Rattle.std.specs.Prelude.{◌≡◌, List, ◌∷◌, ◌++◌, ℕ, ◌≤◌, T, length, take}
use Rattle.rules.specs.declared.Rules.{Rules}
use Rattle.rules.specs.declared.Rules.TheVariants.{Mailbox}
use Rattle.encoded_word.specs.Segments.{Segment, rendered}
use Rattle.encoded_word.specs.Segments.Segment.{labelled}
use Rattle.header.specs.Fields.{fields_of}
use Rattle.call.specs.declared.Answer.{Answer}
use Rattle.outgoing_header.specs.declared.HeaderAnswer.{HeaderAnswer}
use Rattle.demands.specs.Downgraded.{HeaderBecomes, Downgraded}
use Rattle.downgraded_reader.specs.declared.ReadAnswer.{ReadAnswer}
use Rattle.downgraded_reader.specs.Reader.{is_downgraded}
use Rattle.reader_grammar.specs.ReaderGrammar.{downgraded_count}

-- The reader's calls over a header that is rendered of segments which are `Written` are numbered from 0 on: the first is at the header's
-- start, each other at the place after the field before. Call number k has a buffer t, answers a and leaves t'. Wherever the segments have
-- a label of a Downgraded field with the encoded words of a text, the call with the number of that field, which is how many Downgraded
-- fields stand before it, shows exactly the text. Fields of such names that came in are counted, and read like any other.
pub record ReadsBack (Written : List Segment → Type 0) (k : ℕ) (t : List ℕ) (a : ReadAnswer) (t' : List ℕ) : Type 0 where
  pub shown : (before : List Segment) (label text : List ℕ) (after : List Segment) → Written (before ++ (labelled label text ∷ after))
      → T (is_downgraded label) → k ≡ downgraded_count (fields_of (rendered before)) → length text ≤ length t
      → (a.number ≡ 0) × (a.start ≡ length (rendered before)) × (a.length ≡ length text) × (take a.length t' ≡ text)

-- of the call with rules, an envelope e and a header h, which answers r and leaves the envelope buffer b'
abbrev pub CallReadsBack : Rules → List ℕ → List ℕ → Answer → List ℕ → ℕ → List ℕ → ReadAnswer → List ℕ → Type 0
CallReadsBack rules e h r b' k t a t' = r.number ≡ 0 → ReadsBack (Downgraded rules e h (take r.envelope_len b')) k t a t'

-- of the call for a mailbox with a header h, which answers r
abbrev pub MailboxReadsBack : List ℕ → HeaderAnswer → ℕ → List ℕ → ReadAnswer → List ℕ → Type 0
MailboxReadsBack h r k t a t' = r.number ≡ 0 → ReadsBack (HeaderBecomes Mailbox h) k t a t'
