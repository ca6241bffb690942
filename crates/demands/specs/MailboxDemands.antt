-- The three demands on the call for a mailbox, with a header h and a buffer c, about its answer r and the buffer c' afterwards: by the
-- same definitions over the rules as those on a call with an envelope. MailboxDemandsLaws.antt proves that they hold of `header_outcome
-- Mailbox h c`, which the exported call's contract equates with what it answers and leaves, and of nothing else.
use Rattle.std.specs.Prelude.{◌≡◌, List, ◌∷◌, ◌++◌, ℕ, ◌≤◌, ◌<◌, T, length, take}
use Rattle.lists.specs.Byte.{is_ascii}
use Rattle.lists.specs.Lists.{all}
use Rattle.encoded_word.specs.Segments.{Segment, rendered}
use Rattle.encoded_word.specs.Segments.Segment.{words}
use Rattle.rules.specs.declared.Rules.TheVariants.{Mailbox}
use Rattle.outgoing_header.specs.declared.HeaderAnswer.{HeaderAnswer}
use Rattle.demands.specs.Downgraded.{HeaderLines, HeaderBecomes}
use Rattle.demands.specs.HeaderGiven.{MalformedHeader, HeldHeader}
use Rattle.demands.specs.ReadsBack.{ReadsBack}
use Rattle.demands.specs.Demands.{KeptPast, DemandThree}

-- ---- demand 1: "Refusals: 2, 3, 4 and 7 can't occur here." A number, a place and an offset, and when they are given.
pub data MailboxGiven (h c : List ℕ) : (number place offset : ℕ) → Type 0 where
  over : 32768 < length h → MailboxGiven h c 1 1 0
  malformed : {n offset : ℕ} → length h ≤ 32768 → MalformedHeader h n offset → MailboxGiven h c 5 n offset
  held : {m line offset : ℕ} → length h ≤ 32768 → HeaderLines m h → HeldHeader Mailbox h line offset → MailboxGiven h c 6 line offset
  longer : {segments : List Segment} → length h ≤ 32768 → HeaderBecomes Mailbox h segments → length c < length (rendered segments)
      → MailboxGiven h c 8 (length (rendered segments)) 0
  none_holds : {segments : List Segment} → length h ≤ 32768 → HeaderBecomes Mailbox h segments → length (rendered segments) ≤ length c → MailboxGiven h c 0 0 0

pub record MailboxDemand1 (h c : List ℕ) (r : HeaderAnswer) (c' : List ℕ) : Type 0 where
  -- every input has an answer, the condition of that answer holds, and a condition holds for that answer alone
  pub answered : MailboxGiven h c r.number r.place r.offset
  pub exact : (number place offset : ℕ) → MailboxGiven h c number place offset → (number ≡ r.number) × (place ≡ r.place) × (offset ≡ r.offset)
  -- a refusal changes no byte of the buffer and gives the length as 0; after 0 the bytes past the length are as before
  pub refusal : (r.number ≡ 0 → ⊥) → r.length ≡ 0
  pub kept : KeptPast r.length c c'

-- ---- demand 2: "Demand 2 reads RFC 6857 less that mapping and those fields." The outgoing header h' is what becomes of each field, all ASCII.
pub record MailboxDemand2 (h h' : List ℕ) : Type 0 where
  pub segments : List Segment
  pub becomes : HeaderBecomes Mailbox h segments
  pub header : h' ≡ rendered segments
  pub ascii : T (all is_ascii h')

-- ---- demand 3: "Demand 3 speaks of each row on its own; an encoded phrase and the row straight after it together read back as the two texts
-- joined."
pub record MailboxDemand3 (h h' : List ℕ) : Type 0 where
  pub each : DemandThree (HeaderBecomes Mailbox h) h'
  pub together : (before : List Segment) (phrase next : List ℕ) (after : List Segment) → HeaderBecomes Mailbox h (before ++ (words phrase ∷ words next ∷ after))
      → (rows : List ℕ) × (h' ≡ rendered before ++ (rows ++ rendered after)) × ReadsBack (phrase ++ next) rows

-- ---- all three

pub record MailboxDemands (h c : List ℕ) (r : HeaderAnswer) (c' : List ℕ) : Type 0 where
  pub demand_1 : MailboxDemand1 h c r c'
  pub demand_2 : r.number ≡ 0 → MailboxDemand2 h (take r.length c')
  pub demand_3 : r.number ≡ 0 → MailboxDemand3 h (take r.length c')
