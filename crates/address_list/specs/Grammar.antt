-- "The text must be a comma list of mailboxes or groups": the grammar, as rules that make rows of parts. Blanks and comments
-- between parts are left out first. Crate address_grammar says what the bytes of each part are, and proves that a text fits exactly if it is such a
-- row.
use Rattle.std.specs.Prelude.{List, [], ◌∷◌, ◌++◌, ℕ}
use Rattle.address_list.specs.Parts.{Part}
use Rattle.address_list.specs.declared.PartKind.{PartKind}
use Rattle.address_list.specs.declared.PartKind.TheVariants.{Blank, Comment, Comma, Colon, Semicolon, Phrase, Address, Angled, Alternative, Stray}

-- "`<address>`, or with an alternative `<address <ASCII address>>`"
pub data InAngles : PartKind → Type 0 where
  address : (start size : ℕ) → InAngles (Angled start size)
  alternative : (start size : ℕ) → InAngles (Alternative start size)

-- "A mailbox is a bare address, or an optional phrase and `<address>`, or with an alternative"
pub data Mailbox : List PartKind → Type 0 where
  bare : Mailbox (Address ∷ [])
  angled : {a : PartKind} → InAngles a → Mailbox (a ∷ [])
  named : {a : PartKind} → InAngles a → Mailbox (Phrase ∷ a ∷ [])

-- mailboxes with commas between them
pub data Mailboxes : List PartKind → Type 0 where
  one : {m : List PartKind} → Mailbox m → Mailboxes m
  then : {ms m : List PartKind} → Mailboxes ms → Mailbox m → Mailboxes (ms ++ (Comma ∷ m))

-- "mailboxes or groups (`phrase : mailboxes ;`, perhaps none)"
pub data Item : List PartKind → Type 0 where
  mailbox : {m : List PartKind} → Mailbox m → Item m
  empty_group : Item (Phrase ∷ Colon ∷ Semicolon ∷ [])
  group : {ms : List PartKind} → Mailboxes ms → Item (Phrase ∷ Colon ∷ (ms ++ (Semicolon ∷ [])))

-- "a comma list"
pub data Items : List PartKind → Type 0 where
  one : {i : List PartKind} → Item i → Items i
  then : {i is : List PartKind} → Item i → Items is → Items (i ++ (Comma ∷ is))

-- "runs of spaces and TABs allowed around `, : ; <` and at the end": such a mark stands between any two parts of a list
-- (items-marked in address_grammar), so blanks may stand between any two. Comments may stand "at the start of an address list and
-- wherever spaces may stand in it outside `< >` and phrases", "spaces or TABs about them". A field's text starts with no blank.
unfoldable pub unless_gap : PartKind → List PartKind → List PartKind
unless_gap Blank ks = ks
unless_gap Comment ks = ks
unless_gap Comma ks = Comma ∷ ks
unless_gap Colon ks = Colon ∷ ks
unless_gap Semicolon ks = Semicolon ∷ ks
unless_gap Phrase ks = Phrase ∷ ks
unless_gap Address ks = Address ∷ ks
unless_gap (Angled start size) ks = Angled start size ∷ ks
unless_gap (Alternative start size) ks = Alternative start size ∷ ks
unless_gap Stray ks = Stray ∷ ks

-- the kinds of the parts that are neither blanks nor comments
unfoldable pub kinds_of : List Part → List PartKind
kinds_of [] = []
kinds_of (p ∷ ps) = unless_gap p.kind (kinds_of ps)
