-- What an address field becomes, by the paper's grammar: rules that make texts together with the pieces that they become. "The text
-- must be a comma list of mailboxes or groups"; "The rewritten value is a row of pieces". AddressFieldLaws.antt proves that code
-- writes just these pieces.
--
-- A form's indices are its text, its pieces and, as far as it has them, `lost`: it has "a non-ASCII address without an alternative"; and
-- `changed`: "any address was replaced or removed". A comma is 44, `:` 58, `;` 59, `<` 60, `>` 62.
use Rattle.std.specs.Prelude.{Bool, true, false, not, ◌||◌, List, [], ◌∷◌, ◌++◌, map, ℕ, T}
use Rattle.lists.specs.Byte.{is_ascii}
use Rattle.lists.specs.Lists.{all}
use Rattle.line.specs.Line.{blank as is_blank}
use Rattle.comment.specs.Grammar.{Comment}
use Rattle.comment.specs.Parts.{parts, fits}
use Rattle.unquote.specs.Unquote.{unquoted}
use Rattle.rules.specs.Rules.{allows_alternative}
use Rattle.rules.specs.declared.Rules.{Rules}
use Rattle.encoded_word.specs.Segments.{Segment}
use Rattle.encoded_word.specs.Segments.Segment.{raw, words}
use Rattle.field.specs.Field.{encoded_field, named as named_field}
use Rattle.piece.specs.Piece.{piece}
use Rattle.piece.specs.CommentPieces.{comment_pieces}
use Rattle.group.specs.Trimmed.{trimmed}
use Rattle.address_pieces.specs.Pieces.{removed, in_angles, address_pieces}
use Rattle.address_pieces.specs.AddressField.{copy_of}
use Rattle.address_grammar.specs.PartTexts.{WordText, AddressText, Blanks, SomeBlanks}

-- "runs of spaces and TABs", and comments "wherever spaces may stand", perhaps none. In a comment every run "over 900 bytes" is one "of
-- spaces and TABs only". Blanks are not written.
pub data Gap : List ℕ → List Segment → Type 0 where
  none : Gap [] []
  blank : {b : ℕ} {more : List ℕ} {p : List Segment} → T (is_blank b) → Gap more p → Gap (b ∷ more) p
  comment : {c more : List ℕ} {p : List Segment} → Comment c → T (all fits (parts c)) → Gap more p → Gap (c ++ more) (comment_pieces c ++ p)

-- "A phrase is words parted by one or more spaces or TABs": a text, its words, and "its words without quoting and escapes, joined by
-- single spaces". A space is 32.
pub data Words : List ℕ → List (List ℕ) → List ℕ → Type 0 where
  one : {w : List ℕ} → WordText w → Words w (w ∷ []) (unquoted w)
  then : {w gap more meant : List ℕ} {ws : List (List ℕ)} → WordText w → SomeBlanks gap → Words more ws meant → Words (w ++ (gap ++ more)) (w ∷ ws) (unquoted w ++ (32 ∷ meant))

-- "ASCII phrase: each word as it stands, a piece each. Other phrase: encoded words of its words without quoting and escapes, joined by
-- single spaces."
pub data Phrase : List ℕ → List Segment → Type 0 where
  ascii : {t meant : List ℕ} {ws : List (List ℕ)} → Words t ws meant → T (all is_ascii t) → Phrase t (map piece ws)
  other : {t meant : List ℕ} {ws : List (List ℕ)} → Words t ws meant → T (not (all is_ascii t)) → Phrase t (words meant ∷ [])

-- "`<address>`, or with an alternative `<address <ASCII address>>`, the first non-ASCII, at least one space or TAB between", where the
-- rules allow it; "an alternative replaces the first"
pub data InAngles (rules : Rules) : List ℕ → List Segment → Bool → Bool → Type 0 where
  sole : (gap : List ℕ) {a : List ℕ} → Blanks gap → AddressText a
      → InAngles rules (60 ∷ (gap ++ (a ++ (62 ∷ [])))) (address_pieces rules in_angles a) (not (all is_ascii a)) (not (all is_ascii a))
  alternative : (gap gap₂ : List ℕ) {a between b : List ℕ} → T (allows_alternative rules) → Blanks gap → AddressText a → T (not (all is_ascii a)) → SomeBlanks between
      → Blanks gap₂ → AddressText b → T (all is_ascii b)
      → InAngles rules (60 ∷ (gap ++ (a ++ (between ++ (60 ∷ (gap₂ ++ (b ++ (62 ∷ 62 ∷ [])))))))) (in_angles b ∷ []) false true

-- "A mailbox is a bare address, or an optional phrase and `<address>`, or with an alternative", and the gap after it
pub data Mailbox (rules : Rules) : List ℕ → List Segment → Bool → Bool → Type 0 where
  bare : {a g : List ℕ} {p : List Segment} → AddressText a → Gap g p → Mailbox rules (a ++ g) (address_pieces rules piece a ++ p) (not (all is_ascii a)) (not (all is_ascii a))
  angled : {a g : List ℕ} {p q : List Segment} {lost changed : Bool} → InAngles rules a p lost changed → Gap g q → Mailbox rules (a ++ g) (p ++ q) lost changed
  named : {f g a h : List ℕ} {p q r s : List Segment} {lost changed : Bool} → Phrase f p → Gap g q → InAngles rules a r lost changed → Gap h s
      → Mailbox rules (f ++ (g ++ (a ++ h))) (p ++ (q ++ (r ++ s))) lost changed

-- mailboxes with commas between them. "A comma joins the end of the piece before it."
pub data Mailboxes (rules : Rules) : List ℕ → List Segment → Bool → Bool → Type 0 where
  one : {m : List ℕ} {p : List Segment} {lost changed : Bool} → Mailbox rules m p lost changed → Mailboxes rules m p lost changed
  then : {ms g m : List ℕ} {p q r : List Segment} {lost changed l c : Bool} → Mailboxes rules ms p lost changed → Gap g q → Mailbox rules m r l c
      → Mailboxes rules (ms ++ (44 ∷ (g ++ m))) (p ++ (raw (44 ∷ []) ∷ (q ++ r))) (lost || l) (changed || c)

-- what stands between the colon and the semicolon of a group: "mailboxes .., perhaps none"
pub data Members (rules : Rules) : List ℕ → List Segment → Bool → Bool → Type 0 where
  none : {g : List ℕ} {p : List Segment} → Gap g p → Members rules g p false false
  some : {g ms : List ℕ} {p q : List Segment} {lost changed : Bool} → Gap g p → Mailboxes rules ms q lost changed → Members rules (g ++ ms) (p ++ q) lost changed

-- "mailboxes or groups (`phrase : mailboxes ;`, perhaps none)". "`:` and `;` of a group are pieces." "If any member of a group has a
-- non-ASCII address without an alternative, the whole group becomes the pieces before its colon, `Internationalized Address`, encoded
-- words of everything between its colon and semicolon (spaces and TABs at both ends dropped), `Removed:;`."
pub data Item (rules : Rules) : List ℕ → List Segment → Bool → Type 0 where
  mailbox : {m : List ℕ} {p : List Segment} {lost changed : Bool} → Mailbox rules m p lost changed → Item rules m p changed
  group : {f g m h : List ℕ} {p q r s : List Segment} {changed : Bool} → Phrase f p → Gap g q → Members rules m r false changed → Gap h s
      → Item rules (f ++ (g ++ (58 ∷ (m ++ (59 ∷ h))))) (p ++ (q ++ (piece (58 ∷ []) ∷ (r ++ (piece (59 ∷ []) ∷ s))))) changed
  lost_group : {f g m h : List ℕ} {p q r s : List Segment} {changed : Bool} → Phrase f p → Gap g q → Members rules m r true changed → Gap h s
      → Item rules (f ++ (g ++ (58 ∷ (m ++ (59 ∷ h))))) (p ++ (q ++ (removed rules (trimmed m) ++ s))) changed

-- "a comma list"
pub data Items (rules : Rules) : List ℕ → List Segment → Bool → Type 0 where
  one : {i : List ℕ} {p : List Segment} {changed : Bool} → Item rules i p changed → Items rules i p changed
  then : {i g is : List ℕ} {p q r : List Segment} {c changed : Bool} → Item rules i p c → Gap g q → Items rules is r changed
      → Items rules (i ++ (44 ∷ (g ++ is))) (p ++ (raw (44 ∷ []) ∷ (q ++ r))) (c || changed)

-- comments "at the start of an address list", and the list
pub data ListText (rules : Rules) : List ℕ → List Segment → Bool → Type 0 where
  list : {g is : List ℕ} {p q : List Segment} {changed : Bool} → Gap g p → Items rules is q changed → ListText rules (g ++ is) (p ++ q) changed

-- What a field with this name and text becomes. "If any address was replaced or removed, a `Downgraded-` field with encoded words of
-- the original text follows the rewritten field.", for a mailbox none. "Text that does not fit is encapsulated."
pub data AddressField (rules : Rules) (name text : List ℕ) : List Segment → Type 0 where
  none_replaced : {pieces : List Segment} → ListText rules text pieces false → AddressField rules name text (named_field name pieces)
  some_replaced : {pieces : List Segment} → ListText rules text pieces true → AddressField rules name text (named_field name pieces ++ copy_of rules name text)
  encapsulated : ((pieces : List Segment) (c : Bool) → ListText rules text pieces c → ⊥) → AddressField rules name text (encoded_field true name text)
