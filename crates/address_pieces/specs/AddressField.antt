-- What an address field becomes.
use Rattle.std.specs.Prelude.{Bool, true, false, cond, List, [], ◌++◌, ℕ}
use Rattle.rules.specs.declared.Rules.{Rules}
use Rattle.rules.specs.declared.Rules.TheVariants.{Spool, Current, Mailbox}
use Rattle.piece.specs.Piece.{fitting as fitting_scratch}
use Rattle.encoded_word.specs.Segments.{Segment}
use Rattle.field.specs.Field.{encoded_field, named}
use Rattle.address_list.specs.Parts.{parts_of}
use Rattle.group.specs.Group.{turns_of}
use Rattle.address_list.specs.Table.{examined}
use Rattle.address_list.specs.declared.Examined.{Examined}
use Rattle.address_list.specs.declared.Examined.TheVariants.{DoesNotFit, Kept, Changed}
use Rattle.address_pieces.specs.Pieces.{pieces_of}

-- the field with its value rewritten
unfoldable pub rewritten_field : Rules → List ℕ → List ℕ → List Segment
rewritten_field rules name text = named name (pieces_of rules (turns_of (parts_of rules text)))

-- for a mailbox "no copies of address fields are added"
abbrev pub adds_copy : Rules → Bool
adds_copy Spool = true
adds_copy Current = true
adds_copy Mailbox = false

-- the copy: "a `Downgraded-` field with encoded words of the original text"
unfoldable pub copy_of : Rules → List ℕ → List ℕ → List Segment
copy_of rules name text = cond (adds_copy rules) (encoded_field true name text) []

-- "Text that does not fit is encapsulated." "If any address was replaced or removed", the copy "follows the rewritten field".
unfoldable pub field_by : Examined → Rules → List ℕ → List ℕ → List Segment
field_by DoesNotFit rules name text = encoded_field true name text
field_by Kept rules name text = rewritten_field rules name text
field_by Changed rules name text = rewritten_field rules name text ++ copy_of rules name text

-- the segments of an address field whose value is not ASCII, by its name and text
unfoldable pub address_field : Rules → List ℕ → List ℕ → List Segment
address_field rules name text = field_by (examined rules text) rules name text

-- a text that a scratch with so much room cannot serve counts as empty
abbrev pub fitting : ℕ → List ℕ → List ℕ
fitting room text = fitting_scratch room text
