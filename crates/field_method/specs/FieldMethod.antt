-- How a field whose value is not ASCII is downgraded, by the rules and the kind of its name.
use Rattle.rules.specs.declared.Rules.{Rules}
use Rattle.rules.specs.declared.Rules.TheVariants.{Spool, Current, Mailbox}
use Rattle.header_name.specs.declared.Kind.{Kind}
use Rattle.header_name.specs.declared.Kind.TheVariants.{Address, PlainText as PlainTextKind, Received as ReceivedKind, Commented, MessageId, Parameterized, Held as HeldKind, OtherCommented, Other}
use Rattle.field_method.specs.declared.Method.{Method}
use Rattle.field_method.specs.declared.Method.TheVariants.{Pieces, PlainText, Encapsulated, Received, CommentsOrHeld, CommentsOrEncapsulated, Parameters, Held}

-- the first in the relay, the second in a mailbox
abbrev pub by_profile : Rules → Method → Method → Method
by_profile Spool relay mailbox = relay
by_profile Current relay mailbox = relay
by_profile Mailbox relay mailbox = mailbox

-- In the relay "Every other name is encapsulated", and Date to MIME-Version in document 01's list "are held only if non-ASCII stands
-- outside their comments". In a mailbox "Message-ID to References in document 01's list are encapsulated if non-ASCII stands outside
-- comments" and "names outside document 01's lists go as Date if RFC 6857 lists them for comments, else as plain text"; "Every other held
-- name stays held".
unfoldable pub method_of : Rules → Kind → Method
method_of rules Address = Pieces
method_of rules PlainTextKind = PlainText
method_of rules ReceivedKind = Received
method_of rules Commented = CommentsOrHeld
method_of rules MessageId = by_profile rules CommentsOrHeld CommentsOrEncapsulated
method_of rules Parameterized = Parameters
method_of rules HeldKind = Held
method_of rules OtherCommented = by_profile rules Encapsulated CommentsOrHeld
method_of rules Other = by_profile rules Encapsulated PlainText
