-- The named fields and their kinds.
use Rattle.std.specs.Prelude.{Bool, false, cond, ◌||◌, List, [], ◌∷◌, ℕ}
use Prim.Native.String.{String}
use Rattle.letter_case.specs.LetterCase.{bytes, same_any_case}
use Rattle.header_name.specs.declared.Kind.{Kind}
use Rattle.header_name.specs.declared.Kind.TheVariants.{Address, PlainText, Received, Commented, MessageId, Parameterized, Held, OtherCommented, Other}

-- Groups of names, each with its kind. "Address: From, Sender, Reply-To, To, Cc, Bcc, the same six after `Resent-`, Return-Path,
-- Disposition-Notification-To. Plain text: Subject, Comments, Content-Description. Held: Received, Date, Resent-Date, Message-ID,
-- Resent-Message-ID, In-Reply-To, References, MIME-Version, Content-Type, Content-ID, Content-Disposition, Content-Transfer-Encoding,
-- Original-Recipient, Final-Recipient, Keywords.", the held ones by the grammar of their values: trace, comments, identifiers with comments
-- ("Message-ID to References in document 01's list"), parameters, any other
unfoldable pub groups : List (Kind × List String)
groups =
    (Address, "From" ∷ "Sender" ∷ "Reply-To" ∷ "To" ∷ "Cc" ∷ "Bcc" ∷ [])
    ∷ (Address, "Resent-From" ∷ "Resent-Sender" ∷ "Resent-Reply-To" ∷ "Resent-To" ∷ "Resent-Cc" ∷ "Resent-Bcc" ∷ [])
    ∷ (Address, "Return-Path" ∷ "Disposition-Notification-To" ∷ [])
    ∷ (PlainText, "Subject" ∷ "Comments" ∷ "Content-Description" ∷ [])
    ∷ (Received, "Received" ∷ [])
    ∷ (Commented, "Date" ∷ "Resent-Date" ∷ [])
    ∷ (MessageId, "Message-ID" ∷ "Resent-Message-ID" ∷ "In-Reply-To" ∷ "References" ∷ [])
    ∷ (Commented, "MIME-Version" ∷ "Content-ID" ∷ "Content-Transfer-Encoding" ∷ [])
    ∷ (Parameterized, "Content-Type" ∷ "Content-Disposition" ∷ [])
    ∷ (Held, "Original-Recipient" ∷ "Final-Recipient" ∷ "Keywords" ∷ [])
    ∷ []

-- whether a name is one of these: "Names compare without regard to letter case"
unfoldable pub among : List String → List ℕ → Bool
among [] name = false
among (n ∷ names) name = same_any_case (bytes n) name || among names name

-- the "names outside document 01's lists" that RFC 6857 lists for comments (3.2.2)
unfoldable pub other_commented : List String
other_commented = "Content-Language" ∷ "Accept-Language" ∷ "Auto-Submitted" ∷ []

-- "Every other name"
unfoldable pub other_kind : List ℕ → Kind
other_kind name = cond (among other_commented name) OtherCommented Other

-- the kind of the group that a name is in
unfoldable pub kind_among : List (Kind × List String) → List ℕ → Kind
kind_among [] name = other_kind name
kind_among ((kind, names) ∷ more) name = cond (among names name) kind (kind_among more name)

-- the kind of a name
unfoldable pub kind_of : List ℕ → Kind
kind_of name = kind_among groups name
