-- The rules of a message: which setting means which, what they allow, and the fixed words that they write. The base knows the spool's; current
-- messages are those of change request 13, mailboxes those of 12.
use Rattle.std.specs.Prelude.{Bool, true, false, List, [], ◌∷◌, ℕ, zero, suc}
use Rattle.letter_case.specs.LetterCase.{bytes}
use Rattle.rules.specs.declared.Rules.{Rules}
use Rattle.rules.specs.declared.Rules.TheVariants.{Spool, Current, Mailbox}

-- "The caller says by a number whether a message is from the spool (0), treated as today, or current (any other)."
unfoldable pub setting_rules : ℕ → Rules
setting_rules zero = Spool
setting_rules (suc n) = Current

-- an address may have an alternative, `ALT-ADDRESS` beside a path or `<address <ASCII address>>` in a field: in a message from the spool only
abbrev pub allows_alternative : Rules → Bool
allows_alternative Spool = true
allows_alternative Current = false
allows_alternative Mailbox = false

-- the pieces before the encoded words of an address that is removed: "`Internationalized Address`"; none in a mailbox
unfoldable pub removal_start : Rules → List (List ℕ)
removal_start Spool = bytes "Internationalized Address" ∷ []
removal_start Current = bytes "Internationalized Address" ∷ []
removal_start Mailbox = []

-- the piece after them: "`Removed:;`"; in a mailbox "`:;`"
unfoldable pub removal_end : Rules → List ℕ
removal_end Spool = bytes "Removed:;"
removal_end Current = bytes "Removed:;"
removal_end Mailbox = bytes ":;"
