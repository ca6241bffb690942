use Rattle.address_pieces.proofs.WritingLaws.{copy_added, copy_none}
use Rattle.address_pieces.specs.AddressField.{adds_copy}
use Rattle.rules.specs.declared.Rules.{Rules}
use native.Mathlib.Omega.{arith}
use mathlib.Core.Bool.{true}
use mathlib.Core.Logic.{⊎_elim}
use mathlib.Core.Path.{◌≡◌, ap}
use Rattle.address_pieces.proofs.add_copy.Goals as goal

pub returns-in-Spool : goal.returns-in-Spool
returns-in-Spool c = let adds : adds_copy c.args.rules ≡ true = ⊎_elim (λ e. rw e) (λ e. rw e) c.in-Spool.is in copy_added _ _ _ c.requires adds c.add_encoded.ensures

pub returns-in-Mailbox : goal.returns-in-Mailbox
returns-in-Mailbox c = copy_none _ _ _ _ _ (ap (λ (r : Rules). adds_copy r) c.in-Mailbox.is) (omega arith)
