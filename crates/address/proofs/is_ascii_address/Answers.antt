use Rattle.address.specs.AddressLaws.{ascii_address}
use mathlib.Core.Path.{sym, ◌∙◌}
use Rattle.address.proofs.is_ascii_address.Goals as goal

pub returns-in-Ok : goal.returns-in-Ok
returns-in-Ok c = rw c.is_ascii.ensures (ascii_address _ _ (sym c.in-Ok.is ∙ c.address.ensures))

pub returns-in-Err : goal.returns-in-Err
returns-in-Err c = ascii_address _ _ (sym c.in-Err.is ∙ c.address.ensures)
