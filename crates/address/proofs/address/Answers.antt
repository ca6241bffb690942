use Rattle.std.proofs.Common.{sym, ◌∙◌, rules}
use Rattle.address.specs.AddressLaws.{address_to, address_stop}
use Rattle.address.proofs.address.Goals as goal

pub returns : goal.returns
returns c = c.at_domain.ensures ∙ sym (address_to _ _ _ (sym c.in_ok-local.was ∙ c.local.ensures))

pub returns-in_err-local : goal.returns-in_err-local
returns-in_err-local c =
    let stop = address_stop _ _ _ (sym c.in_err-local.was ∙ c.local.ensures) in
    rw stop (search rules)
