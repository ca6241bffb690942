use Rattle.outgoing_header.proofs.HeaderOutcomeLaws.{held_absent, held_found}
use Rattle.outgoing_header.proofs.refusals.of_held.Goals as goal

pub returns-in-Ok : goal.returns-in-Ok
returns-in-Ok c = held_absent _ _ _ c.in-Ok.ensures

pub returns-in-Err : goal.returns-in-Err
returns-in-Err c = held_found _ _ _ c.in-Err.ensures c.of_field.ensures
