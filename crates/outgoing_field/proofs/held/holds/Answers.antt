use Rattle.header.specs.FieldLaws.{name_size}
use Rattle.outgoing_field.specs.Fate.{holds}
use Rattle.outgoing_field.proofs.FateLaws.{holds_commented, holds_received, holds_parameters}
use borrow.Author.Rules.{rules}
use Rattle.outgoing_field.proofs.held.holds.Goals as goal

pub slice_bounds-passes-end : goal.slice_bounds-passes-end
slice_bounds-passes-end c = name_size _ _ c.name_len-n.ensures

pub returns-in-Received : goal.returns-in-Received
returns-in-Received c = holds_received _ _ c.in-Received.is c.value.ensures c.name_len-n.ensures c.passes.ensures

pub returns-in-CommentsOrHeld : goal.returns-in-CommentsOrHeld
returns-in-CommentsOrHeld c = holds_commented _ _ c.in-CommentsOrHeld.is c.value-in-CommentsOrHeld.ensures c.ascii_outside_comments.ensures

pub returns-in-Parameters : goal.returns-in-Parameters
returns-in-Parameters c = holds_parameters _ _ c.in-Parameters.is c.requires c.value-in-Parameters.ensures c.passes-in-Parameters.ensures
