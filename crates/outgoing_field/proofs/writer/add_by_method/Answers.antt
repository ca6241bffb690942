use mathlib.Core.Path.{ap}
use native.Mathlib.Omega.{arith}
use Rattle.received.specs.Received.{received_field}
use Rattle.structured_field.specs.StructuredField.{structured_field}
use Rattle.parameterized_field.specs.Value.{parameterized_field}
use Rattle.header.specs.FieldLaws.{name_size}
use Rattle.field_method.specs.declared.Method.{Method}
use Rattle.outgoing_field.specs.FateLaws.{needs_scratch}
use Rattle.outgoing_field.proofs.FateLaws.{method_address, method_encoded, method_made, method_comments, method_none, comments_given, plain_is, encapsulated_is, commented_is, received_is, parameters_is}
use borrow.Author.Rules.{rules}
use Rattle.outgoing_field.proofs.writer.add_by_method.Goals as goal

pub slice_bounds-name-end : goal.slice_bounds-name-end
slice_bounds-name-end c = name_size _ _ c.name_len-n.ensures

pub add_comments_or_encapsulated-requires : goal.add_comments_or_encapsulated-requires
add_comments_or_encapsulated-requires c = comments_given c.requires c.in-CommentsOrEncapsulated.is c.value-in-CommentsOrEncapsulated.ensures

pub returns-in-Pieces : goal.returns-in-Pieces
returns-in-Pieces c = method_address _ c.requires c.name_len-n.ensures c.in-Pieces.is c.add_field.ensures

pub returns-in-PlainText : goal.returns-in-PlainText
returns-in-PlainText c = method_encoded _ c.requires c.name_len-n.ensures _ (plain_is _ _ _ c.in-PlainText.is) c.add_encoded.ensures

pub returns-in-Encapsulated : goal.returns-in-Encapsulated
returns-in-Encapsulated c = method_encoded _ c.requires c.name_len-n.ensures _ (encapsulated_is _ _ _ c.in-Encapsulated.is) c.add_encoded-in-Encapsulated.ensures

pub returns-in-Received : goal.returns-in-Received
unfolding needs_scratch
returns-in-Received c = method_made _ c.requires c.name_len-n.ensures received_field (ap (λ (m : Method). needs_scratch m) c.in-Received.is) (received_is _ _ _ c.in-Received.is) c.value.ensures c.add_field-in-Received.ensures

pub returns-in-CommentsOrHeld : goal.returns-in-CommentsOrHeld
unfolding needs_scratch
returns-in-CommentsOrHeld c = method_made _ c.requires c.name_len-n.ensures structured_field (ap (λ (m : Method). needs_scratch m) c.in-CommentsOrHeld.is) (commented_is _ _ _ c.in-CommentsOrHeld.is) c.value-in-CommentsOrHeld.ensures c.add_field-in-CommentsOrHeld.ensures

pub returns-in-CommentsOrEncapsulated : goal.returns-in-CommentsOrEncapsulated
returns-in-CommentsOrEncapsulated c = method_comments _ c.requires c.name_len-n.ensures c.in-CommentsOrEncapsulated.is c.value-in-CommentsOrEncapsulated.ensures c.add_comments_or_encapsulated.ensures

pub returns-in-Parameters : goal.returns-in-Parameters
unfolding needs_scratch
returns-in-Parameters c = method_made _ c.requires c.name_len-n.ensures parameterized_field (ap (λ (m : Method). needs_scratch m) c.in-Parameters.is) (parameters_is _ _ _ c.in-Parameters.is) c.value-in-Parameters.ensures c.add_field-in-Parameters.ensures

pub returns-in-Held : goal.returns-in-Held
returns-in-Held c = method_none _ _ _ _ _ c.in-Held.is (omega arith)
