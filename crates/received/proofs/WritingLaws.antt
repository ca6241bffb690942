-- The writing of a Received field, step by step.
use Rattle.std.specs.Prelude.{◌≡◌, List, [], ◌∷◌, map, ℕ, ◌-◌, ◌*◌, ◌≤◌, length, take, drop}
use Rattle.std.proofs.Common.{arith, length-take, length-drop}
use Rattle.lists.specs.Lists.{joined}
use Rattle.buffer.specs.Buffer.{AppendedCapped, greatest}
use Rattle.buffer.specs.BufferLaws.{capped_none, capped_same}
use Rattle.encoded_word.specs.Segments.{rendered}
use Rattle.field.proofs.FieldLaws.{named_added}
use Rattle.comment.specs.Parts.{parts}
use Rattle.piece.specs.Piece.{fitting}
use Rattle.piece.proofs.PieceLaws.{fitting_short}
use Rattle.structured_field.specs.StructuredField.{part_segments}
use Rattle.received_token.specs.declared.ReceivedKind.{ReceivedKind}
use Rattle.received_token.specs.declared.ReceivedKind.TheVariants.{Comment}
use Rattle.received.specs.Received.{becomes, value_segments, received_field}
use Rattle.received.specs.TokenLaws.{bytes_comment}

-- a comment that the scratch serves
pub token_comment : (what : ReceivedKind) (token : List ℕ) (room : ℕ) {before after : List ℕ} {at r : ℕ} → (length token ≤ 32768) × (2 * length token ≤ room) → what ≡ Comment
    → AppendedCapped (rendered (joined (map part_segments (parts (fitting room token))))) at before after r → AppendedCapped (rendered (becomes what token)) at before after r
token_comment what token room h e a = capped_same (bytes_comment what token e) (rw (fitting_short room token h.0 h.1) at a)

-- a clause that is removed
pub token_removed : {bytes : List ℕ} (before : List ℕ) (at : ℕ) → [] ≡ bytes → at ≤ greatest → AppendedCapped bytes at before before at
token_removed before at e h = capped_same e (capped_none at before h)
