-- Laws of what a structured field becomes: it is sound, how long it can be, and its writing part by part.
use Rattle.std.specs.Prelude.{Bool, true, List, [], ◌∷◌, ◌++◌, map, ℕ, ◌+◌, ◌*◌, ◌≤◌, ◌<◌, T, length}
use Rattle.std.proofs.Common.{append-nil, arith, length-append}
use Rattle.std.proofs.Math.Facts.{yes_and}
use Rattle.lists.specs.Byte.{is_ascii}
use Rattle.lists.specs.CutByLaws.{cut_some}
use Rattle.lists.specs.Lists.{all, joined}
use Rattle.lists.specs.ListsLaws.{cond_has, no_false}
use Rattle.utf8.specs.Utf8.{utf8}
use Rattle.row.proofs.RowLaws.{length_row_le}
use Rattle.encoded_word.specs.Segments.{Segment, rendered, sound}
use Rattle.encoded_word.specs.Segments.Segment.{raw, words}
use Rattle.field.proofs.FieldLaws.{named_sound, length_named}
use Rattle.comment.specs.Parts.{part_len, parts, run_text}
use Rattle.comment.proofs.PartsLaws.{parts_joined}
use Rattle.comment.proofs.BoundaryLaws.{parts_utf8, run_text_utf8, length_run_text}
use Rattle.encoded_word.specs.MappedLaws.{mapped_le, mapped_sound}
use Rattle.structured_token.specs.declared.Kind.{Kind}
use Rattle.structured_token.specs.Tokens.{comment_kind}
use Rattle.structured_token.specs.Grammar.{TokenRule}
use Rattle.structured_token.proofs.BoundaryLaws.{token_both}
use Rattle.structured_field.proofs.GrammarLaws.{from_rule, value_made}
use Rattle.structured_field.specs.Grammar.{StructuredRule}
use Rattle.structured_field.specs.StructuredField.{part_segments, clear, becomes, ascii_outside_comments, value_segments, structured_field}
use Rattle.structured_field.proofs.ValueLaws.{RuleSound, value_sound, RuleShort, value_le}

-- ---- soundness

part_sound : (part : List ℕ) → T (utf8 part) → T (all sound (part_segments part))
unfolding part_segments
part_sound part h =
    cond_has (λ (ss : List Segment). T (all sound ss)) (all is_ascii part) (raw part ∷ []) (words (run_text part) ∷ raw (13 ∷ 10 ∷ 32 ∷ []) ∷ [])
    (λ t. yes_and (all is_ascii part) true t tt)
    (λ t. yes_and (utf8 (run_text part)) true (run_text_utf8 part h) tt)

pub comment_sound : (comment : List ℕ) → T (utf8 comment) → T (all sound (joined (map part_segments (parts comment))))
comment_sound comment h = mapped_sound part_segments utf8 part_sound (parts comment) (parts_utf8 comment h)

pub token_sound : (what : Kind) (token : List ℕ) → T (clear what token) → T (utf8 token) → T (all sound (becomes what token))
unfolding clear becomes
token_sound what token c u =
    cond_has (λ (ss : List Segment). T (all sound ss)) (comment_kind what) (joined (map part_segments (parts token))) (raw token ∷ [])
    (λ t. comment_sound token u)
    (λ t. yes_and (all is_ascii token) true (rw (no_false (comment_kind what) t) at c) tt)

pub rule_sound : RuleSound StructuredRule
rule_sound = record { part_sound = λ r u. go (from_rule r) u }
  where
    go : {comments on : Bool} {t more : List ℕ} {p : List Segment} → TokenRule clear becomes comments t more p on → T (utf8 (t ++ more)) → T (all sound p) × T (utf8 more)
    go (TokenRule.token {what = what} {t = t} m c) u = let both = token_both m u in (token_sound what t c both.0, both.1)

-- what is written where no non-ASCII stands outside comments is sound
pub structured_sound : (name value : List ℕ) → T (all is_ascii name) → T (utf8 value) → T (ascii_outside_comments value) → T (all sound (structured_field name value))
unfolding structured_field
structured_sound name value a u q = named_sound name (value_segments value) a (value_sound StructuredRule rule_sound (value_made value q) u)

-- ---- how long it can be

part_le : (part : List ℕ) → 0 < length part → length (rendered (part_segments part)) ≤ 23 * length part
unfolding part_segments rendered
part_le part h =
    cond_has (λ (ss : List Segment). length (rendered ss) ≤ 23 * length part) (all is_ascii part) (raw part ∷ []) (words (run_text part) ∷ raw (13 ∷ 10 ∷ 32 ∷ []) ∷ [])
    (λ t. rw append-nil (omega arith))
    (λ t. rw length-append (omega (arith, length_row_le (run_text part), length_run_text part)))

pub comment_le : (comment : List ℕ) → length (rendered (joined (map part_segments (parts comment)))) ≤ 23 * length comment
unfolding parts
comment_le comment = rw (parts_joined comment) at (mapped_le part_segments 23 part_le (parts comment) (cut_some part_len comment))

pub token_le : (what : Kind) (token : List ℕ) → length (rendered (becomes what token)) ≤ 23 * length token
unfolding becomes rendered
token_le what token =
    cond_has (λ (ss : List Segment). length (rendered ss) ≤ 23 * length token) (comment_kind what) (joined (map part_segments (parts token))) (raw token ∷ [])
    (λ t. comment_le token)
    (λ t. rw append-nil (omega arith))

pub rule_short : RuleShort StructuredRule 23
rule_short = record { part_short = λ r. go (from_rule r) }
  where
    go : {comments on : Bool} {t more : List ℕ} {p : List Segment} → TokenRule clear becomes comments t more p on → length (rendered p) ≤ 23 * length t
    go (TokenRule.token {what = what} {t = t} m c) = token_le what t

pub length_structured : (name value : List ℕ) → T (ascii_outside_comments value) → length (rendered (structured_field name value)) ≤ 3 + length name + 23 * length value
unfolding structured_field
length_structured name value q = rw (length_named name (value_segments value)) (omega (arith, value_le StructuredRule rule_short (value_made value q)))
