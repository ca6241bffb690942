-- What a structured field becomes, and when it is held.
use Rattle.std.specs.Prelude.{Bool, true, cond, ◌||◌, List, [], ◌∷◌, map, ℕ}
use Rattle.lists.specs.Byte.{is_ascii}
use Rattle.lists.specs.Lists.{all, joined}
use Rattle.encoded_word.specs.Segments.{Segment}
use Rattle.encoded_word.specs.Segments.Segment.{raw, words}
use Rattle.field.specs.Field.{named}
use Rattle.comment.specs.Parts.{parts, run_text}
use Rattle.structured_token.specs.declared.Kind.{Kind}
use Rattle.structured_token.specs.Tokens.{comment_kind, token_front}
use Rattle.structured_token.specs.Walk.{Front, clear_all, becoming}

-- "In each comment a run of text between parentheses that has non-ASCII becomes encoded words of that run without escapes and folds, and
-- what follows a word starts a new line with a space. ASCII runs stay."
unfoldable pub part_segments : List ℕ → List Segment
part_segments part = cond (all is_ascii part) (raw part ∷ []) (words (run_text part) ∷ raw (13 ∷ 10 ∷ 32 ∷ []) ∷ [])

-- a token of a field that is not held: "held only if non-ASCII stands outside their comments"
unfoldable pub clear : Kind → List ℕ → Bool
clear what token = comment_kind what || all is_ascii token

-- what a token becomes: "The same is done, all else byte for byte"
unfoldable pub becomes : Kind → List ℕ → List Segment
becomes what token = cond (comment_kind what) (joined (map part_segments (parts token))) (raw token ∷ [])

abbrev pub structured_front : Bool → List ℕ → Front Bool Segment
structured_front comments s = token_front clear becomes comments s

unfoldable pub ascii_outside_comments : List ℕ → Bool
ascii_outside_comments value = clear_all structured_front true value

unfoldable pub value_segments : List ℕ → List Segment
value_segments value = becoming structured_front true value

unfoldable pub structured_field : List ℕ → List ℕ → List Segment
structured_field name value = named name (value_segments value)
