-- Where no for starts, the token of a Received value is that of other structured fields.
use borrow.Author.Tests.{ne_eqb}
use Rattle.std.specs.Prelude.{◌≡◌, refl, Bool, true, false, ◌&&◌, ◌||◌, List, [], ◌∷◌, ◌++◌, ℕ, zero, suc, ◌<◌, T, eqb, length, take, drop, get_or}
use Rattle.std.proofs.Common.{ap, ◌∙◌, not-suc-le-zero, arith, eqb→eq, take-append-drop}
use Rattle.std.proofs.Math.Seq.{take-append_seam}
use Rattle.std.proofs.Math.Facts.{and_yes, eqb_no}
use Rattle.lists.specs.ListsLaws.{by_test, yes_true, true_yes, no_false}
use Rattle.encoded_word.specs.Segments.{Segment}
use Rattle.structured_token.specs.declared.Kind.{Kind}
use Rattle.structured_token.specs.declared.Kind.TheVariants as token
use Rattle.structured_token.specs.Tokens.{is_white, kind_of, size_of}
use Rattle.structured_token.specs.Tokens as tokens
use Rattle.structured_token.specs.Walk.{Front, clear_all, becoming}
use Rattle.structured_token.proofs.WalkLaws as walks
use Rattle.structured_token.proofs.ValueLaws as values
use Rattle.structured_field.proofs.GrammarLaws.{from_rule, to_rule}
use Rattle.structured_field.specs.StructuredField as field
use Rattle.received_token.specs.Clause.{white_len, is_for, clause_len}
use Rattle.received_token.specs.Grammar.{Clause}
use Rattle.received_token.proofs.GrammarLaws.{clause_taken, taken_clause, clause_word, clause_some}
use Rattle.received_token.specs.Tokens.{starts_for, kind_in, received_kind, received_size, goes_on}
use Rattle.received.specs.Received.{Place, clause_segments, clear, becomes, received_front, value_clear, value_segments}
use Rattle.received.specs.Received.Place.{place}
use Rattle.received.specs.Grammar.{ReceivedRule, ReceivedValue}

-- ---- tokens of other structured fields

clear_same : (what : Kind) (t : List ℕ) → clear (kind_in what) t ≡ field.clear what t
unfolding clear field.clear
clear_same token.Comment t = refl
clear_same token.Quoted t = refl
clear_same token.White t = refl
clear_same token.Open t = refl
clear_same token.Semicolon t = refl
clear_same token.Plain t = refl
clear_same token.End t = refl

becomes_same : (what : Kind) (t : List ℕ) → becomes (kind_in what) t ≡ field.becomes what t
unfolding becomes field.becomes
becomes_same token.Comment t = refl
becomes_same token.Quoted t = refl
becomes_same token.White t = refl
becomes_same token.Open t = refl
becomes_same token.Semicolon t = refl
becomes_same token.Plain t = refl
becomes_same token.End t = refl

goes_same : (comments : Bool) (what : Kind) → goes_on comments (kind_in what) ≡ tokens.goes_on comments what
goes_same comments token.Comment = refl
goes_same comments token.Quoted = refl
goes_same comments token.White = refl
goes_same comments token.Open = refl
goes_same comments token.Semicolon = refl
goes_same comments token.Plain = refl
goes_same comments token.End = refl

-- a token of other structured fields, after which the value has begun
abbrev pub begun : Front Bool Segment → Front Place Segment
begun f = record { size = f.size; clear = f.clear; becomes = f.becomes; next = place f.next false }

-- where no for starts
pub token_front_lem : (comments start : Bool) (s : List ℕ) → starts_for start s ≡ false → received_front (place comments start) s ≡ begun (field.structured_front comments s)
unfolding received_kind received_size
token_front_lem comments start s n =
    let what = kind_of comments s in
    let t = take (size_of what s) s in
    rw (n, clear_same what t, becomes_same what t, goes_same comments what)
