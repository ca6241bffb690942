-- `ascii_outside_comments` takes exactly the values that the grammar makes, and `value_segments` gives what becomes of them.
use Rattle.std.specs.Prelude.{◌≡◌, refl, Bool, true, false, ◌||◌, List, [], ◌∷◌, ℕ, T}
use Rattle.std.proofs.Common.{sym, ap, ◌∙◌}
use Rattle.lists.specs.Byte.{is_ascii}
use Rattle.lists.specs.Lists.{all}
use Rattle.lists.specs.ListsLaws.{true_yes}
use Rattle.encoded_word.specs.Segments.{Segment}
use Rattle.encoded_word.specs.Segments.Segment.{raw}
use Rattle.structured_token.specs.declared.Kind.{Kind}
use Rattle.structured_token.specs.declared.Kind.TheVariants as kind
use Rattle.structured_token.specs.Tokens.{goes_on, comment_kind, open_kind}
use Rattle.structured_token.specs.Grammar.{Token, TokenRule}
use Rattle.structured_token.proofs.ValueLaws as values
use Rattle.structured_token.specs.Walk.{clear_all, becoming}
use Rattle.structured_token.proofs.WalkLaws as walks
use Rattle.structured_field.specs.Grammar.{StructuredRule, StructuredValue}
use Rattle.structured_field.specs.StructuredField.{clear, becomes, structured_front, ascii_outside_comments, value_segments}

-- ---- the rules are those of fields that are read token by token, with `clear` and `becomes`

-- a kind other than a comment and an unclosed parenthesis
record Plainly (what : Kind) : Type 0 where
  comment : comment_kind what ≡ false
  goes : (comments : Bool) → goes_on comments what ≡ comments

plainly : (what : Kind) → (what ≡ kind.Comment → ⊥) → (what ≡ kind.Open → ⊥) → Plainly what
plainly kind.Comment a b = absurd (a refl)
plainly kind.Quoted a b = record { comment = refl; goes = λ c. refl }
plainly kind.White a b = record { comment = refl; goes = λ c. refl }
plainly kind.Open a b = absurd (b refl)
plainly kind.Semicolon a b = record { comment = refl; goes = λ c. refl }
plainly kind.Plain a b = record { comment = refl; goes = λ c. refl }
plainly kind.End a b = record { comment = refl; goes = λ c. refl }

no_comment : (what : Kind) → comment_kind what ≡ false → what ≡ kind.Comment → ⊥
no_comment what n e = true_yes false (sym n ∙ ap comment_kind e)

no_open : (what : Kind) → open_kind what ≡ false → what ≡ kind.Open → ⊥
no_open what n e = true_yes false (sym n ∙ ap open_kind e)

clear_ascii : (what : Kind) (t : List ℕ) → T (all is_ascii t) → T (clear what t)
unfolding clear
clear_ascii what t = go (comment_kind what) (all is_ascii t)
  where
    go : (x y : Bool) → T y → T (x || y)
    go true y h = tt
    go false y h = h

becomes_raw : (what : Kind) (t : List ℕ) → comment_kind what ≡ false → becomes what t ≡ raw t ∷ []
unfolding becomes
becomes_raw what t e = rw e

other_rule : {comments : Bool} {t more : List ℕ} (what : Kind) → Token comments what t more → Plainly what → T (all is_ascii t) → TokenRule clear becomes comments t more (raw t ∷ []) comments
other_rule {comments} {t} {more} what m p h =
    let r : TokenRule clear becomes comments t more (becomes what t) (goes_on comments what) = TokenRule.token m (clear_ascii what t h) in
    rw (becomes_raw what t p.comment, p.goes comments) at r

open_rule : {comments : Bool} {what : Kind} {t more : List ℕ} → Token comments what t more → open_kind what ≡ true → TokenRule clear becomes comments t more (raw t ∷ []) false
unfolding clear becomes
open_rule (Token.comment i) o = absurd (true_yes false o)
open_rule (Token.quoted a) o = absurd (true_yes false o)
open_rule (Token.white n b e) o = absurd (true_yes false o)
open_rule (Token.unclosed n) o = TokenRule.token (Token.unclosed n) tt
open_rule Token.semicolon o = absurd (true_yes false o)
open_rule (Token.plain n b e) o = absurd (true_yes false o)

pub from_rule : {comments on : Bool} {t more : List ℕ} {p : List Segment} → StructuredRule comments t more p on → TokenRule clear becomes comments t more p on
unfolding clear becomes
from_rule (StructuredRule.comment i) = TokenRule.token (Token.comment i) tt
from_rule (StructuredRule.unclosed m) = open_rule m refl
from_rule (StructuredRule.other {what = what} m a b h) = other_rule what m (plainly what a b) h

kind_rule : {comments : Bool} {what : Kind} {t more : List ℕ} → Token comments what t more → T (clear what t) → StructuredRule comments t more (becomes what t) (goes_on comments what)
unfolding clear becomes
kind_rule (Token.comment i) c = StructuredRule.comment i
kind_rule (Token.quoted a) c = StructuredRule.other (Token.quoted a) (no_comment kind.Quoted refl) (no_open kind.Quoted refl) c
kind_rule (Token.white n b e) c = StructuredRule.other (Token.white n b e) (no_comment kind.White refl) (no_open kind.White refl) c
kind_rule (Token.unclosed n) c = StructuredRule.unclosed (Token.unclosed n)
kind_rule Token.semicolon c = StructuredRule.other Token.semicolon (no_comment kind.Semicolon refl) (no_open kind.Semicolon refl) c
kind_rule (Token.plain n b e) c = StructuredRule.other (Token.plain n b e) (no_comment kind.Plain refl) (no_open kind.Plain refl) c

pub to_rule : {comments on : Bool} {t more : List ℕ} {p : List Segment} → TokenRule clear becomes comments t more p on → StructuredRule comments t more p on
to_rule (TokenRule.token m c) = kind_rule m c

-- ---- the values

pub record Reads (text : List ℕ) (p : List Segment) : Type 0 where
  pub ascii : T (ascii_outside_comments text)
  pub is : p ≡ value_segments text

pub made_reads : {text : List ℕ} {p : List Segment} → StructuredValue text p → Reads text p
unfolding ascii_outside_comments value_segments clear_all becoming
made_reads v =
    let r = walks.made_reads structured_front (TokenRule clear becomes) (values.exact clear becomes) (walks.value_by (λ state after part more p r. from_rule r) v) in
    record { ascii = r.clear; is = r.is }

pub reads_made : {text : List ℕ} {p : List Segment} → Reads text p → StructuredValue text p
unfolding ascii_outside_comments value_segments clear_all becoming
reads_made {text} {p} r =
    walks.value_by (λ state after part more p r. to_rule r)
    (walks.reads_made structured_front (TokenRule clear becomes) (values.exact clear becomes) {state = true} {text = text} {p = p} (record { clear = r.ascii; is = r.is }))

-- what becomes of a value that is not held
pub value_made : (value : List ℕ) → T (ascii_outside_comments value) → StructuredValue value (value_segments value)
value_made value h = reads_made (record { ascii = h; is = refl })
