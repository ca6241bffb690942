-- Where UTF-8 may be cut: at the ends of every token.
use Rattle.std.proofs.Common.{ne_eqb, append-nil, append_assoc, not-suc-le-zero, arith}
use Rattle.std.specs.Prelude.{◌≡◌, Bool, true, false, not, List, [], ◌∷◌, ◌++◌, ℕ, ◌≤◌, ◌<◌, T, eqb, ltb, length, get_or}
use Rattle.std.proofs.Math.Seq.{take-append_seam, drop-append_seam}
use Rattle.std.proofs.Math.Facts.{ltb_yes, ltb_no}
use Rattle.lists.specs.Byte.{is_ascii}
use Rattle.lists.specs.Lists.{all}
use Rattle.lists.specs.ListsLaws.{by_test, all_weaken}
use Rattle.utf8.specs.Utf8.{utf8}
use Rattle.utf8.specs.Utf8Laws.{utf8_ascii, utf8_right, utf8_append, utf8_cut}
use Rattle.comment.specs.Comment.{comment_len}
use Rattle.comment.specs.Grammar.{Comment}
use Rattle.comment.proofs.GrammarLaws.{comment_taken}
use Rattle.comment.proofs.BoundaryLaws.{comment_cut}
use Rattle.structured_token.specs.declared.Kind.{Kind}
use Rattle.structured_token.specs.Tokens.{is_white, is_plain}
use Rattle.structured_token.specs.Grammar.{AfterQuote, Token}
use Rattle.structured_token.proofs.GrammarLaws.{comment_some}

-- a text in two parts, each UTF-8
abbrev pub Both : List ℕ → List ℕ → Type 0
Both t more = T (utf8 t) × T (utf8 more)

-- bytes that matter are ASCII
high : (b n : ℕ) → 128 ≤ b → n < 128 → eqb b n ≡ false
high b n h k = ne_eqb b n (λ e. not-suc-le-zero {n = 0} (omega arith))

high_plain : (b : ℕ) → 128 ≤ b → is_plain b ≡ true
high_plain b h = rw (high b 32 h (omega arith), high b 9 h (omega arith), high b 13 h (omega arith), high b 10 h (omega arith), high b 34 h (omega arith), high b 40 h (omega arith), high b 59 h (omega arith))

high_white : (b : ℕ) → 128 ≤ b → is_white b ≡ false
high_white b h = rw (high b 32 h (omega arith), high b 9 h (omega arith), high b 13 h (omega arith), high b 10 h (omega arith))

plain_low : (b : ℕ) → T (not (is_plain b)) → b < 128
plain_low b n = by_test (ltb b 128) (λ t. ltb_yes t) (λ t. absurd (rw (high_plain b (ltb_no t)) at n))

white_ascii : (b : ℕ) → T (is_white b) → T (is_ascii b)
white_ascii b w = by_test (ltb b 128) (λ t. t) (λ t. absurd (rw (high_white b (ltb_no t)) at w))

-- ---- where ASCII stands on one side

ascii_front : (w more : List ℕ) → T (all is_ascii w) → T (utf8 (w ++ more)) → Both w more
ascii_front w more a h = let front = utf8_ascii w a in (front, rw (utf8_right w more front) at h)

before_low : (w more : List ℕ) → T (not (is_plain (get_or more 0 34))) → T (utf8 (w ++ more)) → Both w more
before_low w [] n h = (rw (append-nil w) at h, utf8_ascii [] tt)
before_low w (b ∷ more) n h = utf8_cut w b more (plain_low b n) h

-- ---- a quoted string: it ends with a quote, or nothing follows it

data Ending : List ℕ → List ℕ → Type 0 where
  last : {s : List ℕ} → Ending s []
  quote : (s more : List ℕ) → Ending (s ++ (34 ∷ [])) more

ending_cons : (b : ℕ) {s more : List ℕ} → Ending s more → Ending (b ∷ s) more
ending_cons b last = last
ending_cons b (quote s more) = quote (b ∷ s) more

ending : {s more : List ℕ} → AfterQuote s more → Ending s more
ending (AfterQuote.closed {more}) = quote [] more
ending AfterQuote.unclosed = last
ending AfterQuote.backslash = last
ending (AfterQuote.plain {b} h a) = ending_cons b (ending a)
ending (AfterQuote.escaped {b} a) = ending_cons 92 (ending_cons b (ending a))

after_ending : (b : ℕ) {s more : List ℕ} → Ending s more → T (utf8 (b ∷ (s ++ more))) → Both (b ∷ s) more
after_ending b (last {s}) h = (rw (append-nil s) at h, utf8_ascii [] tt)
after_ending b (quote s more) h =
    let two = utf8_cut (b ∷ s) 34 more (omega arith) (rw (append_assoc s (34 ∷ []) more) at h) in
    let close : T (utf8 (34 ∷ [])) = utf8_ascii (34 ∷ []) tt in
    (utf8_append (b ∷ s) (34 ∷ []) two.0 close, rw (utf8_right (34 ∷ []) more close) at two.1)

-- ---- a token

comment_both : {c : List ℕ} → Comment c → (more : List ℕ) → T (utf8 (c ++ more)) → Both c more
comment_both {c} i more h =
    let n : comment_len (c ++ more) ≡ length c = comment_taken i more in
    let some : 0 < comment_len (c ++ more) = omega (arith, comment_some i) in
    rw (n, take-append_seam c more, drop-append_seam c more) at (comment_cut (c ++ more) some h)

pub token_both : {comments : Bool} {what : Kind} {t more : List ℕ} → Token comments what t more → T (utf8 (t ++ more)) → Both t more
token_both (Token.comment {c} {more} i) h = comment_both i more h
token_both (Token.quoted a) h = after_ending 34 (ending a) h
token_both (Token.white {w = w} {more = more} n b e) h = ascii_front w more (all_weaken is_white is_ascii white_ascii w b) h
token_both (Token.unclosed {more = more} n) h = ascii_front (40 ∷ []) more tt h
token_both (Token.semicolon {more = more}) h = ascii_front (59 ∷ []) more tt h
token_both (Token.plain {w = w} {more = more} n b e) h = before_low w more e h
