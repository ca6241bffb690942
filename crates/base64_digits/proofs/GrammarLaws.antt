-- The grammar of base64: what is written is read back, and nothing else is read; the reader that is a function says the same.
use Rattle.std.specs.Prelude.{◌≡◌, refl, Bool, true, false, not, cond, ◌&&◌, List, [], ◌∷◌, ◌++◌, ℕ, ◌+◌, ◌*◌, ◌/◌, ◌%◌, T, eqb}
use Rattle.std.proofs.Common.{sym, ap, ◌∙◌, append-nil, arith, eqb→eq, ltb→lt}
use Rattle.std.proofs.Math.Option.{Option, none, some}
use Rattle.std.proofs.Math.Facts.{and_yes}
use Rattle.lists.specs.Lists.{all}
use Rattle.lists.specs.ListsLaws.{by_test, cond_yes, cond_no}
use Rattle.lists.specs.Byte.{is_byte}
use Rattle.base64_digits.specs.Base64.{digit64, in_base64}
use Rattle.base64_digits.proofs.Base64Laws.{written_reads, reads_only}
use Rattle.base64_digits.specs.Grammar.{FromBase64}
use Rattle.base64_digits.specs.Reading.{is_digit64, value64, from_quad, from_three, from_two, from_last, together, from_base64}

-- ---- what is written, and nothing else

-- bytes as they are written are read back
pub base64_reads : (bytes : List ℕ) → T (all is_byte bytes) → FromBase64 (in_base64 bytes) bytes
unfolding in_base64
base64_reads [] h = FromBase64.nothing
base64_reads (a ∷ []) h =
    let ha = ltb→lt a 256 (and_yes (is_byte a) (all is_byte []) h).0 in
    let same : a / 4 * 4 + a % 4 * 16 / 16 ≡ a = omega arith in
    rw same at (FromBase64.two {a = a / 4} {b = a % 4 * 16} (omega arith) (omega arith) (omega arith))
base64_reads (a ∷ b ∷ []) h =
    let p = and_yes (is_byte a) (all is_byte (b ∷ [])) h in
    let ha = ltb→lt a 256 p.0 in
    let hb = ltb→lt b 256 (and_yes (is_byte b) (all is_byte []) p.1).0 in
    let first : a / 4 * 4 + (a % 4 * 16 + b / 16) / 16 ≡ a = omega arith in
    let second : (a % 4 * 16 + b / 16) % 16 * 16 + b % 16 * 4 / 4 ≡ b = omega arith in
    rw (first, second) at (FromBase64.three {a = a / 4} {b = a % 4 * 16 + b / 16} {c = b % 16 * 4} (omega arith) (omega arith) (omega arith) (omega arith))
base64_reads (a ∷ b ∷ c ∷ bytes) h =
    let p = and_yes (is_byte a) (all is_byte (b ∷ c ∷ bytes)) h in
    let q = and_yes (is_byte b) (all is_byte (c ∷ bytes)) p.1 in
    let r = and_yes (is_byte c) (all is_byte bytes) q.1 in
    let ha = ltb→lt a 256 p.0 in
    let hb = ltb→lt b 256 q.0 in
    let hc = ltb→lt c 256 r.0 in
    let first : a / 4 * 4 + (a % 4 * 16 + b / 16) / 16 ≡ a = omega arith in
    let second : (a % 4 * 16 + b / 16) % 16 * 16 + (b % 16 * 4 + c / 64) / 4 ≡ b = omega arith in
    let third : (b % 16 * 4 + c / 64) % 4 * 64 + c % 64 ≡ c = omega arith in
    rw (first, second, third) at (FromBase64.four {a = a / 4} {b = a % 4 * 16 + b / 16} {c = b % 16 * 4 + c / 64} {d = c % 64}
    (omega arith) (omega arith) (omega arith) (omega arith) (base64_reads bytes r.1))

-- what is read is written so
pub base64_only : {standing bytes : List ℕ} → FromBase64 standing bytes → in_base64 bytes ≡ standing
unfolding in_base64
base64_only FromBase64.nothing = refl
base64_only (FromBase64.four {a} {b} {c} {d} ha hb hc hd r) =
    let first : (a * 4 + b / 16) / 4 ≡ a = omega arith in
    let second : (a * 4 + b / 16) % 4 * 16 + (b % 16 * 16 + c / 4) / 16 ≡ b = omega arith in
    let third : (b % 16 * 16 + c / 4) % 16 * 4 + (c % 4 * 64 + d) / 64 ≡ c = omega arith in
    let fourth : (c % 4 * 64 + d) % 64 ≡ d = omega arith in
    rw (first, second, third, fourth, base64_only r) refl
base64_only (FromBase64.three {a} {b} {c} ha hb hc z) =
    let first : (a * 4 + b / 16) / 4 ≡ a = omega arith in
    let second : (a * 4 + b / 16) % 4 * 16 + (b % 16 * 16 + c / 4) / 16 ≡ b = omega arith in
    let third : (b % 16 * 16 + c / 4) % 16 * 4 ≡ c = omega arith in
    rw (first, second, third) refl
base64_only (FromBase64.two {a} {b} ha hb z) =
    let first : (a * 4 + b / 16) / 4 ≡ a = omega arith in
    let second : (a * 4 + b / 16) % 4 * 16 ≡ b = omega arith in
    rw (first, second) refl

-- ---- from the grammar to the reader

-- four digits, with more groups after them or not
quad_then : (w x y z : ℕ) (digits : List ℕ) → T (not (eqb z 61)) → from_base64 (w ∷ x ∷ y ∷ z ∷ digits) ≡ together (from_quad w x y z) (from_base64 digits)
unfolding from_base64 from_last
quad_then w x y z [] t = cond_no (eqb z 61) _ _ t ∙ alone (from_quad w x y z)
  where
    alone : (o : Option (List ℕ)) → o ≡ together o (some [])
    alone none = refl
    alone (some bytes) = ap some (sym (append-nil bytes))
quad_then w x y z (v ∷ digits) t = refl

pub grammar_read : {standing bytes : List ℕ} → FromBase64 standing bytes → from_base64 standing ≡ some bytes
unfolding from_base64 from_last from_two from_three from_quad
grammar_read FromBase64.nothing = refl
grammar_read (FromBase64.four {a} {b} {c} {d} {standing} ha hb hc hd more) =
    let p = written_reads a ha in
    let q = written_reads b hb in
    let r = written_reads c hc in
    let s = written_reads d hd in
    quad_then _ _ _ _ standing s.2 ∙ rw (p.0, q.0, r.0, s.0, p.1, q.1, r.1, s.1, grammar_read more) refl
grammar_read (FromBase64.three {a} {b} {c} ha hb hc z) =
    let p = written_reads a ha in
    let q = written_reads b hb in
    let r = written_reads c hc in
    cond_no (eqb (digit64 c) 61) _ _ r.2 ∙ rw (p.0, q.0, r.0, p.1, q.1, r.1, z) refl
grammar_read (FromBase64.two {a} {b} ha hb z) =
    let p = written_reads a ha in
    let q = written_reads b hb in
    rw (p.0, q.0, p.1, q.1, z) refl

-- ---- from the reader to the grammar

none_some : {A : Type 0} {a : A} → none ≡ some a → ⊥
none_some e = let z : ◌≡◌ {A = ℕ} 0 1 = cc in omega arith

some_same : {A : Type 0} {a b : A} → some a ≡ some b → a ≡ b
some_same e = cc

cond_some : (t : Bool) (x bytes : List ℕ) → cond t (some x) none ≡ some bytes → T t × (x ≡ bytes)
cond_some true x bytes e = (tt, some_same e)
cond_some false x bytes e = absurd (none_some e)

-- two digits before padding, three, and four
read_two : (w x : ℕ) (bytes : List ℕ) → from_two w x ≡ some bytes → FromBase64 (w ∷ x ∷ 61 ∷ 61 ∷ []) bytes
unfolding from_two
read_two w x bytes e =
    let p = cond_some (is_digit64 w && is_digit64 x && eqb (value64 x % 16) 0) ((value64 w * 4 + value64 x / 16) ∷ []) bytes e in
    let q = and_yes (is_digit64 w && is_digit64 x) (eqb (value64 x % 16) 0) p.0 in
    let r = and_yes (is_digit64 w) (is_digit64 x) q.0 in
    let a = reads_only w r.0 in
    let b = reads_only x r.1 in
    rw (a.1, b.1, p.1) at (FromBase64.two a.0 b.0 (eqb→eq (value64 x % 16) 0 q.1))

read_three : (w x y : ℕ) (bytes : List ℕ) → from_three w x y ≡ some bytes → FromBase64 (w ∷ x ∷ y ∷ 61 ∷ []) bytes
unfolding from_three
read_three w x y bytes e =
    let p = cond_some (is_digit64 w && is_digit64 x && is_digit64 y && eqb (value64 y % 4) 0)
    ((value64 w * 4 + value64 x / 16) ∷ (value64 x % 16 * 16 + value64 y / 4) ∷ []) bytes e in
    let q = and_yes (is_digit64 w && is_digit64 x && is_digit64 y) (eqb (value64 y % 4) 0) p.0 in
    let r = and_yes (is_digit64 w && is_digit64 x) (is_digit64 y) q.0 in
    let s = and_yes (is_digit64 w) (is_digit64 x) r.0 in
    let a = reads_only w s.0 in
    let b = reads_only x s.1 in
    let c = reads_only y r.1 in
    rw (a.1, b.1, c.1, p.1) at (FromBase64.three a.0 b.0 c.0 (eqb→eq (value64 y % 4) 0 q.1))

read_four : (w x y z : ℕ) (bytes : List ℕ) → from_quad w x y z ≡ some bytes → {standing more : List ℕ} → FromBase64 standing more
    → FromBase64 (w ∷ x ∷ y ∷ z ∷ standing) (bytes ++ more)
unfolding from_quad
read_four w x y z bytes e g =
    let p = cond_some (is_digit64 w && is_digit64 x && is_digit64 y && is_digit64 z)
    ((value64 w * 4 + value64 x / 16) ∷ (value64 x % 16 * 16 + value64 y / 4) ∷ (value64 y % 4 * 64 + value64 z) ∷ []) bytes e in
    let q = and_yes (is_digit64 w && is_digit64 x && is_digit64 y) (is_digit64 z) p.0 in
    let r = and_yes (is_digit64 w && is_digit64 x) (is_digit64 y) q.0 in
    let s = and_yes (is_digit64 w) (is_digit64 x) r.0 in
    let a = reads_only w s.0 in
    let b = reads_only x s.1 in
    let c = reads_only y r.1 in
    let d = reads_only z q.1 in
    rw (← p.1) (rw (a.1, b.1, c.1, d.1) at (FromBase64.four a.0 b.0 c.0 d.0 g))

read_last : (w x y z : ℕ) (bytes : List ℕ) → from_last w x y z ≡ some bytes → FromBase64 (w ∷ x ∷ y ∷ z ∷ []) bytes
unfolding from_last
read_last w x y z bytes e =
    by_test (eqb z 61)
    (λ t. by_test (eqb y 61)
    (λ u. rw (eqb→eq z 61 t, eqb→eq y 61 u) (read_two w x bytes (sym (padded t ∙ cond_yes (eqb y 61) (from_two w x) (from_three w x y) u) ∙ e)))
    (λ u. rw (eqb→eq z 61 t) (read_three w x y bytes (sym (padded t ∙ cond_no (eqb y 61) (from_two w x) (from_three w x y) u) ∙ e))))
    (λ t. rw append-nil at (read_four w x y z bytes
    (sym (cond_no (eqb z 61) (cond (eqb y 61) (from_two w x) (from_three w x y)) (from_quad w x y z) t) ∙ e) FromBase64.nothing))
  where
    padded : T (eqb z 61) → from_last w x y z ≡ cond (eqb y 61) (from_two w x) (from_three w x y)
    padded t = cond_yes (eqb z 61) (cond (eqb y 61) (from_two w x) (from_three w x y)) (from_quad w x y z) t

-- a group and those after it
record Both (group rest : Option (List ℕ)) (bytes : List ℕ) : Type 0 where
  pub front : List ℕ
  pub more : List ℕ
  pub is_front : group ≡ some front
  pub is_more : rest ≡ some more
  pub joins : front ++ more ≡ bytes

both_of : (group rest : Option (List ℕ)) (bytes : List ℕ) → together group rest ≡ some bytes → Both group rest bytes
both_of (some front) (some more) bytes e = record { front = front; more = more; is_front = refl; is_more = refl; joins = some_same e }
both_of (some front) none bytes e = absurd (none_some e)
both_of none rest bytes e = absurd (none_some e)

pub read_grammar : (standing bytes : List ℕ) → from_base64 standing ≡ some bytes → FromBase64 standing bytes
unfolding from_base64
read_grammar [] bytes e = rw (← (some_same e)) FromBase64.nothing
read_grammar (w ∷ []) bytes e = absurd (none_some e)
read_grammar (w ∷ x ∷ []) bytes e = absurd (none_some e)
read_grammar (w ∷ x ∷ y ∷ []) bytes e = absurd (none_some e)
read_grammar (w ∷ x ∷ y ∷ z ∷ []) bytes e = read_last w x y z bytes e
read_grammar (w ∷ x ∷ y ∷ z ∷ v ∷ standing) bytes e =
    let p = both_of (from_quad w x y z) (from_base64 (v ∷ standing)) bytes e in
    rw p.joins at (read_four w x y z p.front p.is_front (read_grammar (v ∷ standing) p.more p.is_more))
