-- The token at a place of a Received field's value, as code finds it.
use borrow.Author.Tests.{eq-eqb, ne_eqb}
use Rattle.std.specs.Prelude.{◌≡◌, Bool, not, cond, ◌&&◌, ◌||◌, List, [], ◌∷◌, ℕ, ◌+◌, ◌-◌, ◌≤◌, ◌<◌, eqb, leb, ltb, length, take, drop, get_or}
use Rattle.std.proofs.Math.Path.{refl, ap}
use Rattle.std.proofs.Common.{sym, ◌∙◌, arith, eqb→eq, length-drop, drop-drop, get_or-drop}
use Rattle.std.proofs.Math.Bool.{true, false}
use Rattle.lists.specs.ListsLaws.{by_test, cond_has, yes_true, true_yes, no_false}
use Rattle.lists.specs.Run.{run}
use Rattle.address.specs.AddressLaws.{byte_within}
use Rattle.comment.specs.Comment.{comment_len}
use Rattle.letter_case.specs.LetterCase.{bytes, lower, same_any_case}
use Rattle.structured_token.specs.declared.Kind.{Kind}
use Rattle.structured_token.specs.declared.Kind.TheVariants as token
use Rattle.structured_token.specs.Tokens.{is_white, is_quote, opened_kind, kind_of, size_of, white_kind}
use Rattle.structured_token.specs.Tokens as tokens
use Rattle.received_token.specs.Clause.{white_len, is_for, clause_len}
use Rattle.received_token.proofs.ClauseLaws.{rest, for_long, clause_le}
use Rattle.received_token.specs.declared.ReceivedKind.{ReceivedKind}
use Rattle.received_token.specs.declared.ReceivedKind.TheVariants.{Clause, BareFor}
use Rattle.received_token.specs.Tokens.{starts_for, kind_in, received_kind, received_size, Took}

-- ---- a for, by its first byte

small_f : (b : ℕ) → eqb b 102 ≡ false → eqb b 70 ≡ false → eqb (lower b) (lower 102) ≡ false
unfolding lower
small_f b f g =
    cond_has (λ n. eqb n 102 ≡ false) (leb 65 b && leb b 90) (b + 32) b
    (λ t. by_test (eqb b 70)
    (λ u. absurd (true_yes false (sym g ∙ yes_true (eqb b 70) u)))
    (λ u. ne_eqb (b + 32) 102 (λ e. other b g (omega arith))))
    (λ t. f)
  where
    other : (b : ℕ) → eqb b 70 ≡ false → b ≡ 70 → ⊥
    other b g e = true_yes false (sym g ∙ eq-eqb b 70 e)

pub no_for : (s : List ℕ) → eqb (get_or s 0 0) 102 ≡ false → eqb (get_or s 0 0) 70 ≡ false → is_for s ≡ false
unfolding is_for same_any_case bytes
no_for [] f g = refl
no_for (b ∷ s) f g = rw (small_f b f g)

-- as code tests it
pub for_not : (s : List ℕ) (at : ℕ) {b : ℕ} → b ≡ get_or s at 0 → eqb b 102 || eqb b 70 ≡ false → false ≡ is_for (drop at s)
for_not s at {b} q e =
    let there : at + 0 ≡ at = omega arith in
    let first : get_or (drop at s) 0 0 ≡ b = get_or-drop at s 0 0 ∙ (ap (λ i. get_or s i 0) there ∙ sym q) in
    let both = neither (eqb b 102) (eqb b 70) e in
    sym (no_for (drop at s) (rw first both.0) (rw first both.1))
  where
    neither : (x y : Bool) → x || y ≡ false → (x ≡ false) × (y ≡ false)
    neither true y e = absurd (true_yes false (sym e))
    neither false y e = (refl, e)

pub for_within : (s : List ℕ) (at : ℕ) {b : ℕ} → b ≡ get_or s at 0 → eqb b 102 || eqb b 70 ≡ true → at < length s
for_within s at {b} q e =
    by_test (eqb b 102)
    (λ t. byte_within s at 101 (sym q ∙ eqb→eq b 102 t))
    (λ t. byte_within s at 69 (sym q ∙ eqb→eq b 70 (true_yes (eqb b 70) (rw (no_false (eqb b 102) t) at e))))

pub for_rest : (s : List ℕ) (at : ℕ) {r : Bool} → r ≡ is_for (take (length s - at) (drop at s)) → r ≡ is_for (drop at s)
for_rest s at q = q ∙ ap is_for (rest s at)

-- ---- white space at the front is a token of its own

pub white_is : (comments : Bool) (s : List ℕ) → white_kind (kind_of comments s) ≡ is_white (get_or s 0 0)
unfolding kind_of opened_kind
white_is comments [] = refl
white_is comments (b ∷ s) =
    by_test (is_white b)
    (λ t. let e = yes_true (is_white b) t in rw e)
    (λ t.
    let e = no_false (is_white b) t in
    let opened = opened_kind comments (b ∷ s) in
    rw e
    (cond_has P (not (is_quote b || eqb b 40 || eqb b 59)) token.Plain (cond (is_quote b) token.Quoted (cond (eqb b 59) token.Semicolon opened))
    (λ u. refl)
    (λ u. cond_has P (is_quote b) token.Quoted (cond (eqb b 59) token.Semicolon opened)
    (λ v. refl)
    (λ v. cond_has P (eqb b 59) token.Semicolon opened
    (λ w. refl)
    (λ w. cond_has P (comments && ltb 0 (comment_len (b ∷ s))) token.Comment token.Open (λ x. refl) (λ x. refl))))))
  where
    P : Kind → Type 0
    P what = white_kind what ≡ false

no_white : (s : List ℕ) → is_white (get_or s 0 0) ≡ false → white_len s ≡ 0
unfolding white_len run
no_white [] e = refl
no_white (b ∷ s) e = rw e

-- ---- the token at a place

module _ {comments : Bool} {s : List ℕ} {i e : ℕ} {what : Kind} (t : tokens.Took comments s i what e) {kind : ReceivedKind} {white : Bool} (qk : kind ≡ kind_in what) (qw : white ≡ white_kind what) where
  white_there : white ≡ is_white (get_or (drop i s) 0 0)
  white_there = qw ∙ (ap white_kind t.what ∙ white_is comments (drop i s))

  -- no for stands there
  none : starts_for (eqb i 0) (drop i s) ≡ false → Took comments s i kind e
  unfolding received_kind received_size
  none n = record { what = rw n (qk ∙ ap kind_in t.what); is = rw (n, ← t.what) t.is; some = t.some; within = t.within }

  pub took_later : white || eqb i 0 ≡ false → Took comments s i kind e
  unfolding starts_for
  took_later n = none (rw (← white_there, n))

  module _ {word : ℕ} (q : word ≡ cond white e i) where
    white_size : (x : Bool) → white ≡ x → cond x e i ≡ i + white_len (drop i s)
    unfolding size_of white_len
    white_size true z =
        let k : what ≡ token.White = kind_is what (sym qw ∙ z) in
        rw k at t.is
      where
        kind_is : (k : Kind) → white_kind k ≡ true → k ≡ token.White
        kind_is token.Comment h = absurd (true_yes false h)
        kind_is token.Quoted h = absurd (true_yes false h)
        kind_is token.White h = refl
        kind_is token.Open h = absurd (true_yes false h)
        kind_is token.Semicolon h = absurd (true_yes false h)
        kind_is token.Plain h = absurd (true_yes false h)
        kind_is token.End h = absurd (true_yes false h)
    white_size false z = let none_there = no_white (drop i s) (sym white_there ∙ z) in omega (arith, none_there)

    place : word ≡ i + white_len (drop i s)
    place = q ∙ white_size white refl

    word_there : drop word s ≡ drop (white_len (drop i s)) (drop i s)
    word_there = ap (λ n. drop n s) place ∙ sym (drop-drop (white_len (drop i s)) i s)

    module _ (m : white || eqb i 0 ≡ true) where
      pub took_other : is_for (drop word s) ≡ false → Took comments s i kind e
      unfolding starts_for
      took_other f = none (rw (← white_there, m, ← word_there, f))

      module _ (f : is_for (drop word s) ≡ true) where
        there : starts_for (eqb i 0) (drop i s) ≡ true
        unfolding starts_for
        there = rw (← white_there, m, ← word_there, f)

        pub word_long : word + 4 ≤ length s
        word_long = omega (arith, for_long (drop word s) f, length-drop word s)

        pub word_after : i ≤ length s
        word_after = omega (arith, word_long, place)

        module _ {n : ℕ} (c : n ≡ clause_len (take (length s - i) (drop i s))) where
          size : clause_len (drop i s) ≡ n
          size = sym (rw (rest s i) at c)

          pub clause_long : i + n ≤ length s
          clause_long = omega (arith, size, clause_le (drop i s), length-drop i s, word_after)

          pub took_bare : n ≡ 0 → Took comments s i BareFor (word + 4)
          unfolding received_kind received_size
          took_bare z = record {
            what = rw (there, size, z);
            is = rw (there, size, z) (omega (arith, place));
            some = λ l. omega (arith, place);
            within = λ l. word_long;
          }

          pub took_clause : (n ≡ 0 → ⊥) → Took comments s i Clause (i + n)
          unfolding received_kind received_size
          took_clause z = record {
            what = rw (there, size, ne_eqb n 0 z);
            is = rw (there, size, ne_eqb n 0 z);
            some = λ l. omega (arith, z);
            within = λ l. clause_long;
          }
