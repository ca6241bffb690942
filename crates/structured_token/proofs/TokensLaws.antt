-- Laws of tokens: by position, as code goes through a value.
use borrow.Author.Tests.{ne_eqb, lt-ltb, eqb-true}
use Rattle.std.specs.Prelude.{◌≡◌, Bool, true, false, not, cond, ◌&&◌, ◌||◌, List, [], ◌∷◌, T, eqb, ltb, length}
use Rattle.std.proofs.Math.Path.{refl}
use Rattle.std.proofs.Common.{sym, ◌∙◌, eqb→eq, drop_of_length-le, drop-cons, get_or-drop}
use Rattle.std.proofs.Math.Bool.{and-false}
use Prim.Native.Nat.{ℕ, suc, ◌+◌, ◌≤◌, ◌<◌, min}
use native.Mathlib.Omega.{arith}
use Rattle.std.proofs.Math.Facts.{or_no, eqb_no, ltb_yes, ltb_no}
use Rattle.std.proofs.Math.ListN.{drop, get_or, length-drop}
use Rattle.std.proofs.Math.Seq.{drop-drop}
use Rattle.lists.specs.ListsLaws.{by_test, cond_has, true_yes, no_false}
use Rattle.lists.specs.Run.{run}
use Rattle.lists.specs.RunLaws.{run_le}
use Rattle.comment.specs.Comment.{comment_len, is_text, run_to}
use Rattle.comment.proofs.RunLaws.{text_passed, text_stop, text_last, text_escaped}
use Rattle.comment.proofs.CommentLaws.{run_stop, comment_within}
use Rattle.structured_token.specs.declared.Kind.{Kind}
use Rattle.structured_token.specs.declared.Kind.TheVariants.{Comment, Quoted, White, Open, Semicolon, Plain, End}
use Rattle.structured_token.specs.Tokens.{is_white, is_quote, is_plain, string_len, opened_kind, kind_of, size_of, is_plain_ascii, ends_space, is_calm, calm_len, Took}

-- ---- a quoted string: its bytes up to the next quote or backslash

module _ (b x y : ℕ) (h : T (not (eqb b x || eqb b y))) where
  pub neither_first : eqb b x ≡ false
  neither_first = no_false (eqb b x) (or_no (eqb b x) (eqb b y) h).0

  pub neither_second : eqb b y ≡ false
  neither_second = no_false (eqb b y) (or_no (eqb b x) (eqb b y) h).1

module _ (s : List ℕ) where
  -- where the string ends of which the bytes from i on are read
  abbrev pub string_from : ℕ → ℕ
  string_from i = min (i + 1 + run_to is_quote false (drop i s)) (length s)

  pub string_start : (at : ℕ) → at < length s → at + string_len (drop at s) ≡ string_from (at + 1)
  unfolding string_len
  string_start at h =
      let e : drop 1 (drop at s) ≡ drop (at + 1) s = drop-drop 1 at s in
      rw e (omega (arith, length-drop at s))

  pub string_over : (i : ℕ) → length s ≤ i → string_from i ≡ length s
  string_over i h = omega arith

  module _ (i p : ℕ) (r : p ≡ i + run (is_text is_quote) (drop i s)) where
    pub string_unclosed : length s ≤ p → length s ≡ string_from i
    string_unclosed h = omega (arith, text_passed is_quote s i p r)

    module _ (h : p < length s) where
      pub string_closed : get_or s p 0 ≡ 34 → p + 1 ≡ string_from i
      string_closed e = omega (arith, text_passed is_quote s i p r, run_stop is_quote s p false h (rw e))

      escape : (get_or s p 0 ≡ 34 → ⊥) → get_or s p 0 ≡ 92
      escape n =
          by_test (eqb (get_or s p 0) 92)
          (λ t. eqb→eq (get_or s p 0) 92 t)
          (λ t. absurd (n (eqb-true (get_or s p 0) 34 (text_stop is_quote s i p r h (eqb_no {a = get_or s p 0} {b = 92} t)))))

      -- a backslash, and the byte after it
      pub string_escaped : (get_or s p 0 ≡ 34 → ⊥) → string_from i ≡ string_from (p + 2)
      string_escaped n =
          let e = escape n in
          let two : p + 1 + 1 ≡ p + 2 = omega arith in
          by_test (ltb (p + 1) (length s))
          (λ t. let k = rw two at (text_escaped is_quote s i p r h refl e (ltb_yes t)) in omega (arith, k))
          (λ t.
          let over : length s ≤ p + 1 = ltb_no t in
          let k = text_last is_quote s i p r h refl e over in
          omega (arith, k))

-- ---- the token at a place

string_some : (b : ℕ) (s : List ℕ) → 0 < string_len (b ∷ s)
unfolding string_len
string_some b s = omega arith

string_within : (s : List ℕ) → string_len s ≤ length s
unfolding string_len
string_within s = omega arith

run_some : (f : ℕ → Bool) (b : ℕ) (s : List ℕ) → f b ≡ true → 0 < run f (b ∷ s)
unfolding run
run_some f b s e = rw e (omega arith)

module _ (comments : Bool) (s : List ℕ) (i : ℕ) where
  pub took_end : length s ≤ i → Took comments s i End i
  unfolding kind_of size_of
  took_end h = record {
    what = rw (drop_of_length-le s {i = i} h);
    is = omega arith;
    some = λ k. absurd (omega arith);
    within = λ k. absurd (omega arith);
  }

  module _ (h : i < length s) where
    text : drop i s ≡ get_or s i 0 ∷ drop (suc i) s
    text = drop-cons s i 0 h

    took : (kind : Kind) (e : ℕ) → kind ≡ kind_of comments (drop i s) → e ≡ i + size_of kind (drop i s) → 0 < size_of kind (drop i s) → size_of kind (drop i s) ≤ length (drop i s) → Took comments s i kind e
    took kind e w r a b = record { what = w; is = r; some = λ l. omega arith; within = λ l. omega (arith, length-drop i s) }

    pub took_plain : (e : ℕ) → is_plain (get_or s i 0) ≡ true → e ≡ i + run is_plain (drop i s) → Took comments s i Plain e
    unfolding kind_of size_of
    took_plain e t r = took Plain e (rw (text, t)) r (rw text (run_some is_plain (get_or s i 0) (drop (suc i) s) t)) (run_le is_plain (drop i s))

    module _ (n : is_plain (get_or s i 0) ≡ false) where
      pub took_white : (e : ℕ) → is_white (get_or s i 0) ≡ true → e ≡ i + run is_white (drop i s) → Took comments s i White e
      unfolding kind_of size_of
      took_white e t r = took White e (rw (text, n, t)) r (rw text (run_some is_white (get_or s i 0) (drop (suc i) s) t)) (run_le is_white (drop i s))

      module _ (w : is_white (get_or s i 0) ≡ false) where
        pub took_string : (e : ℕ) → get_or s i 0 ≡ 34 → e ≡ i + string_len (drop i s) → Took comments s i Quoted e
        unfolding kind_of size_of
        took_string e q r = took Quoted e (rw (text, q)) r (rw text (string_some (get_or s i 0) (drop (suc i) s))) (string_within (drop i s))

        module _ (q : get_or s i 0 ≡ 34 → ⊥) where
          pub took_semicolon : get_or s i 0 ≡ 59 → Took comments s i Semicolon (i + 1)
          unfolding kind_of size_of
          took_semicolon p = took Semicolon (i + 1) (rw (text, p)) refl (omega arith) (omega (arith, length-drop i s))

          -- the only byte left
          pub paren : (get_or s i 0 ≡ 59 → ⊥) → get_or s i 0 ≡ 40
          paren m = eqb-true (get_or s i 0) 40 (last (is_white (get_or s i 0)) (eqb (get_or s i 0) 40) w (rw (ne_eqb (get_or s i 0) 34 q, ne_eqb (get_or s i 0) 59 m) at n))
            where
              last : (x y : Bool) → x ≡ false → not (x || false || y || false) ≡ false → y ≡ true
              last x true e k = refl
              last x false e k = absurd (true_yes false (sym (rw e at k)))

    module _ (p : get_or s i 0 ≡ 40) where
      took_opened : (kind : Kind) (e : ℕ) → kind ≡ opened_kind comments (drop i s) → e ≡ i + size_of kind (drop i s) → 0 < size_of kind (drop i s) → size_of kind (drop i s) ≤ length (drop i s) → Took comments s i kind e
      unfolding kind_of
      took_opened kind e w r a b = took kind e (rw (text, p) (rw (text, p) at w)) r a b

      pub took_barred : comments ≡ false → Took comments s i Open (i + 1)
      unfolding opened_kind size_of
      took_barred z = took_opened Open (i + 1) (rw z) refl (omega arith) (omega (arith, length-drop i s))

      module _ (e : ℕ) (r : e ≡ i + comment_len (drop i s)) where
        pub took_unclosed : e ≡ i → Took comments s i Open (i + 1)
        unfolding opened_kind size_of
        took_unclosed z =
            let none : comment_len (drop i s) ≡ 0 = omega arith in
            took_opened Open (i + 1) (rw (none, and-false comments)) refl (omega arith) (omega (arith, length-drop i s))

        pub took_comment : comments ≡ true → (e ≡ i → ⊥) → Took comments s i Comment e
        unfolding opened_kind size_of
        took_comment c z =
            let some : 0 < comment_len (drop i s) = omega (arith, r, z) in
            took_opened Comment e (rw (c, lt-ltb 0 (comment_len (drop i s)) some)) r some (comment_within (drop i s))

-- ---- bytes that are passed over together

module _ (b next : ℕ) {plain : Bool} (q : plain ≡ is_plain_ascii b) where
  pub calm_plain : plain ≡ true → true ≡ is_calm b next
  unfolding is_calm
  calm_plain e = rw (sym q ∙ e)

  pub calm_space : {after : ℕ} {ends : Bool} → plain ≡ false → after ≡ next → ends ≡ ends_space after → eqb b 32 && ends ≡ is_calm b next
  unfolding is_calm
  calm_space e n d = rw (sym q ∙ e, d, n)

module _ (s : List ℕ) (i : ℕ) where
  pub calm_over : length s ≤ i → i + calm_len (drop i s) ≡ i
  unfolding calm_len
  calm_over h = rw (drop_of_length-le s {i = i} h) (omega arith)

  module _ (h : i < length s) where
    calm_first : (calm : Bool) → is_calm (get_or s i 0) (get_or s (i + 1) 0) ≡ calm → i + calm_len (drop i s) ≡ i + cond calm (suc (calm_len (drop (i + 1) s))) 0
    unfolding calm_len
    calm_first calm e =
        let there : i + 1 + 0 ≡ i + 1 = omega arith in
        let next : get_or (drop (i + 1) s) 0 0 ≡ get_or s (i + 1) 0 = rw there at (get_or-drop (i + 1) s 0 0) in
        let one : suc i ≡ i + 1 = omega arith in
        let text : drop i s ≡ get_or s i 0 ∷ drop (i + 1) s = rw one at (drop-cons s i 0 h) in
        rw (text, next, e)

    pub calm_step : is_calm (get_or s i 0) (get_or s (i + 1) 0) ≡ true → i + calm_len (drop i s) ≡ i + 1 + calm_len (drop (i + 1) s)
    calm_step e = calm_first true e ∙ omega arith

    pub calm_stop : is_calm (get_or s i 0) (get_or s (i + 1) 0) ≡ false → i + calm_len (drop i s) ≡ i
    calm_stop e = calm_first false e ∙ omega arith

calm_le : (s : List ℕ) → calm_len s ≤ length s
unfolding calm_len
calm_le [] = omega arith
calm_le (b ∷ s) = let ih = calm_le s in cond_has (λ n. n ≤ suc (length s)) (is_calm b (get_or s 0 0)) (suc (calm_len s)) 0 (λ t. omega arith) (λ t. omega arith)

-- they lie in the text
pub calm_within : (s : List ℕ) (e : ℕ) {k : ℕ} → k ≡ e + calm_len (drop e s) → e ≤ length s → k ≤ length s
calm_within s e q h = omega (arith, calm_le (drop e s), length-drop e s)
