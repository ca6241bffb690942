-- Laws of the bytes of a text that stay: their writing byte by byte, their number, and that they are UTF-8 where the text is.
use Rattle.std.specs.Prelude.{◌≡◌, refl, Bool, true, cond, not, T, leb, length, drop, get_or}
use Rattle.std.proofs.Common.{ap, ◌∙◌, add-one, arith, lit≤, drop_of_length-le}
use Rattle.std.proofs.Math.Bool.{false, and-false, or-true}
use mathlib.Core.List.{List, [], ◌∷◌, ◌++◌}
use Prim.Native.Nat.{ℕ, ◌+◌, ◌≤◌, ◌<◌, zero-le}
use Rattle.std.proofs.Math.Nat.{not-suc-le-zero}
use Rattle.std.proofs.Math.ListN.{length-append}
use Rattle.std.proofs.Math.Seq.{drop-cons}
use Rattle.std.proofs.Math.Facts.{and_yes, leb_yes}
use borrow.Author.Tests.{ne_eqb}
use Rattle.lists.specs.ListsLaws.{cond_has}
use Rattle.lists.specs.Lists.{all, joined}
use Rattle.utf8.specs.Utf8.{utf8, chars, is_char}
use Rattle.utf8.specs.Utf8Laws.{chars_joined, char_some, char_high, utf8_append, utf8_char, utf8_ascii}
use Rattle.unquote.specs.Unquote.{escapes, kept_from, stays_unquoted, unquoted}

module _ (stays : Bool) (b : ℕ) where
  pub kept_goes : stays ≡ false → [] ≡ cond stays (b ∷ []) []
  kept_goes h = rw h

  pub kept_stays : stays ≡ true → b ∷ [] ≡ cond stays (b ∷ []) []
  kept_stays h = rw h

length_kept : (stays : Bool) (b : ℕ) → length (cond stays (b ∷ []) []) ≤ 1
length_kept true b = lit≤ tt
length_kept false b = lit≤ tt

kept_utf8 : (stays : Bool) (b : ℕ) → T (is_char (b ∷ [])) → T (utf8 (cond stays (b ∷ []) []))
kept_utf8 stays b t = cond_has (λ (l : List ℕ). T (utf8 l)) stays (b ∷ []) [] (λ e. utf8_char (b ∷ []) t) (λ e. utf8_ascii [] tt)

module _ (stays : Bool → ℕ → Bool) where
  -- ---- a text, byte by byte

  module _ (w : List ℕ) (i : ℕ) (escaped : Bool) where
    pub kept_step : i < length w
        → kept_from stays escaped (drop i w) ≡ cond (stays escaped (get_or w i 0)) (get_or w i 0 ∷ []) [] ++ kept_from stays (escapes escaped (get_or w i 0)) (drop (i + 1) w)
    unfolding kept_from
    kept_step h = rw (add-one, drop-cons w i 0 h)

    pub kept_end : length w ≤ i → kept_from stays escaped (drop i w) ≡ []
    unfolding kept_from
    kept_end h = rw (drop_of_length-le w {i = i} h)

  pub length_kept_from : (escaped : Bool) (w : List ℕ) → length (kept_from stays escaped w) ≤ length w
  unfolding kept_from
  length_kept_from escaped [] = zero-le
  length_kept_from escaped (b ∷ w) = rw length-append (omega (arith, length_kept (stays escaped b) b, length_kept_from (escapes escaped b) w))

  -- ---- UTF-8, where every byte stays that is not ASCII

  module _ (high : (escaped : Bool) (b : ℕ) → 128 ≤ b → stays escaped b ≡ true) where
    -- none of them escapes the next
    high_kept : (escaped : Bool) (b : ℕ) (rest : List ℕ) → T (leb 128 b) → kept_from stays escaped (b ∷ rest) ≡ b ∷ kept_from stays false rest
    unfolding kept_from
    high_kept escaped b rest h =
        let k : 128 ≤ b = leb_yes h in
        rw (high escaped b k, ne_eqb b 92 (λ e. not-suc-le-zero {n = 0} (omega arith)), and-false (not escaped))

    all_kept : (c rest : List ℕ) → T (all (leb 128) c) → kept_from stays false (c ++ rest) ≡ c ++ kept_from stays false rest
    all_kept [] rest h = refl
    all_kept (b ∷ c) rest h =
        let both = and_yes (leb 128 b) (all (leb 128) c) h in
        high_kept false b (c ++ rest) both.0 ∙ ap (λ (l : List ℕ). b ∷ l) (all_kept c rest both.1)

    -- a character, and what is left after it
    char_kept : (escaped : Bool) (c rest : List ℕ) → T (is_char c) → ((e : Bool) → T (utf8 (kept_from stays e rest))) → T (utf8 (kept_from stays escaped (c ++ rest)))
    unfolding kept_from
    char_kept escaped [] rest t more = absurd (not-suc-le-zero (char_some [] t))
    char_kept escaped (b ∷ []) rest t more =
        utf8_append (cond (stays escaped b) (b ∷ []) []) (kept_from stays (escapes escaped b) rest) (kept_utf8 (stays escaped b) b t) (more (escapes escaped b))
    char_kept escaped (b ∷ d ∷ c) rest t more =
        let char : List ℕ = b ∷ d ∷ c in
        let both = and_yes (leb 128 b) (all (leb 128) (d ∷ c)) (char_high char t (omega arith)) in
        rw (high_kept escaped b ((d ∷ c) ++ rest) both.0, all_kept (d ∷ c) rest both.1) (utf8_append char (kept_from stays false rest) (utf8_char char t) (more false))

    chars_kept : (cs : List (List ℕ)) → T (all is_char cs) → (escaped : Bool) → T (utf8 (kept_from stays escaped (joined cs)))
    unfolding kept_from
    chars_kept [] h escaped = utf8_ascii [] tt
    chars_kept (c ∷ cs) h escaped = let both = and_yes (is_char c) (all is_char cs) h in char_kept escaped c (joined cs) both.0 (chars_kept cs both.1)

    pub kept_from_utf8 : (escaped : Bool) (w : List ℕ) → T (utf8 w) → T (utf8 (kept_from stays escaped w))
    unfolding utf8
    kept_from_utf8 escaped w h = rw (chars_joined w) at (chars_kept (chars w) h escaped)

unquoted_high : (escaped : Bool) (b : ℕ) → 128 ≤ b → stays_unquoted escaped b ≡ true
unquoted_high escaped b h = rw (ne_eqb b 34 (λ e. not-suc-le-zero {n = 0} (omega arith)), ne_eqb b 92 (λ e. not-suc-le-zero {n = 0} (omega arith))) (or-true escaped)

pub unquoted_utf8 : (w : List ℕ) → T (utf8 w) → T (utf8 (unquoted w))
unfolding unquoted
unquoted_utf8 w h = kept_from_utf8 stays_unquoted unquoted_high false w h

pub length_unquoted : (w : List ℕ) → length (unquoted w) ≤ length w
unfolding unquoted
length_unquoted w = length_kept_from stays_unquoted false w
