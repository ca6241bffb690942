-- Bytes that stay as they came may be passed over together, in every field that leaves its plain runs, semicolons and single spaces as they
-- came.
use Rattle.std.specs.Prelude.{◌≡◌, Bool, ◌&&◌, ◌||◌, ℕ, ◌+◌, ◌-◌, ◌<◌, take, drop, get_or}
use Rattle.std.proofs.Math.Path.{refl, sym, ap}
use Rattle.std.proofs.Common.{◌∙◌, drop-drop}
use Rattle.std.proofs.Math.Bool.{true, false, not}
use mathlib.Core.List.{List, [], ◌∷◌, ◌++◌}
use native.Mathlib.Omega.{arith}
use Rattle.std.proofs.Math.Dec.{T, eqb, eqb→eq}
use Rattle.std.proofs.Math.ListN.{length}
use Rattle.std.proofs.Math.Facts.{and_yes}
use Rattle.lists.specs.Byte.{is_ascii}
use Rattle.lists.specs.Lists.{all}
use Rattle.lists.specs.ListsLaws.{by_test, yes_true, true_yes, no_false}
use Rattle.lists.specs.Run.{run}
use Rattle.encoded_word.specs.Segments.{Segment, rendered}
use Rattle.encoded_word.specs.Segments.Segment.{raw}
use Rattle.structured_token.specs.Tokens.{is_white, is_plain, is_plain_ascii, ends_space, is_calm, calm_len, kind_of, size_of}
use Rattle.structured_token.specs.Walk.{Front, clear_all, becoming}
use Rattle.structured_token.proofs.WalkLaws.{At, clear_at, becoming_at}
use Rattle.structured_field.specs.StructuredField.{clear, becomes, structured_front}

-- bytes at the front that stay
abbrev pub raw_front : {S : Type 0} → S → ℕ → List ℕ → Front S Segment
raw_front state n s = record { size = n; clear = all is_ascii (take n s); becomes = raw (take n s) ∷ []; next = state }

module _ {S : Type 0} (front : S → List ℕ → Front S Segment) (state : S) where
  -- a field that leaves them as they came
  pub record Calm : Type 0 where
    pub plain : (b : ℕ) (s : List ℕ) → is_plain b ≡ true → front state (b ∷ s) ≡ raw_front state (run is_plain (b ∷ s)) (b ∷ s)
    pub semicolon : (s : List ℕ) → front state (59 ∷ s) ≡ raw_front state 1 (59 ∷ s)
    pub space : (s : List ℕ) → ends_space (get_or s 0 0) ≡ true → front state (32 ∷ s) ≡ raw_front state 1 (32 ∷ s)

  -- the first n bytes stay, and the value goes on after them
  record Stays (n : ℕ) (s : List ℕ) : Type 0 where
    clear : clear_all front state s ≡ all is_ascii (take n s) && clear_all front state (drop n s)
    bytes : rendered (becoming front state s) ≡ take n s ++ rendered (becoming front state (drop n s))

  stays_none : (s : List ℕ) → Stays 0 s
  stays_none s = record { clear = refl; bytes = refl }

  stays_front : (n b : ℕ) (s : List ℕ) → 0 < n → front state (b ∷ s) ≡ raw_front state n (b ∷ s) → Stays n (b ∷ s)
  unfolding rendered
  stays_front n b s h e =
      let a : At front state (b ∷ s) 0 n (raw_front state n (b ∷ s)) = record { is = e; end = omega arith; some = λ l. h } in
      let there : 0 < length (b ∷ s) = omega arith in
      record {
        clear = clear_at front there a;
        bytes = ap rendered (becoming_at front there a);
      }

  module _ (x : Calm) where
    stays_plain : (s : List ℕ) → Stays (run is_plain s) s
    unfolding run
    stays_plain [] = stays_none []
    stays_plain (b ∷ s) =
        by_test (is_plain b)
        (λ t. let e = yes_true (is_plain b) t in stays_front (run is_plain (b ∷ s)) b s (rw e (omega arith)) (x.plain b s e))
        (λ t. rw (no_false (is_plain b) t) (stays_none (b ∷ s)))

    -- a byte that stays
    record Passed (n : ℕ) (s : List ℕ) : Type 0 where
      clear : clear_all front state s ≡ clear_all front state (drop n s)
      bytes : rendered (becoming front state s) ≡ take n s ++ rendered (becoming front state (drop n s))

    passed_plain : (b : ℕ) (s : List ℕ) → is_plain b ≡ true → is_ascii b ≡ true → Passed 1 (b ∷ s)
    unfolding run
    passed_plain b s p a =
        let first = stays_plain (b ∷ s) in
        let later = stays_plain s in
        record {
          clear = (rw (p, a) at first.clear) ∙ sym later.clear;
          bytes = (rw p at first.bytes) ∙ ap (λ (l : List ℕ). b ∷ l) (sym later.bytes);
        }

    passed_one : (b : ℕ) (s : List ℕ) → is_ascii b ≡ true → front state (b ∷ s) ≡ raw_front state 1 (b ∷ s) → Passed 1 (b ∷ s)
    passed_one b s a e = let k = stays_front 1 b s (omega arith) e in record { clear = rw a at k.clear; bytes = k.bytes }

    passed_byte : (b : ℕ) (s : List ℕ) → T (is_calm b (get_or s 0 0)) → Passed 1 (b ∷ s)
    unfolding is_calm
    passed_byte b s h =
        by_test (is_plain_ascii b)
        (λ t.
        let both = and_yes (not (eqb b 32 || eqb b 9 || eqb b 13 || eqb b 10 || eqb b 34 || eqb b 40)) (is_ascii b) t in
        let ascii = yes_true (is_ascii b) both.1 in
        by_test (eqb b 59)
        (λ u. let e : b ≡ 59 = eqb→eq b 59 u in rw e (passed_one 59 s refl (x.semicolon s)))
        (λ u. passed_plain b s (plain (is_white b) (eqb b 34) (eqb b 40) (eqb b 59) both.0 u) ascii))
        (λ t.
        let space = and_yes (eqb b 32) (ends_space (get_or s 0 0)) (rw (no_false (is_plain_ascii b) t) at h) in
        let e : b ≡ 32 = eqb→eq b 32 space.0 in
        rw e (passed_one 32 s refl (x.space s (yes_true (ends_space (get_or s 0 0)) space.1))))
      where
        plain : (w q p m : Bool) → T (not (w || q || p)) → T (not m) → not (w || q || p || m) ≡ true
        plain true q p m h k = absurd h
        plain false true p m h k = absurd h
        plain false false true m h k = absurd h
        plain false false false true h k = absurd k
        plain false false false false h k = refl

    passed_all : (s : List ℕ) → Passed (calm_len s) s
    unfolding calm_len
    passed_all [] = record { clear = refl; bytes = refl }
    passed_all (b ∷ s) =
        let later = passed_all s in
        by_test (is_calm b (get_or s 0 0))
        (λ t.
        let first = passed_byte b s t in
        rw (yes_true (is_calm b (get_or s 0 0)) t)
        (record { clear = first.clear ∙ later.clear; bytes = first.bytes ∙ ap (λ (l : List ℕ). b ∷ l) later.bytes }))
        (λ t. rw (no_false (is_calm b (get_or s 0 0)) t) (record { clear = refl; bytes = refl }))

    -- by position
    module _ (s : List ℕ) (i e : ℕ) (q : e ≡ i + calm_len (drop i s)) where
      there : drop (calm_len (drop i s)) (drop i s) ≡ drop e s
      there = drop-drop (calm_len (drop i s)) i s ∙ ap (λ n. drop n s) (sym q)

      pub calm_clear : clear_all front state (drop i s) ≡ clear_all front state (drop e s)
      calm_clear = rw there at (passed_all (drop i s)).clear

      pub calm_bytes : rendered (becoming front state (drop i s)) ≡ take (e - i) (drop i s) ++ rendered (becoming front state (drop e s))
      calm_bytes = let size : calm_len (drop i s) ≡ e - i = omega (arith, q) in rw (there, size) at (passed_all (drop i s)).bytes

-- structured fields leave them as they came, whether a comment may start or not

pub lone_space : (s : List ℕ) → ends_space (get_or s 0 0) ≡ true → run is_white s ≡ 0
unfolding run
lone_space [] e = refl
lone_space (b ∷ s) e = rw (no_false (is_white b) (white (is_white b) (eqb b 102) (eqb b 70) (true_yes (ends_space b) e)))
  where
    white : (x y z : Bool) → T (not (x || y || z)) → T (not x)
    white false y z h = tt
    white true y z h = absurd h

module _ (comments : Bool) where
  plain_front : (b : ℕ) (s : List ℕ) → is_plain b ≡ true → structured_front comments (b ∷ s) ≡ raw_front comments (run is_plain (b ∷ s)) (b ∷ s)
  unfolding clear becomes kind_of size_of
  plain_front b s e = rw e

  semicolon_front : (s : List ℕ) → structured_front comments (59 ∷ s) ≡ raw_front comments 1 (59 ∷ s)
  unfolding clear becomes kind_of size_of
  semicolon_front s = refl

  white_size : (s : List ℕ) → run is_white s ≡ 0 → run is_white (32 ∷ s) ≡ 1
  unfolding run
  white_size s e = rw e

  space_front : (s : List ℕ) → ends_space (get_or s 0 0) ≡ true → structured_front comments (32 ∷ s) ≡ raw_front comments 1 (32 ∷ s)
  unfolding clear becomes kind_of size_of
  space_front s e = rw (white_size s (lone_space s e))

  pub structured_calm : Calm structured_front comments
  structured_calm = record { plain = plain_front; semicolon = semicolon_front; space = space_front }
