-- A run, from one byte that ends it or escapes the next to another.
use Rattle.std.specs.Prelude.{◌≡◌, Bool, true, false, not, ◌||◌, ℕ, ◌+◌, ◌≤◌, ◌<◌, eqb, length, drop, get_or}
use Rattle.std.proofs.Math.Path.{refl}
use Rattle.std.proofs.Common.{sym, ◌∙◌, arith, ne_eqb, length-drop, drop-drop, get_or-drop}
use Rattle.std.proofs.Math.Bool.{and-false}
use mathlib.Core.List.{List, [], ◌∷◌}
use Rattle.std.proofs.Math.Facts.{or_no}
use Rattle.lists.specs.ListsLaws.{by_test, no_false}
use Rattle.lists.specs.Run.{run}
use Rattle.lists.specs.RunLaws.{run_after}
use Rattle.comment.specs.Comment.{is_text, run_to}
use Rattle.comment.proofs.CommentLaws.{run_more, run_stop, run_over}

module _ (f : ℕ → Bool) where
  text_skip : (s : List ℕ) → run_to f false s ≡ run (is_text f) s + run_to f false (drop (run (is_text f) s) s)
  unfolding run run_to
  text_skip [] = refl
  text_skip (b ∷ s) =
      let ih = text_skip s in
      by_test (is_text f b)
      (λ t.
      let both = or_no (f b) (eqb b 92) t in
      rw (no_false (f b) both.0, no_false (eqb b 92) both.1) (omega arith))
      (λ t. rw (no_false (is_text f b) t) (omega arith))

  -- the text from i on goes to p
  module _ (s : List ℕ) (i p : ℕ) (r : p ≡ i + run (is_text f) (drop i s)) where
    pub text_passed : i + run_to f false (drop i s) ≡ p + run_to f false (drop p s)
    text_passed =
        let e : drop (run (is_text f) (drop i s)) (drop i s) ≡ drop p s = drop-drop (run (is_text f) (drop i s)) i s ∙ rw (← r) in
        let k = text_skip (drop i s) in
        let q : run_to f false (drop i s) ≡ run (is_text f) (drop i s) + run_to f false (drop p s) = rw e at k in
        omega (arith, q)

    pub text_over : length s ≤ p → i + run_to f false (drop i s) ≡ p
    text_over h = text_passed ∙ run_over f s p false h

    module _ (h : p < length s) where
      -- the byte there ends the run, or it is a backslash
      pub text_stop : (get_or s p 0 ≡ 92 → ⊥) → f (get_or s p 0) ≡ true
      text_stop n =
          let here : get_or (drop i s) (run (is_text f) (drop i s)) 0 ≡ get_or s p 0 = get_or-drop i s (run (is_text f) (drop i s)) 0 ∙ rw (← r) in
          let stops : is_text f (get_or s p 0) ≡ false = rw (← here) (run_after (is_text f) (drop i s) (omega (arith, length-drop i s))) in
          go (f (get_or s p 0)) (rw (ne_eqb (get_or s p 0) 92 n) at stops)
        where
          go : (x : Bool) → not (x || false) ≡ false → x ≡ true
          go true e = refl
          go false e = sym e

      pub text_found : (get_or s p 0 ≡ 92 → ⊥) → i + run_to f false (drop i s) ≡ p
      text_found n = text_passed ∙ run_stop f s p false h (rw (text_stop n))

      -- a backslash, which no test of a run passes, and the byte after it
      module _ (z : f 92 ≡ false) (e : get_or s p 0 ≡ 92) where
        first : p + run_to f false (drop p s) ≡ p + 1 + run_to f true (drop (p + 1) s)
        first = run_more f s p false h (rw (e, z)) ∙ rw e

        pub text_last : length s ≤ p + 1 → i + run_to f false (drop i s) ≡ p + 1
        text_last k = text_passed ∙ (first ∙ run_over f s (p + 1) true k)

        pub text_escaped : p + 1 < length s → i + run_to f false (drop i s) ≡ p + 1 + 1 + run_to f false (drop (p + 1 + 1) s)
        text_escaped k = text_passed ∙ (first ∙ run_more f s (p + 1) true k (and-false (f (get_or s (p + 1) 0))))
