-- Laws of the words of a phrase and of its text, as code goes over them.
use Rattle.std.specs.Prelude.{◌≡◌, refl, cond, List, [], ◌∷◌, ◌++◌, map, ℕ, zero, suc, pred, ◌+◌, ◌-◌, ◌*◌, ◌≤◌, ◌<◌, max, eqb, length, take, drop}
use Rattle.std.proofs.Common.{ap, ◌∙◌, zero-le, not-suc-le-zero, arith, drop_of_length-le, length-take, length-append, drop-drop}
use borrow.Author.Tests.{ne_eqb}
use Rattle.std.proofs.Math.ListN.{length-drop}
use Rattle.lists.specs.Run.{run}
use Rattle.line.specs.Line.{blank}
use Rattle.unquote.specs.Unquote.{unquoted}
use Rattle.unquote.specs.UnquoteLaws.{length_unquoted}
use Rattle.phrase.specs.Words.{word_len}
use Rattle.phrase.specs.Phrase.{word_size, words_from, phrase_words, after_spaces, joined_by_spaces, phrase_text}

module _ (t : List ℕ) (at n : ℕ) (q : n ≡ word_len (drop at t)) where
  pub word_to_end : n ≡ 0 → max at (length t) ≡ at + word_size (drop at t)
  unfolding word_size
  word_to_end z = rw (← q, z) (omega (arith, length-drop at t))

  pub word_some : (n ≡ 0 → ⊥) → at + n ≡ at + word_size (drop at t)
  unfolding word_size
  word_some p = rw (← q, ne_eqb _ _ p)

pub word_size_some : (b : ℕ) (t : List ℕ) → 0 < word_size (b ∷ t)
unfolding word_size
word_size_some b t = go (word_len (b ∷ t))
  where
    go : (n : ℕ) → 0 < cond (eqb n 0) (suc (length t)) n
    go zero = omega arith
    go (suc n) = rw (ne_eqb (suc n) 0 (λ e. not-suc-le-zero {n = n} (omega arith))) (omega arith)

phrase_words_skip : (k : ℕ) (t : List ℕ) → words_from k t ≡ words_from 0 (drop k t)
unfolding words_from
phrase_words_skip zero t = refl
phrase_words_skip (suc k) [] = refl
phrase_words_skip (suc k) (b ∷ t) = phrase_words_skip k t

-- the first word, and the words after it and its blanks
pub phrase_words_front : (t : List ℕ) → 0 < length t → words_from 0 t ≡ take (word_size t) t ∷ words_from 0 (drop (word_size t + run blank (drop (word_size t) t)) t)
unfolding words_from
phrase_words_front [] h = absurd (not-suc-le-zero h)
phrase_words_front (b ∷ t) h =
    let n : ℕ = word_size (b ∷ t) + run blank (drop (word_size (b ∷ t)) (b ∷ t)) in
    let k : suc (pred n) ≡ n = omega (arith, word_size_some b t) in
    rw (phrase_words_skip (pred n) t) (ap (λ (m : ℕ). take (word_size (b ∷ t)) (b ∷ t) ∷ words_from 0 (drop m (b ∷ t))) k)

-- a turn: the word at i ends at e, and the blanks after it at f
module _ (t : List ℕ) (i e f : ℕ) (h : i < length t) (qe : e ≡ i + word_size (drop i t)) (qf : f ≡ e + run blank (drop e t)) where
  pub phrase_words_next : words_from 0 (drop i t) ≡ take (e - i) (drop i t) ∷ words_from 0 (drop f t)
  phrase_words_next =
      let n : word_size (drop i t) ≡ e - i = omega arith in
      let b : drop (e - i) (drop i t) ≡ drop e t = (let k : i + (e - i) ≡ e = omega arith in rw (drop-drop, k)) in
      let m : i + (e - i + (f - e)) ≡ f = omega arith in
      let g : run blank (drop e t) ≡ f - e = omega arith in
      phrase_words_front (drop i t) (rw length-drop (omega arith)) ∙ rw (n, b, g, drop-drop, m)

  pub phrase_text_step : after_spaces (map unquoted (words_from 0 (drop i t))) ≡ ((32 ∷ []) ++ unquoted (take (e - i) (drop i t))) ++ after_spaces (map unquoted (words_from 0 (drop f t)))
  unfolding after_spaces
  phrase_text_step = rw phrase_words_next

pub phrase_text_first : (t : List ℕ) (e f : ℕ) → 0 < length t → e ≡ 0 + word_size (drop 0 t) → f ≡ e + run blank (drop e t)
    → phrase_text t ≡ unquoted (take (e - 0) (drop 0 t)) ++ after_spaces (map unquoted (words_from 0 (drop f t)))
unfolding phrase_text phrase_words joined_by_spaces
phrase_text_first t e f h qe qf = rw (phrase_words_next t 0 e f h qe qf)

module _ (t : List ℕ) (i : ℕ) (h : length t ≤ i) where
  pub phrase_words_end : words_from 0 (drop i t) ≡ []
  unfolding words_from
  phrase_words_end = rw (drop_of_length-le t {i = i} h)

  pub phrase_text_end : after_spaces (map unquoted (words_from 0 (drop i t))) ≡ []
  unfolding after_spaces
  phrase_text_end = rw phrase_words_end

pub phrase_text_none : (t : List ℕ) → length t ≡ 0 → [] ≡ phrase_text t
unfolding phrase_text phrase_words joined_by_spaces words_from
phrase_text_none [] h = refl
phrase_text_none (b ∷ t) h = absurd (not-suc-le-zero {n = length t} (omega arith))

after_spaces_le : (k : ℕ) (t : List ℕ) → length (after_spaces (map unquoted (words_from k t))) ≤ 2 * length (drop k t)
unfolding words_from after_spaces unquoted
after_spaces_le k [] = zero-le
after_spaces_le (suc k) (b ∷ t) = after_spaces_le k t
after_spaces_le zero (b ∷ t) =
    let n : ℕ = word_size (b ∷ t) in
    let m : ℕ = pred (n + run blank (drop n (b ∷ t))) in
    rw length-append (omega (arith, after_spaces_le m t, length-drop m t, length-take n (b ∷ t), word_size_some b t, length_unquoted (take n (b ∷ t))))

pub length_phrase_text : (t : List ℕ) → length (phrase_text t) ≤ 2 * length t
unfolding phrase_text phrase_words joined_by_spaces after_spaces
length_phrase_text t = omega (arith, go (map unquoted (words_from 0 t)), after_spaces_le 0 t)
  where
    go : (texts : List (List ℕ)) → length (joined_by_spaces texts) ≤ length (after_spaces texts)
    go [] = zero-le
    go (text ∷ texts) = omega arith
