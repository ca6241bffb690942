-- What callers rely on determines the choice: it is the one of the sentence.
use Rattle.std.specs.Prelude.{◌≡◌, ℕ, zero, suc, ◌+◌, ◌-◌, min, length, drop}
use Rattle.std.proofs.Math.Path.{refl, sym}
use Rattle.std.proofs.Common.{ap, ◌∙◌, T_not, length-append, length-take, take_at, drop-drop}
use mathlib.Core.List.{List, [], ◌∷◌, ◌++◌, nil≢cons}
use Rattle.std.proofs.Math.Numerals.{unary_clauses}
use native.Mathlib.Omega.{arith}
use Rattle.std.proofs.Math.ListN.{take}
use Rattle.lists.specs.Lists.{joined}
use Rattle.lists.specs.ListsLaws.{joined_append}
use Rattle.utf8.specs.Utf8.{char_len, chars}
use Rattle.utf8.specs.Utf8Laws.{chars_nil, chars_cons, chars_joined}
use Rattle.row.specs.declared.Encoding.{Encoding}
use Rattle.row.specs.declared.Encoding.TheVariants.{Q, B}
use Rattle.row.specs.Row.{holds}
use Rattle.row.specs.Choice.{held, holds_more}
use Rattle.row.proofs.ChoiceLaws.{run_taken, more_in_b}
use Rattle.row.specs.WordEnd.{Span, WordEnd}
use Rattle.row.proofs.WordEndLaws.{length_span}
use Rattle.word_choice.specs.declared.Choice.{Choice}
use Rattle.word_choice.specs.declared.Choice.TheVariants.{InQ, InB}
use Rattle.word_choice.specs.Choice.{AlsoInQ, Chosen, choice_in, choice_of}

-- ---- the first characters of a text

drop_min : (n : ℕ) (l : List ℕ) → drop (min n (length l)) l ≡ drop n l
drop_min zero l = simp unary_clauses
drop_min (suc n) [] = simp unary_clauses
drop_min (suc n) (x ∷ l) = simp unary_clauses (drop_min n l)

-- what is left after them is cut into the others
chars_after : (run rest : List (List ℕ)) (s : List ℕ) → chars s ≡ run ++ rest → chars (drop (length (joined run)) s) ≡ rest
chars_after [] rest s e = e
chars_after (c ∷ run) rest [] e = absurd (nil≢cons (sym chars_nil ∙ e))
chars_after (c ∷ run) rest (b ∷ t) e =
    let n = char_len b in
    let both : take n (b ∷ t) ∷ chars (drop n (b ∷ t)) ≡ c ∷ (run ++ rest) = sym (chars_cons b t) ∙ e in
    let first : take n (b ∷ t) ≡ c = cc in
    let more : chars (drop n (b ∷ t)) ≡ run ++ rest = cc in
    let size : length c ≡ min n (length (b ∷ t)) = ap length (sym first) ∙ length-take n (b ∷ t) in
    let whole : length (c ++ joined run) ≡ length c + length (joined run) = length-append c (joined run) in
    rw (whole, ← drop-drop (length (joined run)) (length c) (b ∷ t), size, drop_min n (b ∷ t)) (chars_after run rest (drop n (b ∷ t)) more)

-- their bytes are its first
whole_of : (s : List ℕ) (run rest : List (List ℕ)) → chars s ≡ run ++ rest → s ≡ joined run ++ joined rest
whole_of s run rest e = sym (chars_joined s) ∙ ap joined e ∙ joined_append run rest

bytes_of : (s : List ℕ) (run rest : List (List ℕ)) → chars s ≡ run ++ rest → take (length (joined run)) s ≡ joined run
bytes_of s run rest e = ap (take (length (joined run))) (whole_of s run rest e) ∙ take_at (joined run) (joined rest) (length (joined run)) refl

span_of : (s : List ℕ) (run rest : List (List ℕ)) → chars s ≡ run ++ rest → Span s 0 (length (joined run))
span_of s run rest e =
    let size : length (joined run) - 0 ≡ length (joined run) = omega arith in
    record {
      run = run;
      ahead = omega arith;
      within = omega (arith, ap length (whole_of s run rest e), length-append (joined run) (joined rest));
      joins = e ∙ ap (λ (l : List (List ℕ)). run ++ l) (sym (chars_after run rest s e));
      bytes = rw size (sym (bytes_of s run rest e));
    }

-- ---- the choice

module _ (room : ℕ) (s : List ℕ) where
  -- Q holds what B holds: then B does not hold more
  in_q_lem : AlsoInQ room s → InQ ≡ choice_of room s
  unfolding choice_of
  in_q_lem a = go (holds_more room (chars s)) refl
    where
      go : (k : Encoding) → holds_more room (chars s) ≡ k → InQ ≡ choice_in k (held room B (chars s)).0
      go Q e = refl
      go B e =
          let m = more_in_b room (chars s) e in
          let run = (held room B (chars s)).0 in
          let p = span_of s run (held room B (chars s)).1 m.0 in
          let front : take (length (joined run)) s ≡ joined run = bytes_of s run (held room B (chars s)).1 m.0 in
          absurd (T_not (holds room (joined run) Q) m.2 (rw front at (a.also (length (joined run)) p (rw front m.1))))

  -- the word of the row in B
  in_b : (e : ℕ) → WordEnd room s 0 e B → InB e ≡ choice_of room s
  unfolding choice_of
  in_b e w =
      let run = w.span.run in
      let rest = chars (drop e s) in
      let k = run_taken room run rest w.fits w.full in
      let cs : chars s ≡ run ++ rest = w.span.joins in
      let kind : holds_more room (run ++ rest) ≡ B = sym k.kind ∙ rw w.span.bytes (sym w.kind) in
      let is : held room B (run ++ rest) ≡ (run, rest) = rw kind at k.is in
      rw (cs, kind, is, length_span w.span) (ap InB (same e))
    where
      same : (e : ℕ) → e ≡ e - 0
      same e = omega arith

pub chosen_is : (room : ℕ) (s : List ℕ) (r : Choice) → Chosen room s r → r ≡ choice_of room s
chosen_is room s InQ a = in_q_lem room s a
chosen_is room s (InB e) w = in_b room s e w

-- as code promises both
pub chosen_both : (room : ℕ) (s : List ℕ) {r : Choice} → Chosen room s r → (r ≡ choice_of room s) × Chosen room s r
chosen_both room s {r} c = (chosen_is room s r c, c)
