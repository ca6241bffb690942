-- Laws of the lines of an envelope: by position, as code goes through it.
use Rattle.std.specs.Prelude.{◌≡◌, refl, Bool, true, false, ◌&&◌, ℕ, suc, ◌+◌, ◌-◌, ◌≤◌, ◌<◌, eqb, length, drop}
use Rattle.std.proofs.Math.Path.{ap}
use Rattle.std.proofs.Common.{sym, ◌∙◌, eqb→eq, take-append-drop, drop_of_length-le, take-take}
use Rattle.std.proofs.Math.Bool.{and-false}
use mathlib.Core.List.{List, [], ◌∷◌, ◌++◌}
use native.Mathlib.Omega.{arith}
use Rattle.std.proofs.Math.ListN.{take}
use Rattle.std.proofs.Math.Seq.{take-add, drop-drop}
use Rattle.std.proofs.Math.Facts.{and_yes}
use Rattle.lists.specs.Lists.{joined}
use Rattle.lists.specs.ListsLaws.{by_test, yes_true, true_yes, no_false}
use Rattle.lists.specs.CutByLaws.{cut_nil, cut_next, cut_joined}
use Rattle.line.specs.Line.{crlf, line_len}
use Rattle.line.specs.LineLaws.{line_front, crlf_front}
use Rattle.rules.specs.declared.Rules.{Rules}
use Rattle.envelope.specs.Envelope.{lines, line_text, ended_fault, fault_of, texts}

-- the lines joined are the envelope
pub lines_joined : (e : List ℕ) → joined (lines e) ≡ e
unfolding lines
lines_joined e = cut_joined (λ rest. line_len rest + 2) e

-- ---- the line at the front of a text

module _ (s : List ℕ) where
  pub text_front : line_text (take (line_len s + 2) s) ≡ line_text s
  unfolding line_text
  text_front = rw (line_front s) (take-take (line_len s) (line_len s + 2) s (omega arith))

  ended_front : (rules : Rules) (mail : Bool) → ended_fault rules mail (take (line_len s + 2) s) ≡ ended_fault rules mail s
  unfolding ended_fault
  ended_front rules mail = rw (line_front s, crlf_front s, text_front)

  pub fault_front : (rules : Rules) (n : ℕ) → fault_of rules n (take (line_len s + 2) s) ≡ fault_of rules n s
  unfolding fault_of
  fault_front rules n = rw (ended_front rules (eqb n 0))

-- ---- the line at the front of a text is its text and CRLF

crlf_first : (s : List ℕ) → crlf s ≡ true → s ≡ 13 ∷ 10 ∷ drop 2 s
unfolding crlf
crlf_first [] c = absurd (true_yes false c)
crlf_first (a ∷ []) c = absurd (true_yes false (rw and-false at c))
crlf_first (a ∷ b ∷ s) c =
    let p = and_yes (eqb a 13) (eqb b 10) (true_yes (eqb a 13 && eqb b 10) c) in
    rw (eqb→eq a 13 p.0, eqb→eq b 10 p.1)

module _ (s : List ℕ) (c : crlf (drop (line_len s) s) ≡ true) where
  pub text_ended : s ≡ line_text s ++ (13 ∷ 10 ∷ drop (line_len s + 2) s)
  unfolding line_text
  text_ended = rw (← drop-drop 2 (line_len s) s, ← crlf_first (drop (line_len s) s) c, take-append-drop)

  pub front_ended : take (line_len s + 2) s ≡ line_text s ++ (13 ∷ 10 ∷ [])
  unfolding line_text
  front_ended =
      let n = line_len s in
      take-add n 2 s ∙ ap (λ (l : List ℕ). take n s ++ take 2 l) (crlf_first (drop n s) c)

-- where none is, it is all of the text
pub line_whole : (s : List ℕ) → crlf (drop (line_len s) s) ≡ false → line_len s ≡ length s
unfolding line_len
line_whole [] c = refl
line_whole (b ∷ s) c =
    by_test (crlf (b ∷ s))
    (λ t. let yes = yes_true (crlf (b ∷ s)) t in absurd (true_yes false (sym (rw yes at c) ∙ yes)))
    (λ t. let no = no_false (crlf (b ∷ s)) t in rw no (ap suc (line_whole s (rw no at c))))

-- ---- the line at a place; `end` is where its CRLF is due

module _ (s : List ℕ) (i : ℕ) where
  pub lines_end_lem : length s ≤ i → lines (drop i s) ≡ []
  unfolding lines
  lines_end_lem h = rw (drop_of_length-le s {i = i} h) (cut_nil (λ rest. line_len rest + 2))

  pub texts_end : length s ≤ i → texts (drop i s) ≡ []
  unfolding texts
  texts_end h = rw (lines_end_lem h)

  module _ (end : ℕ) (d : end ≡ i + line_len (drop i s)) where
    pub lines_at_lem : i < length s → lines (drop i s) ≡ take (line_len (drop i s) + 2) (drop i s) ∷ lines (drop (end + 2) s)
    unfolding lines
    lines_at_lem h =
        let m : end + 2 - i ≡ line_len (drop i s) + 2 = omega arith in
        rw m at (cut_next (λ rest. line_len rest + 2) s i (end + 2) h (omega arith) (omega arith))

    pub texts_at_lem : i < length s → texts (drop i s) ≡ line_text (drop i s) ∷ texts (drop (end + 2) s)
    unfolding texts
    texts_at_lem h = rw (lines_at_lem h, text_front (drop i s))

    -- the line as code lends it
    pub text_part : {l : List ℕ} → l ≡ take (end - i) (drop i s) → l ≡ line_text (drop i s)
    unfolding line_text
    text_part e = let m : end - i ≡ line_len (drop i s) = omega arith in e ∙ rw m
