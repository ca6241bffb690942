-- The scan as code makes it: by places in the text, one byte after another. Over any scanner and limit.
use Rattle.std.specs.Prelude.{◌≡◌, Bool, true, false, ◌&&◌, List, ◌∷◌, ℕ, suc, ◌+◌, ◌-◌, ◌≤◌, ◌<◌, T, leb, length, drop, get_or}
use Rattle.std.proofs.Math.Path.{sym}
use Rattle.std.proofs.Common.{◌∙◌, arith, drop_of_length-le, drop-cons}
use Rattle.std.proofs.Math.Numerals.{add-one}
use Rattle.std.proofs.Math.Facts.{and_yes, leb_yes, leb_no}
use Rattle.std.proofs.Common.{le-leb}
use Rattle.std.proofs.lemmas.Bool.{lt-leb}
use borrow.Author.Tests.{ne_eqb}
use Rattle.lists.specs.ListsLaws.{by_test, yes_true, no_false}
use Rattle.line_stop.specs.Scanner.{Scanner, stop_lf, alive, stop_from}

module _ (s : List ℕ) (i : ℕ) where
  front : i < length s → drop i s ≡ get_or s i 0 ∷ drop (i + 1) s
  front h = rw (add-one i) (drop-cons s i 0 h)

  pub lf_yes : i < length s → get_or s i 0 ≡ 10 → i + 1 ≡ i + stop_lf (drop i s)
  unfolding stop_lf
  lf_yes h e = rw (front h, e)

  pub lf_no : i < length s → (get_or s i 0 ≡ 10 → ⊥) → i ≡ i + stop_lf (drop i s)
  unfolding stop_lf
  lf_no h z = rw (front h, ne_eqb (get_or s i 0) 10 z) (omega arith)

  pub lf_end : length s ≤ i → i ≡ i + stop_lf (drop i s)
  unfolding stop_lf
  lf_end h = rw (drop_of_length-le s {i = i} h) (omega arith)

-- whether a line can still be completed, told by the room that is left
module _ {S : Type 0} (a : Scanner S) (limit n : ℕ) (s : S) where
  room : T (alive a limit n s) → n + a.need s ≤ limit
  unfolding alive
  room t = leb_yes {a = n + a.need s} {b = limit} (and_yes (a.live s) (leb (n + a.need s) limit) t).1

  pub alive_never : limit < n → false ≡ alive a limit n s
  alive_never h = sym (no_false (alive a limit n s) (by_test (alive a limit n s) (λ t. absurd (omega (arith, room t))) (λ t. t)))

  pub alive_room : {live : Bool} {need : ℕ} → n ≤ limit → live ≡ a.live s → need ≡ a.need s → live && leb need (limit - n) ≡ alive a limit n s
  unfolding alive
  alive_room {live} {need} h l e =
      rw (← l, ← e)
      (by_test (leb need (limit - n))
      (λ t. rw (yes_true _ t, le-leb (n + need) limit (omega (arith, leb_yes {a = need} {b = limit - n} t))))
      (λ t. rw (no_false _ t, lt-leb (n + need) limit (omega (arith, leb_no {a = need} {b = limit - n} t)))))

-- what a loop has found before the byte at i of the line at `at`, which began in the state `start`
pub record Scanned {S : Type 0} (a : Scanner S) (limit : ℕ) (start : S) (s : List ℕ) (at i : ℕ) (now : S) : Type 0 where
  pub from : at ≤ i
  pub is : at + stop_from a limit 0 start (drop at s) ≡ i + stop_from a limit (i - at) now (drop i s)

-- no byte is left of a line
pub scan_past : {S : Type 0} (a : Scanner S) (limit : ℕ) (start : S) (s : List ℕ) (at : ℕ) → length s ≤ at → at ≡ at + stop_from a limit 0 start (drop at s)
unfolding stop_from
scan_past a limit start s at h = rw (drop_of_length-le s {i = at} h) (omega arith)

module _ {S : Type 0} {a : Scanner S} {limit : ℕ} {start : S} where
  pub scan_none : {s : List ℕ} {at : ℕ} → Scanned a limit start s at at start
  scan_none {s} {at} = record { from = omega arith; is = let e : at - at ≡ 0 = omega arith in rw e }

  module _ {s : List ℕ} {at i : ℕ} {now : S} (w : Scanned a limit start s at i now) where
    pub scan_end_lem : length s ≤ i → i ≡ at + stop_from a limit 0 start (drop at s)
    unfolding stop_from
    scan_end_lem h = sym (w.is ∙ rw (drop_of_length-le s {i = i} h) (omega arith))

    module _ (h : i < length s) where
      pub scan_cr_bad : get_or s i 0 ≡ 13 → a.done now ≡ false → i ≡ at + stop_from a limit 0 start (drop at s)
      unfolding stop_from
      scan_cr_bad e d = sym (w.is ∙ rw (front s i h, e, d) (omega arith))

      pub scan_cr : {r : ℕ} → get_or s i 0 ≡ 13 → a.done now ≡ true → r ≡ i + 1 + stop_lf (drop (i + 1) s) → r ≡ at + stop_from a limit 0 start (drop at s)
      unfolding stop_from
      scan_cr e d q = q ∙ sym (w.is ∙ rw (front s i h, e, d) (omega arith))

      module _ (z : get_or s i 0 ≡ 13 → ⊥) where
        count : suc (i - at) ≡ i + 1 - at
        count = omega (arith, w.from)

        pub scan_bad : {next : S} → next ≡ a.step now (get_or s i 0) → alive a limit (i + 1 - at) next ≡ false → i ≡ at + stop_from a limit 0 start (drop at s)
        unfolding stop_from
        scan_bad p d = sym (w.is ∙ rw (front s i h, ne_eqb (get_or s i 0) 13 z, count, ← p, d) (omega arith))

        pub scan_next : {next : S} → next ≡ a.step now (get_or s i 0) → alive a limit (i + 1 - at) next ≡ true → Scanned a limit start s at (i + 1) next
        unfolding stop_from
        scan_next p d = record { from = omega (arith, w.from); is = w.is ∙ rw (front s i h, ne_eqb (get_or s i 0) 13 z, count, ← p, d) (omega arith) }
