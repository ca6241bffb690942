-- Laws of what is written: by the line starts that the check stored.
use Rattle.std.specs.Prelude.{◌≡◌, refl, Bool, true, false, List, [], ◌∷◌, ◌++◌, map, ltb, length, take, drop, Ok}
use Rattle.std.proofs.Common.{ap, sym, ◌∙◌, add-zero, not-suc-le-zero, le_of_suc-le-suc, length-take, length-drop, get_or-drop}
use Prim.Native.Nat.{ℕ, zero, suc, ◌+◌, ◌-◌, ◌≤◌, ◌<◌, min}
use native.Mathlib.Omega.{arith}
use Rattle.std.proofs.Math.ListN.{get_or}
use Rattle.std.proofs.Math.Seq.{drop-drop, take-nil}
use Rattle.std.proofs.Math.Facts.{ltb_yes, ltb_no}
use Rattle.lists.specs.Lists.{joined}
use Rattle.lists.specs.ListsLaws.{by_test}
use Rattle.lists.specs.CutBy.{cut_by, cut_after}
use Rattle.buffer.specs.Buffer.{overlay, AppendedCapped, ReachedCapped, greatest}
use Rattle.buffer.specs.BufferLaws.{length_overlay, overlay_front, capped_start, capped_turn, capped_end, capped_then}
use Rattle.line.specs.Line.{line_len}
use Rattle.rules.specs.declared.Rules.{Rules}
use Rattle.envelope_line.specs.EnvelopeLine.{path, written_line, replacement}
use Rattle.envelope.specs.Envelope.{lines, line_text, fault_of, counted, checked_from, checked, texts, written_ended, written_of, mail_of, mail_replacement, only_rcpt_of}
use Rattle.envelope.specs.LineStarts.{starts_from, rcpt_starts, EnvelopeChecked, entries, texts_at}
use Rattle.envelope.proofs.LinesLaws.{text_front, fault_front, lines_end_lem, lines_at_lem, texts_at_lem}
use Rattle.envelope.proofs.CheckLaws.{fine_end}
use Rattle.envelope.proofs.PassedLaws.{passed_line, passed_count}

pub added_line : (mail : Bool) {l text before after : List ℕ} {next r : ℕ} → l ≡ text → AppendedCapped (written_line mail l ++ (13 ∷ 10 ∷ [])) next before after r
    → AppendedCapped (written_ended mail text) next before after r
unfolding written_ended
added_line mail q w = rw q at w

-- ---- RCPT lines, one start after another

-- what is written for the RCPT lines that start at given places
abbrev pub rcpts_written : List ℕ → List ℕ → List ℕ
rcpts_written e starts = joined (map (written_ended false) (map (λ at. line_text (drop at e)) starts))

-- the entries from k on of the first n
abbrev pub entries_from : ℕ → ℕ → List ℕ → List ℕ
entries_from k n array = entries (n - k) (drop k array)

pub rcpts_first : (e array : List ℕ) (n : ℕ) (before : List ℕ) (start : ℕ) → start ≤ greatest
    → ReachedCapped (rcpts_written e (entries n array)) (rcpts_written e (entries_from 0 n array)) start before before start
rcpts_first e array n before start h = let m : n - 0 ≡ n = omega arith in rw m (capped_start (rcpts_written e (entries n array)) start before h)

module _ (e array : List ℕ) {n k : ℕ} {before : List ℕ} {start : ℕ} where
  pub rcpts_next : {at : ℕ} {mid after : List ℕ} {next r : ℕ} → k < n → at ≡ get_or array k 0
      → ReachedCapped (rcpts_written e (entries n array)) (rcpts_written e (entries_from k n array)) start before mid next
      → AppendedCapped (written_ended false (line_text (drop at e))) next mid after r → length before ≤ greatest
      → ReachedCapped (rcpts_written e (entries n array)) (rcpts_written e (entries_from (k + 1) n array)) start before after r
  unfolding entries
  rcpts_next {at} l q v w g =
      let m : n - k ≡ suc (n - (k + 1)) = omega arith in
      let here : at ≡ get_or (drop k array) 0 0 = rw (get_or-drop k array 0 0, add-zero) q in
      capped_turn v (rw (m, drop-drop, here)) w g

  pub rcpts_last : {after : List ℕ} {next : ℕ} → n ≤ k
      → ReachedCapped (rcpts_written e (entries n array)) (rcpts_written e (entries_from k n array)) start before after next
      → AppendedCapped (rcpts_written e (entries n array)) start before after next
  unfolding entries
  rcpts_last l v = let m : n - k ≡ 0 = omega arith in capped_end v (rw m)

pub all_written : (e array : List ℕ) (n count : ℕ) {before mid after : List ℕ} {next r : ℕ} → AppendedCapped (written_ended true (line_text e)) 0 before mid next
    → AppendedCapped (rcpts_written e (entries n array)) next mid after r → n ≡ min count 100 → length before ≤ greatest
    → AppendedCapped (written_of (texts_at count array e)) 0 before after r
unfolding written_of texts_at
all_written e array n count v w q h = rw q at (capped_then v w h)

-- ---- for the header

not_one : (mail : List ℕ) (rcpts : List (List ℕ)) → (length rcpts ≡ 1 → ⊥) → [] ≡ only_rcpt_of (mail ∷ rcpts)
unfolding only_rcpt_of
not_one mail [] h = refl
not_one mail (rcpt ∷ []) h = absurd (h refl)
not_one mail (rcpt ∷ next ∷ more) h = refl

length_map : (f : ℕ → List ℕ) (xs : List ℕ) → length (map f xs) ≡ length xs
length_map f [] = refl
length_map f (x ∷ xs) = ap suc (length_map f xs)

length_entries : (n : ℕ) (array : List ℕ) → length (entries n array) ≡ n
unfolding entries
length_entries zero array = refl
length_entries (suc n) array = ap suc (length_entries n (drop 1 array))

module _ (e array : List ℕ) (count : ℕ) where
  pub replaced_other : (count ≡ 1 → ⊥) → [] ≡ only_rcpt_of (texts_at count array e)
  unfolding texts_at
  replaced_other n =
      let starts = entries (min count 100) array in
      not_one (line_text e) (map (λ at. line_text (drop at e)) starts)
      (λ k. n (omega (arith, length_map (λ at. line_text (drop at e)) starts, length_entries (min count 100) array)))

  pub replaced_one : {l : List ℕ} → count ≡ 1 → l ≡ line_text (drop (get_or array 0 0) e) → replacement false l ≡ only_rcpt_of (texts_at count array e)
  unfolding texts_at only_rcpt_of entries
  replaced_one q f = rw (q, f)

empty_mail : replacement true (line_text []) ≡ mail_replacement []
unfolding mail_replacement mail_of texts lines cut_by cut_after line_text line_len replacement path
empty_mail = rw take-nil

front_mail : (e : List ℕ) → 0 < length e → replacement true (line_text e) ≡ mail_replacement e
unfolding mail_replacement mail_of
front_mail e h = rw (texts_at_lem e 0 (line_len e) (omega arith) h)

pub replaced_mail : (e : List ℕ) {l : List ℕ} → l ≡ line_text e → replacement true l ≡ mail_replacement e
replaced_mail e f = rw f (go e)
  where
    go : (e : List ℕ) → replacement true (line_text e) ≡ mail_replacement e
    go [] = empty_mail
    go (b ∷ s) = front_mail (b ∷ s) (omega arith)

-- ---- the starts that the check stored

-- the lines that start there
starts_texts : (rules : Rules) (e : List ℕ) (n at m : ℕ) (ls : List (List ℕ)) → ls ≡ lines (drop at e) → checked_from rules n ls ≡ Ok m
    → map (λ start. line_text (drop start e)) (starts_from rules n at ls) ≡ map line_text ls
unfolding starts_from
starts_texts rules e n at m [] q p = refl
starts_texts rules e n at m (line ∷ more) q p =
    let f = passed_line rules n m line more p in
    by_test (ltb at (length e))
    (λ t. let s = drop at e in
    let cut = q ∙ lines_at_lem e at (at + line_len s) refl (ltb_yes {a = at} {b = length e} t) in
    let a : line ≡ take (line_len s + 2) s = cc in
    let b : more ≡ lines (drop (at + line_len s + 2) e) = cc in
    let text : line_text s ≡ line_text line = rw a (sym (text_front s)) in
    let g : fault_of rules n s ≡ Ok tt = rw (← fault_front s rules n, ← a) f.0 in
    let to : at + line_len s + 2 ≡ at + length line = rw a (omega (arith, length-take (line_len s + 2) s, length-drop at e, fine_end rules e at (at + line_len s) n refl g)) in
    let rest = starts_texts rules e (suc n) (at + length line) m more (rw (← to) b) f.1 in
    rw (f.0, text, rest))
    (λ t. absurd (let z = q ∙ lines_end_lem e at (ltb_no {a = at} {b = length e} t) in let y : ◌≡◌ {A = ℕ} 0 1 = cc in omega arith))

-- the first line and the RCPT lines; as many starts as RCPT lines, at most 100
rcpts_texts : (rules : Rules) (e : List ℕ) (m : ℕ) (ls : List (List ℕ)) → ls ≡ lines e → checked_from rules 0 ls ≡ Ok m
    → (line_text e ∷ map (λ at. line_text (drop at e)) (drop 1 (starts_from rules 0 0 ls)) ≡ map line_text ls) × (length (drop 1 (starts_from rules 0 0 ls)) ≡ m) × (m ≤ 100)
unfolding starts_from counted checked_from
rcpts_texts rules e m [] q p = absurd (let z : ◌≡◌ {A = ℕ} 0 1 = cc in omega arith)
rcpts_texts rules e m (mail ∷ rcpts) q p =
    let f = passed_line rules 0 m mail rcpts p in
    let k = passed_count rules 0 (0 + length mail) m rcpts (omega arith) f.1 in
    (rw f.0 (rw f.0 at (starts_texts rules e 0 0 m (mail ∷ rcpts) q p)), rw f.0 (omega (arith, k.0)), k.1)

entries_take : (n : ℕ) (array : List ℕ) → n ≤ length array → entries n array ≡ take n array
unfolding entries
entries_take zero array h = refl
entries_take (suc n) [] h = absurd (not-suc-le-zero h)
entries_take (suc n) (x ∷ array) h = ap (λ (xs : List ℕ). x ∷ xs) (entries_take n array (le_of_suc-le-suc h))

-- the lines that are found by the starts that the check stored in an array of 100 are the lines of the envelope
pub stored : {rules : Rules} {e before after : List ℕ} {m : ℕ} → EnvelopeChecked rules e before after (Ok m) → length before ≡ 100 → texts_at m after e ≡ texts e
unfolding texts_at texts checked rcpt_starts
stored {rules} {e} {before} {after} {m} c h =
    let starts = drop 1 (starts_from rules 0 0 (lines e)) in
    let k = rcpts_texts rules e m (lines e) refl (sym c.answer) in
    let q : min m 100 ≡ length starts = omega (arith, k.1, k.2) in
    let fits : length starts ≤ length (overlay starts before) = rw length_overlay (omega (arith, k.1, k.2)) in
    rw (q, c.starts, entries_take (length starts) (overlay starts before) fits, overlay_front starts before (omega (arith, k.1, k.2))) k.0
