-- Where UTF-8 may be cut: at the ends of a comment and of each of its parts. The text of a run is UTF-8.
use Rattle.std.proofs.Common.{ne_eqb, eqb-true, not-suc-le-zero, arith, lt→ltb, drop_of_length-le, take-append-drop, drop-cons, take_all, take-suc}
use Rattle.std.specs.Prelude.{◌≡◌, refl, Bool, true, false, cond, ◌||◌, T, ltb, eqb, length, drop, get_or}
use Rattle.std.proofs.Math.Bool.{or-true}
use mathlib.Core.List.{List, [], ◌∷◌, ◌++◌, append_assoc}
use Prim.Native.Nat.{ℕ, zero, suc, pred, ◌≤◌, ◌<◌}
use Rattle.std.proofs.Math.ListN.{take}
use Rattle.std.proofs.Math.Facts.{and_yes, yes_and, ltb_yes, ltb_no}
use Rattle.lists.specs.Byte.{is_ascii}
use Rattle.lists.specs.CutBy.{cut_after, cut_by}
use Rattle.lists.specs.Lists.{all}
use Rattle.lists.specs.ListsLaws.{by_test}
use Rattle.utf8.specs.Utf8.{utf8}
use Rattle.utf8.specs.Utf8Laws.{utf8_ascii, utf8_right, utf8_append, utf8_cut}
use Rattle.unquote.specs.UnquoteLaws.{length_kept_from, kept_from_utf8}
use Rattle.comment.specs.Comment.{is_paren, comment_len, run_to, run_len}
use Rattle.comment.proofs.CommentLaws.{stops}
use Rattle.comment.specs.Grammar.{Comment, comment}
use Rattle.comment.proofs.GrammarLaws.{taken_comment}
use Rattle.comment.specs.Parts.{part_len, parts, stays_in_run, run_text}
use Rattle.comment.proofs.PartsLaws.{part_some}

-- what stands before n and from n on is UTF-8
abbrev pub Cut : List ℕ → ℕ → Type 0
Cut s n = T (utf8 (take n s)) × T (utf8 (drop n s))

-- before an ASCII byte, or at the end
cut_before : (s : List ℕ) (n : ℕ) → T (utf8 s) → (n < length s → get_or s n 0 < 128) → Cut s n
cut_before s n h k =
    by_test (ltb n (length s))
    (λ t.
    let less : n < length s = ltb_yes t in
    let rest : drop n s ≡ get_or s n 0 ∷ drop (suc n) s = drop-cons s n 0 less in
    let whole : T (utf8 (take n s ++ (get_or s n 0 ∷ drop (suc n) s))) = rw (← rest, take-append-drop n s) h in
    rw rest (utf8_cut (take n s) (get_or s n 0) (drop (suc n) s) (k less) whole))
    (λ t.
    let over : length s ≤ n = ltb_no t in
    rw (take_all n s over, drop_of_length-le s {i = n} over) (h, utf8_ascii [] tt))

-- after an ASCII byte at the front
cut_first : (b : ℕ) (s : List ℕ) → T (utf8 (b ∷ s)) → b < 128 → Cut (b ∷ s) 1
cut_first b s h k =
    let one : T (utf8 (b ∷ [])) = utf8_ascii (b ∷ []) (yes_and (is_ascii b) true (lt→ltb b 128 k) tt) in
    (one, rw (utf8_right (b ∷ []) s one) at h)

-- where a list that passes f, its front part passing g, is cut into two that pass f, all its parts pass f
module _ (size : List ℕ → ℕ) (f g : List ℕ → Bool)
    (both : (b : ℕ) (s : List ℕ) → T (f (b ∷ s)) → T (g (take (suc (pred (size (b ∷ s)))) (b ∷ s)))
    → T (f (take (suc (pred (size (b ∷ s)))) (b ∷ s))) × T (f (drop (suc (pred (size (b ∷ s)))) (b ∷ s)))) where
  after_pass : (k : ℕ) (s : List ℕ) → T (f (drop k s)) → T (all g (cut_after size k s)) → T (all f (cut_after size k s))
  unfolding cut_after
  after_pass k [] h q = tt
  after_pass (suc k) (b ∷ s) h q = after_pass k s h q
  after_pass zero (b ∷ s) h q =
      let more = pred (size (b ∷ s)) in
      let first = take (suc more) (b ∷ s) in
      let given = and_yes (g first) (all g (cut_after size more s)) q in
      let two = both b s h given.0 in
      yes_and (f first) (all f (cut_after size more s)) two.0 (after_pass more s two.1 given.1)

  pub parts_pass : (s : List ℕ) → T (f s) → T (all g (cut_by size s)) → T (all f (cut_by size s))
  unfolding cut_by
  parts_pass s h q = after_pass 0 s h q

abbrev any : List ℕ → Bool
any s = true

all_any : (ps : List (List ℕ)) → T (all any ps)
all_any [] = tt
all_any (p ∷ ps) = all_any ps

-- ---- a comment

comment_end_lem : {c : List ℕ} → Comment c → (rest : List ℕ) → T (utf8 (c ++ rest)) → T (utf8 c) × T (utf8 rest)
comment_end_lem (comment {c} i) rest h =
    let whole : T (utf8 ((40 ∷ c) ++ (41 ∷ rest))) = rw (append_assoc c (41 ∷ []) rest) at h in
    let two = utf8_cut (40 ∷ c) 41 rest (omega arith) whole in
    let close : T (utf8 (41 ∷ [])) = utf8_ascii (41 ∷ []) tt in
    (utf8_append (40 ∷ c) (41 ∷ []) two.0 close, rw (utf8_right (41 ∷ []) rest close) at two.1)

pub comment_cut : (s : List ℕ) → 0 < comment_len s → T (utf8 s) → Cut s (comment_len s)
comment_cut s k h = comment_end_lem (taken_comment s k) (drop (comment_len s) s) (rw (take-append-drop (comment_len s) s) h)

-- ---- parts

paren_ascii : (b : ℕ) → is_paren b ≡ true → b < 128
paren_ascii b e = go (eqb b 40) (eqb b 41) refl refl e
  where
    go : (x y : Bool) → eqb b 40 ≡ x → eqb b 41 ≡ y → x || y ≡ true → b < 128
    go true y p q e = omega (arith, eqb-true b 40 p)
    go false true p q e = omega (arith, eqb-true b 41 q)
    go false false p q e = absurd (let z : ◌≡◌ {A = ℕ} 0 1 = cc in omega arith)

part_cut : (b : ℕ) (s : List ℕ) → T (utf8 (b ∷ s)) → Cut (b ∷ s) (part_len (b ∷ s))
unfolding part_len run_len
part_cut b s h = go (is_paren b) refl
  where
    go : (x : Bool) → is_paren b ≡ x → Cut (b ∷ s) (cond x 1 (run_to is_paren false (b ∷ s)))
    go true e = cut_first b s h (paren_ascii b e)
    go false e = cut_before (b ∷ s) (run_to is_paren false (b ∷ s)) h (λ k. paren_ascii (get_or (b ∷ s) (run_to is_paren false (b ∷ s)) 0) (stops is_paren (b ∷ s) false k))

-- every part of UTF-8 text is UTF-8
pub parts_utf8 : (s : List ℕ) → T (utf8 s) → T (all utf8 (parts s))
unfolding parts
parts_utf8 s h = parts_pass part_len utf8 any (λ b s h q. sized (b ∷ s) (part_len (b ∷ s)) (part_some b s) (part_cut b s h)) s h (all_any (cut_by part_len s))
  where
    sized : (s : List ℕ) (n : ℕ) → 0 < n → Cut s n → Cut s (suc (pred n))
    sized s zero k c = absurd (not-suc-le-zero k)
    sized s (suc n) k c = c

-- ---- the text of a run

run_high : (escaped : Bool) (b : ℕ) → 128 ≤ b → stays_in_run escaped b ≡ true
run_high escaped b h =
    rw (ne_eqb b 92 (λ e. not-suc-le-zero {n = 0} (omega arith)), ne_eqb b 13 (λ e. not-suc-le-zero {n = 0} (omega arith)), ne_eqb b 10 (λ e. not-suc-le-zero {n = 0} (omega arith)), or-true escaped)

pub run_text_utf8 : (run : List ℕ) → T (utf8 run) → T (utf8 (run_text run))
unfolding run_text
run_text_utf8 run h = kept_from_utf8 stays_in_run run_high false run h

pub length_run_text : (run : List ℕ) → length (run_text run) ≤ length run
unfolding run_text
length_run_text run = length_kept_from stays_in_run false run
