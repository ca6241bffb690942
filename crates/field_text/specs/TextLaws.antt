-- Laws of a field's text by position, as code finds it.
use Rattle.std.specs.Prelude.{◌≡◌, ◌&&◌, ◌||◌, ltb, eqb, take, drop, Option, Some, None}
use Rattle.std.proofs.Math.Path.{refl, ap, sym}
use Rattle.std.proofs.Common.{◌∙◌, add-zero, add-one, eqb→eq, length-append, take-append-drop, drop_of_length-le, take-suc, take_all}
use Rattle.std.proofs.Math.Bool.{true, false, and-false}
use mathlib.Core.List.{List, [], ◌∷◌, ◌++◌, append_assoc}
use Prim.Native.Nat.{ℕ, zero, suc, ◌+◌, ◌-◌, ◌≤◌, ◌<◌}
use native.Mathlib.Omega.{arith}
use Rattle.std.proofs.Math.Dec.{T}
use Rattle.std.proofs.Math.ListN.{length, get_or, length-take, length-drop, get_or-eq_default}
use Rattle.std.proofs.Math.Seq.{drop-cons, drop-drop, get_or-drop, take-add, take-length}
use Rattle.std.proofs.Math.Facts.{and_yes, ltb_yes}
use borrow.Author.Tests.{lt-ltb, le-ltb}
use Rattle.lists.specs.ListsLaws.{by_test, cond_has, yes_true, true_yes, no_false, all_at_lem}
use Rattle.lists.specs.Lists.{all}
use Rattle.lists.specs.Run.{run}
use Rattle.lists.specs.RunLaws.{run_le, run_all, run_after}
use Rattle.buffer.specs.Buffer.{Wrote, AppendedCapped, Reached, greatest}
use Rattle.buffer.specs.BufferLaws.{overlay_front, appended_of, reached_start, reached_then, reached_within, reached_end, length_reached, wrote_from, wrote_nothing}
use Rattle.header_line.specs.Lines.{name_len}
use Rattle.line.specs.Line.{blank, crlf, not_cr, cr_run}
use Rattle.line.specs.LineLaws.{crlf_inside}
use Rattle.header.specs.Fields.{fold, name_of, value_of, unfolded_after, trimmed, text_of}
use Rattle.header.specs.FieldShape.{Shaped}
use Rattle.header.specs.FieldLaws.{drop_take}
use Rattle.field_text.specs.declared.TextPlace.{TextPlace}
use Rattle.field_text.specs.TextPlace.{text_place, in_place}

-- ---- a fold at a place

module _ (s : List ℕ) (i : ℕ) where
  pub fold_here : eqb (get_or s i 0) 13 && eqb (get_or s (i + 1) 0) 10 && blank (get_or s (i + 2) 0) ≡ fold (drop i s)
  unfolding fold crlf
  fold_here = rw (get_or-drop i s 0 0, get_or-drop i s 1 0, get_or-drop i s 2 0, add-zero)

  pub fold_short : length s - i < 3 → false ≡ fold (drop i s)
  unfolding fold blank
  fold_short k = let end : length s ≤ i + 2 = omega arith in rw (get_or-drop i s 2 0, get_or-eq_default s 0 {n = i + 2} end, and-false)

  pub fold_inside : fold (drop i s) ≡ true → i + 2 ≤ length s
  unfolding fold
  fold_inside e = crlf_inside s i (yes_true (crlf (drop i s)) (and_yes (crlf (drop i s)) (blank (get_or (drop i s) 2 0)) (true_yes (crlf (drop i s) && blank (get_or (drop i s) 2 0)) e)).0)

-- ---- unfolding, byte by byte

cons_fold : (b : ℕ) (rest : List ℕ) → fold (b ∷ rest) ≡ true → unfolded_after 0 (b ∷ rest) ≡ unfolded_after 0 (drop 1 rest)
unfolding unfolded_after
cons_fold b [] e = rw e
cons_fold b (c ∷ rest) e = rw e

cons_byte : (b : ℕ) (rest : List ℕ) → fold (b ∷ rest) ≡ false → unfolded_after 0 (b ∷ rest) ≡ b ∷ unfolded_after 0 rest
unfolding unfolded_after
cons_byte b rest e = rw e

pub unfold_nil : unfolded_after 0 [] ≡ []
unfolding unfolded_after
unfold_nil = refl

pub length_unfolded : (k : ℕ) (s : List ℕ) → length (unfolded_after k s) ≤ length s
unfolding unfolded_after
length_unfolded zero [] = omega arith
length_unfolded (suc k) [] = omega arith
length_unfolded (suc k) (b ∷ rest) = omega (arith, length_unfolded k rest)
length_unfolded zero (b ∷ rest) =
    let one = length_unfolded 1 rest in
    let none = length_unfolded 0 rest in
    cond_has (λ (l : List ℕ). length l ≤ suc (length rest)) (fold (b ∷ rest)) (unfolded_after 1 rest) (b ∷ unfolded_after 0 rest) (λ t. omega arith) (λ t. omega arith)

no_cr_fold : (b : ℕ) (rest : List ℕ) → T (not_cr b) → fold (b ∷ rest) ≡ false
unfolding fold crlf
no_cr_fold b rest t = rw (no_false (eqb b 13) t)

-- a text without CR has no fold
pub unfold_none : (s : List ℕ) → T (all not_cr s) → unfolded_after 0 s ≡ s
unfold_none [] h = unfold_nil
unfold_none (b ∷ rest) h =
    let both = and_yes (not_cr b) (all not_cr rest) h in
    cons_byte b rest (no_cr_fold b rest both.0) ∙ ap (λ (l : List ℕ). b ∷ l) (unfold_none rest both.1)

unfold_past : (a b : List ℕ) → T (all not_cr a) → unfolded_after 0 (a ++ b) ≡ a ++ unfolded_after 0 b
unfold_past [] b h = refl
unfold_past (x ∷ a) b h =
    let both = and_yes (not_cr x) (all not_cr a) h in
    cons_byte x (a ++ b) (no_cr_fold x (a ++ b) both.0) ∙ ap (λ (l : List ℕ). x ∷ l) (unfold_past a b both.1)

module _ (s : List ℕ) (i : ℕ) where
  pub unfold_fold : fold (drop i s) ≡ true → unfolded_after 0 (drop i s) ≡ unfolded_after 0 (drop (i + 2) s)
  unfold_fold e =
      let k : i < length s = omega (arith, fold_inside s i e) in
      let front = drop-cons s i 0 k in
      let there : suc i + 1 ≡ i + 2 = omega arith in
      rw front (cons_fold (get_or s i 0) (drop (suc i) s) (rw front at e) ∙ rw (drop-drop 1 (suc i) s, there))

  pub unfold_byte : i < length s → fold (drop i s) ≡ false → unfolded_after 0 (drop i s) ≡ get_or s i 0 ∷ unfolded_after 0 (drop (i + 1) s)
  unfold_byte k e =
      let front = drop-cons s i 0 k in
      rw (add-one, front) (cons_byte (get_or s i 0) (drop (suc i) s) (rw front at e))

  pub unfold_end : length s ≤ i → unfolded_after 0 (drop i s) ≡ []
  unfold_end k = rw (drop_of_length-le s {i = i} k) unfold_nil

-- ---- where the text starts

trim_blank : (b : ℕ) (text : List ℕ) → blank b ≡ true → trimmed (b ∷ text) ≡ trimmed text
unfolding trimmed run
trim_blank b text e = rw e

trim_stop : (b : ℕ) (text : List ℕ) → blank b ≡ false → trimmed (b ∷ text) ≡ b ∷ text
unfolding trimmed run
trim_stop b text e = rw e

trim_nil : trimmed [] ≡ []
unfolding trimmed run
trim_nil = refl

blank_no_fold : (b : ℕ) (rest : List ℕ) → blank b ≡ true → fold (b ∷ rest) ≡ false
unfolding blank fold crlf
blank_no_fold b rest e =
    by_test (eqb b 13) (λ t. absurd (rw (eqb→eq b 13 t) at (true_yes (eqb b 32 || eqb b 9) e))) (λ t. rw (no_false (eqb b 13) t))

-- the text from a place of a value on
unfoldable pub text_from : List ℕ → ℕ → List ℕ
text_from s i = trimmed (unfolded_after 0 (drop i s))

-- what comes before the text goes on for n bytes
pub record Blanks (s : List ℕ) (i n : ℕ) : Type 0 where
  pub some : 0 < n
  pub inside : i + n ≤ length s
  pub past : text_from s i ≡ text_from s (i + n)

-- A step over what comes before the text: a blank or a fold; or none, where the text starts.
abbrev pub BlankStep : List ℕ → ℕ → Option ℕ → Type 0
BlankStep s i None = text_from s i ≡ unfolded_after 0 (drop i s)
BlankStep s i (Some n) = Blanks s i n

pub step_end : (s : List ℕ) (i : ℕ) → length s ≤ i → text_from s i ≡ unfolded_after 0 (drop i s)
unfolding text_from
step_end s i k = rw (unfold_end s i k) trim_nil

module _ (s : List ℕ) (i : ℕ) (k : i < length s) where
  pub step_blank : blank (get_or s i 0) ≡ true → Blanks s i 1
  unfolding text_from
  step_blank e =
      let front = drop-cons s i 0 k in
      let none : fold (drop i s) ≡ false = rw front (blank_no_fold (get_or s i 0) (drop (suc i) s) e) in
      record {
        some = omega arith;
        inside = omega arith;
        past = rw (unfold_byte s i k none) (trim_blank (get_or s i 0) (unfolded_after 0 (drop (i + 1) s)) e);
      }

  pub step_fold : fold (drop i s) ≡ true → Blanks s i 2
  unfolding text_from
  step_fold e = record {
    some = omega arith;
    inside = fold_inside s i e;
    past = rw (unfold_fold s i e);
  }

  pub step_none : blank (get_or s i 0) ≡ false → fold (drop i s) ≡ false → text_from s i ≡ unfolded_after 0 (drop i s)
  unfolding text_from
  step_none e f = rw (unfold_byte s i k f) (trim_stop (get_or s i 0) (unfolded_after 0 (drop (i + 1) s)) e)

-- The text of a value is what stands from r on, unfolded.
pub record TextStart (value : List ℕ) (r : ℕ) : Type 0 where
  pub inside : r ≤ length value
  pub text : trimmed (unfolded_after 0 value) ≡ unfolded_after 0 (drop r value)

-- what a loop over blanks and folds has passed
pub record Skipped (value : List ℕ) (i : ℕ) : Type 0 where
  pub inside : i ≤ length value
  pub same : trimmed (unfolded_after 0 value) ≡ text_from value i

pub skipped_none : (value : List ℕ) → Skipped value 0
unfolding text_from
skipped_none value = record { inside = omega arith; same = refl }

module _ {value : List ℕ} {i : ℕ} (g : Skipped value i) where
  pub skipped_more : {n : ℕ} → Blanks value i n → Skipped value (i + n)
  skipped_more t = record { inside = t.inside; same = g.same ∙ t.past }

  pub skipped_stop : text_from value i ≡ unfolded_after 0 (drop i value) → TextStart value i
  skipped_stop e = record { inside = g.inside; text = g.same ∙ e }

  pub skipped_end : length value ≤ i → TextStart value i
  skipped_end k = skipped_stop (step_end value i k)

-- ---- pieces between folds

-- from `at` to e no fold stands
pub record Unbroken (s : List ℕ) (at e : ℕ) : Type 0 where
  pub up : at ≤ e
  pub inside : e ≤ length s
  pub joins : unfolded_after 0 (drop at s) ≡ take (e - at) (drop at s) ++ unfolded_after 0 (drop e s)

pub unbroken_none : {s : List ℕ} {at : ℕ} → at ≤ length s → Unbroken s at at
unbroken_none {s} {at} k = let n : at - at ≡ 0 = omega arith in record { up = omega arith; inside = k; joins = rw n }

pub unbroken_more : {s : List ℕ} {at e : ℕ} → Unbroken s at e → e < length s → fold (drop e s) ≡ false → Unbroken s at (e + 1)
unbroken_more {s} {at} {e} u k f =
    let n : e + 1 - at ≡ suc (e - at) = omega (arith, u.up) in
    let there : at + (e - at) ≡ e = omega (arith, u.up) in
    let fits : e - at < length (drop at s) = rw length-drop (omega (arith, u.up)) in
    record {
      up = omega (arith, u.up);
      inside = omega arith;
      joins = u.joins ∙ rw (n, take-suc (drop at s) (e - at) 0 fits, get_or-drop at s (e - at) 0, there, unfold_byte s e k f, append_assoc);
    }

-- and none stands before the next CR
pub unbroken_run : {s : List ℕ} {at e next : ℕ} → Unbroken s at e → next ≡ e + cr_run (drop e s) → Unbroken s at next
unbroken_run {s} {at} {e} {next} u q =
    let k = cr_run (drop e s) in
    let n : next - at ≡ e - at + k = omega (arith, u.up) in
    let there : at + (e - at) ≡ e = omega (arith, u.up) in
    let part = take k (drop e s) in
    let both : part ++ drop next s ≡ drop e s = rw (q, ← drop-drop k e s) (take-append-drop k (drop e s)) in
    let past : unfolded_after 0 (drop e s) ≡ part ++ unfolded_after 0 (drop next s) = ap (unfolded_after 0) (sym both) ∙ unfold_past part (drop next s) (run_all not_cr (drop e s)) in
    record {
      up = omega (arith, u.up);
      inside = omega (arith, u.inside, run_le not_cr (drop e s), length-drop e s);
      joins = u.joins ∙ rw (past, n, take-add (e - at) k (drop at s), drop-drop, there, append_assoc);
    }

-- The piece from `at` to the next fold, at e, or to the end.
pub record PieceEnd (s : List ℕ) (at e : ℕ) : Type 0 where
  pub up : at ≤ e
  pub inside : e ≤ length s
  pub joins : unfolded_after 0 (drop at s) ≡ take (e - at) (drop at s) ++ unfolded_after 0 (drop (e + 2) s)

module _ {s : List ℕ} {at e : ℕ} (u : Unbroken s at e) where
  pub piece_fold : fold (drop e s) ≡ true → PieceEnd s at e
  piece_fold f = record { up = u.up; inside = u.inside; joins = rw (← unfold_fold s e f) u.joins }

  pub piece_end : length s ≤ e → PieceEnd s at e
  piece_end k =
      let both : unfolded_after 0 (drop (e + 2) s) ≡ unfolded_after 0 (drop e s) = unfold_end s (e + 2) (omega arith) ∙ sym (unfold_end s e k) in
      record { up = u.up; inside = u.inside; joins = rw both u.joins }

-- a loop that writes piece after piece
pub record Unfolding (s : List ℕ) (i : ℕ) (before after : List ℕ) (n : ℕ) : Type 0 where
  pub reached : Reached (unfolded_after 0 s) (unfolded_after 0 (drop i s)) 0 before after n

pub unfolding_start : (s before : List ℕ) → Unfolding s 0 before before 0
unfolding_start s before = record { reached = reached_start (unfolded_after 0 s) 0 before }

module _ {s before mid : List ℕ} {i n : ℕ} (g : Unfolding s i before mid n) where
  pub unfolding_end : length s ≤ i → Wrote (unfolded_after 0 s) before mid n
  unfolding_end k = wrote_from (reached_end g.reached (unfold_end s i k))

  pub length_unfolding : length mid ≡ length before
  length_unfolding = length_reached g.reached

  piece_fits : {e : ℕ} → PieceEnd s i e → n + length (take (e - i) (drop i s)) ≤ length s
  piece_fits {e} p =
      omega (arith, reached_within g.reached, ap length p.joins, length-append (take (e - i) (drop i s)) (unfolded_after 0 (drop (e + 2) s)), length_unfolded 0 s)

  pub unfolding_next : {after : List ℕ} {e m : ℕ} → PieceEnd s i e → length s ≤ greatest
      → AppendedCapped (take (e - i) (drop i s)) n mid after m → Unfolding s (e + 2) before after m
  unfolding_next {after} {e} {m} p k a = record {
    reached = reached_then (take (e - i) (drop i s)) (unfolded_after 0 (drop (e + 2) s)) g.reached p.joins (appended_of a (omega (arith, piece_fits p)));
  }

-- ---- the text, as code takes it

-- the text of a value is the part from its start on, unfolded
pub text_folded : {value : List ℕ} {r : ℕ} → TextStart value r → trimmed (unfolded_after 0 value) ≡ unfolded_after 0 (take (length value - r) (drop r value))
text_folded {value} {r} t = t.text ∙ rw (take_all (length value - r) (drop r value) (rw length-drop (omega arith)))

-- a text that fits a buffer is found at its front
pub wrote_front : {text before after : List ℕ} {n : ℕ} → Wrote text before after n → length text ≤ length before → take n after ≡ text
wrote_front {text} {before} w h = rw (w.size, w.bytes) (overlay_front text before h)

module _ (field : List ℕ) (n : ℕ) (e : n ≡ name_len field) where
  pub value_of_part : take (length field - 2 - (n + 1)) (drop (n + 1) field) ≡ value_of field
  unfolding value_of
  value_of_part = rw (drop_take (name_len field + 1) (length field - 2) field, e)

  pub text_none : length field - n < 3 → text_of field ≡ []
  unfolding text_of value_of
  text_none k =
      let short : length (take (length field - 2) field) ≤ name_len field + 1 = omega (arith, length-take (length field - 2) field) in
      rw (drop_of_length-le (take (length field - 2) field) {i = name_len field + 1} short, unfold_nil) trim_nil

pub text_of_value : (field : List ℕ) → trimmed (unfolded_after 0 (value_of field)) ≡ text_of field
unfolding text_of
text_of_value field = refl

pub length_text_value : (field : List ℕ) → length (text_of field) ≤ length (value_of field)
unfolding text_of trimmed
length_text_value field =
    let text = unfolded_after 0 (value_of field) in
    omega (arith, length-drop (run blank text) text, length_unfolded 0 (value_of field))

pub length_text : (field : List ℕ) → length (text_of field) ≤ length field
unfolding value_of
length_text field =
    omega (arith, length_text_value field, length-drop (name_len field + 1) (take (length field - 2) field), length-take (length field - 2) field)

-- ---- the text, as it is written

pub text_unfolded : {value before after : List ℕ} {start n : ℕ} → TextStart value start → Wrote (unfolded_after 0 (take (length value - start) (drop start value))) before after n
    → Wrote (trimmed (unfolded_after 0 value)) before after n
text_unfolded t w = rw (text_folded t) w

module _ (field : List ℕ) (n : ℕ) (e : n ≡ name_len field) where
  pub text_empty : (before : List ℕ) → length field - n < 3 → Wrote (text_of field) before before 0
  text_empty before k = rw (text_none field n e k) (wrote_nothing before)

  pub text_value : {before after : List ℕ} {r : ℕ} → Wrote (trimmed (unfolded_after 0 (take (length field - 2 - (n + 1)) (drop (n + 1) field)))) before after r
      → Wrote (text_of field) before after r
  text_value w = rw (value_of_part field n e, text_of_value field) at w

-- ---- the text in place

no_cr_lem : (s : List ℕ) → length s ≤ cr_run s → T (all not_cr s)
no_cr_lem s h = let whole : cr_run s ≡ length s = omega (arith, run_le not_cr s) in rw (whole, take-length s) at (run_all not_cr s)

some_cr : (s : List ℕ) → cr_run s < length s → all not_cr s ≡ false
some_cr s h = by_test (all not_cr s) (λ t. absurd (rw (run_after not_cr s h) at (all_at_lem not_cr s (cr_run s) 0 t h))) (λ t. no_false (all not_cr s) t)

module _ (field : List ℕ) (n : ℕ) (e : n ≡ name_len field) where
  pub place_short : length field - n < 3 → in_place n n ≡ text_place field
  unfolding text_place
  place_short k = rw (e, lt-ltb (length field - name_len field) 3 (rw e at k))

  module _ (k : 3 ≤ length field - n) where
    value_there : drop (n + 1) (take (length field - 2) field) ≡ value_of field
    unfolding value_of
    value_there = rw e

    length_value : length (value_of field) ≡ length field - 2 - (n + 1)
    length_value = rw (← value_there, length-drop, length-take) (omega arith)

    pub place_folded : (r : ℕ) → r ≡ n + 1 + cr_run (drop (n + 1) (take (length field - 2) field)) → r < length field - 2 → None ≡ text_place field
    unfolding text_place
    place_folded r q h =
        let some : cr_run (value_of field) < length (value_of field) = omega (arith, rw value_there at q, length_value) in
        rw (le-ltb (length field - name_len field) 3 (rw e at k), some_cr (value_of field) some)

    pub place_there : (r a : ℕ) → r ≡ n + 1 + cr_run (drop (n + 1) (take (length field - 2) field)) → length field - 2 ≤ r
        → a ≡ n + 1 + run blank (drop (n + 1) (take (length field - 2) field)) → in_place a (length field - 2) ≡ text_place field
    unfolding text_place
    place_there r a q h p =
        let none : length (value_of field) ≤ cr_run (value_of field) = omega (arith, rw value_there at q, length_value) in
        rw (le-ltb (length field - name_len field) 3 (rw e at k), yes_true (all not_cr (value_of field)) (no_cr_lem (value_of field) none), p, value_there, e)

abbrev from_of : Option TextPlace → ℕ
from_of None = 0
from_of (Some there) = there.from

abbrev to_of : Option TextPlace → ℕ
to_of None = 0
to_of (Some there) = there.to

-- what stands there is the text
pub text_there : (field : List ℕ) (a b : ℕ) → text_place field ≡ in_place a b → take (b - a) (drop a field) ≡ text_of field
unfolding text_place text_of trimmed value_of
text_there field a b q =
    by_test (ltb (length field - name_len field) 3)
    (λ t. short (rw (yes_true (ltb (length field - name_len field) 3) t) at q) (ltb_yes {a = length field - name_len field} {b = 3} t))
    (λ t. by_test (all not_cr (value_of field))
    (λ u. whole (rw (no_false (ltb (length field - name_len field) 3) t, yes_true (all not_cr (value_of field)) u) at q) u)
    (λ u. never (rw (no_false (ltb (length field - name_len field) 3) t, no_false (all not_cr (value_of field)) u) at q)))
  where
    short : in_place (name_len field) (name_len field) ≡ in_place a b → length field - name_len field < 3 → take (b - a) (drop a field) ≡ text_of field
    short p k =
        let one : name_len field ≡ a = ap from_of p in
        let two : name_len field ≡ b = ap to_of p in
        let none : b - a ≡ 0 = omega arith in
        rw none (sym (text_none field (name_len field) refl k))

    whole : in_place (name_len field + 1 + run blank (value_of field)) (length field - 2) ≡ in_place a b → T (all not_cr (value_of field)) → take (b - a) (drop a field) ≡ text_of field
    whole p u =
        let one : name_len field + 1 + run blank (value_of field) ≡ a = ap from_of p in
        let two : length field - 2 ≡ b = ap to_of p in
        let m = name_len field + 1 in
        let n = run blank (value_of field) in
        rw (unfold_none (value_of field) u, ← one, ← two, drop-drop n m (take (length field - 2) field), drop_take (m + n) (length field - 2) field)

    never : None ≡ in_place a b → take (b - a) (drop a field) ≡ text_of field
    never p = let z : ◌≡◌ {A = ℕ} 0 1 = cc in absurd (omega arith)

-- what stands in a field besides its name and its text: a colon and CRLF at least
pub length_shaped : {field : List ℕ} → Shaped field → length (name_of field) + length (text_of field) + 3 ≤ length field
length_shaped {field} s =
    let value = value_of field in
    let tail : List ℕ = 58 ∷ (value ++ (13 ∷ 10 ∷ [])) in
    omega (arith, ap length s.parts, length-append (name_of field) tail, length-append value (13 ∷ 10 ∷ []), length_text_value field)
