-- The parts of a value, one after another: laws for the loops that find where each ends and write it.
use Rattle.std.specs.Prelude.{◌≡◌, Bool, not, ℕ, zero, suc, ◌+◌, ◌-◌, ◌≤◌, ◌<◌, min, leb, length, drop, get_or}
use Rattle.std.proofs.Common.{sym, ap, ◌∙◌, add-one, arith, le→leb, take-add, drop-drop, drop_of_length-le, length-take, length-drop}
use Rattle.std.proofs.Math.Bool.{true, false}
use mathlib.Core.List.{List, [], ◌∷◌, ◌++◌, append_assoc, append-nil}
use Rattle.std.proofs.Math.Dec.{T}
use Rattle.std.proofs.Math.ListN.{take}
use Rattle.std.proofs.Math.Facts.{no_leb, leb_yes, leb_no}
use Rattle.lists.specs.Lists.{all, joined}
use Rattle.lists.specs.ListsLaws.{by_test, yes_true, no_false, joined_append}
use Rattle.utf8.specs.Utf8.{char_len, chars}
use Rattle.utf8.specs.Utf8Laws.{chars_at, chars_end, char_len_some}
use Rattle.word_spelling.specs.HighCharLaws.{char_cut}
use Rattle.cut.specs.Cut.{cut}
use Rattle.cut.proofs.CutLaws.{cut_more, cut_next}
use Rattle.mime_parameter.specs.Extended.{extended}
use Rattle.mime_parameter.specs.ExtendedLaws.{length_extended_append, length_extended}
use Rattle.mime_parameter.specs.Pieces.{part_label, line_fits, part_piece, fits, runs_from, numbered, laid}
use Rattle.mime_parameter.specs.PiecesLaws.{line_length, length_part, fits_room_lem}

-- `;` before every part but the first
abbrev pub mark_of : ℕ → List ℕ
mark_of zero = []
mark_of (suc k) = 59 ∷ []

-- what is written for a text from part k on
unfoldable pub parts_laid : List ℕ → ℕ → List ℕ → List ℕ
parts_laid name k text = laid (mark_of k) (numbered name k (runs_from name k (chars text)))

-- whether each of its parts fits its line
unfoldable pub parts_fit : List ℕ → ℕ → List ℕ → Bool
parts_fit name k text = all line_fits (numbered name k (runs_from name k (chars text)))

-- part k from place i on ends at place e
pub record PartEnd (name : List ℕ) (k : ℕ) (s : List ℕ) (i e : ℕ) : Type 0 where
  pub run : List (List ℕ)
  pub ahead : i < e
  pub within : e ≤ length s
  pub bytes : joined run ≡ take (e - i) (drop i s)
  pub joins : runs_from name k (chars (drop i s)) ≡ run ∷ runs_from name (suc k) (chars (drop e s))

-- the character at place i, which ends at place e
module _ (s : List ℕ) (i e : ℕ) (h : i < length s) (he : e ≡ min (i + char_len (get_or s i 0)) (length s)) where
  pub char_ahead : i < e
  char_ahead = omega (arith, char_len_some (get_or s i 0))

  past_end_lem : (n m : ℕ) → m ≡ min n (length s) → drop n s ≡ drop m s
  past_end_lem n m q =
      by_test (leb n (length s))
      (λ t. let same : m ≡ n = omega (arith, leb_yes {a = n} {b = length s} t) in rw same)
      (λ t. let over : length s < n = leb_no t in drop_of_length-le s {i = n} (omega arith) ∙ sym (drop_of_length-le s {i = m} (omega arith)))

  char_at_lem : chars (drop i s) ≡ take (e - i) (drop i s) ∷ chars (drop e s)
  char_at_lem = rw (chars_at s i h, ← char_cut s i e he, past_end_lem (i + char_len (get_or s i 0)) e he)

-- a part of a text is no longer than the text
pub part_short : (s : List ℕ) (i e : ℕ) → length s ≤ 32768 → length (take (e - i) (drop i s)) ≤ 32768
part_short s i e h = omega (arith, length-take (e - i) (drop i s), length-drop i s)

pub cost_small : (s : List ℕ) (i e : ℕ) → length s ≤ 32768 → length (extended (take (e - i) (drop i s))) ≤ 98304
cost_small s i e h = omega (arith, (length_extended (take (e - i) (drop i s))).1, part_short s i e h)

-- where the loop that looks for it stands: at place e, where the line has so many characters
pub record Filling (name : List ℕ) (k : ℕ) (s : List ℕ) (i e used : ℕ) : Type 0 where
  pub run : List (List ℕ)
  pub ahead : i < e
  pub within : e ≤ length s
  pub bytes : joined run ≡ take (e - i) (drop i s)
  pub goes : runs_from name k (chars (drop i s)) ≡ cut (fits name) k run (chars (drop e s))
  pub size : used ≡ length (part_label name k) + length (extended (joined run))

module _ (name : List ℕ) (k : ℕ) (s : List ℕ) (i : ℕ) where
  pub filling_start : (e cost used : ℕ) → i < length s → e ≡ min (i + char_len (get_or s i 0)) (length s) → cost ≡ length (extended (take (e - i) (drop i s)))
      → used ≡ length (part_label name k) + cost → Filling name k s i e used
  unfolding runs_from
  filling_start e cost used h he hc hu = record {
    run = take (e - i) (drop i s) ∷ [];
    ahead = char_ahead s i e h he;
    within = omega arith;
    bytes = append-nil (take (e - i) (drop i s));
    goes = rw (char_at_lem s i e h he);
    size = rw append-nil (omega (arith, hc, hu));
  }

  module _ {e used : ℕ} (g : Filling name k s i e used) where
    pub filling_end : length s ≤ e → PartEnd name k s i e
    unfolding cut runs_from
    filling_end h = record { run = g.run; ahead = g.ahead; within = g.within; bytes = g.bytes; joins = g.goes ∙ rw (chars_end s e h) }

    module _ (end cost : ℕ) (h : e < length s) (he : end ≡ min (e + char_len (get_or s e 0)) (length s)) (hc : cost ≡ length (extended (take (end - e) (drop e s)))) where
      abbrev char : List ℕ
      char = take (end - e) (drop e s)

      line : fits name k (g.run ++ (char ∷ [])) ≡ leb (used + cost + 2) 76
      line =
          let run : joined (g.run ++ (char ∷ [])) ≡ joined g.run ++ char = joined_append g.run (char ∷ []) ∙ rw append-nil in
          let n : length (part_label name k) + length (extended (joined (g.run ++ (char ∷ [])))) + 2 ≡ used + cost + 2 =
          rw (run, length_extended_append (joined g.run) char) (omega (arith, g.size, hc)) in
          fits_room_lem name k (g.run ++ (char ∷ [])) ∙ ap (λ (n : ℕ). leb n 76) n

      pub filling_full : 74 < used + cost → PartEnd name k s i e
      unfolding runs_from
      filling_full over =
          let no : T (not (fits name k (g.run ++ (char ∷ [])))) = rw line (no_leb {a = used + cost + 2} {b = 76} (omega arith)) in
          record {
            run = g.run;
            ahead = g.ahead;
            within = g.within;
            bytes = g.bytes;
            joins = g.goes ∙ rw (char_at_lem s e end h he) (cut_next (fits name) k g.run char (chars (drop end s)) no);
          }

      pub filling_more : used + cost ≤ 74 → Filling name k s i end (used + cost)
      filling_more fit =
          let yes : T (fits name k (g.run ++ (char ∷ []))) = rw line (le→leb (used + cost + 2) 76 (omega arith)) in
          let there : i + (e - i) ≡ e = omega (arith, g.ahead) in
          let on : e < end = char_ahead s e end h he in
          let whole : e - i + (end - e) ≡ end - i = omega (arith, g.ahead, on) in
          let run : joined (g.run ++ (char ∷ [])) ≡ joined g.run ++ char = joined_append g.run (char ∷ []) ∙ rw append-nil in
          record {
            run = g.run ++ (char ∷ []);
            ahead = omega (arith, g.ahead, on);
            within = omega arith;
            bytes = run ∙ rw (g.bytes, ← whole, take-add, drop-drop, there);
            goes = g.goes ∙ rw (char_at_lem s e end h he) (cut_more (fits name) k g.run char (chars (drop end s)) yes);
            size = rw (run, length_extended_append (joined g.run) char) (omega (arith, g.size, hc));
          }

-- ---- part by part

module _ (name : List ℕ) (k : ℕ) (s : List ℕ) {i e : ℕ} (p : PartEnd name k s i e) where
  pub laid_next : parts_laid name k (drop i s) ≡ ((mark_of k ++ (13 ∷ 10 ∷ 32 ∷ [])) ++ part_piece name k (take (e - i) (drop i s))) ++ parts_laid name (k + 1) (drop e s)
  unfolding parts_laid numbered laid
  laid_next = rw (add-one k, p.joins, p.bytes) (regroup (mark_of k) (part_piece name k (take (e - i) (drop i s))) (laid (59 ∷ []) (numbered name (suc k) (runs_from name (suc k) (chars (drop e s))))))
    where
      regroup : (mark piece more : List ℕ) → mark ++ (13 ∷ 10 ∷ 32 ∷ (piece ++ more)) ≡ ((mark ++ (13 ∷ 10 ∷ 32 ∷ [])) ++ piece) ++ more
      regroup mark piece more = simp append_assoc

  -- the line of this part
  part_line : (label cost : ℕ) → label ≡ length (part_label name k) → cost ≡ length (extended (take (e - i) (drop i s)))
      → line_fits (part_piece name k (take (e - i) (drop i s))) ≡ leb (label + cost + 2) 76
  part_line label cost hl hc =
      let size : length (part_piece name k (take (e - i) (drop i s))) ≡ label + cost = length_part name k (take (e - i) (drop i s)) ∙ rw (← hl, ← hc) in
      line_length (part_piece name k (take (e - i) (drop i s))) ∙ ap (λ (n : ℕ). leb (n + 2) 76) size

  module _ (label cost : ℕ) (hl : label ≡ length (part_label name k)) (hc : cost ≡ length (extended (take (e - i) (drop i s)))) where
    pub fit_next : label + cost ≤ 74 → parts_fit name k (drop i s) ≡ parts_fit name (k + 1) (drop e s)
    unfolding parts_fit numbered
    fit_next h =
        let yes : line_fits (part_piece name k (take (e - i) (drop i s))) ≡ true = part_line label cost hl hc ∙ yes_true _ (le→leb (label + cost + 2) 76 (omega arith)) in
        rw (add-one k, p.joins, p.bytes, yes)

    pub fit_fails : 74 < label + cost → false ≡ parts_fit name k (drop i s)
    unfolding parts_fit numbered
    fit_fails h =
        let no : line_fits (part_piece name k (take (e - i) (drop i s))) ≡ false = part_line label cost hl hc ∙ no_false _ (no_leb {a = label + cost + 2} {b = 76} (omega arith)) in
        rw (p.joins, p.bytes, no)

module _ (name : List ℕ) (k : ℕ) (s : List ℕ) (i : ℕ) (h : length s ≤ i) where
  pub laid_end : parts_laid name k (drop i s) ≡ []
  unfolding parts_laid runs_from numbered laid
  laid_end = rw (chars_end s i h)

  pub fit_end : true ≡ parts_fit name k (drop i s)
  unfolding parts_fit runs_from numbered
  fit_end = rw (chars_end s i h)
