-- Laws of the lines of a converted parameter: they are ASCII, and how long they can be.
use Rattle.std.specs.Prelude.{◌≡◌, Bool, false, not, cond}
use Rattle.std.proofs.Math.Path.{ap}
use Rattle.std.proofs.Math.Bool.{true, or-true}
use mathlib.Core.List.{List, [], ◌∷◌, ◌++◌}
use Prim.Native.Nat.{ℕ, zero, suc, ◌*◌, ◌≤◌}
use Rattle.std.proofs.Common.{not-suc-le-zero, length-append, ne_eqb}
use native.Mathlib.Omega.{arith}
use Rattle.std.proofs.Math.Dec.{T}
use Rattle.std.proofs.Math.ListN.{length}
use Rattle.std.proofs.Math.Facts.{and_yes, yes_and, ltb_no}
use Rattle.lists.specs.Byte.{is_byte, is_ascii}
use Rattle.lists.specs.Lists.{all, joined, nonempty}
use Rattle.lists.specs.ListsLaws.{by_test, yes_true, all_append, all_left, all_right, joined_append}
use Rattle.utf8.specs.Utf8.{chars, utf8}
use Rattle.utf8.specs.Utf8Laws.{chars_joined, chars_some}
use Rattle.unquote.specs.Unquote.{escapes, kept_from}
use Rattle.unquote.specs.UnquoteLaws.{kept_from_utf8, length_kept_from}
use Rattle.mime_parameter.specs.Extended.{charset, extended}
use Rattle.mime_parameter.specs.ExtendedLaws.{extended_ascii}
use Rattle.mime_parameter.specs.Number.{decimal}
use Rattle.mime_parameter.specs.NumberLaws.{decimal_ascii}
use Rattle.mime_parameter.specs.Pieces.{stays_in_value, value_text, charset_of, alone_label, part_label, line_fits, alone_piece, part_piece, runs_from, numbered, parts, pieces, has_room, laid, parameter_lines}
use Rattle.mime_parameter.specs.PiecesLaws.{line_fits_lem, runs_joined, runs_some, length_numbered, pieces_alone, pieces_parts}

-- ---- ASCII

module _ (name : List ℕ) (a : T (all is_ascii name)) where
  label_ascii : (k : ℕ) → T (all is_ascii (part_label name k))
  unfolding part_label
  label_ascii k =
      all_append is_ascii name (42 ∷ (decimal k ++ (42 ∷ 61 ∷ charset_of k))) a (all_append is_ascii (decimal k) (42 ∷ 61 ∷ charset_of k) (decimal_ascii k) (charset_ascii k))
    where
      charset_ascii : (k : ℕ) → T (all is_ascii (charset_of k))
      charset_ascii zero = tt
      charset_ascii (suc k) = tt

  numbered_ascii : (k : ℕ) (runs : List (List (List ℕ))) → T (all is_byte (joined (joined runs))) → T (all (all is_ascii) (numbered name k runs))
  unfolding numbered part_piece
  numbered_ascii k [] h = tt
  numbered_ascii k (run ∷ runs) h =
      let both = rw (joined_append run (joined runs)) at h in
      let bytes = extended_ascii (joined run) (all_left is_byte (joined run) (joined (joined runs)) both) in
      yes_and (all is_ascii (part_label name k ++ extended (joined run))) (all (all is_ascii) (numbered name (suc k) runs))
      (all_append is_ascii (part_label name k) (extended (joined run)) (label_ascii k) bytes)
      (numbered_ascii (suc k) runs (all_right is_byte (joined run) (joined (joined runs)) both))

  laid_ascii : (mark : List ℕ) (ps : List (List ℕ)) → T (all is_ascii mark) → T (all (all is_ascii) ps) → T (all is_ascii (laid mark ps))
  unfolding laid
  laid_ascii mark [] m h = tt
  laid_ascii mark (p ∷ ps) m h =
      let both = and_yes (all is_ascii p) (all (all is_ascii) ps) h in
      all_append is_ascii mark (13 ∷ 10 ∷ 32 ∷ (p ++ laid (59 ∷ []) ps)) m (all_append is_ascii p (laid (59 ∷ []) ps) both.0 (laid_ascii (59 ∷ []) ps tt both.1))

  module _ (value : List ℕ) (b : T (all is_byte value)) where
    alone_ascii : T (all is_ascii (alone_piece name value))
    unfolding alone_piece alone_label
    alone_ascii = all_append is_ascii (name ++ (42 ∷ 61 ∷ charset)) (extended value) (all_append is_ascii name (42 ∷ 61 ∷ charset) a tt) (extended_ascii value b)

    parts_ascii : T (all (all is_ascii) (parts name value))
    unfolding parts
    parts_ascii = numbered_ascii 0 (runs_from name 0 (chars value)) (rw (runs_joined name 0 (chars value), chars_joined value) b)

    pub lines_ascii : T (all is_ascii (parameter_lines name value))
    unfolding parameter_lines
    lines_ascii =
        laid_ascii [] (pieces name value) tt
        (by_test (line_fits (alone_piece name value))
        (λ t. rw (pieces_alone name value t) (yes_and (all is_ascii (alone_piece name value)) true alone_ascii tt))
        (λ t. rw (pieces_parts name value t) parts_ascii))

-- ---- how long they can be

-- groups with something in each are no more than what they hold
groups_le : {A : Type 0} (gs : List (List A)) → T (all nonempty gs) → length gs ≤ length (joined gs)
groups_le [] h = omega arith
groups_le ([] ∷ gs) h = absurd h
groups_le ((x ∷ g) ∷ gs) h = omega (arith, length-append g (joined gs), groups_le gs h)

-- a line has at most 76 characters, its `;` with them, and a CRLF
laid_le : (mark : List ℕ) (ps : List (List ℕ)) → length mark ≤ 1 → T (all line_fits ps) → length (laid mark ps) ≤ 78 * length ps
unfolding laid
laid_le mark [] m h = omega arith
laid_le mark (p ∷ ps) m h =
    let both = and_yes (line_fits p) (all line_fits ps) h in
    omega (
      arith,
      length-append mark (13 ∷ 10 ∷ 32 ∷ (p ++ laid (59 ∷ []) ps)),
      length-append p (laid (59 ∷ []) ps),
      length-append p (59 ∷ []),
      line_fits_lem p both.0,
      laid_le (59 ∷ []) ps (omega arith) both.1,
    )

module _ (name value : List ℕ) (n : T (nonempty value)) where
  pieces_le : length (pieces name value) ≤ length value
  unfolding parts
  pieces_le =
      let runs = runs_from name 0 (chars value) in
      by_test (line_fits (alone_piece name value))
      (λ t. rw (pieces_alone name value t) (some value n))
      (λ t.
      rw (pieces_parts name value t)
      (omega (
        arith,
        length_numbered name 0 runs,
        groups_le runs (runs_some name 0 (chars value)),
        ap length (runs_joined name 0 (chars value)),
        groups_le (chars value) (chars_some value),
        ap length (chars_joined value),
      )))
    where
      some : (l : List ℕ) → T (nonempty l) → 1 ≤ length l
      some [] h = absurd h
      some (b ∷ l) h = omega arith

  pub lines_le : T (has_room name value) → length (parameter_lines name value) ≤ 78 * length value
  unfolding parameter_lines has_room
  lines_le h = omega (arith, laid_le [] (pieces name value) (omega arith) h, pieces_le)

-- ---- the value's text

stays_high : (escaped : Bool) (b : ℕ) → 128 ≤ b → stays_in_value escaped b ≡ true
stays_high escaped b h =
    rw (ne_eqb b 34 (λ e. not-suc-le-zero {n = 0} (omega arith)), ne_eqb b 92 (λ e. not-suc-le-zero {n = 0} (omega arith)), ne_eqb b 13 (λ e. not-suc-le-zero {n = 0} (omega arith)), ne_eqb b 10 (λ e. not-suc-le-zero {n = 0} (omega arith)), or-true escaped)

pub text_utf8 : (value : List ℕ) → T (utf8 value) → T (utf8 (value_text value))
unfolding value_text
text_utf8 value h = kept_from_utf8 stays_in_value stays_high false value h

pub length_text : (value : List ℕ) → length (value_text value) ≤ length value
unfolding value_text
length_text value = length_kept_from stays_in_value false value

kept_first : (escaped : Bool) (b : ℕ) (s : List ℕ) → stays_in_value escaped b ≡ true → T (nonempty (kept_from stays_in_value escaped (b ∷ s)))
unfolding kept_from
kept_first escaped b s e = rw e tt

kept_later : (stays : Bool) (b : ℕ) (s : List ℕ) → T (nonempty s) → T (nonempty (cond stays (b ∷ []) [] ++ s))
kept_later true b s h = tt
kept_later false b s h = h

kept_some : (escaped : Bool) (s : List ℕ) → T (not (all is_ascii s)) → T (nonempty (kept_from stays_in_value escaped s))
unfolding kept_from
kept_some escaped [] h = absurd h
kept_some escaped (b ∷ s) h =
    by_test (is_ascii b)
    (λ t. kept_later (stays_in_value escaped b) b (kept_from stays_in_value (escapes escaped b) s) (kept_some (escapes escaped b) s (rw (yes_true (is_ascii b) t) at h)))
    (λ t. kept_first escaped b s (stays_high escaped b (ltb_no t)))

-- of a value that is not ASCII something stays
pub text_some : (value : List ℕ) → T (not (all is_ascii value)) → T (nonempty (value_text value))
unfolding value_text
text_some value h = kept_some false value h
