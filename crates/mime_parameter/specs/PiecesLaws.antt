-- Laws of the pieces of a value: what fits a line, the rooms by number, that nothing is lost.
use Rattle.std.specs.Prelude.{◌≡◌, refl, not, List, [], ◌∷◌, ◌++◌, ℕ, suc, ◌+◌, ◌≤◌, T, leb, length}
use Rattle.std.proofs.Common.{ap, ◌∙◌, arith, leb→le, le→leb, length-append}
use Rattle.std.proofs.Math.Facts.{and_yes}
use Rattle.lists.specs.Lists.{all, joined, nonempty}
use Rattle.lists.specs.ListsLaws.{cond_yes, cond_no, joined_append}
use Rattle.cut.proofs.CutLaws.{AllFit, cut_joined, cut_some}
use Rattle.mime_parameter.specs.Extended.{charset, extended}
use Rattle.mime_parameter.specs.ExtendedLaws.{length_extended_append}
use Rattle.mime_parameter.specs.Number.{decimal}
use Rattle.mime_parameter.specs.Pieces.{charset_of, alone_label, part_label, line_fits, alone_piece, part_piece, fits, runs_from, numbered, parts, pieces}

-- ---- what fits a line

length_line : (piece : List ℕ) → length (32 ∷ (piece ++ (59 ∷ []))) ≡ length piece + 2
length_line piece = omega (arith, length-append piece (59 ∷ []))

pub line_fits_lem : (piece : List ℕ) → T (line_fits piece) → length (32 ∷ (piece ++ (59 ∷ []))) ≤ 76
unfolding line_fits
line_fits_lem piece t = leb→le (length (32 ∷ (piece ++ (59 ∷ [])))) 76 t

pub fits_line_lem : (piece : List ℕ) → length (32 ∷ (piece ++ (59 ∷ []))) ≤ 76 → T (line_fits piece)
unfolding line_fits
fits_line_lem piece h = le→leb (length (32 ∷ (piece ++ (59 ∷ [])))) 76 h

pub line_length : (piece : List ℕ) → line_fits piece ≡ leb (length piece + 2) 76
unfolding line_fits
line_length piece = ap (λ (n : ℕ). leb n 76) (length_line piece)

-- the rooms: 65 - L alone, 63 - L in part 0; 70 - L in a part with a number of one digit, 69 - L with two, and so on
pub length_alone : (name value : List ℕ) → length (alone_piece name value) ≡ length name + 9 + length (extended value)
unfolding alone_piece alone_label
length_alone name value = omega (arith, length-append (name ++ (42 ∷ 61 ∷ charset)) (extended value), length-append name (42 ∷ 61 ∷ charset))

pub length_label : (name : List ℕ) (k : ℕ) → length (part_label name k) ≡ length name + 3 + length (decimal k) + length (charset_of k)
unfolding part_label
length_label name k =
    omega (arith, length-append name (42 ∷ (decimal k ++ (42 ∷ 61 ∷ charset_of k))), length-append (decimal k) (42 ∷ 61 ∷ charset_of k))

pub length_part : (name : List ℕ) (k : ℕ) (bytes : List ℕ) → length (part_piece name k bytes) ≡ length (part_label name k) + length (extended bytes)
unfolding part_piece
length_part name k bytes = length-append (part_label name k) (extended bytes)

-- by the room that its label leaves
pub fits_room_lem : (name : List ℕ) (k : ℕ) (run : List (List ℕ)) → fits name k run ≡ leb (length (part_label name k) + length (extended (joined run)) + 2) 76
unfolding fits
fits_room_lem name k run = line_length (part_piece name k (joined run)) ∙ ap (λ (n : ℕ). leb (n + 2) 76) (length_part name k (joined run))

length_runs : (d m : List (List ℕ)) → length (extended (joined (d ++ m))) ≡ length (extended (joined d)) + length (extended (joined m))
length_runs d m = rw joined_append (length_extended_append (joined d) (joined m))

-- a part of what fits
pub fits_part : (name : List ℕ) (k : ℕ) (d m e : List (List ℕ)) → T (fits name k (d ++ (m ++ e))) → T (fits name k m)
fits_part name k d m e t =
    let label = length (part_label name k) in
    let most : label + length (extended (joined (d ++ (m ++ e)))) + 2 ≤ 76 = leb→le _ 76 (rw (fits_room_lem name k (d ++ (m ++ e))) at t) in
    rw (fits_room_lem name k m) (le→leb (label + length (extended (joined m)) + 2) 76 (omega (arith, most, length_runs d (m ++ e), length_runs m e)))

-- ---- nothing is lost

pub runs_joined : (name : List ℕ) (k : ℕ) (cs : List (List ℕ)) → joined (runs_from name k cs) ≡ cs
unfolding runs_from
runs_joined name k [] = refl
runs_joined name k (c ∷ cs) = cut_joined (fits name) k (c ∷ []) cs

pub runs_some : (name : List ℕ) (k : ℕ) (cs : List (List ℕ)) → T (all nonempty (runs_from name k cs))
unfolding runs_from
runs_some name k [] = tt
runs_some name k (c ∷ cs) = cut_some (fits name) k (c ∷ []) cs tt

pub length_numbered : (name : List ℕ) (k : ℕ) (runs : List (List (List ℕ))) → length (numbered name k runs) ≡ length runs
unfolding numbered
length_numbered name k [] = refl
length_numbered name k (run ∷ runs) = ap suc (length_numbered name (suc k) runs)

pub numbered_fit : (name : List ℕ) (k : ℕ) (runs : List (List (List ℕ))) → T (all line_fits (numbered name k runs)) → AllFit (fits name) k runs
unfolding numbered fits
numbered_fit name k [] h = tt
numbered_fit name k (run ∷ runs) h =
    let both = and_yes (line_fits (part_piece name k (joined run))) (all line_fits (numbered name (suc k) runs)) h in
    (both.0, numbered_fit name (suc k) runs both.1)

-- ---- alone or numbered

module _ (name value : List ℕ) where
  pub pieces_alone : T (line_fits (alone_piece name value)) → pieces name value ≡ alone_piece name value ∷ []
  unfolding pieces
  pieces_alone t = cond_yes (line_fits (alone_piece name value)) _ _ t

  pub pieces_parts : T (not (line_fits (alone_piece name value))) → pieces name value ≡ parts name value
  unfolding pieces
  pieces_parts t = cond_no (line_fits (alone_piece name value)) _ _ t
