-- What is promised of a converted parameter: "Reading the parts back gives the value, and no numbering from zero in parts of this same
-- spelling, whole characters in each, on such lines needs fewer parts." Parameter2231Laws.antt proves it of our pieces, and has pieces of
-- which it does not hold.
use Rattle.std.specs.Prelude.{◌≡◌, ℕ, suc, ◌+◌, ◌*◌, ◌≤◌, T, length}
use mathlib.Core.List.{List, [], ◌∷◌, ◌++◌, map, Memᴰ}
use Rattle.std.proofs.Math.Option.{some}
use Rattle.lists.specs.Lists.{joined, nonempty}
use Rattle.utf8.specs.Utf8.{utf8}
use Rattle.row.specs.Layout.{any_case_value}
use Rattle.mime_parameter.specs.Extended.{is_attribute_char, extended}
use Rattle.mime_parameter.specs.Pieces.{alone_label, part_label}

-- ---- reading by RFC 2231

-- extended-other-values, `*(ext_octet / attribute_char)`: what stands there, and the bytes that it stands for
pub data Octets : List ℕ → List ℕ → Type 0 where
  none : Octets [] []
  attribute_char : {b : ℕ} {standing bytes : List ℕ} → T (is_attribute_char b) → Octets standing bytes → Octets (b ∷ standing) (b ∷ bytes)
  -- `%` (37) and two hex digits in any case
  ext_octet : {first second high low : ℕ} {standing bytes : List ℕ} → any_case_value first ≡ some high → any_case_value second ≡ some low
      → Octets standing bytes → Octets (37 ∷ first ∷ second ∷ standing) ((high * 16 + low) ∷ bytes)

-- a piece after its label: what stands there, and the bytes that it stands for
pub record Part : Type 0 where
  pub standing : List ℕ
  pub bytes : List ℕ

abbrev pub Reads : Part → Type 0
Reads p = Octets p.standing p.bytes

-- parts numbered from k on, "charset UTF-8, empty language" in the first
pub data NumberedFrom (name : List ℕ) : ℕ → List (List ℕ) → List Part → Type 0 where
  end : {k : ℕ} → NumberedFrom name k [] []
  part : {k : ℕ} {piece : List ℕ} {p : Part} {pieces : List (List ℕ)} {ps : List Part} → piece ≡ part_label name k ++ p.standing → Reads p
      → NumberedFrom name (suc k) pieces ps → NumberedFrom name k (piece ∷ pieces) (p ∷ ps)

-- pieces that are one parameter by RFC 2231: the value alone, or a "numbering from zero"
pub data Parameter (name : List ℕ) : List (List ℕ) → List Part → Type 0 where
  alone : {piece : List ℕ} {p : Part} → piece ≡ alone_label name ++ p.standing → Reads p → Parameter name (piece ∷ []) (p ∷ [])
  numbered : {piece : List ℕ} {pieces : List (List ℕ)} {ps : List Part} → NumberedFrom name 0 (piece ∷ pieces) ps → Parameter name (piece ∷ pieces) ps

-- ---- the promise

pub record Proper (p : Part) : Type 0 where
  -- "of this same spelling"
  pub spelt : p.standing ≡ extended p.bytes
  -- "whole characters in each"
  pub whole : T (utf8 p.bytes)

-- pieces that give the value, in this spelling, on such lines: a space, the piece, and a `;`
pub record PiecesOf (name value : List ℕ) (pieces : List (List ℕ)) : Type 0 where
  pub parts : List Part
  pub reads : Parameter name pieces parts
  pub gives : joined (map (λ (p : Part). p.bytes) parts) ≡ value
  pub proper : (p : Part) → Memᴰ p parts → Proper p
  pub lines : (piece : List ℕ) → Memᴰ piece pieces → length (32 ∷ (piece ++ (59 ∷ []))) ≤ 76

pub record ParameterDemand (name value : List ℕ) (pieces : List (List ℕ)) : Type 0 where
  pub ours : PiecesOf name value pieces
  -- no part is empty
  pub filled : (p : Part) → Memᴰ p ours.parts → T (nonempty p.bytes)
  pub fewest : (other : List (List ℕ)) → PiecesOf name value other → length pieces ≤ length other
