-- Bounds of a header's refusals: places and offsets lie in the header.
use Rattle.std.specs.Prelude.{◌≡◌, refl, List, [], ◌∷◌, ℕ, suc, ◌+◌, ◌≤◌, eqb, length, take, drop, Ok}
use Rattle.std.proofs.Common.{ap, arith, length-append, length-take, length-drop}
use Rattle.lists.specs.Byte.{is_ascii}
use Rattle.lists.specs.Lists.{joined}
use Rattle.lists.specs.ListsLaws.{cond_has}
use Rattle.lists.specs.CutByLaws.{cut_few, cut_joined}
use Rattle.lists.specs.RunLaws.{run_le}
use Rattle.line.specs.Line.{crlf, line_len}
use Rattle.header_line.specs.Lines.{line_ok, lines_of, lines_from, checked_lines, bad_line, LineCheck}
use Rattle.header.specs.Fields.{field_len, fields_of, line_count}
use Rattle.header_stop.specs.HeaderStopLaws.{line_stop_lem}
use Rattle.rules.specs.declared.Rules.{Rules}
use Rattle.outgoing_field.specs.Fate.{FirstHeld}
use Rattle.outgoing_field.specs.Fate.FirstHeld.{Absent, At}
use Rattle.outgoing_field.specs.Fate.{fate_of, is_held, held_from, held_of}
use Rattle.offset.specs.Offset.{front_line, header_line_offset, field_offset}
use Rattle.offset.specs.OffsetLaws.{front_within}

-- a malformed header line, and where it starts
data LineWithin (n m : ℕ) : LineCheck → Type 0 where
  well_formed_lem : LineWithin n m (Ok tt)
  malformed : {line at : ℕ} → line ≤ n → at ≤ m → LineWithin n m (bad_line line at)

lines_within : (n at i j : ℕ) (ls : List (List ℕ)) → n + length ls ≤ i → at + length (joined ls) ≤ j → LineWithin i j (lines_from n at ls)
unfolding lines_from
lines_within n at i j [] k l = well_formed_lem
lines_within n at i j (line ∷ more) k l =
    let size = length-append line (joined more) in
    cond_has (LineWithin i j) (line_ok (eqb n 0) line) (lines_from (suc n) (at + length line) more) (bad_line n at)
    (λ t. lines_within (suc n) (at + length line) i j more (omega arith) (omega arith))
    (λ t. malformed (omega arith) (omega arith))

malformed_line : {n m line at : ℕ} → LineWithin n m (bad_line line at) → (line ≤ n) × (at ≤ m)
malformed_line (malformed k l) = (k, l)

pub malformed_le : (h : List ℕ) (line at : ℕ) → checked_lines h ≡ bad_line line at → (line ≤ length h) × (at ≤ length h)
unfolding checked_lines lines_of
malformed_le h line at q =
    let size : List ℕ → ℕ = λ rest. line_len rest + 2 in
    malformed_line (rw q at (lines_within 0 0 (length h) (length h) (lines_of h) (omega (arith, cut_few size h)) (omega (arith, ap length (cut_joined size h)))))

pub header_line_le : (h : List ℕ) (n at : ℕ) → at ≤ length h → header_line_offset h n at ≤ length h
unfolding header_line_offset
header_line_le h n at k = omega (arith, (line_stop_lem (eqb n 0) (front_line (drop at h))).inside, front_within h at k)

-- a held field, and where it starts
data HeldWithin (h : List ℕ) (n : ℕ) : FirstHeld → Type 0 where
  absent : HeldWithin h n Absent
  at_field : {at : ℕ} → at ≤ n → HeldWithin h n (At (line_count (take at h)) at)

held_within : (rules : Rules) (h : List ℕ) (at n : ℕ) (fields : List (List ℕ)) → at + length (joined fields) ≤ n → HeldWithin h n (held_from rules h at fields)
unfolding held_from
held_within rules h at n [] k = absent
held_within rules h at n (field ∷ fields) k =
    let size = length-append field (joined fields) in
    cond_has (HeldWithin h n) (is_held (fate_of rules field)) (At (line_count (take at h)) at) (held_from rules h (at + length field) fields)
    (λ t. at_field {at = at} (omega arith))
    (λ t. held_within rules h (at + length field) n fields (omega arith))

line_count_le : (s : List ℕ) → line_count s ≤ length s
unfolding line_count
line_count_le [] = omega arith
line_count_le (b ∷ rest) =
    let k = line_count_le rest in
    cond_has (λ (n : ℕ). n ≤ suc (length rest)) (crlf (b ∷ rest)) (suc (line_count rest)) (line_count rest) (λ t. omega arith) (λ t. omega arith)

held_place : {h : List ℕ} {n line at : ℕ} → HeldWithin h n (At line at) → (line ≤ length h) × (at ≤ n)
held_place {h} (at_field {at} k) = (omega (arith, line_count_le (take at h), length-take at h), k)

pub held_le : (rules : Rules) (h : List ℕ) (line at : ℕ) → held_of rules h ≡ At line at → (line ≤ length h) × (at ≤ length h)
unfolding held_of fields_of
held_le rules h line at q = held_place (rw q at (held_within rules h 0 (length h) (fields_of h) (omega (arith, ap length (cut_joined field_len h)))))

pub field_offset_le : (h : List ℕ) (at : ℕ) → at ≤ length h → field_offset h at ≤ length h
unfolding field_offset
field_offset_le h at k = omega (arith, run_le is_ascii (drop at h), length-drop at h)
