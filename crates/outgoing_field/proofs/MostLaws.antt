-- Laws of the most that is written for a header: by its length, and as code adds it up.
use Rattle.std.specs.Prelude.{◌≡◌, refl, Bool, true, false, List, [], ◌∷◌, ◌++◌, ℕ, ◌+◌, ◌-◌, ◌*◌, ◌≤◌, ◌<◌, T, length, take, drop}
use Rattle.std.proofs.Common.{sym, ap, ◌∙◌, arith, length-append, length-take, length-drop, drop_of_length-le}
use Rattle.std.proofs.Math.Facts.{and_yes}
use Rattle.lists.specs.Byte.{is_ascii}
use Rattle.lists.specs.Lists.{all, joined}
use Rattle.lists.specs.ListsLaws.{cond_has, yes_true}
use Rattle.rules.specs.declared.Rules.{Rules}
use Rattle.header_line.specs.Lines.{name_len}
use Rattle.header.specs.Fields.{field_len, fields_of, name_of, value_of, line_count}
use Rattle.header.specs.FieldLaws.{fields_nil, fields_next, fields_joined, name_part}
use Rattle.header.specs.AsciiFieldsLaws.{AsciiFields, value_ascii}
use Rattle.header_name.specs.Names.{kind_of}
use Rattle.header_name.specs.declared.Kind.{Kind}
use Rattle.field_method.specs.declared.Method.{Method}
use Rattle.field_method.specs.declared.Method.TheVariants.{Pieces, PlainText, Encapsulated, Received, CommentsOrHeld, CommentsOrEncapsulated, Parameters, Held}
use Rattle.field_method.specs.FieldMethod.{method_of}
use Rattle.std.specs.Prelude.{Some, None, Ok, Err}
use Rattle.outgoing_field.specs.Fate.{fate_of, is_held}
use Rattle.outgoing_field.proofs.FateLaws.{HeldLeft, held_all, held_skip, held_end, held_here, held_next}
use Rattle.outgoing_field.specs.Most.{method_most, field_most, fields_most, most_of, LooksAs, Looked}

-- ---- by the length

-- at least 30 for each byte, and at most 80
pub record Between (size most : ℕ) : Type 0 where
  pub least : 30 * size ≤ most
  pub greatest : most ≤ 80 * size

between_method : (method : Method) (n : ℕ) → Between n (method_most method n)
unfolding method_most
between_method Pieces n = record { least = omega arith; greatest = omega arith }
between_method PlainText n = record { least = omega arith; greatest = omega arith }
between_method Encapsulated n = record { least = omega arith; greatest = omega arith }
between_method Received n = record { least = omega arith; greatest = omega arith }
between_method CommentsOrHeld n = record { least = omega arith; greatest = omega arith }
between_method CommentsOrEncapsulated n = record { least = omega arith; greatest = omega arith }
between_method Parameters n = record { least = omega arith; greatest = omega arith }
between_method Held n = record { least = omega arith; greatest = omega arith }

pub between_field : (rules : Rules) (field : List ℕ) → Between (length field) (field_most rules field)
unfolding field_most
between_field rules field =
    let method = method_of rules (kind_of (name_of field)) in
    cond_has (Between (length field)) (all is_ascii (value_of field)) (30 * length field) (method_most method (length field))
    (λ t. record { least = omega arith; greatest = omega arith })
    (λ t. between_method method (length field))

between_fields : (rules : Rules) (fields : List (List ℕ)) → Between (length (joined fields)) (fields_most rules fields)
unfolding fields_most
between_fields rules [] = record { least = omega arith; greatest = omega arith }
between_fields rules (field ∷ fields) =
    let a = between_field rules field in
    let b = between_fields rules fields in
    rw (length-append field (joined fields)) record { least = omega (arith, a.least, b.least); greatest = omega (arith, a.greatest, b.greatest) }

pub between : (rules : Rules) (h : List ℕ) → Between (length h) (most_of rules h)
unfolding most_of
between rules h = rw fields_joined at (between_fields rules (fields_of h))

-- a header within its limit
pub most_le : (rules : Rules) (h : List ℕ) → length h ≤ 32768 → most_of rules h ≤ 2621440
most_le rules h k = omega (arith, (between rules h).greatest)

-- ---- as code adds it up

module _ (rules : Rules) (field : List ℕ) where
  pub ascii_most : all is_ascii (value_of field) ≡ true → 30 * length field ≡ field_most rules field
  unfolding field_most
  ascii_most e = rw e

  pub most_by_method : (n : ℕ) {kind : Kind} {method : Method} {r : ℕ} → all is_ascii (value_of field) ≡ false → n ≡ name_len field → kind ≡ kind_of (take n field) → method ≡ method_of rules kind
      → r ≡ method_most method (length field) → r ≡ field_most rules field
  unfolding field_most
  most_by_method n e k q m h = h ∙ rw (e, m, q, name_part field n k)

-- n is the most of the bytes before a place
pub record MostTo (rules : Rules) (h : List ℕ) (at n : ℕ) : Type 0 where
  pub same : most_of rules h ≡ n + most_of rules (drop at h)

pub most_start : (rules : Rules) (h : List ℕ) → MostTo rules h 0 0
most_start rules h = record { same = omega arith }

pub most_end : {rules : Rules} {h : List ℕ} {at n : ℕ} → MostTo rules h at n → length h ≤ at → n ≡ most_of rules h
unfolding most_of fields_most
most_end {rules} {h} {at} {n} g k = sym (g.same ∙ rw (drop_of_length-le h {i = at} k, fields_nil) (omega arith))

-- no sum of them wraps
pub most_small : {rules : Rules} {h : List ℕ} {at n : ℕ} → MostTo rules h at n → length h ≤ 32768 → n ≤ 2621440
most_small {rules} {h} g k = omega (arith, g.same, most_le rules h k)

pub most_next : {rules : Rules} {h : List ℕ} {at to n m : ℕ} → MostTo rules h at n → at < length h → to ≡ at + field_len (drop at h) → m ≡ field_most rules (take (to - at) (drop at h))
    → MostTo rules h to (n + m)
unfolding most_of fields_most
most_next {rules} {h} {at} {to} {n} {m} g k e q =
    record { same = g.same ∙ rw (fields_next h at to k e, q) (omega arith) }

most_past : (rules : Rules) (passed more : List (List ℕ)) → T (all (all is_ascii) passed) → fields_most rules (passed ++ more) ≡ 30 * length (joined passed) + fields_most rules more
unfolding fields_most
most_past rules [] more t = omega arith
most_past rules (field ∷ passed) more t =
    let both = and_yes (all is_ascii field) (all (all is_ascii) passed) t in
    let here = ascii_most rules field (yes_true (all is_ascii (value_of field)) (value_ascii field both.0)) in
    omega (arith, here, most_past rules passed more both.1, length-append field (joined passed))

-- fields that are wholly ASCII
pub most_skip : {rules : Rules} {h : List ℕ} {at r n : ℕ} → MostTo rules h at n → at ≤ length h → AsciiFields h at r → MostTo rules h r (n + 30 * (r - at))
unfolding most_of
most_skip {rules} {h} {at} {r} {n} g k p =
    let size : length (joined p.passed) ≡ r - at = rw (p.bytes, length-take, length-drop) (omega (arith, p.up, p.inside k)) in
    record { same = g.same ∙ rw (p.fields, most_past rules p.passed (fields_of (drop r h)) p.ascii, size) (omega arith) }

-- ---- both found by one walk

pub record Looking (rules : Rules) (h : List ℕ) (at n : ℕ) : Type 0 where
  pub left : HeldLeft rules h at
  pub to : MostTo rules h at n

pub looking_start : (rules : Rules) (h : List ℕ) → Looking rules h 0 0
looking_start rules h = record { left = held_all rules h; to = most_start rules h }

pub looking_small : {rules : Rules} {h : List ℕ} {at n : ℕ} → Looking rules h at n → length h ≤ 32768 → n ≤ 2621440
looking_small g k = most_small g.to k

pub looking_skip : {rules : Rules} {h : List ℕ} {at r n : ℕ} → Looking rules h at n → at ≤ length h → AsciiFields h at r → Looking rules h r (n + 30 * (r - at))
looking_skip g k p = record { left = held_skip g.left k p; to = most_skip g.to k p }

pub looking_end : {rules : Rules} {h : List ℕ} {at n : ℕ} → Looking rules h at n → length h ≤ at → Looked rules h (Ok n)
looking_end g k = (sym (held_end g.left k), most_end g.to k)

module _ {rules : Rules} {h : List ℕ} {at to n : ℕ} (g : Looking rules h at n) (k : at < length h) (e : to ≡ at + field_len (drop at h)) where
  pub looking_here : {line : ℕ} → LooksAs rules (take (to - at) (drop at h)) None → line ≡ line_count (take (at - 0) h) → Looked rules h (Err (record { line = line; at = at }))
  looking_here {line} t l = sym (held_here g.left k e t line l)

  pub looking_next : {m : ℕ} → LooksAs rules (take (to - at) (drop at h)) (Some m) → Looking rules h to (n + m)
  looking_next t = record { left = held_next g.left k e t.0; to = most_next g.to k e t.1 }
