-- Pieces of which the promise does not hold. The parameter's name is `f`.
use Rattle.std.specs.Prelude.{◌≡◌, refl, ℕ, T, drop, get_or, replicate}
use Rattle.std.proofs.Common.{sym, ap, ◌∙◌, arith, le→leb}
use mathlib.Core.List.{List, [], ◌∷◌, ◌++◌, Memᴰ}
use Rattle.std.specs.Int.Count.{count_leading_zeros}
use Rattle.lists.specs.CutBy.{cut_after, cut_by}
use Rattle.utf8.specs.Utf8.{char_len, second_low, second_high, is_char, chars, utf8}
use Rattle.hex_digit.specs.Hex.{hex_digit}
use Rattle.row.specs.Layout.{any_case_value}
use Rattle.mime_parameter.specs.Extended.{is_token_byte, is_attribute_char, extended_byte, extended}
use Rattle.mime_parameter.specs.Number.{digits_in, decimal}
use Rattle.mime_parameter.specs.Pieces.{alone_label, part_label, line_fits, alone_piece, pieces, has_room}
use Rattle.mime_parameter.specs.Parameter2231.{Octets, Part, NumberedFrom, Parameter, ParameterDemand}
use Rattle.mime_parameter.specs.Parameter2231Laws.{parameter_demand}

percent : T (is_attribute_char 37) → ⊥
unfolding is_attribute_char is_token_byte
percent t = t

-- what stands in a piece stands for one text
pub octets_once : {s a b : List ℕ} → Octets s a → Octets s b → a ≡ b
octets_once Octets.none Octets.none = refl
octets_once (Octets.attribute_char {b} t o) (Octets.attribute_char u p) = ap (λ (l : List ℕ). b ∷ l) (octets_once o p)
octets_once (Octets.attribute_char t o) (Octets.ext_octet h l p) = absurd (percent t)
octets_once (Octets.ext_octet h l p) (Octets.attribute_char t o) = absurd (percent t)
octets_once (Octets.ext_octet {high = x} {low = y} h l o) (Octets.ext_octet {high = v} {low = w} i m p) =
    let e : x ≡ v = cc in let f : y ≡ w = cc in rw (e, f, octets_once o p)

-- `é`
abbrev é : List ℕ
é = 195 ∷ 169 ∷ []

-- `f*=UTF-8''` and `f*0*=UTF-8''`, `f*1*=`, `f*2*=`
abbrev alone : List ℕ → List ℕ
alone standing = 102 ∷ 42 ∷ 61 ∷ 85 ∷ 84 ∷ 70 ∷ 45 ∷ 56 ∷ 39 ∷ 39 ∷ standing

abbrev part0 : List ℕ → List ℕ
part0 standing = 102 ∷ 42 ∷ 48 ∷ 42 ∷ 61 ∷ 85 ∷ 84 ∷ 70 ∷ 45 ∷ 56 ∷ 39 ∷ 39 ∷ standing

abbrev part1 : List ℕ → List ℕ
part1 standing = 102 ∷ 42 ∷ 49 ∷ 42 ∷ 61 ∷ standing

abbrev part2 : List ℕ → List ℕ
part2 standing = 102 ∷ 42 ∷ 50 ∷ 42 ∷ 61 ∷ standing

abbrev f : List ℕ
f = 102 ∷ []

-- one part too many: `éé` in two parts
pub part_too_many : ParameterDemand f (é ++ é) (part0 (37 ∷ 67 ∷ 51 ∷ 37 ∷ 65 ∷ 57 ∷ []) ∷ part1 (37 ∷ 67 ∷ 51 ∷ 37 ∷ 65 ∷ 57 ∷ []) ∷ []) → ⊥
unfolding has_room pieces line_fits alone_piece alone_label extended extended_byte is_attribute_char is_token_byte hex_digit utf8 is_char chars cut_by cut_after char_len count_leading_zeros second_low second_high
part_too_many d = absurd (le→leb 2 1 (d.fewest (alone_piece f (é ++ é) ∷ []) (parameter_demand f (é ++ é) tt tt tt).ours))

-- a character in two parts
pub character_cut : ParameterDemand f é (part0 (37 ∷ 67 ∷ 51 ∷ []) ∷ part1 (37 ∷ 65 ∷ 57 ∷ []) ∷ []) → ⊥
unfolding part_label decimal digits_in utf8 is_char chars cut_by cut_after char_len count_leading_zeros any_case_value
character_cut d = go d.ours.reads (λ p m. (d.ours.proper p m).whole)
  where
    go : {ps : List Part} → Parameter f (part0 (37 ∷ 67 ∷ 51 ∷ []) ∷ part1 (37 ∷ 65 ∷ 57 ∷ []) ∷ []) ps → ((p : Part) → Memᴰ p ps → T (utf8 p.bytes)) → ⊥
    go (Parameter.numbered (NumberedFrom.part {p = p} e r n)) h =
        let standing : p.standing ≡ 37 ∷ 67 ∷ 51 ∷ [] = sym (ap (λ (l : List ℕ). drop 12 l) e) in
        let bytes : p.bytes ≡ 195 ∷ [] = octets_once (rw standing at r) (Octets.ext_octet refl refl Octets.none) in
        rw bytes at (h p (Memᴰ.head refl))

-- 65 times `a` on a line of 77
pub line_of_77 : ParameterDemand f (replicate 65 97) (alone (replicate 65 97) ∷ []) → ⊥
line_of_77 d = absurd (le→leb 77 76 (d.ours.lines (alone (replicate 65 97)) (Memᴰ.head refl)))

-- `%c3%a9`
pub lower_case_hex : ParameterDemand f é (alone (37 ∷ 99 ∷ 51 ∷ 37 ∷ 97 ∷ 57 ∷ []) ∷ []) → ⊥
unfolding part_label decimal digits_in alone_label any_case_value extended extended_byte is_attribute_char is_token_byte hex_digit
lower_case_hex d = go d.ours.reads (λ p m. (d.ours.proper p m).spelt)
  where
    go : {ps : List Part} → Parameter f (alone (37 ∷ 99 ∷ 51 ∷ 37 ∷ 97 ∷ 57 ∷ []) ∷ []) ps → ((p : Part) → Memᴰ p ps → p.standing ≡ extended p.bytes) → ⊥
    go (Parameter.alone {p = p} e r) h =
        let standing : p.standing ≡ 37 ∷ 99 ∷ 51 ∷ 37 ∷ 97 ∷ 57 ∷ [] = sym (ap (λ (l : List ℕ). drop 10 l) e) in
        let bytes : p.bytes ≡ é = octets_once (rw standing at r) (Octets.ext_octet refl refl (Octets.ext_octet refl refl Octets.none)) in
        let same : 37 ∷ 99 ∷ 51 ∷ 37 ∷ 97 ∷ 57 ∷ [] ≡ extended é = sym standing ∙ (h p (Memᴰ.head refl) ∙ ap extended bytes) in
        let other : ◌≡◌ {A = ℕ} 99 67 = ap (λ (l : List ℕ). get_or l 1 0) same in
        omega arith
    go (Parameter.numbered (NumberedFrom.part e r n)) h =
        let other : ◌≡◌ {A = ℕ} 61 48 = ap (λ (l : List ℕ). get_or l 2 0) e in
        omega arith

-- `f*0*=` and then `f*2*=`
pub gap_in_the_numbers : (value : List ℕ) → ParameterDemand f value (part0 (37 ∷ 67 ∷ 51 ∷ 37 ∷ 65 ∷ 57 ∷ []) ∷ part2 (37 ∷ 67 ∷ 51 ∷ 37 ∷ 65 ∷ 57 ∷ []) ∷ []) → ⊥
unfolding part_label decimal digits_in
gap_in_the_numbers value d = go d.ours.reads
  where
    go : {ps : List Part} → Parameter f (part0 (37 ∷ 67 ∷ 51 ∷ 37 ∷ 65 ∷ 57 ∷ []) ∷ part2 (37 ∷ 67 ∷ 51 ∷ 37 ∷ 65 ∷ 57 ∷ []) ∷ []) ps → ⊥
    go (Parameter.numbered (NumberedFrom.part e r (NumberedFrom.part i s n))) =
        let other : ◌≡◌ {A = ℕ} 50 49 = ap (λ (l : List ℕ). get_or l 2 0) i in
        omega arith

-- `f*=UTF-8'x'%C3%A9`: a language
pub language : (value : List ℕ) → ParameterDemand f value ((102 ∷ 42 ∷ 61 ∷ 85 ∷ 84 ∷ 70 ∷ 45 ∷ 56 ∷ 39 ∷ 120 ∷ 39 ∷ 37 ∷ 67 ∷ 51 ∷ 37 ∷ 65 ∷ 57 ∷ []) ∷ []) → ⊥
unfolding part_label decimal digits_in alone_label
language value d = go d.ours.reads
  where
    go : {ps : List Part} → Parameter f ((102 ∷ 42 ∷ 61 ∷ 85 ∷ 84 ∷ 70 ∷ 45 ∷ 56 ∷ 39 ∷ 120 ∷ 39 ∷ 37 ∷ 67 ∷ 51 ∷ 37 ∷ 65 ∷ 57 ∷ []) ∷ []) ps → ⊥
    go (Parameter.alone e r) =
        let other : ◌≡◌ {A = ℕ} 120 39 = ap (λ (l : List ℕ). get_or l 9 0) e in
        omega arith
    go (Parameter.numbered (NumberedFrom.part e r n)) =
        let other : ◌≡◌ {A = ℕ} 61 48 = ap (λ (l : List ℕ). get_or l 2 0) e in
        omega arith
