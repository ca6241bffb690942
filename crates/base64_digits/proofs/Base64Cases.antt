-- RFC 4648, section 10, both ways; and what is no base64.
use Rattle.std.specs.Prelude.{◌≡◌, refl, List, [], ◌∷◌, map, ℕ, take}
use Rattle.std.proofs.Math.Option.{none, some}
use Rattle.base64_digits.specs.Base64.{digit64, in_base64}
use Rattle.base64_digits.specs.Reading.{is_digit64, value64, from_quad, from_three, from_two, from_last, from_base64}

-- `foobar`, and its fronts
abbrev foobar : List ℕ
foobar = 102 ∷ 111 ∷ 111 ∷ 98 ∷ 97 ∷ 114 ∷ []

abbrev fronts : List (List ℕ)
fronts = map (λ (n : ℕ). take n foobar) (0 ∷ 1 ∷ 2 ∷ 3 ∷ 4 ∷ 5 ∷ 6 ∷ [])

-- nothing, `Zg==`, `Zm8=`, `Zm9v`, `Zm9vYg==`, `Zm9vYmE=`, `Zm9vYmFy`
abbrev vectors : List (List ℕ)
vectors =
    []
    ∷ (90 ∷ 103 ∷ 61 ∷ 61 ∷ [])
    ∷ (90 ∷ 109 ∷ 56 ∷ 61 ∷ [])
    ∷ (90 ∷ 109 ∷ 57 ∷ 118 ∷ [])
    ∷ (90 ∷ 109 ∷ 57 ∷ 118 ∷ 89 ∷ 103 ∷ 61 ∷ 61 ∷ [])
    ∷ (90 ∷ 109 ∷ 57 ∷ 118 ∷ 89 ∷ 109 ∷ 69 ∷ 61 ∷ [])
    ∷ (90 ∷ 109 ∷ 57 ∷ 118 ∷ 89 ∷ 109 ∷ 70 ∷ 121 ∷ [])
    ∷ []

pub vectors_written : map in_base64 fronts ≡ vectors
unfolding in_base64 digit64
vectors_written = refl

pub vectors_read : map from_base64 vectors ≡ map some fronts
unfolding is_digit64 value64 from_quad from_three from_two from_last from_base64
vectors_read = refl

-- `Zg`, `Zg=`, `Zh==` (spare bits), `Zg==Zg==` (`=` inside), `Z===`, `Z g=`, `Zm-_`
abbrev others : List (List ℕ)
others =
    (90 ∷ 103 ∷ [])
    ∷ (90 ∷ 103 ∷ 61 ∷ [])
    ∷ (90 ∷ 104 ∷ 61 ∷ 61 ∷ [])
    ∷ (90 ∷ 103 ∷ 61 ∷ 61 ∷ 90 ∷ 103 ∷ 61 ∷ 61 ∷ [])
    ∷ (90 ∷ 61 ∷ 61 ∷ 61 ∷ [])
    ∷ (90 ∷ 32 ∷ 103 ∷ 61 ∷ [])
    ∷ (90 ∷ 109 ∷ 45 ∷ 95 ∷ [])
    ∷ []

pub others_not_read : map from_base64 others ≡ map (λ (l : List ℕ). none) others
unfolding is_digit64 value64 from_quad from_three from_two from_last from_base64
others_not_read = refl
