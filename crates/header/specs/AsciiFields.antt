-- Fields that are wholly ASCII, one after another: code passes over them together.
use Rattle.std.specs.Prelude.{cond, List, [], ◌∷◌, ℕ, ◌+◌, length, drop}
use Rattle.lists.specs.Lists.{all, joined}
use Rattle.lists.specs.Byte.{is_ascii}
use Rattle.header.specs.Fields.{fields_of}

-- the fields at the front of these that are wholly ASCII, up to the first that is not
unfoldable pub ascii_fields : List (List ℕ) → List (List ℕ)
ascii_fields [] = []
ascii_fields (field ∷ fields) = let more = ascii_fields fields in cond (all is_ascii field) (field ∷ more) []

-- the place after them, for the fields from the byte `at` of a header on
unfoldable pub ascii_fields_end : List ℕ → ℕ → ℕ
ascii_fields_end h at = at + length (joined (ascii_fields (fields_of (drop at h))))
