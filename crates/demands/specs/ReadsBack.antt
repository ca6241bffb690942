-- Rows that read back as a text.
use Rattle.std.specs.Prelude.{◌≡◌, false, List, ℕ}
use Rattle.row.specs.Layout.{Word, LaidAfter, added_text}

-- these bytes read back, by document 01's reading, as the text
pub record ReadsBack (text rows : List ℕ) : Type 0 where
  pub words : List Word
  pub laid : LaidAfter false rows words
  pub reads : added_text words ≡ text
