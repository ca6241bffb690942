-- The word that starts at a place of a text, as a loop over the words of a row finds it. WordEndLaws.antt has the row's laws by it.
use Rattle.std.specs.Prelude.{◌≡◌, not, List, [], ◌∷◌, ◌++◌, ℕ, ◌-◌, ◌≤◌, T, length, take, drop}
use Rattle.lists.specs.Lists.{joined}
use Rattle.utf8.specs.Utf8.{chars}
use Rattle.row.specs.declared.Encoding.{Encoding}
use Rattle.row.specs.Row.{encodings, fits_room, chosen}

-- from place i to place e of a text stand whole characters
pub record Span (s : List ℕ) (i e : ℕ) : Type 0 where
  pub run : List (List ℕ)
  pub ahead : i ≤ e
  pub within : e ≤ length s
  pub joins : chars (drop i s) ≡ run ++ chars (drop e s)
  pub bytes : joined run ≡ take (e - i) (drop i s)

-- The word with this room that starts at place i ends at place e: it holds the characters between, and not one more. Its encoding.
pub record WordEnd (room : ℕ) (s : List ℕ) (i e : ℕ) (encoding : Encoding) : Type 0 where
  pub span : Span s i e
  pub fits : T (fits_room encodings room 0 span.run)
  pub full : (c : List ℕ) (cs : List (List ℕ)) → chars (drop e s) ≡ c ∷ cs → T (not (fits_room encodings room 0 (span.run ++ (c ∷ []))))
  pub kind : encoding ≡ chosen encodings room (take (e - i) (drop i s))
