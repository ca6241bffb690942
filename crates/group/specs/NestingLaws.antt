-- No `Removed:;` is written inside a group.
use Rattle.std.specs.Prelude.{◌≡◌, refl, Bool, true, false, cond, not, ◌&&◌, ◌||◌, List, [], ◌∷◌, ℕ, T}
use Rattle.std.proofs.Math.Facts.{yes_and}
use Rattle.address_list.specs.Parts.{Part}
use Rattle.address_list.specs.declared.PartKind.{PartKind}
use Rattle.address_list.specs.declared.PartKind.TheVariants.{Blank, Comment, Comma, Colon, Semicolon, Phrase, Address, Angled, Alternative, Stray}
use Rattle.group.specs.Group.{is_colon, is_semicolon, is_lost, inside, any_lost, text_of, Turn, turns_of}

-- after a turn, whether a group's colon is written and its semicolon is not yet
abbrev pub grouped_after : Bool → Turn → Bool
grouped_after grouped (Turn.part kind t) = (grouped || is_colon kind) && not (is_semicolon kind)
grouped_after grouped (Turn.lost_group t) = grouped
