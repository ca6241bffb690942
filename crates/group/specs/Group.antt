-- The groups of an address field that lose a member: "If any member of a group has a non-ASCII address without an alternative, the
-- whole group becomes the pieces before its colon, `Internationalized Address`, encoded words of everything between its colon and
-- semicolon (spaces and TABs at both ends dropped), `Removed:;`."
use Rattle.std.specs.Prelude.{◌≡◌, Bool, true, false, cond, not, ◌&&◌, ◌||◌, List, [], ◌∷◌, ◌++◌, ℕ, ◌+◌, ◌-◌, ◌≤◌, ◌<◌, length, take, drop, Option, Some, None}
use Rattle.lists.specs.Byte.{is_ascii}
use Rattle.lists.specs.Lists.{all}
use Rattle.rules.specs.declared.Rules.{Rules}
use Rattle.address_list.specs.Parts.{Part, parts_from, inner_end}
use Rattle.address_list.specs.declared.PartKind.{PartKind}
use Rattle.address_list.specs.declared.PartKind.TheVariants.{Blank, Comment, Comma, Colon, Semicolon, Phrase, Address, Angled, Alternative, Stray}
use Rattle.group.specs.declared.Next.{Next}
use Rattle.group.specs.declared.Group.{Group}
use Rattle.group.specs.declared.TurnKind.{TurnKind}
use Rattle.group.specs.declared.TurnKind.TheVariants.{OnePart, LostGroup}

-- a group's colon
abbrev pub is_colon : PartKind → Bool
is_colon Blank = false
is_colon Comment = false
is_colon Comma = false
is_colon Colon = true
is_colon Semicolon = false
is_colon Phrase = false
is_colon Address = false
is_colon (Angled start size) = false
is_colon (Alternative start size) = false
is_colon Stray = false

-- its semicolon
abbrev pub is_semicolon : PartKind → Bool
is_semicolon Blank = false
is_semicolon Comment = false
is_semicolon Comma = false
is_semicolon Colon = false
is_semicolon Semicolon = true
is_semicolon Phrase = false
is_semicolon Address = false
is_semicolon (Angled start size) = false
is_semicolon (Alternative start size) = false
is_semicolon Stray = false

-- "a non-ASCII address without an alternative"
unfoldable pub is_lost : PartKind → List ℕ → Bool
is_lost Blank t = false
is_lost Comment t = false
is_lost Comma t = false
is_lost Colon t = false
is_lost Semicolon t = false
is_lost Phrase t = false
is_lost Address t = not (all is_ascii t)
is_lost (Angled start size) t = not (all is_ascii (take size (drop start t)))
is_lost (Alternative start size) t = false
is_lost Stray t = false

-- of the parts after a group's colon those before its semicolon
unfoldable pub inside : List Part → List Part
inside [] = []
inside (p ∷ ps) = cond (is_semicolon p.kind) [] (p ∷ inside ps)

-- "any member of a group"
unfoldable pub any_lost : List Part → Bool
any_lost [] = false
any_lost (p ∷ ps) = is_lost p.kind p.text || any_lost ps

-- "everything"
unfoldable pub text_of : List Part → List ℕ
text_of [] = []
text_of (p ∷ ps) = p.text ++ text_of ps

-- the bytes of a group's semicolon, by the parts after its colon; none where it has none
unfoldable pub semicolon_of : List Part → List ℕ
semicolon_of [] = []
semicolon_of (p ∷ ps) = cond (is_semicolon p.kind) p.text (semicolon_of ps)

-- what is written at a turn: a part, or a whole group that loses a member, from its colon on, in place of which stands what is
-- between its colon and its semicolon
pub data Turn : Type 0 where
  part : PartKind → List ℕ → Turn
  lost_group : List ℕ → Turn

-- the turns of a row of parts; while such a group is passed over there is none, up to its semicolon and with it
unfoldable pub turns_from : Bool → List Part → List Turn
turns_from passing [] = []
turns_from true (p ∷ ps) = turns_from (not (is_semicolon p.kind)) ps
turns_from false (p ∷ ps) =
    cond (is_colon p.kind && any_lost (inside ps)) (Turn.lost_group (text_of (inside ps)) ∷ turns_from true ps) (Turn.part p.kind p.text ∷ turns_from false ps)

unfoldable pub turns_of : List Part → List Turn
turns_of ps = turns_from false ps

-- ---- what is told of a group and of a turn

-- the parts from a place of a text on
abbrev pub parts_at : Rules → List ℕ → ℕ → List Part
parts_at rules s at = parts_from rules 0 (drop at s)

-- The answer r is the group whose colon stands before `at`: where its semicolon stands, and the place after it.
pub record GroupAt (rules : Rules) (s : List ℕ) (at : ℕ) (r : Group) : Type 0 where
  pub text : text_of (inside (parts_at rules s at)) ≡ take (r.end - at) (drop at s)
  pub after : r.next ≡ r.end + length (semicolon_of (parts_at rules s at))
  pub beyond : turns_from true (parts_at rules s at) ≡ turns_from false (parts_at rules s r.next)
  pub from : at ≤ r.end
  pub on : r.end ≤ r.next
  pub within : r.next ≤ length s

-- the group whose colon stands before `at`, where it loses a member
abbrev pub LostAt : Rules → List ℕ → ℕ → Option Group → Type 0
LostAt rules s at None = any_lost (inside (parts_at rules s at)) ≡ false
LostAt rules s at (Some r) = (any_lost (inside (parts_at rules s at)) ≡ true) × GroupAt rules s at r

-- a turn by what is written, a part of a kind or a group that loses a member, and by its bytes
abbrev pub turn_for : TurnKind → List ℕ → Turn
turn_for (OnePart kind) t = Turn.part kind t
turn_for LostGroup t = Turn.lost_group t

-- where the address that a turn's part names ends in it
abbrev pub turn_inner : TurnKind → ℕ
turn_inner (OnePart kind) = inner_end kind
turn_inner LostGroup = 0

-- the turn past the end of a text: an empty one
unfoldable pub no_turn : ℕ → Next
no_turn at = record { kind = OnePart Stray; start = at; end = at; next = at }

-- The turn at a place, by the parts from there on, the first of which is p: the group whose colon it is, where that loses a member, or else p.
unfoldable pub next_of : ℕ → List Part → Next
next_of at [] = no_turn at
next_of at (p ∷ ps) =
    let start = at + length p.text in
    let end = start + length (text_of (inside ps)) in
    cond (is_colon p.kind && any_lost (inside ps)) (record { kind = LostGroup; start = start; end = end; next = end + length (semicolon_of ps) })
    (record { kind = OnePart p.kind; start = at; end = start; next = start })

-- The answer r is the turn at a place of a text, and after it come the turns from `r.next` on.
pub record NextAt (rules : Rules) (s : List ℕ) (at : ℕ) (r : Next) : Type 0 where
  pub equal : r ≡ next_of at (parts_at rules s at)
  pub is : turns_from false (parts_at rules s at) ≡ turn_for r.kind (take (r.end - r.start) (drop r.start s)) ∷ turns_from false (parts_at rules s r.next)
  pub ordered : r.start ≤ r.end
  pub inner : turn_inner r.kind ≤ r.end - r.start
  pub on : at < r.next
  pub covers : r.end ≤ r.next
  pub within : r.next ≤ length s

-- the turn at any place
pub record NextFrom (rules : Rules) (s : List ℕ) (at : ℕ) (r : Next) : Type 0 where
  pub there : at < length s → NextAt rules s at r
  pub past : length s ≤ at → r ≡ no_turn at
