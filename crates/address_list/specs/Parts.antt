-- The parts of an address field's text. Every byte of the text is in one part.
use Rattle.std.specs.Prelude.{◌≡◌, Bool, true, false, cond, not, ◌&&◌, ◌||◌, List, [], ◌∷◌, ℕ, zero, suc, pred, ◌+◌, ◌-◌, ◌≤◌, ◌<◌, ltb, eqb, length, take, drop, get_or}
use Rattle.lists.specs.Byte.{is_ascii}
use Rattle.lists.specs.Lists.{all}
use Rattle.lists.specs.Run.{run}
use Rattle.line.specs.Line.{blank}
use Rattle.rules.specs.Rules.{allows_alternative}
use Rattle.rules.specs.declared.Rules.{Rules}
use Rattle.comment.specs.Comment.{comment_len}
use Rattle.comment.specs.Parts.{parts, fits}
use Rattle.phrase.specs.Words.{address_len, phrase_len}
use Rattle.address_list.specs.declared.PartKind.{PartKind}
use Rattle.address_list.specs.declared.PartKind.TheVariants.{Blank, Comment, Comma, Colon, Semicolon, Phrase, Address, Angled, Alternative, Stray}
use Rattle.address_list.specs.declared.Front.{Front}

-- the part at the front, with its length
abbrev pub front : PartKind → ℕ → Front
front kind size = record { kind = kind; size = size }

-- a byte that no part begins with
abbrev pub stray : Front
stray = front Stray 1

-- "with an alternative `<address <ASCII address>>`, the first non-ASCII, at least one space or TAB between": the first address is
-- from a to b; `<` is 60, `>` is 62
unfoldable pub alternative_at : List ℕ → ℕ → ℕ → Front
alternative_at s a b =
    let inner = b + run blank (drop b s) in
    let start = inner + 1 + run blank (drop (inner + 1) s) in
    let size = address_len (drop start s) in
    let end = start + size in
    cond
    (ltb b inner && not (all is_ascii (take (b - a) (drop a s))) && eqb (get_or s inner 0) 60 && ltb 0 size && eqb (get_or s end 0) 62 && eqb (get_or s (end + 1) 0) 62 && all is_ascii (take size (drop start s)))
    (front (Alternative start size) (end + 2))
    stray

-- "`<address>`, or with an alternative", where the rules allow it. "runs of spaces and TABs allowed around .. `<`", and none before `>`
unfoldable pub angled_at : Rules → List ℕ → Front
angled_at rules s =
    let start = 1 + run blank (drop 1 s) in
    let size = address_len (drop start s) in
    let end = start + size in
    cond (eqb size 0) stray (cond (eqb (get_or s end 0) 62) (front (Angled start size) (end + 1)) (cond (allows_alternative rules) (alternative_at s start end) stray))

-- a bare address, or else a phrase
unfoldable pub named_at : List ℕ → Front
named_at s =
    let address = address_len s in
    let phrase = phrase_len s in
    cond (ltb 0 address) (front Address address) (cond (ltb 0 phrase) (front Phrase phrase) stray)

-- "An unclosed parenthesis encapsulates an address field", and so does a run "over 900 bytes" that has more than spaces and TABs: no
-- comment starts there
unfoldable pub comment_at : List ℕ → Front
comment_at s =
    let size = comment_len s in
    cond (ltb 0 size && all fits (parts (take size s))) (front Comment size) stray

-- the part at the front: `(` is 40, `,` is 44, `:` is 58, `;` is 59
unfoldable pub part_at : Rules → List ℕ → Front
part_at rules s =
    let first = get_or s 0 0 in
    cond (blank first) (front Blank 1)
    (cond (eqb first 44) (front Comma 1)
    (cond (eqb first 58) (front Colon 1)
    (cond (eqb first 59) (front Semicolon 1)
    (cond (eqb first 60) (angled_at rules s)
    (cond (eqb first 40) (comment_at s) (named_at s))))))

-- ---- what is told of a part that is found

-- where the address that a part names ends in it
abbrev pub inner_end : PartKind → ℕ
inner_end Blank = 0
inner_end Comment = 0
inner_end Comma = 0
inner_end Colon = 0
inner_end Semicolon = 0
inner_end Phrase = 0
inner_end Address = 0
inner_end (Angled start size) = start + size
inner_end (Alternative start size) = start + size
inner_end Stray = 0

-- The answer r is the part d at the front of t: at least one byte, within t, and the address in it within the part.
pub record Took (d : Front) (t : List ℕ) (r : Front) : Type 0 where
  pub is : r ≡ d
  pub some : 0 < r.size
  pub within : r.size ≤ length t
  pub inner : inner_end r.kind ≤ r.size

-- The answer r is the part at a place of a text: at least one byte, within the text where the place is, and the address in it within
-- the part. Past the end of the text there is a stray byte.
pub record TookFrom (rules : Rules) (s : List ℕ) (at : ℕ) (r : Front) : Type 0 where
  pub is : r ≡ part_at rules (drop at s)
  pub some : 0 < r.size
  pub within : at < length s → at + r.size ≤ length s
  pub inner : inner_end r.kind ≤ r.size

-- ---- the parts of a text

-- a part with its bytes
pub record Part : Type 0 where
  pub kind : PartKind
  pub text : List ℕ

-- the parts of what is left of a text, after k bytes of the part before
unfoldable pub parts_from : Rules → ℕ → List ℕ → List Part
parts_from rules k [] = []
parts_from rules (suc k) (b ∷ s) = parts_from rules k s
parts_from rules zero (b ∷ s) = let f = part_at rules (b ∷ s) in record { kind = f.kind; text = take f.size (b ∷ s) } ∷ parts_from rules (pred f.size) s

unfoldable pub parts_of : Rules → List ℕ → List Part
parts_of rules text = parts_from rules 0 text

-- "If any address was replaced or removed": an alternative replaces an address, and one that is not ASCII without it is removed
unfoldable pub changes : PartKind → List ℕ → Bool
changes Blank t = false
changes Comment t = false
changes Comma t = false
changes Colon t = false
changes Semicolon t = false
changes Phrase t = false
changes Address t = not (all is_ascii t)
changes (Angled start size) t = not (all is_ascii (take size (drop start t)))
changes (Alternative start size) t = true
changes Stray t = false

unfoldable pub any_changes : List Part → Bool
any_changes [] = false
any_changes (p ∷ ps) = changes p.kind p.text || any_changes ps
