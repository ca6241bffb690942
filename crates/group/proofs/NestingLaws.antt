-- No `Removed:;` is written inside a group.
use Rattle.std.specs.Prelude.{◌≡◌, refl, Bool, true, false, cond, not, ◌&&◌, ◌||◌, List, [], ◌∷◌, ℕ, T}
use Rattle.std.proofs.Math.Facts.{yes_and}
use Rattle.address_list.specs.Parts.{Part}
use Rattle.address_list.specs.declared.PartKind.{PartKind}
use Rattle.address_list.specs.declared.PartKind.TheVariants.{Blank, Comment, Comma, Colon, Semicolon, Phrase, Address, Angled, Alternative, Stray}
use Rattle.group.specs.Group.{is_colon, is_semicolon, is_lost, inside, any_lost, text_of, Turn, turns_of}
use Rattle.group.proofs.GroupLaws.{TurnCases, turns_have}
use Rattle.group.specs.NestingLaws.{grouped_after}

-- `Removed:;` is written for an address that is removed and for a group that is removed
abbrev pub is_removed : Turn → Bool
is_removed (Turn.part kind t) = is_lost kind t
is_removed (Turn.lost_group t) = true

-- between a group's `:` and its `;` no `Removed:;` is written
unfoldable pub none_nested : Bool → List Turn → Bool
none_nested grouped [] = true
none_nested grouped (t ∷ ts) = not (grouped && is_removed t) && none_nested (grouped_after grouped t) ts

-- ---- the walk

-- the parts of a group that is written lose no member
abbrev Whole : Bool → List Part → Type 0
Whole grouped ps = T (not (grouped && any_lost (inside ps)))

no_or : (a b : Bool) → T (not (a || b)) → T (not a) × T (not b)
no_or true b h = absurd h
no_or false b h = (tt, h)

-- a semicolon is neither a colon nor an address
semicolon_only : (kind : PartKind) (t : List ℕ) → T (not (is_semicolon kind && (is_colon kind || is_lost kind t)))
unfolding is_lost
semicolon_only Blank t = tt
semicolon_only Comment t = tt
semicolon_only Comma t = tt
semicolon_only Colon t = tt
semicolon_only Semicolon t = tt
semicolon_only Phrase t = tt
semicolon_only Address t = tt
semicolon_only (Angled start size) t = tt
semicolon_only (Alternative start size) t = tt
semicolon_only Stray t = tt

-- Of a part: c, it is a colon; m, a semicolon; l, a lost address; r, an address after it in the group is lost. g: it stands in a group.

lost_here : (g c m l r : Bool) → T (not (m && (c || l))) → T (not (g && cond m false (l || r))) → T (not (g && l))
lost_here false c m l r s w = tt
lost_here true c false l r s w = (no_or l r w).0
lost_here true c true l r s w = (no_or c l s).1

lost_later : (g c m l r : Bool) → T (not (c && r)) → T (not (g && cond m false (l || r))) → T (not (((g || c) && not m) && r))
lost_later true c true l r n w = tt
lost_later true c false l r n w = (no_or l r w).1
lost_later false true true l r n w = tt
lost_later false true false l r n w = n
lost_later false false m l r n w = tt

outside : (g c m l r : Bool) → T (c && r) → T (not (m && (c || l))) → T (not (g && cond m false (l || r))) → T (not g)
outside false c m l r y s w = tt
outside true false m l r y s w = absurd y
outside true true true l r y s w = absurd s
outside true true false l false y s w = absurd y
outside true true false l true y s w = absurd (no_or l true w).1

any_inside : (p : Part) (ps : List Part) → any_lost (inside (p ∷ ps)) ≡ cond (is_semicolon p.kind) false (is_lost p.kind p.text || any_lost (inside ps))
unfolding inside any_lost
any_inside p ps = either (is_semicolon p.kind)
  where
    either : (m : Bool) → any_lost (cond m [] (p ∷ inside ps)) ≡ cond m false (is_lost p.kind p.text || any_lost (inside ps))
    either true = refl
    either false = refl

abbrev Written : List Part → List Turn → Type 0
Written ps ts = (grouped : Bool) → Whole grouped ps → T (none_nested grouped ts)

abbrev Passing : List Part → List Turn → Type 0
Passing ps ts = T (none_nested false ts)

removed_group : (g : Bool) (t : List ℕ) (ts : List Turn) → T (not g) → T (none_nested false ts) → T (none_nested g (Turn.lost_group t ∷ ts))
unfolding none_nested
removed_group true t ts h n = absurd h
removed_group false t ts h n = n

cases : TurnCases Written Passing
unfolding none_nested
cases = record {
  none = λ g w. tt;
  over = tt;
  group =
      λ p ps ts colon lost more g w.
      removed_group g (text_of (inside ps)) ts
      (outside g (is_colon p.kind) (is_semicolon p.kind) (is_lost p.kind p.text) (any_lost (inside ps)) (yes_and (is_colon p.kind) (any_lost (inside ps)) colon lost) (semicolon_only p.kind p.text) (rw (any_inside p ps) at w))
      more;
  part =
      λ p ps ts n more g w.
      let c : Bool = is_colon p.kind in
      let m : Bool = is_semicolon p.kind in
      let l : Bool = is_lost p.kind p.text in
      let r : Bool = any_lost (inside ps) in
      let whole : T (not (g && cond m false (l || r))) = rw (any_inside p ps) at w in
      yes_and (not (g && l)) (none_nested ((g || c) && not m) ts) (lost_here g c m l r (semicolon_only p.kind p.text) whole) (more ((g || c) && not m) (lost_later g c m l r n whole));
  end = λ p ps ts e more. more false tt;
  passed = λ p ps ts e more. more;
}

-- Of every row of parts, whether it fits or not: between a group's `:` and its `;` nothing is removed, so that no `Removed:;` stands there. In
-- a text that fits no other group does either, by the table.
pub no_group_in_group : (ps : List Part) → T (none_nested false (turns_of ps))
unfolding turns_of
no_group_in_group ps = (turns_have Written Passing cases ps).0 false tt
