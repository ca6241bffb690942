-- Parts of an address field's text, one after another: their text, and the pieces that are written for them.
use Rattle.std.specs.Prelude.{◌≡◌, refl, Bool, false, not, ◌||◌, ℕ, T}
use Rattle.std.proofs.Common.{ap, sym, ◌∙◌}
use Rattle.std.proofs.Math.Bool.{true, or-false, or_assoc}
use mathlib.Core.List.{List, [], ◌∷◌, ◌++◌, append_assoc, append-nil}
use Rattle.std.proofs.Math.Facts.{and_yes, yes_and, or_no}
use Rattle.lists.specs.Lists.{all}
use Rattle.lists.specs.ListsLaws.{all_append, no_false}
use Rattle.rules.specs.declared.Rules.{Rules}
use Rattle.encoded_word.specs.Segments.{Segment}
use Rattle.piece.specs.Piece.{piece}
use Rattle.address_list.specs.Parts.{Part, changes, any_changes}
use Rattle.address_list.specs.Grammar.{unless_gap, kinds_of}
use Rattle.address_list.specs.declared.PartKind.{PartKind}
use Rattle.address_list.specs.declared.PartKind.TheVariants.{Blank, Comment, Comma, Colon, Semicolon, Phrase, Address, Angled, Alternative, Stray}
use Rattle.group.specs.Group.{is_colon, is_semicolon, is_lost, inside, any_lost, text_of, turns_from}
use Rattle.group.specs.Trimmed.{trimmed}
use Rattle.address_pieces.specs.Pieces.{removed, pieces, turn_pieces, pieces_of}
use Rattle.address_grammar.specs.PartGrammar.{IsPart, EachIsPart, joined_parts}

abbrev pub part : PartKind → List ℕ → Part
part kind text = record { kind = kind; text = text }

-- neither a group's colon nor its semicolon
abbrev pub is_unmarked : Part → Bool
is_unmarked p = not (is_colon p.kind || is_semicolon p.kind)

-- the pieces of parts, each by itself
abbrev pub plain_pieces : Rules → List Part → List Segment
plain_pieces rules [] = []
plain_pieces rules (p ∷ ps) = pieces rules p.kind p.text ++ plain_pieces rules ps

-- what is written for parts
abbrev pub written : Rules → List Part → List Segment
written rules ps = pieces_of rules (turns_from false ps)

-- ---- parts, and parts after them

unless_gap_append : (k : PartKind) (ks ls : List PartKind) → unless_gap k (ks ++ ls) ≡ unless_gap k ks ++ ls
unfolding unless_gap
unless_gap_append Blank ks ls = refl
unless_gap_append Comment ks ls = refl
unless_gap_append Comma ks ls = refl
unless_gap_append Colon ks ls = refl
unless_gap_append Semicolon ks ls = refl
unless_gap_append Phrase ks ls = refl
unless_gap_append Address ks ls = refl
unless_gap_append (Angled start size) ks ls = refl
unless_gap_append (Alternative start size) ks ls = refl
unless_gap_append Stray ks ls = refl

pub kinds_append : (ps qs : List Part) → kinds_of (ps ++ qs) ≡ kinds_of ps ++ kinds_of qs
unfolding kinds_of
kinds_append [] qs = refl
kinds_append (p ∷ ps) qs = rw (kinds_append ps qs) (unless_gap_append p.kind (kinds_of ps) (kinds_of qs))

pub each_append : (rules : Rules) (ps qs : List Part) → EachIsPart rules ps → EachIsPart rules qs → EachIsPart rules (ps ++ qs)
each_append rules [] qs e f = f
each_append rules (p ∷ ps) qs e f = (e.0, each_append rules ps qs e.1 f)

pub joined_append : (ps qs : List Part) → joined_parts (ps ++ qs) ≡ joined_parts ps ++ joined_parts qs
joined_append [] qs = refl
joined_append (p ∷ ps) qs = rw (joined_append ps qs) (sym (append_assoc p.text (joined_parts ps) (joined_parts qs)))

plain_append : (rules : Rules) (ps qs : List Part) → plain_pieces rules (ps ++ qs) ≡ plain_pieces rules ps ++ plain_pieces rules qs
plain_append rules [] qs = refl
plain_append rules (p ∷ ps) qs = rw (plain_append rules ps qs) (sym (append_assoc (pieces rules p.kind p.text) (plain_pieces rules ps) (plain_pieces rules qs)))

lost_append : (ps qs : List Part) → any_lost (ps ++ qs) ≡ (any_lost ps || any_lost qs)
unfolding any_lost
lost_append [] qs = refl
lost_append (p ∷ ps) qs = rw (lost_append ps qs) (sym (or_assoc (is_lost p.kind p.text) (any_lost ps) (any_lost qs)))

pub changes_append : (ps qs : List Part) → any_changes (ps ++ qs) ≡ (any_changes ps || any_changes qs)
unfolding any_changes
changes_append [] qs = refl
changes_append (p ∷ ps) qs = rw (changes_append ps qs) (sym (or_assoc (changes p.kind p.text) (any_changes ps) (any_changes qs)))

-- ---- parts without a colon or a semicolon

-- such parts, what their text is and their pieces are, and whether they lose an address and change one
pub record PlainParts (rules : Rules) (ps : List Part) (text : List ℕ) (segments : List Segment) (lost changed : Bool) : Type 0 where
  pub each : EachIsPart rules ps
  pub joined : joined_parts ps ≡ text
  pub unmarked : T (all is_unmarked ps)
  pub pieces_are : plain_pieces rules ps ≡ segments
  pub lost_is : any_lost ps ≡ lost
  pub changed_is : any_changes ps ≡ changed

pub plain_none : (rules : Rules) → PlainParts rules [] [] [] false false
unfolding any_lost any_changes
plain_none rules = record { each = tt; joined = refl; unmarked = tt; pieces_are = refl; lost_is = refl; changed_is = refl }

module _ {rules : Rules} where
  pub plain_one : (k : PartKind) {t : List ℕ} → IsPart rules k t → T (is_unmarked (part k t)) → PlainParts rules (part k t ∷ []) t (pieces rules k t) (is_lost k t) (changes k t)
  unfolding any_lost any_changes
  plain_one k {t} p m = record {
    each = (p, tt);
    joined = append-nil t;
    unmarked = yes_and (is_unmarked (part k t)) true m tt;
    pieces_are = append-nil (pieces rules k t);
    lost_is = or-false (is_lost k t);
    changed_is = or-false (changes k t);
  }

  pub plain_both : {ps qs : List Part} {t u : List ℕ} {s r : List Segment} {l m c d : Bool} → PlainParts rules ps t s l c → PlainParts rules qs u r m d
      → PlainParts rules (ps ++ qs) (t ++ u) (s ++ r) (l || m) (c || d)
  plain_both {ps} {qs} a b = record {
    each = each_append rules ps qs a.each b.each;
    joined = rw (joined_append ps qs, a.joined, b.joined);
    unmarked = all_append is_unmarked ps qs a.unmarked b.unmarked;
    pieces_are = rw (plain_append rules ps qs, a.pieces_are, b.pieces_are);
    lost_is = rw (lost_append ps qs, a.lost_is, b.lost_is);
    changed_is = rw (changes_append ps qs, a.changed_is, b.changed_is);
  }

-- ---- what is written

unmarked_no : (p : Part) (ps : List Part) → T (all is_unmarked (p ∷ ps)) → (is_colon p.kind ≡ false) × ((is_semicolon p.kind ≡ false) × T (all is_unmarked ps))
unmarked_no p ps h =
    let both = and_yes (is_unmarked p) (all is_unmarked ps) h in
    let no = or_no (is_colon p.kind) (is_semicolon p.kind) both.0 in
    (no_false (is_colon p.kind) no.0, (no_false (is_semicolon p.kind) no.1, both.1))

written_unmarked : (rules : Rules) (ps rest : List Part) → T (all is_unmarked ps) → written rules (ps ++ rest) ≡ plain_pieces rules ps ++ written rules rest
unfolding turns_from pieces_of turn_pieces
written_unmarked rules [] rest h = refl
written_unmarked rules (p ∷ ps) rest h =
    let no = unmarked_no p ps h in
    rw (no.0, written_unmarked rules ps rest no.1.1) (sym (append_assoc (pieces rules p.kind p.text) (plain_pieces rules ps) (written rules rest)))

abbrev pub colon : Part
colon = part Colon (58 ∷ [])

abbrev pub semicolon : Part
semicolon = part Semicolon (59 ∷ [])

inside_unmarked : (ps rest : List Part) → T (all is_unmarked ps) → inside (ps ++ (semicolon ∷ rest)) ≡ ps
unfolding inside
inside_unmarked [] rest h = refl
inside_unmarked (p ∷ ps) rest h = let no = unmarked_no p ps h in rw (no.1.0, inside_unmarked ps rest no.1.1)

passed_unmarked : (ps rest : List Part) → T (all is_unmarked ps) → turns_from true (ps ++ (semicolon ∷ rest)) ≡ turns_from false rest
unfolding turns_from
passed_unmarked [] rest h = refl
passed_unmarked (p ∷ ps) rest h =
    let no = unmarked_no p ps h in
    ap (λ (b : Bool). turns_from (not b) (ps ++ (semicolon ∷ rest))) no.1.0 ∙ passed_unmarked ps rest no.1.1

text_joined : (ps : List Part) → text_of ps ≡ joined_parts ps
unfolding text_of
text_joined [] = refl
text_joined (p ∷ ps) = rw (text_joined ps)

module _ (rules : Rules) (ps rest : List Part) (h : T (all is_unmarked ps)) where
  written_group : any_lost ps ≡ false → written rules (colon ∷ (ps ++ (semicolon ∷ rest))) ≡ piece (58 ∷ []) ∷ (plain_pieces rules ps ++ (piece (59 ∷ []) ∷ written rules rest))
  unfolding turns_from pieces_of turn_pieces pieces
  written_group n = rw (inside_unmarked ps rest h, n, written_unmarked rules ps (semicolon ∷ rest) h)

  written_lost : any_lost ps ≡ true → written rules (colon ∷ (ps ++ (semicolon ∷ rest))) ≡ removed rules (trimmed (joined_parts ps)) ++ written rules rest
  unfolding turns_from pieces_of turn_pieces
  written_lost y = rw (inside_unmarked ps rest h, y, passed_unmarked ps rest h, text_joined ps)

-- ---- parts with what is written for them

-- parts, what their text is and what is written for them, whatever follows, and whether they change an address
pub record WrittenParts (rules : Rules) (ps : List Part) (text : List ℕ) (segments : List Segment) (changed : Bool) : Type 0 where
  pub each : EachIsPart rules ps
  pub joined : joined_parts ps ≡ text
  pub written_is : (rest : List Part) → written rules (ps ++ rest) ≡ segments ++ written rules rest
  pub changed_is : any_changes ps ≡ changed

module _ {rules : Rules} where
  pub plain_written : {ps : List Part} {t : List ℕ} {s : List Segment} {l c : Bool} → PlainParts rules ps t s l c → WrittenParts rules ps t s c
  plain_written {ps} a = record {
    each = a.each;
    joined = a.joined;
    written_is = λ rest. written_unmarked rules ps rest a.unmarked ∙ rw a.pieces_are;
    changed_is = a.changed_is;
  }

  pub written_both : {ps qs : List Part} {t u : List ℕ} {s r : List Segment} {c d : Bool} → WrittenParts rules ps t s c → WrittenParts rules qs u r d → WrittenParts rules (ps ++ qs) (t ++ u) (s ++ r) (c || d)
  written_both {ps} {qs} {s = s} {r = r} a b = record {
    each = each_append rules ps qs a.each b.each;
    joined = rw (joined_append ps qs, a.joined, b.joined);
    written_is = λ rest. rw (append_assoc ps qs rest, a.written_is (qs ++ rest), b.written_is rest) (sym (append_assoc s r (written rules rest)));
    changed_is = rw (changes_append ps qs, a.changed_is, b.changed_is);
  }

  -- a group from its colon on, and what follows its semicolon
  module _ {ms gs : List Part} {t u : List ℕ} {s r : List Segment} {c d : Bool} where
    group_joined : {l : Bool} → PlainParts rules ms t s l c → WrittenParts rules gs u r d → joined_parts (colon ∷ (ms ++ (semicolon ∷ gs))) ≡ 58 ∷ (t ++ (59 ∷ u))
    group_joined a b = rw (joined_append ms (semicolon ∷ gs), a.joined, b.joined)

    group_changes : {l : Bool} → PlainParts rules ms t s l c → WrittenParts rules gs u r d → any_changes (colon ∷ (ms ++ (semicolon ∷ gs))) ≡ (c || d)
    unfolding any_changes changes
    group_changes a b = rw (changes_append ms (semicolon ∷ gs), a.changed_is, b.changed_is)

    group_each : {l : Bool} → PlainParts rules ms t s l c → WrittenParts rules gs u r d → EachIsPart rules (colon ∷ (ms ++ (semicolon ∷ gs)))
    group_each a b = (refl, each_append rules ms (semicolon ∷ gs) a.each (refl, b.each))

    pub group_written : PlainParts rules ms t s false c → WrittenParts rules gs u r d
        → WrittenParts rules (colon ∷ (ms ++ (semicolon ∷ gs))) (58 ∷ (t ++ (59 ∷ u))) (piece (58 ∷ []) ∷ (s ++ (piece (59 ∷ []) ∷ r))) (c || d)
    group_written a b = record {
      each = group_each a b;
      joined = group_joined a b;
      written_is =
          λ rest.
          rw (append_assoc ms (semicolon ∷ gs) rest, written_group rules ms (gs ++ rest) a.unmarked a.lost_is, a.pieces_are, b.written_is rest)
          (ap (λ (x : List Segment). piece (58 ∷ []) ∷ x) (sym (append_assoc s (piece (59 ∷ []) ∷ r) (written rules rest))));
      changed_is = group_changes a b;
    }

    pub lost_written : PlainParts rules ms t s true c → WrittenParts rules gs u r d
        → WrittenParts rules (colon ∷ (ms ++ (semicolon ∷ gs))) (58 ∷ (t ++ (59 ∷ u))) (removed rules (trimmed t) ++ r) (c || d)
    lost_written a b = record {
      each = group_each a b;
      joined = group_joined a b;
      written_is =
          λ rest.
          rw (append_assoc ms (semicolon ∷ gs) rest, written_lost rules ms (gs ++ rest) a.unmarked a.lost_is, a.joined, b.written_is rest)
          (sym (append_assoc (removed rules (trimmed t)) r (written rules rest)));
      changed_is = group_changes a b;
    }
