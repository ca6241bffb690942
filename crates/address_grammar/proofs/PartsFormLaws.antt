-- Parts that are a comma list have a text that the grammar of AddressField.antt makes, with the pieces that are written.
use Rattle.std.specs.Prelude.{◌≡◌, true, false, ℕ, ◌+◌, T, length, drop}
use Rattle.std.proofs.Math.Path.{refl}
use Rattle.std.proofs.Common.{◌∙◌, arith, length-append}
use Rattle.std.proofs.Math.Bool.{Bool, not, or-false}
use mathlib.Core.List.{List, [], ◌∷◌, ◌++◌, append_assoc, append-nil, map}
use Rattle.std.proofs.Math.ListN.{take}
use Rattle.lists.specs.Byte.{is_ascii}
use Rattle.lists.specs.Lists.{all}
use Rattle.lists.specs.ListsLaws.{by_test, yes_true, no_false}
use Rattle.phrase.specs.Phrase.{phrase_words, phrase_text}
use Rattle.rules.specs.declared.Rules.{Rules}
use Rattle.encoded_word.specs.Segments.{Segment}
use Rattle.encoded_word.specs.Segments.Segment.{words}
use Rattle.piece.specs.Piece.{piece}
use Rattle.address_list.specs.Parts.{Part, changes}
use Rattle.address_list.specs.Grammar.{unless_gap, kinds_of, InAngles as AnglesKind, Mailbox as MailboxKinds, Mailboxes as MailboxesKinds, Item as ItemKinds, Items as ItemsKinds}
use Rattle.address_list.specs.declared.PartKind.{PartKind}
use Rattle.address_list.specs.declared.PartKind.TheVariants.{Blank, Comment, Comma, Colon, Semicolon, Phrase as PhraseKind, Address, Angled, Alternative, Stray}
use Rattle.group.specs.Group.{is_lost}
use Rattle.address_pieces.specs.Pieces.{phrase_pieces, in_angles, address_pieces, pieces}
use Rattle.address_grammar.specs.PartGrammar.{PhraseText, AlternativeText, IsPart, EachIsPart}
use Rattle.address_grammar.specs.AddressField.{Gap, Phrase, InAngles, Mailbox, Mailboxes, Members, Item, Items, ListText}
use Rattle.address_grammar.proofs.PartListLaws.{part, colon, semicolon, PlainParts, plain_none, plain_one, plain_both, WrittenParts, plain_written, written_both, group_written, lost_written}
use Rattle.address_grammar.proofs.PhraseWordsLaws.{phrase_words_lem, words_are, text_is}
use Rattle.address_grammar.proofs.FormPartsLaws.{inner}

-- ---- parts, each with the gap after it

record GapFormed (rules : Rules) (gs : List Part) : Type 0 where
  text : List ℕ
  segments : List Segment
  form : Gap text segments
  plain : PlainParts rules gs text segments false false

-- a part of such a kind, the gap after it, and more
record FirstPart (rules : Rules) (k : PartKind) (More : List Part → Type 0) (ps : List Part) : Type 0 where
  text : List ℕ
  is : IsPart rules k text
  gap : List Part
  gap_is : GapFormed rules gap
  rest : List Part
  made : ps ≡ part k text ∷ (gap ++ rest)
  more : More rest

-- parts of such kinds, each with the gap after it
abbrev PartsOfKinds : Rules → List PartKind → List Part → Type 0
PartsOfKinds rules [] ps = ps ≡ []
PartsOfKinds rules (k ∷ ks) ps = FirstPart rules k (PartsOfKinds rules ks) ps

-- a gap, and such parts
record GapFirst (rules : Rules) (ks : List PartKind) (ps : List Part) : Type 0 where
  gap : List Part
  gap_is : GapFormed rules gap
  rest : List Part
  made : ps ≡ gap ++ rest
  parts : PartsOfKinds rules ks rest

no_gap : (rules : Rules) → GapFormed rules []
no_gap rules = record { text = []; segments = []; form = Gap.none; plain = plain_none rules }

module _ {rules : Rules} where
  part_first : {ks : List PartKind} (k : PartKind) (t : List ℕ) (ps : List Part) → IsPart rules k t → GapFirst rules ks ps → GapFirst rules (k ∷ ks) (part k t ∷ ps)
  part_first k t ps p a = record {
    gap = [];
    gap_is = no_gap rules;
    rest = part k t ∷ ps;
    made = refl;
    parts = record { text = t; is = p; gap = a.gap; gap_is = a.gap_is; rest = a.rest; made = rw (← a.made); more = a.parts };
  }

  part_gap : {ks : List PartKind} (p : Part) (ps : List Part) {t : List ℕ} {s : List Segment} → PlainParts rules (p ∷ []) t s false false → (a : GapFirst rules ks ps) → Gap (t ++ a.gap_is.text) (s ++ a.gap_is.segments)
      → GapFirst rules ks (p ∷ ps)
  part_gap p ps one a g = record {
    gap = p ∷ a.gap;
    gap_is = record { text = _; segments = _; form = g; plain = plain_both one a.gap_is.plain };
    rest = a.rest;
    made = rw (← a.made);
    parts = a.parts;
  }

  next : {ks : List PartKind} (k : PartKind) (t : List ℕ) (ps : List Part) → IsPart rules k t → GapFirst rules ks ps → GapFirst rules (unless_gap k ks) (part k t ∷ ps)
  unfolding unless_gap pieces is_lost changes
  next Blank t ps p a = part_gap (part Blank t) ps (plain_one Blank p tt) a (rw p.made (Gap.blank p.is a.gap_is.form))
  next Comment t ps p a = part_gap (part Comment t) ps (plain_one Comment p tt) a (Gap.comment p.form p.runs a.gap_is.form)
  next Comma t ps p a = part_first Comma t ps p a
  next Colon t ps p a = part_first Colon t ps p a
  next Semicolon t ps p a = part_first Semicolon t ps p a
  next PhraseKind t ps p a = part_first PhraseKind t ps p a
  next Address t ps p a = part_first Address t ps p a
  next (Angled start size) t ps p a = part_first (Angled start size) t ps p a
  next (Alternative start size) t ps p a = part_first (Alternative start size) t ps p a
  next Stray t ps p a = part_first Stray t ps p a

  gap_first : (ps : List Part) → EachIsPart rules ps → GapFirst rules (kinds_of ps) ps
  unfolding kinds_of
  gap_first [] e = record { gap = []; gap_is = no_gap rules; rest = []; made = refl; parts = refl }
  gap_first (p ∷ ps) e = next p.kind p.text ps e.0 (gap_first ps e.1)

-- parts of some kinds, and parts of others after them
record Split (rules : Rules) (ks ls : List PartKind) (ps : List Part) : Type 0 where
  before : List Part
  after : List Part
  made : ps ≡ before ++ after
  front : PartsOfKinds rules ks before
  back : PartsOfKinds rules ls after

comma_made : (before rest : List Part) {ps after : List Part} {t : List ℕ} → ps ≡ before ++ after → after ≡ part Comma t ∷ rest → t ≡ 44 ∷ [] → ps ≡ before ++ (part Comma (44 ∷ []) ∷ rest)
comma_made before rest e f g = rw (e, f, g)

made_of : (p : Part) (gap : List Part) {ps rest is : List Part} → ps ≡ p ∷ (gap ++ rest) → rest ≡ is → ps ≡ p ∷ (gap ++ is)
made_of p gap e f = rw (e, f)

split_later : (p : Part) (gap before after : List Part) {ps rest : List Part} → ps ≡ p ∷ (gap ++ rest) → rest ≡ before ++ after → ps ≡ (p ∷ (gap ++ before)) ++ after
split_later p gap before after e f = made_of p gap e f ∙ rw (append_assoc gap before after)

split : (rules : Rules) (ks ls : List PartKind) (ps : List Part) → PartsOfKinds rules (ks ++ ls) ps → Split rules ks ls ps
split rules [] ls ps h = record { before = []; after = ps; made = refl; front = refl; back = h }
split rules (k ∷ ks) ls ps h =
    let c = split rules ks ls h.rest h.more in
    record {
      before = part k h.text ∷ (h.gap ++ c.before);
      after = c.after;
      made = split_later (part k h.text) h.gap c.before c.after h.made c.made;
      front = record { text = h.text; is = h.is; gap = h.gap; gap_is = h.gap_is; rest = c.before; made = refl; more = c.front };
      back = c.back;
    }

-- ---- forms without a colon or a semicolon

-- parts have a text that the grammar makes
record Formed (rules : Rules) (F : List ℕ → List Segment → Bool → Bool → Type 0) (ps : List Part) : Type 0 where
  text : List ℕ
  segments : List Segment
  lost : Bool
  changed : Bool
  form : F text segments lost changed
  plain : PlainParts rules ps text segments lost changed

record PhraseFormed (rules : Rules) (t : List ℕ) : Type 0 where
  segments : List Segment
  form : Phrase t segments
  plain : PlainParts rules (part PhraseKind t ∷ []) t segments false false

ascii_pieces : (t : List ℕ) → T (all is_ascii t) → phrase_pieces t ≡ map piece (phrase_words t)
unfolding phrase_pieces
ascii_pieces t y = rw (yes_true (all is_ascii t) y)

other_pieces : (t : List ℕ) → T (not (all is_ascii t)) → phrase_pieces t ≡ words (phrase_text t) ∷ []
unfolding phrase_pieces
other_pieces t n = rw (no_false (all is_ascii t) n)

phrase_formed : (rules : Rules) (t : List ℕ) → PhraseText t → PhraseFormed rules t
unfolding pieces is_lost changes
phrase_formed rules t p =
    let w = phrase_words_lem p in
    by_test (all is_ascii t)
    (λ y. record { segments = phrase_pieces t; form = rw (ascii_pieces t y, words_are w.are) (Phrase.ascii w.are y); plain = plain_one PhraseKind p tt })
    (λ n. record { segments = phrase_pieces t; form = rw (other_pieces t n, text_is w.are) (Phrase.other w.are n); plain = plain_one PhraseKind p tt })

-- the alternative in a text
other_inner : {rules : Rules} {start size : ℕ} {t : List ℕ} (p : AlternativeText rules start size t) → take size (drop start t) ≡ p.alternative
other_inner {start = start} p =
    let before : List ℕ = 60 ∷ (p.gap ++ (p.first ++ (p.between ++ (60 ∷ p.gap₂)))) in
    let whole : before ++ (p.alternative ++ (62 ∷ 62 ∷ [])) ≡ 60 ∷ (p.gap ++ (p.first ++ (p.between ++ (60 ∷ (p.gap₂ ++ (p.alternative ++ (62 ∷ 62 ∷ []))))))) = simp append_assoc in
    let long : start ≡ length before = simp length-append (omega (arith, p.start_is)) in
    rw (p.made, p.size_is, ← whole) (inner before p.alternative (62 ∷ 62 ∷ []) start long)

module _ {rules : Rules} where
  angles_formed : {k : PartKind} → AnglesKind k → (t : List ℕ) → IsPart rules k t → Formed rules (InAngles rules) (part k t ∷ [])
  unfolding pieces is_lost changes
  angles_formed (AnglesKind.address start size) t p =
      let there : take size (drop start t) ≡ p.address = rw (p.made, p.size_is) (inner (60 ∷ p.gap) p.address (62 ∷ []) start (omega (arith, p.start_is))) in
      let gone : Bool = not (all is_ascii p.address) in
      record {
        text = t;
        segments = address_pieces rules in_angles p.address;
        lost = gone;
        changed = gone;
        form = rw p.made (InAngles.sole p.gap p.blanks p.is);
        plain = rw there at (plain_one {rules = rules} (Angled start size) p tt);
      }
  angles_formed (AnglesKind.alternative start size) t p =
      record {
        text = t;
        segments = in_angles p.alternative ∷ [];
        lost = false;
        changed = true;
        form = rw p.made (InAngles.alternative p.gap p.gap₂ p.allowed p.blanks p.first_is p.first_high p.apart p.blanks₂ p.alternative_is p.alternative_ascii);
        plain = rw (other_inner p) at (plain_one {rules = rules} (Alternative start size) p tt);
      }

  plain_gap : {ps gs : List Part} {t : List ℕ} {s : List Segment} {l c : Bool} → PlainParts rules ps t s l c → (g : GapFormed rules gs) → PlainParts rules (ps ++ gs) (t ++ g.text) (s ++ g.segments) l c
  plain_gap {l = l} {c = c} a g = rw (or-false l, or-false c) at (plain_both a g.plain)

  -- the last part
  last_part : {k : PartKind} {ps : List Part} (h : FirstPart rules k (PartsOfKinds rules []) ps) → ps ≡ part k h.text ∷ h.gap
  last_part h = h.made ∙ rw (h.more, append-nil h.gap)

  mailbox_formed : {m : List PartKind} → MailboxKinds m → (ps : List Part) → PartsOfKinds rules m ps → Formed rules (Mailbox rules) ps
  unfolding pieces is_lost changes
  mailbox_formed MailboxKinds.bare ps h =
      rw (last_part h)
      (record { text = _; segments = _; lost = _; changed = _; form = Mailbox.bare h.is h.gap_is.form; plain = plain_gap (plain_one Address h.is tt) h.gap_is })
  mailbox_formed (MailboxKinds.angled a) ps h =
      let f = angles_formed a h.text h.is in
      rw (last_part h) (record { text = _; segments = _; lost = _; changed = _; form = Mailbox.angled f.form h.gap_is.form; plain = plain_gap f.plain h.gap_is })
  mailbox_formed (MailboxKinds.named a) ps h =
      let n = phrase_formed rules h.text h.is in
      let i = h.more in
      let f = angles_formed a i.text i.is in
      rw (made_of (part PhraseKind h.text) h.gap h.made (last_part i))
      (record {
        text = _;
        segments = _;
        lost = _;
        changed = _;
        form = Mailbox.named n.form h.gap_is.form f.form i.gap_is.form;
        plain = plain_both n.plain (plain_both h.gap_is.plain (plain_gap f.plain i.gap_is));
      })

  mailboxes_formed : {ms : List PartKind} → MailboxesKinds ms → (ps : List Part) → PartsOfKinds rules ms ps → Formed rules (Mailboxes rules) ps
  unfolding pieces is_lost changes
  mailboxes_formed (MailboxesKinds.one a) ps h =
      let f = mailbox_formed a ps h in
      record { text = _; segments = _; lost = _; changed = _; form = Mailboxes.one f.form; plain = f.plain }
  mailboxes_formed (MailboxesKinds.then {ms} {m} a b) ps h =
      let c = split rules ms (Comma ∷ m) ps h in
      let d = c.back in
      let x = mailboxes_formed a c.before c.front in
      let y = mailbox_formed b d.rest d.more in
      rw (comma_made c.before (d.gap ++ d.rest) c.made d.made d.is)
      (record {
        text = _;
        segments = _;
        lost = _;
        changed = _;
        form = Mailboxes.then x.form d.gap_is.form y.form;
        plain = plain_both x.plain (plain_both (plain_one Comma refl tt) (plain_both d.gap_is.plain y.plain));
      })

  -- a gap after a group's colon, and the mailboxes after it, perhaps none
  no_members : (gs : List Part) → GapFormed rules gs → (ps : List Part) → PartsOfKinds rules [] ps → Formed rules (Members rules) (gs ++ ps)
  no_members gs g ps e = rw (e, append-nil gs) (record { text = _; segments = _; lost = _; changed = _; form = Members.none g.form; plain = g.plain })

  some_members : {ms : List PartKind} → MailboxesKinds ms → (gs : List Part) → GapFormed rules gs → (ps : List Part) → PartsOfKinds rules ms ps → Formed rules (Members rules) (gs ++ ps)
  some_members a gs g ps h =
      let x = mailboxes_formed a ps h in
      record { text = _; segments = _; lost = _; changed = _; form = Members.some g.form x.form; plain = plain_both g.plain x.plain }

-- ---- items

pub record ItemFormed (rules : Rules) (F : List ℕ → List Segment → Bool → Type 0) (ps : List Part) : Type 0 where
  pub text : List ℕ
  pub segments : List Segment
  pub changed : Bool
  pub form : F text segments changed
  pub written : WrittenParts rules ps text segments changed

group_made : (p : Part) (g₁ g₂ before g₃ : List Part) {ps r₁ r₂ after : List Part} {t u : List ℕ} → ps ≡ p ∷ (g₁ ++ r₁) → r₁ ≡ part Colon t ∷ (g₂ ++ r₂) → t ≡ 58 ∷ [] → r₂ ≡ before ++ after
    → after ≡ part Semicolon u ∷ g₃ → u ≡ 59 ∷ [] → ps ≡ p ∷ (g₁ ++ (colon ∷ ((g₂ ++ before) ++ (semicolon ∷ g₃))))
group_made p g₁ g₂ before g₃ e₁ e₂ e₃ e₄ e₅ e₆ = rw (e₁, e₂, e₃, e₄, e₅, e₆, append_assoc g₂ before (semicolon ∷ g₃))

module _ {rules : Rules} where
  -- a phrase and a gap, members between a colon and a semicolon, and a gap
  by_lost : {f : List ℕ} {gs ms hs : List Part} {t : List ℕ} {s : List Segment} (l : Bool) {c : Bool} → PhraseFormed rules f → GapFormed rules gs → Members rules t s l c → PlainParts rules ms t s l c → GapFormed rules hs
      → ItemFormed rules (Item rules) (part PhraseKind f ∷ (gs ++ (colon ∷ (ms ++ (semicolon ∷ hs)))))
  by_lost false {c} f g m p h = record {
    text = _;
    segments = _;
    changed = c;
    form = Item.group f.form g.form m h.form;
    written = rw (or-false c) at (written_both (plain_written f.plain) (written_both (plain_written g.plain) (group_written p (plain_written h.plain))));
  }
  by_lost true {c} f g m p h = record {
    text = _;
    segments = _;
    changed = c;
    form = Item.lost_group f.form g.form m h.form;
    written = rw (or-false c) at (written_both (plain_written f.plain) (written_both (plain_written g.plain) (lost_written p (plain_written h.plain))));
  }

  group_formed : (ks : List PartKind) → ((gs : List Part) → GapFormed rules gs → (ps : List Part) → PartsOfKinds rules ks ps → Formed rules (Members rules) (gs ++ ps)) → (ps : List Part)
      → PartsOfKinds rules (PhraseKind ∷ Colon ∷ (ks ++ (Semicolon ∷ []))) ps → ItemFormed rules (Item rules) ps
  group_formed ks members ps h =
      let i = h.more in
      let c = split rules ks (Semicolon ∷ []) i.rest i.more in
      let j = c.back in
      let m = members i.gap i.gap_is c.before c.front in
      rw (group_made (part PhraseKind h.text) h.gap i.gap c.before j.gap h.made i.made i.is c.made (last_part j) j.is)
      (by_lost m.lost (phrase_formed rules h.text h.is) h.gap_is m.form m.plain j.gap_is)

  item_formed : {i : List PartKind} → ItemKinds i → (ps : List Part) → PartsOfKinds rules i ps → ItemFormed rules (Item rules) ps
  item_formed (ItemKinds.mailbox a) ps h =
      let f = mailbox_formed a ps h in
      record { text = _; segments = _; changed = _; form = Item.mailbox f.form; written = plain_written f.plain }
  item_formed ItemKinds.empty_group ps h = group_formed [] no_members ps h
  item_formed (ItemKinds.group {ms} a) ps h = group_formed ms (some_members a) ps h

  items_formed : {is : List PartKind} → ItemsKinds is → (ps : List Part) → PartsOfKinds rules is ps → ItemFormed rules (Items rules) ps
  unfolding pieces is_lost changes
  items_formed (ItemsKinds.one a) ps h =
      let f = item_formed a ps h in
      record { text = _; segments = _; changed = _; form = Items.one f.form; written = f.written }
  items_formed (ItemsKinds.then {i} {is} a b) ps h =
      let c = split rules i (Comma ∷ is) ps h in
      let d = c.back in
      let x = item_formed a c.before c.front in
      let y = items_formed b d.rest d.more in
      rw (comma_made c.before (d.gap ++ d.rest) c.made d.made d.is)
      (record {
        text = _;
        segments = _;
        changed = _;
        form = Items.then x.form d.gap_is.form y.form;
        written = written_both x.written (written_both (plain_written (plain_one Comma refl tt)) (written_both (plain_written d.gap_is.plain) y.written));
      })

  pub value_formed : (ps : List Part) → EachIsPart rules ps → ItemsKinds (kinds_of ps) → ItemFormed rules (ListText rules) ps
  value_formed ps e k =
      let a = gap_first ps e in
      let f = items_formed k a.rest a.parts in
      rw a.made (record { text = _; segments = _; changed = _; form = ListText.list a.gap_is.form f.form; written = written_both (plain_written a.gap_is.plain) f.written })
