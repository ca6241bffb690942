-- A text fits exactly if the kinds of its parts are a comma list by the rules of Grammar.antt.
use Rattle.std.specs.Prelude.{◌≡◌, Bool, true, false, cond, ◌&&◌, ◌||◌, List, [], ◌∷◌, ◌++◌, ℕ, T}
use Rattle.std.proofs.Math.Path.{refl}
use Rattle.std.proofs.Common.{ap, sym, ◌∙◌, append_assoc, append-nil, arith}
use Rattle.std.proofs.Math.Facts.{and_yes, yes_and}
use Rattle.address_list.specs.declared.PartKind.{PartKind}
use Rattle.address_list.specs.declared.PartKind.TheVariants.{Blank, Comment, Comma, Colon, Semicolon, Phrase, Address, Angled, Alternative, Stray}
use Rattle.address_list.specs.declared.State.{State}
use Rattle.address_list.specs.declared.State.TheVariants.{ItemDue, ItemNamed, ItemDone, GroupOpen, MemberDue, MemberNamed, MemberDone, Unfit}
use Rattle.address_list.specs.declared.Examined.TheVariants.{DoesNotFit, Kept, Changed}
use Rattle.rules.specs.declared.Rules.{Rules}
use Rattle.address_list.specs.Parts.{Part, parts_of, any_changes}
use Rattle.address_list.specs.Grammar.{InAngles, Mailbox, Mailboxes, Item, Items, unless_gap, kinds_of}
use Rattle.address_list.specs.Table.{after, is_done, complete, fits, examined_from, examined}

pub false_true : {A : Type 0} → false ≡ true → A
false_true h = absurd (let z : ◌≡◌ {A = ℕ} 0 1 = ap (λ (t : Bool). cond t 1 0) h in omega arith)

-- ---- what the table takes is made by the grammar

-- mailboxes of a group, up to where the next one is due
Room : List PartKind → Type 0
Room p = (m : List PartKind) → Mailbox m → Mailboxes (p ++ m)

-- what the kinds that are left make at each state
abbrev Left : State → List PartKind → Type 0
Left ItemDue ks = Items ks
Left ItemNamed ks = Items (Phrase ∷ ks)
Left ItemDone ks = (i : List PartKind) → Item i → Items (i ++ ks)
Left GroupOpen ks = Items (Phrase ∷ Colon ∷ ks)
Left MemberDue ks = (p : List PartKind) → Room p → Items (Phrase ∷ Colon ∷ (p ++ ks))
Left MemberNamed ks = (p : List PartKind) → Room p → Items (Phrase ∷ Colon ∷ (p ++ (Phrase ∷ ks)))
Left MemberDone ks = (ms : List PartKind) → Mailboxes ms → Items (Phrase ∷ Colon ∷ (ms ++ ks))
Left Unfit ks = ⊥

back_item : (k : PartKind) (ks : List PartKind) → Left (after ItemDue k) ks → Left ItemDue (unless_gap k ks)
unfolding after unless_gap Room
back_item Blank ks x = x
back_item Comment ks x = x
back_item Comma ks x = absurd x
back_item Colon ks x = absurd x
back_item Semicolon ks x = absurd x
back_item Phrase ks x = x
back_item Address ks x = x _ (Item.mailbox Mailbox.bare)
back_item (Angled start size) ks x = x _ (Item.mailbox (Mailbox.angled (InAngles.address start size)))
back_item (Alternative start size) ks x = x _ (Item.mailbox (Mailbox.angled (InAngles.alternative start size)))
back_item Stray ks x = absurd x

back_named : (k : PartKind) (ks : List PartKind) → Left (after ItemNamed k) ks → Left ItemNamed (unless_gap k ks)
unfolding after unless_gap Room
back_named Blank ks x = x
back_named Comment ks x = x
back_named Comma ks x = absurd x
back_named Colon ks x = x
back_named Semicolon ks x = absurd x
back_named Phrase ks x = absurd x
back_named Address ks x = absurd x
back_named (Angled start size) ks x = x _ (Item.mailbox (Mailbox.named (InAngles.address start size)))
back_named (Alternative start size) ks x = x _ (Item.mailbox (Mailbox.named (InAngles.alternative start size)))
back_named Stray ks x = absurd x

back_done : (k : PartKind) (ks : List PartKind) → Left (after ItemDone k) ks → Left ItemDone (unless_gap k ks)
unfolding after unless_gap Room
back_done Blank ks x = x
back_done Comment ks x = x
back_done Comma ks x = λ i e. Items.then e x
back_done Colon ks x = absurd x
back_done Semicolon ks x = absurd x
back_done Phrase ks x = absurd x
back_done Address ks x = absurd x
back_done (Angled start size) ks x = absurd x
back_done (Alternative start size) ks x = absurd x
back_done Stray ks x = absurd x

back_open : (k : PartKind) (ks : List PartKind) → Left (after GroupOpen k) ks → Left GroupOpen (unless_gap k ks)
unfolding after unless_gap Room
back_open Blank ks x = x
back_open Comment ks x = x
back_open Comma ks x = absurd x
back_open Colon ks x = absurd x
back_open Semicolon ks x = x _ Item.empty_group
back_open Phrase ks x = x [] (λ m a. Mailboxes.one a)
back_open Address ks x = x _ (Mailboxes.one Mailbox.bare)
back_open (Angled start size) ks x = x _ (Mailboxes.one (Mailbox.angled (InAngles.address start size)))
back_open (Alternative start size) ks x = x _ (Mailboxes.one (Mailbox.angled (InAngles.alternative start size)))
back_open Stray ks x = absurd x

back_member : (k : PartKind) (ks : List PartKind) → Left (after MemberDue k) ks → Left MemberDue (unless_gap k ks)
unfolding after unless_gap Room
back_member Blank ks x = x
back_member Comment ks x = x
back_member Comma ks x = absurd x
back_member Colon ks x = absurd x
back_member Semicolon ks x = absurd x
back_member Phrase ks x = x
back_member Address ks x = λ p r. rw (append_assoc p (Address ∷ []) ks) at (x _ (r _ Mailbox.bare))
back_member (Angled start size) ks x = λ p r. rw (append_assoc p (Angled start size ∷ []) ks) at (x _ (r _ (Mailbox.angled (InAngles.address start size))))
back_member (Alternative start size) ks x = λ p r. rw (append_assoc p (Alternative start size ∷ []) ks) at (x _ (r _ (Mailbox.angled (InAngles.alternative start size))))
back_member Stray ks x = absurd x

back_member_named : (k : PartKind) (ks : List PartKind) → Left (after MemberNamed k) ks → Left MemberNamed (unless_gap k ks)
unfolding after unless_gap Room
back_member_named Blank ks x = x
back_member_named Comment ks x = x
back_member_named Comma ks x = absurd x
back_member_named Colon ks x = absurd x
back_member_named Semicolon ks x = absurd x
back_member_named Phrase ks x = absurd x
back_member_named Address ks x = absurd x
back_member_named (Angled start size) ks x = λ p r. rw (append_assoc p (Phrase ∷ Angled start size ∷ []) ks) at (x _ (r _ (Mailbox.named (InAngles.address start size))))
back_member_named (Alternative start size) ks x = λ p r. rw (append_assoc p (Phrase ∷ Alternative start size ∷ []) ks) at (x _ (r _ (Mailbox.named (InAngles.alternative start size))))
back_member_named Stray ks x = absurd x

back_member_done : (k : PartKind) (ks : List PartKind) → Left (after MemberDone k) ks → Left MemberDone (unless_gap k ks)
unfolding after unless_gap Room
back_member_done Blank ks x = x
back_member_done Comment ks x = x
back_member_done Comma ks x = λ ms a. rw (append_assoc ms (Comma ∷ []) ks) at (x (ms ++ (Comma ∷ [])) (λ m b. rw (append_assoc ms (Comma ∷ []) m) (Mailboxes.then a b)))
back_member_done Colon ks x = absurd x
back_member_done Semicolon ks x = λ ms a. rw (append_assoc ms (Semicolon ∷ []) ks) at (x _ (Item.group a))
back_member_done Phrase ks x = absurd x
back_member_done Address ks x = absurd x
back_member_done (Angled start size) ks x = absurd x
back_member_done (Alternative start size) ks x = absurd x
back_member_done Stray ks x = absurd x

back : (state : State) (k : PartKind) (ks : List PartKind) → Left (after state k) ks → Left state (unless_gap k ks)
unfolding after
back ItemDue k ks x = back_item k ks x
back ItemNamed k ks x = back_named k ks x
back ItemDone k ks x = back_done k ks x
back GroupOpen k ks x = back_open k ks x
back MemberDue k ks x = back_member k ks x
back MemberNamed k ks x = back_member_named k ks x
back MemberDone k ks x = back_member_done k ks x
back Unfit k ks x = absurd x

ended : (state : State) → is_done state ≡ true → Left state []
ended ItemDone h = λ i e. rw append-nil (Items.one e)
ended ItemDue h = false_true h
ended ItemNamed h = false_true h
ended GroupOpen h = false_true h
ended MemberDue h = λ p r. false_true h
ended MemberNamed h = λ p r. false_true h
ended MemberDone h = λ ms a. false_true h
ended Unfit h = false_true h

made : (state : State) (ps : List Part) → complete state ps ≡ true → Left state (kinds_of ps)
unfolding complete kinds_of
made state [] h = ended state h
made state (p ∷ ps) h = back state p.kind (kinds_of ps) (made (after state p.kind) ps h)

-- a text that fits is a comma list of mailboxes or groups
pub fits_made : (rules : Rules) (text : List ℕ) → fits rules text ≡ true → Items (kinds_of (parts_of rules text))
unfolding fits
fits_made rules text h = made ItemDue (parts_of rules text) h

-- ---- what the grammar makes, the table takes

-- from a state on, the kinds lead to where a text may end
leads : State → List PartKind → Bool
leads state [] = is_done state
leads state (k ∷ ks) = leads (after state k) ks

gap_stays : (state : State) → (after state Blank ≡ state) × (after state Comment ≡ state)
unfolding after
gap_stays ItemDue = (refl, refl)
gap_stays ItemNamed = (refl, refl)
gap_stays ItemDone = (refl, refl)
gap_stays GroupOpen = (refl, refl)
gap_stays MemberDue = (refl, refl)
gap_stays MemberNamed = (refl, refl)
gap_stays MemberDone = (refl, refl)
gap_stays Unfit = (refl, refl)

leads_unless_gap : (state : State) (k : PartKind) (ks : List PartKind) → leads (after state k) ks ≡ leads state (unless_gap k ks)
unfolding leads unless_gap
leads_unless_gap state Blank ks = rw (gap_stays state).0
leads_unless_gap state Comment ks = rw (gap_stays state).1
leads_unless_gap state Comma ks = refl
leads_unless_gap state Colon ks = refl
leads_unless_gap state Semicolon ks = refl
leads_unless_gap state Phrase ks = refl
leads_unless_gap state Address ks = refl
leads_unless_gap state (Angled start size) ks = refl
leads_unless_gap state (Alternative start size) ks = refl
leads_unless_gap state Stray ks = refl

complete_leads : (state : State) (ps : List Part) → complete state ps ≡ leads state (kinds_of ps)
unfolding complete leads kinds_of
complete_leads state [] = refl
complete_leads state (p ∷ ps) = complete_leads (after state p.kind) ps ∙ leads_unless_gap state p.kind (kinds_of ps)

mailbox_item : {m : List PartKind} → Mailbox m → (r : List PartKind) → leads ItemDue (m ++ r) ≡ leads ItemDone r
unfolding leads after
mailbox_item Mailbox.bare r = refl
mailbox_item (Mailbox.angled (InAngles.address start size)) r = refl
mailbox_item (Mailbox.angled (InAngles.alternative start size)) r = refl
mailbox_item (Mailbox.named (InAngles.address start size)) r = refl
mailbox_item (Mailbox.named (InAngles.alternative start size)) r = refl

mailbox_open : {m : List PartKind} → Mailbox m → (r : List PartKind) → leads GroupOpen (m ++ r) ≡ leads MemberDone r
unfolding leads after
mailbox_open Mailbox.bare r = refl
mailbox_open (Mailbox.angled (InAngles.address start size)) r = refl
mailbox_open (Mailbox.angled (InAngles.alternative start size)) r = refl
mailbox_open (Mailbox.named (InAngles.address start size)) r = refl
mailbox_open (Mailbox.named (InAngles.alternative start size)) r = refl

mailbox_member : {m : List PartKind} → Mailbox m → (r : List PartKind) → leads MemberDue (m ++ r) ≡ leads MemberDone r
unfolding leads after
mailbox_member Mailbox.bare r = refl
mailbox_member (Mailbox.angled (InAngles.address start size)) r = refl
mailbox_member (Mailbox.angled (InAngles.alternative start size)) r = refl
mailbox_member (Mailbox.named (InAngles.address start size)) r = refl
mailbox_member (Mailbox.named (InAngles.alternative start size)) r = refl

mailboxes_open : {ms : List PartKind} → Mailboxes ms → (r : List PartKind) → leads GroupOpen (ms ++ r) ≡ leads MemberDone r
unfolding leads after
mailboxes_open (Mailboxes.one a) r = mailbox_open a r
mailboxes_open (Mailboxes.then {ms} {m} a b) r = rw (append_assoc ms (Comma ∷ m) r) (mailboxes_open a (Comma ∷ (m ++ r)) ∙ mailbox_member b r)

item_due : {i : List PartKind} → Item i → (r : List PartKind) → leads ItemDue (i ++ r) ≡ leads ItemDone r
unfolding leads after
item_due (Item.mailbox a) r = mailbox_item a r
item_due Item.empty_group r = refl
item_due (Item.group {ms} a) r = rw (append_assoc ms (Semicolon ∷ []) r) (mailboxes_open a (Semicolon ∷ r))

items_lead : {ks : List PartKind} → Items ks → leads ItemDue ks ≡ true
unfolding leads after
items_lead (Items.one {i} a) = ap (leads ItemDue) (sym (append-nil i)) ∙ item_due a []
items_lead (Items.then {i} {is} a b) = item_due a (Comma ∷ is) ∙ items_lead b

pub made_complete : (ps : List Part) → Items (kinds_of ps) → complete ItemDue ps ≡ true
made_complete ps e = complete_leads ItemDue ps ∙ items_lead e

-- a comma list of mailboxes or groups fits
pub made_fits : (rules : Rules) (text : List ℕ) → Items (kinds_of (parts_of rules text)) → fits rules text ≡ true
unfolding fits
made_fits rules text e = made_complete (parts_of rules text) e

-- ---- "runs of spaces and TABs allowed around `, : ; <`"

-- such a mark, or `< >`, which starts with one
abbrev pub is_mark : PartKind → Bool
is_mark Comma = true
is_mark Colon = true
is_mark Semicolon = true
is_mark Blank = false
is_mark Comment = false
is_mark Phrase = false
is_mark Address = false
is_mark (Angled start size) = false
is_mark (Alternative start size) = false
is_mark Stray = false

abbrev pub opens_with_mark : PartKind → Bool
opens_with_mark (Angled start size) = true
opens_with_mark (Alternative start size) = true
opens_with_mark Comma = true
opens_with_mark Colon = true
opens_with_mark Semicolon = true
opens_with_mark Blank = false
opens_with_mark Comment = false
opens_with_mark Phrase = false
opens_with_mark Address = false
opens_with_mark Stray = false

-- a mark stands between any two parts: blanks between them stand around it
abbrev pub mark_between : List PartKind → Bool
mark_between [] = true
mark_between (k ∷ []) = true
mark_between (k ∷ l ∷ ks) = (is_mark k || opens_with_mark l) && mark_between (l ∷ ks)

mark_first : (k : PartKind) (ks : List PartKind) → T (is_mark k) → T (mark_between ks) → T (mark_between (k ∷ ks))
mark_first k [] m h = tt
mark_first k (l ∷ ks) m h = yes_and (is_mark k || opens_with_mark l) (mark_between (l ∷ ks)) (or_left (is_mark k) m) h
  where
    or_left : (a : Bool) → T a → T (a || opens_with_mark l)
    or_left true t = tt
    or_left false t = absurd t

mark_joins : (ks : List PartKind) (k : PartKind) (ls : List PartKind) → T (is_mark k) → T (opens_with_mark k) → T (mark_between ks) → T (mark_between ls) → T (mark_between (ks ++ (k ∷ ls)))
mark_joins [] k ls m o h g = mark_first k ls m g
mark_joins (a ∷ []) k ls m o h g = yes_and (is_mark a || opens_with_mark k) (mark_between (k ∷ ls)) (or_right (is_mark a) (opens_with_mark k) o) (mark_first k ls m g)
  where
    or_right : (a b : Bool) → T b → T (a || b)
    or_right true b t = tt
    or_right false b t = t
mark_joins (a ∷ b ∷ ks) k ls m o h g =
    let both = and_yes (is_mark a || opens_with_mark b) (mark_between (b ∷ ks)) h in
    yes_and (is_mark a || opens_with_mark b) (mark_between (b ∷ (ks ++ (k ∷ ls)))) both.0 (mark_joins (b ∷ ks) k ls m o both.1 g)

mailbox_marked : {m : List PartKind} → Mailbox m → T (mark_between m)
mailbox_marked Mailbox.bare = tt
mailbox_marked (Mailbox.angled a) = tt
mailbox_marked (Mailbox.named (InAngles.address start size)) = tt
mailbox_marked (Mailbox.named (InAngles.alternative start size)) = tt

mailboxes_marked : {ms : List PartKind} → Mailboxes ms → T (mark_between ms)
mailboxes_marked (Mailboxes.one a) = mailbox_marked a
mailboxes_marked (Mailboxes.then {ms} {m} a b) = mark_joins ms Comma m tt tt (mailboxes_marked a) (mailbox_marked b)

item_marked : {i : List PartKind} → Item i → T (mark_between i)
item_marked (Item.mailbox a) = mailbox_marked a
item_marked Item.empty_group = tt
item_marked (Item.group {ms} a) = mark_first Colon (ms ++ (Semicolon ∷ [])) tt (mark_joins ms Semicolon [] tt tt (mailboxes_marked a) tt)

pub items_marked : {ks : List PartKind} → Items ks → T (mark_between ks)
items_marked (Items.one a) = item_marked a
items_marked (Items.then {i} {is} a b) = mark_joins i Comma is tt tt (item_marked a) (items_marked b)

-- ---- what is told of a text

module _ (rules : Rules) (text : List ℕ) where
  pub examined_is : examined rules text ≡ cond (fits rules text) (cond (any_changes (parts_of rules text)) Changed Kept) DoesNotFit
  unfolding examined examined_from fits
  examined_is = refl

  pub examined_unfit : fits rules text ≡ false → examined rules text ≡ DoesNotFit
  examined_unfit f = rw (examined_is, f)

  pub examined_changed : fits rules text ≡ true → any_changes (parts_of rules text) ≡ true → examined rules text ≡ Changed
  examined_changed f c = rw (examined_is, f, c)

  pub examined_kept : fits rules text ≡ true → any_changes (parts_of rules text) ≡ false → examined rules text ≡ Kept
  examined_kept f c = rw (examined_is, f, c)

  pub unfit_examined : examined rules text ≡ DoesNotFit → fits rules text ≡ false
  unfit_examined h = go (fits rules text) (any_changes (parts_of rules text)) (sym examined_is ∙ h)
    where
      go : (f c : Bool) → cond f (cond c Changed Kept) DoesNotFit ≡ DoesNotFit → f ≡ false
      go false c h = refl
      go true true h = absurd (let z : ◌≡◌ {A = ℕ} 0 1 = cc in omega arith)
      go true false h = absurd (let z : ◌≡◌ {A = ℕ} 0 1 = cc in omega arith)

  pub changed_examined : examined rules text ≡ Changed → (fits rules text ≡ true) × (any_changes (parts_of rules text) ≡ true)
  changed_examined h = go (fits rules text) (any_changes (parts_of rules text)) (sym examined_is ∙ h)
    where
      go : (f c : Bool) → cond f (cond c Changed Kept) DoesNotFit ≡ Changed → (f ≡ true) × (c ≡ true)
      go true true h = (refl, refl)
      go true false h = absurd (let z : ◌≡◌ {A = ℕ} 0 1 = cc in omega arith)
      go false c h = absurd (let z : ◌≡◌ {A = ℕ} 0 1 = cc in omega arith)

  pub kept_examined : examined rules text ≡ Kept → (fits rules text ≡ true) × (any_changes (parts_of rules text) ≡ false)
  kept_examined h = go (fits rules text) (any_changes (parts_of rules text)) (sym examined_is ∙ h)
    where
      go : (f c : Bool) → cond f (cond c Changed Kept) DoesNotFit ≡ Kept → (f ≡ true) × (c ≡ false)
      go true false h = (refl, refl)
      go true true h = absurd (let z : ◌≡◌ {A = ℕ} 0 1 = cc in omega arith)
      go false c h = absurd (let z : ◌≡◌ {A = ℕ} 0 1 = cc in omega arith)
