-- What may follow what in an address field, as a table that code walks part by part. GrammarLaws.antt in address_grammar
-- proves that it takes exactly what Grammar.antt makes.
use Rattle.std.specs.Prelude.{Bool, true, false, cond, ◌||◌, List, [], ◌∷◌, ℕ}
use Rattle.rules.specs.declared.Rules.{Rules}
use Rattle.address_list.specs.Parts.{Part, parts_of, any_changes}
use Rattle.address_list.specs.declared.PartKind.{PartKind}
use Rattle.address_list.specs.declared.PartKind.TheVariants.{Blank, Comment, Comma, Colon, Semicolon, Phrase, Address, Angled, Alternative, Stray}
use Rattle.address_list.specs.declared.State.{State}
use Rattle.address_list.specs.declared.State.TheVariants.{ItemDue, ItemNamed, ItemDone, GroupOpen, MemberDue, MemberNamed, MemberDone, Unfit}
use Rattle.address_list.specs.declared.Examined.{Examined}
use Rattle.address_list.specs.declared.Examined.TheVariants.{DoesNotFit, Kept, Changed}

-- a row of the table: where a phrase, a bare address, `< >`, a comma, a colon and a semicolon lead from `here`; a blank or a
-- comment stays
abbrev pub lead : PartKind → State → State → State → State → State → State → State → State
lead Blank here phrase address angled comma colon semicolon = here
lead Comment here phrase address angled comma colon semicolon = here
lead Phrase here phrase address angled comma colon semicolon = phrase
lead Address here phrase address angled comma colon semicolon = address
lead (Angled start size) here phrase address angled comma colon semicolon = angled
lead (Alternative start size) here phrase address angled comma colon semicolon = angled
lead Comma here phrase address angled comma colon semicolon = comma
lead Colon here phrase address angled comma colon semicolon = colon
lead Semicolon here phrase address angled comma colon semicolon = semicolon
lead Stray here phrase address angled comma colon semicolon = Unfit

-- here                phrase       address     < >         ,          :          ;
unfoldable pub after : State → PartKind → State
after ItemDue k = lead k ItemDue ItemNamed ItemDone ItemDone Unfit Unfit Unfit
after ItemNamed k = lead k ItemNamed Unfit Unfit ItemDone Unfit GroupOpen Unfit
after ItemDone k = lead k ItemDone Unfit Unfit Unfit ItemDue Unfit Unfit
after GroupOpen k = lead k GroupOpen MemberNamed MemberDone MemberDone Unfit Unfit ItemDone
after MemberDue k = lead k MemberDue MemberNamed MemberDone MemberDone Unfit Unfit Unfit
after MemberNamed k = lead k MemberNamed Unfit Unfit MemberDone Unfit Unfit Unfit
after MemberDone k = lead k MemberDone Unfit Unfit Unfit MemberDue Unfit ItemDone
after Unfit k = Unfit

-- a text may end here
abbrev pub is_done : State → Bool
is_done ItemDue = false
is_done ItemNamed = false
is_done ItemDone = true
is_done GroupOpen = false
is_done MemberDue = false
is_done MemberNamed = false
is_done MemberDone = false
is_done Unfit = false

-- nothing leads from here to where a text may end
abbrev pub is_unfit : State → Bool
is_unfit ItemDue = false
is_unfit ItemNamed = false
is_unfit ItemDone = false
is_unfit GroupOpen = false
is_unfit MemberDue = false
is_unfit MemberNamed = false
is_unfit MemberDone = false
is_unfit Unfit = true

-- from a state on, the parts lead to where a text may end
unfoldable pub complete : State → List Part → Bool
complete state [] = is_done state
complete state (p ∷ ps) = complete (after state p.kind) ps

-- the text of an address field fits
unfoldable pub fits : Rules → List ℕ → Bool
fits rules text = complete ItemDue (parts_of rules text)

-- what is told of a text from a state on: whether it fits, and then whether any address is replaced or removed
unfoldable pub examined_from : State → Bool → List Part → Examined
examined_from state changed ps =
    cond (complete state ps) (cond (changed || any_changes ps) Changed Kept) DoesNotFit

unfoldable pub examined : Rules → List ℕ → Examined
examined rules text = examined_from ItemDue false (parts_of rules text)
