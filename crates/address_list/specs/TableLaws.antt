-- A turn of the walk over the parts that decides whether a text fits.
use Rattle.std.specs.Prelude.{◌≡◌, refl, Bool, true, false, cond, ◌||◌, List, [], ◌∷◌, ℕ, ◌+◌, ◌-◌, ◌≤◌, ◌<◌, T, length, take, drop}
use Rattle.std.proofs.Math.Path.{sym}
use Rattle.std.proofs.Common.{◌∙◌, arith}
use Rattle.std.proofs.Math.Bool.{or-false, or_assoc}
use Rattle.lists.specs.ListsLaws.{true_yes}
use Rattle.rules.specs.declared.Rules.{Rules}
use Rattle.address_list.specs.Parts.{TookFrom, Part, parts_from, parts_of, changes, any_changes}
use Rattle.address_list.specs.PartsLaws.{part_in, parts_step, parts_end}
use Rattle.address_list.specs.Table.{after, is_done, is_unfit, complete, examined_from, examined}
use Rattle.address_list.specs.declared.Front.{Front}
use Rattle.address_list.specs.declared.PartKind.TheVariants.{Stray}
use Rattle.address_list.specs.declared.State.{State}
use Rattle.address_list.specs.declared.State.TheVariants.{ItemDue, ItemNamed, ItemDone, GroupOpen, MemberDue, MemberNamed, MemberDone, Unfit}
use Rattle.address_list.specs.declared.Examined.{Examined}
use Rattle.address_list.specs.declared.Examined.TheVariants.{DoesNotFit, Kept, Changed}

-- where the walk stands: what is left decides as the whole text does
pub record Walked (rules : Rules) (s : List ℕ) (i : ℕ) (state : State) (changed : Bool) : Type 0 where
  pub inside : i ≤ length s
  pub same : examined rules s ≡ examined_from state changed (parts_from rules 0 (drop i s))

pub walked_start : (rules : Rules) (s : List ℕ) → Walked rules s 0 ItemDue false
unfolding examined parts_of
walked_start rules s = record { inside = omega arith; same = refl }

examined_step : (state : State) (changed : Bool) (p : Part) (ps : List Part)
    → examined_from state changed (p ∷ ps) ≡ examined_from (after state p.kind) (changed || changes p.kind p.text) ps
unfolding examined_from complete any_changes
examined_step state changed p ps = rw (or_assoc changed (changes p.kind p.text) (any_changes ps))

pub complete_unfit : (ps : List Part) → complete Unfit ps ≡ false
unfolding complete after
complete_unfit [] = refl
complete_unfit (p ∷ ps) = complete_unfit ps

-- a stray byte fits nowhere
pub after_stray : (state : State) → after state Stray ≡ Unfit
unfolding after
after_stray ItemDue = refl
after_stray ItemNamed = refl
after_stray ItemDone = refl
after_stray GroupOpen = refl
after_stray MemberDue = refl
after_stray MemberNamed = refl
after_stray MemberDone = refl
after_stray Unfit = refl

unfit_state : (state : State) → T (is_unfit state) → state ≡ Unfit
unfit_state Unfit h = refl
unfit_state ItemDue h = absurd h
unfit_state ItemNamed h = absurd h
unfit_state ItemDone h = absurd h
unfit_state GroupOpen h = absurd h
unfit_state MemberDue h = absurd h
unfit_state MemberNamed h = absurd h
unfit_state MemberDone h = absurd h

module _ {rules : Rules} {s : List ℕ} {i : ℕ} {state : State} {changed : Bool} (g : Walked rules s i state changed) where
  module _ {f : Front} (h : i < length s) (w : TookFrom rules s i f) where
    walked_part : examined rules s ≡ examined_from (after state f.kind) (changed || changes f.kind (take f.size (drop i s))) (parts_from rules 0 (drop (i + f.size) s))
    walked_part = g.same ∙ rw (parts_step rules s i f h w) (examined_step state changed (part_in f (drop i s)) (parts_from rules 0 (drop (i + f.size) s)))

    pub walked_unfit : {p : State} → p ≡ after state f.kind → is_unfit p ≡ true → DoesNotFit ≡ examined rules s
    unfolding examined_from
    walked_unfit {p} q u =
        let unfit : after state f.kind ≡ Unfit = sym q ∙ unfit_state p (true_yes (is_unfit p) u) in
        sym (walked_part ∙ rw (unfit, complete_unfit (parts_from rules 0 (drop (i + f.size) s))))

    pub walked_next : {p : State} {e : ℕ} {c : Bool} → p ≡ after state f.kind → e ≡ i + f.size → c ≡ (changed || changes f.kind (take (e - i) (drop i s))) → Walked rules s e p c
    walked_next {p} {e} {c} q k x =
        let size : e - i ≡ f.size = omega arith in
        record { inside = omega (arith, w.within h); same = rw (q, x, size, k) walked_part }

  pub walked_end : {r : Examined} → length s ≤ i → r ≡ cond (is_done state) (cond changed Changed Kept) DoesNotFit → r ≡ examined rules s
  unfolding examined_from complete any_changes
  walked_end {r} h q = q ∙ sym (g.same ∙ rw (parts_end rules s i h, or-false changed))
