-- Laws of the rules that a setting asks for.
use Rattle.std.specs.Prelude.{◌≡◌, refl, ℕ, zero, suc}
use Rattle.rules.specs.declared.Rules.TheVariants.{Spool, Current}
use Rattle.rules.specs.Rules.{setting_rules}

pub setting_spool : (n : ℕ) → n ≡ 0 → Spool ≡ setting_rules n
unfolding setting_rules
setting_spool n e = rw e

-- "current (any other)"
pub setting_current : (n : ℕ) → (n ≡ 0 → ⊥) → Current ≡ setting_rules n
unfolding setting_rules
setting_current zero h = absurd (h refl)
setting_current (suc n) h = refl
