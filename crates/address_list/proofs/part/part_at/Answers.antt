use mathlib.Core.Path.{refl, sym, ◌∙◌}
use native.Mathlib.Omega.{arith}
use Rattle.address_list.specs.declared.PartKind.TheVariants.{Blank, Comma, Colon, Semicolon}
use Rattle.address_list.specs.PartsLaws.{took_mark, took_as, part_blank, part_comma, part_colon, part_semicolon, part_angled, part_comment, part_named}
use Rattle.address_list.proofs.part.part_at.Goals as goal

pub returns-then-is_blank : goal.returns-then-is_blank
returns-then-is_blank c = took_mark Blank refl c.mark.ensures (part_blank _ c.args.t.now (sym c.is_blank.ensures ∙ c.if-is_blank.true)) c.requires

pub returns-in-44 : goal.returns-in-44
returns-in-44 c = took_mark Comma refl c.mark-in-44.ensures (part_comma _ c.args.t.now (sym c.is_blank.ensures ∙ c.if-is_blank.false) c.in-44.is) c.requires

pub returns-in-58 : goal.returns-in-58
returns-in-58 c = took_mark Colon refl c.mark-in-58.ensures (part_colon _ c.args.t.now (sym c.is_blank.ensures ∙ c.if-is_blank.false) (λ z. omega (arith, c.in-58.is)) c.in-58.is) c.requires

pub returns-in-59 : goal.returns-in-59
returns-in-59 c = took_mark Semicolon refl c.mark-in-59.ensures (part_semicolon _ c.args.t.now (sym c.is_blank.ensures ∙ c.if-is_blank.false) (λ z. omega (arith, c.in-59.is)) (λ z. omega (arith, c.in-59.is)) c.in-59.is) c.requires

pub returns-in-60 : goal.returns-in-60
returns-in-60 c = took_as c.angled.ensures (part_angled _ c.args.t.now (sym c.is_blank.ensures ∙ c.if-is_blank.false) (λ z. omega (arith, c.in-60.is)) (λ z. omega (arith, c.in-60.is)) (λ z. omega (arith, c.in-60.is)) c.in-60.is)

pub returns-in-40 : goal.returns-in-40
returns-in-40 c = took_as c.commented.ensures (part_comment _ c.args.t.now (sym c.is_blank.ensures ∙ c.if-is_blank.false) (λ z. omega (arith, c.in-40.is)) (λ z. omega (arith, c.in-40.is)) (λ z. omega (arith, c.in-40.is)) (λ z. omega (arith, c.in-40.is)) c.in-40.is)

pub returns-in_default : goal.returns-in_default
returns-in_default c = took_as c.named.ensures (part_named _ c.args.t.now (sym c.is_blank.ensures ∙ c.if-is_blank.false) (λ z. omega arith) (λ z. omega arith) (λ z. omega arith) (λ z. omega arith) (λ z. omega arith))
