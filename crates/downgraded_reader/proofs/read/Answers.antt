use mathlib.Core.Path.{refl}
use native.Mathlib.Omega.{arith}
use Rattle.header.specs.FieldLaws.{field_after}
use Rattle.downgraded_reader.specs.ReaderLaws.{read_past, read_none, read_found}
use borrow.Author.Rules.{rules}
use Rattle.downgraded_reader.proofs.read.Goals as goal

pub returns-then-header-place : goal.returns-then-header-place
returns-then-header-place c = read_past _ _ _ c.if-header-place.true

pub returns-then-header-start : goal.returns-then-header-start
returns-then-header-start c = read_none _ _ _ c.field_start-start.ensures c.if-header-start.true

pub slice_bounds-read_text-count : goal.slice_bounds-read_text-count
slice_bounds-read_text-count c = let f = field_after c.args.header.now c.field_start-start.result c.field_end-next.result c.if-header-start.false c.field_end-next.ensures in omega (arith, f.0, f.1)

pub slice_bounds-read_text-start : goal.slice_bounds-read_text-start
slice_bounds-read_text-start c = let f = field_after c.args.header.now c.field_start-start.result c.field_end-next.result c.if-header-start.false c.field_end-next.ensures in omega (arith, f.0, f.1)

pub slice_bounds-read_text-end : goal.slice_bounds-read_text-end
slice_bounds-read_text-end c = let f = field_after c.args.header.now c.field_start-start.result c.field_end-next.result c.if-header-start.false c.field_end-next.ensures in omega (arith, f.0, f.1)

pub returns : goal.returns
returns c = read_found _ _ _ c.field_start-start.ensures c.if-header-start.false c.field_end-next.ensures refl c.read_text-text.ensures
