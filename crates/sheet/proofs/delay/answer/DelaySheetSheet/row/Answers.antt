use Rattle.std.proofs.Common.{ap, sym, ◌∙◌, arith}
use Rattle.sheet.specs.Parts.{part_unknowns}
use Rattle.sheet.proofs.RowLaws.{written_fits}
use Rattle.sheet.proofs.delay.answer.DelaySheetSheet.row.Goals as goal

pub returns-then-row-self-clause-wrote : goal.returns-then-row-self-clause-wrote
returns-then-row-self-clause-wrote c e =
    let same = ap (part_unknowns c.args.self.now.part.chain.now) c.args.self.now.whole in
    written_fits _ _ _ _ _ (omega arith) c.row.ensures (sym c.is_some.ensures ∙ e)
