use Rattle.std.proofs.Common.{◌*◌, ◌≤◌, length}
use Rattle.text.specs.Written.{on_page}
use Rattle.book.proofs.rows.term_lines.Given as goal

abbrev pub invariant-loop-term : goal.invariant-loop-term
invariant-loop-term g l = length (on_page l.page) ≤ 34 * l.term-index
